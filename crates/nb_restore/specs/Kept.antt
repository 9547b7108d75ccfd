-- Chains of backups whose records are kept, what they give, and the files that are such a chain.
use Rattle.std.specs.Prelude.{◌≡◌, ℕ, ◌+◌, List, [], ◌∷◌, Some, Ok, true, false}
use Rattle.std.specs.List.{AllByRecursion}
use Rattle.nb_fields.specs.Header.{is_header, state_of, guid_of}
use Rattle.nb_fields.specs.States.{stalled_state}
use Rattle.nb_host.specs.Files.{Files}
use Rattle.nb_host.specs.Names.{is_delta}
use Rattle.nb_model.specs.Account.{Kept}
use Rattle.nb_model.specs.Image.{image_size}
use Rattle.nb_model.specs.Levels.{Contents, read_level}
use Rattle.nb_model.specs.Line.{last_in}
use Rattle.nb_model.specs.Restoring.{Link, is_bad_length, verdict, applied}
use Rattle.nb_model.specs.Stands.{IsKeptAs}

-- each file of a chain has the GUID of a record
abbrev pub AreKept : List Kept → List Link → Type 0
AreKept kept links = AllByRecursion (λ (link : Link). (r : Kept) × IsKeptAs kept link.guid r) links

-- the GUID of the last file of a chain
abbrev pub last_guid : List Link → List ℕ
last_guid [] = []
last_guid (l ∷ []) = l.guid
last_guid (l ∷ m ∷ ls) = last_guid (m ∷ ls)

-- the chain gives the image that the begin of its last backup kept
pub record GivesKept (kept : List Kept) (links : List Link) : Type 0 where
  pub backup : Kept
  pub kept_as : IsKeptAs kept (last_guid links) backup
  pub image : applied links ≡ backup.image

-- a link tells of that record
pub record IsLinkOf (l : Link) (r : Kept) : Type 0 where
  pub guid : l.guid ≡ r.guid
  pub scn : l.scn ≡ r.scn
  pub size : l.size ≡ image_size r.image

abbrev pub AreLinksOf : List Link → List Kept → Type 0
AreLinksOf [] [] = Unit {0}
AreLinksOf [] (r ∷ rs) = ⊥
AreLinksOf (l ∷ ls) [] = ⊥
AreLinksOf (l ∷ ls) (r ∷ rs) = IsLinkOf l r × AreLinksOf ls rs

-- The file of that name is a copy of the pages of a kept backup: whole pages of a stalled database, with the GUID of the record.
pub record HoldsCopy (files : Files) (kept : List Kept) (name : List ℕ) (r : Kept) : Type 0 where
  pub bytes : List ℕ
  pub there : files name ≡ Some bytes
  pub header : is_header bytes ≡ true
  pub stalled : state_of bytes ≡ stalled_state
  pub whole : is_bad_length bytes ≡ false
  pub kept_as : IsKeptAs kept (guid_of bytes) r

-- The file of that name is a level file of a kept backup in place k, which names the backup q as the one before it.
pub record HoldsLevel (files : Files) (kept : List Kept) (k : ℕ) (q : Kept) (name : List ℕ) (r : Kept) : Type 0 where
  pub bytes : List ℕ
  pub there : files name ≡ Some bytes
  pub contents : Contents
  pub read : read_level bytes ≡ Ok contents
  pub kept_as : IsKeptAs kept contents.head.guid r
  pub level : contents.head.level ≡ k
  pub previous : contents.head.previous ≡ q.guid

-- the files of these names are so, in places k and on after q
abbrev pub HoldLevels : (files : Files) (kept : List Kept) (k : ℕ) (q : Kept) (names : List (List ℕ)) → List Kept → Type 0
HoldLevels files kept k q [] [] = Unit {0}
HoldLevels files kept k q [] (r ∷ rs) = ⊥
HoldLevels files kept k q (name ∷ names) [] = ⊥
HoldLevels files kept k q (name ∷ names) (r ∷ rs) = HoldsLevel files kept k q name r × HoldLevels files kept (k + 1) r names rs

-- The files of these names are those of a chain of kept backups: a copy of the first, and a level of each of the next. No name is that of a
-- difference file.
pub record HoldChain (files : Files) (kept : List Kept) (name : List ℕ) (names : List (List ℕ)) (r : Kept) (rs : List Kept) : Type 0 where
  pub plain : AllByRecursion (λ (n : List ℕ). is_delta n ≡ false) (name ∷ names)
  pub first : HoldsCopy files kept name r
  pub next : HoldLevels files kept 1 r names rs

-- the files of these names are a chain, with a link of each of these backups, and give the image of the last
pub record GiveLast (files : Files) (names : List (List ℕ)) (r : Kept) (rs : List Kept) : Type 0 where
  pub links : List Link
  pub accepted : verdict files names ≡ Ok links
  pub are : AreLinksOf links (r ∷ rs)
  pub image : applied links ≡ (last_in r rs).image
