-- The files of certain names, and the records of their backups, taken alone: whatever stands under other names, as a damaged database or a foreign chain,
-- plays no part.
use Rattle.std.specs.Prelude.{◌≡◌, ◌≢◌, ◌⊎◌, ℕ, List, [], ◌∷◌, Bool, take, true, false, None, Some, Contains}
use Rattle.std.specs.List.{list_any}
use Rattle.nb_fields.specs.Free.{is_free_file}
use Rattle.nb_host.specs.Files.{File, Files}
use Rattle.nb_host.specs.Names.{is_delta, same_name}
use Rattle.nb_host.specs.World.{World}
use Rattle.nb_host.specs.Crash.{Leaves, LeavesAll}
use Rattle.nb_host.specs.Moments.{AtEachMoment}
use Rattle.nb_model.specs.Account.{Ask, Kept, Missing, Account}
use Rattle.nb_model.specs.Owner.{delta_name}
use Rattle.nb_model.specs.Run.{Event}
use Rattle.nb_model.specs.Sound.{IsSoundImage}
use Rattle.nb_model.specs.Stands.{GoesOnFrom, HoldsItsRecord, IsBegun, NamesItsPast, Stands, nil}
use Rattle.nb_model.specs.Steps.{steps_of}
use Rattle.nb_model.specs.Strokes.{fixed}
use Rattle.nb_ended.specs.declared.status.Status.{Status}
use Rattle.nb_ended.specs.declared.status.Status.TheVariants.{Device, Memory}
use Rattle.nb_top.specs.OneTurn.{ShowsKept}
use Rattle.nb_top.specs.Performed.{RunLeft, Target, kept_after}
use Rattle.nb_top.specs.Standing.{HoldsKept}

-- one of these names
abbrev pub is_among : (names : List (List ℕ)) → List ℕ → Bool
is_among names m = list_any (same_name m) names

-- the files of these names, as if there were no other
abbrev pub among : (names : List (List ℕ)) → Files → Files
among names files m = elim (is_among names m) [ true ↦ files m | false ↦ None ]

-- Records follow on records: GUIDs tell them apart and none is nil, each image is sound and as its begin left it, and it goes on from the backups that it
-- names.
pub record FollowOn (kept : List Kept) : Type 0 where
  pub distinct : (r q : Kept) → Contains kept r → Contains kept q → r.guid ≡ q.guid → r ≡ q
  pub not_nil : (r : Kept) → Contains kept r → r.guid ≢ nil
  pub sound : (r : Kept) → Contains kept r → IsSoundImage r.image
  pub begun : (r : Kept) → Contains kept r → IsBegun r
  pub past : (r : Kept) → Contains kept r → NamesItsPast kept r.image
  pub goes_on : (r : Kept) (ask : Ask) → Contains kept r → r.ask ≡ Some ask → ask.previous ≢ nil → GoesOnFrom kept r ask

-- these names, each with that of its difference file
abbrev pub with_deltas : List (List ℕ) → List (List ℕ)
with_deltas [] = []
with_deltas (name ∷ names) = name ∷ (delta_name name ∷ with_deltas names)

-- the abstract state without what stands under other names
abbrev pub only_of : (names : List (List ℕ)) → Account → Account
only_of names account = record { entry = λ name. elim (is_among names name) [ true ↦ account.entry name | false ↦ Missing None ]; kept = account.kept }

-- The files of these names, taken alone, stand for the abstract state; so does whatever a crash leaves of them, with the same records; and of a difference
-- file among them that isn't there beside a free name a crash brings none back.
pub record StandAlone (names : List (List ℕ)) (w : World) (account : Account) : Type 0 where
  pub now : Stands (among names w.files) account
  pub left : (files : Files) → LeavesAll w files → HoldsKept (among names files) account.kept
  pub free : (name : List ℕ) → is_delta name ≡ false → is_free_file (among names w.files name) ≡ true → among names w.files (delta_name name) ≡ None → is_among names (delta_name name) ≡ true → (d : File) → Leaves w (delta_name name) d → d ≡ None

-- a database and its difference file are both among the names, or neither is
abbrev pub AreClosed : (names : List (List ℕ)) → Type 0
AreClosed names = (name : List ℕ) → is_delta name ≡ false → is_among names (delta_name name) ≡ is_among names name

-- each file of these names holds the record that it names
abbrev pub HoldTheirs : List Kept → (names : List (List ℕ)) → Files → Type 0
HoldTheirs kept names files = (name bytes : List ℕ) → Contains names name → files name ≡ Some bytes → HoldsItsRecord kept bytes

-- A run has restored that backup under this name: at each moment a crash leaves the name as it was, or free, or with the image that the begin of the backup
-- kept, in the normal state; and so it is for good, where the run came to its end.
pub record RestoresKept (status : Status) (old new : World) (kept : List Kept) (guid name : List ℕ) : Type 0 where
  pub moments : AtEachMoment old new (λ files said. (Leaves old name (files name) ⊎ (is_free_file (files name) ≡ true)) ⊎ ShowsKept kept guid fixed name files)
  pub reads : status ≢ Device → status ≢ Memory → ShowsKept kept guid fixed name new.files
  pub left : status ≢ Device → status ≢ Memory → (files : Files) → LeavesAll new files → ShowsKept kept guid fixed name files

-- A run goes on, and the next one may begin: at each moment what a crash leaves of the files of these names stands, alone, with the records of the backups that
-- have begun after as many steps; and so do they after the run, however it ended, with those of all its backups.
pub record GoOnAlone (names : List (List ℕ)) (old new : World) (account : Account) (target : Target) (events : List Event) : Type 0 where
  pub moments : (files : Files) (said : List ℕ) (l : RunLeft old account (Some target) events files said) → HoldsKept (among names files) (kept_after account (Some target) (take l.count (steps_of events)))
  pub later : Account
  pub stands : StandAlone names new later
  pub kept : later.kept ≡ kept_after account (Some target) (steps_of events)
