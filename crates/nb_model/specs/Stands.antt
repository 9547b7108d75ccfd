-- The files stand for an account.
use Rattle.std.specs.Prelude.{◌≡◌, ◌≢◌, ◌⊎◌, ℕ, ◌+◌, ◌*◌, ◌<◌, ◌≤◌, ◌%◌, ◌&&◌, ◌==◌, List, [], ◌∷◌, ◌++◌, length, replicate, drop, Some, None, Ok, Bool, true, false, IsTrue, is_some, Contains, nat_le}
use Rattle.std.specs.List.{AllByRecursion, list_all}
use Rattle.nb_fields.specs.Bytes.{is_zeros}
use Rattle.nb_fields.specs.Page.{kind_of, stamp_of}
use Rattle.nb_fields.specs.Header.{is_header, state_of, size_of, guid_of, pending_of}
use Rattle.nb_fields.specs.Table.{page_in}
use Rattle.nb_fields.specs.States.{stalled_state, applying_state}
use Rattle.nb_fields.specs.Kinds.{data_kind}
use Rattle.nb_host.specs.Files.{Files}
use Rattle.nb_host.specs.Names.{is_delta}
use Rattle.nb_model.specs.Image.{Page, Image, page_at, first_page, image_size, image_state, image_scn, image_guid}
use Rattle.nb_model.specs.Account.{Ask, Kept, Base, IsBase, Account}
use Rattle.nb_model.specs.Forms.{has_entry, scn_entry, scn_page_of}
use Rattle.nb_model.specs.Causes.{not_database}
use Rattle.nb_model.specs.Chains.{History, Slot, owner_in, slots_in, is_slot, is_used, level_in, scn_in, guid_in}
use Rattle.nb_model.specs.Levels.{Contents, read_level, file_for, file_of, joined}
use Rattle.nb_model.specs.Owner.{delta_name, entry_for, entry_in}
use Rattle.nb_model.specs.Follows.{Follows}
use Rattle.nb_model.specs.Sound.{IsSoundImage}

-- no GUID
abbrev pub nil : List ℕ
nil = replicate 16 0

-- the record of that GUID is kept
pub record IsKeptAs (kept : List Kept) (guid : List ℕ) (r : Kept) : Type 0 where
  pub there : Contains kept r
  pub named : r.guid ≡ guid

-- the image is that of a database, or of a record of a backup
pub data Belongs (account : Account) (image : Image) : Type 0 where
  to_base : (name : List ℕ) (b : Base) → account.entry name ≡ IsBase b → b.image ≡ image → Belongs account image
  to_record : (r : Kept) → Contains account.kept r → r.image ≡ image → Belongs account image

-- 1. Under each name stands what the files hold: a database where it can be opened, with its image, its frozen image and the
-- numbers of its difference file in order.
abbrev pub IsSameImage : Files → Account → Type 0
IsSameImage files account = (name : List ℕ) → is_delta name ≡ false → account.entry name ≡ entry_in files name

-- In the stalled state each diverted page with an SCN entry stands after its SCN page, and its entry is the current SCN.
pub record IsRaised (image : Image) (diverted : List ℕ) : Type 0 where
  pub behind : (p k : ℕ) → entry_for p diverted ≡ Some k → has_entry image p ≡ true → (j : ℕ) × (entry_for (scn_page_of image p) diverted ≡ Some j) × (j < k)
  pub current : (p k : ℕ) → entry_for p diverted ≡ Some k → has_entry image p ≡ true → scn_entry image p ≡ image_scn image

-- no entry is the current SCN
abbrev pub HasOldEntries : Image → Type 0
HasOldEntries image = (p : ℕ) → has_entry image p ≡ true → scn_page_of image p < length image → scn_entry image p < image_scn image

-- 2. What is diverted since a begin is raised. (That the main file is the frozen image is part of the first.)
abbrev pub IsFrozenMain : Account → Type 0
IsFrozenMain account = (name : List ℕ) (b : Base) → account.entry name ≡ IsBase b → image_state b.image ≡ stalled_state → IsRaised b.image b.diverted

-- The image as the begin of its backup left it. The begin raised the SCN, so no entry is current.
pub record IsBegun (r : Kept) : Type 0 where
  pub header : IsTrue (is_header (first_page r.image))
  pub state : image_state r.image ≡ stalled_state
  pub guid : image_guid r.image ≡ r.guid
  pub scn : image_scn r.image ≡ r.scn + 1
  pub old : HasOldEntries r.image

-- 3. Images are sound, and those of records are as a begin leaves them.
pub record HasSoundImages (account : Account) : Type 0 where
  pub images : (image : Image) → Belongs account image → IsSoundImage image
  pub records : (r : Kept) → Contains account.kept r → IsBegun r

-- q is the record of the previous GUID of r
pub record IsParent (kept : List Kept) (q r : Kept) : Type 0 where
  pub ask : Ask
  pub is : r.ask ≡ Some ask
  pub parent : IsKeptAs kept ask.previous q

-- each of these records is the parent of the one before it, and the last has the parent q
abbrev pub IsLineTo : (kept : List Kept) (q r : Kept) (between : List Kept) → Type 0
IsLineTo kept q r [] = IsParent kept q r
IsLineTo kept q r (p ∷ ps) = IsParent kept p r × IsLineTo kept q p ps

-- an ancestor of r: its parent, or an ancestor of that
pub record IsAncestor (kept : List Kept) (q r : Kept) : Type 0 where
  pub between : List Kept
  pub line : IsLineTo kept q r between

-- what a span of a record asks for: it goes on from an ancestor in one step
pub record IsSpan (kept : List Kept) (r : Kept) (ask : Ask) : Type 0 where
  pub from : Kept
  pub ancestor : IsAncestor kept from r
  pub guid : ask.previous ≡ from.guid
  pub scn : ask.previous_scn ≡ from.scn
  pub level : IsTrue (nat_le 1 ask.level && nat_le ask.level 9)

-- the bytes are the level file of the record, or of a span of it
abbrev pub IsFileOf : (kept : List Kept) (version : ℕ) (r : Kept) (bytes : List ℕ) → Type 0
IsFileOf kept version r bytes = (bytes ≡ file_of version r) ⊎ ((ask : Ask) × IsSpan kept r ask × (bytes ≡ file_for version r (Some ask)))

-- the bytes are the pages of the record, and after them pages of zeros at most
pub record IsCopyOf (r : Kept) (bytes : List ℕ) : Type 0 where
  pub zeros : List Page
  pub are_zeros : AllByRecursion (λ page. is_zeros page ≡ true) zeros
  pub is : bytes ≡ joined (r.image ++ zeros)

-- a file that is a level and has the GUID of a record holds that record
pub record HoldsItsRecord (kept : List Kept) (bytes : List ℕ) : Type 0 where
  pub level : (c : Contents) (r : Kept) → read_level bytes ≡ Ok c → IsKeptAs kept c.head.guid r → IsFileOf kept c.version r bytes
  pub copy : (r : Kept) → is_header bytes ≡ true → state_of bytes ≡ stalled_state → length bytes % size_of bytes ≡ 0 → IsKeptAs kept (guid_of bytes) r → IsCopyOf r bytes

-- 4. GUIDs tell records apart, none is nil, a stalled database has its record, and files hold the records that they name. No job reads a
-- difference file as one of them.
pub record KeepsRecords (files : Files) (account : Account) : Type 0 where
  pub distinct : (r q : Kept) → Contains account.kept r → Contains account.kept q → r.guid ≡ q.guid → r ≡ q
  pub not_nil : (r : Kept) → Contains account.kept r → r.guid ≢ nil
  pub stalled : (name : List ℕ) (b : Base) → account.entry name ≡ IsBase b → image_state b.image ≡ stalled_state → (r : Kept) × IsKeptAs account.kept (image_guid b.image) r
  pub levels : (name bytes : List ℕ) → is_delta name ≡ false → files name ≡ Some bytes → HoldsItsRecord account.kept bytes

-- the page is one of the history, whether the history's chain reaches it or not
unfoldable pub is_history_page : Page → Bool
is_history_page page = kind_of page == data_kind && (owner_in page == 1 && list_all (is_slot History) (slots_in page))

-- the image goes on from the record
pub record GoesOn (r : Kept) (image : Image) : Type 0 where
  pub earlier : r.scn < image_scn image
  pub follows : Follows r.image r.scn image

-- a history row names a record that agrees with it and passes a test
pub record IsRemembered (kept : List Kept) (test : Kept → Type 0) (row : Slot) : Type 0 where
  pub backup : Kept
  pub kept_as : IsKeptAs kept (guid_in row) backup
  pub scn : backup.scn ≡ scn_in row
  pub level : (ask : Ask) × (backup.ask ≡ Some ask) × (ask.level ≡ level_in row)
  pub passes : test backup

-- each used row of a page of the history names such a record
abbrev pub HasRows : (kept : List Kept) (test : Kept → Type 0) → Page → Type 0
HasRows kept test page = is_history_page page ≡ true → AllByRecursion (λ row. is_used row ≡ true → IsRemembered kept test row) (slots_in page)

-- the backups that an image names pass a test
pub record NamesPast (kept : List Kept) (test : Kept → Type 0) (image : Image) : Type 0 where
  pub rows : (p : ℕ) → p < length image → HasRows kept test (page_at image p)
  pub last : image_guid image ≢ nil → (r : Kept) × IsKeptAs kept (image_guid image) r × test r

-- the image goes on from the backups that it names
abbrev pub NamesItsPast : List Kept → Image → Type 0
NamesItsPast kept image = NamesPast kept (λ r. GoesOn r image) image

-- a record goes on from the one that it asks for
pub record GoesOnFrom (kept : List Kept) (r : Kept) (ask : Ask) : Type 0 where
  pub parent : Kept
  pub kept_as : IsKeptAs kept ask.previous parent
  pub scn : parent.scn ≡ ask.previous_scn
  pub earlier : parent.scn < r.scn
  pub follows : Follows parent.image parent.scn r.image

-- 5. Each image follows every record that its history names, and each record follows the one that it goes on from.
pub record FollowsHistory (account : Account) : Type 0 where
  pub images : (image : Image) → Belongs account image → NamesItsPast account.kept image
  pub records : (r : Kept) (ask : Ask) → Contains account.kept r → r.ask ≡ Some ask → ask.previous ≢ nil → GoesOnFrom account.kept r ask

-- a file of the header form in the applying state
abbrev pub is_applying : List ℕ → Bool
is_applying bytes = is_header bytes && state_of bytes == applying_state

-- 6. A difference file stands beside a database or a standby in the applying state alone.
abbrev pub HasNoStrayDelta : Files → Account → Type 0
HasNoStrayDelta files account = (name : List ℕ) → is_delta name ≡ false → IsTrue (is_some (files (delta_name name)))
    → ((b : Base) × (account.entry name ≡ IsBase b)) ⊎ ((bytes : List ℕ) × (files name ≡ Some bytes) × IsTrue (is_applying bytes))

-- A merge in place was stopped: the standby can be gone on with to the image of the record r. It holds each page of r that
-- stood before the backup, and nothing after r's length.
pub record IsStopped (kept : List Kept) (bytes : List ℕ) (r : Kept) : Type 0 where
  pub formed : not_database bytes ≡ None
  pub size : size_of bytes ≡ image_size r.image
  pub from : Kept
  pub ancestor : IsAncestor kept from r
  pub guid : guid_of bytes ≡ from.guid
  pub behind : IsTrue (is_zeros (drop (length r.image * size_of bytes) bytes))
  pub same : (p : ℕ) → 1 ≤ p → p < length r.image → stamp_of (page_at r.image p) ≤ from.scn → page_in (size_of bytes) bytes p ≡ page_at r.image p

-- 7. A standby in the applying state, whose pending GUID is that of a record, can be gone on with.
abbrev pub HasApplyingStandbys : Files → List Kept → Type 0
HasApplyingStandbys files kept = (name bytes : List ℕ) (r : Kept) → is_delta name ≡ false → files name ≡ Some bytes → IsTrue (is_applying bytes) → IsKeptAs kept (pending_of bytes) r → IsStopped kept bytes r

-- all seven
pub record Stands (files : Files) (account : Account) : Type 0 where
  pub same_image : IsSameImage files account
  pub frozen_main : IsFrozenMain account
  pub sound_images : HasSoundImages account
  pub kept_records : KeepsRecords files account
  pub history : FollowsHistory account
  pub no_stray : HasNoStrayDelta files account
  pub standbys : HasApplyingStandbys files account.kept
