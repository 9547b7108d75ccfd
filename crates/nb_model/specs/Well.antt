-- What is kept true of a database, and the statements that keep it.
use Rattle.std.specs.Prelude.{◌≡◌, ℕ, ◌<◌, ◌≤◌, List, [], Bool, true, false}
use Rattle.nb_fields.specs.Header.{is_header}
use Rattle.nb_fields.specs.States.{normal_state, stalled_state, merge_state}
use Rattle.nb_model.specs.declared.statement.Statement.{Statement}
use Rattle.nb_model.specs.declared.statement.Statement.TheVariants.{BeginBackup, EndBackup, Activate, Backup, BackupSince, CopyTo}
use Rattle.nb_model.specs.Image.{Image, first_page, image_state, image_scn, image_guid}
use Rattle.nb_model.specs.Account.{Kept, Base, base_of}
use Rattle.nb_model.specs.Sound.{IsSoundImage}
use Rattle.nb_model.specs.Stands.{IsKeptAs, IsRaised, HasOldEntries, NamesItsPast}

-- The image has a header in the state of that number, is sound, and names backups that are kept.
pub record IsWellIn (kept : List Kept) (number : ℕ) (image : Image) : Type 0 where
  pub header : is_header (first_page image) ≡ true
  pub scn : image_scn image < 4294967296
  pub state : image_state image ≡ number
  pub sound : IsSoundImage image
  pub past : NamesItsPast kept image

-- so in the normal state
abbrev pub IsWell : List Kept → Image → Type 0
IsWell kept image = IsWellIn kept 0 image

-- a database that such an image tells whole
pub record IsWellBase (kept : List Kept) (b : Base) : Type 0 where
  pub told : b ≡ base_of b.image
  pub well : IsWell kept b.image

-- What stands in the stalled state: what is diverted since the begin is raised, and no entry of the frozen image is current.
pub record IsStalled (b : Base) : Type 0 where
  pub raised : IsRaised b.image b.diverted
  pub old : HasOldEntries b.frozen

-- the record that a stalled database names has its frozen image
pub record IsOfRecord (kept : List Kept) (b : Base) : Type 0 where
  pub backup : Kept
  pub kept_as : IsKeptAs kept (image_guid b.image) backup
  pub same : b.frozen ≡ backup.image

-- A database that is well in the normal, the stalled or the merge state: what has to stand of one that files hold.
pub record IsWellBaseIn (kept : List Kept) (b : Base) : Type 0 where
  pub state : image_state b.image ≤ 2
  pub well : IsWellIn kept (image_state b.image) b.image
  pub normal : image_state b.image ≡ normal_state → b ≡ base_of b.image
  pub stalled : image_state b.image ≡ stalled_state → IsStalled b
  pub backup : image_state b.image ≡ stalled_state → IsOfRecord kept b
  pub merge : image_state b.image ≡ merge_state → b.frozen ≡ []

-- A statement on raw pages, on tables or on a byte of the header, or one that shows or checks what stands, gives leaked pages back, or waits
-- for it to be durable: any but those that begin, end or copy a backup. After the first statement of a run, creating and opening do nothing.
abbrev pub is_on_pages : Statement → Bool
is_on_pages BeginBackup = false
is_on_pages EndBackup = false
is_on_pages Activate = false
is_on_pages (Backup level name) = false
is_on_pages (BackupSince guid name) = false
is_on_pages (CopyTo name) = false
is_on_pages other = true
