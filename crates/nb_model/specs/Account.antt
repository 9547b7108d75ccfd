-- What stands under each name, and the records of backups.
use Rattle.std.specs.Prelude.{ℕ, List, [], Option, true, false}
use Rattle.nb_host.specs.Names.{same_name}
use Rattle.nb_model.specs.Image.{Image}

-- From which backup another goes on: that one's GUID and SCN, nil and 0 where it goes on from none. The level is its own.
pub record Ask : Type 0 where
  pub level : ℕ
  pub previous : List ℕ
  pub previous_scn : ℕ

-- What the begin of a backup keeps: its GUID and SCN, what it goes on from (none for a bare `begin`), and the image.
pub record Kept : Type 0 where
  pub guid : List ℕ
  pub scn : ℕ
  pub ask : Option Ask
  pub image : Image

-- A database. In the stalled state `frozen` is the image as its begin left it, and otherwise nothing. In the stalled and the
-- merge state `diverted` has the pages written in the stalled state since that begin, the first written first, and otherwise
-- nothing. So the files tell all of it.
pub record Base : Type 0 where
  pub image : Image
  pub frozen : Image
  pub diverted : List ℕ

-- What stands under a name that isn't a difference file's: nothing, a database, or another file; the first and the last with
-- what stands beside it under the name of its difference file.
pub data Entry : Type 0 where
  Missing : (delta : Option (List ℕ)) → Entry
  Plain : (bytes : List ℕ) (delta : Option (List ℕ)) → Entry
  IsBase : Base → Entry

pub record Account : Type 0 where
  pub entry : List ℕ → Entry
  pub kept : List Kept

-- the account with that entry under the name
unfoldable pub with_entry : List ℕ → Entry → Account → Account
with_entry name entry account = record {
  entry = λ n. elim (same_name n name) [ true ↦ entry | false ↦ account.entry n ];
  kept = account.kept;
}

-- a database in the normal state, which its image tells whole
abbrev pub base_of : Image → Base
base_of image = record { image = image; frozen = []; diverted = [] }
