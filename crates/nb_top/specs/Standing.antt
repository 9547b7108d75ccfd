-- The files stand for an account, whatever a crash leaves of them.
use Rattle.std.specs.Prelude.{◌≡◌, ℕ, List, None, true, false, Contains}
use Rattle.nb_fields.specs.Free.{is_free_file}
use Rattle.nb_host.specs.Files.{File, Files}
use Rattle.nb_host.specs.Names.{is_delta}
use Rattle.nb_host.specs.World.{World}
use Rattle.nb_host.specs.Crash.{Leaves, LeavesAll}
use Rattle.nb_model.specs.Account.{Kept, Account}
use Rattle.nb_model.specs.Owner.{delta_name}
use Rattle.nb_model.specs.Stands.{Stands}

-- the files stand for an account with these records of backups
pub record HoldsKept (files : Files) (kept : List Kept) : Type 0 where
  pub account : Account
  pub stands : Stands files account
  pub same : account.kept ≡ kept

-- The files stand for the account, and whatever a crash now leaves stands for an account with the same records of backups. Where a name is
-- free and no difference file stands beside it, a crash brings none back. A run that came to its end leaves it so, and so does a crash
-- for the next run.
pub record StandsFor (w : World) (account : Account) : Type 0 where
  pub now : Stands w.files account
  pub left : (files : Files) → LeavesAll w files → HoldsKept files account.kept
  pub free : (name : List ℕ) → is_delta name ≡ false → is_free_file (w.files name) ≡ true → w.files (delta_name name) ≡ None → (d : File) → Leaves w (delta_name name) d → d ≡ None

-- The next run may begin after one that began with this account: the files stand for one that has all of its records.
pub record NextMayBegin (new : World) (account : Account) : Type 0 where
  pub later : Account
  pub stands : StandsFor new later
  pub kept : (r : Kept) → Contains account.kept r → Contains later.kept r
