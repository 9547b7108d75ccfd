-- A merge of a level file into a standby that was restored from a backup.
use Rattle.std.specs.Prelude.{◌≡◌, ◌≢◌, ℕ, List, false}
use Rattle.nb_fields.specs.Header.{state_of, guid_of}
use Rattle.nb_fields.specs.States.{normal_state}
use Rattle.nb_host.specs.Files.{Files}
use Rattle.nb_host.specs.Names.{is_delta}
use Rattle.nb_model.specs.Levels.{Contents}
use Rattle.nb_model.specs.Stands.{nil}
use Rattle.nb_inplace.specs.Verdict.{IsMergeable}

-- Neither name is that of a difference file, and the standby names the backup that it was restored from. Of a merge that was begun the files
-- tell that themselves.
pub record MergesBackup (files : Files) (standby name bytes : List ℕ) (c : Contents) : Type 0 where
  pub plain : is_delta standby ≡ false
  pub level_plain : is_delta name ≡ false
  pub mergeable : IsMergeable files standby name bytes c
  pub restored : state_of bytes ≡ normal_state → guid_of bytes ≢ nil
