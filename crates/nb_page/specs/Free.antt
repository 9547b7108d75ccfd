-- Which names are free.
use Rattle.std.specs.Prelude.{ℕ, Bool, ◌&&◌, not, nat_le, List, ◌++◌, length, is_some}
use Rattle.nb_host.specs.Names.{delta_suffix}
use Rattle.nb_host.specs.Files.{Files}
use Rattle.nb_fields.specs.Free.{is_free_file}

-- a difference file stands beside a name that a database may have
unfoldable pub has_delta : Files → List ℕ → Bool
has_delta files name = nat_le (length name) 94 && is_some (files (name ++ delta_suffix))

-- the name may be taken for a new file
unfoldable pub is_free_name : Files → List ℕ → Bool
is_free_name files name = is_free_file (files name) && not (has_delta files name)
