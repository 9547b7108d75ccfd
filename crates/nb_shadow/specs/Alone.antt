-- A database and its twin, each by itself.
use Rattle.std.specs.Prelude.{None}
use Rattle.nb_host.specs.Files.{File, Files, with_file}
use Rattle.nb_host.specs.World.{World}
use Rattle.nb_host.specs.Crash.{IsDurable}
use Rattle.nb_shadow.specs.declared.pair.Pair.{Pair}
use Rattle.nb_shadow.specs.declared.pair.Pairs.{Pairs}

-- the files without the twin
abbrev pub without_copy : Pair → Files → Files
without_copy p all = with_file all p.copy None

-- the file is lost, and its twin stands in its place
abbrev pub copy_in_place : Pair → Files → Files
copy_in_place p all = with_file (with_file all p.file (all p.copy)) p.copy None

-- the database without its twin, and the twin in its place
abbrev pub database_alone : Pairs → Files → Files
database_alone ps all = without_copy ps.delta (without_copy ps.main all)

abbrev pub twin_alone : Pairs → Files → Files
twin_alone ps all = copy_in_place ps.delta (copy_in_place ps.main all)

-- a crash leaves this of the file and of its twin, and nothing else of either
pub record AreDurable (w : World) (p : Pair) (file : File) : Type 0 where
  pub of_file : IsDurable w p.file file
  pub of_copy : IsDurable w p.copy file
