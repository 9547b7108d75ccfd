-- What a file holds.
use Rattle.std.specs.Prelude.{ℕ, List}
use Rattle.nb_file.specs.declared.waiting.Waiting.{Waiting}
use Rattle.nb_file.specs.Gathered.{seen}

-- the bytes that the system has of the file of this name, and over them those that wait for it
abbrev pub with_waiting : Waiting → (name file : List ℕ) → List ℕ
with_waiting waiting name file = seen waiting.name waiting.at waiting.bytes.items name file
