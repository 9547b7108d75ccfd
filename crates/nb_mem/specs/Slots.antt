-- The files in a list of slots.
use Rattle.std.specs.Prelude.{ℕ, List, [], ◌∷◌, None}
use Rattle.nb_host.specs.Files.{Files, with_file}
use Rattle.nb_mem.specs.declared.slots.Slot.{Slot}

-- the file of each name: that of the first slot of the name
abbrev pub files_in : List Slot → Files
files_in [] = λ _. None
files_in (slot ∷ slots) = with_file (files_in slots) slot.name slot.file

-- their names
abbrev pub names_in : List Slot → List (List ℕ)
names_in [] = []
names_in (slot ∷ slots) = slot.name ∷ names_in slots
