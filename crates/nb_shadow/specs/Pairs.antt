-- The files of a database and their twins, by their names.
use Rattle.std.specs.Prelude.{◌≡◌, ◌≢◌, ◌⊎◌, ℕ, List, ◌++◌}
use Rattle.nb_host.specs.Names.{delta_suffix}
use Rattle.nb_shadow.specs.declared.pair.Pairs.{Pairs}

-- the files of the database of that name, with their twins
abbrev pub pairs_of : (db copy : List ℕ) → Pairs
pairs_of db copy = record { main = record { file = db; copy = copy }; delta = record { file = db ++ delta_suffix; copy = copy ++ delta_suffix } }

-- no two of the four names are the same
pub record AreApart (ps : Pairs) : Type 0 where
  pub in_main : ps.main.file ≢ ps.main.copy
  pub in_delta : ps.delta.file ≢ ps.delta.copy
  pub files : ps.main.file ≢ ps.delta.file
  pub copies : ps.main.copy ≢ ps.delta.copy
  pub main_copy : ps.main.file ≢ ps.delta.copy
  pub delta_copy : ps.delta.file ≢ ps.main.copy

-- this file has that twin
abbrev pub IsTwinOf : Pairs → (name copy : List ℕ) → Type 0
IsTwinOf ps name copy = ((name ≡ ps.main.file) × (copy ≡ ps.main.copy)) ⊎ ((name ≡ ps.delta.file) × (copy ≡ ps.delta.copy))

-- the file has a twin
abbrev pub HasTwin : Pairs → List ℕ → Type 0
HasTwin ps name = (name ≡ ps.main.file) ⊎ (name ≡ ps.delta.file)

-- the name is that of a twin
abbrev pub IsTwinName : Pairs → List ℕ → Type 0
IsTwinName ps name = (name ≡ ps.main.copy) ⊎ (name ≡ ps.delta.copy)

-- the name isn't that of a twin
pub record IsNoTwin (ps : Pairs) (name : List ℕ) : Type 0 where
  pub not_main : name ≢ ps.main.copy
  pub not_delta : name ≢ ps.delta.copy

-- the name isn't that of a file that has a twin
pub record HasNoTwin (ps : Pairs) (name : List ℕ) : Type 0 where
  pub not_main : name ≢ ps.main.file
  pub not_delta : name ≢ ps.delta.file
