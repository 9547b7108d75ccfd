-- What is seen of a host where one of its files has a twin: the twin isn't, and a crash leaves of the file what it leaves of either.
use Rattle.std.specs.Prelude.{◌≡◌, ◌≢◌, ◌⊎◌, ℕ, List, None}
use Rattle.nb_host.specs.Files.{File, Files, with_file}
use Rattle.nb_host.specs.World.{World}
use Rattle.nb_shadow.specs.declared.pair.Pair.{Pair}

-- the outcomes of a file are its own and those of its twin; of the twin's own name there is none
abbrev pub OfEither : Pair → (List ℕ → File → Type 0) → List ℕ → File → Type 0
OfEither p left name file = (name ≢ p.copy) × (left name file ⊎ ((name ≡ p.file) × left p.copy file))

-- these are all files but the twin, with the file or its twin in the file's place
pub record IsSideOf (p : Pair) (all files : Files) : Type 0 where
  pub hidden : files p.copy ≡ None
  pub side : (files p.file ≡ all p.file) ⊎ (files p.file ≡ all p.copy)
  pub others : (m : List ℕ) → m ≢ p.file → m ≢ p.copy → files m ≡ all m

abbrev pub mirrored : Pair → World → World
mirrored p w = record {
  files = with_file w.files p.copy None;
  said = w.said;
  reads = w.reads;
  guids = w.guids;
  times = w.times;
  back = OfEither p w.back;
  now = λ name file. ((name ≡ p.copy) × (file ≡ None)) ⊎ OfEither p w.now name file;
  moment = w.moment;
  left_since = λ t files said. (all : Files) × w.left_since t all said × IsSideOf p all files;
}
