-- The words, as `clap` hands them on.
use Rattle.std.specs.Prelude.{Option, ◌≡◌, ℕ, ◌+◌, ◌==◌, List, [], ◌∷◌, true, false, map, min, codes, Some}
use Rattle.std.specs.Borrow.{Bor}
use Rattle.clap.specs.Words.{Row, count_of, rows_of, found_of}
use Rattle.clap.specs.declared.parser.matches.ArgMatches.{ArgMatches}
use Rattle.nb_model.specs.Words.{Word, Read, read_words, job_of}
use Rattle.nb_model.specs.declared.job.Job.{Job}
use Rattle.nb_words.specs.Line.{words_in}

-- how often a letter stands in a list
abbrev pub times : ℕ → List ℕ → ℕ
times letter [] = 0
times letter (x ∷ xs) = elim (x == letter) [ true ↦ times letter xs + 1 | false ↦ times letter xs ]

-- how often each flag was given, 255 standing for 255 and more
abbrev pub counts_of : List ℕ → List ℕ
counts_of flags = map (λ letter. min (times letter flags) 255) (codes "BRLSNFI")

-- the words after references
abbrev pub words_of : List (Bor Word) → List Word
words_of = map (λ s. s.now)

-- the rows hold these flags and plain words
pub record Shows (rows : List Row) (read : Read) : Type 0 where
  pub flags : (letter : ℕ) → count_of (letter ∷ []) rows ≡ min (times letter read.flags) 255
  pub plain : words_in rows ≡ read.plain

-- the matches are what the words give
pub record Holds (words : List Word) (m : ArgMatches) : Type 0 where
  pub read : Read
  pub gives : read_words words ≡ Some read
  pub shows : Shows (rows_of (found_of m)) read

-- the job of what is held
abbrev pub IsJobOf : ArgMatches → Option Job → Type 0
IsJobOf m job = (words : List Word) → Holds words m → job ≡ job_of words
