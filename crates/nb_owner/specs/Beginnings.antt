-- A database is created or opened.
use Rattle.std.specs.Prelude.{◌≡◌, ℕ, [], Result, Ok, Err}
use Rattle.nb_host.specs.declared.faults.Fault.{Fault}
use Rattle.nb_owner.specs.Open.{Held}

-- its two files, or why it isn't open
abbrev pub files_of : Result Held Fault → Result Rattle.nb_base.specs.Open.Held Fault
files_of (Ok held) = Ok held.files
files_of (Err fault) = Err fault

-- no page is in memory yet, and so many may be
pub record IsBlank (pages : ℕ) (held : Held) : Type 0 where
  pub none : held.pages ≡ []
  pub cap : held.cap ≡ pages
