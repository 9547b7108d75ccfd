-- How a run ends by what its turns came to.
use Rattle.std.specs.Prelude.{◌≡◌, Bool, Result, Ok, Err, if◌then◌else◌}
use Rattle.nb_host.specs.declared.faults.RunError.{RunError}
use Rattle.nb_ended.specs.Numbers.{number_of}
use Rattle.nb_ended.specs.declared.status.Status.{Status}

-- a run has that status whose turns ended so: whether a statement was refused; a failure stays
abbrev pub EndsAs : Result Bool RunError → Result Status RunError → Type 0
EndsAs (Ok refused) (Ok status) = number_of status ≡ (if refused then 1 else 0)
EndsAs (Ok refused) (Err error) = ⊥
EndsAs (Err error) (Ok status) = ⊥
EndsAs (Err error) (Err same) = same ≡ error
