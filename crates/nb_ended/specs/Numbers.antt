-- The numbers of statuses.
use Rattle.std.specs.Prelude.{ℕ}
use Rattle.nb_ended.specs.declared.status.Status.{Status}
use Rattle.nb_ended.specs.declared.status.Status.TheVariants.{Done, Refused, Usage, Device, Memory}

-- the number of each way in which a run ends, which is the exit status of the program
abbrev pub number_of : Status → ℕ
number_of Done = 0
number_of Refused = 1
number_of Usage = 2
number_of Device = 3
number_of Memory = 4
