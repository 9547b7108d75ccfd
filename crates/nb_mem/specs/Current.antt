-- What a history keeps beside its calls is what they come to.
use Rattle.std.specs.Prelude.{◌≡◌, length, reverse}
use Rattle.nb_mem.specs.Chosen.{names_of}
use Rattle.nb_mem.specs.Slots.{files_in, names_in}
use Rattle.nb_mem.specs.Histories.{files_of, said_of, reads_of, guids_of, times_of}
use Rattle.nb_mem.specs.declared.history.History.TheInside.{Inside}

pub record IsCurrent (h : Inside) : Type 0 where
  pub files : files_in h.slots.items ≡ files_of (reverse h.calls.items)
  pub names : names_in h.slots.items ≡ names_of (reverse h.calls.items)
  pub said : h.said.items ≡ said_of (reverse h.calls.items)
  pub reads : h.reads ≡ reads_of (reverse h.calls.items)
  pub guids : h.guids ≡ length (guids_of (reverse h.calls.items))
  pub times : h.times ≡ length (times_of (reverse h.calls.items))
