use Rattle.nb_mem.proofs.GuidLaws.{guids_apart, guid_not_nil, behind_apart}
use Rattle.nb_mem.proofs.laws.guids_are_apart.Goals as goal

pub returns : goal.returns
returns c = record { apart = guids_apart; not_nil = guid_not_nil; behind = behind_apart }
