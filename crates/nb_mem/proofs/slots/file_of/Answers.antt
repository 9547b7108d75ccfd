use Rattle.std.proofs.Common.{◌∙◌, sym, ap}
use Rattle.nb_mem.proofs.Common.{Slot}
use Rattle.nb_mem.proofs.SlotLaws.{found, not_found}
use Rattle.nb_mem.proofs.slots.file_of.Goals as goal

pub returns-in-Some : goal.returns-in-Some
returns-in-Some c =
    c.as_ref.ensures.value ∙ ap (λ (s : Slot). s.file) (sym c.index-slots-at.is)
    ∙ sym (found c.args.name.now c.args.slots.now c.in-Some.at c.index-slots-at.result (sym c.in-Some.ensures) c.index-slots-at.is)

pub returns-in-None : goal.returns-in-None
returns-in-None c = sym (not_found c.args.name.now c.args.slots.now (sym c.in-None.ensures))
