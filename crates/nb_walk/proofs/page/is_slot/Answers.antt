use Rattle.std.proofs.Common.{sym, ◌∙◌}
use Rattle.nb_walk.proofs.Common.{eq_no, chain_by}
use Rattle.nb_walk.proofs.SlotLaws.{slot_free, slot_used, slot_other}
use Rattle.nb_walk.proofs.page.is_slot.Goals as goal

pub returns-then-used-eq0 : goal.returns-then-used-eq0
returns-then-used-eq0 c = sym (slot_free (chain_by c.args.chain) c.args.slot.now (sym c.use_of-used.ensures ∙ c.if-used-eq0.true))

pub returns-then-used-eq1 : goal.returns-then-used-eq1
returns-then-used-eq1 c = c.is_filled.ensures ∙ sym (slot_used (chain_by c.args.chain) c.args.slot.now (sym c.use_of-used.ensures ∙ c.if-used-eq1.true))

pub returns-else-used-eq1 : goal.returns-else-used-eq1
returns-else-used-eq1 c =
    eq_no c.use_of-used.result 1 c.if-used-eq1.false
    ∙ sym (slot_other (chain_by c.args.chain) c.args.slot.now (λ e. c.if-used-eq0.false (c.use_of-used.ensures ∙ e)) (λ e. c.if-used-eq1.false (c.use_of-used.ensures ∙ e)))
