use Rattle.std.proofs.Common.{ℕ, ◌+◌, ◌%◌, ◌^◌, ap, ◌∙◌}
use Rattle.nb_base.proofs.ControlLaws.{block_set}
use Rattle.nb_base.proofs.control.set_block.Goals as goal

pub returns-clause-written : goal.returns-clause-written
returns-clause-written c =
    block_set c.args.state c.args.scn c.from-4.result c.from.result c.from-2.result c.from-3.result c.args.guid.now c.args.page.now _ _ _ _ _ c.put.ensures.written c.put-2.ensures.written c.put-3.ensures.written c.put-4.ensures.written
    c.put-5.ensures.written c.from.ensures c.from-2.ensures c.from-3.ensures (c.from-4.ensures ∙ ap (λ (n : ℕ). (n + 1) % 2 ^ 32) c.get.ensures.value)
