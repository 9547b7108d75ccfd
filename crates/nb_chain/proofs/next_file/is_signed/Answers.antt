use Rattle.std.proofs.Common.{sym, length, ◌∙◌}
use Rattle.nb_chain.proofs.Common.{le_no}
use Rattle.nb_chain.proofs.StartLaws.{unsigned}
use Rattle.nb_chain.proofs.next_file.is_signed.Goals as goal

pub returns-else-first-ge20 : goal.returns-else-first-ge20
returns-else-first-ge20 c = le_no 20 (length c.args.first.now) c.if-first-ge20.false ∙ sym (unsigned c.args.first.now (λ i. (c.type_inv.first i).fits) c.if-first-ge20.false)
