use Rattle.std.proofs.Common.{◌∙◌, sym, ap, length, max}
use Rattle.nb_file.proofs.PutLaws.{length-put_at}
use Rattle.nb_file.proofs.GatheredLaws.{seen-owner}
use Rattle.nb_file.proofs.held.Held.length.Goals as goal

pub returns-in-Some-clause-len : goal.returns-in-Some-clause-len
returns-in-Some-clause-len g c = λ told.
    c.max.ensures ∙ (λ i. max (c.args.self.now.measured told c.in_ok-check.ensures.sure i) (c.in-Some.ensures i))
    ∙ sym (ap length (seen-owner c.args.waiting.now.name c.args.waiting.now.at c.args.waiting.now.bytes.items c.args.self.now.name (g.F.Disk.bytes c.args.self.now.file) (sym c.if-not-is_for.ensures)) ∙ length-put_at _ c.args.waiting.now.at c.args.waiting.now.bytes.items)
