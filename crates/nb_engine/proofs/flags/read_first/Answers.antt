use Rattle.std.proofs.Common.{◌∙◌, refl, sym, ap, None}
use Rattle.nb_engine.proofs.Common.{true≢false, Device, is_header, Reads, tries_passed}
use Rattle.nb_engine.proofs.FlagLaws.{some_first}
use Rattle.nb_engine.proofs.flags.read_first.Goals as goal

pub returns-in_err-read-clause-reads : goal.returns-in_err-read-clause-reads
returns-in_err-read-clause-reads g c t tells is = tries_passed c.from_residual.result Device (λ r. Reads r t.base.image None 0 c.read.new.into) c.from_residual.ensures (record { test = tt; page = tt })

pub returns-then-is_none-clause-reads : goal.returns-then-is_none-clause-reads
returns-then-is_none-clause-reads g c t tells is =
    let header = is.files.agrees.header in
    let page = c.in_ok-read.ensures.page t tells is (some_first t.base.image header) in
    absurd (true≢false (sym header ∙ sym (ap is_header page) ∙ sym c.read_header.ensures.exact ∙ c.if-is_none.ensures))

pub returns-clause-reads : goal.returns-clause-reads
returns-clause-reads g c t tells is =
    let header = is.files.agrees.header in
    record { test = refl; page = c.in_ok-read.ensures.page t tells is (some_first t.base.image header) }
