use Rattle.std.proofs.Common.{length, refl, sym, ◌∙◌}
use Rattle.nb_inplace.proofs.Common.{true≢false}
use Rattle.nb_inplace.proofs.CountingLaws.{read_there, blank_read}
use Rattle.nb_inplace.proofs.counting.is_blank.Goals as goal

pub returns-then-not-is_whole-clause-answer : goal.returns-then-not-is_whole-clause-answer
returns-then-not-is_whole-clause-answer g c tells ps there sizes below =
    absurd (true≢false (sym (read_there (length c.args.page.now) c.args.number ps _ c.args.page.now c.read_page.new.into c.in_ok-is_whole.is_whole there sizes below refl (c.in_ok-is_whole.ensures.answer tells)) ∙ c.if-not-is_whole.true))

pub returns-else-not-is_whole-clause-answer : goal.returns-else-not-is_whole-clause-answer
returns-else-not-is_whole-clause-answer g c tells ps there sizes below =
    blank_read (length c.args.page.now) c.args.number ps _ c.args.page.now c.read_page.new.into c.in_ok-is_whole.is_whole c.are_zeros.result there sizes below refl (c.in_ok-is_whole.ensures.answer tells) c.are_zeros.ensures
