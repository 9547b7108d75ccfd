use Rattle.std.proofs.Common.{ap, refl, ◌∙◌}
use Rattle.nb_restore.proofs.Common.{is_header}
use Rattle.nb_restore.proofs.PlanLaws.{page_0_read, unfinished_page}
use Rattle.nb_restore.proofs.plan.read_page_0.Goals as goal

pub returns-clause-answer : goal.returns-clause-answer
returns-clause-answer g c tells ps there sizes some header =
    let page = page_0_read _ ps _ _ c.read_page.new.into c.in_ok-read_page.field-0 there sizes some refl c.if-not-branch.false (c.in_ok-read_page.ensures.answer tells) in (
      page,
      unfinished_page c.args.header.now c.copy_from_slice.new.self c.write_header.new.page c.requires.form (ap is_header (c.copy_from_slice.ensures.after ∙ page) ∙ header) c.write_header.ensures.read_back c.write_header.ensures.form,
    )
