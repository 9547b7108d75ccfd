use Rattle.std.proofs.Common.{ℕ, List, sym, ap, ◌∙◌}
use Rattle.nb_check.proofs.Common.{is_among}
use Rattle.nb_check.proofs.ReportLaws.{among_pages}
use Rattle.nb_check.proofs.report.Report.has.Goals as goal

pub returns : goal.returns
returns c = c.has.ensures ∙ sym (among_pages c.self.inside.pages c.args.number) ∙ ap (λ (ps : List ℕ). is_among c.args.number ps) c.self.view_is
