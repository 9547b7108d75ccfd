use Rattle.nb_model.proofs.StrokeLaws.{stroke_same, stroke_other}
use Rattle.nb_model.proofs.laws.a_page_stroke_changes_one_page.Goals as goal

pub returns-clause-page : goal.returns-clause-page
returns-clause-page c = stroke_same

pub returns-clause-others : goal.returns-clause-others
returns-clause-others c = stroke_other
