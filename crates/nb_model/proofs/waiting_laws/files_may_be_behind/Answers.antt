use Rattle.nb_model.proofs.BehindLaws.{behind_left, behind_firm, way_left, enter_left}
use Rattle.nb_model.proofs.waiting_laws.files_may_be_behind.Goals as goal

pub returns-clause-left : goal.returns-clause-left
returns-clause-left c = λ f seen b is. behind_left f seen is b

pub returns-clause-firm : goal.returns-clause-firm
returns-clause-firm c = λ f seen b is none. behind_firm f seen is none b

pub returns-clause-on_the_way : goal.returns-clause-on_the_way
returns-clause-on_the_way c = λ f seen b is some. way_left f seen is b some

pub returns-clause-entering : goal.returns-clause-entering
returns-clause-entering c = λ f seen b is some. enter_left f seen is b some
