use Rattle.nb_model.proofs.WayLaws.{way_start, way_put, firm_put, read_firm, read_done}
use Rattle.nb_model.proofs.waiting_laws.pages_go_out.Goals as goal

pub returns-clause-start : goal.returns-clause-start
returns-clause-start c = way_start

pub returns-clause-scn_page : goal.returns-clause-scn_page
returns-clause-scn_page c = λ f t b p some low main at. way_put t p some low main f b at

pub returns-clause-other : goal.returns-clause-other
returns-clause-other c = λ t b p some low main plain unsettled. firm_put t p some low main b plain unsettled

pub returns-clause-reads : goal.returns-clause-reads
returns-clause-reads c = read_firm

pub returns-clause-done : goal.returns-clause-done
returns-clause-done c = read_done
