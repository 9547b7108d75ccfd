-- A twin's own name is refused; every other file reads as the host's.
use Rattle.std.specs.Prelude.{◌≡◌, length, option_map}
use Rattle.std.proofs.lemmas.Result.{err_from_is_err_and}
use Rattle.nb_shadow.proofs.CountLaws.{own_rose, asks_refused, asks_passed}
use Rattle.nb_shadow.proofs.PassLaws.{answers}
use Rattle.nb_shadow.proofs.shadow.ShadowHost.size.Goals as goal

pub returns-in_err-admit-clause-cause : goal.returns-in_err-admit-clause-cause
returns-in_err-admit-clause-cause g c =
    let p = err_from_is_err_and c.from_residual.result c.from_residual.ensures.1 in
    rw (p.1, c.admit.ensures.pairs) (own_rose _ _ _ _ _ c.in_err-admit.ensures.answer.1)

pub returns-clause-answer : goal.returns-clause-answer
returns-clause-answer g c =
    answers _ c.args.self.now.twin.apart g.H.Host.tells _ c.args.name.now c.size.result (λ f size. size ≡ option_map length f) c.in_ok-admit.ensures.answer.0 c.size.ensures.answer

pub returns-in_err-admit-clause-asks : goal.returns-in_err-admit-clause-asks
returns-in_err-admit-clause-asks g c =
    let p = err_from_is_err_and c.from_residual.result c.from_residual.ensures.1 in
    rw p.1 (asks_refused g.H.Host.faults _ _ p.0 _ c.in_err-admit.ensures.answer.0)

pub returns-clause-asks : goal.returns-clause-asks
returns-clause-asks g c = asks_passed g.H.Host.faults _ _ c.size.result _ _ c.in_ok-admit.ensures.answer.0 c.size.ensures.cause
