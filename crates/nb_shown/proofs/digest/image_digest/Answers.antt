use Rattle.std.proofs.Common.{ℕ, List, None}
use Rattle.nb_shown.proofs.Common.{image_turn, goes_nowhere, seeing, tested_does, valued_does, bytes_of_image, image_shown}
use Rattle.nb_host.specs.declared.faults.Fault.TheVariants.{Device}
use Rattle.nb_shown.proofs.TurnLaws.{image_says, never_refused}
use Rattle.nb_shown.proofs.digest.image_digest.Goals as goal

pub returns-in_err-feed_pages-clause-turn : goal.returns-in_err-feed_pages-clause-turn
returns-in_err-feed_pages-clause-turn g c s t tells same is =
    let fed = c.in_err-feed_pages.ensures in
    tested_does (List ℕ) (List ℕ) (image_shown c.args.engine.now.files.count) c.from_residual.result Device _ _ _ _ t s image_turn None c.from_residual.ensures same fed.looks.same fed.looks.quiet is (fed.looks.opened t tells is) tt
    (λ r e. never_refused (seeing s t.base) r e)

pub returns-clause-turn : goal.returns-clause-turn
returns-clause-turn g c s t tells same is =
    let fed = c.in_ok-feed_pages.ensures in
    let digest = c.finalize.ensures (bytes_of_image t.base.image) (fed.holds t tells is c.new-hasher.ensures) in
    valued_does (image_shown c.args.engine.now.files.count) c.finalize.result _ _ _ _ t s image_turn same fed.looks.same fed.looks.quiet is (fed.looks.opened t tells is)
    (image_says (seeing s t.base) c.args.engine.now.files.count c.finalize.result is.files.agrees.count digest)

pub returns-in_err-feed_pages-clause-goes : goal.returns-in_err-feed_pages-clause-goes
returns-in_err-feed_pages-clause-goes g c = goes_nowhere _ _ c.in_err-feed_pages.ensures.looks.same

pub returns-clause-goes : goal.returns-clause-goes
returns-clause-goes g c = goes_nowhere _ _ c.in_ok-feed_pages.ensures.looks.same
