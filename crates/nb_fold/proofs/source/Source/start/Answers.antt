use Rattle.std.proofs.Common.{refl, ap}
use Rattle.nb_fold.proofs.Common.{Held, IsGiven, IsOpened, Waits, passed}
use Rattle.nb_host.proofs.AnswerLaws.{given_by}
use Rattle.nb_fold.proofs.OpenLaws.{not_begun, coming_now, opened}
use Rattle.nb_fold.proofs.source.Source.start.Goals as goal

pub returns-in_err-reader-clause-opened : goal.returns-in_err-reader-clause-opened
returns-in_err-reader-clause-opened g c tells bytes x there read =
    passed _ (λ r. IsGiven r (λ source. IsOpened (g.H.Host.world c.args.host.now).files c.args.name.now source x)) c.from_residual.result c.in_err-reader.field-0.0 c.from_residual.ensures
    (not_begun g.H.Host.tells tells _ _ bytes x there read _ c.in_err-reader.field-0.0 c.in_err-reader.ensures.answer)

pub returns-in_err-advance-clause-opened : goal.returns-in_err-advance-clause-opened
returns-in_err-advance-clause-opened g c tells bytes x there read =
    let start = c.in_ok-reader.ensures in
    passed _ (λ r. IsGiven r (λ source. IsOpened (g.H.Host.world c.args.host.now).files c.args.name.now source x)) c.from_residual-in_err-advance.result c.in_err-advance.field-0.0 c.from_residual-in_err-advance.ensures
    (given_by c.in_err-advance.field-0.0 (λ done. Waits (g.H.Host.world c.start.new.host).files c.advance.new.self x.pages) _
    (c.in_err-advance.ensures.waits tells x.pages (coming_now g.H.Host.tells tells _ _ bytes x there read _ _ c.in_ok-reader.reader start.quiet.still.files refl start.answer)))

pub returns-clause-opened : goal.returns-clause-opened
returns-clause-opened g c tells bytes x there read =
    let start = c.in_ok-reader.ensures in
    opened g.H.Host.tells tells _ _ bytes x there read _ _ c.in_ok-reader.reader c.advance.new.self start.quiet.still.files refl start.answer (ap (λ (s : Held). s.reader) c.advance.ensures.same)
    (c.in_ok-advance.ensures.waits tells x.pages (coming_now g.H.Host.tells tells _ _ bytes x there read _ _ c.in_ok-reader.reader start.quiet.still.files refl start.answer))
