use Rattle.std.proofs.Common.{length, refl, ap, ◌∙◌, arith}
use Rattle.nb_restore.proofs.Common.{Files, gave_begun, nothing_joined, Reading, IsDone, Overwrites, passed}
use Rattle.nb_restore.proofs.FrontLaws.{front_begun, front_then_still, front_joined}
use Rattle.nb_restore.proofs.MostLaws.{read_none, read_next, read_ends}
use Rattle.nb_restore.proofs.LevelLaws.{so_far_none, so_far_next, so_far_fails, so_far_ends}
use Rattle.nb_restore.proofs.records.write_level.Goals as goal

pub loop-number-init : goal.loop-number-init
loop-number-init g c = record {
  same = refl;
  left = λ tells. front_begun _ _ (g.met.H.Host.timely _);
  so_far = λ tells records apart coming. so_far_none _ _ _ _ _ _ coming;
  within = λ tells records apart coming. read_none _ _ _ _ coming;
  gave = gave_begun _;
  cause = refl;
}

pub returns-in_err-number-clause-left : goal.returns-in_err-number-clause-left
returns-in_err-number-clause-left g c tells = let next = c.next.ensures in front_then_still _ _ _ _ (c.loop-number.invariant.left tells) (g.met.H.Host.timely _) next.files next.log.said next.time

pub returns-in_err-number-clause-pages : goal.returns-in_err-number-clause-pages
returns-in_err-number-clause-pages g c tells records apart coming =
    let loop = c.loop-number.invariant in
    passed _ (λ r. IsDone r (Overwrites (length c.args.page.now) records ((g.H.Host.world c.args.host.now).files c.args.target.now) ((g.H.Host.world c.next.new.host).files c.args.target.now) c.args.first.now c.loop-number.first))
    c.from_residual.result c.in_err-number.field-0.0 c.from_residual.ensures
    (so_far_fails _ c.loop-number.reader records g.H.Host.tells tells _ _ (ap (λ (r : Reading). (g.H.Host.world c.loop-number.host).files r.name) loop.same ∙ (loop.left tells).others_read _ apart) _ _ _ _ (loop.so_far tells records apart coming)
    (Unit {0}) _ c.next.new.self c.next.new.into c.in_err-number.field-0.0 c.in_err-number.ensures.answer)

pub loop-number-preserved : goal.loop-number-preserved
loop-number-preserved g c =
    let loop = c.loop-number.invariant in
    let next = c.in_ok-number.ensures in
    let put = c.in_ok-put_page.ensures in
    record {
      same = next.same ∙ ap (λ (r : Reading). record r { place = c.next.new.self.place }) loop.same;
      left = λ tells. front_joined _ _ _ _ (front_then_still _ _ _ _ (loop.left tells) (g.met.H.Host.timely _) next.files next.log.said next.time) (put.left tells);
      so_far = λ tells records apart coming.
          so_far_next _ c.loop-number.reader records g.H.Host.tells tells _ _ (ap (λ (r : Reading). (g.H.Host.world c.loop-number.host).files r.name) loop.same ∙ (loop.left tells).others_read _ apart) _ _ _ _ (loop.so_far tells records apart coming)
          c.next.new.self c.in_ok-number.field-0 c.in-PageAt.number c.next.new.into _ _ _ c.in-PageAt.is next.answer (ap (λ (f : Files). f c.args.target.now) next.files.files) (c.next.auto.into ∙ c.loop-number.auto.page) (put.pages tells);
      within = λ tells records apart coming.
          read_next g.H.Host.tells tells _ _ (ap (λ (r : Reading). (g.H.Host.world c.loop-number.host).files r.name) loop.same ∙ (loop.left tells).others_read _ apart) c.loop-number.reader c.next.new.self records _ _ _
          c.in_ok-number.field-0 c.in-PageAt.number c.next.new.into (loop.within tells records apart coming) c.in-PageAt.is next.answer (let once = next.log.reads tells in omega (arith, once, put.no_read));
      gave = nothing_joined _ _ _ (nothing_joined _ _ _ loop.gave (record { guids = next.log.guids; times = next.log.times })) put.gave;
      cause = put.cause ∙ next.cause ∙ loop.cause;
    }

pub returns-in_err-put_page-clause-left : goal.returns-in_err-put_page-clause-left
returns-in_err-put_page-clause-left g c tells =
    let next = c.next.ensures in front_joined _ _ _ _ (front_then_still _ _ _ _ (c.loop-number.invariant.left tells) (g.met.H.Host.timely _) next.files next.log.said next.time) (c.put_page.ensures.left tells)

pub returns-clause-pages : goal.returns-clause-pages
returns-clause-pages g c tells records apart coming =
    let loop = c.loop-number.invariant in
    let next = c.in_ok-number.ensures in
    so_far_ends _ c.loop-number.reader records g.H.Host.tells tells _ _ (ap (λ (r : Reading). (g.H.Host.world c.loop-number.host).files r.name) loop.same ∙ (loop.left tells).others_read _ apart) _ _ _ _ (loop.so_far tells records apart coming)
    c.next.new.self c.in_ok-number.field-0 c.in_default.field-0 c.next.new.into _ c.in_default.is next.answer (ap (λ (f : Files). f c.args.target.now) next.files.files)

pub returns-in_err-number-clause-within : goal.returns-in_err-number-clause-within
returns-in_err-number-clause-within g c tells records apart coming = read_ends _ _ records _ _ _ (c.loop-number.invariant.within tells records apart coming) (c.next.ensures.log.reads tells)

pub returns-in_err-put_page-clause-within : goal.returns-in_err-put_page-clause-within
returns-in_err-put_page-clause-within g c tells records apart coming =
    read_ends _ _ records _ _ _ (c.loop-number.invariant.within tells records apart coming) (let once = c.next.ensures.log.reads tells in omega (arith, once, c.put_page.ensures.no_read))

pub returns-clause-within : goal.returns-clause-within
returns-clause-within g c tells records apart coming = read_ends _ _ records _ _ _ (c.loop-number.invariant.within tells records apart coming) (c.next.ensures.log.reads tells)
