use Rattle.std.proofs.Common.{◌≡◌, refl, ap, ◌∙◌}
use Rattle.nb_chain.proofs.Common.{Files, Reading, quiet_begun, quiet_call, quiet_joined}
use Rattle.nb_chain.proofs.MostLaws.{ahead_none, ahead_more, ahead_ends, there_is}
use Rattle.nb_chain.proofs.PageLaws.{so_far_none, so_far_more, gives_there}
use Rattle.nb_chain.proofs.level_file.read_pages.Goals as goal

pub loop-number-init : goal.loop-number-init
loop-number-init g c = record {
  same = refl;
  quiet = quiet_begun (g.H.Host.world c.args.host.now) (g.met.H.Host.timely _);
  cause = refl;
  so_far = λ tells. so_far_none _ _ _ _;
  ahead = λ tells. ahead_none _ _ _;
}

pub loop-number-preserved : goal.loop-number-preserved
loop-number-preserved g c =
    let loop = c.loop-number.invariant in
    let log = c.next.ensures.log in
    let files : Files = (g.H.Host.world c.args.host.now).files in
    let same : (g.H.Host.world c.loop-number.host).files c.loop-number.reader.name ≡ files c.loop-number.reader.name = ap (λ (f : Files). f c.loop-number.reader.name) loop.quiet.still.files in
    let named : files c.loop-number.reader.name ≡ files c.args.reader.now.name = ap (λ (r : Reading). files r.name) loop.same in
    let there : (g.H.Host.world c.loop-number.host).files c.loop-number.reader.name ≡ files c.args.reader.now.name = same ∙ named in
    record {
      same = c.next.ensures.same ∙ ap (λ (r : Reading). record r { place = c.next.new.self.place }) loop.same;
      quiet = quiet_joined _ _ _ loop.quiet (quiet_call _ _ (g.met.H.Host.timely _) c.next.ensures.files log.said log.guids log.times c.next.ensures.time);
      cause = c.in_ok-number.ensures.cause ∙ loop.cause;
      so_far = λ tells.
          so_far_more _ _ _ _ _ _ _ (loop.so_far tells) c.next.new.self c.in-PageAt.number c.next.new.into _ _
          (gives_there _ _ c.loop-number.reader c.next.new.self c.in_ok-number.field-0 c.next.new.into c.in-PageAt.number g.H.Host.tells c.in-PageAt.is tells c.in_ok-number.ensures.answer there)
          c.in_ok-note.ensures (log.reads tells);
      ahead = λ tells.
          ahead_more _ _ _ _ _ (loop.ahead tells) c.next.new.self c.in-PageAt.number c.next.new.into _ _ _
          (there_is _ _ c.loop-number.reader c.next.new.self c.in_ok-number.field-0 _ _ c.in-PageAt.number c.next.new.into g.H.Host.tells c.in-PageAt.is tells c.in_ok-number.ensures.there there)
          (c.next.auto.into ∙ c.loop-number.auto.page ∙ c.requires) (ap (λ (r : Reading). r.head.page_size) loop.same) (log.reads tells);
    }

pub returns-in_err-number-clause-within : goal.returns-in_err-number-clause-within
returns-in_err-number-clause-within g c tells = ahead_ends _ _ _ _ _ (c.loop-number.invariant.ahead tells) _ (c.next.ensures.log.reads tells)

pub returns-in_err-note-clause-within : goal.returns-in_err-note-clause-within
returns-in_err-note-clause-within g c tells = ahead_ends _ _ _ _ _ (c.loop-number.invariant.ahead tells) _ (c.next.ensures.log.reads tells)

pub returns-clause-within : goal.returns-clause-within
returns-clause-within g c tells = ahead_ends _ _ _ _ _ (c.loop-number.invariant.ahead tells) _ (c.next.ensures.log.reads tells)
