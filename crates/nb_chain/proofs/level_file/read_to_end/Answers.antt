use Rattle.std.proofs.Common.{◌≡◌, [], ◌∷◌, ◌++◌, refl, sym, ap, ◌∙◌, arith, length-append}
use Rattle.nb_chain.proofs.Common.{Files, Numbered, Reading, quiet_begun, quiet_call, quiet_joined}
use Rattle.nb_level.proofs.ReadingLaws.{behind-none}
use Rattle.nb_chain.proofs.MostLaws.{ahead_none, ahead_more, ahead_ends, there_is}
use Rattle.nb_chain.proofs.PageLaws.{pages_more, gives_there}
use Rattle.nb_chain.proofs.level_file.read_to_end.Goals as goal

pub loop-init : goal.loop-init
loop-init g c = record {
  same = refl;
  quiet = quiet_begun (g.H.Host.world c.args.host.now) (g.met.H.Host.timely _);
  cause = refl;
  so_far = λ tells. ([], sym (behind-none _), omega arith);
  ahead = λ tells. ahead_none _ _ _;
}

pub loop-preserved : goal.loop-preserved
loop-preserved g c =
    let loop = c.loop.invariant in
    let log = c.next.ensures.log in
    let files : Files = (g.H.Host.world c.args.host.now).files in
    let same : (g.H.Host.world c.loop.host).files c.loop.reader.name ≡ files c.loop.reader.name = ap (λ (f : Files). f c.loop.reader.name) loop.quiet.still.files in
    let named : files c.loop.reader.name ≡ files c.args.reader.now.name = ap (λ (r : Reading). files r.name) loop.same in
    record {
      same = c.next.ensures.same ∙ ap (λ (r : Reading). record r { place = c.next.new.self.place }) loop.same;
      quiet = quiet_joined _ _ _ loop.quiet (quiet_call _ _ (g.met.H.Host.timely _) c.next.ensures.files log.said log.guids log.times c.next.ensures.time);
      cause = c.in_ok-next.ensures.cause ∙ loop.cause;
      so_far = λ tells.
          let done = loop.so_far tells in
          let page : Numbered = (c.in-PageAt.field-0, c.next.new.into) in (
            done.0 ++ page ∷ [],
            pages_more (files c.args.reader.now.name) c.args.reader.now c.loop.reader c.next.new.self done.0 page done.1
                (gives_there _ _ c.loop.reader c.next.new.self c.in_ok-next.field-0 c.next.new.into c.in-PageAt.field-0 g.H.Host.tells c.in-PageAt.is tells c.in_ok-next.ensures.answer (same ∙ named)),
            omega (arith, done.2, log.reads tells, length-append done.0 (page ∷ [])),
          );
      ahead = λ tells.
          ahead_more _ _ _ _ _ (loop.ahead tells) c.next.new.self c.in-PageAt.field-0 c.next.new.into _ _ _
          (there_is _ _ c.loop.reader c.next.new.self c.in_ok-next.field-0 _ _ c.in-PageAt.field-0 c.next.new.into g.H.Host.tells c.in-PageAt.is tells c.in_ok-next.ensures.there (same ∙ named))
          (c.next.auto.into ∙ c.loop.auto.page ∙ c.requires) (ap (λ (r : Reading). r.head.page_size) loop.same) (log.reads tells);
    }

pub returns-in_err-next-clause-within : goal.returns-in_err-next-clause-within
returns-in_err-next-clause-within g c tells = ahead_ends _ _ _ _ _ (c.loop.invariant.ahead tells) _ (c.next.ensures.log.reads tells)

pub returns-clause-within : goal.returns-clause-within
returns-clause-within g c tells = ahead_ends _ _ _ _ _ (c.loop.invariant.ahead tells) _ (c.next.ensures.log.reads tells)
