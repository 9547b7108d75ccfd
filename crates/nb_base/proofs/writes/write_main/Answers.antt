use Rattle.std.proofs.Common.{refl, sym, ◌∙◌}
use Rattle.nb_base.proofs.Common.{on_ok_weaker, still_more, on_ok}
use Rattle.nb_base.proofs.TouchLaws.{page_touched, still_touched}
use Rattle.nb_base.proofs.WriteLaws.{not_done, struck_main, main_shown, main_synced, stays_seen}
use Rattle.nb_base.proofs.StaysLaws.{page_within, keeps_joined, still_keeps}
use Rattle.nb_base.proofs.writes.write_main.Goals as goal

pub returns-in_err-write_page-clause-takes : goal.returns-in_err-write_page-clause-takes
returns-in_err-write_page-clause-takes g c t tells seen is other none must =
    record {
      left = struck_main c.args.name.now t c.args.number c.args.page.now is (g.H.Host.world c.args.host.now) (g.met.H.Host.timely c.args.host.now) (g.met.H.Host.reads_left c.args.host.now tells) seen
          (g.H.Host.world c.write_page.new.self) other none g.H.Host.tells c.write_page.result tells c.write_page.ensures.files c.write_page.ensures.log.said c.write_page.ensures.time;
      done = not_done c.from_residual.result _ c.from_residual.ensures.0;
    }

pub returns-then-synced-clause-takes : goal.returns-then-synced-clause-takes
returns-then-synced-clause-takes g c t tells seen is other none must =
    let old = g.H.Host.world c.args.host.now in
    let mid = g.H.Host.world c.write_page.new.self in
    let timely = g.met.H.Host.timely c.args.host.now in
    let reads = g.met.H.Host.reads_left c.args.host.now tells in
    let left = struck_main c.args.name.now t c.args.number c.args.page.now is old timely reads seen
    mid other none g.H.Host.tells c.write_page.result tells c.write_page.ensures.files c.write_page.ensures.log.said c.write_page.ensures.time in
    record {
      left = still_more _ _ (g.H.Host.world c.sync.new.self) _ _ left c.sync.ensures.time c.sync.ensures.files.still c.sync.ensures.log.said;
      done = on_ok_weaker c.sync.result
          (main_synced c.args.name.now t c.args.number c.args.page.now is old timely reads seen mid other none (c.in_ok-write_page.ensures.files.files tells) (g.H.Host.world c.sync.new.self) c.write_page.ensures.files.left.others c.sync.ensures.files.still)
          (c.sync.ensures.files.durable tells);
    }

pub returns-else-synced-clause-takes : goal.returns-else-synced-clause-takes
returns-else-synced-clause-takes g c t tells seen is other none must =
    let old = g.H.Host.world c.args.host.now in
    let mid = g.H.Host.world c.write_page.new.self in
    let timely = g.met.H.Host.timely c.args.host.now in
    let reads = g.met.H.Host.reads_left c.args.host.now tells in
    let left = struck_main c.args.name.now t c.args.number c.args.page.now is old timely reads seen
    mid other none g.H.Host.tells c.write_page.result tells c.write_page.ensures.files c.write_page.ensures.log.said c.write_page.ensures.time in
    record {
      left = left;
      done = stays_seen c.args.name.now t c.args.number c.args.page.now is old timely reads seen mid (sym must ∙ c.if-synced.false) left
          (main_shown c.args.name.now t c.args.number c.args.page.now is old timely reads seen mid other none (c.in_ok-write_page.ensures.files.files tells));
    }

pub returns-in_err-write_page-clause-touches : goal.returns-in_err-write_page-clause-touches
returns-in_err-write_page-clause-touches g c tells =
    page_touched g.H.Host.tells c.write_page.result (g.H.Host.world c.args.host.now) (g.H.Host.world c.write_page.new.self) c.args.name.now _ c.args.page.now tells (g.met.H.Host.timely c.args.host.now) c.write_page.ensures.files c.write_page.ensures.log.said c.write_page.ensures.time

pub returns-else-synced-clause-touches : goal.returns-else-synced-clause-touches
returns-else-synced-clause-touches g c tells =
    page_touched g.H.Host.tells c.write_page.result (g.H.Host.world c.args.host.now) (g.H.Host.world c.write_page.new.self) c.args.name.now _ c.args.page.now tells (g.met.H.Host.timely c.args.host.now) c.write_page.ensures.files c.write_page.ensures.log.said c.write_page.ensures.time

pub returns-then-synced-clause-touches : goal.returns-then-synced-clause-touches
returns-then-synced-clause-touches g c tells =
    still_touched _ _ (g.H.Host.world c.sync.new.self) _
    (page_touched g.H.Host.tells c.write_page.result (g.H.Host.world c.args.host.now) (g.H.Host.world c.write_page.new.self) c.args.name.now _ c.args.page.now tells (g.met.H.Host.timely c.args.host.now) c.write_page.ensures.files c.write_page.ensures.log.said c.write_page.ensures.time)
    c.sync.ensures.time c.sync.ensures.files.still c.sync.ensures.log.said

pub returns-then-synced-clause-put : goal.returns-then-synced-clause-put
returns-then-synced-clause-put g c tells = on_ok c.sync.result (c.sync.ensures.files.still.files ∙ c.in_ok-write_page.ensures.files.files tells)

pub returns-in_err-write_page-clause-within : goal.returns-in_err-write_page-clause-within
returns-in_err-write_page-clause-within g c most tells low = page_within g.H.Host.tells c.write_page.result (g.H.Host.world c.args.host.now) (g.H.Host.world c.write_page.new.self) c.args.name.now c.args.number most _ c.args.page.now tells (g.met.H.Host.timely c.args.host.now) c.write_page.ensures.files c.write_page.ensures.time refl low

pub returns-else-synced-clause-within : goal.returns-else-synced-clause-within
returns-else-synced-clause-within g c most tells low = page_within g.H.Host.tells c.write_page.result (g.H.Host.world c.args.host.now) (g.H.Host.world c.write_page.new.self) c.args.name.now c.args.number most _ c.args.page.now tells (g.met.H.Host.timely c.args.host.now) c.write_page.ensures.files c.write_page.ensures.time refl low

pub returns-then-synced-clause-within : goal.returns-then-synced-clause-within
returns-then-synced-clause-within g c most tells low =
    keeps_joined _ _ _ c.args.name.now _
    (page_within g.H.Host.tells c.write_page.result (g.H.Host.world c.args.host.now) (g.H.Host.world c.write_page.new.self) c.args.name.now c.args.number most _ c.args.page.now tells (g.met.H.Host.timely c.args.host.now) c.write_page.ensures.files c.write_page.ensures.time refl low)
    (still_keeps (g.H.Host.world c.write_page.new.self) (g.H.Host.world c.sync.new.self) c.args.name.now _ (g.met.H.Host.timely _) c.sync.ensures.time c.sync.ensures.files.still)
