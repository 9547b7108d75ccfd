use Rattle.std.proofs.Common.{◌≡◌, inl, inr, refl, sym, ap, ◌∙◌, arith}
use Rattle.nb_owner.proofs.Common.{normal_state, stalled_state, Only, weakened, image_state, delta_name, StandsIn, OfFiles, touched, main_in, delta_in, Held, on_ok}
use Rattle.nb_base.proofs.StaysLaws.{delta_keeps}
use Rattle.nb_owner.proofs.pair.Pair.flush_all.Goals as goal

pub returns-then-state-eq-STALLED-clause-takes : goal.returns-then-state-eq-STALLED-clause-takes
returns-then-state-eq-STALLED-clause-takes g c t tells is =
    let name = c.args.self.now.files.name in
    record {
      left = weakened (g.H.Host.world c.args.host.now) (g.H.Host.world c.flush_delta.new.host) (Only (delta_name name)) (OfFiles name) (StandsIn name t) (StandsIn name t) (c.flush_delta.ensures.left t tells is) (λ m one. inr one) (λ files others so. so);
      done = c.flush_delta.ensures.out t tells is;
    }

pub returns-then-state-eq-STALLED-clause-touches : goal.returns-then-state-eq-STALLED-clause-touches
returns-then-state-eq-STALLED-clause-touches g c t tells is =
    let held = c.args.self.now in
    let stalled : held.files.state ≡ stalled_state = omega (arith, c.if-state-eq-STALLED.true, c.state.ensures.value, ap (λ (h : Held). h.files.state) c.self.view_is) in
    delta_in (g.H.Host.world c.args.host.now) (g.H.Host.world c.flush_delta.new.host) held.files.state held.files.name (delta_name held.files.name) stalled refl (touched _ _ _ _ (c.flush_delta.ensures.left t tells is))

pub returns-else-state-eq-STALLED-clause-takes : goal.returns-else-state-eq-STALLED-clause-takes
returns-else-state-eq-STALLED-clause-takes g c t tells is =
    let name = c.args.self.now.files.name in
    let waiting = is.waits.each c.requires.some.0 c.requires.some.1 c.requires.some.2 in
    let state = c.state.ensures.value ∙ ap (λ (h : Held). h.files.state) c.self.view_is ∙ is.agrees.state in
    let normal : image_state t.base.image ≡ normal_state = omega (arith, c.if-state-eq-STALLED.false, state, waiting.early) in
    record {
      left = weakened (g.H.Host.world c.args.host.now) (g.H.Host.world c.flush_main.new.host) (Only name) (OfFiles name) (StandsIn name t) (StandsIn name t) (c.flush_main.ensures.left t tells is normal) (λ m one. inl one) (λ files others so. so);
      done = c.flush_main.ensures.out t tells is normal;
    }

pub returns-else-state-eq-STALLED-clause-touches : goal.returns-else-state-eq-STALLED-clause-touches
returns-else-state-eq-STALLED-clause-touches g c t tells is =
    let held = c.args.self.now in
    let waiting = is.waits.each c.requires.some.0 c.requires.some.1 c.requires.some.2 in
    let state = c.state.ensures.value ∙ ap (λ (h : Held). h.files.state) c.self.view_is ∙ is.agrees.state in
    let normal : image_state t.base.image ≡ normal_state = omega (arith, c.if-state-eq-STALLED.false, state, waiting.early) in
    main_in (g.H.Host.world c.args.host.now) (g.H.Host.world c.flush_main.new.host) held.files.state held.files.name (λ stalled. absurd (omega (arith, normal, is.agrees.state, stalled))) (touched _ _ _ _ (c.flush_main.ensures.left t tells is normal))

pub returns-else-state-eq-STALLED-clause-no_drafts : goal.returns-else-state-eq-STALLED-clause-no_drafts
returns-else-state-eq-STALLED-clause-no_drafts g c =
    on_ok c.flush_main.result (ap (λ f. f.drafted) c.flush_main.ensures.files ∙ ap (λ (h : Held). h.files.drafted) (sym c.self.view_is) ∙ c.state.ensures.stalled (λ one. c.if-state-eq-STALLED.false one))

pub returns-then-state-eq-STALLED-clause-within : goal.returns-then-state-eq-STALLED-clause-within
returns-then-state-eq-STALLED-clause-within g c t tells is most within =
    let name = c.args.self.now.files.name in delta_keeps (g.H.Host.world c.args.host.now) (g.H.Host.world c.flush_delta.new.host) name (delta_name name) (StandsIn name t) _ refl (c.flush_delta.ensures.left t tells is)

pub returns-else-state-eq-STALLED-clause-within : goal.returns-else-state-eq-STALLED-clause-within
returns-else-state-eq-STALLED-clause-within g c t tells is most within =
    let waiting = is.waits.each c.requires.some.0 c.requires.some.1 c.requires.some.2 in
    let state = c.state.ensures.value ∙ ap (λ (h : Held). h.files.state) c.self.view_is ∙ is.agrees.state in
    let normal : image_state t.base.image ≡ normal_state = omega (arith, c.if-state-eq-STALLED.false, state, waiting.early) in
    c.flush_main.ensures.within t most tells is normal within
