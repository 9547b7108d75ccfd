use Rattle.std.proofs.Common.{◌≡◌, ℕ, List, [], ◌∷◌, length, sym, ap, subst, ◌∙◌, Some, Result}
use Rattle.nb_copy.proofs.Common.{Fault, LevelHead, image_scn, after_strokes, Held, IsOpen, open_running, given_guid, tries_passed, BeginsFor}
use Rattle.nb_model.specs.Strokes.{begin as begin_stroke}
use Rattle.nb_copy.proofs.BegunLaws.{begin_failed, begun_guid}
use Rattle.nb_copy.proofs.copier.begin.Goals as goal

pub returns-in_err-begin-clause-begins : goal.returns-in_err-begin-clause-begins
returns-in_err-begin-clause-begins g c t guid ask tells is given =
    let old = g.H.Host.world c.args.host.now in
    let new = g.H.Host.world c.begin.new.host in
    tries_passed c.from_residual.result c.in_err-begin.field-0.0 (λ (r : Result LevelHead Fault). BeginsFor r old new c.args.engine.now c.begin.new.self t guid ask c.args.session c.args.head.now) c.from_residual.ensures
    (begin_failed c.in_err-begin.field-0.0 old new c.args.engine.now c.begin.new.self t guid ask c.args.session c.args.head.now (c.in_err-begin.ensures.starts t guid ask tells is given))

pub returns-clause-begins : goal.returns-clause-begins
returns-clause-begins g c t guid ask tells is given =
    let old = g.H.Host.world c.args.host.now in
    let new = g.H.Host.world c.begin.new.host in
    let starts = c.in_ok-begin.ensures.starts t guid ask tells is given in
    let asks = c.in_ok-begin.ensures.asks tells in
    let sixteen : length guid ≡ 16 = ap length (sym (given_guid old.guids new.guids guid asks.0 starts.gave asks.2)) ∙ asks.1 in
    let held : Held = c.begin.new.self in
    let its_guid : c.guid.result ≡ guid =
    c.guid.ensures ∙ ap (λ (h : Held). h.guid) (c.store-2.ensures ∙ c.set_running.ensures) ∙ starts.opened.agrees.guid ∙ begun_guid t guid ask is.files.agrees.header sixteen in
    let its_scn : c.scn-scn.result ≡ image_scn t.base.image = c.scn-scn.ensures ∙ ap (λ (h : Held). h.scn) c.store.ensures ∙ is.agrees.scn in
    let bare : LevelHead = c.args.head.now in
    record {
      test = starts.test;
      left = starts.left;
      long = starts.long;
      frozen = starts.frozen;
      opened = subst (λ (h : Held). IsOpen new h (after_strokes t (begin_stroke guid ask ∷ []))) (sym c.set_running.ensures) (open_running new held _ (Some c.args.session) starts.opened);
      head = ap (λ (x : List ℕ). record bare { guid = x; scn = c.scn-scn.result }) its_guid ∙ ap (λ (n : ℕ). record bare { guid = guid; scn = n }) its_scn;
      gave = starts.gave;
      times = starts.times;
      idle = starts.idle;
      running = ap (λ (h : Held). h.running) c.set_running.ensures;
      name = ap (λ (h : Held). h.files.name) c.set_running.ensures ∙ starts.name;
    }
