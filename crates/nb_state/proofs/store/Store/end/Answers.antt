use Rattle.std.proofs.Common.{◌≡◌, ℕ, ◌+◌, List, refl, sym, ap, subst, ◌∙◌, arith, Result}
use Rattle.nb_state.proofs.Common.{stalled_state, World, Fault, Device, Stroke, image_state, header-room, Strikes, after_strokes, Held, IsOpen, name_of, Ends, passed_on}
use Rattle.nb_state.proofs.MakesLaws.{none_yet, gave_none}
use Rattle.nb_state.proofs.TurnLaws.{open_struck, end_stalled, end_other, scn_stalled, scn_other, end_refused, end_failed, end_done}
use Rattle.nb_page.proofs.QuietLaws.{quiet_begun}
use Rattle.nb_model.specs.Pages.{end_strokes}
use Rattle.nb_base.proofs.StaysLaws.{grows_first, grows_not, quiet_keeps}
use Rattle.nb_state.proofs.store.Store.end.Goals as goal

pub returns-in_err-check_end-clause-ends : goal.returns-in_err-check_end-clause-ends
returns-in_err-check_end-clause-ends g c t tells is =
    let old : World = g.H.Host.world c.args.host.now in
    let held : Held = c.args.self.now in
    let test = c.in_err-check_end.ensures.test t.base.image is.files.agrees.state in
    subst (λ (r : Result ℕ Fault). Ends r old old held held t c.args.session) (sym (passed_on c.from_residual.result c.in_err-check_end.field-0.0 c.from_residual.ensures))
    (end_refused old held t c.args.session c.in_err-check_end.field-0.0 is (quiet_begun old (g.met.H.Host.timely _)) test)

pub returns-in_err-scn-clause-ends : goal.returns-in_err-scn-clause-ends
returns-in_err-scn-clause-ends g c t tells is =
    let old : World = g.H.Host.world c.args.host.now in
    let new : World = g.H.Host.world c.end_stalled.new.host in
    let held : Held = c.args.self.now in
    let stalled = sym is.files.agrees.state ∙ sym (ap (λ (h : Held). h.files.state) c.self.view_is) ∙ sym c.state.ensures.value ∙ c.if-state-eq-STALLED.true in
    let allowed = c.in_ok-check_end.ensures.test t.base.image is.files.agrees.state in
    let struck = subst (λ (ss : List Stroke). Strikes old new (name_of held) t ss) (sym (end_stalled t.base.image stalled)) (c.end_stalled.ensures.takes t tells is).left in
    let grown = grows_first old new (name_of held) held.files.page_size t (end_strokes t.base.image) (c.end_stalled.ensures.long t tells is) in
    let rest = λ (bytes : List ℕ). c.end_stalled.ensures.rest t bytes tells is in
    subst (λ (r : Result ℕ Fault). Ends r old new held c.end_stalled.new.self t c.args.session) (sym (passed_on c.from_residual-in_err-scn.result Device c.from_residual-in_err-scn.ensures))
    (end_failed old new held c.end_stalled.new.self t c.args.session allowed struck grown rest c.end_stalled.ensures.gave c.end_stalled.ensures.name)

pub returns-then-state-eq-STALLED-clause-ends : goal.returns-then-state-eq-STALLED-clause-ends
returns-then-state-eq-STALLED-clause-ends g c t tells is =
    let old : World = g.H.Host.world c.args.host.now in
    let new : World = g.H.Host.world c.end_stalled.new.host in
    let held : Held = c.args.self.now in
    let now = sym (ap (λ (h : Held). h.files.state) c.self.view_is) ∙ sym c.state.ensures.value ∙ c.if-state-eq-STALLED.true in
    let stalled = sym is.files.agrees.state ∙ now in
    let allowed = c.in_ok-check_end.ensures.test t.base.image is.files.agrees.state in
    let ended = c.in_ok-scn.ensures in
    let takes = ended.takes t tells is in
    let strokes = end_stalled t.base.image stalled in
    let struck = subst (λ (ss : List Stroke). Strikes old new (name_of held) t ss) (sym strokes) takes.left in
    let room = header-room _ is.files.agrees.header stalled in
    let grown = grows_first old new (name_of held) held.files.page_size t (end_strokes t.base.image) (c.end_stalled.ensures.long t tells is) in
    let rest = λ (bytes : List ℕ). c.end_stalled.ensures.rest t bytes tells is in
    end_done old new held c.end_stalled.new.self t c.args.session allowed struck grown rest ended.gave ended.name c.in_ok-scn.scn
    (ended.answer (omega (arith, room, is.agrees.scn)) ∙ ap (λ (n : ℕ). n + 1) is.agrees.scn ∙ sym (scn_stalled t.base.image stalled))
    (subst (λ (ss : List Stroke). IsOpen new c.end_stalled.new.self (after_strokes t ss)) (sym strokes) takes.done) ended.begins.0 ended.begins.1

pub returns-clause-ends : goal.returns-clause-ends
returns-clause-ends g c t tells given =
    let old : World = g.H.Host.world c.args.host.now in
    let held : Held = c.args.self.now in
    let is = subst (λ (h : Held). IsOpen old h t) (sym c.self.view_is) given in
    let quiet = quiet_begun old (g.met.H.Host.timely _) in
    let other : image_state t.base.image ≡ stalled_state → ⊥ = λ e. c.if-state-eq-STALLED.false (c.state.ensures.value ∙ is.files.agrees.state ∙ e) in
    let allowed = c.in_ok-check_end.ensures.test t.base.image given.files.agrees.state in
    let strokes = end_other t.base.image other in
    end_done old old held _ t c.args.session allowed (none_yet old old held t _ quiet given) (grows_not old old (name_of held) held.files.page_size t _ quiet) (λ bytes. quiet_keeps old old (name_of held) _ quiet) (gave_none old old quiet) (ap (λ (h : Held). name_of h) c.self.view_is) _ (is.agrees.scn ∙ sym (scn_other t.base.image other))
    (open_struck old _ t c.args.session _ strokes is) refl refl
