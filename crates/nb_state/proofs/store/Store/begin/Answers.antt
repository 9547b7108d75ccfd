use Rattle.std.proofs.Common.{inl, ℕ, List, [], ◌∷◌, replicate, refl, sym, subst, ◌∙◌, Ok, Result}
use Rattle.nb_state.proofs.Common.{World, Device, begin, Held, Begins, passed_on, name_of, Fault}
use Rattle.nb_state.proofs.MakesLaws.{still_open}
use Rattle.nb_state.proofs.TurnLaws.{still_struck, given_guid, begin_failed, begin_done, still_grown, begin_refused, begin_unasked}
use Rattle.nb_base.proofs.StaysLaws.{grows_first}
use Rattle.nb_page.proofs.QuietLaws.{quiet_begun, quiet_call}
use Rattle.nb_state.proofs.store.Store.begin.Goals as goal

pub returns-in_err-scn-clause-begins : goal.returns-in_err-scn-clause-begins
returns-in_err-scn-clause-begins g c t guid ask tells is may =
    let old : World = g.H.Host.world c.args.host.now in
    let mid : World = g.H.Host.world c.guid.new.self in
    let new : World = g.H.Host.world c.begin_with.new.host in
    let held : Held = c.args.self.now in
    let after : Held = c.begin_with.new.self in
    let given : List ℕ = c.in_ok-guid.guid in
    let call = c.in_ok-guid.ensures in
    let with = c.in_err-scn.ensures in
    let allowed = c.in_ok-check_begin.ensures.test t.base.image is.files.agrees.state is.agrees.scn in
    let gave = call.log.guids tells in
    let struck = still_struck old mid new held t (begin given ask ∷ []) is (g.met.H.Host.timely _) call.files call.log.said call.time (with.takes t ask tells (still_open old mid held t call.files is)).left in
    let grown = grows_first old new (name_of held) held.files.page_size t (begin given ask ∷ []) (still_grown old mid new (name_of held) held.files.page_size t [] (g.met.H.Host.timely _) call.files call.time (with.long t tells (still_open old mid held t call.files is))) in
    subst (λ (x : List ℕ). Begins c.from_residual-in_err-scn.result old new held after t x ask) (sym (given_guid old.guids new.guids given guid (with.gave.guids ∙ gave) may))
    (subst (λ r. Begins r old new held after t given ask) (sym (passed_on c.from_residual-in_err-scn.result Device c.from_residual-in_err-scn.ensures))
    (begin_failed old mid new held after t given ask is allowed struck grown gave with.gave call.log.times with.running with.name))

pub returns-clause-begins : goal.returns-clause-begins
returns-clause-begins g c t guid ask tells is may =
    let old : World = g.H.Host.world c.args.host.now in
    let mid : World = g.H.Host.world c.guid.new.self in
    let new : World = g.H.Host.world c.begin_with.new.host in
    let held : Held = c.args.self.now in
    let after : Held = c.begin_with.new.self in
    let given : List ℕ = c.in_ok-guid.guid in
    let call = c.in_ok-guid.ensures in
    let with = c.in_ok-scn.ensures in
    let allowed = c.in_ok-check_begin.ensures.test t.base.image is.files.agrees.state is.agrees.scn in
    let gave = call.log.guids tells in
    let takes = with.takes t ask tells (still_open old mid held t call.files is) in
    let struck = still_struck old mid new held t (begin given ask ∷ []) is (g.met.H.Host.timely _) call.files call.log.said call.time takes.left in
    let grown = grows_first old new (name_of held) held.files.page_size t (begin given ask ∷ []) (still_grown old mid new (name_of held) held.files.page_size t [] (g.met.H.Host.timely _) call.files call.time (with.long t tells (still_open old mid held t call.files is))) in
    subst (λ (x : List ℕ). Begins (Ok c.in_ok-scn.scn) old new held after t x ask) (sym (given_guid old.guids new.guids given guid (with.gave.guids ∙ gave) may))
    (begin_done old mid new held after t given ask is allowed struck grown gave with.gave call.log.times with.running with.name c.in_ok-scn.scn with.answer takes.done (with.frozen tells))

pub returns-in_err-check_begin-clause-asks : goal.returns-in_err-check_begin-clause-asks
returns-in_err-check_begin-clause-asks g c tells = (replicate 16 0, refl, inl refl)

pub returns-in_err-guid-clause-asks : goal.returns-in_err-guid-clause-asks
returns-in_err-guid-clause-asks g c tells = (replicate 16 0, refl, inl (c.in_err-guid.ensures.log.guids tells))

pub returns-in_err-check_begin-clause-begins : goal.returns-in_err-check_begin-clause-begins
returns-in_err-check_begin-clause-begins g c t guid ask tells is may =
    let old : World = g.H.Host.world c.args.host.now in
    let held : Held = c.args.self.now in
    let test = c.in_err-check_begin.ensures.test t.base.image is.files.agrees.state is.agrees.scn in
    subst (λ (r : Result ℕ Fault). Begins r old old held held t guid ask) (sym (passed_on c.from_residual.result c.in_err-check_begin.field-0.0 c.from_residual.ensures))
    (begin_refused old held t guid ask c.in_err-check_begin.field-0.0 is (quiet_begun old (g.met.H.Host.timely _)) test)

pub returns-in_err-guid-clause-begins : goal.returns-in_err-guid-clause-begins
returns-in_err-guid-clause-begins g c t guid ask tells is may =
    let old : World = g.H.Host.world c.args.host.now in
    let mid : World = g.H.Host.world c.guid.new.self in
    let held : Held = c.args.self.now in
    let call = c.in_err-guid.ensures in
    let allowed = c.in_ok-check_begin.ensures.test t.base.image is.files.agrees.state is.agrees.scn in
    subst (λ (r : Result ℕ Fault). Begins r old mid held held t guid ask) (sym (passed_on c.from_residual-in_err-guid.result Device c.from_residual-in_err-guid.ensures))
    (begin_unasked old mid held t guid ask is allowed (quiet_call old mid (g.met.H.Host.timely _) call.files call.log.said (call.log.guids tells) call.log.times call.time))
