use Rattle.std.proofs.Common.{◌≡◌, ℕ, [], ◌∷◌, sym, ap, subst, ◌∙◌, arith, Result, Ok, Err, false, ◌==◌}
use Rattle.nb_alloc.proofs.Common.{as_fault, Fault, is_zeros, code_of, stamped, Page, image_scn, page, old_page, counts_passed, none_wanted, none_refused, Tries, entry_cause, raise_strokes, page_strokes}
use Rattle.nb_alloc.proofs.DoesLaws.{tries_passed, tries_front}
use Rattle.nb_alloc.proofs.RaiseLaws.{stamped-some}
use Rattle.nb_alloc.proofs.MakeLaws.{stamped_page, put_then}
use Rattle.nb_alloc.proofs.WantLaws.{wanted_by}
use Rattle.nb_model.proofs.FreshImageLaws.{code-other}
use Rattle.nb_alloc.proofs.make.put_page.Goals as goal

pub write-requires-clause-some : goal.write-requires-clause-some
write-requires-clause-some g c =
    subst (λ (x : Page). is_zeros x ≡ false) (sym c.stamp.ensures.written)
    (stamped-some c.args.page.now c.code.result _ c.scn.result c.args.number (ap (λ (k : ℕ). k == 0) c.code.ensures ∙ code-other c.args.kind))

pub returns-in_err-raise_entry-clause-tries : goal.returns-in_err-raise_entry-clause-tries
returns-in_err-raise_entry-clause-tries g c t payload tells is room filled =
    let image = t.base.image in
    let p : ℕ = c.args.number in
    let kind : ℕ = code_of c.args.kind in
    let fault = c.in_err-raise_entry.field-0.0 in
    tries_passed c.from_residual.result fault
    (λ r. Tries r (g.H.Host.world c.args.host.now) (g.H.Host.world c.raise_entry.new.host) c.args.store.now c.raise_entry.new.store t (entry_cause image p) (page_strokes image p kind payload)) c.from_residual.ensures
    (tries_front (Unit {0}) (Unit {0}) fault _ _ _ _ t (entry_cause image p) (raise_strokes image p) (page p (stamped (old_page p image) kind payload (image_scn image) p) ∷ []) (c.in_err-raise_entry.ensures.tries t tells is))

pub returns-clause-tries : goal.returns-clause-tries
returns-clause-tries g c t payload tells is room filled =
    let image = t.base.image in
    let p : ℕ = c.args.number in
    let kind : ℕ = code_of c.args.kind in
    let bytes = stamped_page image p c.code.result kind c.scn.result payload c.args.page.now c.stamp.new.page filled c.stamp.ensures.written c.code.ensures (c.scn.ensures ∙ is.agrees.scn) room in
    let done : Result (Unit {0}) Fault = Ok tt in
    put_then done _ (g.H.Host.world c.raise_entry.new.host) _ _ c.raise_entry.new.store _ t p c.stamp.new.page _ (c.in_ok-raise_entry.ensures.tries t tells is) bytes tt
    (λ u opened. c.in_ok-write.ensures.makes u tells opened) (λ u opened. tt)

pub returns-in_err-write-clause-tries : goal.returns-in_err-write-clause-tries
returns-in_err-write-clause-tries g c t payload tells is room filled =
    let image = t.base.image in
    let p : ℕ = c.args.number in
    let kind : ℕ = code_of c.args.kind in
    let failed : Result (Unit {0}) Fault = Err (as_fault c.in_err-write.field-0.0) in
    let bytes = stamped_page image p c.code.result kind c.scn.result payload c.args.page.now c.stamp.new.page filled c.stamp.ensures.written c.code.ensures (c.scn.ensures ∙ is.agrees.scn) room in
    tries_passed c.from_residual-in_err-write.result (as_fault c.in_err-write.field-0.0)
    (λ r. Tries r (g.H.Host.world c.args.host.now) (g.H.Host.world c.write.new.host) c.args.store.now c.write.new.self t (entry_cause image p) (page_strokes image p kind payload)) c.from_residual-in_err-write.ensures
    (put_then failed _ (g.H.Host.world c.raise_entry.new.host) _ _ c.raise_entry.new.store _ t p c.stamp.new.page _ (c.in_ok-raise_entry.ensures.tries t tells is) bytes (none_refused c.in_err-write.field-0.0)
    (λ u opened. c.in_err-write.ensures.makes u tells opened)
    (λ u opened. wanted_by (Unit {0}) (Unit {0}) c.in_err-write.field-0.0 _ (λ e. c.in_err-write.ensures.on_memory u tells opened e)))

pub returns-in_err-write-clause-cause : goal.returns-in_err-write-clause-cause
returns-in_err-write-clause-cause g c =
    counts_passed c.from_residual-in_err-write.result c.in_err-write.field-0.0 c.from_residual-in_err-write.ensures (Unit {0}) _ _ _ c.in_ok-raise_entry.ensures.cause c.in_err-write.ensures.cause

pub returns-in_err-write-clause-takes_none : goal.returns-in_err-write-clause-takes_none
returns-in_err-write-clause-takes_none g c unstalled =
    none_wanted c.from_residual-in_err-write.result c.in_err-write.field-0.0 c.from_residual-in_err-write.ensures
    (c.in_err-write.ensures.takes_none (λ one. unstalled (sym c.in_ok-raise_entry.ensures.goes.state ∙ one)))

pub write-requires-clause-low : goal.write-requires-clause-low
write-requires-clause-low g c = omega (arith, c.requires.inside, c.in_ok-raise_entry.ensures.goes.longer)
