use Rattle.std.proofs.Common.{◌≡◌, ◌/◌, ◌<◌, List, sym, ap, subst, ◌∙◌, [], Bool, true, Ok, Err}
use Rattle.nb_alloc.proofs.Common.{as_fault, entries_in, scn_place, Stroke, Held, Makes, makes_none, none_refused, StopsShort, Tries, WhereMemory, must_raise, raise_stroke, raise_strokes, entry_cause, counts_passed, none_wanted}
use Rattle.nb_alloc.proofs.PutLaws.{raised_not, raised_once}
use Rattle.nb_alloc.proofs.DoesLaws.{tries_early, tries_passed, tries_made, tries_after}
use Rattle.nb_alloc.proofs.WantLaws.{short_first, wanted_by}
use Rattle.nb_alloc.proofs.put.raise_entry.Goals.{then-branch+in_ok-raise, else-branch}
use Rattle.nb_alloc.proofs.put.raise_entry.Goals as goal

pub raise-requires-clause-inside : goal.raise-requires-clause-inside
raise-requires-clause-inside g c =
    let asked = c.in_ok-must_raise.ensures in
    subst (λ (h : Held). scn_place h.files.page_size (c.args.number / entries_in h.files.page_size) < h.files.count) (sym asked.looks.same) (asked.below c.if-branch.true)

pub returns-in_err-must_raise-clause-tries : goal.returns-in_err-must_raise-clause-tries
returns-in_err-must_raise-clause-tries g c t tells is =
    let asked = c.in_err-must_raise.ensures in
    tries_early Bool (Unit {0}) _ _ _ _ _ _ t (entry_cause t.base.image c.args.number) _ _ c.from_residual.ensures asked.takes_none (λ r e. e) (asked.tells t tells is).test asked.looks.same asked.looks.quiet is (asked.looks.opened t tells is)

pub returns-in_err-raise-clause-tries : goal.returns-in_err-raise-clause-tries
returns-in_err-raise-clause-tries g c t tells is =
    let image = t.base.image in
    let p = c.args.number in
    let asked = c.in_ok-must_raise.ensures in
    let told = asked.tells t tells is in
    let must : must_raise image p ≡ true = sym told.value ∙ c.if-branch.true in
    let still = asked.looks.opened t tells is in
    let makes = c.in_err-raise.ensures.makes t tells still told.test must (told.page c.if-branch.true) in
    let fault = as_fault c.in_err-raise.field-0.0 in
    tries_passed c.from_residual-in_err-raise.result fault
    (λ r. Tries r (g.H.Host.world c.args.host.now) (g.H.Host.world c.raise.new.host) c.args.store.now c.raise.new.store t (entry_cause image p) (raise_strokes image p)) c.from_residual-in_err-raise.ensures
    (tries_after _ _ _ _ _ _ _ t _ _ asked.looks.same asked.looks.quiet is
    (tries_made _ _ _ _ _ t _ _ told.test (none_refused c.in_err-raise.field-0.0)
    (subst (λ (ss : List Stroke). Makes {T = Unit {0}} (Err fault) (g.H.Host.world c.must_raise.new.host) (g.H.Host.world c.raise.new.host) c.must_raise.new.store c.raise.new.store t ss) (sym (raised_once image p must)) makes)
    (subst (λ (ss : List Stroke). WhereMemory {T = Unit {0}} (Err fault) (StopsShort (g.H.Host.world c.must_raise.new.host) (g.H.Host.world c.raise.new.host) c.must_raise.new.store c.raise.new.store t ss)) (sym (raised_once image p must))
    (wanted_by (Unit {0}) (Unit {0}) c.in_err-raise.field-0.0 _ (λ e. short_first _ _ c.must_raise.new.store c.raise.new.store t (raise_stroke image p) [] (c.in_err-raise.ensures.on_memory t tells still e))))))

pub returns-clause-tries : goal.returns-clause-tries
returns-clause-tries g c t tells is =
    let image = t.base.image in
    let p = c.args.number in
    let asked = c.in_ok-must_raise.ensures in
    let told = asked.tells t tells is in
    let still = asked.looks.opened t tells is in
    elim c.if-branch.branch [
      | then-branch+in_ok-raise w ↦
          let must : must_raise image p ≡ true = sym told.value ∙ w.if-branch.true in
          let makes = w.in_ok-raise.ensures.makes t tells still told.test must (told.page w.if-branch.true) in
          rw (w.host-is, w.store-is)
          (tries_after {T = Unit {0}} (Ok tt) _ _ _ _ _ _ t _ _ asked.looks.same asked.looks.quiet is
          (tries_made {T = Unit {0}} (Ok tt) _ _ _ _ t _ _ told.test tt
          (subst (λ (ss : List Stroke). Makes {T = Unit {0}} (Ok tt) (g.H.Host.world c.must_raise.new.host) (g.H.Host.world w.raise.new.host) c.must_raise.new.store w.raise.new.store t ss) (sym (raised_once image p must)) makes) tt))
      | else-branch w ↦
          rw (w.host-is, w.store-is)
          (tries_made {T = Unit {0}} (Ok tt) _ _ _ _ t _ _ told.test tt
          (subst (λ (ss : List Stroke). Makes {T = Unit {0}} (Ok tt) (g.H.Host.world c.args.host.now) (g.H.Host.world c.must_raise.new.host) c.args.store.now c.must_raise.new.store t ss) (sym (raised_not image p (sym told.value ∙ w.if-branch.false)))
          (makes_none (Ok tt) _ _ _ _ t asked.looks.same asked.looks.quiet is still)) tt)
    ]

pub returns-in_err-raise-clause-cause : goal.returns-in_err-raise-clause-cause
returns-in_err-raise-clause-cause g c =
    counts_passed c.from_residual-in_err-raise.result c.in_err-raise.field-0.0 c.from_residual-in_err-raise.ensures (Unit {0}) _ _ _ c.in_ok-must_raise.ensures.cause c.in_err-raise.ensures.cause

pub returns-in_err-raise-clause-takes_none : goal.returns-in_err-raise-clause-takes_none
returns-in_err-raise-clause-takes_none g c unstalled =
    none_wanted c.from_residual-in_err-raise.result c.in_err-raise.field-0.0 c.from_residual-in_err-raise.ensures
    (c.in_err-raise.ensures.takes_none (λ one. unstalled (sym (ap (λ (h : Held). h.files.state) c.in_ok-must_raise.ensures.looks.same) ∙ one)))
