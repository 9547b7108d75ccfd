use Rattle.std.proofs.Common.{◌≡◌, ◌/◌, ℕ, ◌%◌, [], ◌∷◌, ap, subst, ◌∙◌, arith, sym, IsTrue, None, Result, Ok, Err, IfErr}
use Rattle.nb_alloc.proofs.Common.{as_fault, Fault, World, Held, IsOpen, Trail, Makes, IsNoRefusal, Page, page_at, not_kind, inventory_kind, is_page_size, image_size, bits_in, inventory_place, Image, inventory_of, bit_number, inventory_place_some, none_refused, Tries, WhereMemory, entry_cause, raise_strokes, bit_for, bit_stroke, mark_cause, mark_stroke, mark_strokes, counts_passed, none_wanted}
use Rattle.nb_alloc.proofs.TestLaws.{inventory_place_is}
use Rattle.nb_alloc.proofs.MarkLaws.{plain, entries_some, mark_stroke-after}
use Rattle.nb_alloc.proofs.DoesLaws.{tries_passed, tries_front}
use Rattle.nb_alloc.proofs.PageLaws.{then_page, bit_at, mark_tries}
use Rattle.nb_alloc.proofs.WantLaws.{Stays, wanted_by}
use Rattle.nb_alloc.proofs.bit.put_map.Goals as goal

-- The entry was raised, and then the bit was to be put.
marked : (result : Result (Unit {0}) Fault) (old mid new : World) (a b d : Held) (t : Trail) (p bit size k index place : ℕ) (map : Page) → not_kind t.base.image inventory_kind (inventory_of t.base.image p) ≡ None → map ≡ page_at t.base.image (inventory_of t.base.image p)
    → IsTrue (is_page_size size) → size ≡ image_size t.base.image → k ≡ p / bits_in size → index ≡ p % bits_in size → place ≡ inventory_place size k → IfErr result IsNoRefusal → Tries {T = Unit {0}} (Ok tt) old mid a b t (entry_cause t.base.image place) (raise_strokes t.base.image place)
    → ((u : Trail) → IsOpen mid b u → map ≡ page_at u.base.image place → Makes result mid new b d u (bit_stroke u.base.image place index bit ∷ [])) → ((u : Trail) → IsOpen mid b u → WhereMemory result (Stays mid new b d u)) → Tries result old new a d t (mark_cause t.base.image p) (mark_strokes t.base.image p bit)
marked result old mid new a b d t p bit size k index place map form read sized same k_is index_is place_is sure raised writes stays =
    let image : Image = t.base.image in
    let some = entries_some size image sized same in
    let at = inventory_place_is image size p place k place_is k_is same in
    let first = subst (λ (q : ℕ). Tries {T = Unit {0}} (Ok tt) old mid a b t (entry_cause image q) (raise_strokes image q)) at raised in
    let bits = λ (x : Image). bit_stroke x (inventory_of image p) (bit_number image p) bit in
    mark_tries result old new a d t p bit form some
    (then_page old mid a b t (inventory_of image p) (plain t.base p form) some first result new d map bits read (mark_stroke-after image _ p bit) sure
    (bit_at result mid new b d map place (inventory_of image p) index (bit_number image p) bit at (index_is ∙ ap (λ (n : ℕ). p % bits_in n) same) writes) stays)

pub write_bit-requires-clause-low : goal.write_bit-requires-clause-low
write_bit-requires-clause-low g c = omega (arith, c.place_of-place.ensures, inventory_place_some c.page_size-page_size.result c.covers-k.result.0 c.page_size-page_size.ensures.one_of)

pub returns-in_err-raise_entry-clause-tries : goal.returns-in_err-raise_entry-clause-tries
returns-in_err-raise_entry-clause-tries g c t tells is form read =
    let image = t.base.image in
    let bit = bit_for c.args.free in
    let old = g.H.Host.world c.args.host.now in
    let new = g.H.Host.world c.raise_entry.new.host in
    let fault = c.in_err-raise_entry.field-0.0 in
    let size = c.page_size-page_size.ensures.value ∙ is.files.agrees.page_size in
    let at = inventory_place_is image _ c.args.number _ _ c.place_of-place.ensures c.covers-k.ensures.number size in
    let first = subst (λ (q : ℕ). Tries {T = Unit {0}} (Err fault) old new c.args.store.now c.raise_entry.new.store t (entry_cause image q) (raise_strokes image q)) at (c.in_err-raise_entry.ensures.tries t tells is) in
    tries_passed c.from_residual.result fault (λ r. Tries r old new c.args.store.now c.raise_entry.new.store t (mark_cause image c.args.number) (mark_strokes image c.args.number bit)) c.from_residual.ensures
    (mark_tries {T = Unit {0}} (Err fault) _ _ _ _ t c.args.number bit form (entries_some _ image c.page_size-page_size.ensures.one_of size)
    (tries_front (Unit {0}) (Unit {0}) fault _ _ _ _ t _ (raise_strokes image (inventory_of image c.args.number)) (mark_stroke image c.args.number bit ∷ []) first))

pub returns-clause-tries : goal.returns-clause-tries
returns-clause-tries g c t tells is form read =
    marked (Ok tt) (g.H.Host.world c.args.host.now) (g.H.Host.world c.raise_entry.new.host) (g.H.Host.world c.write_bit.new.host) c.args.store.now c.raise_entry.new.store c.write_bit.new.store t c.args.number (bit_for c.args.free) c.page_size-page_size.result c.covers-k.result.0 c.covers-k.result.1 c.place_of-place.result c.args.map.now form read
    c.page_size-page_size.ensures.one_of (c.page_size-page_size.ensures.value ∙ is.files.agrees.page_size) c.covers-k.ensures.number c.covers-k.ensures.index c.place_of-place.ensures tt (c.in_ok-raise_entry.ensures.tries t tells is) (λ u opened is. c.in_ok-write_bit.ensures.makes u tells opened is) (λ u opened. tt)

pub returns-in_err-write_bit-clause-tries : goal.returns-in_err-write_bit-clause-tries
returns-in_err-write_bit-clause-tries g c t tells is form read =
    let fault = as_fault c.in_err-write_bit.field-0.0 in
    tries_passed c.from_residual-in_err-write_bit.result fault
    (λ r. Tries r (g.H.Host.world c.args.host.now) (g.H.Host.world c.write_bit.new.host) c.args.store.now c.write_bit.new.store t (mark_cause t.base.image c.args.number) (mark_strokes t.base.image c.args.number (bit_for c.args.free))) c.from_residual-in_err-write_bit.ensures
    (marked (Err fault) (g.H.Host.world c.args.host.now) (g.H.Host.world c.raise_entry.new.host) (g.H.Host.world c.write_bit.new.host) c.args.store.now c.raise_entry.new.store c.write_bit.new.store t c.args.number (bit_for c.args.free) c.page_size-page_size.result c.covers-k.result.0 c.covers-k.result.1 c.place_of-place.result c.args.map.now form read
    c.page_size-page_size.ensures.one_of (c.page_size-page_size.ensures.value ∙ is.files.agrees.page_size) c.covers-k.ensures.number c.covers-k.ensures.index c.place_of-place.ensures (none_refused c.in_err-write_bit.field-0.0) (c.in_ok-raise_entry.ensures.tries t tells is) (λ u opened is. c.in_err-write_bit.ensures.makes u tells opened is)
    (λ u opened. wanted_by (Unit {0}) (Unit {0}) c.in_err-write_bit.field-0.0 _ (λ e. c.in_err-write_bit.ensures.on_memory u tells opened e)))

pub returns-in_err-write_bit-clause-cause : goal.returns-in_err-write_bit-clause-cause
returns-in_err-write_bit-clause-cause g c =
    counts_passed c.from_residual-in_err-write_bit.result c.in_err-write_bit.field-0.0 c.from_residual-in_err-write_bit.ensures (Unit {0}) _ _ _ c.in_ok-raise_entry.ensures.cause c.in_err-write_bit.ensures.cause

pub returns-in_err-write_bit-clause-takes_none : goal.returns-in_err-write_bit-clause-takes_none
returns-in_err-write_bit-clause-takes_none g c unstalled =
    none_wanted c.from_residual-in_err-write_bit.result c.in_err-write_bit.field-0.0 c.from_residual-in_err-write_bit.ensures
    (c.in_err-write_bit.ensures.takes_none (λ one. unstalled (sym c.in_ok-raise_entry.ensures.goes.state ∙ one)))

pub write_bit-requires-clause-inside : goal.write_bit-requires-clause-inside
write_bit-requires-clause-inside g c =
    let at = c.place_of-place.ensures ∙ ap (λ (k : ℕ). inventory_place c.page_size-page_size.result k) c.covers-k.ensures.number ∙ ap (λ (s : ℕ). inventory_place s (c.args.number / bits_in s)) c.page_size-page_size.ensures.value in
    omega (arith, at, c.requires.inside, c.in_ok-raise_entry.ensures.goes.longer)
