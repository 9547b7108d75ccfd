use Rattle.std.proofs.Common.{◌≡◌, ℕ, ◌-◌, ◌/◌, ◌%◌, ◌<◌, ◌≤◌, length, refl, sym, ap, subst, ◌∙◌, arith, IsTrue, nat_lt, slice_index}
use Rattle.nb_check.proofs.Common.{is_page_size, entries_in, scn_place, entries, page_at, image_size, scn_page_of, scn_entry}
use Rattle.nb_check.proofs.EntryLaws.{place_few, place_other, place_same, plain_past, entry_there, wrong_past, wrong_far, entry_read}
use Rattle.nb_check.proofs.facts.has_late_entry.Goals as goal

pub returns-then-extent-le2 : goal.returns-then-extent-le2
returns-then-extent-le2 c image of page =
    let p : ℕ = c.args.number in
    let valid : IsTrue (is_page_size (image_size image)) = subst (λ (s : ℕ). IsTrue (is_page_size s)) of.size c.requires.size in
    sym (wrong_far image p (omega (arith, c.requires.past, of.count)) (place_few (image_size image) valid (p / entries_in (image_size image)) (length image) (omega (arith, c.if-extent-le2.true, of.count))))

pub returns-then-number-each : goal.returns-then-number-each
returns-then-number-each c image of page =
    let p : ℕ = c.args.number in
    let valid : IsTrue (is_page_size (image_size image)) = subst (λ (s : ℕ). IsTrue (is_page_size s)) of.size c.requires.size in
    let past : length image ≤ p = omega (arith, c.requires.past, of.count) in
    let more : 2 < length image = omega (arith, c.if-extent-le2.false, of.count) in
    let each : c.entries_in-each.result ≡ entries_in (image_size image) = c.entries_in-each.ensures.value ∙ ap entries_in of.size in
    sym (wrong_far image p past (place_other (image_size image) valid p (length image) past more (λ e.
    c.if-number-each.true (ap (λ (m : ℕ). p / m) each ∙ e ∙ sym (ap (λ (m : ℕ). (c.args.extent.count - 1) / m) each ∙ ap (λ (k : ℕ). (k - 1) / entries_in (image_size image)) of.count)))))

pub returns : goal.returns
returns c image of page =
    let p : ℕ = c.args.number in
    let valid : IsTrue (is_page_size (image_size image)) = subst (λ (s : ℕ). IsTrue (is_page_size s)) of.size c.requires.size in
    let past : length image ≤ p = omega (arith, c.requires.past, of.count) in
    let more : 2 < length image = omega (arith, c.if-extent-le2.false, of.count) in
    let each : c.entries_in-each.result ≡ entries_in (image_size image) = c.entries_in-each.ensures.value ∙ ap entries_in of.size in
    let last : (c.args.extent.count - 1) / entries_in (image_size image) ≡ (length image - 1) / entries_in (image_size image) = ap (λ (k : ℕ). (k - 1) / entries_in (image_size image)) of.count in
    let same : p / entries_in (image_size image) ≡ (length image - 1) / entries_in (image_size image) =
    sym (ap (λ (m : ℕ). p / m) each) ∙ c.if-number-each.false ∙ ap (λ (m : ℕ). (c.args.extent.count - 1) / m) each ∙ last in
    let at : scn_page_of image (c.args.extent.count - 1) ≡ scn_page_of image p = ap (scn_place (image_size image)) (last ∙ sym same) in
    let read : slice_index (entries c.args.entries.now) (p % c.entries_in-each.result) ≡ scn_entry image p =
    ap (λ (m : ℕ). slice_index (entries c.args.entries.now) (p % m)) c.entries_in-each.ensures.value
    ∙ entry_read image p (length c.args.entries.now) c.args.entries.now c.requires.size of.size refl (page more ∙ ap (page_at image) at) in
    ap (λ (e : ℕ). nat_lt c.args.extent.scn e) (c.entry.ensures ∙ read) ∙ ap (λ (m : ℕ). nat_lt m (scn_entry image p)) of.scn
    ∙ sym (wrong_past image p (entry_there image p (λ e. absurd (omega (arith, e, past, more))) (plain_past (image_size image) valid p (length image) past more same)) past (place_same (image_size image) valid p (length image) more same))
