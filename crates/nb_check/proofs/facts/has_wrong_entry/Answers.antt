use Rattle.std.proofs.Common.{◌≡◌, ℕ, ◌/◌, ◌<◌, length, get_or, refl, sym, ap, subst, ◌∙◌, arith, IsTrue, Bool, true, ◌||◌, nat_lt}
use Rattle.nb_check.proofs.Common.{stamp_of, is_page_size, entries_in, is_scn_place, entries, page_at, image_size, image_scn, scn_entry, has_entry, lt_yes, lt_no}
use Rattle.nb_check.proofs.EntryLaws.{place_below, place_few, no_entry_first, no_entry_place, entry_there, wrong_none, wrong_here, wrong_short, entry_read}
use Rattle.nb_check.proofs.facts.has_wrong_entry.Goals as goal

pub returns-then-number-eq0 : goal.returns-then-number-eq0
returns-then-number-eq0 c image of stamp page = sym (wrong_none image c.args.number (no_entry_first image c.args.number c.if-number-eq0.true))

pub returns-then-is_scn_place : goal.returns-then-is_scn_place
returns-then-is_scn_place c image of stamp page =
    sym (wrong_none image c.args.number (no_entry_place image c.args.number (ap (λ (s : ℕ). is_scn_place s c.args.number) (sym of.size) ∙ sym c.is_scn_place.ensures ∙ c.if-is_scn_place.true)))

pub returns-then-extent-le2 : goal.returns-then-extent-le2
returns-then-extent-le2 c image of stamp page =
    let n : ℕ = c.args.number in
    let valid : IsTrue (is_page_size (image_size image)) = subst (λ (s : ℕ). IsTrue (is_page_size s)) of.size c.requires.size in
    let has : has_entry image n ≡ true = entry_there image n c.if-number-eq0.false (ap (λ (s : ℕ). is_scn_place s n) (sym of.size) ∙ sym c.is_scn_place.ensures ∙ c.if-is_scn_place.false) in
    sym (wrong_short image n has (omega (arith, c.requires.below, of.count)) (place_few (image_size image) valid (n / entries_in (image_size image)) (length image) (omega (arith, c.if-extent-le2.true, of.count))))

pub returns-then-entry-stamp : goal.returns-then-entry-stamp
returns-then-entry-stamp c image of stamp page =
    let n : ℕ = c.args.number in
    let valid : IsTrue (is_page_size (image_size image)) = subst (λ (s : ℕ). IsTrue (is_page_size s)) of.size c.requires.size in
    let has : has_entry image n ≡ true = entry_there image n c.if-number-eq0.false (ap (λ (s : ℕ). is_scn_place s n) (sym of.size) ∙ sym c.is_scn_place.ensures ∙ c.if-is_scn_place.false) in
    let more : 2 < length image = omega (arith, c.if-extent-le2.false, of.count) in
    let below : n < length image = omega (arith, c.requires.below, of.count) in
    let read : c.entry-entry.result ≡ scn_entry image n =
    c.entry-entry.ensures ∙ ap (λ (i : ℕ). get_or (entries c.args.entries.now) i 0) c.covers-k.ensures.index ∙ entry_read image n (length c.args.entries.now) c.args.entries.now c.requires.size of.size refl (page more) in
    sym (wrong_here image n has below (place_below (image_size image) valid n (length image) below more)
    ∙ ap (λ (t : Bool). t || nat_lt (image_scn image) (scn_entry image n)) (lt_yes (scn_entry image n) (stamp_of (page_at image n)) (omega (arith, c.if-entry-stamp.true, read, stamp))))

pub returns : goal.returns
returns c image of stamp page =
    let n : ℕ = c.args.number in
    let valid : IsTrue (is_page_size (image_size image)) = subst (λ (s : ℕ). IsTrue (is_page_size s)) of.size c.requires.size in
    let has : has_entry image n ≡ true = entry_there image n c.if-number-eq0.false (ap (λ (s : ℕ). is_scn_place s n) (sym of.size) ∙ sym c.is_scn_place.ensures ∙ c.if-is_scn_place.false) in
    let more : 2 < length image = omega (arith, c.if-extent-le2.false, of.count) in
    let below : n < length image = omega (arith, c.requires.below, of.count) in
    let read : c.entry-entry.result ≡ scn_entry image n =
    c.entry-entry.ensures ∙ ap (λ (i : ℕ). get_or (entries c.args.entries.now) i 0) c.covers-k.ensures.index ∙ entry_read image n (length c.args.entries.now) c.args.entries.now c.requires.size of.size refl (page more) in
    ap (λ (e : ℕ). nat_lt c.args.extent.scn e) read ∙ ap (λ (m : ℕ). nat_lt m (scn_entry image n)) of.scn
    ∙ sym (wrong_here image n has below (place_below (image_size image) valid n (length image) below more)
    ∙ ap (λ (t : Bool). t || nat_lt (image_scn image) (scn_entry image n)) (lt_no (scn_entry image n) (stamp_of (page_at image n)) (omega (arith, c.if-entry-stamp.false, read, stamp))))
