-- Where all that a new page needs of a place is of its kind, nothing is refused there, and the strokes are those of the draft.
use Rattle.std.proofs.Common.{◌≡◌, ◌≢◌, ℕ, ◌+◌, ◌-◌, ◌/◌, ◌<◌, ◌≤◌, List, [], ◌∷◌, ◌++◌, length, replicate, refl, sym, ap, subst, ◌∙◌, arith, Bool, true, false, not, IsTrue, None, nat_lt, Result, Ok, Err, IfErr}
use Rattle.nb_alloc.proofs.Common.{true≢false, is_page_size, bits_in, entries_in, inventory_place, is_scn_place, is_system_place, size_of, scn_of, stamped, SizeFacts, size_facts, Fault, Refused, Device, Memory, NotDatabase, Page, Image, page_at, image_size, image_scn, Base, Stroke, page, base_after, HasItsEntry, Draft, drafted, first_not, old_page, is_kind, inventory_of, scn_page_of, has_entry, raised, put, written, wrote, system_kind, system_payload, system_page, Cause, when, not_kind, maps_up_to, free_from_is, div_rises, bits-least, scn_place-some, inventory_kind, IsNoRefusal, inventory_before, scn_page_there, IsShaped, IsReady, IsPutOn, put_on, kind_moves, scn_page_moves, map_entry_before, entry_cause, raise_strokes, mark_cause, need_cause, RefusedFor, GoesOn, page_strokes, system_strokes, system_cause, round, behind, first_next, no_cause, none_some}
use Rattle.nb_alloc.proofs.NeedReads.{all_found}
use Rattle.nb_alloc.proofs.PutLaws.{Raises, draft_raised, raised_not, no_entry_cause, entry_cause-is, not_raised, scn_page-without}
use Rattle.nb_alloc.proofs.MakeLaws.{RaisesAlone, raise_alone, system_there, system_put, system_made, system_unmade, system_free, system_asks, payload_whole}
use Rattle.nb_alloc.proofs.PassLaws.{kept_there}

-- its SCN page is of its kind
pub entry_ready : (x : Image) (p : ℕ) → HasItsEntry x p → entry_cause x p ≡ None
entry_ready x p has = by (has_entry x p) refl
  where
    by : (t : Bool) → has_entry x p ≡ t → entry_cause x p ≡ None
    by false e = no_entry_cause x p e
    by true e = entry_cause-is x p e ∙ ap (λ (t : Bool). when (not t) (NotDatabase (scn_page_of x p))) (has e)

-- so are its inventory page and the SCN page of that
pub mark_ready : (x : Image) (p : ℕ) → is_kind x inventory_kind (inventory_of x p) ≡ true → HasItsEntry x (inventory_of x p) → mark_cause x p ≡ None
mark_ready x p map entry =
    first_next (not_kind x inventory_kind (inventory_of x p)) (entry_cause x (inventory_of x p) ∷ []) (ap (λ (t : Bool). when (not t) (NotDatabase (inventory_of x p))) map)
    ∙ first_next (entry_cause x (inventory_of x p)) [] (entry_ready x (inventory_of x p) entry) ∙ no_cause

-- they are so after a page that is put there
pub mark_put : (x : Image) (p kind : ℕ) (payload : List ℕ) → IsShaped x → IsReady x p → HasItsEntry x p → 5 ≤ p → p ≤ length x → 16 + length payload ≤ image_size x → mark_cause (put p kind payload (drafted x)).image p ≡ None
mark_put x p kind payload shaped ready own five below room =
    let y : Image = (put p kind payload (drafted x)).image in
    let on : IsPutOn x y p kind payload = (put_on x p kind payload shaped own (omega (arith, five)) below room).on in
    let i : ℕ = inventory_of x p in
    let same : inventory_of y p ≡ i = ap (λ (s : ℕ). inventory_place s (p / bits_in s)) on.size in
    let before : i < p = inventory_before (image_size x) p shaped.size (omega (arith, five)) in
    let entry_before : scn_page_of x i < p = map_entry_before x p shaped.size (omega (arith, five)) in
    let long = on.long in
    let longer : length x ≤ length y = omega (arith, long) in
    mark_ready y p
    (subst (λ (q : ℕ). is_kind y inventory_kind q ≡ true) (sym same) (kind_moves x y 2 i longer (on.kinds i (λ e. absurd (omega (arith, e, before)))) ready.map))
    (subst (HasItsEntry y) (sym same)
    (scn_page_moves x y i on.size (kind_moves x y 10 (scn_page_of x i) longer (on.kinds (scn_page_of x i) (λ e. absurd (omega (arith, e, entry_before))))) ready.map_entry))

-- where the entry isn't refused, the strokes of a page are those of the draft
module _ (b : Base) (p kind : ℕ) (payload : List ℕ) (size : IsTrue (is_page_size (image_size b.image))) (none : entry_cause b.image p ≡ None) where
  abbrev before : Draft
  before = raised p (drafted b.image)

  abbrev over : Page → ℕ → List Stroke
  over old scn = raise_strokes b.image p ++ page p (stamped old kind payload scn p) ∷ []

  drafted_is : (put p kind payload (drafted b.image)).strokes ≡ before.strokes ++ page p (stamped (old_page p before.image) kind payload (image_scn before.image) p) ∷ []
  unfolding put written wrote
  drafted_is = refl

  old_same : (x y : Image) → length y ≡ length x → page_at y p ≡ page_at x p → page_at y 0 ≡ page_at x 0 → old_page p y ≡ old_page p x
  unfolding old_page
  old_same x y long here first =
      ap (λ (n : ℕ). elim (nat_lt p n) as (λ z. Page) [ true ↦ page_at y p | false ↦ replicate (size_of (page_at y 0)) 0 ]) long
      ∙ ap (λ (q : Page). elim (nat_lt p (length x)) as (λ z. Page) [ true ↦ q | false ↦ replicate (size_of (page_at y 0)) 0 ]) here
      ∙ ap (λ (q : Page). elim (nat_lt p (length x)) as (λ z. Page) [ true ↦ page_at x p | false ↦ replicate (size_of q) 0 ]) first

  no_stroke : (base_after b []).image ≡ b.image
  unfolding base_after
  no_stroke = refl

  as_before : before.image ≡ (base_after b (raise_strokes b.image p)).image → over (old_page p before.image) (image_scn before.image) ≡ over (old_page p b.image) (image_scn b.image)
  as_before is = by (has_entry b.image p) refl
    where
      by : (t : Bool) → has_entry b.image p ≡ t → over (old_page p before.image) (image_scn before.image) ≡ over (old_page p b.image) (image_scn b.image)
      by false e = ap (λ (x : Image). over (old_page p x) (image_scn x)) (is ∙ ap (λ (ss : List Stroke). (base_after b ss).image) (raised_not b.image p (not_raised b.image p e)) ∙ no_stroke)
      by true e =
          let alone : RaisesAlone b.image before.image p = subst (λ (x : Image). RaisesAlone b.image x p) (sym is) (raise_alone b p none) in
          let q : ℕ = scn_page_of b.image p in
          let at : is_scn_place (image_size b.image) q ≡ true = scn_page_there (image_size b.image) (p / entries_in (image_size b.image)) size in
          let other : p ≢ q = λ same. absurd (true≢false (sym e ∙ scn_page-without b.image p (image_size b.image) refl (ap (is_scn_place (image_size b.image)) same ∙ at))) in
          let first : page_at before.image 0 ≡ page_at b.image 0 = alone.others 0 (λ same. absurd (omega (arith, same, scn_place-some (image_size b.image) (p / entries_in (image_size b.image)) size))) in
          ap (λ (old : Page). over old (image_scn before.image)) (old_same b.image before.image alone.long (alone.others p other) first) ∙ ap (λ (q : Page). over (old_page p b.image) (scn_of q)) first

  pub page_strokes_are : page_strokes b.image p kind payload ≡ (put p kind payload (drafted b.image)).strokes
  page_strokes_are =
      let d : Raises b p before = draft_raised b p none in
      sym (drafted_is ∙ ap (λ (ss : List Stroke). ss ++ page p (stamped (old_page p before.image) kind payload (image_scn before.image) p) ∷ []) d.strokes ∙ as_before d.image)

-- a system page is made at its place
module _ (b : Base) (p : ℕ) (shaped : IsShaped b.image) (ready : IsReady b.image p) (five : 5 ≤ p) (below : p ≤ length b.image) (system : is_system_place (image_size b.image) p ≡ true) where
  abbrev kind : ℕ
  kind = system_kind b.image p

  own : is_kind b.image kind p ≡ false → HasItsEntry b.image p
  own e = ready.entry (kept_there b.image p false system e)

  pub system_clear : system_cause b.image p ≡ None
  system_clear = by (is_kind b.image kind p) refl
    where
      by : (t : Bool) → is_kind b.image kind p ≡ t → system_cause b.image p ≡ None
      by true e = system_free b.image p e
      by false e = system_asks b.image p e ∙ entry_ready b.image p (own e)

  pub system_drafted : system_strokes b.image p ≡ (system_page p (drafted b.image)).strokes
  system_drafted = by (is_kind b.image kind p) refl
    where
      by : (t : Bool) → is_kind b.image kind p ≡ t → system_strokes b.image p ≡ (system_page p (drafted b.image)).strokes
      by true e = system_made b.image p e ∙ sym (system_there b.image p e)
      by false e = system_unmade b.image p e ∙ page_strokes_are b p kind (system_payload b.image p) shaped.size (entry_ready b.image p (own e)) ∙ sym (system_put b.image p e)

  pub system_marks : mark_cause (system_page p (drafted b.image)).image p ≡ None
  unfolding system_page
  system_marks = by (is_kind b.image kind p) refl
    where
      facts : SizeFacts (image_size b.image)
      facts = size_facts (image_size b.image) shaped.size

      by : (t : Bool) → is_kind b.image kind p ≡ t → mark_cause (elim t as (λ z. Draft) [ true ↦ drafted b.image | false ↦ put p kind (system_payload b.image p) (drafted b.image) ]).image p ≡ None
      by true e = mark_ready b.image p ready.map ready.map_entry
      by false e = mark_put b.image p kind (system_payload b.image p) shaped ready (own e) five below (omega (arith, facts.at_least, payload_whole b.image p shaped.size))

-- After it the search goes on by inventory pages of their kind.
module _ (image : Image) (p : ℕ) where
  abbrev after : Image
  after = (round image p).image

  pub next_map : GoesOn image p → not_kind after inventory_kind (inventory_of after (behind image p)) ≡ None
  next_map on = ap (λ (t : Bool). when (not t) (NotDatabase (inventory_of after (behind image p)))) (on.maps (behind image p / bits_in (image_size after)) (omega arith))

  pub next_maps : IsTrue (is_page_size (image_size after)) → GoesOn image p → need_cause (first_not after (maps_up_to after (p + 1) (behind image p))) ≡ None
  next_maps size on =
      let w : ℕ = bits_in (image_size after) in
      let low : p + 1 ≤ behind image p = (free_from_is (length after - (p + 1)) (p + 1) after).low in
      ap need_cause (all_found after (image_size after) ((p + 1) / w) (behind image p / w) (div_rises (p + 1) (behind image p) w (omega (arith, bits-least (image_size after) size)) low) (λ i from high. on.maps i high))

-- a test without a cause refused nothing
pub sure_refused : {T : Type 0} (result : Result T Fault) (cause : Cause) → cause ≡ None → RefusedFor result cause → IfErr result IsNoRefusal
sure_refused (Ok value) cause none tested = tt
sure_refused (Err (Refused r)) cause none tested = absurd (none_some r (sym none ∙ tested))
sure_refused (Err Device) cause none tested = tt
sure_refused (Err Memory) cause none tested = tt
