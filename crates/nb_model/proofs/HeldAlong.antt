-- A page that is held stays along the strokes that put another page, take one, and make a new one.
use Rattle.std.proofs.Common.{◌≡◌, ◌≢◌, ℕ, zero, suc, ◌/◌, ◌<◌, ◌≤◌, List, [], ◌∷◌, length, drop, refl, sym, ap, subst, ◌∙◌, arith, Bool, true, false, ◌==◌}
use Rattle.nb_model.proofs.Common.{true≢false, or_parts, bit_of, bits_in, is_system_place, inventory_kind, Base, Draft, drafted, is_kind, put, with_bit, set_bit, take_page, inventory_of, bit_number, lowest_free, system_kind, system_payload, system_page, new_within, Page, Image, page_at, image_size, Stroke, on_base, base_after}
use Rattle.nb_model.proofs.Along.{Along, along_append, put_along}
use Rattle.nb_model.proofs.DraftJoin.{joined_new}
use Rattle.nb_model.proofs.DraftLaws.{IsOf, drafted_is, drafts_are, put_keeps, system_keeps, set_bit_keeps}
use Rattle.nb_model.proofs.FitLaws.{IsWhole, AreFitting, form_page, whole_one, stays_one}
use Rattle.nb_model.proofs.HeldLaws.{IsHeld, set_bit_is, held_put, held_bit, held_system, held_round, lowest_other}
use Rattle.nb_model.proofs.NewSound.{inventory_before}
use Rattle.nb_model.proofs.PutSound.{IsPlace}
use Rattle.nb_model.proofs.RoundLaws.{IsFound, round, no_place, kind_found, system_well, system_low, round_strokes, round_well, plain_well, plain_low, last_strokes, found, new_more, new_last}
use Rattle.nb_model.proofs.SlotPuts.{raised_keeps}
use Rattle.nb_model.proofs.SoundLaws.{inventory_there, inventory_place_some}

-- a draft of an image is that of each base with it
pub of_base : (P : Draft → Type 0) (b : Base) (x : Image) → b.image ≡ x → P (drafted b.image) → P (drafted x)
of_base P b x e h = subst (λ (y : Image). P (drafted y)) e h

module _ (q : ℕ) (bytes : Page) where
  abbrev HeldAlong : Base → List Stroke → Type 0
  HeldAlong b ss = Along (IsHeld q bytes) b ss

  -- Another page is put.
  pub put_held_along : (b : Base) (x : Image) (h : IsWhole x) (p kind : ℕ) (payload : List ℕ) → b.image ≡ x → IsPlace x p → q ≢ p
      → (inventory_of x q ≡ p → bit_of (form_page p kind payload x) (bit_number x q) ≡ bit_of (page_at x p) (bit_number x q)) → IsHeld q bytes x → HeldAlong b (put p kind payload (drafted x)).strokes
  put_held_along b x h p kind payload e at other bits held = put_along (IsHeld q bytes) b x p kind payload e held (raised_keeps x h p at q bytes held) (held_put q bytes x h p kind payload at other bits held)

  -- The bit of another page is written.
  pub bit_held_along : (b : Base) (x : Image) (h : IsWhole x) (bit p : ℕ) → b.image ≡ x → bit ≤ 1 → 2 ≤ p → p < length x → q ≢ p → IsHeld q bytes x → HeldAlong b (set_bit bit p (drafted x)).strokes
  bit_held_along b x h bit p e small two low other held =
      subst (λ (d : Draft). HeldAlong b d.strokes) (sym set_is)
      (put_along (IsHeld q bytes) b x i 2 row e held (raised_keeps x h i at q bytes held) (subst (λ (d : Draft). IsHeld q bytes d.image) set_is (held_bit q bytes x h bit p small two low other held)))
    where
      i : ℕ
      i = inventory_of x p

      row : List ℕ
      row = drop 16 (with_bit (bit_number x p) bit (page_at x i))

      i_low : i < length x
      i_low = let before = inventory_before (image_size x) p h.fields.size two in omega (arith, before, low)

      at : IsPlace x i
      at = record { behind = inventory_place_some (image_size x) (p / bits_in (image_size x)) h.fields.size; there = omega (arith, i_low); most = let most = h.sound.most in omega (arith, i_low, most) }

      set_is : set_bit bit p (drafted x) ≡ put i inventory_kind row (drafted x)
      set_is = set_bit_is bit p x (kind_found x inventory_kind i i_low (h.sound.sound.system.inventories i i_low (inventory_there (image_size x) (p / bits_in (image_size x)) h.fields.size)))

  -- A system page is there, or is made.
  system_held_along : (b : Base) (x : Image) (h : IsWhole x) (p : ℕ) → b.image ≡ x → IsPlace x p → is_system_place (image_size x) p ≡ true → IsHeld q bytes x → HeldAlong b (system_page p (drafted x)).strokes
  unfolding system_page
  system_held_along b x h p e at place held = by (is_kind x (system_kind x p) p) (held_system q bytes x h p at place held)
    where
      by : (t : Bool) → IsHeld q bytes (elim t as (λ z. Draft) [ true ↦ drafted x | false ↦ put p (system_kind x p) (system_payload x p) (drafted x) ]).image
          → HeldAlong b (elim t as (λ z. Draft) [ true ↦ drafted x | false ↦ put p (system_kind x p) (system_payload x p) (drafted x) ]).strokes
      by true last = subst (IsHeld q bytes) (sym e) held
      by false last = put_along (IsHeld q bytes) b x p (system_kind x p) (system_payload x p) e held (raised_keeps x h p at q bytes held) last

  -- A round of the search for a new page.
  round_held_along : (b : Base) (x : Image) (h : IsWhole x) (p : ℕ) → b.image ≡ x → (at : IsPlace x p) (place : is_system_place (image_size x) p ≡ true) → 2 ≤ p → IsHeld q bytes x → HeldAlong b (round p x).strokes
  round_held_along b x h p e at place two held =
      let made : Draft = system_page p (drafted x) in
      let mid : (base_after b made.strokes).image ≡ made.image = (of_base (λ d. IsOf b (system_page p d)) b x e (system_keeps (IsOf b) (drafts_are b) p (drafted b.image) (drafted_is b))).is in
      subst (HeldAlong b) (sym (round_strokes x h p at place two))
      (along_append (IsHeld q bytes) b made.strokes (take_page p (drafted made.image)).strokes (system_held_along b x h p e at place held)
      (bit_held_along (base_after b made.strokes) made.image (system_well x h p at place) 0 p mid (omega arith) two (system_low x h p at place)
      (λ same. true≢false (sym place ∙ ap (is_system_place (image_size x)) (sym same) ∙ held.plain)) (held_system q bytes x h p at place held)))

  -- A new page is made.
  pub new_held_along : (tries kind : ℕ) (payload : ℕ → List ℕ) (b : Base) (x : Image) → b.image ≡ x → IsWhole x → (kind == 0) ≡ false → ((p : ℕ) → length (payload p) ≤ 1008)
      → (new_within tries kind payload (drafted x)).0.full ≡ false → IsHeld q bytes x → HeldAlong b (new_within tries kind payload (drafted x)).0.strokes
  new_held_along zero kind payload b x e h some room left held = absurd (omega (arith, (found x h kind payload zero left).tries_is))
  new_held_along (suc tries) kind payload b x e h some room left held = by (λ c y same well full there. new_held_along tries kind payload c y same well some room full there) (is_system_place (image_size x) p) refl
    where
      p : ℕ
      p = lowest_free x

      f : IsFound x (suc tries) p
      f = found x h kind payload (suc tries) left

      two : 2 ≤ p
      two = omega (arith, f.five)

      more : Draft × ℕ
      more = new_within tries kind payload (drafted (round p x).image)

      by : ((c : Base) (y : Image) → c.image ≡ y → IsWhole y → (new_within tries kind payload (drafted y)).0.full ≡ false → IsHeld q bytes y → HeldAlong c (new_within tries kind payload (drafted y)).0.strokes) → (t : Bool) → is_system_place (image_size x) p ≡ t
          → HeldAlong b (new_within (suc tries) kind payload (drafted x)).0.strokes
      by rest true place =
          let is : new_within (suc tries) kind payload (drafted x) ≡ joined_new (round p x) more = new_more x h kind payload tries f.at.most place in
          let full : more.0.full ≡ false = (or_parts more.0.full (round p x).full (ap (λ (d : Draft × ℕ). d.0.full) (sym is) ∙ left)).0 in
          let mid : (base_after b (round p x).strokes).image ≡ (round p x).image =
          (of_base (λ d. IsOf b (take_page p (system_page p d))) b x e (set_bit_keeps (IsOf b) (drafts_are b) 0 p (system_page p (drafted b.image)) (system_keeps (IsOf b) (drafts_are b) p (drafted b.image) (drafted_is b)))).is in
          subst (λ (d : Draft × ℕ). HeldAlong b d.0.strokes) (sym is)
          (along_append (IsHeld q bytes) b (round p x).strokes more.0.strokes (round_held_along b x h p e f.at place two held)
          (rest (base_after b (round p x).strokes) (round p x).image mid (round_well x h p f.at place two) full (held_round q bytes x h p f.at place two held)))
      by rest false place =
          let d : Draft = put p kind (payload p) (drafted x) in
          let other : q ≢ p = lowest_other q bytes x h held in
          let away = λ (same : inventory_of x q ≡ p). absurd ((no_place x h p place).0 (q / bits_in (image_size x)) (sym same)) in
          let mid : (base_after b d.strokes).image ≡ d.image = (of_base (λ z. IsOf b (put p kind (payload p) z)) b x e (put_keeps (IsOf b) (drafts_are b) p kind (payload p) (drafted b.image) (drafted_is b))).is in
          subst (λ (z : Draft × ℕ). HeldAlong b z.0.strokes) (sym (new_last x h kind payload tries f.at.most place))
          (subst (HeldAlong b) (sym (last_strokes x h p kind (payload p) f.at place some (room p)))
          (along_append (IsHeld q bytes) b d.strokes (take_page p (drafted d.image)).strokes (put_held_along b x h p kind (payload p) e f.at other away held)
          (bit_held_along (base_after b d.strokes) d.image (plain_well x h p kind (payload p) f.at place some (room p)) 0 p mid (omega arith) two (plain_low x h p kind (payload p) f.at place some (room p)) other
          (held_put q bytes x h p kind (payload p) f.at other away held))))

-- What holds along strokes for each held page holds for all of them together.
pub each_along : (x : Image) (b : Base) (ss : List Stroke) → ((q : ℕ) (bytes : Page) → IsHeld q bytes x → Along (IsHeld q bytes) b ss) → Along (λ z. (q : ℕ) (bytes : Page) → IsHeld q bytes x → IsHeld q bytes z) b ss
each_along x b [] each = each
each_along x b (s ∷ ss) each = ((λ q bytes held. (each q bytes held).0), each_along x (on_base s b) ss (λ q bytes held. (each q bytes held).1))

-- Strokes that fit make the image no shorter.
pub longer_along : (K : Page → Type 0) (n : ℕ) (b : Base) (ss : List Stroke) → AreFitting K b ss → IsWhole b.image → n ≤ length b.image → Along (λ z. n ≤ length z) b ss
longer_along K n b [] fits h less = less
longer_along K n b (s ∷ ss) fits h less = (less, longer_along K n (on_base s b) ss fits.1 (whole_one K s b fits.0 h) (omega (arith, less, (stays_one K s b fits.0 h).longer)))

pub both_along : (Q R : Image → Type 0) (b : Base) (ss : List Stroke) → Along Q b ss → Along R b ss → Along (λ z. Q z × R z) b ss
both_along Q R b [] q r = (q, r)
both_along Q R b (s ∷ ss) q r = ((q.0, r.0), both_along Q R (on_base s b) ss q.1 r.1)

-- what holds along for each page with a property holds for all of them
pub these_along : (P : ℕ → Type 0) (x : Image) (b : Base) (ss : List Stroke) → ((q : ℕ) (bytes : Page) → P q → IsHeld q bytes x → Along (IsHeld q bytes) b ss) → Along (λ z. (q : ℕ) (bytes : Page) → P q → IsHeld q bytes x → IsHeld q bytes z) b ss
these_along P x b [] each = each
these_along P x b (s ∷ ss) each = ((λ q bytes p held. (each q bytes p held).0), these_along P x (on_base s b) ss (λ q bytes p held. (each q bytes p held).1))
