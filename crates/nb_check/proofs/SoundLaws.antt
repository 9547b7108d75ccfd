-- Inventories are sound exactly where no fact is broken.
use Rattle.std.proofs.Common.{◌≡◌, inl, inr, ℕ, ◌<◌, ◌≤◌, length, refl, sym, ap, ◌∙◌, arith, IsTrue, IsSome, Bool, true, false, Option, Some, None, ◌&&◌, ◌||◌, ◌==◌, not, nat_lt, nat_le}
use Rattle.nb_check.proofs.Common.{and_parts, and_from, or_parts, or_cases, cases_Bool, cases_lt, false_from_ne_true, true≢false, ltb-true, ltb-false, leb-true, leb-false, eqb-true, not_from_false, is_zeros, kind_of, stamp_of, is_page_size, is_inventory_place, is_scn_place, most_pages, inventory_kind, scn_kind, Image, page_at, first_page, image_size, image_scn, inventory_of, scn_page_of, scn_entry, has_entry, is_free_page, SoundInventory, IsSoundImage, IsOfSize, eq_yes, lt_yes, all_from, all_at, Unsound, broken_at, History, pages_of, chains, no_first, in_chain, first_found, unsound_by, chains_cause, check_cause, Fact, BlankPage, SystemPlace, TakenPast, LateStamp, WrongEntry, HeaderStamp, breaks, unsound, is_entry_low, is_entry_late, le_yes, not_false, some_none}
use Rattle.nb_check.proofs.BreakLaws.{breaks_below, none_unsound, unsound_none}

-- one half of a test
other_half : (a b : Bool) → (a && b) ≡ false → a ≡ true → b ≡ false
other_half true b fails holds = fails
other_half false b fails holds = absurd (true≢false (sym holds))

-- where no fact is broken
module _ (image : Image) (valid : IsTrue (is_page_size (image_size image))) (none : unsound image ≡ None) where
  none_at : (f : Fact) (p : ℕ) → breaks image f p ≡ false
  none_at f p = elim (cases_Bool (breaks image f p)) [
    | inl holds ↦ none_unsound image none f p (breaks_below image valid f p holds)
    | inr fails ↦ fails
  ]

  blank : (p : ℕ) → p < length image → is_zeros (page_at image p) ≡ false
  unfolding breaks
  blank p low = other_half _ _ (none_at BlankPage p) (lt_yes p (length image) low)

  place : (p : ℕ) → p < length image → ((is_inventory_place (image_size image) p && not (kind_of (page_at image p) == inventory_kind)) || (is_scn_place (image_size image) p && not (kind_of (page_at image p) == scn_kind))) ≡ false
  unfolding breaks
  place p low = other_half _ _ (none_at SystemPlace p) (lt_yes p (length image) low)

  entry : (p : ℕ) → has_entry image p ≡ true → (is_entry_low image p || is_entry_late image p) ≡ false
  unfolding breaks
  entry p has = other_half _ _ (none_at WrongEntry p) has

  low_entry : (p : ℕ) → p < length image → has_entry image p ≡ true → (nat_le (length image) (scn_page_of image p) || nat_lt (scn_entry image p) (stamp_of (page_at image p))) ≡ false
  low_entry p low has = other_half _ _ (or_parts _ _ (entry p has)).0 (lt_yes p (length image) low)

  bit : (p : ℕ) → inventory_of image p < length image → is_free_page image p ≡ false → p < length image
  unfolding breaks
  bit p there taken = elim (cases_lt p (length image)) [
    | inl low ↦ low
    | inr past ↦
        (let high : length image ≤ p = omega (arith, past) in
        let broken : (nat_le (length image) p && (nat_lt (inventory_of image p) (length image) && not (is_free_page image p))) ≡ true =
        and_from _ _ (le_yes (length image) p high) (and_from _ _ (lt_yes _ _ there) (not_from_false _ taken)) in
        absurd (true≢false (sym broken ∙ none_at TakenPast p)))
  ]

  late : (p : ℕ) → p < length image → stamp_of (page_at image p) ≤ image_scn image
  unfolding breaks
  late p low = ltb-false _ _ (other_half _ _ (none_at LateStamp p) (lt_yes p (length image) low))

  head : stamp_of (first_page image) ≡ image_scn image
  unfolding breaks
  head = eqb-true _ _ (not_false _ (other_half _ _ (none_at HeaderStamp 0) refl))

  pub sound_facts : SoundInventory image
  sound_facts = record {
    no_zeros = all_from (λ page. is_zeros page ≡ false) image blank;
    system = record {
      inventories = λ p low is. eqb-true _ _ (not_false _ (other_half _ _ (or_parts _ _ (place p low)).0 is));
      scn_pages = λ p low is. eqb-true _ _ (not_false _ (other_half _ _ (or_parts _ _ (place p low)).1 is));
    };
    bits = bit;
    entries = record {
      there = λ p low has. leb-false _ _ (or_parts _ _ (low_entry p low has)).0;
      no_lower = λ p low has. ltb-false _ _ (or_parts _ _ (low_entry p low has)).1;
      no_later = λ p there has. ltb-false _ _ (other_half _ _ (or_parts _ _ (entry p has)).1 (lt_yes _ _ there));
    };
    stamps = record { no_later = late; head = head };
  }

-- and where the inventories are sound
module _ (image : Image) (sound : SoundInventory image) where
  no_blank : (p : ℕ) → breaks image BlankPage p ≡ true → ⊥
  unfolding breaks
  no_blank p holds =
      let parts = and_parts _ _ holds in
      true≢false (sym parts.1 ∙ all_at (λ page. is_zeros page ≡ false) image sound.no_zeros p (ltb-true _ _ parts.0))

  no_place : (p : ℕ) → breaks image SystemPlace p ≡ true → ⊥
  unfolding breaks
  no_place p holds =
      let parts = and_parts _ _ holds in
      let low : p < length image = ltb-true _ _ parts.0 in
      elim (or_cases _ _ parts.1) [
        | inl w ↦ (let both = and_parts _ _ w in true≢false (sym both.1 ∙ ap not (eq_yes _ _ (sound.system.inventories p low both.0))))
        | inr w ↦ (let both = and_parts _ _ w in true≢false (sym both.1 ∙ ap not (eq_yes _ _ (sound.system.scn_pages p low both.0))))
      ]

  no_taken : (p : ℕ) → breaks image TakenPast p ≡ true → ⊥
  unfolding breaks
  no_taken p holds =
      let parts = and_parts (nat_le (length image) p) (nat_lt (inventory_of image p) (length image) && not (is_free_page image p)) holds in
      let both = and_parts (nat_lt (inventory_of image p) (length image)) (not (is_free_page image p)) parts.1 in
      let high : length image ≤ p = leb-true (length image) p parts.0 in
      let taken : is_free_page image p ≡ false = elim (cases_Bool (is_free_page image p)) [ inl e ↦ absurd (true≢false (sym both.1 ∙ ap not e)) | inr e ↦ e ] in
      let low : p < length image = sound.bits p (ltb-true (inventory_of image p) (length image) both.0) taken in
      omega (arith, high, low)

  no_late : (p : ℕ) → breaks image LateStamp p ≡ true → ⊥
  unfolding breaks
  no_late p holds =
      let parts = and_parts _ _ holds in
      let low = sound.stamps.no_later p (ltb-true _ _ parts.0) in
      let high = ltb-true _ _ parts.1 in
      omega (arith, high, low)

  no_low : (p : ℕ) → has_entry image p ≡ true → is_entry_low image p ≡ true → ⊥
  no_low p has w =
      let both = and_parts (nat_lt p (length image)) (nat_le (length image) (scn_page_of image p) || nat_lt (scn_entry image p) (stamp_of (page_at image p))) w in
      let low : p < length image = ltb-true p (length image) both.0 in
      elim (or_cases (nat_le (length image) (scn_page_of image p)) (nat_lt (scn_entry image p) (stamp_of (page_at image p))) both.1) [
        | inl v ↦ (let past : length image ≤ scn_page_of image p = leb-true _ _ v in let there = sound.entries.there p low has in omega (arith, past, there))
        | inr v ↦ (let less : scn_entry image p < stamp_of (page_at image p) = ltb-true _ _ v in let least = sound.entries.no_lower p low has in omega (arith, less, least))
      ]

  no_high : (p : ℕ) → has_entry image p ≡ true → is_entry_late image p ≡ true → ⊥
  no_high p has w =
      let both = and_parts (nat_lt (scn_page_of image p) (length image)) (nat_lt (image_scn image) (scn_entry image p)) w in
      let less : image_scn image < scn_entry image p = ltb-true _ _ both.1 in
      let most = sound.entries.no_later p (ltb-true (scn_page_of image p) (length image) both.0) has in
      omega (arith, less, most)

  no_entry : (p : ℕ) → breaks image WrongEntry p ≡ true → ⊥
  unfolding breaks
  no_entry p holds =
      let parts = and_parts (has_entry image p) (is_entry_low image p || is_entry_late image p) holds in
      elim (or_cases (is_entry_low image p) (is_entry_late image p) parts.1) [ inl w ↦ no_low p parts.0 w | inr w ↦ no_high p parts.0 w ]

  no_head : (p : ℕ) → breaks image HeaderStamp p ≡ true → ⊥
  unfolding breaks
  no_head p holds = true≢false (sym (and_parts _ _ holds).1 ∙ ap not (eq_yes _ _ sound.stamps.head))

  never : (f : Fact) (p : ℕ) → breaks image f p ≡ true → ⊥
  never BlankPage = no_blank
  never SystemPlace = no_place
  never TakenPast = no_taken
  never LateStamp = no_late
  never WrongEntry = no_entry
  never HeaderStamp = no_head

  pub facts_sound : unsound image ≡ None
  facts_sound = unsound_none image (λ f p below. false_from_ne_true (breaks image f p) (never f p))

-- a check that isn't refused
unsound_part : (o : Option (ℕ × ℕ)) → unsound_by o ≡ None → o ≡ None
unsound_part None e = refl
unsound_part (Some b) e = absurd (some_none (Unsound b.0 b.1) e)

pub no_unsound : (o : Option (ℕ × ℕ)) → unsound_by o ≡ None → IsSome o → ⊥
no_unsound None e some = true≢false (sym some)
no_unsound (Some b) e some = some_none (Unsound b.0 b.1) e

pub check_parts : (image : Image) → check_cause image ≡ None → (unsound image ≡ None) × (chains_cause image (chains image) ≡ None)
check_parts image none = (let first = no_first _ _ none in (unsound_part (unsound image) first.0, (no_first _ _ first.1).0))

-- the chain of the history makes a database that long
pub check_long : (image : Image) → check_cause image ≡ None → 5 ≤ length image
unfolding chains
check_long image none =
    let parts = check_parts image none in
    let history : broken_at (pages_of History image) ≡ None = (no_first _ _ (no_first _ _ parts.1).1).0 in
    let there : 4 < length image = (in_chain History image 4 (first_found History image history)).0 in
    omega (arith, there)

pub sound_whole : (image : Image) → IsTrue (is_page_size (image_size image)) → check_cause image ≡ None → IsOfSize (image_size image) image → length image ≤ most_pages → IsSoundImage image
sound_whole image valid none sizes most = record { sound = sound_facts image valid (check_parts image none).0; least = check_long image none; most = most; sizes = sizes }
