-- The search for a new page, try by try: where it ends, and what it goes on with.
use Rattle.std.proofs.Common.{◌≡◌, ◌≢◌, inl, inr, ℕ, suc, ◌+◌, ◌/◌, ◌≤◌, List, [], ◌∷◌, ◌++◌, refl, sym, ap, subst, ◌∙◌, arith, Bool, true, false, ◌==◌, ◌||◌, IsTrue, Option, Some, None}
use Rattle.nb_model.proofs.Common.{true≢false, eqb-true, append-nil, eqb_tells, is_page_size, bits_in, inventory_place, is_system_place, most_pages, inventory_kind, Full, Image, image_size, Draft, drafted, is_kind, inventory_of, put, take_page, lowest_free, system_page, no_page, Need, first_not, maps_from, entry_page, is_kept, needed_at, new_within, Cause, first_cause, when, lowest_broken, not_of_form, no_room, or_false}
use Rattle.nb_model.proofs.DraftJoin.{joined, joined_new, join_new}
use Rattle.nb_model.proofs.NeedLaws.{first_append, both_none, maps_all, none_ready}
use Rattle.nb_model.proofs.StepLaws.{IsClear, IsReady}

-- why a draft isn't made
abbrev pub draft_cause : Draft → Cause
draft_cause d = first_cause (not_of_form d ∷ no_room d ∷ [])

-- what is of its kind where a new page at p needs nothing more
pub record Met (x : Image) (p : ℕ) : Type 0 where
  pub maps : (k : ℕ) → k ≤ p / bits_in (image_size x) → is_kind x inventory_kind (inventory_place (image_size x) k) ≡ true
  pub ready : p ≢ most_pages → IsReady x p

pub met : (x : Image) (p : ℕ) → first_not x (needed_at x p) ≡ None → Met x p
unfolding needed_at
met x p none = record { maps = maps; ready = λ other. record { map = maps (p / bits_in (image_size x)) (omega arith); map_entry = none_ready x (inventory_of x p) (parts other).0; entry = λ unkept. none_ready x p (own unkept (parts other).1) } }
  where
    count : ℕ
    count = p / bits_in (image_size x) + 1

    rest : Bool → List Need
    rest t = elim t [ true ↦ [] | false ↦ entry_page x (inventory_of x p) ++ elim (is_kept x p) [ true ↦ [] | false ↦ entry_page x p ] ]

    both : (first_not x (maps_from (image_size x) count 0) ≡ None) × (first_not x (rest (p == most_pages)) ≡ None)
    both = both_none (first_not x (maps_from (image_size x) count 0)) (first_not x (rest (p == most_pages))) (sym (first_append x (maps_from (image_size x) count 0) (rest (p == most_pages))) ∙ none)

    maps : (k : ℕ) → k ≤ p / bits_in (image_size x) → is_kind x inventory_kind (inventory_place (image_size x) k) ≡ true
    maps k le = maps_all x (image_size x) count 0 both.0 k (omega arith) (omega (arith, le))

    no : p ≢ most_pages → (p == most_pages) ≡ false
    no other = elim (eqb_tells p most_pages) [ inl w ↦ absurd (other w.1) | inr w ↦ w.0 ]

    parts : p ≢ most_pages → (first_not x (entry_page x (inventory_of x p)) ≡ None) × (first_not x (elim (is_kept x p) as (λ z. List Need) [ true ↦ [] | false ↦ entry_page x p ]) ≡ None)
    parts other = both_none (first_not x (entry_page x (inventory_of x p))) (first_not x (elim (is_kept x p) as (λ z. List Need) [ true ↦ [] | false ↦ entry_page x p ]))
        (sym (first_append x (entry_page x (inventory_of x p)) (elim (is_kept x p) as (λ z. List Need) [ true ↦ [] | false ↦ entry_page x p ])) ∙ ap (λ (t : Bool). first_not x (rest t)) (sym (no other)) ∙ both.1)

    own : is_kept x p ≡ false → first_not x (elim (is_kept x p) as (λ z. List Need) [ true ↦ [] | false ↦ entry_page x p ]) ≡ None → first_not x (entry_page x p) ≡ None
    own unkept none = ap (λ (t : Bool). first_not x (elim t as (λ z. List Need) [ true ↦ [] | false ↦ entry_page x p ])) (sym unkept) ∙ none

-- a round at a system place
abbrev pub round_at : ℕ → Image → Draft
round_at p x = take_page p (system_page p (drafted x))

module _ (x : Image) (kind : ℕ) (payload : ℕ → List ℕ) where
  abbrev p : ℕ
  p = lowest_free x

  abbrev try : ℕ → Draft × ℕ
  try left = new_within (suc left) kind payload (drafted x)

  abbrev by_place : ℕ → Bool → Draft × ℕ
  by_place left t = elim t as (λ z. Draft × ℕ) [ true ↦ new_within left kind payload (round_at p x) | false ↦ (take_page p (put p kind (payload p) (drafted x)), p) ]

  abbrev by_end : ℕ → Bool → Bool → Draft × ℕ
  by_end left t u = elim t as (λ z. Draft × ℕ) [ true ↦ (no_page (drafted x), p) | false ↦ by_place left u ]

  try_is : (left : ℕ) (o : Option ℕ) (t u : Bool) → first_not x (needed_at x p) ≡ o → (p == most_pages) ≡ t → is_system_place (image_size x) p ≡ u
      → try left ≡ elim o as (λ z. Draft × ℕ) [ Some q ↦ (record (drafted x) { broken = q ∷ [] }, 0) | None ↦ by_end left t u ]
  unfolding new_within
  try_is left o t u e f g =
      ap (λ (y : Option ℕ). elim y as (λ z. Draft × ℕ) [ Some q ↦ (record (drafted x) { broken = q ∷ [] }, 0) | None ↦ by_end left (p == most_pages) (is_system_place (image_size x) p) ]) e
      ∙ ap (λ (b : Bool). elim o as (λ z. Draft × ℕ) [ Some q ↦ (record (drafted x) { broken = q ∷ [] }, 0) | None ↦ by_end left b (is_system_place (image_size x) p) ]) f
      ∙ ap (λ (b : Bool). elim o as (λ z. Draft × ℕ) [ Some q ↦ (record (drafted x) { broken = q ∷ [] }, 0) | None ↦ by_end left t b ]) g

  -- it ends at a page that isn't of its kind,
  pub try_stops : (left q : ℕ) → first_not x (needed_at x p) ≡ Some q → try left ≡ (record (drafted x) { broken = q ∷ [] }, 0)
  try_stops left q e = try_is left (Some q) (p == most_pages) (is_system_place (image_size x) p) e refl refl

  -- or where no page is left.
  pub try_full : (left : ℕ) → first_not x (needed_at x p) ≡ None → (p == most_pages) ≡ true → try left ≡ (no_page (drafted x), p)
  try_full left e f = try_is left None true (is_system_place (image_size x) p) e f refl

  -- It goes on after a system place,
  pub try_more : (left : ℕ) → first_not x (needed_at x p) ≡ None → (p == most_pages) ≡ false → is_system_place (image_size x) p ≡ true
      → try left ≡ joined_new (round_at p x) (new_within left kind payload (drafted (round_at p x).image))
  try_more left e f g = try_is left None false true e f g ∙ join_new left kind payload (round_at p x)

  -- and ends with a page.
  pub try_last : (left : ℕ) → first_not x (needed_at x p) ≡ None → (p == most_pages) ≡ false → is_system_place (image_size x) p ≡ false → try left ≡ (take_page p (put p kind (payload p) (drafted x)), p)
  try_last left e f g = try_is left None false false e f g

-- the cause of a draft that breaks nothing, and of one that goes on from such a one
pub clear_cause : (d : Draft) → IsClear d → draft_cause d ≡ None
unfolding first_cause lowest_broken
clear_cause d c = ap (λ (ps : List ℕ). first_cause (lowest_broken ps ∷ no_room d ∷ [])) c.0 ∙ ap (λ (t : Bool). first_cause (when t (Full most_pages) ∷ [])) c.1

pub joined_cause : (d e : Draft) → IsClear d → draft_cause (joined d e) ≡ draft_cause e
joined_cause d e c =
    ap (λ (ps : List ℕ). draft_cause (record e { broken = e.broken ++ ps; full = e.full || d.full })) c.0
    ∙ ap (λ (ps : List ℕ). draft_cause (record e { broken = ps; full = e.full || d.full })) (append-nil e.broken)
    ∙ ap (λ (t : Bool). draft_cause (record e { full = e.full || t })) c.1 ∙ ap (λ (t : Bool). draft_cause (record e { full = t })) (or_false e.full)

-- the inventory page of the page after the last that a database may have is that of the last
pub last_map : (size : ℕ) → IsTrue (is_page_size size) → most_pages / bits_in size ≡ 1048575 / bits_in size
last_map size is = by (size == 1024) (size == 2048) (size == 4096) (size == 8192) (size == 16384) (size == 32768) refl refl refl refl refl refl is
  where
    at : (n : ℕ) → (size == n) ≡ true → most_pages / bits_in n ≡ 1048575 / bits_in n → most_pages / bits_in size ≡ 1048575 / bits_in size
    at n e same = subst (λ (s : ℕ). most_pages / bits_in s ≡ 1048575 / bits_in s) (sym (eqb-true size n e)) same

    by : (a b c d e f : Bool) → (size == 1024) ≡ a → (size == 2048) ≡ b → (size == 4096) ≡ c → (size == 8192) ≡ d → (size == 16384) ≡ e → (size == 32768) ≡ f
        → IsTrue (a || b || c || d || e || f) → most_pages / bits_in size ≡ 1048575 / bits_in size
    by true b c d e f ea eb ec ed ee ef is = at 1024 ea refl
    by false true c d e f ea eb ec ed ee ef is = at 2048 eb refl
    by false false true d e f ea eb ec ed ee ef is = at 4096 ec refl
    by false false false true e f ea eb ec ed ee ef is = at 8192 ed refl
    by false false false false true f ea eb ec ed ee ef is = at 16384 ee refl
    by false false false false false true ea eb ec ed ee ef is = at 32768 ef refl
    by false false false false false false ea eb ec ed ee ef is = absurd (true≢false (sym is))
