-- Page 0 in the applying state, and page 0 of a standby: which fields change, and that no other does.
use Rattle.std.proofs.Common.{◌≡◌, inl, inr, ℕ, ◌+◌, ◌/◌, ◌%◌, ◌≤◌, List, [], ◌∷◌, ◌++◌, length, take, drop, replicate, refl, sym, ap, ◌∙◌, arith, true}
use Rattle.nb_inplace.proofs.Common.{and_parts, and_from, take-append-drop, drop-drop, number_of, with_part, part, number_in, AreApart, is_header, is_marked, is_sound, state_of, size_of, scn_of, guid_of, pending_of, length-part, length-with_part, part-with_part, part-with_part_other, number_in-with_part, number_in-with_part_other, normal_state, stalled_state, merge_state, applying_state, Header, Page, standby_page, header-long, form, header-size, header-scn, applying_page}
use Rattle.nb_fields.specs.Bytes.{bytes_of}
use Rattle.nb_fields.proofs.HeaderLaws.{is_header-long}
use Rattle.nb_page.proofs.HeaderLaws.{is_sound-form}

-- the state has two bytes
two : (state : ℕ) → length (bytes_of 2 state) ≡ merge_state
unfolding bytes_of
two state = refl

-- a part that has its bytes already
same_part : (at : ℕ) (bytes page : List ℕ) → part at (length bytes) page ≡ bytes → with_part at bytes page ≡ page
same_part at bytes page is =
    ap (λ (x : List ℕ). take at page ++ (x ++ drop (at + length bytes) page)) (sym is)
    ∙ ap (λ (x : List ℕ). take at page ++ (part at (length bytes) page ++ x)) (sym (drop-drop (length bytes) at page))
    ∙ ap (λ (x : List ℕ). take at page ++ x) (take-append-drop (length bytes) (drop at page)) ∙ take-append-drop at page

-- two bytes that spell a number below 256
spelled : (n : ℕ) (bytes : List ℕ) → n ≤ 255 → length bytes ≡ 2 → number_of bytes ≡ n → bytes ≡ bytes_of 2 n
unfolding number_of bytes_of
spelled n [] low two is = absurd (omega (arith, two))
spelled n (a ∷ []) low two is = absurd (omega (arith, two))
spelled n (a ∷ b ∷ []) low two is =
    let first : a ≡ n % 256 = omega (arith, is, low) in
    let second : b ≡ n / 256 % 256 = omega (arith, is, low) in
    ap (λ (x : ℕ). x ∷ b ∷ []) first ∙ ap (λ (x : ℕ). n % 256 ∷ x ∷ []) second
spelled n (a ∷ b ∷ c ∷ rest) low two is = absurd (omega (arith, two))

same_state : (state : ℕ) (page : Page) → state ≤ 255 → 64 ≤ length page → state_of page ≡ state → with_part 22 (bytes_of 2 state) page ≡ page
unfolding number_in
same_state state page low long is =
    let at : part 22 2 page ≡ bytes_of 2 state = spelled state (part 22 2 page) low (length-part 22 2 page (omega (arith, long))) is in
    same_part 22 (bytes_of 2 state) page (ap (λ (n : ℕ). part 22 n page) (two state) ∙ at)

-- a page that is in the applying state already, with that GUID pending, is as it was
pub applying_same : (guid : List ℕ) (page : Page) → length guid ≡ 16 → 64 ≤ length page → state_of page ≡ applying_state → pending_of page ≡ guid → applying_page guid page ≡ page
applying_same guid page sixteen long state pending =
    ap (with_part 22 (bytes_of 2 3)) (same_part 48 guid page (ap (λ (n : ℕ). part 48 n page) sixteen ∙ pending)) ∙ same_state 3 page (omega arith) long state

module _ (guid : List ℕ) (page : Page) (sixteen : length guid ≡ 16) (long : 64 ≤ length page) where
  abbrev pending_page : Page
  pending_page = with_part 48 guid page

  pending-long : length pending_page ≡ length page
  pending-long = length-with_part 48 guid page (omega (arith, sixteen, long))

  pub applying-long : length (applying_page guid page) ≡ length page
  applying-long = length-with_part 22 (bytes_of 2 3) pending_page (omega (arith, two 3, pending-long, long)) ∙ pending-long

  pub applying-state : state_of (applying_page guid page) ≡ applying_state
  applying-state = number_in-with_part 22 2 3 pending_page (omega arith) (omega (arith, pending-long, long))

  pub applying-pending : pending_of (applying_page guid page) ≡ guid
  applying-pending = part-with_part_other 22 2 48 16 (bytes_of 2 3) pending_page (two 3) (omega (arith, pending-long, long)) (inl (omega arith)) ∙ part-with_part 48 16 guid page sixteen (omega (arith, long))

  -- any other field stays
  pub applying-number : (by v : ℕ) → AreApart 22 2 by v → AreApart 48 16 by v → number_in by v (applying_page guid page) ≡ number_in by v page
  applying-number by v one other =
      number_in-with_part_other 22 2 by v (bytes_of 2 3) pending_page (two 3) (omega (arith, pending-long, long)) one ∙ number_in-with_part_other 48 16 by v guid page sixteen (omega (arith, long)) other

  pub applying-part : (by v : ℕ) → AreApart 22 2 by v → AreApart 48 16 by v → part by v (applying_page guid page) ≡ part by v page
  applying-part by v one other =
      part-with_part_other 22 2 by v (bytes_of 2 3) pending_page (two 3) (omega (arith, pending-long, long)) one ∙ part-with_part_other 48 16 by v guid page sixteen (omega (arith, long)) other

  pub applying-size : size_of (applying_page guid page) ≡ size_of page
  applying-size = applying-number 24 4 (inl (omega arith)) (inr (omega arith))

  pub applying-guid : guid_of (applying_page guid page) ≡ guid_of page
  applying-guid = applying-part 32 16 (inl (omega arith)) (inr (omega arith))

  applying-scn : scn_of (applying_page guid page) ≡ scn_of page
  applying-scn = applying-number 28 4 (inl (omega arith)) (inr (omega arith))

  -- it stays so
  pub applying_twice : applying_page guid (applying_page guid page) ≡ applying_page guid page
  applying_twice = applying_same guid (applying_page guid page) sixteen (omega (arith, applying-long, long)) applying-state applying-pending

-- a page of the header's form with another state and pending GUID
same_marks : (p q : Page) → ((by v : ℕ) → by + v ≤ 22 → number_in by v p ≡ number_in by v q) → is_marked p ≡ is_marked q
unfolding is_marked
same_marks p q same =
    let kind = same 0 1 (omega arith) in
    let number = same 12 4 (omega arith) in
    let sign = same 16 4 (omega arith) in
    let version = same 20 2 (omega arith) in
    rw (kind, number, sign, version) refl

same_form : (state : ℕ) (p q : Page) → is_header q ≡ true → 64 ≤ length p → state_of p ≡ state → state ≤ 3 → (state ≡ stalled_state → ⊥) → size_of p ≡ size_of q → scn_of p ≡ scn_of q → is_marked p ≡ is_marked q → is_header p ≡ true
same_form state p q is long state_is low other size scn marks =
    let header : Header = record { page_size = size_of q; state = state; scn = scn_of q; guid = guid_of q; pending = pending_of q } in
    let sound : is_sound state (size_of q) (scn_of q) ≡ true = is_sound-form header (record { size = header-size q is; state = low; scn = header-scn q is; room = λ h. absurd (other h) }) in
    let fields : is_sound (state_of p) (size_of p) (scn_of p) ≡ true =
    ap (λ x. is_sound x (size_of p) (scn_of p)) state_is ∙ ap (λ x. is_sound state x (scn_of p)) size ∙ ap (λ x. is_sound state (size_of q) x) scn ∙ sound in
    is_header-long p long ∙ and_from (is_marked p) _ (marks ∙ (and_parts (is_marked q) _ (form q is)).0) fields

pub applying-header : (guid : List ℕ) (page : Page) → length guid ≡ 16 → is_header page ≡ true → is_header (applying_page guid page) ≡ true
applying-header guid page sixteen is =
    let long = header-long page is in
    same_form 3 (applying_page guid page) page is (omega (arith, applying-long guid page sixteen long, long)) (applying-state guid page sixteen long) (omega arith) (λ e. absurd (omega (arith, e))) (applying-size guid page sixteen long)
    (applying-scn guid page sixteen long) (same_marks (applying_page guid page) page (λ by v low. applying-number guid page sixteen long by v (inr low) (inr (omega (arith, low)))))

-- Page 0 of a standby: the access, then the pending GUID, then the state.
module _ (page : Page) (long : 66 ≤ length page) where
  abbrev accessed : Page
  accessed = with_part 65 (1 ∷ []) page

  abbrev rested : Page
  rested = with_part 48 (replicate 16 0) accessed

  accessed-long : length accessed ≡ length page
  accessed-long = length-with_part 65 (1 ∷ []) page (omega (arith, long))

  sixteen_zeros : length (replicate {A = ℕ} 16 0) ≡ 16
  sixteen_zeros = refl

  rested-long : length rested ≡ length page
  rested-long = length-with_part 48 (replicate 16 0) accessed (omega (arith, sixteen_zeros, accessed-long, long)) ∙ accessed-long

  pub standby-long : length (standby_page page) ≡ length page
  standby-long = length-with_part 22 (bytes_of 2 0) rested (omega (arith, two 0, rested-long, long)) ∙ rested-long

  pub standby-state : state_of (standby_page page) ≡ normal_state
  standby-state = number_in-with_part 22 2 0 rested (omega arith) (omega (arith, rested-long, long))

  -- any other field stays
  pub standby-number : (by v : ℕ) → AreApart 22 2 by v → AreApart 48 16 by v → AreApart 65 1 by v → number_in by v (standby_page page) ≡ number_in by v page
  standby-number by v one other last =
      number_in-with_part_other 22 2 by v (bytes_of 2 0) rested (two 0) (omega (arith, rested-long, long)) one
      ∙ number_in-with_part_other 48 16 by v (replicate 16 0) accessed sixteen_zeros (omega (arith, accessed-long, long)) other ∙ number_in-with_part_other 65 1 by v (1 ∷ []) page refl long last

  pub standby-part : (by v : ℕ) → AreApart 22 2 by v → AreApart 48 16 by v → AreApart 65 1 by v → part by v (standby_page page) ≡ part by v page
  standby-part by v one other last =
      part-with_part_other 22 2 by v (bytes_of 2 0) rested (two 0) (omega (arith, rested-long, long)) one
      ∙ part-with_part_other 48 16 by v (replicate 16 0) accessed sixteen_zeros (omega (arith, accessed-long, long)) other ∙ part-with_part_other 65 1 by v (1 ∷ []) page refl long last

  pub standby-size : size_of (standby_page page) ≡ size_of page
  standby-size = standby-number 24 4 (inl (omega arith)) (inr (omega arith)) (inr (omega arith))

  pub standby-scn : scn_of (standby_page page) ≡ scn_of page
  standby-scn = standby-number 28 4 (inl (omega arith)) (inr (omega arith)) (inr (omega arith))

  pub standby-guid : guid_of (standby_page page) ≡ guid_of page
  standby-guid = standby-part 32 16 (inl (omega arith)) (inr (omega arith)) (inr (omega arith))

  pub standby-header : is_header page ≡ true → is_header (standby_page page) ≡ true
  standby-header is =
      same_form 0 (standby_page page) page is (omega (arith, standby-long, long)) standby-state (omega arith) (λ e. absurd (omega (arith, e))) standby-size standby-scn
      (same_marks (standby_page page) page (λ by v low. standby-number by v (inr low) (inr (omega (arith, low))) (inr (omega (arith, low)))))
