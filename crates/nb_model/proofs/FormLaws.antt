-- The form of a database: what it says of a file's bytes.
use Rattle.std.proofs.Common.{◌≡◌, inl, inr, ℕ, suc, ◌*◌, ◌/◌, ◌%◌, ◌<◌, ◌≤◌, List, [], ◌∷◌, length, refl, sym, ap, ◌∙◌, arith, div-add-mod', mul-div_cancel, Bool, true, false, IsTrue, not, ◌||◌, ◌==◌, nat_lt, Some, None, min}
use Rattle.nb_model.proofs.Common.{true≢false, or_parts, or_from, leb_tells, eqb_tells, mul-mod_left, is_header, size_of, is_page_size, most_pages, Refusal, NotDatabase, Cause, first_cause, when, not_database, not_lt, some_none}
use Rattle.nb_model.proofs.ReadLaws.{lt_no}
use Rattle.nb_model.proofs.HeaderLaws.{header-size}

-- what the form of a database says of a file's bytes
pub record Formed (bytes : List ℕ) : Type 0 where
  pub header : is_header bytes ≡ true
  pub size : IsTrue (is_page_size (size_of bytes))
  pub count : ℕ
  pub whole : length bytes ≡ count * size_of bytes
  pub least : 5 ≤ count
  pub most : count ≤ most_pages

-- two tests that don't apply
abbrev two_tests : (a b : Bool) (r q : Refusal) → Cause
two_tests a b r q = first_cause (when a r ∷ when b q ∷ [])

two_tests-none : (a b : Bool) (r q : Refusal) → two_tests a b r q ≡ None → (a ≡ false) × (b ≡ false)
unfolding first_cause
two_tests-none false false r q h = (refl, refl)
two_tests-none false true r q h = absurd (some_none q h)
two_tests-none true b r q h = absurd (some_none r h)

two_tests-from : (a b : Bool) (r q : Refusal) → a ≡ false → b ≡ false → two_tests a b r q ≡ None
unfolding first_cause
two_tests-from a b r q e f = rw (e, first_cause) (rw (f, first_cause) refl)

-- the tests of the length
abbrev length_cause : List ℕ → Cause
length_cause bytes =
    two_tests (not (length bytes % size_of bytes == 0) || nat_lt (length bytes / size_of bytes) 5) (nat_lt most_pages (length bytes / size_of bytes))
    (NotDatabase (min (length bytes / size_of bytes) most_pages)) (NotDatabase most_pages)

not_database-is : (bytes : List ℕ) → not_database bytes ≡ elim (is_header bytes) as (λ z. Cause) [ false ↦ Some (NotDatabase 0) | true ↦ length_cause bytes ]
unfolding not_database
not_database-is bytes = refl

whole_pages : (left count : ℕ) → (not (left == 0) || nat_lt count 5) ≡ false → (left ≡ 0) × (5 ≤ count)
whole_pages left count h =
    let parts = or_parts (not (left == 0)) (nat_lt count 5) h in
    (elim (eqb_tells left 0) [ inl w ↦ w.1 | inr w ↦ absurd (true≢false (sym (ap not w.0) ∙ parts.0)) ], least parts.1)
  where
    least : nat_lt count 5 ≡ false → 5 ≤ count
    least e = elim (leb_tells (suc count) 5) [ inl w ↦ absurd (true≢false (sym w.0 ∙ e)) | inr w ↦ omega (arith, w.1) ]

pub formed : (bytes : List ℕ) → not_database bytes ≡ None → Formed bytes
formed bytes none = by (is_header bytes) refl (sym (not_database-is bytes) ∙ none)
  where
    by : (t : Bool) → is_header bytes ≡ t → elim t as (λ z. Cause) [ false ↦ Some (NotDatabase 0) | true ↦ length_cause bytes ] ≡ None → Formed bytes
    by false e h = absurd (some_none (NotDatabase 0) h)
    by true e h =
        let count : ℕ = length bytes / size_of bytes in
        let left : ℕ = length bytes % size_of bytes in
        let tests : ((not (left == 0) || nat_lt count 5) ≡ false) × (nat_lt most_pages count ≡ false) =
        two_tests-none (not (left == 0) || nat_lt count 5) (nat_lt most_pages count) (NotDatabase (min count most_pages)) (NotDatabase most_pages) h in
        let parts : (left ≡ 0) × (5 ≤ count) = whole_pages left count tests.0 in
        record {
          header = e;
          size = header-size bytes e;
          count = count;
          whole = omega (arith, div-add-mod' (length bytes) (size_of bytes), parts.0);
          least = parts.1;
          most = not_lt count most_pages tests.1;
        }

-- and bytes of which that holds have the form
pub no_cause : (bytes : List ℕ) (size count : ℕ) → is_header bytes ≡ true → size_of bytes ≡ size → 0 < size → length bytes ≡ count * size → 5 ≤ count → count ≤ most_pages → not_database bytes ≡ None
no_cause bytes size count header same some whole least most =
    let left : length bytes % size_of bytes ≡ 0 = ap (λ x. length bytes % x) same ∙ ap (λ x. x % size) whole ∙ mul-mod_left count size in
    let pages : length bytes / size_of bytes ≡ count = ap (λ x. length bytes / x) same ∙ ap (λ x. x / size) whole ∙ mul-div_cancel count some in
    not_database-is bytes
    ∙ ap (λ (t : Bool). elim t as (λ z. Cause) [ false ↦ Some (NotDatabase 0) | true ↦ length_cause bytes ]) header
    ∙ two_tests-from _ _ (NotDatabase (min (length bytes / size_of bytes) most_pages)) (NotDatabase most_pages)
    (or_from _ _ (ap (λ x. not (x == 0)) left) (ap (λ x. nat_lt x 5) pages ∙ lt_no count 5 least)) (ap (λ x. nat_lt most_pages x) pages ∙ lt_no most_pages count most)

-- a file without a header
pub unheaded : (bytes : List ℕ) → is_header bytes ≡ false → not_database bytes ≡ Some (NotDatabase 0)
unfolding not_database
unheaded bytes e = rw (e, not_database) refl
