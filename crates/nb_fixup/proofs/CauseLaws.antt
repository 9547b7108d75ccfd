-- Why a copy isn't fixed, test by test.
use Rattle.std.proofs.Common.{◌≡◌, ◌≢◌, inl, inr, ℕ, ◌*◌, ◌/◌, ◌%◌, ◌<◌, ◌≤◌, List, [], ◌∷◌, length, take, refl, sym, ap, ◌∙◌, arith, div-add-mod', Bool, true, false, not, ◌||◌, ◌==◌, nat_lt, IsTrue, Some, None, is_some, min}
use Rattle.nb_fixup.proofs.Common.{div-eq_of_lt, take-take, length-take, is_header, state_of, size_of, is_page_size, most_pages, size_facts, File, Refusal, NoFile, NotDatabase, WrongState, DeltaPresent, Cause, first_cause, when, not_database, not_fixable, delta_name, no_cause, same-header, same-number, copy_cause, file_cause, unheaded, or_right}
use Rattle.std.proofs.lemmas.Bool.Decides.{eqb_tells}
use Rattle.nb_fields.proofs.HeaderLaws.{is_header-short}
use Rattle.nb_fields.specs.States.{stalled_state}
use Rattle.nb_page.specs.Header.{header_in}
use Rattle.nb_page.specs.declared.header.Header.{Header}
use Rattle.nb_model.proofs.ReadLaws.{lt_yes, eq_no}
use Rattle.nb_host.proofs.PlainLaws.{some_none}

-- the tests of the length after a header
abbrev tests : (a b : Bool) (pages : ℕ) → Cause
tests a b pages = first_cause (when a (NotDatabase (min pages most_pages)) ∷ when b (NotDatabase most_pages) ∷ [])

first_test : (b : Bool) (pages : ℕ) → tests true b pages ≡ Some (NotDatabase (min pages most_pages))
unfolding first_cause
first_test b pages = refl

second_test : (pages : ℕ) → tests false true pages ≡ Some (NotDatabase most_pages)
unfolding first_cause
second_test pages = refl

by_first : (a b : Bool) (pages : ℕ) → a ≡ true → tests a b pages ≡ Some (NotDatabase (min pages most_pages))
by_first a b pages e = ap (λ (t : Bool). tests t b pages) e ∙ first_test b pages

by_second : (a b : Bool) (pages : ℕ) → b ≡ true → most_pages < pages → tests a b pages ≡ Some (NotDatabase (min pages most_pages))
by_second true b pages e more = first_test b pages
by_second false b pages e more =
    let most : most_pages ≡ min pages most_pages = omega (arith, more) in
    ap (λ (t : Bool). tests false t pages) e ∙ second_test pages ∙ ap (λ (n : ℕ). Some (NotDatabase n)) most

module _ (bytes : List ℕ) (len size : ℕ) (header : is_header bytes ≡ true) (same : size_of bytes ≡ size) (long : length bytes ≡ len) where
  abbrev pages : ℕ
  pages = len / size

  abbrev by_length : (n s : ℕ) → Cause
  by_length n s = tests (not (n % s == 0) || nat_lt (n / s) 5) (nat_lt most_pages (n / s)) (n / s)

  headed : not_database bytes ≡ by_length len size
  unfolding not_database
  headed = rw (header, not_database) refl ∙ ap (λ (n : ℕ). by_length n (size_of bytes)) long ∙ ap (by_length len) same

  pub parted : len % size ≢ 0 → not_database bytes ≡ Some (NotDatabase (min pages most_pages))
  parted h = headed ∙ by_first _ _ pages (ap (λ (t : Bool). not t || nat_lt pages 5) (eq_no (len % size) 0 h))

  pub too_few : pages < 5 → not_database bytes ≡ Some (NotDatabase (min pages most_pages))
  too_few h = headed ∙ by_first _ _ pages (or_right (not (len % size == 0)) _ (lt_yes pages 5 h))

  pub too_many : most_pages < pages → not_database bytes ≡ Some (NotDatabase (min pages most_pages))
  too_many h = headed ∙ by_second _ _ pages (lt_yes most_pages pages h) h

  pub fits : 0 < size → len % size ≡ 0 → 5 ≤ pages → pages ≤ most_pages → not_database bytes ≡ None
  fits some whole least most =
      let all : length bytes ≡ pages * size = omega (arith, div-add-mod' len size, whole, long) in
      no_cause bytes size pages header same some all least most

  -- a file that ends before its first page does
  pub no_page : len < size → not_database bytes ≡ Some (NotDatabase 0)
  no_page short =
      let none : pages ≡ 0 = div-eq_of_lt short in
      too_few (omega (arith, none)) ∙ ap (λ (n : ℕ). Some (NotDatabase (min n most_pages))) none

-- what the first bytes of a file tell, as far as the largest page goes
module _ (first bytes : List ℕ) (read : first ≡ take 32768 bytes) where
  front : take 64 first ≡ take 64 bytes
  front = ap (take 64) read ∙ take-take 64 32768 bytes (omega arith)

  pub first_header : is_header first ≡ is_header bytes
  first_header = same-header first bytes front

  first_short : (n : ℕ) → n ≤ 32768 → length first < n → length bytes < n
  first_short n most short = omega (arith, ap length read, length-take 32768 bytes, most, short)

  pub too_short : length first < 64 → not_database bytes ≡ Some (NotDatabase 0)
  too_short short = unheaded bytes (is_header-short bytes (first_short 64 (omega arith) short))

  module _ (header : Header) (is : header ≡ header_in first) where
    pub size_is : header.page_size ≡ size_of bytes
    unfolding header_in
    size_is = ap (λ (h : Header). h.page_size) is ∙ same-number first bytes front 24 4 (omega arith)

    pub state_is : header.state ≡ state_of bytes
    unfolding header_in
    state_is = ap (λ (h : Header). h.state) is ∙ same-number first bytes front 22 2 (omega arith)

    pub page_short : is_header bytes ≡ true → IsTrue (is_page_size header.page_size) → length first < header.page_size → not_database bytes ≡ Some (NotDatabase 0)
    page_short headed size short =
        let wide : header.page_size ≤ 32768 = (size_facts header.page_size size).at_most in
        no_page bytes (length bytes) header.page_size headed (sym size_is) refl (first_short header.page_size wide short)

-- the tests of a copy
module _ (bytes : List ℕ) where
  pub broken : (r : Refusal) → not_database bytes ≡ Some r → copy_cause bytes ≡ Some r
  unfolding first_cause
  broken r e = rw (e, first_cause) refl

  -- its own bytes alone refuse it where no difference file stands beside
  pub alone : (name : List ℕ) → not_fixable name (Some bytes) None ≡ copy_cause bytes
  unfolding not_fixable first_cause
  alone name = by (not_database bytes) (when (not (state_of bytes == stalled_state)) (WrongState (state_of bytes)))
    where
      by : (c d : Cause) → first_cause (c ∷ d ∷ None ∷ []) ≡ first_cause (c ∷ d ∷ [])
      by None None = refl
      by None (Some r) = refl
      by (Some r) d = refl

-- two tests and a third
third_not : (a b c : Cause) (r : Refusal) → first_cause (a ∷ b ∷ []) ≡ Some r → first_cause (a ∷ b ∷ c ∷ []) ≡ Some r
unfolding first_cause
third_not (Some x) b c r e = e
third_not None (Some y) c r e = e
third_not None None c r e = absurd (some_none r (sym e))

third : (a b c : Cause) → first_cause (a ∷ b ∷ []) ≡ None → first_cause (a ∷ b ∷ c ∷ []) ≡ c
unfolding first_cause
third (Some x) b c e = absurd (some_none x e)
third None (Some y) c e = absurd (some_none y e)
third None None None e = refl
third None None (Some z) e = refl

-- the tests of a file, and of what stands beside it
module _ (name : List ℕ) where
  beside : (bytes : List ℕ) (delta : File) → copy_cause bytes ≡ None → not_fixable name (Some bytes) delta ≡ when (is_some delta) (DeltaPresent (delta_name name))
  unfolding not_fixable
  beside bytes delta e = third _ _ _ e

  pub file_unfit : (main delta : File) (r : Refusal) → file_cause name main ≡ Some r → not_fixable name main delta ≡ Some r
  unfolding not_fixable
  file_unfit None delta r e = e
  file_unfit (Some bytes) delta r e = third_not _ _ _ r e

  pub file_beside : (main delta : File) → file_cause name main ≡ None → is_some delta ≡ true → not_fixable name main delta ≡ Some (DeltaPresent (delta_name name))
  file_beside None delta e there = absurd (some_none (NoFile name) e)
  file_beside (Some bytes) delta e there = beside bytes delta e ∙ ap (λ (t : Bool). when t (DeltaPresent (delta_name name))) there

  pub file_alone : (main delta : File) → file_cause name main ≡ None → is_some delta ≡ false → not_fixable name main delta ≡ None
  file_alone None delta e none = absurd (some_none (NoFile name) e)
  file_alone (Some bytes) delta e none = beside bytes delta e ∙ ap (λ (t : Bool). when t (DeltaPresent (delta_name name))) none

pub not_there : (name : List ℕ) (delta : File) → not_fixable name None delta ≡ Some (NoFile name)
unfolding not_fixable
not_there name delta = refl

-- no test of three applies
three_none : (a b c : Cause) → first_cause (a ∷ b ∷ c ∷ []) ≡ None → (a ≡ None) × (b ≡ None) × (c ≡ None)
unfolding first_cause
three_none None None None e = (refl, refl, refl)
three_none None None (Some z) e = absurd (some_none z e)
three_none None (Some y) c e = absurd (some_none y e)
three_none (Some x) b c e = absurd (some_none x e)

-- what bytes are that can be fixed: they have the form of a database, in the stalled state, and no difference file stands beside them
pub record IsFit (bytes : List ℕ) (delta : File) : Type 0 where
  pub formed : not_database bytes ≡ None
  pub stalled : state_of bytes ≡ stalled_state
  pub alone : delta ≡ None

pub fit_is : (name bytes : List ℕ) (delta : File) → not_fixable name (Some bytes) delta ≡ None → IsFit bytes delta
unfolding not_fixable
fit_is name bytes delta e =
    let none = three_none (not_database bytes) (when (not (state_of bytes == stalled_state)) (WrongState (state_of bytes))) (when (is_some delta) (DeltaPresent (delta_name name))) e in
    record { formed = none.0; stalled = state none.1; alone = delta_none delta none.2 }
  where
    state : when (not (state_of bytes == stalled_state)) (WrongState (state_of bytes)) ≡ None → state_of bytes ≡ stalled_state
    state none = elim (eqb_tells (state_of bytes) 1) [
      | inl w ↦ w.1
      | inr w ↦ absurd (some_none (WrongState (state_of bytes)) (sym (ap (λ (t : Bool). when (not t) (WrongState (state_of bytes))) w.0) ∙ none))
    ]

    delta_none : (d : File) → when (is_some d) (DeltaPresent (delta_name name)) ≡ None → d ≡ None
    delta_none None none = refl
    delta_none (Some x) none = absurd (some_none (DeltaPresent (delta_name name)) none)
