-- What the first bytes of a file tell of it.
use Rattle.std.proofs.Common.{◌≡◌, ◌≢◌, ℕ, zero, suc, ◌+◌, ◌<◌, ◌≤◌, ◌^◌, List, [], ◌∷◌, length, get_or, take, drop, refl, sym, ap, subst, ◌∙◌, arith, nat_eq, length-drop, Bool, true, false, not, ◌==◌, Some, None, Ok, Err}
use Rattle.nb_chain.proofs.Common.{take-take, take_all, get_or-drop, number_of, number_in, part, is_header, signature, state_of, size_of, scn_of, guid_of, is_header-take, Fault, Refused, Refusal, BadLevel, ChainLevel, header_in, Contents, begins_level, level_signature, read_level, Link, whole_link, not_whole, first_link, next_link, not_behind, level_link, is_bad_length, eq_no, eq_yes, TestedAlone, is_bad_count}
use Rattle.std.specs.Cmp.Lexicographic.{pointwise}
use Rattle.nb_fields.proofs.NumberLaws.{number_of-lt}
use Rattle.nb_fields.proofs.PartLaws.{part-take, number_in-take}
use Rattle.nb_fields.specs.States.{stalled_state}
use Rattle.nb_page.specs.declared.header.Header.{Header}
use Rattle.nb_model.specs.Causes.{Cause, first_cause, when}

-- the first 64 bytes
module _ (first bytes : List ℕ) (read : first ≡ take 64 bytes) where
  pub first_begins : begins_level first ≡ begins_level bytes
  unfolding begins_level
  first_begins = ap (λ l. pointwise nat_eq (take 4 l) level_signature) read ∙ ap (λ l. pointwise nat_eq l level_signature) (take-take 4 64 bytes (omega arith))

  pub first_number : (at w : ℕ) → at + w ≤ 64 → number_in at w first ≡ number_in at w bytes
  first_number at w h = ap (λ (x : List ℕ). number_in at w x) read ∙ number_in-take 64 at w bytes h

  first_part : (at w : ℕ) → at + w ≤ 64 → part at w first ≡ part at w bytes
  first_part at w h = ap (λ (x : List ℕ). part at w x) read ∙ part-take 64 at w bytes h

  pub first_header : is_header first ≡ is_header bytes
  first_header = ap is_header read ∙ is_header-take bytes

  -- the header that they hold
  pub header_same : header_in first ≡ header_in bytes
  unfolding header_in
  header_same =
      let size : size_of first ≡ size_of bytes = first_number 24 4 (omega arith) in
      let state : state_of first ≡ state_of bytes = first_number 22 2 (omega arith) in
      let scn : scn_of first ≡ scn_of bytes = first_number 28 4 (omega arith) in
      let guid : guid_of first ≡ guid_of bytes = first_part 32 16 (omega arith) in
      let pending : part 48 16 first ≡ part 48 16 bytes = first_part 48 16 (omega arith) in
      λ i. record { page_size = size i; state = state i; scn = scn i; guid = guid i; pending = pending i }

-- the fields of a header
module _ (bytes : List ℕ) (header : Header) (is : header ≡ header_in bytes) where
  pub size_is : header.page_size ≡ size_of bytes
  unfolding header_in
  size_is = ap (λ (h : Header). h.page_size) is

  pub state_is : header.state ≡ state_of bytes
  unfolding header_in
  state_is = ap (λ (h : Header). h.state) is

-- whole pages, test by test
module _ (name bytes : List ℕ) where
  pub unheaded : is_header bytes ≡ false → not_whole name bytes ≡ Some (BadLevel name 0)
  unfolding not_whole
  unheaded e = rw (e, not_whole) refl

  headed : is_header bytes ≡ true → not_whole name bytes ≡ first_cause (when (not (state_of bytes == stalled_state)) (BadLevel name 22) ∷ when (is_bad_length bytes) (BadLevel name (length bytes)) ∷ [])
  unfolding not_whole
  headed e = rw (e, not_whole) refl

  by_tests : (a b : Bool) → Cause
  by_tests a b = first_cause (when a (BadLevel name 22) ∷ when b (BadLevel name (length bytes)) ∷ [])

  first_test : (b : Bool) → by_tests true b ≡ Some (BadLevel name 22)
  unfolding first_cause by_tests
  first_test b = refl

  second_test : by_tests false true ≡ Some (BadLevel name (length bytes))
  unfolding first_cause by_tests
  second_test = refl

  no_test : by_tests false false ≡ None
  unfolding first_cause by_tests
  no_test = refl

  pub unstalled : is_header bytes ≡ true → state_of bytes ≢ stalled_state → not_whole name bytes ≡ Some (BadLevel name 22)
  unfolding by_tests
  unstalled e other = headed e ∙ ap (λ (b : Bool). by_tests (not b) (is_bad_length bytes)) (eq_no (state_of bytes) 1 other) ∙ first_test (is_bad_length bytes)

  module _ (e : is_header bytes ≡ true) (stalled : state_of bytes ≡ stalled_state) (size : ℕ) (same : size ≡ size_of bytes) where
    to_length : not_whole name bytes ≡ by_tests false (is_bad_count (length bytes) size)
    unfolding by_tests
    to_length =
        headed e ∙ ap (λ (b : Bool). by_tests (not b) (is_bad_length bytes)) (eq_yes (state_of bytes) 1 stalled)
        ∙ ap (λ (n : ℕ). by_tests false (is_bad_count (length bytes) n)) (sym same)

    pub unfit : is_bad_count (length bytes) size ≡ true → not_whole name bytes ≡ Some (BadLevel name (length bytes))
    unfit bad = to_length ∙ ap (by_tests false) bad ∙ second_test

    pub fit : is_bad_count (length bytes) size ≡ false → not_whole name bytes ≡ None
    fit good = to_length ∙ ap (by_tests false) good ∙ no_test

  -- the first file of a chain, by what it begins with
  pub first_whole : begins_level bytes ≡ false → not_whole name bytes ≡ None → first_link name bytes ≡ Ok (whole_link bytes)
  unfolding first_link
  first_whole e none = rw (e, first_link) (rw (none, first_link) refl)

  pub first_parted : (r : Refusal) → begins_level bytes ≡ false → not_whole name bytes ≡ Some r → first_link name bytes ≡ Err r
  unfolding first_link
  first_parted r e some = rw (e, first_link) (rw (some, first_link) refl)

  pub first_unread : (at : ℕ) → begins_level bytes ≡ true → read_level bytes ≡ Err at → first_link name bytes ≡ Err (BadLevel name at)
  unfolding first_link
  first_unread at e broken = rw (e, first_link) (rw (broken, first_link) refl)

  pub first_level : (c : Contents) → begins_level bytes ≡ true → read_level bytes ≡ Ok c → first_link name bytes ≡ Err (ChainLevel name c.head.level 0)
  unfolding first_link
  first_level c e read = rw (e, first_link) (rw (read, first_link) refl)

  -- the file in place k
  module _ (k : ℕ) (last : Link) where
    pub next_signed : begins_level bytes ≡ false → (number_in 16 4 bytes == signature) ≡ true → next_link k last name bytes ≡ Err (ChainLevel name 0 k)
    unfolding next_link
    next_signed e signed = rw (e, next_link) (rw (signed, next_link) refl)

    pub next_other : begins_level bytes ≡ false → (number_in 16 4 bytes == signature) ≡ false → next_link k last name bytes ≡ Err (BadLevel name 0)
    unfolding next_link
    next_other e other = rw (e, next_link) (rw (other, next_link) refl)

    pub next_unread : (at : ℕ) → begins_level bytes ≡ true → read_level bytes ≡ Err at → next_link k last name bytes ≡ Err (BadLevel name at)
    unfolding next_link
    next_unread at e broken = rw (e, next_link) (rw (broken, next_link) refl)

    pub next_refused : (c : Contents) (r : Refusal) → begins_level bytes ≡ true → read_level bytes ≡ Ok c → not_behind k last name c ≡ Some r → next_link k last name bytes ≡ Err r
    unfolding next_link
    next_refused c r e read cause = rw (e, next_link) (rw (read, next_link) (rw (cause, next_link) refl))

    pub next_accepted : (c : Contents) → begins_level bytes ≡ true → read_level bytes ≡ Ok c → not_behind k last name c ≡ None → next_link k last name bytes ≡ Ok (level_link c)
    unfolding next_link
    next_accepted c e read none = rw (e, next_link) (rw (read, next_link) (rw (none, next_link) refl))

few_bytes : (k : ℕ) → k ≤ 3 → 256 ^ k ≤ 16777216
few_bytes zero h = omega arith
few_bytes (suc zero) h = omega arith
few_bytes (suc (suc zero)) h = omega arith
few_bytes (suc (suc (suc zero))) h = omega arith
few_bytes (suc (suc (suc (suc k)))) h = absurd (omega arith)

-- too few bytes to have the signature of a database
pub unsigned : (first : List ℕ) → ((i : ℕ) → get_or first i 0 < 256) → length first < 20 → (number_in 16 4 first == signature) ≡ false
unfolding number_in
unsigned first small short =
    let few : length (drop 16 first) ≤ 3 = omega (arith, length-drop 16 first) in
    let below : number_of (drop 16 first) < 256 ^ length (drop 16 first) = number_of-lt (drop 16 first) (λ i. subst (λ (n : ℕ). n < 256) (sym (get_or-drop 16 first i 0)) (small (16 + i))) in
    let low = few_bytes (length (drop 16 first)) few in
    let all : number_of (take 4 (drop 16 first)) ≡ number_of (drop 16 first) = ap number_of (take_all 4 (drop 16 first) (omega (arith, few))) in
    eq_no (number_of (take 4 (drop 16 first))) signature (λ same. omega (arith, below, low, all, same))

-- what is refused by a test
pub refused : (T : Type 0) (cause : Cause) (fault : Fault) (r : Refusal) → fault ≡ Refused r → cause ≡ Some r → TestedAlone {T = T} (Err fault) cause
refused T cause fault r is some = subst (λ (f : Fault). TestedAlone {T = T} (Err f) cause) (sym is) some
