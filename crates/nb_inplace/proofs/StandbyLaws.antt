-- What the first bytes of a standby tell, and its length.
use Rattle.std.proofs.Common.{◌≡◌, ◌≢◌, inl, inr, ℕ, ◌+◌, ◌<◌, ◌≤◌, List, [], ◌∷◌, ◌++◌, length, take, refl, sym, ap, ◌∙◌, arith, Bool, true, false, not, ◌==◌, nat_eq, Option, option_map, Some, None}
use Rattle.nb_inplace.proofs.Common.{true≢false, take-take, take_at, length-take, number_in, is_header, state_of, size_of, guid_of, number_in-take, size_facts, normal_state, applying_state, File, same_name, Refusal, NoFile, NotDatabase, Unfinished, ChainGuid, header_in, Cause, first_cause, when, not_database, Page, Image, first_page, image_size, image_in, is_read_only, is_another, not_finishing, not_mergeable, not_next, not_standby, Contents, joined, header-size, same-header, IsLaid, laid, laid-wide, some_page, IsFileIn, OnApply, header_same, no_page, same_other, unheaded, or_right}
use Rattle.nb_cases.specs.declared.events.Case.{Case}
use Rattle.nb_cases.specs.declared.events.Case.TheVariants.{NoCall, Go, WrongState as refused, Unfinished as unfinished, Main, Delta, BothOrMain, GoWithDelta, GoWithoutDelta, GoOrUnfinished}
use Rattle.nb_inplace.proofs.VerdictLaws.{by_state, mergeable_by, standby_state}

-- page 0 of the image is what the file begins with
module _ (bytes : List ℕ) (none : not_database bytes ≡ None) where
  its_first : (image : Image) → IsLaid image bytes → take (image_size image) bytes ≡ first_page image
  its_first [] l = absurd (let few : 1 ≤ 0 = some_page [] l.header in omega (arith, few))
  its_first (p ∷ ps) l = ap (take (image_size (p ∷ ps))) l.is ∙ take_at p (joined (ps ++ l.rest)) (image_size (p ∷ ps)) l.sizes.0

  pub first_field : (at w : ℕ) → at + w ≤ 1024 → number_in at w (first_page (image_in bytes)) ≡ number_in at w bytes
  first_field at w low =
      let l : IsLaid (image_in bytes) bytes = laid bytes none in
      ap (λ (p : Page). number_in at w p) (sym (its_first (image_in bytes) l)) ∙ number_in-take (image_size (image_in bytes)) at w bytes (omega (arith, low, laid-wide (image_in bytes) bytes l))

-- a standby that isn't of the form
pub unformed : (name bytes : List ℕ) (r : Refusal) → not_database bytes ≡ Some r → not_standby name (Some bytes) ≡ Some r
unfolding not_standby first_cause
unformed name bytes r e = rw (e, not_standby) refl

-- what was read of it
module _ (first bytes : List ℕ) (read : first ≡ take 66 bytes) where
  front : take 64 first ≡ take 64 bytes
  front = ap (take 64) read ∙ take-take 64 66 bytes (omega arith)

  pub first_header : is_header first ≡ is_header bytes
  first_header = same-header first bytes front

  pub too_short : length first < 66 → not_database bytes ≡ Some (NotDatabase 0)
  too_short short = by (is_header bytes) refl
    where
      long : length bytes < 66
      long = omega (arith, short, ap length read, length-take 66 bytes)

      by : (t : Bool) → is_header bytes ≡ t → not_database bytes ≡ Some (NotDatabase 0)
      by false is = unheaded bytes is
      by true is = let wide = (size_facts (size_of bytes) (header-size bytes is)).at_least in no_page bytes (length bytes) (size_of bytes) is refl refl (omega (arith, long, wide))

  pub header_is : header_in first ≡ header_in bytes
  header_is = sym (header_same (take 64 first) first refl) ∙ ap header_in front ∙ header_same (take 64 bytes) bytes refl

  pub access_is : not_database bytes ≡ None → not (nat_eq (number_in 65 1 first) 0) ≡ is_read_only (image_in bytes)
  access_is none =
      let same : number_in 65 1 first ≡ number_in 65 1 (first_page (image_in bytes)) = ap (λ (x : List ℕ). number_in 65 1 x) read ∙ number_in-take 66 65 1 bytes (omega arith) ∙ sym (first_field bytes none 65 1 (omega arith)) in
      ap (λ (n : ℕ). not (n == 0)) same

-- A level file that goes on from no backup of the standby is refused in each of the two states, by another refusal.
abbrev another : (bytes : List ℕ) → Contents
another bytes = record { version = 0; head = record { level = 0; guid = []; previous = 0 ∷ guid_of bytes; size = 0; scn = 0; previous_scn = 0 }; pages = [] }

longer : (xs : List ℕ) → (0 ∷ xs) ≢ xs
longer xs e = let more = ap length e in absurd (omega (arith, more))

another_is : (bytes : List ℕ) → is_another bytes (another bytes) ≡ true
another_is bytes = or_right _ _ (ap not (same_other (guid_of bytes) (0 ∷ guid_of bytes) (λ e. longer (guid_of bytes) (sym e))))

first_fails : (t : Bool) (r : Refusal) (cs : List Cause) → t ≡ false → first_cause (when (not t) r ∷ cs) ≡ Some r
unfolding first_cause
first_fails false r cs e = refl
first_fails true r cs e = absurd (true≢false e)

another_next : (name bytes : List ℕ) → not_next name bytes (another bytes) ≡ Some (ChainGuid name (0 ∷ guid_of bytes) (guid_of bytes))
unfolding not_next
another_next name bytes = first_fails (same_name (0 ∷ guid_of bytes) (guid_of bytes)) (ChainGuid name (0 ∷ guid_of bytes) (guid_of bytes)) _ (same_other (0 ∷ guid_of bytes) (guid_of bytes) (longer (guid_of bytes)))

another_finishing : (name bytes : List ℕ) → not_finishing name bytes (another bytes) ≡ Some Unfinished
unfolding not_finishing first_cause
another_finishing name bytes = rw (another_is bytes) refl

apart : (name bytes : List ℕ) → not_finishing name bytes (another bytes) ≡ not_next name bytes (another bytes) → ⊥
apart name bytes e = other (sym (another_finishing name bytes) ∙ e ∙ another_next name bytes)
  where
    other : Some Unfinished ≡ Some (ChainGuid name (0 ∷ guid_of bytes) (guid_of bytes)) → ⊥
    other h = cc

-- what the table says of a standby's state
pub data IsCaseOf (state : ℕ) (case : Case) : Type 0 where
  goes : case ≡ Go → state ≡ normal_state → IsCaseOf state case
  goes_on : case ≡ GoOrUnfinished → state ≡ applying_state → IsCaseOf state case

module _ (state : ℕ) (name bytes : List ℕ) (is : IsFileIn state bytes) where
  in_normal : state_of bytes ≡ normal_state → (not_mergeable bytes name (another bytes) ≡ not_finishing name bytes (another bytes)) → ⊥
  in_normal zero_is says = apart name bytes (sym says ∙ mergeable_by bytes name (another bytes) ∙ ap (λ (n : ℕ). by_state (n == 3) bytes name (another bytes)) zero_is)

  in_applying : state_of bytes ≡ applying_state → (not_mergeable bytes name (another bytes) ≡ not_next name bytes (another bytes)) → ⊥
  in_applying three says = apart name bytes (sym (mergeable_by bytes name (another bytes) ∙ ap (λ (n : ℕ). by_state (n == 3) bytes name (another bytes)) three) ∙ says)

  -- a merge goes in the normal state, and goes on in the applying state
  pub case_is : (case : Case) → OnApply state case → case ≢ refused → (not_standby name (Some bytes) ≡ None) × IsCaseOf state case
  case_is Go says other =
      let here = says name name bytes (another bytes) is in
      (here.0, elim (standby_state name bytes here.0).1 [ inl zero_is ↦ goes refl (sym is.1 ∙ zero_is) | inr three ↦ absurd (in_applying three here.1) ])
  case_is GoOrUnfinished says other =
      let here = says name name bytes (another bytes) is in
      (here.0, elim (standby_state name bytes here.0).1 [ inl zero_is ↦ absurd (in_normal zero_is here.1) | inr three ↦ goes_on refl (sym is.1 ∙ three) ])
  case_is refused says other = absurd (other refl)
  case_is NoCall says other = absurd says
  case_is unfinished says other = absurd says
  case_is Main says other = absurd says
  case_is Delta says other = absurd says
  case_is BothOrMain says other = absurd says
  case_is GoWithDelta says other = absurd says
  case_is GoWithoutDelta says other = absurd says

-- so a merge was begun exactly in the applying state
pub begun_is : (state : ℕ) (case : Case) (test : Bool) → IsCaseOf state case → (test ≡ true → case ≡ GoOrUnfinished) → (test ≡ false → case ≢ GoOrUnfinished) → test ≡ (state == applying_state)
begun_is state case true (goes is zero_is) if_so if_not = absurd (go_other (sym is ∙ if_so refl))
  where
    go_other : Go ≡ GoOrUnfinished → ⊥
    go_other h = cc
begun_is state case false (goes is zero_is) if_so if_not = sym (ap (λ (n : ℕ). n == 3) zero_is)
begun_is state case true (goes_on is three) if_so if_not = sym (ap (λ (n : ℕ). n == 3) three)
begun_is state case false (goes_on is three) if_so if_not = absurd (if_not refl is)

-- a file that has no length isn't there
pub not_there : (name : List ℕ) (file : File) (size : Option ℕ) → size ≡ option_map length file → size ≡ None → not_standby name file ≡ Some (NoFile name)
unfolding not_standby
not_there name None size told is = refl
not_there name (Some bytes) size told is = absurd (none (sym told ∙ is))
  where
    none : option_map (length {A = ℕ}) (Some bytes) ≡ None → ⊥
    none e = cc
