-- An outcome goes on with the history.
use Rattle.std.proofs.Common.{◌≡◌, ◌⊎◌, inl, inr, ℕ, zero, suc, ◌+◌, ◌-◌, ◌*◌, ◌/◌, ◌<◌, ◌≤◌, ◌==◌, nat_le, Bool, true, false, List, [], ◌∷◌, length, take, replicate, get_or, ⊎_elim, length-append, refl, sym, ◌∙◌, ap, ap₂, subst, arith, MatchBool, Some, None}
use Rattle.nb_mem.proofs.Common.{eqb-true, leb-true, cases_lt, length-take-le, length-replicate, get_or-take, get_or_append_left, get_or-append_right, File, bytes_of, PageLeft, AppendLeft, IsTornFrom, Leaves, Choices, Change, Placed, Made, Removed, Paged, Appended, Synced, Entry, Changed, Said, Asked, Outcome, file_after, NowAfter, BackAfter, files_of, Now, Back, world_of, MayBe, IsOther, is_yes, behind, page_by, torn_by, bytes_by, anew_by, settled, outcome_after, choices_after, outcome_by, left_by, to_same, to_other, with_file-same, with_file-other, same_self, same_other, decide}
use Rattle.std.proofs.Math.Nat.{div-mul-le_self}

get_or-zeros : (n i : ℕ) → ◌≡◌ {A = ℕ} (get_or (replicate n 0) i 0) 0
get_or-zeros zero i = refl
get_or-zeros (suc n) zero = refl
get_or-zeros (suc n) (suc i) = get_or-zeros n i

-- what holds of both branches holds of a choice
chosen : {A : Type 0} (P : A → Type 0) (b : Bool) (x y : A) → (b ≡ true → P x) → (b ≡ false → P y) → P (elim b as (λ _. A) [ true ↦ x | false ↦ y ])
chosen P true x y holds fails = holds refl
chosen P false x y holds fails = fails refl

grown-bound : (at size len : ℕ) → len ≤ at → len + (at + size - len) / size * size ≤ at + size
grown-bound at size len low = omega (arith, div-mul-le_self (at + size - len) size)

-- what choices leave of a page is one of the outcomes of its write
page_left : (c : Choices) (at : ℕ) (page : List ℕ) (before : File) → PageLeft at page before (page_by c at page before).0
unfolding page_by
page_left c at page before =
    let P : File × Choices → Type 0 = λ x. PageLeft at page before x.0 in
    chosen P (is_yes c) _ _ (λ kept. inr (inl refl))
    (λ lost. chosen P (nat_le (length (bytes_of before)) at) _ _
    (λ low. chosen P (is_yes (behind c)) _ _
    (λ kept. inr (inr ((at + length page - length (bytes_of before)) / length page, grown-bound at (length page) (length (bytes_of before)) (leb-true (length (bytes_of before)) at low), refl)))
    (λ lost. inl refl))
    (λ high. inl refl))

whole_torn : (bytes : List ℕ) → IsTornFrom bytes bytes
whole_torn bytes = record { no_longer = omega arith; each = λ i low. inl refl }

half : (bytes : List ℕ) → length bytes / 2 ≤ length bytes
half bytes = omega arith

half_torn : (zeros : Bool) (bytes : List ℕ) → IsTornFrom bytes (torn_by zeros bytes)
unfolding torn_by
half_torn true bytes =
    let h : ℕ = length bytes / 2 in
    let front : length (take h bytes) ≡ h = length-take-le h bytes (half bytes) in
    record {
      no_longer = omega (arith, length-append (take h bytes) (replicate (length bytes - h) 0), front, length-replicate {A = ℕ} (length bytes - h) 0);
      each = λ i low. ⊎_elim
          (λ first. let first_too : i < length (take h bytes) = omega (arith, front) in inl (get_or_append_left (take h bytes) _ 0 i first_too ∙ get_or-take h bytes i 0 first))
          (λ second. inr (get_or-append_right (take h bytes) _ h i 0 front second ∙ get_or-zeros (length bytes - h) (i - h)))
          (cases_lt i h);
    }
half_torn false bytes =
    let h : ℕ = length bytes / 2 in
    let front : length (take h bytes) ≡ h = length-take-le h bytes (half bytes) in
    record {
      no_longer = omega (arith, front);
      each = λ i low. let first : i < h = omega (arith, front) in inl (get_or-take h bytes i 0 first);
    }

-- and of bytes, one of the outcomes of appending them
bytes_left : (c : Choices) (len : ℕ) (bytes : List ℕ) (before : File) → AppendLeft len bytes before (bytes_by c len bytes before).0
unfolding bytes_by
bytes_left c len bytes before =
    let P : File × Choices → Type 0 = λ x. AppendLeft len bytes before x.0 in
    chosen P (length (bytes_of before) == len) _ _
    (λ same. let at : length (bytes_of before) ≡ len = eqb-true (length (bytes_of before)) len same in
    chosen P (is_yes c) _ _
    (λ kept. chosen P (is_yes (behind c)) _ _
    (λ whole. inr (bytes, whole_torn bytes, at, refl))
    (λ torn. inr (torn_by (is_yes (behind (behind c))) bytes, half_torn (is_yes (behind (behind c))) bytes, at, refl)))
    (λ lost. inl refl))
    (λ other. inl refl)

module _ (es : List Entry) (n : List ℕ) where
  -- what a crash may leave after a change of the file
  abbrev After : Change → Outcome → Type 0
  After change o = MatchBool o.is_back (BackAfter change (Back es n) (Now es n) o.left) (NowAfter change (files_of es n) (Now es n) o.left)

  to_MayBe : (change : Change) (b : Bool) (left : File) → After change (record { left = left; is_back = b }) → MayBe (Changed n change ∷ es) n (record { left = left; is_back = b })
  to_MayBe change true left is = to_same _ (Back es n left) n is
  to_MayBe change false left is = to_same _ (Now es n left) n is

  either : (b : Bool) (left : File) → MayBe es n (record { left = left; is_back = b }) → Back es n left ⊎ Now es n left
  either true left is = inl is
  either false left is = inr is

  begins_anew : (change : Change) (file : File) (o : Outcome) (c : Choices) → (Back es n o.left ⊎ Now es n o.left → BackAfter change (Back es n) (Now es n) o.left) → NowAfter change (files_of es n) (Now es n) file
      → MayBe es n o → After change (anew_by c file o)
  unfolding anew_by
  begins_anew change file o c back now may = chosen (After change) (is_yes c) _ _ (λ kept. now) (λ lost. back (either o.is_back o.left may))

  goes_on : (change : Change) (o : Outcome) (left : File)
      → (Back es n o.left → BackAfter change (Back es n) (Now es n) o.left)
      → (Now es n o.left → NowAfter change (files_of es n) (Now es n) left)
      → MayBe es n o → After change (elim o.is_back as (λ _. Outcome) [ true ↦ o | false ↦ settled left ])
  goes_on change o left back now may = chosen (After change) o.is_back o (settled left)
      (λ is. subst (λ b. MatchBool b (BackAfter change (Back es n) (Now es n) o.left) (NowAfter change (files_of es n) (Now es n) o.left)) (sym is)
      (back (subst (λ b. MatchBool b (Back es n o.left) (Now es n o.left)) is may)))
      (λ is. now (subst (λ b. MatchBool b (Back es n o.left) (Now es n o.left)) is may))

  after : (first : Choices) (change : Change) (o : Outcome) (c : Choices) → MayBe es n o
      → After change (outcome_after first change (length (bytes_of (files_of es n))) (file_after change (files_of es n)) o c)
  unfolding outcome_after
  after first (Placed bytes) o c may = refl
  after first Made o c may = begins_anew Made (Some []) o c (λ or. or) refl may
  after first Removed o c may = begins_anew Removed None o c (λ or. or) refl may
  after first (Paged at page) o c may = goes_on (Paged at page) o (page_by c at page o.left).0 (λ back. back) (λ now. (o.left, now, page_left c at page o.left)) may
  after first (Appended bytes) o c may =
      let len : ℕ = length (bytes_of (files_of es n)) in
      goes_on (Appended bytes) o (bytes_by c len bytes o.left).0 (λ back. back) (λ now. (o.left, now, bytes_left c len bytes o.left)) may
  after first Synced o c may = refl

  pub goes_by : (first : Choices) (change : Change) (o : Outcome) (c : Choices) → MayBe es n o
      → MayBe (Changed n change ∷ es) n (outcome_after first change (length (bytes_of (files_of es n))) (file_after change (files_of es n)) o c)
  goes_by first change o c may =
      let new : Outcome = outcome_after first change (length (bytes_of (files_of es n))) (file_after change (files_of es n)) o c in
      to_MayBe change new.is_back new.left (after first change o c may)

-- a call that changed another file, or none
pub other_file : (e : Entry) (n : List ℕ) (es : List Entry) → IsOther e n → files_of (e ∷ es) n ≡ files_of es n
other_file (Changed m change) n es other = with_file-other (files_of es) m (file_after change (files_of es m)) n other
other_file (Said bytes) n es other = refl
other_file (Asked question) n es other = refl

other_left : (e : Entry) (n : List ℕ) (es : List Entry) (o : Outcome) → IsOther e n → MayBe es n o → MayBe (e ∷ es) n o
other_left (Changed m change) n es o other may = by_test o.is_back may
  where
    by_test : (b : Bool) → MatchBool b (Back es n o.left) (Now es n o.left) → MatchBool b (Back (Changed m change ∷ es) n o.left) (Now (Changed m change ∷ es) n o.left)
    by_test true back = to_other _ _ n m other back
    by_test false now = to_other _ _ n m other now
other_left (Said bytes) n es o other may = may
other_left (Asked question) n es o other may = may

pub other_outcome : (first : Choices) (e : Entry) (n : List ℕ) (es : List Entry) → IsOther e n → outcome_by first (e ∷ es) n ≡ outcome_by first es n
unfolding outcome_by
other_outcome first (Changed m change) n es other = rw (same_other n m other, outcome_by) refl
other_outcome first (Said bytes) n es other = refl
other_outcome first (Asked question) n es other = refl

-- one of this file
pub same_outcome : (first : Choices) (n : List ℕ) (change : Change) (es : List Entry) → outcome_by first (Changed n change ∷ es) n
    ≡ (
      outcome_after first change (length (bytes_of (files_of es n))) (file_after change (files_of es n)) (outcome_by first es n).0 (outcome_by first es n).1,
      choices_after first change (length (bytes_of (files_of es n))) (outcome_by first es n).0 (outcome_by first es n).1,
    )
unfolding outcome_by
same_outcome first n change es = rw (same_self n, outcome_by) refl

before_all : (first : Choices) (n : List ℕ) → MayBe [] n (outcome_by first [] n).0
unfolding outcome_by
before_all first n = refl

-- what choices leave is one of the outcomes
pub left_may : (first : Choices) (es : List Entry) (n : List ℕ) → MayBe es n (outcome_by first es n).0
left_may first [] n = before_all first n
left_may first (Changed m change ∷ es) n = ⊎_elim
    (λ same. subst (λ q. MayBe (Changed q change ∷ es) n (outcome_by first (Changed q change ∷ es) n).0) same
    (subst (λ o. MayBe (Changed n change ∷ es) n o) (sym (ap (λ x. x.0) (same_outcome first n change es)))
    (goes_by es n first change (outcome_by first es n).0 (outcome_by first es n).1 (left_may first es n))))
    (λ other. subst (λ o. MayBe (Changed m change ∷ es) n o) (sym (ap (λ x. x.0) (other_outcome first (Changed m change) n es other)))
    (other_left (Changed m change) n es (outcome_by first es n).0 other (left_may first es n)))
    (decide n m)
left_may first (Said bytes ∷ es) n = subst (λ o. MayBe es n o) (sym (ap (λ x. x.0) (other_outcome first (Said bytes) n es tt))) (left_may first es n)
left_may first (Asked question ∷ es) n = subst (λ o. MayBe es n o) (sym (ap (λ x. x.0) (other_outcome first (Asked question) n es tt))) (left_may first es n)

pub left_leaves : (first : Choices) (es : List Entry) (n : List ℕ) → Leaves (world_of es) n (left_by first es n)
left_leaves first es n = either es n (outcome_by first es n).0.is_back (left_by first es n) (left_may first es n)

-- a call that changed this one
module _ (e : Entry) (n : List ℕ) (es : List Entry) (change : Change) (is : e ≡ Changed n change) (was file : File) (reads : was ≡ files_of es n) (made : file ≡ file_after change was) where
  pub changed_file : file ≡ files_of (e ∷ es) n
  changed_file = made ∙ ap (file_after change) reads ∙ sym (ap (λ d. files_of (d ∷ es) n) is ∙ with_file-same (files_of es) n (file_after change (files_of es n)))

  pub changed_outcome : (first : Choices) (len : ℕ) (old new : Outcome) (c d : Choices) → len ≡ length (bytes_of was)
      → new ≡ outcome_after first change len file old c → d ≡ choices_after first change len old c
      → (old, c) ≡ outcome_by first es n → (new, d) ≡ outcome_by first (e ∷ es) n
  changed_outcome first len old new c d at is_new is_d before =
      let at_es : len ≡ length (bytes_of (files_of es n)) = at ∙ ap (λ (f : File). length (bytes_of f)) reads in
      let file_es : file ≡ file_after change (files_of es n) = made ∙ ap (file_after change) reads in
      ap₂ (λ (o : Outcome) (x : Choices). (o, x)) (is_new ∙ ap₂ (λ (l : ℕ) (f : File). outcome_after first change l f old c) at_es file_es) (is_d ∙ ap (λ (l : ℕ). choices_after first change l old c) at_es)
      ∙ ap (λ (x : Outcome × Choices). (outcome_after first change (length (bytes_of (files_of es n))) (file_after change (files_of es n)) x.0 x.1, choices_after first change (length (bytes_of (files_of es n))) x.0 x.1)) before
      ∙ sym (ap (λ d. outcome_by first (d ∷ es) n) is ∙ same_outcome first n change es)
