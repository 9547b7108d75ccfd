-- Lists of pairs at the first pair whose key passes a test.
use Rattle.std.proofs.Common.{◌≡◌, ◌<◌, ℕ, length, Bool, true, false, List, [], ◌∷◌, ◌++◌, Some, None, refl, sym, ap, subst, ◌∙◌, nat_eq}
use Rattle.nb_cache.proofs.Common.{AllByRecursion, IsDistinct, ne_eqb, eqb-false, IsDistinct-head, IsDistinct-tail, option_map_or, last_entry, promoted, demoted, Frame, Frames, IsLast, keys_of, lookup, lookup_entry, remove_entry, set_value}
use Rattle.lru.proofs.Pairs.{cut_end, last_of_push}

module _ {K V : Type 0} (test : K → Bool) where
  -- no key passes
  abbrev pub Misses : List (K × V) → Type 0
  Misses es = AllByRecursion (λ e. test e.0 ≡ false) es

  pub lookup_entry-absent : (es : List (K × V)) → Misses es → lookup_entry test es ≡ None
  lookup_entry-absent [] none = refl
  lookup_entry-absent (e ∷ es) none = rw none.0 (lookup_entry-absent es none.1)

  pub lookup-absent : (es : List (K × V)) → Misses es → lookup test es ≡ None
  lookup-absent [] none = refl
  lookup-absent (e ∷ es) none = rw none.0 (lookup-absent es none.1)

  pub remove_entry-absent : (es : List (K × V)) → Misses es → remove_entry test es ≡ es
  remove_entry-absent [] none = refl
  remove_entry-absent (e ∷ es) none = rw none.0 (ap (λ l. e ∷ l) (remove_entry-absent es none.1))

  module _ (x : K × V) (behind : List (K × V)) (passes : test x.0 ≡ true) where
    pub lookup_entry-at : (before : List (K × V)) → Misses before → lookup_entry test (before ++ x ∷ behind) ≡ Some x
    lookup_entry-at [] none = rw passes
    lookup_entry-at (e ∷ es) none = rw none.0 (lookup_entry-at es none.1)

    pub lookup-at : (before : List (K × V)) → Misses before → lookup test (before ++ x ∷ behind) ≡ Some x.1
    lookup-at [] none = rw passes
    lookup-at (e ∷ es) none = rw none.0 (lookup-at es none.1)

    pub remove_entry-at : (before : List (K × V)) → Misses before → remove_entry test (before ++ x ∷ behind) ≡ before ++ behind
    remove_entry-at [] none = rw passes
    remove_entry-at (e ∷ es) none = rw none.0 (ap (λ l. e ∷ l) (remove_entry-at es none.1))

    pub set_value-at : (w : V) (before : List (K × V)) → Misses before → set_value test (before ++ x ∷ behind) w ≡ before ++ (x.0, w) ∷ behind
    set_value-at w [] none = rw passes
    set_value-at w (e ∷ es) none = rw none.0 (ap (λ l. e ∷ l) (set_value-at w es none.1))

    pub promoted-at : (before : List (K × V)) → Misses before → promoted test (before ++ x ∷ behind) ≡ x ∷ (before ++ behind)
    promoted-at before none =
        let l : List (K × V) = before ++ x ∷ behind in
        ap (λ o. option_map_or (λ e. e ∷ remove_entry test l) o l) (lookup_entry-at before none) ∙ ap (λ r. x ∷ r) (remove_entry-at before none)

    pub demoted-at : (before : List (K × V)) → Misses before → demoted test (before ++ x ∷ behind) ≡ (before ++ behind) ++ x ∷ []
    demoted-at before none =
        let l : List (K × V) = before ++ x ∷ behind in
        ap (λ o. option_map_or (λ e. remove_entry test l ++ e ∷ []) o l) (lookup_entry-at before none) ∙ ap (λ r. r ++ x ∷ []) (remove_entry-at before none)

-- one more at the end
pub All-snoc : {X : Type 0} (P : X → Type 0) (xs : List X) (x : X) → AllByRecursion P xs → P x → AllByRecursion P (xs ++ x ∷ [])
All-snoc P [] x all one = (one, tt)
All-snoc P (y ∷ xs) x all one = (all.0, All-snoc P xs x all.1 one)

module _ {V : Type 0} (x : ℕ × V) (behind : List (ℕ × V)) where
  key_at : (P : ℕ → Type 0) (before : List (ℕ × V)) → AllByRecursion P (keys_of (before ++ x ∷ behind)) → P x.0
  key_at P [] all = all.0
  key_at P (e ∷ es) all = key_at P es all.1

  distinct_before : (before : List (ℕ × V)) → IsDistinct nat_eq (keys_of (before ++ x ∷ behind)) → AllByRecursion (λ e. nat_eq x.0 e.0 ≡ false) before
  distinct_before [] distinct = tt
  distinct_before (e ∷ es) distinct =
      let keys : List ℕ = keys_of (es ++ x ∷ behind) in
      let apart : nat_eq e.0 x.0 ≡ false = key_at (λ k. nat_eq e.0 k ≡ false) es (IsDistinct-head nat_eq e.0 keys distinct) in
      (ne_eqb x.0 e.0 (λ same. eqb-false e.0 x.0 apart (sym same)), distinct_before es (IsDistinct-tail nat_eq e.0 keys distinct))

-- where no two keys are equal, none before a pair is its key
pub misses_before : {V : Type 0} (es before : List (ℕ × V)) (key : ℕ) (value : V) (behind : List (ℕ × V)) → es ≡ before ++ (key, value) ∷ behind → IsDistinct nat_eq (keys_of es) → AllByRecursion (λ e. nat_eq key e.0 ≡ false) before
misses_before {V} es before key value behind parts distinct =
    distinct_before (key, value) behind before (subst (λ (l : List (ℕ × V)). IsDistinct nat_eq (keys_of l)) parts distinct)

-- the last frame, and those before it
pub last_parts : (es : Frames) (key : ℕ) (frame : Frame) → 0 < length es → Some (key, frame) ≡ last_entry es → (front : Frames) × (es ≡ front ++ (key, frame) ∷ [])
last_parts es key frame some is =
    let cut = cut_end es some in
    let last : Some cut.1 ≡ Some (key, frame) = sym (ap last_entry cut.2 ∙ (last_of_push cut.0 cut.1).0) ∙ sym is in
    let same : cut.1 ≡ (key, frame) = cc in
    (cut.0, cut.2 ∙ ap (λ x. cut.0 ++ x ∷ []) same)

pub last_split : (es : Frames) (key : ℕ) (frame : Frame) → 0 < length es → Some (key, frame) ≡ last_entry es → IsDistinct nat_eq (keys_of es) → IsLast es key
last_split es key frame some is distinct =
    let cut = last_parts es key frame some is in record {
      split = record { before = cut.0; frame = frame; behind = []; parts = cut.1; only = misses_before es cut.0 key frame [] cut.1 distinct };
      last = refl;
    }
