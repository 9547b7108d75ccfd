-- Which pages wait, as one is kept, is marked, or is dropped.
use Rattle.std.proofs.Common.{◌≡◌, ◌≢◌, inl, inr, ℕ, zero, suc, ◌+◌, ◌-◌, ◌<◌, ◌≤◌, List, [], ◌∷◌, length, take, refl, sym, ap, subst, ◌∙◌, arith, Bool, true, false, nat_eq, Option, Some, None, is_some, if◌then◌else◌, slice_get, Contains}
use Rattle.nb_owner.proofs.Common.{AllByRecursion, IsDistinct, option_and_then, option_map, option_map_or, keys_of, lookup_entry, remove_entry, true≢false, eqb-true, eqb_tells, IsDistinct-head, IsDistinct-tail, lru_cache, promoted, put_entries, Contains-lookup_entry, lookup-lookup_entry, Image, Slot, slot_of, rank_of, with_rank, dropped, NoneWaits, Pages, AreOf, bare, eq_other, eq_self}

-- the first page and the others
pub rank_here : (p : ℕ) (e : ℕ × Slot) (es : Pages) → nat_eq p e.0 ≡ true → rank_of (e ∷ es) p ≡ e.1.rank
rank_here p e es is = rw is refl

pub rank_next : (p : ℕ) (e : ℕ × Slot) (es : Pages) → nat_eq p e.0 ≡ false → rank_of (e ∷ es) p ≡ rank_of es p
rank_next p e es is = rw is refl

-- what holds of each place goes by the first page and the others
by_place : (P : Option ℕ → Type 0) (p : ℕ) (e : ℕ × Slot) (es : Pages) → (nat_eq p e.0 ≡ true → P e.1.rank) → (nat_eq p e.0 ≡ false → P (rank_of es p)) → P (rank_of (e ∷ es) p)
by_place P p e es here next = (elim (nat_eq p e.0) as (λ b. nat_eq p e.0 ≡ b → P (rank_of (e ∷ es) p)) [
  | true ↦ λ is. subst P (sym (rank_here p e es is)) (here is)
  | false ↦ λ is. subst P (sym (rank_next p e es is)) (next is)
]) refl

-- another page is removed
pub rank_removed : (q p : ℕ) (es : Pages) → p ≢ q → rank_of (remove_entry (nat_eq q) es) p ≡ rank_of es p
rank_removed q p [] ne = refl
rank_removed q p (e ∷ es) ne = (elim (nat_eq q e.0) as (λ b. nat_eq q e.0 ≡ b → rank_of (remove_entry (nat_eq q) (e ∷ es)) p ≡ rank_of (e ∷ es) p) [
  | true ↦ λ is. let key : q ≡ e.0 = eqb-true q e.0 is in ap (λ (xs : Pages). rank_of xs p) (sym (removed e es is)) ∙ sym (rank_next p e es (eq_other p e.0 (λ same. ne (same ∙ sym key))))
  | false ↦ λ is. ap (λ (xs : Pages). rank_of xs p) (kept e es is) ∙ again e es (rank_removed q p es ne)
]) refl
  where
    removed : (e : ℕ × Slot) (es : Pages) → nat_eq q e.0 ≡ true → es ≡ remove_entry (nat_eq q) (e ∷ es)
    removed e es is = rw is refl

    kept : (e : ℕ × Slot) (es : Pages) → nat_eq q e.0 ≡ false → remove_entry (nat_eq q) (e ∷ es) ≡ e ∷ remove_entry (nat_eq q) es
    kept e es is = rw is refl

    again : (e : ℕ × Slot) (es : Pages) → rank_of (remove_entry (nat_eq q) es) p ≡ rank_of es p → rank_of (e ∷ remove_entry (nat_eq q) es) p ≡ rank_of (e ∷ es) p
    again e es so = by_place (λ x. rank_of (e ∷ remove_entry (nat_eq q) es) p ≡ x) p e es (λ is. rank_here p e (remove_entry (nat_eq q) es) is) (λ is. rank_next p e (remove_entry (nat_eq q) es) is ∙ so)

-- a page is marked
pub rank_marked_other : (q p : ℕ) (rank : Option ℕ) (es : Pages) → p ≢ q → rank_of (with_rank q rank es) p ≡ rank_of es p
rank_marked_other q p rank [] ne = refl
rank_marked_other q p rank (e ∷ es) ne = (elim (nat_eq q e.0) as (λ b. nat_eq q e.0 ≡ b → rank_of (with_rank q rank (e ∷ es)) p ≡ rank_of (e ∷ es) p) [
  | true ↦ λ is. let key : q ≡ e.0 = eqb-true q e.0 is in let apart : nat_eq p e.0 ≡ false = eq_other p e.0 (λ same. ne (same ∙ sym key)) in rw is (rw apart refl)
  | false ↦ λ is. rw is (by_place (λ x. rank_of (e ∷ with_rank q rank es) p ≡ x) p e es (λ at. rank_here p e (with_rank q rank es) at) (λ at. rank_next p e (with_rank q rank es) at ∙ rank_marked_other q p rank es ne))
]) refl

pub rank_marked : (p : ℕ) (rank : Option ℕ) (es : Pages) → is_some (slot_of es p) ≡ true → rank_of (with_rank p rank es) p ≡ rank
rank_marked p rank [] there = absurd (true≢false (sym there))
rank_marked p rank (e ∷ es) there = (elim (nat_eq p e.0) as (λ b. nat_eq p e.0 ≡ b → rank_of (with_rank p rank (e ∷ es)) p ≡ rank) [
  | true ↦ λ is. rw is (rank_here p (e.0, record e.1 { rank = rank }) es is)
  | false ↦ λ is. rw is (rank_next p e (with_rank p rank es) is ∙ rank_marked p rank es (rw is at there))
]) refl

-- a page that waits is there
pub waits_there : (p r : ℕ) (es : Pages) → rank_of es p ≡ Some r → is_some (slot_of es p) ≡ true
waits_there p r es is = by (slot_of es p) is
  where
    by : (o : Option Slot) → option_and_then (λ slot. slot.rank) o ≡ Some r → is_some o ≡ true
    by None e = absurd (let h : None ≡ Some r = e in cc)
    by (Some slot) e = refl

-- the last page is left out, which doesn't wait
pub rank_taken : (p n : ℕ) (es : Pages) → length es ≤ suc n → option_and_then (λ e. option_map (λ _. e.0) e.1.rank) (slice_get es n) ≡ None → rank_of (take n es) p ≡ rank_of es p
rank_taken p zero [] long none = refl
rank_taken p zero (e ∷ []) long none = sym (by_place (λ x. x ≡ None) p e [] (λ is. no_rank e.1.rank none) (λ is. refl))
  where
    no_rank : (r : Option ℕ) → option_map (λ _. e.0) r ≡ None → r ≡ None
    no_rank None e = refl
    no_rank (Some r) e = absurd (let h : Some _ ≡ None = e in cc)
rank_taken p zero (e ∷ f ∷ es) long none = absurd (omega arith)
rank_taken p (suc n) [] long none = refl
rank_taken p (suc n) (e ∷ es) long none =
    by_place (λ x. rank_of (e ∷ take n es) p ≡ x) p e es (λ is. rank_here p e (take n es) is) (λ is. rank_next p e (take n es) is ∙ rank_taken p n es (omega arith) none)

-- A page is kept that drops none that waits: it has the rank that it is given, and every other waits as it did.
module _ (held : Rattle.nb_cache.specs.Held.Held) (p : ℕ) (v : Slot) (some : 0 < held.cap) (long : length held.pages ≤ held.cap) (none : dropped held p ≡ None) where
  abbrev after : Option (ℕ × Slot) → Pages
  after o = option_map_or (λ e. (e.0, v) ∷ remove_entry (nat_eq p) held.pages) o ((p, v) ∷ take (held.cap - 1) held.pages)

  pub rank_kept : rank_of (put_entries nat_eq (lru_cache held.pages held.cap) p v) p ≡ v.rank
  rank_kept = by (lookup_entry (nat_eq p) held.pages) refl
    where
      own : nat_eq p p ≡ true
      own = elim (eqb_tells p p) [ inl w ↦ w.0 | inr w ↦ absurd (w.1 refl) ]

      by : (o : Option (ℕ × Slot)) → lookup_entry (nat_eq p) held.pages ≡ o → rank_of (after o) p ≡ v.rank
      by None is = rank_here p (p, v) (take (held.cap - 1) held.pages) own
      by (Some e) is = rank_here p (e.0, v) (remove_entry (nat_eq p) held.pages) (Contains-lookup_entry (nat_eq p) held.pages e is).1

  pub rank_kept_other : (q : ℕ) → q ≢ p → rank_of (put_entries nat_eq (lru_cache held.pages held.cap) p v) q ≡ rank_of held.pages q
  rank_kept_other q ne = by (lookup_entry (nat_eq p) held.pages) refl
    where
      absent : lookup_entry (nat_eq p) held.pages ≡ None → is_some (slot_of held.pages p) ≡ false
      absent is = ap is_some (sym (lookup-lookup_entry (nat_eq p) held.pages) ∙ ap (option_map (λ (e : ℕ × Slot). e.1)) is)

      last : lookup_entry (nat_eq p) held.pages ≡ None → option_and_then (λ e. option_map (λ _. e.0) e.1.rank) (slice_get held.pages (held.cap - 1)) ≡ None
      last is = ap (λ (b : Bool). option_and_then (λ (e : ℕ × Slot). option_map (λ _. e.0) e.1.rank) (if b then None else slice_get held.pages (held.cap - 1))) (sym (absent is)) ∙ none

      by : (o : Option (ℕ × Slot)) → lookup_entry (nat_eq p) held.pages ≡ o → rank_of (after o) q ≡ rank_of held.pages q
      by None is = rank_next q (p, v) (take (held.cap - 1) held.pages) (eq_other q p ne) ∙ rank_taken q (held.cap - 1) held.pages (omega (arith, some, long)) (last is)
      by (Some e) is =
          let key : p ≡ e.0 = eqb-true p e.0 (Contains-lookup_entry (nat_eq p) held.pages e is).1 in
          rank_next q (e.0, v) (remove_entry (nat_eq p) held.pages) (eq_other q e.0 (λ same. ne (same ∙ sym key))) ∙ rank_removed p q held.pages ne

-- a page that is looked at goes first, and waits as it did
pub rank_promoted : (p q : ℕ) (es : Pages) → rank_of (promoted (nat_eq p) es) q ≡ rank_of es q
rank_promoted p q es = by (lookup_entry (nat_eq p) es) refl
  where
    by : (o : Option (ℕ × Slot)) → lookup_entry (nat_eq p) es ≡ o → rank_of (option_map_or (λ e. e ∷ remove_entry (nat_eq p) es) o es) q ≡ rank_of es q
    by None is = refl
    by (Some e) is =
        let own : nat_eq p e.0 ≡ true = (Contains-lookup_entry (nat_eq p) es e is).1 in
        let slot : slot_of es p ≡ Some e.1 = sym (lookup-lookup_entry (nat_eq p) es) ∙ ap (option_map (λ (f : ℕ × Slot). f.1)) is in
        elim (eqb_tells q e.0) [
          | inl w ↦ rank_here q e (remove_entry (nat_eq p) es) w.0 ∙ sym (ap (λ o. option_and_then (λ (s : Slot). s.rank) o) (ap (slot_of es) (w.1 ∙ sym (eqb-true p e.0 own)) ∙ slot))
          | inr w ↦ rank_next q e (remove_entry (nat_eq p) es) w.0 ∙ rank_removed p q es (λ same. w.1 (same ∙ eqb-true p e.0 own))
        ]

-- none waits where no rank is found
pub none_found : (es : Pages) → NoneWaits es → (p : ℕ) → rank_of es p ≡ None
none_found [] none p = refl
none_found (e ∷ es) none p = by_place (λ x. x ≡ None) p e es (λ is. none.0) (λ is. none_found es none.1 p)

-- How many pages wait.
abbrev pub waiting_count : Pages → ℕ
waiting_count [] = 0
waiting_count (e ∷ es) = (if is_some e.1.rank then 1 else 0) + waiting_count es

pub fewer_wait : (p r : ℕ) (es : Pages) → rank_of es p ≡ Some r → waiting_count (with_rank p None es) < waiting_count es
fewer_wait p r [] is = absurd (let h : None ≡ Some r = is in cc)
fewer_wait p r (e ∷ es) is = (elim (nat_eq p e.0) as (λ b. nat_eq p e.0 ≡ b → waiting_count (with_rank p None (e ∷ es)) < waiting_count (e ∷ es)) [
  | true ↦ λ at. rw at (let rank : e.1.rank ≡ Some r = sym (rank_here p e es at) ∙ is in rw rank (omega arith))
  | false ↦ λ at. rw at (let less = fewer_wait p r es (sym (rank_next p e es at) ∙ is) in omega (arith, less))
]) refl

-- a page that was kept is there
pub slot_put : (p : ℕ) (v : Slot) (es : Pages) (cap : ℕ) → slot_of (put_entries nat_eq (lru_cache es cap) p v) p ≡ Some v
slot_put p v es cap = by (lookup_entry (nat_eq p) es) refl
  where
    by : (o : Option (ℕ × Slot)) → lookup_entry (nat_eq p) es ≡ o → slot_of (option_map_or (λ e. (e.0, v) ∷ remove_entry (nat_eq p) es) o ((p, v) ∷ take (cap - 1) es)) p ≡ Some v
    by None is = let own : nat_eq p p ≡ true = eq_self p in rw own refl
    by (Some e) is = let own : nat_eq p e.0 ≡ true = (Contains-lookup_entry (nat_eq p) es e is).1 in rw own refl

pub slot_kept : (p : ℕ) (v : Slot) (es : Pages) (cap : ℕ) → is_some (slot_of (put_entries nat_eq (lru_cache es cap) p v) p) ≡ true
slot_kept p v es cap = ap is_some (slot_put p v es cap)

-- a page that is marked has the bytes that it had
pub marked_of : (image : Image) (p : ℕ) (rank : Option ℕ) (es : Pages) → AreOf image es → AreOf image (with_rank p rank es)
marked_of image p rank [] all = tt
marked_of image p rank (e ∷ es) all = (elim (nat_eq p e.0) as (λ b. nat_eq p e.0 ≡ b → AreOf image (with_rank p rank (e ∷ es))) [
  | true ↦ λ is. rw is (all.0, all.1)
  | false ↦ λ is. rw is (all.0, marked_of image p rank es all.1)
]) refl

pub marked_bare : (p : ℕ) (rank : Option ℕ) (es : Pages) → bare (with_rank p rank es) ≡ bare es
marked_bare p rank [] = refl
marked_bare p rank (e ∷ es) = (elim (nat_eq p e.0) as (λ b. nat_eq p e.0 ≡ b → bare (with_rank p rank (e ∷ es)) ≡ bare (e ∷ es)) [
  | true ↦ λ is. rw is refl
  | false ↦ λ is. rw is (ap (λ (xs : List (ℕ × List ℕ)). (e.0, e.1.bytes) ∷ xs) (marked_bare p rank es))
]) refl

-- no page is there twice, and there are as many, once one is marked
pub marked_keys : (p : ℕ) (rank : Option ℕ) (es : Pages) → keys_of (with_rank p rank es) ≡ keys_of es
marked_keys p rank [] = refl
marked_keys p rank (e ∷ es) = (elim (nat_eq p e.0) as (λ b. nat_eq p e.0 ≡ b → keys_of (with_rank p rank (e ∷ es)) ≡ keys_of (e ∷ es)) [
  | true ↦ λ is. rw is refl
  | false ↦ λ is. rw is (ap (λ (xs : List ℕ). e.0 ∷ xs) (marked_keys p rank es))
]) refl

pub marked_long : (p : ℕ) (rank : Option ℕ) (es : Pages) → length (with_rank p rank es) ≡ length es
marked_long p rank [] = refl
marked_long p rank (e ∷ es) = (elim (nat_eq p e.0) as (λ b. nat_eq p e.0 ≡ b → length (with_rank p rank (e ∷ es)) ≡ length (e ∷ es)) [
  | true ↦ λ is. rw is refl
  | false ↦ λ is. rw is (let same = marked_long p rank es in omega (arith, same))
]) refl

pub marked_none : (p : ℕ) (es : Pages) → NoneWaits es → NoneWaits (with_rank p None es)
marked_none p [] none = tt
marked_none p (e ∷ es) none = (elim (nat_eq p e.0) as (λ b. nat_eq p e.0 ≡ b → NoneWaits (with_rank p None (e ∷ es))) [
  | true ↦ λ is. rw is (refl, none.1)
  | false ↦ λ is. rw is (none.0, marked_none p es none.1)
]) refl

-- no page is there twice, so the rank of one that is there is found
pub found_rank : (es : Pages) → IsDistinct nat_eq (keys_of es) → (p : ℕ) (slot : Slot) → Contains es (p, slot) → rank_of es p ≡ slot.rank
found_rank [] once p slot (k, low, is) = absurd (omega (arith, low))
found_rank (e ∷ es) once p slot (zero, low, is) = rank_here p e es (ap (λ (x : ℕ × Slot). nat_eq p x.0) is ∙ eq_self p) ∙ ap (λ (x : ℕ × Slot). x.1.rank) is
found_rank (e ∷ es) once p slot (suc k, low, is) =
    let there : Contains es (p, slot) = (k, omega (arith, low), is) in
    rank_next p e es (eq_sym e.0 p (apart (λ n. nat_eq e.0 n ≡ false) es (p, slot) (IsDistinct-head nat_eq e.0 (keys_of es) once) there)) ∙ found_rank es (IsDistinct-tail nat_eq e.0 (keys_of es) once) p slot there
  where
    eq_sym : (a b : ℕ) → nat_eq a b ≡ false → nat_eq b a ≡ false
    eq_sym a b ne = eq_other b a (λ same. absurd (true≢false (sym (eq_self a) ∙ subst (λ (n : ℕ). nat_eq a n ≡ false) same ne)))

    apart : (P : ℕ → Type 0) (xs : Pages) (x : ℕ × Slot) → AllByRecursion P (keys_of xs) → Contains xs x → P x.0
    apart P [] x all (k, low, is) = absurd (omega (arith, low))
    apart P (y ∷ ys) x all (zero, low, is) = subst (λ (z : ℕ × Slot). P z.0) is all.0
    apart P (y ∷ ys) x all (suc k, low, is) = apart P ys x all.1 (k, omega (arith, low), is)
