-- What holds of truth values, options, results, numbers and lists, for all crates.
use Rattle.std.proofs.Common.{◌≡◌, ◌≢◌, ◌⊎◌, inl, inr, ℕ, ◌+◌, ◌*◌, ◌<◌, ◌≤◌, List, [], ◌∷◌, ◌++◌, length, take, refl, sym, ap, ◌∙◌, arith, mul-le-mul_right, suc, zero, true≢false, Bool, true, false, not, ◌&&◌, ◌||◌, Option, Some, None, Ok, Err, IsTrue, is_some, nat_eq, nat_lt, nat_le, Contains, min, Result, IsErr, OnOk}
use Rattle.std.proofs.lemmas.Bool.Decides.{eqb_tells, leb_tells}
use Rattle.std.specs.List.{AllByRecursion}

-- what is there and what isn't
pub some_same : {X : Type 0} (x y : X) → Some x ≡ Some y → x ≡ y
some_same x y e = cc

pub some_none : {X : Type 0} (x : X) → Some x ≡ None → ⊥
some_none x e = cc

pub none_some : {X : Type 0} (x : X) → None ≡ Some x → ⊥
none_some x e = cc

pub none_there : {X : Type 0} {x : X} → None ≡ Some x → ⊥
none_there e = cc

pub not_some : {X : Type 0} (o : Option X) → not (is_some o) ≡ true → o ≡ None
not_some None h = refl
not_some (Some x) h = cc

pub not_there : {X : Type 0} (o : Option X) → is_some o ≡ false → o ≡ None
not_there None h = refl
not_there (Some x) h = absurd (true≢false h)

pub none_and_some : {X : Type 0} (o : Option X) (x : X) → o ≡ None → o ≡ Some x → ⊥
none_and_some o x e f = cc

pub err_ok : {E T : Type 0} (e : E) (x : T) → Err e ≡ Ok x → ⊥
err_ok e x is = cc

pub ok_equal : {T E : Type 0} (x y : T) → ◌≡◌ {A = Result T E} (Ok x) (Ok y) → x ≡ y
ok_equal x y e = cc

pub ok_same : {X E : Type 0} (x y : X) (answer : Result X E) → answer ≡ Ok x → answer ≡ Ok y → x ≡ y
ok_same x y answer e f = cc

pub err_not_ok : {X E : Type 0} (error : E) (x : X) (answer : Result X E) → answer ≡ Err error → answer ≡ Ok x → ⊥
err_not_ok error x answer e f = cc

pub no_err : (T E : Type 0) (x : T) → IsErr {T = T} {E = E} (Ok x) → ⊥
no_err T E x h = cc

-- truth values
pub false_true : false ≡ true → ⊥
false_true e = cc

pub never : IsTrue false → ⊥
never e = cc

pub true_or_false : (b : Bool) → (b ≡ true) ⊎ (b ≡ false)
true_or_false true = inl refl
true_or_false false = inr refl

pub not_both : (b : Bool) → b ≡ true → b ≡ false → ⊥
not_both b one other = cc

pub not_true : (b : Bool) → not b ≡ true → b ≡ false
not_true true is = absurd (cc is)
not_true false is = refl

pub not_false : (b : Bool) → not b ≡ false → b ≡ true
not_false true is = refl
not_false false is = absurd (true≢false is)

pub or_true : (b : Bool) → (b || true) ≡ true
or_true true = refl
or_true false = refl

pub or_false : (b : Bool) → (b || false) ≡ b
or_false true = refl
or_false false = refl

pub or_assoc : (a b c : Bool) → a || (b || c) ≡ (a || b) || c
or_assoc true b c = refl
or_assoc false b c = refl

pub both_true : (a b : Bool) → (a && b) ≡ true → (a ≡ true) × (b ≡ true)
both_true true b e = (refl, e)
both_true false b e = absurd (true≢false (sym e))

-- tests of numbers
pub eq_self : (n : ℕ) → nat_eq n n ≡ true
eq_self n = elim (eqb_tells n n) [ inl w ↦ w.0 | inr w ↦ absurd (w.1 refl) ]

pub eq_other : (m n : ℕ) → m ≢ n → nat_eq m n ≡ false
eq_other m n other = elim (eqb_tells m n) [ inl w ↦ absurd (other w.1) | inr w ↦ w.0 ]

pub le_yes : (m n : ℕ) → m ≤ n → nat_le m n ≡ true
le_yes m n h = elim (leb_tells m n) [ inl w ↦ w.0 | inr w ↦ absurd (omega (arith, w.1, h)) ]

pub not_le : (m n : ℕ) → nat_le m n ≡ false → n < m
not_le m n e = elim (leb_tells m n) [ inl w ↦ absurd (true≢false (sym w.0 ∙ e)) | inr w ↦ w.1 ]

pub lt_holds : (m n : ℕ) → nat_lt m n ≡ true → m < n
lt_holds m n is = elim (leb_tells (suc m) n) [ inl w ↦ w.1 | inr w ↦ absurd (not_both (nat_lt m n) is w.0) ]

pub not_lt : (m n : ℕ) → nat_lt n m ≡ false → m ≤ n
not_lt m n h = elim (leb_tells (suc n) m) [ inl w ↦ absurd (true≢false (sym w.0 ∙ h)) | inr w ↦ omega (arith, w.1) ]

-- lists
pub nil_cons : {X : Type 0} (x : X) (xs : List X) → [] ≡ x ∷ xs → ⊥
nil_cons x xs e = cc

pub cons_nil : {X : Type 0} (x : X) (xs : List X) → x ∷ xs ≡ [] → ⊥
cons_nil x xs e = cc

pub head_same : {X : Type 0} (x y : X) (xs ys : List X) → x ∷ xs ≡ y ∷ ys → x ≡ y
head_same x y xs ys e = cc

pub tail_same : {X : Type 0} (x y : X) (xs ys : List X) → x ∷ xs ≡ y ∷ ys → xs ≡ ys
tail_same x y xs ys e = cc

pub none_in : {X : Type 0} (x : X) → Contains [] x → ⊥
none_in x h = absurd (omega (arith, h.1))

pub append_none : (xs ys : List ℕ) → xs ++ ys ≡ [] → (xs ≡ []) × (ys ≡ [])
append_none [] ys e = (refl, e)
append_none (x ∷ xs) ys e = absurd (cons_nil x (xs ++ ys) e)

pub take_self : (n : ℕ) (l : List ℕ) → take n l ≡ take (length (take n l)) l
take_self zero l = refl
take_self (suc n) [] = refl
take_self (suc n) (x ∷ l) = ap (λ (k : List ℕ). x ∷ k) (take_self n l)

-- what lies behind the first 64 bytes
pub far_behind : (n size : ℕ) → 1 ≤ n → 1024 ≤ size → 64 ≤ n * size
far_behind n size some wide = let low : 1 * size ≤ n * size = mul-le-mul_right size some in omega (arith, low, wide)

-- what holds of each of two lists, and of both as one
pub all_append : {A : Type 0} (P : A → Type 0) (xs ys : List A) → AllByRecursion P xs → AllByRecursion P ys → AllByRecursion P (xs ++ ys)
all_append P [] ys first second = second
all_append P (x ∷ xs) ys first second = (first.0, all_append P xs ys first.1 second)

pub all_parts : {X : Type 0} (P : X → Type 0) (xs ys : List X) → AllByRecursion P (xs ++ ys) → AllByRecursion P xs × AllByRecursion P ys
all_parts P [] ys all = (tt, all)
all_parts P (x ∷ xs) ys all = let rest = all_parts P xs ys all.1 in ((all.0, rest.0), rest.1)

pub all_front : {A : Type 0} (P : A → Type 0) (xs ys : List A) → AllByRecursion P (xs ++ ys) → AllByRecursion P xs
all_front P [] ys all = tt
all_front P (x ∷ xs) ys all = (all.0, all_front P xs ys all.1)

pub all_go : {X : Type 0} (P R : X → Type 0) (xs : List X) → ((x : X) → P x → R x) → AllByRecursion P xs → AllByRecursion R xs
all_go P R [] goes all = tt
all_go P R (x ∷ xs) goes all = (goes x all.0, all_go P R xs goes all.1)

pub all_both : {X : Type 0} (P R : X → Type 0) (xs : List X) → AllByRecursion P xs → AllByRecursion R xs → AllByRecursion (λ x. P x × R x) xs
all_both P R [] a b = tt
all_both P R (x ∷ xs) a b = ((a.0, b.0), all_both P R xs a.1 b.1)

-- each page took one read at most, page 0 two
pub first_twice : (old loop new number : ℕ) → (0 < number → new ≤ loop + 1) → new ≤ loop + 2 → loop ≤ old + number + min number 1 → new ≤ old + (number + 1) + min (number + 1) 1
first_twice old loop new zero once twice so_far = omega (arith, twice, so_far)
first_twice old loop new (suc n) once twice so_far = (let one : new ≤ loop + 1 = once (omega arith) in omega (arith, one, so_far))

-- what holds anyway holds at Ok
pub on_ok : {T E : Type 0} {P : Type 0} (r : Result T E) → P → OnOk r P
on_ok (Ok x) p = p
on_ok (Err e) p = tt
