-- What is acknowledged never falls as more is said, and is never more than all strokes.
use Rattle.std.proofs.Common.{◌≡◌, inl, inr, ℕ, ◌+◌, ◌-◌, ◌≤◌, List, [], ◌∷◌, length, refl, sym, ◌∙◌, arith, Bool, Option, Some, None, true, false, nat_le, option_map}
use Rattle.nb_model.proofs.Common.{true≢false, leb_tells, Reply, line_text, Event, acked_in, acked}

-- what is acknowledged, as a number
abbrev pub number : Option ℕ → ℕ
number None = 0
number (Some n) = n

abbrev AtMost : Option ℕ → Option ℕ → Type 0
AtMost None y = Unit {0}
AtMost (Some n) None = ⊥
AtMost (Some n) (Some m) = n ≤ m

-- an event of so many strokes that says nothing
abbrev pub quiet : ℕ → Option ℕ → Option ℕ
quiet k x = option_map (λ n. k + n) x

-- one whose line stands whole
abbrev pub whole : ℕ → Option ℕ → Option ℕ
whole k x = elim x [ None ↦ Some k | Some n ↦ Some (k + n) ]

quiet_most : (k : ℕ) (x y : Option ℕ) → AtMost x y → AtMost (quiet k x) (quiet k y)
quiet_most k None y h = tt
quiet_most k (Some n) None h = absurd h
quiet_most k (Some n) (Some m) h = omega arith

said_most : (k : ℕ) (x y : Option ℕ) → AtMost x y → AtMost (whole k x) (whole k y)
said_most k None None h = omega arith
said_most k None (Some m) h = omega arith
said_most k (Some n) None h = absurd h
said_most k (Some n) (Some m) h = omega arith

-- one whose line is among so many bytes, or not
abbrev pub lined : (line k said : ℕ) → Option ℕ → Option ℕ
lined line k said later = elim (nat_le line said) [ false ↦ None | true ↦ whole k later ]

lined_most : (line k a b : ℕ) (x y : Option ℕ) → a ≤ b → AtMost x y → AtMost (lined line k a x) (lined line k b y)
lined_most line k a b x y h later = by_test (nat_le line a) (nat_le line b) (reaches line a b h)
  where
    by_test : (s t : Bool) → (s ≡ true → t ≡ true) → AtMost (elim s as (λ z. Option ℕ) [ false ↦ None | true ↦ whole k x ]) (elim t as (λ z. Option ℕ) [ false ↦ None | true ↦ whole k y ])
    by_test false t e = tt
    by_test true false e = absurd (true≢false (sym (e refl)))
    by_test true true e = said_most k x y later

    reaches : (line a b : ℕ) → a ≤ b → nat_le line a ≡ true → nat_le line b ≡ true
    reaches line a b h e = elim (leb_tells line b) [
      | inl v ↦ v.0
      | inr v ↦ elim (leb_tells line a) [ inl w ↦ absurd (omega (arith, w.1, v.1)) | inr w ↦ absurd (true≢false (sym e ∙ w.0)) ]
    ]

-- by what the event says
reply_most : (e : Event) (es : List Event) (a b : ℕ) (reply : Option Reply) → a ≤ b → ((c d : ℕ) → c ≤ d → AtMost (acked_in es c) (acked_in es d)) → AtMost
    (elim reply as (λ x. Option ℕ) [ None ↦ quiet (length e.strokes) (acked_in es a) | Some r ↦ lined (length (line_text e.session r)) (length e.strokes) a (acked_in es (a - length (line_text e.session r))) ])
    (elim reply as (λ x. Option ℕ) [ None ↦ quiet (length e.strokes) (acked_in es b) | Some r ↦ lined (length (line_text e.session r)) (length e.strokes) b (acked_in es (b - length (line_text e.session r))) ])
reply_most e es a b None h rest = quiet_most (length e.strokes) (acked_in es a) (acked_in es b) (rest a b h)
reply_most e es a b (Some r) h rest =
    lined_most (length (line_text e.session r)) (length e.strokes) a b _ _ h (rest (a - length (line_text e.session r)) (b - length (line_text e.session r)) (omega arith))

pub acked_in_most : (es : List Event) (a b : ℕ) → a ≤ b → AtMost (acked_in es a) (acked_in es b)
unfolding acked_in
acked_in_most [] a b h = tt
acked_in_most (e ∷ es) a b h = reply_most e es a b e.reply h (acked_in_most es)

numbers : (x y : Option ℕ) → AtMost x y → number x ≤ number y
numbers None y h = omega arith
numbers (Some n) None h = absurd h
numbers (Some n) (Some m) h = h

pub acked-number : (es : List Event) (said : ℕ) → acked es said ≡ number (acked_in es said)
unfolding acked
acked-number es said = by (acked_in es said)
  where
    by : (x : Option ℕ) → elim x as (λ z. ℕ) [ None ↦ 0 | Some n ↦ n ] ≡ number x
    by None = refl
    by (Some n) = refl

pub acked_most : (es : List Event) (a b : ℕ) → a ≤ b → acked es a ≤ acked es b
acked_most es a b h =
    let low = numbers (acked_in es a) (acked_in es b) (acked_in_most es a b h) in
    omega (arith, acked-number es a, acked-number es b)
