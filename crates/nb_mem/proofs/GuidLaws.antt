-- GUIDs that are given after others.
use Rattle.std.proofs.Common.{◌≡◌, ◌≢◌, ℕ, zero, suc, ◌+◌, ◌^◌, ◌<◌, ◌≤◌, List, [], ◌∷◌, ◌++◌, length, drop, replicate, refl, sym, ap, ◌∙◌, arith, length-append, append_assoc, Contains}
use Rattle.nb_mem.proofs.Common.{append-nil, File, IsStill, Entry, files_of, Now, Back, guid_of, guids_of, guids_behind, with_guids, world_of}
use Rattle.std.specs.Int.{w64, from_be_bytes}
use Rattle.std.proofs.lemmas.Nat.{from_be_bytes-to_be_bytes_8}

-- the files stay, and so does what a crash leaves
with_guids-files : (n : ℕ) (es : List Entry) → files_of (with_guids n es) ≡ files_of es
with_guids-files zero es = refl
with_guids-files (suc n) es = with_guids-files n es

with_guids-back : (n : ℕ) (es : List Entry) (m : List ℕ) (c : File) → Back (with_guids n es) m c → Back es m c
with_guids-back zero es m c is = is
with_guids-back (suc n) es m c is = with_guids-back n es m c is

with_guids-now : (n : ℕ) (es : List Entry) (m : List ℕ) (c : File) → Now (with_guids n es) m c → Now es m c
with_guids-now zero es m c is = is
with_guids-now (suc n) es m c is = with_guids-now n es m c is

pub given_still : (n : ℕ) (es : List Entry) → IsStill (world_of es) (world_of (with_guids n es))
given_still n es = record { files = with_guids-files n es; left = record { back = λ m c is b. with_guids-back n es m c b; now = λ m c is k. with_guids-now n es m c k } }

-- one GUID more after so many
behind_more : (number n : ℕ) → guids_behind number (suc n) ≡ guids_behind number n ++ guid_of (number + n + 1) ∷ []
behind_more number zero = ap (λ k. guid_of k ∷ []) (let e : number + 1 ≡ number + 0 + 1 = omega arith in e)
behind_more number (suc n) =
    ap (λ (l : List (List ℕ)). guid_of (number + 1) ∷ l)
    (behind_more (number + 1) n ∙ ap (λ k. guids_behind (number + 1) n ++ guid_of k ∷ []) (let e : (number + 1) + n + 1 ≡ number + suc n + 1 = omega arith in e))

behind_long : (number n : ℕ) → length (guids_behind number n) ≡ n
behind_long number zero = refl
behind_long number (suc n) = ap suc (behind_long (number + 1) n)

-- those that were given, and so many after them
pub given_guids : (n : ℕ) (es : List Entry) → guids_of (with_guids n es) ≡ guids_of es ++ guids_behind (length (guids_of es)) n
given_guids zero es = sym (append-nil (guids_of es))
given_guids (suc n) es =
    let number : ℕ = length (guids_of es) in
    let so_far : guids_of (with_guids n es) ≡ guids_of es ++ guids_behind number n = given_guids n es in
    let long : length (guids_of (with_guids n es)) + 1 ≡ number + n + 1 = omega (arith, ap length so_far, length-append (guids_of es) (guids_behind number n), behind_long number n) in
    ap (λ (l : List (List ℕ)). l ++ guid_of (length (guids_of (with_guids n es)) + 1) ∷ []) so_far
    ∙ ap (λ k. (guids_of es ++ guids_behind number n) ++ guid_of k ∷ []) long
    ∙ append_assoc (guids_of es) (guids_behind number n) (guid_of (number + n + 1) ∷ []) ∙ ap (λ (l : List (List ℕ)). guids_of es ++ l) (sym (behind_more number n))

-- the number of a GUID
told : List ℕ → ℕ
told guid = from_be_bytes w64 (drop 8 guid)

number_told : (n : ℕ) → n < 2 ^ 64 → told (guid_of n) ≡ n
unfolding guid_of told
number_told n small = from_be_bytes-to_be_bytes_8 n small

pub guids_apart : (m n : ℕ) → m < 2 ^ 64 → n < 2 ^ 64 → guid_of m ≡ guid_of n → m ≡ n
guids_apart m n low small same = sym (number_told m low) ∙ ap told same ∙ number_told n small

none_is_nil : guid_of 0 ≡ replicate 16 0
unfolding guid_of
none_is_nil = refl

pub guid_not_nil : (n : ℕ) → 1 ≤ n → n < 2 ^ 64 → guid_of n ≢ replicate 16 0
guid_not_nil n some small nil = absurd (omega (arith, some, guids_apart n 0 small (omega arith) (nil ∙ sym none_is_nil)))

-- a GUID among so many after a number has one of their numbers
record IsBehind (number count : ℕ) (guid : List ℕ) : Type 0 where
  pub own : ℕ
  pub low : number < own
  pub high : own ≤ number + count
  pub is : guid ≡ guid_of own

among : (number count : ℕ) (guid : List ℕ) → Contains (guids_behind number count) guid → IsBehind number count guid
among number zero guid (k, below, is) = absurd (omega (arith, below))
among number (suc count) guid (zero, below, is) = record { own = number + 1; low = omega arith; high = omega arith; is = sym is }
among number (suc count) guid (suc k, below, is) =
    let rest = among (number + 1) count guid (k, omega (arith, below), is) in
    record { own = rest.own; low = omega (arith, rest.low); high = omega (arith, rest.high); is = rest.is }

pub behind_apart : (count more : ℕ) (guid : List ℕ) → count + more < 2 ^ 64 → Contains (guids_behind 0 count) guid → Contains (guids_behind count more) guid → ⊥
behind_apart count more guid small first second =
    let a = among 0 count guid first in
    let b = among count more guid second in
    absurd (omega (arith, a.high, b.low, guids_apart a.own b.own (omega (arith, a.high, small)) (omega (arith, b.high, small)) (sym a.is ∙ b.is)))
