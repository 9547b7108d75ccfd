-- What is made of ASCII alone is text.
use Rattle.std.proofs.Common.{◌≡◌, ℕ, ◌<◌, Bool, true, false, ◌&&◌, ◌||◌, nat_le, ◌==◌, List, length, slice_index, inl, inr, arith}
use Rattle.nb_host.proofs.Common.{is_name, is_name_byte}
use Rattle.std.specs.List.{list_all}
use Rattle.std.specs.Str.{IsAscii, IsUtf8}
use Rattle.std.proofs.lemmas.Bool.{and_parts, or_cases, leb-true, eqb-true, cases_Bool, cases_lt}
use Rattle.std.proofs.lemmas.List.{get_or_past}
use Rattle.std.proofs.lemmas.List.Sums.{AllPass-from_list_all}
use Rattle.std.proofs.lemmas.Str.{IsUtf8-from_ascii}

-- A class of bytes is ASCII where each of its parts is: a range, one byte, or two classes.
pub in_range : (b low high : ℕ) → high < 128 → (nat_le low b && nat_le b high) ≡ true → b < 128
in_range b low high h e = omega (arith, leb-true b high (and_parts (nat_le low b) (nat_le b high) e).1, h)

pub is_one : (b n : ℕ) → n < 128 → (b == n) ≡ true → b < 128
is_one b n h e = omega (arith, eqb-true b n e, h)

pub in_either : (p q : Bool) (b : ℕ) → (p ≡ true → b < 128) → (q ≡ true → b < 128) → (p || q) ≡ true → b < 128
in_either p q b f g e = elim (or_cases p q e) [ inl h ↦ f h | inr h ↦ g h ]

all_ascii : (class : ℕ → Bool) (bytes : List ℕ) → ((b : ℕ) → class b ≡ true → b < 128) → list_all class bytes ≡ true → IsAscii bytes
all_ascii class bytes each all i =
    elim (cases_lt i (length bytes)) [
      | inl inside ↦ each (slice_index bytes i) (AllPass-from_list_all class bytes all i 0 inside)
      | inr past ↦ omega (arith, get_or_past bytes i 0 past)
    ]

-- a test that only bytes of such a class pass, and these are no text
pub none_passes : (test : Bool) (class : ℕ → Bool) (bytes : List ℕ) → (test ≡ true → list_all class bytes ≡ true) → ((b : ℕ) → class b ≡ true → b < 128) → (IsUtf8 bytes → ⊥) → test ≡ false
none_passes test class bytes passes each none = elim (cases_Bool test) [
  | inl passed ↦ absurd (none (IsUtf8-from_ascii bytes (all_ascii class bytes each (passes passed))))
  | inr failed ↦ failed
]

name_byte : (b : ℕ) → is_name_byte b ≡ true → b < 128
name_byte b =
    in_either _ _ b
    (in_either _ _ b (in_either _ _ b (in_either _ _ b (in_either _ _ b (in_either _ _ b (in_range b 48 57 (omega arith)) (in_range b 65 90 (omega arith))) (in_range b 97 122 (omega arith))) (is_one b 46 (omega arith))) (is_one b 95 (omega arith))) (is_one b 45 (omega arith)))
    (is_one b 47 (omega arith))

pub not_name : (bytes : List ℕ) → (IsUtf8 bytes → ⊥) → is_name bytes ≡ false
not_name bytes = none_passes (is_name bytes) is_name_byte bytes (λ e. (and_parts _ (list_all is_name_byte bytes) e).1) name_byte
