-- What is shown of a line.
use Rattle.std.proofs.Common.{◌≡◌, ℕ, ◌+◌, ◌<◌, ◌%◌, ◌-◌, ◌/◌, ◌==◌, suc, zero, Bool, true, false, List, [], ◌∷◌, ◌++◌, length, drop, take, flat_map, All, IsTrue, refl, ap, sym, subst, ◌∙◌, append_assoc, arith, nat_lt, codes, if◌then◌else◌}
use Rattle.std.proofs.lemmas.List.Elements.{All-append, All-nil, All-cons}
use Rattle.nb_ended.specs.Shown.{ArePrintable, after_line, digit_of, is_printable, line_after, line_len, shown_byte, shown_line, line_or, text_of}

-- a terminal shows it as it is
abbrev Shows : ℕ → Type 0
Shows byte = IsTrue (is_printable byte)

-- one byte more is shown
pub one_more : (out bytes : List ℕ) (i b : ℕ) → drop i bytes ≡ b ∷ drop (i + 1) bytes
    → (out ++ shown_byte b) ++ flat_map shown_byte (drop (i + 1) bytes) ≡ out ++ flat_map shown_byte (drop i bytes)
one_more out bytes i b is = append_assoc out (shown_byte b) (flat_map shown_byte (drop (i + 1) bytes)) ∙ ap (λ (xs : List ℕ). out ++ flat_map shown_byte xs) (sym is)

-- a line further on
pub next_line : (count : ℕ) (bytes : List ℕ) → line_after (suc count) bytes ≡ line_after count (after_line bytes)
unfolding line_after
next_line count bytes = refl

pub this_line : (bytes : List ℕ) → line_after 0 bytes ≡ take (line_len bytes) bytes
unfolding line_after
this_line bytes = refl

-- a digit is printable
digit_either : (p : Bool) (v : ℕ) → nat_lt v 10 ≡ p → v < 16 → IsTrue (is_printable (if p then 48 + v else 87 + v))
digit_either true v is small = grind arith
digit_either false v is small = grind arith

digit_printable : (v : ℕ) → IsTrue (is_printable (digit_of v))
digit_printable v = digit_either (nat_lt (v % 16) 10) (v % 16) refl (omega arith)

byte_either : (p : Bool) (b : ℕ) → is_printable b ≡ p → (number : List ℕ) → ArePrintable number → ArePrintable (if p then b ∷ [] else number)
byte_either true b is number all = All-cons Shows b [] is (All-nil Shows)
byte_either false b is number all = all

-- what is shown of a byte is printable
byte_printable : (b : ℕ) → ArePrintable (shown_byte b)
byte_printable b =
    byte_either (is_printable b) b refl (92 ∷ 120 ∷ digit_of (b / 16) ∷ digit_of b ∷ [])
    (All-cons Shows 92 (120 ∷ digit_of (b / 16) ∷ digit_of b ∷ []) refl
    (All-cons Shows 120 (digit_of (b / 16) ∷ digit_of b ∷ []) refl
    (All-cons Shows (digit_of (b / 16)) (digit_of b ∷ []) (digit_printable (b / 16))
    (All-cons Shows (digit_of b) [] (digit_printable b) (All-nil Shows)))))

-- so are bytes
bytes_printable : (bytes : List ℕ) → ArePrintable (flat_map shown_byte bytes)
bytes_printable [] = All-nil Shows
bytes_printable (b ∷ bytes) = All-append Shows (shown_byte b) (flat_map shown_byte bytes) (byte_printable b) (bytes_printable bytes)

dots_printable : ArePrintable (codes "...")
dots_printable =
    All-cons Shows 46 (46 ∷ 46 ∷ []) refl (All-cons Shows 46 (46 ∷ []) refl (All-cons Shows 46 [] refl (All-nil Shows)))

line_either : (p : Bool) (line : List ℕ) → ArePrintable (if p then flat_map shown_byte (take 200 line) ++ codes "..." else flat_map shown_byte line)
line_either true line = All-append Shows (flat_map shown_byte (take 200 line)) (codes "...") (bytes_printable (take 200 line)) dots_printable
line_either false line = bytes_printable line

-- what is shown of a line is printable
pub line_printable : (line : List ℕ) → ArePrintable (shown_line line)
line_printable line = line_either (nat_lt 200 (length line)) line

or_either : (p : Bool) (wanted line : List ℕ) → ArePrintable wanted → ArePrintable (if p then wanted else shown_line line)
or_either true wanted line all = all
or_either false wanted line all = line_printable line

-- what is shown is printable, where what is wanted is
pub text_printable : (bytes : List ℕ) (number : ℕ) (wanted : List ℕ) → ArePrintable wanted → ArePrintable (text_of bytes number wanted)
text_printable bytes number wanted all =
    let line = line_after (number - 1) bytes in
    or_either (length line == 0) wanted line all
