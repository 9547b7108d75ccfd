-- The line that is shown of a script, or of a list of names, which breaks its form.
use Rattle.std.specs.Prelude.{◌≡◌, ◌≢◌, ℕ, ◌+◌, ◌-◌, ◌/◌, ◌%◌, ◌==◌, nat_lt, nat_le, ◌&&◌, Bool, IsTrue, not, zero, suc, List, [], ◌∷◌, ◌++◌, length, take, drop, flat_map, All, Option, None, Some, codes, if◌then◌else◌}
use Rattle.std.specs.List.{prefix_len}
use Rattle.nb_host.specs.declared.refusals.Refusal.{Refusal}
use Rattle.nb_host.specs.declared.refusals.Refusal.TheVariants.{BadScript}
use Rattle.nb_ended.specs.declared.broken.Broken.{Broken}

-- the line is that of the refusal, which is for its form; none, where it is another refusal
abbrev pub Names : Option Broken → Refusal → Type 0
Names None refusal = (line : ℕ) → refusal ≢ BadScript line
Names (Some broken) refusal = refusal ≡ BadScript broken.line

-- how long the first line of some bytes is, each of which ends at a line feed or at their end
abbrev pub line_len : List ℕ → ℕ
line_len bytes = prefix_len (λ b. not (b == 10)) bytes

-- the bytes after the first line
abbrev pub after_line : List ℕ → List ℕ
after_line bytes = drop (line_len bytes + 1) bytes

-- the line before which so many others stand, empty where the bytes end before it
unfoldable pub line_after : ℕ → List ℕ → List ℕ
line_after zero bytes = take (line_len bytes) bytes
line_after (suc count) bytes = line_after count (after_line bytes)

-- a byte that a terminal shows as it is
abbrev pub is_printable : ℕ → Bool
is_printable byte = nat_le 32 byte && nat_le byte 126

-- the last digit of a number to the base 16
abbrev pub digit_of : ℕ → ℕ
digit_of value = if nat_lt (value % 16) 10 then 48 + value % 16 else 87 + value % 16

-- a byte for a reader: itself, or else \x and its number
abbrev pub shown_byte : ℕ → List ℕ
shown_byte byte = if is_printable byte then byte ∷ [] else 92 ∷ 120 ∷ digit_of (byte / 16) ∷ digit_of byte ∷ []

-- a line for a reader: where it is longer than 200 bytes, those, and three dots for the rest
abbrev pub shown_line : List ℕ → List ℕ
shown_line line = if nat_lt 200 (length line) then flat_map shown_byte (take 200 line) ++ codes "..." else flat_map shown_byte line

-- a line for a reader, or what is wanted in its place where it has no byte
abbrev pub line_or : (wanted line : List ℕ) → List ℕ
line_or wanted line = if length line == 0 then wanted else shown_line line

-- what is shown of the line of that number, from 1, of these bytes
abbrev pub text_of : (bytes : List ℕ) (number : ℕ) (wanted : List ℕ) → List ℕ
text_of bytes number wanted = line_or wanted (line_after (number - 1) bytes)

-- a terminal shows all these bytes as they are
abbrev pub ArePrintable : List ℕ → Type 0
ArePrintable bytes = All (λ byte. IsTrue (is_printable byte)) bytes
