-- The words of a line: each reader takes what the bytes begin with, and gives it with the rest.
use Rattle.std.specs.Prelude.{ℕ, ◌+◌, ◌^◌, ◌==◌, ◌&&◌, ◌||◌, not, Bool, nat_lt, nat_le, nat_eq, List, length, take, drop, slice_index, Option, Some, None, if◌then◌else◌, option_map, codes}
use Rattle.std.specs.List.{prefix_len, starts_with}
use Rattle.std.specs.Str.Parse.{digits_value}
use Rattle.nb_host.specs.Names.{is_name, is_name_byte, is_delta}
use Rattle.nb_model.specs.TableNames.{is_table_name, is_table_byte}

abbrev pub Bytes : Type 0
Bytes = List ℕ

infixl 10 ◌>>=◌
abbrev pub ◌>>=◌ : {A B : Type 0} → Option A → (A → Option B) → Option B
None >>= f = None
(Some x) >>= f = f x

-- the rest, where the bytes begin with these
unfoldable pub after : Bytes → Bytes → Option Bytes
after word bytes = if starts_with nat_eq bytes word then Some (drop (length word) bytes) else None

abbrev pub is_digit : ℕ → Bool
is_digit b = nat_le 48 b && nat_le b 57

abbrev pub digit_count : Bytes → ℕ
digit_count bytes = prefix_len is_digit bytes

-- at least one digit, and no needless zero in front
abbrev pub is_plain : Bytes → Bool
is_plain digits = nat_lt 0 (length digits) && (not (slice_index digits 0 == 48) || length digits == 1)

-- the number of some digits, where it is below 2 ^ 64
abbrev pub value_of : Bytes → Option ℕ
value_of digits = if nat_lt (digits_value 10 digits) (2 ^ 64) then Some (digits_value 10 digits) else None

-- a number below 2 ^ 64
unfoldable pub number_at : Bytes → Option (ℕ × Bytes)
number_at bytes =
    let n = digit_count bytes in
    if is_plain (take n bytes) then option_map (λ v. (v, drop n bytes)) (value_of (take n bytes)) else None

-- a number of that range
unfoldable pub within : ℕ → ℕ → Bytes → Option (ℕ × Bytes)
within least most bytes = do
  n ← number_at bytes
  if nat_le least n.0 && nat_le n.0 most then Some n else None

-- a session, 1 to 16
abbrev pub session_at : Bytes → Option (ℕ × Bytes)
session_at bytes = within 1 16 bytes

-- a page number
abbrev pub page_at : Bytes → Option (ℕ × Bytes)
page_at bytes = within 0 4294967295 bytes

-- a byte of a text: 32 to 126 without the quote
abbrev pub is_text_byte : ℕ → Bool
is_text_byte b = nat_le 32 b && nat_le b 126 && not (b == 39)

-- the text before a quote that ends the line
unfoldable pub closed : Bytes → Option Bytes
closed bytes =
    let n = prefix_len is_text_byte bytes in
    if length bytes == n + 1 && slice_index bytes n == 39 then Some (take n bytes) else None

-- `'TEXT'` at the end of the line
abbrev pub text_at : Bytes → Option Bytes
text_at bytes = after (codes "'") bytes >>= closed

abbrev pub name_len : Bytes → ℕ
name_len bytes = prefix_len is_name_byte bytes

-- a name of a file that a user may give, of so many bytes at most
abbrev pub is_given : ℕ → Bytes → Bool
is_given most name = is_name name && nat_le (length name) most && not (is_delta name)

-- such a name, before a quote
unfoldable pub named : ℕ → Bytes → Option (Bytes × Bytes)
named most bytes =
    let n = name_len bytes in
    if is_given most (take n bytes) then option_map (λ rest. (take n bytes, rest)) (after (codes "'") (drop n bytes)) else None

-- `'NAME'`
unfoldable pub name_at : ℕ → Bytes → Option (Bytes × Bytes)
name_at most bytes = after (codes "'") bytes >>= named most

-- the name of a table
unfoldable pub table_at : Bytes → Option (Bytes × Bytes)
table_at bytes =
    let n = prefix_len is_table_byte bytes in
    if is_table_name (take n bytes) then Some (take n bytes, drop n bytes) else None

-- what was read, where nothing is left
abbrev pub alone : {A : Type 0} → A × Bytes → Option A
alone x = if length x.1 == 0 then Some x.0 else None
