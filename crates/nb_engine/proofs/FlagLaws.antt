-- A flag in page 0: the bytes that are written, and the turns that write them.
use Rattle.std.proofs.Common.{◌≡◌, ℕ, ◌+◌, ◌<◌, ◌≤◌, List, [], ◌∷◌, ◌++◌, length, take, drop, refl, ap, ◌∙◌, arith, Bool, true, false}
use Rattle.nb_engine.proofs.Common.{take-append-le, take-take, length-take-le, bytes_of, with_part, is_zeros, is_header, normal_state, Done, Page, Image, first_page, flag, page, read_only, not_state, Seen, says, unless, byte_strokes, forced_turn, access_turn, header-long, header-other, same-header}
use mir.Val.{bool_byte}

-- a flag is one byte
pub byte_is : (on : Bool) → bool_byte on ≡ flag on
byte_is true = refl
byte_is false = refl

pub flag_byte : (on : Bool) → bytes_of 1 (flag on) ≡ flag on ∷ []
unfolding bytes_of
flag_byte true = refl
flag_byte false = refl

-- the first 64 bytes stay
pub front_stays : (at : ℕ) (bytes old : Page) → 64 ≤ at → at ≤ length old → take 64 (with_part at bytes old) ≡ take 64 old
front_stays at bytes old far long =
    take-append-le 64 (take at old) (bytes ++ drop (at + length bytes) old) (omega (arith, far, length-take-le at old long)) ∙ take-take 64 at old far

-- so the page isn't all zeros
pub flagged-some : (at : ℕ) (bytes old new : Page) → new ≡ with_part at bytes old → 64 ≤ at → at ≤ length old → is_header old ≡ true → is_zeros new ≡ false
flagged-some at bytes old new is far long header = header-other new (same-header new old (ap (take 64) is ∙ front_stays at bytes old far long) ∙ header)

pub flag_strokes : (at value : ℕ) (on : Bool) (old new : Page) (image : Image) → value ≡ flag on → old ≡ first_page image → new ≡ with_part at (bytes_of 1 value) old → page 0 new ∷ [] ≡ byte_strokes at (flag on) image
unfolding byte_strokes
flag_strokes at value on old new image told first is =
    ap (λ (x : Page). page 0 x ∷ []) (is ∙ ap (λ (v : ℕ). with_part at (bytes_of 1 v) old) told ∙ ap (λ (bytes : List ℕ). with_part at bytes old) (flag_byte on) ∙ ap (λ (x : Page). with_part at (flag on ∷ []) x) first)

-- a database with a header has a page 0
pub some_first : (image : Image) → is_header (first_page image) ≡ true → 0 < length image
some_first [] header = absurd (omega (arith, header-long [] header))
some_first (p ∷ ps) header = omega arith

-- the turns, by their causes
pub forced_is : (s : Seen) (on : Bool) → forced_turn s on ≡ unless s (read_only s.base.image) (says s Done (byte_strokes 64 (flag on) s.base.image))
unfolding forced_turn
forced_is s on = refl

pub access_is : (s : Seen) (closed : Bool) → access_turn s closed ≡ unless s (not_state normal_state s.base.image) (says s Done (byte_strokes 65 (flag closed) s.base.image))
unfolding access_turn
access_is s closed = refl
