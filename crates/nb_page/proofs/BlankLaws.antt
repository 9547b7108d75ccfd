-- While page 0 isn't written, a file begins with zeros, so its name is free.
use Rattle.std.proofs.Common.{◌≡◌, inl, inr, ℕ, ◌+◌, ◌-◌, ◌*◌, ◌≤◌, List, ◌++◌, length, take, drop, replicate, refl, sym, ap, subst, ◌∙◌, arith, length-append, true, None, Some}
use Rattle.nb_page.proofs.Common.{or_left, take-append-le, length-take-le, length-replicate, is_zeros, File, is_free_file, is_unfinished}
use Rattle.std.proofs.lemmas.List.{take-take}
use Rattle.nb_host.specs.Files.{bytes_of, padded, put_at, with_page}
use Rattle.nb_host.specs.Crash.{PageLeft}
use Rattle.nb_fields.proofs.ZeroLaws.{zeros-behind}

-- the bytes where a header would stand are zeros, or there are fewer
abbrev pub IsBlank : File → Type 0
IsBlank file = is_zeros (take 64 (bytes_of file)) ≡ true

pub blank_free : (c : File) → IsBlank c → is_free_file c ≡ true
unfolding is_free_file
blank_free None is = refl
blank_free (Some bytes) is = or_left (is_zeros (take 64 bytes)) (is_unfinished bytes) is

-- a page after page 0
pub blank_put : (at : ℕ) (page : List ℕ) (b : File) → 64 ≤ at → IsBlank b → IsBlank (with_page b at page)
unfolding put_at padded
blank_put at page b far is =
    let bytes : List ℕ = bytes_of b in
    let wide : List ℕ = bytes ++ replicate (at - length bytes) 0 in
    let long : at ≤ length wide = omega (arith, length-append bytes (replicate (at - length bytes) 0), length-replicate {A = ℕ} (at - length bytes) 0) in
    let part : length (take at wide) ≡ at = length-take-le at wide long in
    let front : take 64 (take at wide ++ (page ++ drop (at + length page) bytes)) ≡ take 64 wide =
    take-append-le 64 (take at wide) (page ++ drop (at + length page) bytes) (omega (arith, far, part)) ∙ take-take 64 at wide far in
    ap is_zeros front ∙ zeros-behind 64 (at - length bytes) bytes is

-- whatever a crash leaves of the write of a page after page 0
pub blank_left : (at : ℕ) (page : List ℕ) (b c : File) → 64 ≤ at → IsBlank b → PageLeft at page b c → IsBlank c
blank_left at page b c far is (inl same) = subst IsBlank (sym same) is
blank_left at page b c far is (inr (inl put)) = subst IsBlank (sym put) (blank_put at page b far is)
blank_left at page b c far is (inr (inr (k, fits, grown))) = subst IsBlank (sym grown) (zeros-behind 64 (k * length page) (bytes_of b) is)
