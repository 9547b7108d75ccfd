-- The form of a header, by the first 64 bytes.
use Rattle.std.proofs.Common.{◌≡◌, ℕ, ◌<◌, ◌≤◌, List, [], length, take, ⊎_elim, false, refl, ap, ◌∙◌, sym, arith, ◌&&◌, ◌||◌, ◌==◌, Some, None}
use Rattle.nb_fields.proofs.Common.{cases_lt, lt-leb, le-leb, take_all, length-take-le, take-take, is_zeros, is_marked, is_sound, is_header, state_of, size_of, scn_of, pending_of, is_unfinished, is_free_file}
use Rattle.nb_fields.proofs.PartLaws.{number_in-take, part-take}
use Rattle.nb_fields.specs.States.{applying_state}

-- fewer bytes are no header
pub is_header-short : (first : List ℕ) → length first < 64 → is_header first ≡ false
unfolding is_header
is_header-short first h = ap (λ b. b && (is_marked first && is_sound (state_of first) (size_of first) (scn_of first))) (lt-leb 64 (length first) h)

-- where there are enough bytes, the form is that of the marks and of the fields
pub is_header-long : (first : List ℕ) → 64 ≤ length first → is_header first ≡ (is_marked first && is_sound (state_of first) (size_of first) (scn_of first))
unfolding is_header
is_header-long first h = ap (λ b. b && (is_marked first && is_sound (state_of first) (size_of first) (scn_of first))) (le-leb 64 (length first) h)

is_marked-take : (bytes : List ℕ) → is_marked (take 64 bytes) ≡ is_marked bytes
unfolding is_marked
is_marked-take bytes =
    let kind = number_in-take 64 0 1 bytes (omega arith) in
    let number = number_in-take 64 12 4 bytes (omega arith) in
    let signature = number_in-take 64 16 4 bytes (omega arith) in
    let version = number_in-take 64 20 2 bytes (omega arith) in
    rw (kind, number, signature, version) refl

pub is_header-take : (bytes : List ℕ) → is_header (take 64 bytes) ≡ is_header bytes
is_header-take bytes = ⊎_elim
    (λ short. ap is_header (take_all 64 bytes (omega arith)))
    (λ long.
    let len = length-take-le 64 bytes long in
    let state = number_in-take 64 22 2 bytes (omega arith) in
    let size = number_in-take 64 24 4 bytes (omega arith) in
    let scn = number_in-take 64 28 4 bytes (omega arith) in
    is_header-long (take 64 bytes) (omega arith)
    ∙ ap (λ b. b && is_sound (state_of (take 64 bytes)) (size_of (take 64 bytes)) (scn_of (take 64 bytes))) (is_marked-take bytes)
    ∙ ap (λ n. is_marked bytes && is_sound n (size_of (take 64 bytes)) (scn_of (take 64 bytes))) state
    ∙ ap (λ n. is_marked bytes && is_sound (state_of bytes) n (scn_of (take 64 bytes))) size
    ∙ ap (λ n. is_marked bytes && is_sound (state_of bytes) (size_of bytes) n) scn
    ∙ sym (is_header-long bytes long))
    (cases_lt (length bytes) 64)

is_unfinished-take : (bytes : List ℕ) → is_unfinished (take 64 bytes) ≡ is_unfinished bytes
is_unfinished-take bytes =
    ap (λ b. b && (state_of (take 64 bytes) == applying_state) && is_zeros (pending_of (take 64 bytes))) (is_header-take bytes)
    ∙ ap (λ n. is_header bytes && (n == 3) && is_zeros (pending_of (take 64 bytes))) (number_in-take 64 22 2 bytes (omega arith))
    ∙ ap (λ p. is_header bytes && (state_of bytes == applying_state) && is_zeros p) (part-take 64 48 16 bytes (omega arith))

-- a file is free by its first 64 bytes
pub is_free_file-take : (bytes : List ℕ) → is_free_file (Some (take 64 bytes)) ≡ is_free_file (Some bytes)
unfolding is_free_file
is_free_file-take bytes =
    ap (λ p. is_zeros p || is_unfinished (take 64 bytes)) (take-take 64 64 bytes (omega arith)) ∙ ap (λ b. is_zeros (take 64 bytes) || b) (is_unfinished-take bytes)

-- and a name without a file is free as one of an empty file is
pub is_free_file-none : is_free_file (Some []) ≡ is_free_file None
unfolding is_free_file
is_free_file-none = refl
