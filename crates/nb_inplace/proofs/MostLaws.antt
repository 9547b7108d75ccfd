-- How much a merge reads.
use Rattle.std.proofs.Common.{◌≡◌, ℕ, ◌+◌, ◌*◌, ◌/◌, ◌<◌, ◌≤◌, ⊎_elim, List, length, true, false, Bool, refl, sym, ap, subst, ◌∙◌, arith, add-mul, mul-le-mul_right, IsTrue, ◌==◌, Some, Result, Ok, Err}
use Rattle.std.proofs.lemmas.Bool.{or_cases, true≢false}
use Rattle.nb_inplace.proofs.Common.{eqb-true, is_page_size, applying_state, state_of, File, Files, bytes_of, Fault, Refused, Device, Memory}
use Rattle.nb_host.specs.Answers.{IsTaken}
use Rattle.nb_chain.specs.Most.{RefusedReads, level_most}
use Rattle.nb_restore.specs.Most.{piece_length, pieces_in}
use Rattle.nb_inplace.specs.Most.{apply_most, refused_most, stamps_most, standby_most}

-- a piece is whole pages
whole_is : (size n : ℕ) → 262144 / n * n ≡ 262144 → (size == n) ≡ true → 262144 / size * size ≡ 262144
whole_is size n whole is = subst (λ (m : ℕ). 262144 / m * m ≡ 262144) (sym (eqb-true size n is)) whole

pub piece_whole_pages : (size : ℕ) → IsTrue (is_page_size size) → 262144 / size * size ≡ 262144
piece_whole_pages size is =
    ⊎_elim (λ is5. ⊎_elim (λ is4. ⊎_elim (λ is3. ⊎_elim (λ is2. ⊎_elim (whole_is size 1024 refl) (whole_is size 2048 refl) (or_cases _ _ is2))
    (whole_is size 4096 refl) (or_cases _ _ is3)) (whole_is size 8192 refl) (or_cases _ _ is4)) (whole_is size 16384 refl) (or_cases _ _ is5)) (whole_is size 32768 refl) (or_cases _ _ is)

-- one piece of pages more: but for the last they are all whole
pub stamps_next : (size number count pages before reads after : ℕ) → IsTrue (is_page_size size) → number < pages → (number + count < pages → count ≡ 262144 / size) → reads * piece_length ≤ before * piece_length + number * size → after ≤ reads + 1
    → (number + count < pages → after * piece_length ≤ before * piece_length + (number + count) * size) × (after ≤ before + pieces_in (pages * size))
stamps_next size number count pages before reads after is inside full so_far once =
    let low : reads * 262144 ≤ before * 262144 + number * size = so_far in
    let below : number * size ≤ pages * size = mul-le-mul_right size (omega (arith, inside)) in (
      λ further.
          let whole : count * size ≡ 262144 = ap (λ (k : ℕ). k * size) (full further) ∙ piece_whole_pages size is in
          let more : after * 262144 ≤ before * 262144 + (number + count) * size = omega (arith, low, once, whole, add-mul number count size) in
          more,
      let all : after ≤ before + (pages * size / 262144 + 1) = omega (arith, low, below, once) in
          all,
    )

-- the standby was looked at, and the level file was read to its end
pub accept_within : (files now : Files) (name : List ℕ) (before first second after : ℕ) → now ≡ files → first ≤ before + 1 → second ≤ first + 1 → after ≤ second + level_most (now name) → after ≤ before + (2 + level_most (files name))
accept_within files now name before first second after same look start read =
    let more : after ≤ second + level_most (files name) = subst (λ (f : Files). after ≤ second + level_most (f name)) same read in
    omega (arith, look, start, more)

-- a standby whose merge wasn't begun is tested
pub stamps_tested : (is_begun : Bool) (len before after : ℕ) → is_begun ≡ false → after ≤ before + pieces_in len → after ≤ before + stamps_most is_begun len
stamps_tested true len before after is read = absurd (true≢false is)
stamps_tested false len before after is read = read

-- and then the standby, by pieces
pub refused_within : (files : Files) (standby name bytes : List ℕ) (is_begun : Bool) (pages size before middle after : ℕ) → files standby ≡ Some bytes → is_begun ≡ (state_of bytes == applying_state) → length bytes ≡ pages * size → middle ≤ before + (2 + level_most (files name))
    → after ≤ middle + (1 + stamps_most is_begun (pages * size)) → after ≤ before + refused_most files standby name
refused_within files standby name bytes is_begun pages size before middle after there begun long accept ready =
    let tests : standby_most (bytes_of (files standby)) ≡ stamps_most is_begun (pages * size) =
    ap (λ (f : File). standby_most (bytes_of f)) there ∙ ap (λ (t : Bool). stamps_most t (length bytes)) (sym begun) ∙ ap (stamps_most is_begun) long in
    omega (arith, tests, accept, ready)

pub accept_refused : (files : Files) (standby name : List ℕ) (before after : ℕ) → after ≤ before + (2 + level_most (files name)) → after ≤ before + refused_most files standby name
accept_refused files standby name before after accept = omega (arith, accept)

-- before it writes a merge reads no more than a refused one
pub unwritten_within : (files : Files) (standby name : List ℕ) (before after : ℕ) → after ≤ before + refused_most files standby name → after ≤ before + apply_most files standby name
unwritten_within files standby name before after read = omega (arith, read)

-- what is taken refuses nothing
pub taken_refuses : (T : Type 0) (result : Result T Fault) (P : T → Type 0) (before most after : ℕ) → IsTaken result P → RefusedReads result before most after
taken_refuses T (Ok value) P before most after says = tt
taken_refuses T (Err (Refused refusal)) P before most after says = absurd says
taken_refuses T (Err Device) P before most after says = tt
taken_refuses T (Err Memory) P before most after says = absurd says
