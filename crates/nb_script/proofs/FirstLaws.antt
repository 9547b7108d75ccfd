-- The first line of a script is read as its first statement.
use Rattle.std.proofs.Common.{◌≡◌, ℕ, ◌≤◌, ◌==◌, true, [], ◌++◌, length, Option, Some, None, if◌then◌else◌, codes, refl, ap, sym, ◌∙◌, inl, inr, append_assoc, arith}
use Rattle.nb_script.proofs.Common.{decimal, cond-true, cond-false, ne_eqb, or_cases, eqb-true, append-nil, is_page_size, Statement, CreateDb, OpenDb, Bytes, ◌>>=◌, after, within, name_at, alone, session_line, cache_at, page_size_at, sizes_at, create_at, open_at, database_at, first_at, quoted, cache_text, sizes_text, command_text, line_text, FitsFirst, IsBase}
use Rattle.nb_script.proofs.WordLaws.{within_again, name_again}
use Rattle.nb_script.proofs.StatementLaws.{again_by, its_by, none_by}

cache_again : (cache : ℕ) → 1 ≤ cache → cache ≤ 4096 → cache_at (cache_text cache) ≡ Some cache
unfolding cache_at after
cache_again cache low high =
    cond-false (length (cache_text cache) == 0) _ _ (ne_eqb (length (cache_text cache)) 0 (λ e. absurd (omega (arith, e))))
    ∙ ap (λ b. within 1 4096 b >>= alone) (sym (append-nil (decimal cache))) ∙ ap (λ o. o >>= alone) (within_again 1 4096 cache [] (omega arith) low high refl)

-- the six page sizes are of this range
pub one_of : (n : ℕ) → is_page_size n ≡ true → (1024 ≤ n) × (n ≤ 32768)
one_of n h =
    elim (or_cases _ (n == 32768) h) [
      | inr e ↦ let is = eqb-true n 32768 e in (omega arith, omega arith)
      | inl h1 ↦
          elim (or_cases _ (n == 16384) h1) [
            | inr e ↦ let is = eqb-true n 16384 e in (omega arith, omega arith)
            | inl h2 ↦
                elim (or_cases _ (n == 8192) h2) [
                  | inr e ↦ let is = eqb-true n 8192 e in (omega arith, omega arith)
                  | inl h3 ↦
                      elim (or_cases _ (n == 4096) h3) [
                        | inr e ↦ let is = eqb-true n 4096 e in (omega arith, omega arith)
                        | inl h4 ↦
                            elim (or_cases (n == 1024) (n == 2048) h4) [ inr e ↦ let is = eqb-true n 2048 e in (omega arith, omega arith) | inl e ↦ let is = eqb-true n 1024 e in (omega arith, omega arith) ]
                      ]
                ]
          ]
    ]

page_size_again : (size : ℕ) (rest : Bytes) → is_page_size size ≡ true → page_size_at (decimal size ++ (codes " raw " ++ rest)) ≡ Some (size, codes " raw " ++ rest)
unfolding page_size_at
page_size_again size rest is =
    let range = one_of size is in
    ap (λ o. o >>= (λ (s : ℕ × Bytes). if is_page_size s.0 then Some s else None)) (within_again 1024 32768 size (codes " raw " ++ rest) (omega arith) range.0 range.1 refl)
    ∙ cond-true (is_page_size size) _ _ is

-- the sizes, before the cache
sizes_again : (size raw cache : ℕ) → is_page_size size ≡ true → raw ≤ 65535 → sizes_at (sizes_text size raw ++ cache_text cache) ≡ Some (size, raw, cache_text cache)
unfolding sizes_at after
sizes_again size raw cache is small =
    ap (λ (b : Bytes). sizes_at (codes " page_size " ++ b)) (append_assoc (decimal size) (codes " raw " ++ decimal raw) (cache_text cache))
    ∙ ap (λ o. o >>= (λ (s : ℕ × Bytes). after (codes " raw ") s.1 >>= (λ (w : Bytes). within 0 65535 w >>= (λ (r : ℕ × Bytes). Some (s.0, r.0, r.1))))) (page_size_again size (decimal raw ++ cache_text cache) is)
    ∙ ap (λ o. o >>= (λ (r : ℕ × Bytes). Some (size, r.0, r.1))) (within_again 0 65535 raw (cache_text cache) (omega arith) (omega arith) small refl)

-- a database's name, before what stands after it
base_again : (name rest : Bytes) → IsBase name → name_at 94 (quoted name ++ rest) ≡ Some (name, rest)
base_again name rest given = ap (λ (b : Bytes). name_at 94 (codes "'" ++ b)) (append_assoc name (codes "'") rest) ∙ name_again 94 name rest given

create_again : (name : Bytes) (size raw cache : ℕ) → FitsFirst (CreateDb name size raw cache) → create_at (quoted name ++ (sizes_text size raw ++ cache_text cache)) ≡ Some (CreateDb name size raw cache)
unfolding create_at
create_again name size raw cache h =
    ap (λ o. o >>= (λ (n : Bytes × Bytes). sizes_at n.1 >>= (λ (s : ℕ × ℕ × Bytes). cache_at s.2 >>= (λ (c : ℕ). Some (CreateDb n.0 s.0 s.1 c))))) (base_again name (sizes_text size raw ++ cache_text cache) h.0)
    ∙ ap (λ o. o >>= (λ (s : ℕ × ℕ × Bytes). cache_at s.2 >>= (λ (c : ℕ). Some (CreateDb name s.0 s.1 c)))) (sizes_again size raw cache h.1 h.2)
    ∙ ap (λ o. o >>= (λ (c : ℕ). Some (CreateDb name size raw c))) (cache_again cache h.3 h.4)

open_again : (name : Bytes) (cache : ℕ) → FitsFirst (OpenDb name cache) → open_at (quoted name ++ cache_text cache) ≡ Some (OpenDb name cache)
unfolding open_at
open_again name cache h =
    ap (λ o. o >>= (λ (n : Bytes × Bytes). cache_at n.1 >>= (λ (c : ℕ). Some (OpenDb n.0 c)))) (base_again name (cache_text cache) h.0)
    ∙ ap (λ o. o >>= (λ (c : ℕ). Some (OpenDb name c))) (cache_again cache h.1 h.2)

database_again : (s : Statement) → FitsFirst s → database_at (command_text s) ≡ Some s
unfolding database_at after
database_again (CreateDb name size raw cache) h = create_again name size raw cache h
database_again (OpenDb name cache) h = open_again name cache h
database_again other h = absurd h

pub no_first_session : (line : Bytes) → None ≡ session_line line → None ≡ first_at line
unfolding first_at
no_first_session line none = none_by database_at line none

pub its_first : (line : Bytes) (session : ℕ) (rest : Bytes) (read : Option Statement) → Some (session, rest) ≡ session_line line → read ≡ database_at rest → (read >>= (λ (k : Statement). Some (session, k))) ≡ first_at line
unfolding first_at
its_first line session rest read first second = its_by database_at line session rest read first second

pub first_again : (session : ℕ) (s : Statement) → 1 ≤ session → session ≤ 16 → FitsFirst s → first_at (line_text session s) ≡ Some (session, s)
unfolding first_at
first_again session s low high fits = again_by database_at session s low high (database_again s fits)
