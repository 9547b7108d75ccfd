-- How many reads the opening of a database makes.
use Rattle.std.proofs.Common.{◌≡◌, ◌≢◌, ℕ, zero, suc, ◌+◌, ◌/◌, ◌-◌, ◌≤◌, ◌<◌, List, length, refl, sym, ap, ◌∙◌, arith, Some, Result, Ok, Err, IfOk, IsTrue}
use Rattle.nb_base.proofs.Common.{mul-div_cancel, size_of, is_page_size, slots_in, size_facts, normal_state, File, Fault, Known, image_in, Start, IsStart, table_reads, zero_pages}

-- in the normal state no table is read
pub none_read : (result : Result Known Fault) (state size reads : ℕ) → IfOk result (λ d. reads ≤ reads + table_reads state size d.entries)
none_read (Ok d) state size reads = omega arith
none_read (Err fault) state size reads = tt

-- and in the others the table is
pub table_read : (result : Result Known Fault) (state size old new : ℕ) → state ≢ normal_state → IfOk result (λ d. new ≡ old + length d.entries / slots_in size + 1) → IfOk result (λ d. new ≤ old + table_reads state size d.entries)
table_read (Ok d) zero size old new some is = absurd (some refl)
table_read (Ok d) (suc k) size old new some is = omega (arith, is)
table_read (Err fault) state size old new some is = tt

-- how many pages of zeros a main file ends in
zeros_are : (bytes : List ℕ) (start : Start) → IsStart bytes start → IsTrue (is_page_size start.page_size) → zero_pages (Some bytes) ≡ start.pages - length (image_in bytes)
zeros_are bytes start is size =
    let facts = size_facts start.page_size size in
    let wide : 0 < start.page_size = omega (arith, facts.at_least) in
    let pages : length bytes / size_of bytes ≡ start.pages = ap (λ (n : ℕ). length bytes / n) (sym is.page_size) ∙ ap (λ (n : ℕ). n / start.page_size) is.pages ∙ mul-div_cancel start.pages wide in
    ap (λ (n : ℕ). n - length (image_in bytes)) pages

-- The header, the table, and the pages from the end on: `main` of them are left.
pub opened_reads : (file : File) (bytes : List ℕ) (start : Start) (size main r0 r1 r2 r3 r4 : ℕ) (entries : List ℕ) → IsStart bytes start → IsTrue (is_page_size start.page_size) → file ≡ Some bytes → main ≡ length (image_in bytes) → main ≤ start.pages
    → size ≡ start.page_size → r1 ≤ r0 + 1 → r2 ≤ r1 + table_reads start.state start.page_size entries → r3 + main ≤ r2 + start.pages + 1 → r4 ≡ r3 → r4 ≤ r0 + (1 + table_reads start.state size entries + zero_pages file + 1)
opened_reads file bytes start size main r0 r1 r2 r3 r4 entries is one_of there counted most page_size first table last kept =
    let zeros : zero_pages file ≡ start.pages - main = ap (λ (f : File). zero_pages f) there ∙ zeros_are bytes start is one_of ∙ ap (λ (n : ℕ). start.pages - n) (sym counted) in
    let same : table_reads start.state size entries ≡ table_reads start.state start.page_size entries = ap (λ (n : ℕ). table_reads start.state n entries) page_size in
    omega (arith, zeros, same, first, table, last, most, kept)
