use Rattle.std.proofs.Common.{◌≡◌, ◌∙◌, ℕ, ◌-◌, ◌/◌, List, length, sym, ap, arith}
use Rattle.nb_page.proofs.Common.{put_mid, bytes_of, with_part, entries_in, same_entries, scn_payload, length-bytes_of, length-part, size_facts}
use Rattle.nb_page.proofs.FillLaws.{numbered_filled}
use Rattle.nb_page.proofs.fill.fill_scn_inventory.Goals as goal

pub returns : goal.returns
unfolding scn_payload
returns c =
    let page : List ℕ = c.args.page.now in
    let n : ℕ = length page in
    let size = size_facts n c.requires.size in
    let number : List ℕ = bytes_of 4 (c.args.number / entries_in n) in
    let kept : length c.put.new.page ≡ n = c.put.auto.page in
    let k : ℕ = length c.put.new.page - 32 in
    let room = length-part 32 k c.put.new.page (omega arith) in
    let numbered : c.put.new.page ≡ with_part 16 number page = c.put.ensures.written ∙ ap (λ v. with_part 16 (bytes_of 4 v) page) (c.from.ensures ∙ ap (λ m. c.args.number / m) c.entries_in.ensures.value) in
    let entries : c.fill_entries.new.entries ≡ same_entries 1 (entries_in n) = c.fill_entries.ensures ∙ ap (λ m. same_entries 1 (m / 4)) (room ∙ ap (λ m. m - 32) kept) in
    let len : length c.fill_entries.new.entries ≡ n - 32 = c.fill_entries.auto.entries ∙ room ∙ ap (λ m. m - 32) kept in
    ap (λ xs. put_mid 32 k xs c.fill_entries.new.entries) numbered
    ∙ ap (λ xs. put_mid 32 k (with_part 16 number page) xs) entries
    ∙ numbered_filled page number (same_entries 1 (entries_in n)) k (length-bytes_of 4 (c.args.number / entries_in n)) (ap length (sym entries) ∙ len) (ap (λ m. m - 32) kept) (omega arith) c.requires.blank
