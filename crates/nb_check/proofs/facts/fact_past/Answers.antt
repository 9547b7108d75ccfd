use Rattle.std.proofs.Common.{◌≡◌, ℕ, ◌%◌, ◌<◌, length, refl, sym, ◌∙◌, arith, IsTrue, true, false, not}
use Rattle.nb_check.proofs.Common.{mod-lt, is_page_size, bits_in, bits-least, breaks, is_free_page, WrongEntry}
use Rattle.nb_check.proofs.CoverLaws.{near_of}
use Rattle.nb_check.proofs.FactLaws.{of_entries, used_is, lowest_taken, lowest_entry_past, lowest_none_past}
use Rattle.nb_check.proofs.facts.fact_past.Goals as goal

bit_inside : (size p : ℕ) → IsTrue (is_page_size size) → p % bits_in size < bits_in size
bit_inside size p valid = mod-lt p {m = bits_in size} (let some = bits-least size valid in omega (arith, some))

pub returns-then-is_used : goal.returns-then-is_used
returns-then-is_used c image of map entries =
    let p : ℕ = c.args.number in
    let size : ℕ = length c.args.map.now in
    let below = near_of image size c.args.extent c.requires.size of p c.requires.past c.requires.covered c.requires.some in
    let more : 1 < length image = omega (arith, c.requires.some, of.count) in
    let used : c.is_used.result ≡ not (is_free_page image p) = used_is image size p c.args.map.now of.size (map more) refl (bit_inside size p c.requires.size) c.is_used.result (rw c.bits_in.ensures.value at c.is_used.ensures) in
    lowest_taken image p (omega (arith, more)) (omega (arith, c.requires.past, of.count)) below (sym used ∙ c.if-is_used.true)

pub returns-then-has_late_entry : goal.returns-then-has_late_entry
returns-then-has_late_entry c image of map entries =
    let p : ℕ = c.args.number in
    let size : ℕ = length c.args.map.now in
    let below = near_of image size c.args.extent c.requires.size of p c.requires.past c.requires.covered c.requires.some in
    let more : 1 < length image = omega (arith, c.requires.some, of.count) in
    let used : c.is_used.result ≡ not (is_free_page image p) = used_is image size p c.args.map.now of.size (map more) refl (bit_inside size p c.requires.size) c.is_used.result (rw c.bits_in.ensures.value at c.is_used.ensures) in
    let wrong : breaks image WrongEntry p ≡ true = sym (c.has_late_entry.ensures image (of_entries image _ _ c.args.extent c.requires.entries of) entries) ∙ c.if-has_late_entry.true in
    lowest_entry_past image p (omega (arith, more)) (omega (arith, c.requires.past, of.count)) below (sym used ∙ c.if-is_used.false) wrong

pub returns : goal.returns
returns c image of map entries =
    let p : ℕ = c.args.number in
    let size : ℕ = length c.args.map.now in
    let below = near_of image size c.args.extent c.requires.size of p c.requires.past c.requires.covered c.requires.some in
    let more : 1 < length image = omega (arith, c.requires.some, of.count) in
    let used : c.is_used.result ≡ not (is_free_page image p) = used_is image size p c.args.map.now of.size (map more) refl (bit_inside size p c.requires.size) c.is_used.result (rw c.bits_in.ensures.value at c.is_used.ensures) in
    let right : breaks image WrongEntry p ≡ false = sym (c.has_late_entry.ensures image (of_entries image _ _ c.args.extent c.requires.entries of) entries) ∙ c.if-has_late_entry.false in
    lowest_none_past image p (omega (arith, more)) (omega (arith, c.requires.past, of.count)) below (sym used ∙ c.if-is_used.false) right
