use Rattle.std.proofs.Common.{◌+◌, ◌*◌, ◌≡◌, inr, take, drop, length, replicate, ap, ap₂, sym, ◌∙◌, arith, below_more}
use Rattle.nb_scn.proofs.Common.{take_all, with_part, bytes_of, scn_payload, entries_in, length-part, put_mid-with_part, size_facts, entry_place}
use Rattle.nb_scn.proofs.EntryLaws.{entries-replicate}
use Rattle.nb_scn.proofs.FillLaws.{front, front_begun, front_more}
use Rattle.nb_scn.proofs.entries.fill.Goals as goal

pub loop-index-init : goal.loop-index-init
loop-index-init c =
    let old = c.args.page.now in
    let size = size_facts (length old) c.requires in
    let twelve : length (take 12 (drop 20 c.put.new.page)) ≡ 12 = length-part 20 12 c.put.new.page (omega arith) in
    let zeros : c.fill.new.self ≡ replicate 12 0 = c.fill.ensures.after (λ y e. e) ∙ ap (λ n. replicate n 0) twelve in
    let numbered : c.put.new.page ≡ with_part 16 (bytes_of 4 c.args.k) old = c.put.ensures.written ∙ ap (λ v. with_part 16 (bytes_of 4 v) old) c.from.ensures in record {
      whole =
          ap (take 32) (put_mid-with_part 20 12 c.fill.new.self c.put.new.page (ap length zeros) ∙ ap₂ (with_part 20) zeros numbered)
          ∙ front_begun old c.args.k c.args.scn (omega arith);
      filled = λ j h. absurd (omega arith);
    }

pub loop-index-preserved : goal.loop-index-preserved
loop-index-preserved c =
    let i = c.loop-index.index in
    let so_far = c.loop-index.invariant in
    let written = c.put_number.ensures in record {
      whole = rw (written.written, c.from-in-loop-index.ensures) (front_more c.args.page.now c.loop-index.page c.args.k c.args.scn i (omega arith) so_far.whole);
      filled = below_more _ _ (λ j h. written.others (32 + 4 * j) 4 (inr (omega arith)) ∙ so_far.filled j h) (written.value ∙ c.from-in-loop-index.ensures);
    }

pub returns-clause-page : goal.returns-clause-page
unfolding scn_payload
returns-clause-page c =
    let old = c.args.page.now in
    let page = c.loop-index.page in
    let size = size_facts (length old) c.requires in
    let count : c.loop-index.index ≡ entries_in (length old) = omega arith in
    sym (take_all (entry_place c.loop-index.index) page (omega arith)) ∙ c.loop-index.invariant.whole ∙ ap (front old c.args.k c.args.scn) count

pub returns-clause-entries : goal.returns-clause-entries
returns-clause-entries c =
    let page = c.loop-index.page in
    let same : length page ≡ length c.args.page.now = omega arith in
    entries-replicate page c.args.scn (λ k h. c.loop-index.invariant.filled k (omega arith)) ∙ ap (λ n. replicate (entries_in n) c.args.scn) same
