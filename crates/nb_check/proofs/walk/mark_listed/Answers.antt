use Rattle.std.proofs.Common.{◌≡◌, ◌≢◌, ℕ, ◌+◌, ◌*◌, ◌≤◌, length, refl, sym, ap, subst, ◌∙◌, arith, true, false, slice_index}
use Rattle.nb_check.proofs.Common.{part, broken_at, RowsFrom, Slot, is_used, first_in, pages_of, found_pages, chains_cause, eq_no, eq_yes, tested_on, Held, IsReached, chains_on, slot_inside, looks_begun, looks_then}
use Rattle.nb_check.proofs.ListLaws.{lists_few, lists_first, lists_free, lists_used, lists_broken, lists_last}
use Rattle.nb_check.proofs.walk.mark_listed.Goals as goal

-- whether a slot is used, by its first byte
other_use : (bytes here : Slot) (first : ℕ) → first ≡ slice_index bytes 0 → bytes ≡ here → first ≢ 1 → is_used here ≡ false
other_use bytes here first is at other = eq_no (slice_index here 0) 1 (λ e. other (is ∙ ap (λ (s : Slot). slice_index s 0) at ∙ e))

one_use : (bytes here : Slot) (first : ℕ) → first ≡ slice_index bytes 0 → bytes ≡ here → first ≡ 1 → is_used here ≡ true
one_use bytes here first is at one = eq_yes (slice_index here 0) 1 (sym (is ∙ ap (λ (s : Slot). slice_index s 0) at) ∙ one)

pub loop-slot-init : goal.loop-slot-init
loop-slot-init g c = record {
  many = c.slot_count-count.ensures;
  lists = λ t tells is. lists_first t.base.image c.args.listed.now c.args.marks.now (g.H.Host.world c.args.host.now).reads c.slot_count-count.result c.slot_count-count.ensures;
  sized = refl;
  looks = looks_begun (g.H.Host.world c.args.host.now) (g.met.H.Host.timely c.args.host.now);
  cause = refl;
}

pub slot_at-bytes-requires : goal.slot_at-bytes-requires
slot_at-bytes-requires g c = slot_inside (length c.args.listed.now) c.slot_count-count.result c.loop-slot.slot c.slot_count-count.ensures c.loop-slot-test.true

pub loop-slot-preserved-then-use_of-ne1 : goal.loop-slot-preserved-then-use_of-ne1
loop-slot-preserved-then-use_of-ne1 g c =
    let l = c.loop-slot in
    record {
      many = l.invariant.many;
      lists = λ t tells is.
          lists_free t.base.image c.args.listed.now c.args.marks.now (g.H.Host.world c.args.host.now).reads c.slot_count-count.result l.slot c.loop-slot-test.true l.marks (g.H.Host.world l.host).reads (l.invariant.lists t tells is)
          (other_use c.slot_at-bytes.result.now (part (32 + 256 * l.slot) 256 c.args.listed.now) c.use_of.result c.use_of.ensures c.slot_at-bytes.ensures.bytes c.if-use_of-ne1.true);
      sized = l.invariant.sized;
      looks = l.invariant.looks;
      cause = l.invariant.cause;
    }

pub mark_chain-requires : goal.mark_chain-requires
mark_chain-requires g c = omega (arith, c.loop-slot.invariant.sized, c.requires.size, ap (λ (h : Held). h.files.page_size) c.loop-slot.invariant.looks.same)

pub returns-in_err-mark_chain-clause-test : goal.returns-in_err-mark_chain-clause-test
returns-in_err-mark_chain-clause-test g c t tells is =
    let l = c.loop-slot in
    let image = t.base.image in
    let here : Slot = part (32 + 256 * l.slot) 256 c.args.listed.now in
    let at : c.first_page.result ≡ first_in here = c.first_page.ensures ∙ ap first_in c.slot_at-bytes.ensures.bytes in
    tested_on (Unit {0}) (Unit {0}) _ _ (broken_at (pages_of (RowsFrom c.first_page.result) image)) (chains_cause image (chains_on c.args.listed.now)) c.from_residual.ensures
    (λ r e.
    lists_broken image c.args.listed.now c.args.marks.now (g.H.Host.world c.args.host.now).reads c.slot_count-count.result l.slot c.loop-slot-test.true l.marks (g.H.Host.world l.host).reads (l.invariant.lists t tells is) r
    (one_use c.slot_at-bytes.result.now here c.use_of.result c.use_of.ensures c.slot_at-bytes.ensures.bytes c.if-use_of-ne1.false) (ap (λ (n : ℕ). broken_at (pages_of (RowsFrom n) image)) (sym at) ∙ e))
    (c.in_err-mark_chain.ensures.test t tells (l.invariant.looks.opened t tells is))

pub loop-slot-preserved : goal.loop-slot-preserved
loop-slot-preserved g c =
    let l = c.loop-slot in
    let left = c.in_ok-mark_chain.ensures in
    record {
      many = l.invariant.many;
      lists = λ t tells is.
          let image = t.base.image in
          let still = l.invariant.looks.opened t tells is in
          let here : Slot = part (32 + 256 * l.slot) 256 c.args.listed.now in
          let at : c.first_page.result ≡ first_in here = c.first_page.ensures ∙ ap first_in c.slot_at-bytes.ensures.bytes in
          lists_used image c.args.listed.now c.args.marks.now (g.H.Host.world c.args.host.now).reads c.slot_count-count.result l.slot c.loop-slot-test.true l.marks (g.H.Host.world l.host).reads (l.invariant.lists t tells is) c.mark_chain.new.marks
          (g.H.Host.world c.mark_chain.new.host).reads (one_use c.slot_at-bytes.result.now here c.use_of.result c.use_of.ensures c.slot_at-bytes.ensures.bytes c.if-use_of-ne1.false)
          (ap (λ (n : ℕ). broken_at (pages_of (RowsFrom n) image)) (sym at) ∙ left.test t tells still)
          (subst (λ (n : ℕ). IsReached l.marks (found_pages (RowsFrom n) image) c.mark_chain.new.marks) at (left.reached t tells still))
          (subst (λ (n : ℕ). (g.H.Host.world c.mark_chain.new.host).reads ≤ (g.H.Host.world l.host).reads + length (found_pages (RowsFrom n) image)) at (left.once t tells still));
      sized = left.sized ∙ l.invariant.sized;
      looks = looks_then l.invariant.looks left.looks;
      cause = left.cause ∙ l.invariant.cause;
    }

pub returns-clause-test : goal.returns-clause-test
returns-clause-test g c t tells is =
    let l = c.loop-slot in
    (lists_last t.base.image c.args.listed.now c.args.marks.now l.marks (g.H.Host.world c.args.host.now).reads (g.H.Host.world l.host).reads c.slot_count-count.result l.slot (omega (arith, c.loop-slot-test.false)) (l.invariant.lists t tells is)).formed

pub returns-clause-reached : goal.returns-clause-reached
returns-clause-reached g c t tells is =
    let l = c.loop-slot in
    (lists_last t.base.image c.args.listed.now c.args.marks.now l.marks (g.H.Host.world c.args.host.now).reads (g.H.Host.world l.host).reads c.slot_count-count.result l.slot (omega (arith, c.loop-slot-test.false)) (l.invariant.lists t tells is)).out

pub returns-clause-once : goal.returns-clause-once
returns-clause-once g c t tells is =
    let l = c.loop-slot in
    (lists_last t.base.image c.args.listed.now c.args.marks.now l.marks (g.H.Host.world c.args.host.now).reads (g.H.Host.world l.host).reads c.slot_count-count.result l.slot (omega (arith, c.loop-slot-test.false)) (l.invariant.lists t tells is)).few

pub returns-in_err-mark_chain-clause-looks : goal.returns-in_err-mark_chain-clause-looks
returns-in_err-mark_chain-clause-looks g c = looks_then c.loop-slot.invariant.looks c.in_err-mark_chain.ensures.looks

pub returns-in_err-mark_chain-clause-within : goal.returns-in_err-mark_chain-clause-within
returns-in_err-mark_chain-clause-within g c t tells is =
    let l = c.loop-slot in
    let so_far = lists_few t.base.image c.args.listed.now c.args.marks.now l.marks (g.H.Host.world c.args.host.now).reads (g.H.Host.world l.host).reads c.slot_count-count.result l.slot (l.invariant.lists t tells is) in
    omega (arith, so_far, c.mark_chain.ensures.within tells, ap (λ (h : Held). h.files.count) l.invariant.looks.same)

pub returns-clause-within : goal.returns-clause-within
returns-clause-within g c t tells is =
    let l = c.loop-slot in
    let so_far = lists_few t.base.image c.args.listed.now c.args.marks.now l.marks (g.H.Host.world c.args.host.now).reads (g.H.Host.world l.host).reads c.slot_count-count.result l.slot (l.invariant.lists t tells is) in
    omega (arith, so_far)
