use Rattle.std.proofs.Common.{◌≡◌, ℕ, ◌+◌, ◌*◌, length, inl, inr, ap, ◌∙◌, sym, arith, slice_index}
use Rattle.nb_delta.proofs.Common.{cases_lt, number_in, slots_in}
use Rattle.nb_delta.proofs.ZeroLaws.{zeros_all, zeros_kept, zeros_more}
use Rattle.nb_delta.proofs.writing.fill_group.Goals as goal

pub loop-i-init : goal.loop-i-init
loop-i-init c =
    let zeros = c.fill.ensures.after (λ y e. e) in
    record {
      count = c.put_number.ensures.value;
      behind = zeros_kept 0 4 c.fill.new.self c.put_number.new.page c.put_number.auto.page c.put_number.ensures.parts ∙ zeros_all (length c.args.page.now) 4 c.fill.new.self zeros;
      numbers = λ j low. absurd (omega arith);
    }

pub loop-i-preserved : goal.loop-i-preserved
loop-i-preserved c = record {
  count = c.put_number-in-loop-i.ensures.others 0 4 (inr (omega arith)) ∙ c.loop-i.invariant.count;
  behind = zeros_more (length c.args.page.now) c.loop-i.i c.loop-i.page c.put_number-in-loop-i.new.page c.put_number-in-loop-i.auto.page c.put_number-in-loop-i.ensures.parts c.loop-i.invariant.behind;
  numbers = λ j low. elim (cases_lt j c.loop-i.i) [
    | inl l ↦ c.put_number-in-loop-i.ensures.others (4 + 4 * j) 4 (inr (omega arith)) ∙ c.loop-i.invariant.numbers j l
    | inr l ↦
        let same : j ≡ c.loop-i.i = omega arith in
        ap (λ (n : ℕ). number_in (4 + 4 * n) 4 c.put_number-in-loop-i.new.page) same ∙ c.put_number-in-loop-i.ensures.value ∙ c.page_at.ensures.value
        ∙ ap (λ (n : ℕ). slice_index c.args.entries.now (c.args.group * n + c.loop-i.i)) c.slots_in-room.ensures.value
        ∙ ap (λ (n : ℕ). slice_index c.args.entries.now (c.args.group * slots_in (length c.args.page.now) + n)) (sym same)
  ];
}
