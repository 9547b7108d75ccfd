use Rattle.std.proofs.Common.{ℕ, length, ◌≡◌, ◌+◌, ◌-◌, ◌*◌, ◌≤◌, suc, ◌∙◌, ap, sym, subst, arith}
use Rattle.nb_delta.proofs.Common.{entries_from}
use Rattle.nb_delta.proofs.ReadLaws.{passed_on, entries_none}
use Rattle.nb_delta.proofs.reading.read_entries.Goals as goal

pub loop-i-preserved : goal.loop-i-preserved
loop-i-preserved c = record {
  answer = λ bytes long page_is.
      let rest : c.args.count - c.loop-i.i ≡ suc (c.args.count - (c.loop-i.i + 1)) = omega arith in
      c.loop-i.invariant.answer bytes long page_is
      ∙ ap (λ (n : ℕ). entries_from (length c.args.page.now) c.args.at c.loop-i.i n bytes c.loop-i.entries) rest
      ∙ c.in_ok-read_entry.ensures.answer bytes (c.args.count - (c.loop-i.i + 1)) long page_is;
  more = omega (arith, c.in_ok-read_entry.ensures.more);
  few = λ some. c.in_ok-read_entry.ensures.few;
  whole = λ some. let e : c.args.at + 1 + (c.loop-i.i + 1) ≡ c.args.at + 2 + c.loop-i.i = omega arith in subst (λ (n : ℕ). n * length c.args.page.now ≤ c.args.len) (sym e) c.in_ok-read_entry.ensures.whole;
}

pub returns-in_err-read_entry-clause-answer : goal.returns-in_err-read_entry-clause-answer
returns-in_err-read_entry-clause-answer c bytes long page_is =
    let rest : c.args.count - c.loop-i.i ≡ suc (c.args.count - (c.loop-i.i + 1)) = omega arith in
    passed_on _ _ _ _ _ _ c.from_residual.ensures
    (c.loop-i.invariant.answer bytes long page_is ∙ ap (λ (n : ℕ). entries_from (length c.args.page.now) c.args.at c.loop-i.i n bytes c.loop-i.entries) rest)
    (c.in_err-read_entry.ensures.answer bytes (c.args.count - (c.loop-i.i + 1)) long page_is)

pub returns-clause-answer : goal.returns-clause-answer
returns-clause-answer c bytes long page_is =
    let none : c.args.count - c.loop-i.i ≡ 0 = omega arith in
    c.loop-i.invariant.answer bytes long page_is
    ∙ ap (λ (n : ℕ). entries_from (length c.args.page.now) c.args.at c.loop-i.i n bytes c.loop-i.entries) none
    ∙ entries_none (length c.args.page.now) c.args.at c.loop-i.i bytes c.loop-i.entries
