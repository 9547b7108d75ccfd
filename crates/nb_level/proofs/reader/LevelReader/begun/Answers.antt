use Rattle.std.proofs.Common.{◌≡◌, inl, inr, ⊎_elim, ℕ, sym, ap, ◌∙◌, subst, arith, IsTrue}
use Rattle.nb_level.proofs.Common.{is_page_size, number_in, Head, head_in}
use Rattle.nb_level.proofs.reader.LevelReader.begun.Goals as goal

pub invariant_of-result : goal.invariant_of-result
unfolding head_in
invariant_of-result c =
    let first = c.args.first.now in
    let size : c.head_in-head.result.page_size ≡ number_in 40 4 first = ap (λ (h : Head). h.size) c.head_in-head.ensures in record {
      known = ⊎_elim (λ one. inl (c.get-version.ensures.value ∙ one)) (λ two. inr (c.get-version.ensures.value ∙ two)) c.requires.version;
      size = subst (λ (n : ℕ). IsTrue (is_page_size n)) (sym size) c.requires.size;
      room_101 = λ v. omega (arith, c.in_ok-buffer.ensures.len, c.lead.ensures.single v);
      room_102 = λ v. omega (arith, c.in_ok-buffer.ensures.len, c.lead.ensures.run v);
      single = λ v. omega arith;
      within = omega arith;
      counted = omega arith;
      reached = omega arith;
    }
