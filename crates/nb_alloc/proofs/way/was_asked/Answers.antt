use Rattle.std.proofs.Common.{ℕ, ◌-◌, ◌/◌, sym, ap, ◌∙◌, arith, Bool, ◌==◌, ◌&&◌}
use Rattle.nb_alloc.proofs.Common.{bits_in, inventory_place, lt_no, lt_yes}
use Rattle.nb_alloc.proofs.way.was_asked.Goals as goal

pub returns-then-from-le-FIRST_TO_GIVE : goal.returns-then-from-le-FIRST_TO_GIVE
returns-then-from-le-FIRST_TO_GIVE c =
    sym (ap (λ (t : Bool). t && c.args.place == inventory_place c.args.page_size ((c.args.from - 1) / bits_in c.args.page_size)) (lt_no 5 c.args.from (omega (arith, c.if-from-le-FIRST_TO_GIVE.true))))

pub returns : goal.returns
returns c =
    ap (λ (n : ℕ). c.args.place == n) (c.place_of-before.ensures ∙ ap (inventory_place c.args.page_size) c.covers-k.ensures.number)
    ∙ sym (ap (λ (t : Bool). t && c.args.place == inventory_place c.args.page_size ((c.args.from - 1) / bits_in c.args.page_size)) (lt_yes 5 c.args.from (omega (arith, c.if-from-le-FIRST_TO_GIVE.false))))
