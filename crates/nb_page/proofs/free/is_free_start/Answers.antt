use Rattle.std.proofs.Common.{◌∙◌, sym, ap, ◌||◌}
use Rattle.nb_page.proofs.Common.{take_all, is_zeros, is_free_file, is_unfinished}
use Rattle.nb_page.proofs.free.is_free_start.Goals as goal

pub returns-then-are_zeros : goal.returns-then-are_zeros
unfolding is_free_file
returns-then-are_zeros c =
    let first = c.args.first.now in
    c.are_zeros.ensures ∙ sym (ap (λ b. b || is_unfinished first) (ap is_zeros (take_all 64 first c.requires) ∙ sym c.are_zeros.ensures ∙ c.if-are_zeros.true) ∙ sym c.if-are_zeros.true ∙ c.are_zeros.ensures)

pub returns-else-are_zeros : goal.returns-else-are_zeros
unfolding is_free_file
returns-else-are_zeros c =
    let first = c.args.first.now in
    c.is_unfinished.ensures ∙ sym (ap (λ b. b || is_unfinished first) (ap is_zeros (take_all 64 first c.requires) ∙ sym c.are_zeros.ensures ∙ c.if-are_zeros.false))
