use Rattle.std.proofs.Common.{◌∙◌, sym, ap, Bool, ◌||◌, ◌==◌, Some, None}
use Rattle.nb_catalog.proofs.LineLaws.{among_zero, among_none, among_behind}
use Rattle.nb_catalog.proofs.lines.+is_in_line_at.Goals as goal

pub returns-then-level-eq0 : goal.returns-then-level-eq0
returns-then-level-eq0 t c = sym (among_zero c.args.parents.now c.args.level c.args.place c.args.wanted c.if-level-eq0.true)

pub returns-in_err-above : goal.returns-in_err-above
returns-in_err-above t c = c.from_residual.ensures ∙ sym (among_none c.args.parents.now c.args.level c.args.place c.args.wanted c.if-level-eq0.false (sym c.parent_at.ensures ∙ c.in_err-above.was))

pub returns-in_err-is_above : goal.returns-in_err-is_above
returns-in_err-is_above t c =
    c.from_residual-in_err-is_above.ensures
    ∙ sym (among_behind c.args.parents.now c.args.level c.args.place c.in_ok-above.above c.args.wanted None c.if-level-eq0.false (sym c.in_ok-above.ensures) c.in_err-is_above.ensures)

pub returns-then-is_above : goal.returns-then-is_above
returns-then-is_above t c =
    let is = c.if-is_above.true in
    ap Some is
    ∙ sym (ap (λ (b : Bool). Some (b || (c.args.place == c.args.wanted))) is)
    ∙ sym (among_behind c.args.parents.now c.args.level c.args.place c.in_ok-above.above c.args.wanted (Some c.in_ok-is_above.is_above) c.if-level-eq0.false (sym c.in_ok-above.ensures) c.in_ok-is_above.ensures)

pub returns-else-is_above : goal.returns-else-is_above
returns-else-is_above t c =
    sym (ap (λ (b : Bool). Some (b || (c.args.place == c.args.wanted))) c.if-is_above.false)
    ∙ sym (among_behind c.args.parents.now c.args.level c.args.place c.in_ok-above.above c.args.wanted (Some c.in_ok-is_above.is_above) c.if-level-eq0.false (sym c.in_ok-above.ensures) c.in_ok-is_above.ensures)
