use Rattle.std.proofs.Common.{ℕ, sym, ap, ◌∙◌, Bool, true, false}
use Rattle.nb_alloc.proofs.Common.{Behind, passed}
use Rattle.nb_alloc.proofs.behind.Behind.pass.Goals as goal

pub returns-then-not-is_made : goal.returns-then-not-is_made
returns-then-not-is_made c =
    let b : Behind = c.args.self.now in
    sym (ap (λ (t : Bool). elim t as (λ z. Behind) [ true ↦ passed c.args.place b | false ↦ b ]) (sym c.is_made.ensures ∙ c.if-not-is_made.true))

pub returns : goal.returns
returns c =
    let b : Behind = c.args.self.now in
    ap (λ (n : ℕ). record { page = b.page; entry = n; lost = c.is_lost.result }) c.entry_left.ensures
    ∙ ap (λ (t : Bool). record (passed c.args.place b) { lost = t }) c.is_lost.ensures
    ∙ sym (ap (λ (t : Bool). elim t as (λ z. Behind) [ true ↦ passed c.args.place b | false ↦ b ]) (sym c.is_made.ensures ∙ c.if-not-is_made.false))
