use Rattle.std.proofs.Common.{◌≡◌, ◌⊎◌, inl, inr, ◌∙◌, ◌++◌, ap, List, [], ℕ, take, Result, Ok, Err, is_ok, if◌then◌else◌}
use Rattle.nb_file.proofs.Common.{take_min}
use Rattle.nb_file.proofs.said.Said.keep.Goals as goal

-- all of the front is kept, or nothing
kept : {E : Type 0} (r : Result Unit E) (before front after : List ℕ) → before ≡ [] → after ≡ (if is_ok r then before ++ front else before) → (after ≡ front) ⊎ (after ≡ [])
kept (Ok u) before front after none is = inl (is ∙ ap (λ (l : List ℕ). l ++ front) none)
kept (Err e) before front after none is = inr (is ∙ none)

pub returns : goal.returns
returns c =
    let front : take c.min-count.result c.args.bytes.now ≡ take 4096 c.args.bytes.now = ap (λ (n : ℕ). take n c.args.bytes.now) c.min-count.ensures ∙ take_min 4096 c.args.bytes.now in
    elim (kept c.extend_from_slice.result _ _ _ c.clear.ensures.items c.extend_from_slice.ensures.items) [ inl is ↦ inl (is ∙ front) | inr none ↦ inr none ]
