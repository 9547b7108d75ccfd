use Rattle.std.proofs.Common.{◌≡◌, ◌∙◌, ap, List, ℕ, ◌++◌, ◌∷◌, [], append_assoc}
use Rattle.nb_lines.proofs.Common.{append-nil, spaced, word_text}
use Rattle.std.specs.Fmt.{decimal}
use Rattle.nb_lines.proofs.brief.push_field.Goals as goal

-- a name and a number, each after a space
grouped : (a b c : List ℕ) → ((a ++ 32 ∷ []) ++ b ++ 32 ∷ []) ++ c ≡ a ++ (32 ∷ (b ++ (32 ∷ (c ++ []))))
grouped a b c = simp (append_assoc, append-nil)

pub returns-clause-words : goal.returns-clause-words
unfolding spaced word_text
returns-clause-words c =
    c.in_ok-push_number.ensures.digits
    ∙ ap (λ (l : List ℕ). l ++ decimal c.args.value) (c.in_ok-push-2.ensures.items ∙ ap (λ (l : List ℕ). l ++ 32 ∷ []) (c.in_ok-extend_from_slice.ensures.items ∙ ap (λ (l : List ℕ). l ++ c.as_bytes.result.now) c.in_ok-push.ensures.items))
    ∙ grouped c.args.line.now.items c.as_bytes.result.now (decimal c.args.value)
    ∙ ap (λ (name : List ℕ). c.args.line.now.items ++ (32 ∷ (name ++ (32 ∷ (decimal c.args.value ++ []))))) c.as_bytes.ensures.value
