use Rattle.std.proofs.Common.{◌∙◌, ap, List, ℕ, ◌++◌, ◌∷◌, [], append_assoc}
use Rattle.nb_lines.proofs.Common.{line_text, spaced, reply_words}
use Rattle.std.specs.Fmt.{decimal}
use Rattle.nb_lines.proofs.line.write_line.Goals as goal

pub returns-clause-line : goal.returns-clause-line
unfolding line_text
returns-clause-line c =
    c.in_ok-push-2.ensures.items
    ∙ ap (λ (l : List ℕ). l ++ 10 ∷ []) (c.in_ok-push_reply.ensures.words ∙ ap (λ (l : List ℕ). l ++ spaced (reply_words c.args.reply.now)) (c.in_ok-push.ensures.items ∙ ap (λ (l : List ℕ). l ++ 58 ∷ []) (c.in_ok-push_number.ensures.digits ∙ ap (λ (l : List ℕ). l ++ decimal c.args.session) c.requires.empty)))
    ∙ simp append_assoc
