use Rattle.std.proofs.Common.{◌≡◌, ◌∙◌, ap}
use Rattle.nb_words.proofs.Common.{IfOk-weaker, App, with_rule, line, flag, plain}
use Rattle.nb_words.proofs.line.command.Goals as goal

pub returns : goal.returns
unfolding line
returns c =
    let add : (x : _) (a b : App) → a ≡ b → with_rule a (flag x) ≡ with_rule b (flag x) = λ x a b e. ap (λ (a : App). with_rule a (flag x)) e in
    IfOk-weaker c.with_words.result _ _
    (λ m h. h ∙ ap (λ (a : App). with_rule a plain) (c.in_ok-command-7.ensures ∙ add 73 _ _ (c.in_ok-command-6.ensures ∙ add 70 _ _ (c.in_ok-command-5.ensures ∙ add 78 _ _ (c.in_ok-command-4.ensures ∙ add 83 _ _ (c.in_ok-command-3.ensures ∙ add 76 _ _ (c.in_ok-command-2.ensures ∙ add 82 _ _ (c.in_ok-command.ensures ∙ add 66 _ _ c.bare_command-command.ensures))))))))
    c.with_words.ensures
