use Rattle.std.proofs.Common.{◌≡◌, ◌+◌, ◌-◌, [], ◌++◌, drop, get_or, ap, ◌∙◌, arith}
use Rattle.nb_script.proofs.Common.{Bytes, statements_text, sessions_text}
use Rattle.nb_script.proofs.Prints.{next_session, all_written, no_others}
use Rattle.nb_script.proofs.printing.put_all.Goals as goal

pub loop-before-preserved : goal.loop-before-preserved
loop-before-preserved c =
    let l = c.loop-before in
    let i = l.before in
    let xs = c.args.script.now.sessions in
    let here : i + 1 - 1 ≡ i = omega arith in
    ap (λ (t : Bytes). t ++ sessions_text (i + 1 + 1) (drop (i + 1) xs))
    (c.in_ok-put_statements.ensures ∙ ap (λ xs. l.out.items ++ statements_text (i + 1) xs) (c.statements.ensures ∙ ap (λ n. get_or xs n []) here))
    ∙ next_session l.out.items xs i (omega arith) ∙ l.invariant

pub returns : goal.returns
returns c = all_written (sessions_text (c.loop-before.before + 1)) c.loop-before.out.items c.args.script.now.sessions c.loop-before.before (omega arith) (no_others (c.loop-before.before + 1)) ∙ c.loop-before.invariant
