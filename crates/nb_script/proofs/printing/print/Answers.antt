use Rattle.std.proofs.Common.{◌++◌, ap, ◌∙◌}
use Rattle.nb_script.proofs.Common.{Bytes, script_text}
use Rattle.nb_script.proofs.RoundTrip.{printed_again}
use Rattle.nb_script.proofs.printing.print.Goals as goal

pub returns-clause-again : goal.returns-clause-again
returns-clause-again c =
    let script = c.args.script.now in
    printed_again script c.put_script.new.out.items (c.in_ok-put_script.ensures ∙ ap (λ (front : Bytes). front ++ script_text script) c.new-out.ensures.items)
