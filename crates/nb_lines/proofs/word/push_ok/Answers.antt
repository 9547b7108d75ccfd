use Rattle.std.proofs.Common.{◌≡◌, ◌++◌, ℕ, List, subst}
use Rattle.nb_lines.proofs.Common.{spaced, named}
use Rattle.std.specs.Borrow.{Bor}
use Rattle.nb_lines.specs.declared.word.Word.{Word}
use Rattle.nb_lines.proofs.WordLaws.{one_field_more}
use Rattle.nb_lines.proofs.word.push_ok.Goals as goal

pub loop-name-preserved : goal.loop-name-preserved
loop-name-preserved c =
    one_field_more named c.args.fields.now c.loop-name.name-index c.loop-name-item.result _ c.args.line.now.items c.loop-name.line.items c.push_words-in-loop-name.new.line.items c.loop-name-test.true c.loop-name.invariant
    (subst (λ (f : Bor (List ℕ) × Word). c.push_words-in-loop-name.new.line.items ≡ c.loop-name.line.items ++ spaced (named f)) c.loop-name-item.is c.in_ok-push_words-2.ensures)
