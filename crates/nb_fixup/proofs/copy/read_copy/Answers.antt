use Rattle.std.proofs.Common.{◌≡◌, ℕ, ap, sym, ◌∙◌, Some, is_some}
use Rattle.nb_fixup.proofs.Common.{Files, DeltaPresent, delta_name, fixup_cause, TestedByReads, file_cause, passed}
use Rattle.nb_fixup.proofs.AnswerLaws.{tested_by, some_length}
use Rattle.nb_fixup.proofs.CauseLaws.{file_unfit, file_beside, file_alone}
use Rattle.nb_fixup.proofs.copy.read_copy.Goals as goal

pub returns-in_err-size-clause-test : goal.returns-in_err-size-clause-test
returns-in_err-size-clause-test g c tells =
    let files : Files = (g.H.Host.world c.args.host.now).files in
    let name = c.args.name.now in
    passed ℕ (λ r. TestedByReads r (fixup_cause files name)) c.from_residual.result c.in_err-size.field-0.0 c.from_residual.ensures
    (tested_by ℕ ℕ c.in_err-size.field-0.0 (file_cause name (files name)) (fixup_cause files name) (file_unfit name (files name) (files (delta_name name))) (c.in_err-size.ensures.test tells))

pub returns-then-is_some-clause-test : goal.returns-then-is_some-clause-test
returns-then-is_some-clause-test g c tells =
    let files : Files = (g.H.Host.world c.args.host.now).files in
    let name = c.args.name.now in
    let there : is_some (files (delta_name name)) ≡ is_some c.in_ok-size-2.field-0 =
    sym (some_length _ _ (c.in_ok-size-2.ensures.answer tells) ∙ ap (λ (f : Files). is_some (f c.delta-delta.result)) c.read_first.ensures.quiet.still.files ∙ ap (λ n. is_some (files n)) c.delta-delta.ensures) in
    file_beside name (files name) (files (delta_name name)) (c.in_ok-size.ensures.test tells) (there ∙ sym c.is_some.ensures ∙ c.if-is_some.true) ∙ ap (λ n. Some (DeltaPresent n)) (sym c.delta-delta.ensures)

pub returns-clause-test : goal.returns-clause-test
returns-clause-test g c tells =
    let files : Files = (g.H.Host.world c.args.host.now).files in
    let name = c.args.name.now in
    let there : is_some (files (delta_name name)) ≡ is_some c.in_ok-size-2.field-0 =
    sym (some_length _ _ (c.in_ok-size-2.ensures.answer tells) ∙ ap (λ (f : Files). is_some (f c.delta-delta.result)) c.read_first.ensures.quiet.still.files ∙ ap (λ n. is_some (files n)) c.delta-delta.ensures) in
    file_alone name (files name) (files (delta_name name)) (c.in_ok-size.ensures.test tells) (there ∙ sym c.is_some.ensures ∙ c.if-is_some.false)
