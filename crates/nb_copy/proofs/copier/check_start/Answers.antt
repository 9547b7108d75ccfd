use Rattle.std.proofs.Common.{[], ◌∷◌, subst}
use Rattle.nb_copy.proofs.Common.{LevelHead, Cause, first_cause, Tested, open_quiet, looks_quiet, looks_then, tested_on, earlier_cause, file_cause, first_here, on_ok}
use Rattle.nb_copy.proofs.StartCauses.{after_none}
use Rattle.nb_copy.proofs.copier.check_start.Goals as goal

pub returns-in_err-check_file-clause-test : goal.returns-in_err-check_file-clause-test
returns-in_err-check_file-clause-test g c s t tells same is free =
    let first : Cause = file_cause s c.args.name.now in
    let second : Cause = earlier_cause c.args.since.now t.base.image in
    tested_on (Unit {0}) LevelHead c.from_residual.result c.in_err-check_file.field-0.0 first (first_cause (first ∷ second ∷ [])) c.from_residual.ensures
    (λ r e. first_here first (second ∷ []) r e) (c.in_err-check_file.ensures.test s t tells same is free)

pub returns-clause-test : goal.returns-clause-test
returns-clause-test g c s t tells same is free =
    let w = g.H.Host.world c.args.host.now in
    let here = open_quiet w (g.H.Host.world c.check_file.new.host) c.args.engine.now t c.check_file.ensures.quiet is in
    subst (λ (x : Cause). Tested c.find.result x) (after_none (file_cause s c.args.name.now) (earlier_cause c.args.since.now t.base.image) (c.in_ok-check_file.ensures.test s t tells same is free))
    (c.find.ensures.test t tells here)

pub returns-clause-head : goal.returns-clause-head
returns-clause-head g c t tells is =
    c.find.ensures.head t tells (open_quiet (g.H.Host.world c.args.host.now) (g.H.Host.world c.check_file.new.host) c.args.engine.now t c.check_file.ensures.quiet is)

pub returns-clause-looks : goal.returns-clause-looks
returns-clause-looks g c = looks_then (looks_quiet c.check_file.ensures.quiet) c.find.ensures.looks

pub returns-clause-free : goal.returns-clause-free
returns-clause-free g c tells = on_ok c.find.result (c.in_ok-check_file.ensures.free tells)
