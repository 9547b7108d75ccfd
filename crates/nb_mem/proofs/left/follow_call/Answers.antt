use Rattle.std.proofs.Common.{◌∙◌, sym}
use Rattle.nb_mem.proofs.OutcomeLaws.{changed_file, changed_outcome, other_file, other_outcome}
use Rattle.nb_mem.proofs.left.follow_call.Goals as goal

pub returns-in-None-clause-file : goal.returns-in-None-clause-file
returns-in-None-clause-file c = λ es reads. reads ∙ sym (other_file c.args.entry.now c.args.name.now es c.in-None.ensures)

pub returns-in-None-clause-outcome : goal.returns-in-None-clause-outcome
returns-in-None-clause-outcome c = λ es reads is. is ∙ sym (other_outcome c.args.first c.args.entry.now c.args.name.now es c.in-None.ensures)

pub returns-in_ok-follow-in-Some-clause-file : goal.returns-in_ok-follow-in-Some-clause-file
returns-in_ok-follow-in-Some-clause-file c = λ es reads.
    changed_file c.args.entry.now c.args.name.now es c.in-Some.change.now c.in-Some.ensures c.args.file.now c.change_file.new.file reads c.in_ok-change_file-in-Some.ensures.ok

pub returns-in_ok-follow-in-Some-clause-outcome : goal.returns-in_ok-follow-in-Some-clause-outcome
returns-in_ok-follow-in-Some-clause-outcome c = λ es reads is.
    changed_outcome c.args.entry.now c.args.name.now es c.in-Some.change.now c.in-Some.ensures c.args.file.now c.change_file.new.file reads c.in_ok-change_file-in-Some.ensures.ok
    c.args.first c.length_of-len.result c.args.outcome.now c.follow.new.self c.args.choices.now c.follow.new.choices
    c.length_of-len.ensures c.in_ok-follow-in-Some.ensures.outcome c.in_ok-follow-in-Some.ensures.choices is
