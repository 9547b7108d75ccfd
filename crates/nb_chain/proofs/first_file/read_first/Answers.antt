use Rattle.std.proofs.Common.{take, ap, ◌∙◌, sym}
use Rattle.nb_chain.proofs.Common.{Files, First}
use Rattle.nb_chain.proofs.StartLaws.{first_begins}
use Rattle.nb_chain.proofs.AnswerLaws.{whatever, refused_first, whole_first}
use Rattle.nb_chain.proofs.MostLaws.{first_within, start_within}
use Rattle.nb_chain.proofs.first_file.read_first.Goals as goal

pub returns-then-begins_level-clause-answer : goal.returns-then-begins_level-clause-answer
returns-then-begins_level-clause-answer g c tells =
    let start = c.in_ok-start.ensures.answer tells in
    let begins = sym (first_begins (take c.in_ok-start.start.got c.read_start.new.first) start.0 start.3) ∙ sym c.begins_level.ensures ∙ c.if-begins_level.true in
    let there = ap (λ (f : Files). f c.args.name.now) c.read_start.ensures.quiet.still.files ∙ start.1 in
    refused_first _ _ start.0 c.refuse_level.result start.1 (c.refuse_level.ensures.answer tells start.0 there begins)

pub returns-clause-answer : goal.returns-clause-answer
returns-clause-answer g c tells =
    let start = c.in_ok-start.ensures.answer tells in
    let begins = sym (first_begins (take c.in_ok-start.start.got c.read_start.new.first) start.0 start.3) ∙ sym c.begins_level.ensures ∙ c.if-begins_level.false in
    whole_first _ _ start.0 c.in_ok-start.start.length c.whole_pages.result start.1 (sym start.2) begins (c.whole_pages.ensures.test start.0 (sym start.2) start.3) (c.whole_pages.ensures.value start.0 start.3)
    c.whole_pages.ensures.pages

pub returns-clause-reads : goal.returns-clause-reads
returns-clause-reads g c tells = whatever First _ c.whole_pages.result (c.read_start.ensures.reads tells)

pub returns-in_err-start-clause-within : goal.returns-in_err-start-clause-within
returns-in_err-start-clause-within g c tells = start_within _ _ _ (c.in_err-start.ensures.reads tells)

pub returns-then-begins_level-clause-within : goal.returns-then-begins_level-clause-within
returns-then-begins_level-clause-within g c tells =
    let start = c.in_ok-start.ensures.answer tells in
    let begins = sym (first_begins (take c.in_ok-start.start.got c.read_start.new.first) start.0 start.3) ∙ sym c.begins_level.ensures ∙ c.if-begins_level.true in
    first_within _ _ _ start.0 _ _ _ c.read_start.ensures.quiet.still.files start.1 begins (c.read_start.ensures.reads tells) (c.refuse_level.ensures.within tells)

pub returns-clause-within : goal.returns-clause-within
returns-clause-within g c tells = start_within _ _ _ (c.read_start.ensures.reads tells)
