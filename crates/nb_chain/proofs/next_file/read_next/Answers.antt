use Rattle.std.proofs.Common.{ℕ, List, take, ap, ◌∙◌, sym, subst, arith, Err}
use Rattle.nb_chain.proofs.Common.{Fault, File, Files, Tip, LevelSays, IsRead, NextSays, passed}
use Rattle.nb_chain.proofs.StartLaws.{first_begins, first_number}
use Rattle.nb_chain.proofs.AnswerLaws.{next_unmarked, next_unread_there, next_apart, next_is}
use Rattle.nb_chain.proofs.MostLaws.{next_within}
use Rattle.nb_chain.proofs.next_file.read_next.Goals as goal

pub returns-then-not-begins_level-clause-answer : goal.returns-then-not-begins_level-clause-answer
returns-then-not-begins_level-clause-answer g c tells =
    let start = c.in_ok-start.ensures.answer tells in
    let first : List ℕ = take c.in_ok-start.start.got c.read_start.new.first in
    let begins = sym (first_begins first start.0 start.3) ∙ sym c.begins_level.ensures ∙ c.if-not-begins_level.true in
    next_unmarked c.args.place c.args.last.now c.args.name.now c.args.overlay.now (g.H.Host.world c.args.host.now).reads _ start.0 first c.args.overlay.now (g.H.Host.world c.read_start.new.host).reads c.no_level.result start.1 begins
    (first_number first start.0 start.3 16 4 (omega arith)) c.no_level.ensures.signed c.no_level.ensures.other

pub returns-in_err-head-clause-answer : goal.returns-in_err-head-clause-answer
returns-in_err-head-clause-answer g c tells =
    let start = c.in_ok-start.ensures.answer tells in
    let begins = sym (first_begins (take c.in_ok-start.start.got c.read_start.new.first) start.0 start.3) ∙ sym c.begins_level.ensures ∙ c.if-not-begins_level.false in
    let before : ℕ = (g.H.Host.world c.args.host.now).reads in
    let middle : ℕ = (g.H.Host.world c.read_start.new.host).reads in
    let after : ℕ = (g.H.Host.world c.read_level.new.host).reads in
    let file : File = (g.H.Host.world c.args.host.now).files c.args.name.now in
    let fault : Fault = c.in_err-head.field-0.0 in
    let says = subst (λ (f : File). LevelSays f c.args.name.now c.args.overlay.now c.read_level.new.overlay middle after (Err fault)) (ap (λ (f : Files). f c.args.name.now) c.read_start.ensures.quiet.still.files) (c.in_err-head.ensures.answer tells) in
    passed Tip (λ r. NextSays file c.args.place c.args.last.now c.args.name.now c.args.overlay.now c.read_level.new.overlay before after r) c.from_residual-in_err-head.result fault c.from_residual-in_err-head.ensures
    (next_unread_there c.args.place c.args.last.now c.args.name.now c.args.overlay.now before file start.0 c.read_level.new.overlay c.read_level.new.overlay middle after after fault start.1 begins says)

pub returns-in_err-goes_on-clause-answer : goal.returns-in_err-goes_on-clause-answer
returns-in_err-goes_on-clause-answer g c tells =
    let start = c.in_ok-start.ensures.answer tells in
    let begins = sym (first_begins (take c.in_ok-start.start.got c.read_start.new.first) start.0 start.3) ∙ sym c.begins_level.ensures ∙ c.if-not-begins_level.false in
    let before : ℕ = (g.H.Host.world c.args.host.now).reads in
    let middle : ℕ = (g.H.Host.world c.read_start.new.host).reads in
    let after : ℕ = (g.H.Host.world c.read_level.new.host).reads in
    let file : File = (g.H.Host.world c.args.host.now).files c.args.name.now in
    let is = subst (λ (f : File). IsRead f c.args.overlay.now c.read_level.new.overlay middle after c.in_ok-head.head) (ap (λ (f : Files). f c.args.name.now) c.read_start.ensures.quiet.still.files) (c.in_ok-head.ensures.answer tells) in
    passed Tip (λ r. NextSays file c.args.place c.args.last.now c.args.name.now c.args.overlay.now c.read_level.new.overlay before after r) c.from_residual-in_err-goes_on.result c.in_err-goes_on.field-0.0 c.from_residual-in_err-goes_on.ensures
    (next_apart c.args.place c.args.last.now c.args.name.now c.args.overlay.now before file start.0 c.read_level.new.overlay middle after c.in_ok-head.head start.1 begins is c.read_level.new.overlay after c.in_err-goes_on.field-0.0 c.in_err-goes_on.ensures.test)

pub returns-clause-answer : goal.returns-clause-answer
returns-clause-answer g c tells =
    let start = c.in_ok-start.ensures.answer tells in
    let begins = sym (first_begins (take c.in_ok-start.start.got c.read_start.new.first) start.0 start.3) ∙ sym c.begins_level.ensures ∙ c.if-not-begins_level.false in
    let before : ℕ = (g.H.Host.world c.args.host.now).reads in
    let middle : ℕ = (g.H.Host.world c.read_start.new.host).reads in
    let after : ℕ = (g.H.Host.world c.read_level.new.host).reads in
    let file : File = (g.H.Host.world c.args.host.now).files c.args.name.now in
    let is = subst (λ (f : File). IsRead f c.args.overlay.now c.read_level.new.overlay middle after c.in_ok-head.head) (ap (λ (f : Files). f c.args.name.now) c.read_start.ensures.quiet.still.files) (c.in_ok-head.ensures.answer tells) in
    next_is c.args.place c.args.last.now c.args.name.now c.args.overlay.now before file start.0 c.read_level.new.overlay middle after c.in_ok-head.head start.1 begins is
    c.of.result (c.in_ok-goes_on.ensures.test is.contents (sym is.named)) c.of.ensures.guid c.of.ensures.scn c.of.ensures.size (c.read_start.ensures.reads tells)

pub returns-in_err-start-clause-within : goal.returns-in_err-start-clause-within
returns-in_err-start-clause-within g c tells = omega (arith, c.in_err-start.ensures.reads tells)

pub returns-then-not-begins_level-clause-within : goal.returns-then-not-begins_level-clause-within
returns-then-not-begins_level-clause-within g c tells = omega (arith, c.read_start.ensures.reads tells)

pub returns-in_err-head-clause-within : goal.returns-in_err-head-clause-within
returns-in_err-head-clause-within g c tells = next_within _ _ _ _ _ _ c.read_start.ensures.quiet.still.files (c.read_start.ensures.reads tells) (c.read_level.ensures.within tells)

pub returns-in_err-goes_on-clause-within : goal.returns-in_err-goes_on-clause-within
returns-in_err-goes_on-clause-within g c tells = next_within _ _ _ _ _ _ c.read_start.ensures.quiet.still.files (c.read_start.ensures.reads tells) (c.read_level.ensures.within tells)

pub returns-clause-within : goal.returns-clause-within
returns-clause-within g c tells = next_within _ _ _ _ _ _ c.read_start.ensures.quiet.still.files (c.read_start.ensures.reads tells) (c.read_level.ensures.within tells)
