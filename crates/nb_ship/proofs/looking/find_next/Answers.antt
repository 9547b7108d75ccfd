use Rattle.std.proofs.Common.{List, ℕ, ◌+◌, ◌≤◌, sym, ap, subst, ◌∙◌, arith}
use Rattle.nb_ship.specs.Reads.{ReadsOnce}
use Rattle.nb_ship.proofs.Common.{Files, is_free_name, is_foreign, read_in, HasHead}
use Rattle.nb_ship.proofs.ReadLaws.{any_ok, few_reads, level_there, more_reads, some_head}
use Rattle.nb_ship.proofs.looking.find_next.Goals as goal

pub returns-in-Some-clause-answer : goal.returns-in-Some-clause-answer
returns-in-Some-clause-answer g c tells =
    let files : Files = (g.H.Host.world c.args.host.now).files in
    let name : List ℕ = c.args.ship.now in
    let free = c.in_ok-is_free.ensures in
    let own = c.in_ok-is_foreign.ensures in
    let head = some_head _ c.in_ok-head.field-0 c.in-Some.head c.in-Some.is (c.in_ok-head.ensures.answer tells) in
    level_there c.args.guid.now name (is_free_name files name) (is_foreign files name) (read_in files name) c.in-Some.head c.find_level.result (sym (free.answer tells) ∙ c.if-branch.false)
    (ap (λ (f : Files). is_foreign f name) (sym free.quiet.still.files) ∙ sym (own.answer tells) ∙ c.if-branch-2.false)
    (subst (λ (f : Files). HasHead (read_in f name) c.in-Some.head) (own.quiet.still.files ∙ free.quiet.still.files) head) c.find_level.ensures.answer

pub returns-then-branch-clause-reads : goal.returns-then-branch-clause-reads
returns-then-branch-clause-reads g c tells =
    let free = c.in_ok-is_free.ensures.reads tells in few_reads (read_in (g.H.Host.world c.args.host.now).files c.args.ship.now) 4 _ _ (omega (arith, free))

pub returns-in-Some-clause-reads : goal.returns-in-Some-clause-reads
returns-in-Some-clause-reads g c tells =
    let name : List ℕ = c.args.ship.now in
    let free = c.in_ok-is_free.ensures in
    let own = c.in_ok-is_foreign.ensures in
    let start : ℕ = (g.H.Host.world c.args.host.now).reads in
    let before : ℕ = (g.H.Host.world c.is_foreign.new.host).reads in
    let after : ℕ = (g.H.Host.world c.read_increment.new.host).reads in
    let few : before + 2 ≤ start + 4 = (let one = free.reads tells in let two = own.reads tells in omega (arith, one, two)) in
    any_ok _ c.find_level.result (more_reads (read_in (g.H.Host.world c.args.host.now).files name) 2 4 start before after few
    (subst (λ (f : Files). ReadsOnce (read_in f name) 2 before after) (own.quiet.still.files ∙ free.quiet.still.files) (c.in_ok-head.ensures.reads tells)))

pub returns-in-None-clause-reads : goal.returns-in-None-clause-reads
returns-in-None-clause-reads g c tells =
    let name : List ℕ = c.args.ship.now in
    let free = c.in_ok-is_free.ensures in
    let own = c.in_ok-is_foreign.ensures in
    let start : ℕ = (g.H.Host.world c.args.host.now).reads in
    let before : ℕ = (g.H.Host.world c.is_foreign.new.host).reads in
    let after : ℕ = (g.H.Host.world c.read_increment.new.host).reads in
    let few : before + 2 ≤ start + 4 = (let one = free.reads tells in let two = own.reads tells in omega (arith, one, two)) in
    more_reads (read_in (g.H.Host.world c.args.host.now).files name) 2 4 start before after few
    (subst (λ (f : Files). ReadsOnce (read_in f name) 2 before after) (own.quiet.still.files ∙ free.quiet.still.files) (c.in_ok-head.ensures.reads tells))
