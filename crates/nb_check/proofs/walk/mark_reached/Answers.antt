use Rattle.std.proofs.Common.{ap, arith}
use Rattle.nb_check.proofs.Common.{broken_at, Catalogue, History, pages_of, chains_cause, chains, Held, tested_on, tested_by_name, on_ok_then, looks_then}
use Rattle.nb_check.proofs.ListLaws.{tables, first_broken, second_broken, second_within, rest_cause, reached_out, reached_few, reached_within}
use Rattle.nb_check.proofs.walk.mark_reached.Goals as goal

pub returns-in_err-mark_chain-clause-test : goal.returns-in_err-mark_chain-clause-test
returns-in_err-mark_chain-clause-test g c t tells is =
    let image = t.base.image in
    tested_on (Unit {0}) (Unit {0}) _ _ (broken_at (pages_of Catalogue image)) (chains_cause image (chains image)) c.from_residual.ensures (first_broken image) (c.in_err-mark_chain.ensures.test t tells is)

pub returns-in_err-mark_chain-2-clause-test : goal.returns-in_err-mark_chain-2-clause-test
returns-in_err-mark_chain-2-clause-test g c t tells is =
    let image = t.base.image in
    let first = c.in_ok-mark_chain.ensures in
    tested_on (Unit {0}) (Unit {0}) _ _ (broken_at (pages_of History image)) (chains_cause image (chains image)) c.from_residual-in_err-mark_chain-2.ensures
    (λ r e. second_broken image r (first.test t tells is) e) (c.in_err-mark_chain-2.ensures.test t tells (first.looks.opened t tells is))

pub mark_chain-requires-2 : goal.mark_chain-requires-2
mark_chain-requires-2 g c = omega (arith, c.in_ok-mark_chain.ensures.sized, c.requires.size, ap (λ (h : Held). h.files.page_size) c.in_ok-mark_chain.ensures.looks.same)

pub mark_tables-requires-clause-size : goal.mark_tables-requires-clause-size
mark_tables-requires-clause-size g c =
    omega (arith, c.in_ok-mark_chain.ensures.sized, c.in_ok-mark_chain-2.ensures.sized, c.requires.size, ap (λ (h : Held). h.files.page_size) c.in_ok-mark_chain.ensures.looks.same, ap (λ (h : Held). h.files.page_size) c.in_ok-mark_chain-2.ensures.looks.same)

pub mark_tables-requires-clause-listed : goal.mark_tables-requires-clause-listed
mark_tables-requires-clause-listed g c = omega (arith, c.in_ok-mark_chain.ensures.sized, c.in_ok-mark_chain-2.ensures.sized, c.requires.listed)

pub returns-clause-test : goal.returns-clause-test
returns-clause-test g c t tells is =
    let image = t.base.image in
    let first = c.in_ok-mark_chain.ensures in
    let second = c.in_ok-mark_chain-2.ensures in
    let one = first.looks.opened t tells is in
    tested_by_name c.mark_tables.result (chains_cause image (tables image)) (chains_cause image (chains image)) (rest_cause image (first.test t tells is) (second.test t tells one))
    (c.mark_tables.ensures.test t tells (second.looks.opened t tells one) (first.test t tells is))

pub returns-clause-reached : goal.returns-clause-reached
returns-clause-reached g c t tells is =
    let first = c.in_ok-mark_chain.ensures in
    let second = c.in_ok-mark_chain-2.ensures in
    let one = first.looks.opened t tells is in
    on_ok_then c.mark_tables.result (reached_out t.base.image c.args.marks.now c.mark_chain.new.marks c.mark_chain-2.new.marks c.mark_tables.new.marks (first.reached t tells is) (second.reached t tells one))
    (c.mark_tables.ensures.reached t tells (second.looks.opened t tells one) (first.test t tells is))

pub returns-clause-once : goal.returns-clause-once
returns-clause-once g c t tells is =
    let first = c.in_ok-mark_chain.ensures in
    let second = c.in_ok-mark_chain-2.ensures in
    let one = first.looks.opened t tells is in
    on_ok_then c.mark_tables.result
    (reached_few t.base.image (g.H.Host.world c.args.host.now).reads (g.H.Host.world c.mark_chain.new.host).reads (g.H.Host.world c.mark_chain-2.new.host).reads (g.H.Host.world c.mark_tables.new.host).reads (first.once t tells is) (second.once t tells one))
    (c.mark_tables.ensures.once t tells (second.looks.opened t tells one) (first.test t tells is))

pub returns-in_err-mark_chain-2-clause-looks : goal.returns-in_err-mark_chain-2-clause-looks
returns-in_err-mark_chain-2-clause-looks g c = looks_then c.in_ok-mark_chain.ensures.looks c.in_err-mark_chain-2.ensures.looks

pub returns-clause-looks : goal.returns-clause-looks
returns-clause-looks g c = looks_then (looks_then c.in_ok-mark_chain.ensures.looks c.in_ok-mark_chain-2.ensures.looks) c.mark_tables.ensures.looks

pub returns-in_err-mark_chain-clause-within : goal.returns-in_err-mark_chain-clause-within
returns-in_err-mark_chain-clause-within g c t tells is = let first = c.mark_chain.ensures.within tells in omega (arith, first)

pub returns-in_err-mark_chain-2-clause-within : goal.returns-in_err-mark_chain-2-clause-within
returns-in_err-mark_chain-2-clause-within g c t tells is =
    let first = c.in_ok-mark_chain.ensures in
    let few = second_within t.base.image _ _ _ c.mark_chain.new.engine.files.count (first.once t tells is) (c.mark_chain-2.ensures.within tells) in
    omega (arith, few, ap (λ (h : Held). h.files.count) first.looks.same)

pub returns-clause-within : goal.returns-clause-within
returns-clause-within g c t tells is =
    let first = c.in_ok-mark_chain.ensures in
    let second = c.in_ok-mark_chain-2.ensures in
    let one = first.looks.opened t tells is in
    let few =
    reached_within t.base.image _ _ _ _ c.mark_chain-2.new.engine.files.count (first.once t tells is) (second.once t tells one) (c.mark_tables.ensures.within t tells (second.looks.opened t tells one) (first.test t tells is)) in
    omega (arith, few, ap (λ (h : Held). h.files.count) first.looks.same, ap (λ (h : Held). h.files.count) second.looks.same)
