use Rattle.std.proofs.Common.{List, ℕ, sym, subst, ◌∙◌, arith}
use Rattle.nb_ship.proofs.Common.{Files, guid_of, is_free_name, is_foreign, read_in, by_pending, by_ship, Says}
use Rattle.nb_ship.proofs.FoundLaws.{found_next, found_pending, found_writable, header_guid}
use Rattle.nb_ship.proofs.ReadLaws.{more_reads, ok_more}
use Rattle.nb_ship.proofs.looking.find.Goals as goal

pub returns-then-standby-clause-answer : goal.returns-then-standby-clause-answer
returns-then-standby-clause-answer g c tells name bytes is same =
    let files : Files = (g.H.Host.world c.args.host.now).files in
    found_pending files name bytes c.find_pending.result (sym is.begun ∙ c.if-standby.true)
    (subst (λ (ship : List ℕ). Says (by_pending bytes (read_in files ship)) c.find_pending.result) same (c.find_pending.ensures.answer tells bytes is.header))

pub returns-then-standby-2-clause-answer : goal.returns-then-standby-2-clause-answer
returns-then-standby-2-clause-answer g c tells name bytes is same =
    let files : Files = (g.H.Host.world c.args.host.now).files in
    let result = c.find_next.result in
    found_next files name bytes result (sym is.begun ∙ c.if-standby.false) (sym is.read_only ∙ c.if-standby-2.true)
    (subst (λ (ship : List ℕ). Says (by_ship (guid_of bytes) ship (is_free_name files ship) (is_foreign files ship) (read_in files ship)) result) same
    (subst (λ (guid : List ℕ). Says (by_ship guid c.args.ship.now (is_free_name files c.args.ship.now) (is_foreign files c.args.ship.now) (read_in files c.args.ship.now)) result) (header_guid bytes c.args.standby.now is) (c.find_next.ensures.answer tells)))

pub returns-else-standby-2-clause-answer : goal.returns-else-standby-2-clause-answer
returns-else-standby-2-clause-answer g c tells name bytes is same =
    found_writable (g.H.Host.world c.args.host.now).files name bytes (sym is.begun ∙ c.if-standby.false) (sym is.read_only ∙ c.if-standby-2.false)

pub returns-then-standby-clause-reads : goal.returns-then-standby-clause-reads
returns-then-standby-clause-reads g c tells = ok_more _ _ c.find_pending.result (more_reads (read_in (g.H.Host.world c.args.host.now).files c.args.ship.now) 2 4 _ _ _ (omega arith)) (c.find_pending.ensures.reads tells)
