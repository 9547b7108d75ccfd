use Rattle.std.proofs.Common.{List, ℕ, ◌+◌, ◌≤◌, Err, Ok, sym, ap, subst, ◌∙◌, arith}
use Rattle.nb_ship.specs.Reads.{ReadsOnce}
use Rattle.nb_ship.proofs.Common.{Files, Found, Look, Says, found_in, look_at, not_standby, passed, standby_there}
use Rattle.nb_ship.proofs.FoundLaws.{header_guid, look_fails, look_finds, standby_fails}
use Rattle.nb_ship.proofs.Common.{read_in, ship_of}
use Rattle.nb_ship.proofs.ReadLaws.{more_reads}
use Rattle.nb_ship.proofs.looking.look.Goals as goal

pub returns-in_err-at-clause-answer : goal.returns-in_err-at-clause-answer
returns-in_err-at-clause-answer g c tells =
    let files : Files = (g.H.Host.world c.args.host.now).files in
    let name : List ℕ = c.args.standby.now in
    let fault = c.in_err-at.field-0.0 in
    passed Look (λ r. Says (look_at files name) r) c.from_residual.result fault c.from_residual.ensures (standby_fails files name fault (c.in_err-at.ensures.test tells))

pub returns-in_err-found-clause-answer : goal.returns-in_err-found-clause-answer
returns-in_err-found-clause-answer g c tells =
    let files : Files = (g.H.Host.world c.args.host.now).files in
    let name : List ℕ = c.args.standby.now in
    let at = c.in_ok-at.ensures in
    let fault = c.in_err-found.field-0.0 in
    let there = standby_there files name (at.test tells) in
    let stands = ap (not_standby name) (sym there.1) ∙ at.test tells in
    let says = c.in_err-found.ensures.answer tells name there.0 (at.value tells there.0 there.1) c.ship_name.ensures in
    passed Look (λ r. Says (look_at files name) r) c.from_residual-in_err-found.result fault c.from_residual-in_err-found.ensures
    (look_fails files name there.0 there.1 stands fault (subst (λ (f : Files). Says {T = Found} (found_in f name there.0) (Err fault)) at.quiet.still.files says))

pub returns-clause-answer : goal.returns-clause-answer
returns-clause-answer g c tells =
    let files : Files = (g.H.Host.world c.args.host.now).files in
    let name : List ℕ = c.args.standby.now in
    let at = c.in_ok-at.ensures in
    let found = c.in_ok-found.found in
    let there = standby_there files name (at.test tells) in
    let stands = ap (not_standby name) (sym there.1) ∙ at.test tells in
    let its = at.value tells there.0 there.1 in
    let says = c.in_ok-found.ensures.answer tells name there.0 its c.ship_name.ensures in
    look_finds files name there.0 there.1 stands found (ap (λ (f : Files). found_in f name there.0) (sym at.quiet.still.files) ∙ says)
    ∙ ap (λ (guid : List ℕ). Ok (record { guid = guid; found = found })) (sym (header_guid there.0 c.in_ok-at.at its))

pub returns-clause-reads : goal.returns-clause-reads
returns-clause-reads g c tells =
    let files : Files = (g.H.Host.world c.args.host.now).files in
    let name : List ℕ = c.args.standby.now in
    let at = c.in_ok-at.ensures in
    let start : ℕ = (g.H.Host.world c.args.host.now).reads in
    let before : ℕ = (g.H.Host.world c.read_standby.new.host).reads in
    let after : ℕ = (g.H.Host.world c.find.new.host).reads in
    let few : before + 4 ≤ start + 5 = (let one = at.reads tells in omega (arith, one)) in
    more_reads (read_in files (ship_of name)) 4 5 start before after few
    (subst (λ (f : Files). ReadsOnce (read_in f (ship_of name)) 4 before after) at.quiet.still.files
    (subst (λ (ship : List ℕ). ReadsOnce (read_in (g.H.Host.world c.read_standby.new.host).files ship) 4 before after) c.ship_name.ensures (c.in_ok-found.ensures.reads tells)))
