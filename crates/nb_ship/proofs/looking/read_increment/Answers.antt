use Rattle.std.proofs.Common.{ℕ, subst}
use Rattle.nb_ship.proofs.Common.{Fault, WholeSays}
use Rattle.std.proofs.Common.{Err}
use Rattle.nb_ship.proofs.ReadLaws.{no_level, none_reads, whole_reads}
use Rattle.nb_ship.proofs.looking.read_increment.Goals as goal

pub returns-in-Err-Refused-clause-answer : goal.returns-in-Err-Refused-clause-answer
returns-in-Err-Refused-clause-answer g c tells =
    let refused = c.in-Err-Refused in
    let file = (g.H.Host.world c.args.host.now).files c.args.ship.now in
    let before : ℕ = (g.H.Host.world c.args.host.now).reads in
    let after : ℕ = (g.H.Host.world c.whole.new.host).reads in
    no_level file c.args.ship.now refused.field-0-0 (subst (λ (f : Fault). WholeSays file c.args.ship.now before after (Err f)) refused.field-0-is (refused.ensures.answer tells))

pub returns-in-Err-Refused-clause-reads : goal.returns-in-Err-Refused-clause-reads
returns-in-Err-Refused-clause-reads g c tells =
    let none = returns-in-Err-Refused-clause-answer g c tells in none_reads _ none.0 2 _ _ none.1

pub returns-in-Ok-clause-reads : goal.returns-in-Ok-clause-reads
returns-in-Ok-clause-reads g c tells = whole_reads ((g.H.Host.world c.args.host.now).files c.args.ship.now) _ _ c.in-Ok.head (c.in-Ok.ensures.answer tells)
