use Rattle.std.proofs.Common.{sym}
use Rattle.nb_ship.proofs.Common.{is_header-short}
use Rattle.nb_ship.proofs.looking.is_database.Goals as goal

pub returns-then-first-lt-LENGTH : goal.returns-then-first-lt-LENGTH
returns-then-first-lt-LENGTH c = sym (is_header-short c.args.first.now c.if-first-lt-LENGTH.true)
