use Rattle.nb_check.proofs.AmongLaws.{leaked_each}
use Rattle.nb_check.proofs.BackLaws.{reclaims}
use Rattle.nb_check.proofs.NeatBack.{reclaim_rows}
use Rattle.nb_check.proofs.laws.leaked_pages_are_given_back.Goals as goal

pub returns-clause-each : goal.returns-clause-each
returns-clause-each c image p low = leaked_each image p low

pub returns-clause-given : goal.returns-clause-given
returns-clause-given c b header sound checked = reclaims b header sound checked

pub returns-clause-rows : goal.returns-clause-rows
returns-clause-rows c b header sound neat = reclaim_rows b header sound neat
