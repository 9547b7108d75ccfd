use Rattle.nb_model.proofs.AfterLaws.{entry_join, kept_join}
use Rattle.nb_model.proofs.laws.accounts_join.Goals as goal

pub returns-clause-entry : goal.returns-clause-entry
returns-clause-entry c = entry_join

pub returns-clause-kept : goal.returns-clause-kept
returns-clause-kept c = kept_join
