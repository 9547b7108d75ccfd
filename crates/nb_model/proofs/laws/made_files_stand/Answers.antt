use Rattle.nb_model.proofs.MadeLaws.{stands_whole, stands_making, unfinished}
use Rattle.nb_model.proofs.laws.made_files_stand.Goals as goal

pub returns-clause-whole : goal.returns-clause-whole
returns-clause-whole c = λ old new account name bytes stands plain others alone there is. stands_whole old new account name stands plain others alone bytes there is

pub returns-clause-unfinished : goal.returns-clause-unfinished
returns-clause-unfinished c = λ old new account name stands plain others alone none. stands_making old new account name stands plain others alone (unfinished none)
