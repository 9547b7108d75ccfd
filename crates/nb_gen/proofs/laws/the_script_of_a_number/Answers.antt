use Rattle.nb_gen.proofs.GeneratedScript.{generated_text, creates_its_own}
use Rattle.nb_gen.proofs.laws.the_script_of_a_number.Goals as goal

pub returns-clause-text : goal.returns-clause-text
returns-clause-text c n = generated_text n

pub returns-clause-first : goal.returns-clause-first
returns-clause-first c n plan is = creates_its_own n plan is
