use Rattle.std.proofs.Common.{◌++◌}
use Rattle.nb_model.specs.Run.{rounds}
use Rattle.nb_sched.proofs.WithinLaws.{said_within}
use Rattle.nb_leaf_tests.proofs.sched_tests.speak.Goals as goal

pub returns : goal.returns
returns c =
    let turns = c.take_turns.ensures.turns in
    let order = c.args.schedule.now ++ rounds turns.0 in
    record {
      order = (turns.0, said_within _ (λ said. said.items) (λ a h c a' h' c' made. made.2.0) (λ a h c fault a' h' c' made. made.3.0) order _ _ c.take_turns.result c.requires.silent turns.1);
    }
