-- The turns after a first statement come to an end, whatever stands then.
use Rattle.std.proofs.Common.{◌≡◌, ℕ, ◌≤◌, map, length, ap, arith}
use Rattle.nb_top.proofs.Common.{length-map, Begins, Now, begun, AreFinished, IsAskable, Plan}
use Rattle.nb_model.proofs.FinishLaws.{order_ends}
use Rattle.nb_top.proofs.FirstLaws.{turns}

module _ (plan : Plan) (askable : IsAskable plan) (now : Now) (todo : now.todo ≡ begun plan.sessions) where
  few : length now.todo ≤ 16
  few = omega (arith, ap length todo, length-map plan.sessions (map Begins), askable.sixteen)

  pub first_ends : (n : ℕ) × AreFinished (turns plan now n).1.todo
  first_ends = order_ends plan.schedule now few
