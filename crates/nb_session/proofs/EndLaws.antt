-- The turns of a script come to an end.
use Rattle.std.proofs.Common.{Bool, ◌≡◌, ℕ, zero, suc, ◌+◌, ◌≤◌, List, ◌++◌, map, length, sym, ap, subst, ◌∙◌, arith, append_assoc}
use Rattle.nb_session.proofs.Common.{length-map, IsGoing, Begins, Now, play, rounds, all_sessions, begun, AreFinished, IsAskable, Plan}
use Rattle.nb_model.proofs.FinishLaws.{order_ends}

begun_length : (plan : Plan) → IsAskable plan → (now : Now) → now.todo ≡ begun plan.sessions → length now.todo ≤ 16
begun_length plan askable now todo = omega (arith, ap length todo, length-map plan.sessions (map Begins), askable.sixteen)

-- rounds after rounds
rounds_joined : (m n : ℕ) → rounds m ++ rounds n ≡ rounds (m + n)
unfolding rounds
rounds_joined zero n = let same : n ≡ 0 + n = omega arith in ap rounds same
rounds_joined (suc m) n =
    let same : suc (m + n) ≡ suc m + n = omega arith in
    append_assoc all_sessions (rounds m) (rounds n) ∙ ap (λ (xs : List ℕ). all_sessions ++ xs) (rounds_joined m n) ∙ ap rounds same

-- After so many rounds every session has finished: those of `front`, and more.
pub record HasEnd (schedule : List ℕ) (now : Now) (front : ℕ) : Type 0 where
  pub how_often : ℕ
  pub more : List ℕ
  pub is : schedule ++ rounds how_often ≡ (schedule ++ rounds front) ++ more
  pub finished : AreFinished (play (schedule ++ rounds how_often) now).1.todo

pub turns_end : {sound : Bool} (plan : Plan) → IsAskable plan → (now : Now) → IsGoing sound now → now.todo ≡ begun plan.sessions → (front : ℕ) → HasEnd plan.schedule now front
turns_end plan askable now going todo front =
    let end = order_ends (plan.schedule ++ rounds front) now (begun_length plan askable now todo) in
    let same : plan.schedule ++ rounds (front + end.0) ≡ (plan.schedule ++ rounds front) ++ rounds end.0 =
    ap (λ (xs : List ℕ). plan.schedule ++ xs) (sym (rounds_joined front end.0)) ∙ sym (append_assoc plan.schedule (rounds front) (rounds end.0)) in
    record {
      how_often = front + end.0;
      more = rounds end.0;
      is = same;
      finished = subst (λ (xs : List ℕ). AreFinished (play xs now).1.todo) (sym same) end.1;
    }
