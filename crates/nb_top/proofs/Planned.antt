-- The job of a plan: its call serves it, and it leaves all as it stands.
use Rattle.std.proofs.Common.{true≢false, ◌≡◌, inl, ℕ, List, [], true, refl, sym, ap, subst, ◌∙◌, Some, Result, Ok, Err}
use Rattle.nb_top.proofs.Common.{Files, World, Fault, Refused, Device, Memory, Refusal, NoNames, rested, Quiet, Reply, Account, only_refusal, only_turn, status_after, Event, Says, Retention, plan_reply, plan_turn, planned, OneTurn, leaves_all, planning, ServedAs, Serves, none_some}
use Rattle.nb_top.proofs.ChainRefusals.{refused_plan}
use Rattle.nb_top.proofs.Turns.{served_as}
use Rattle.nb_top.proofs.TurnsStand.{IsSoundJob}

module _ (files : Files) (keep : ℕ) (names : List (List ℕ)) where
  abbrev Meant : Result Retention Refusal → Event
  Meant answer = elim answer [ Err refusal ↦ only_refusal refusal | Ok plan ↦ only_turn (plan_reply names plan) [] ]

  turn_by : (answer : Result Retention Refusal) → planned files names keep ≡ answer → plan_turn files names keep ≡ Meant answer
  unfolding plan_turn
  turn_by answer is = ap Meant is

  -- whatever it says, it changes nothing
  pub plan_idle : leaves_all (plan_turn files names keep) ≡ true
  plan_idle = by (planned files names keep) refl
    where
      by : (answer : Result Retention Refusal) → planned files names keep ≡ answer → leaves_all (plan_turn files names keep) ≡ true
      by (Ok plan) is = ap leaves_all (turn_by (Ok plan) is)
      by (Err refusal) is = ap leaves_all (turn_by (Err refusal) is)

-- what is answered of a plan, where its reply names the files
abbrev pub Answered : (names : List (List ℕ)) → (meant : Result Retention Refusal) → Result Reply Fault → Type 0
Answered names meant (Ok reply) = (plan : Retention) × (meant ≡ Ok plan) × (reply ≡ plan_reply names plan)
Answered names meant (Err (Refused refusal)) = meant ≡ Err refusal
Answered names meant (Err Device) = Unit {0}
Answered names meant (Err Memory) = Unit {0}

module _ (old mid : World) (keep : ℕ) (names : List (List ℕ)) (quiet : Quiet old mid) where
  abbrev job : OneTurn
  job = planning old.files keep names

  abbrev turn : Event
  turn = plan_turn old.files names keep

  answers : (result : Result Reply Fault) → Answered names (planned old.files names keep) result → ServedAs result old mid job turn
  answers (Ok reply) answered =
      served_as reply (only_turn (plan_reply names answered.0) []) mid job turn (turn_by old.files keep names (Ok answered.0) answered.1) refl (ap (λ (r : Reply). Some r) (sym answered.2)) (ap status_after answered.2)
      (λ some. absurd (true≢false (sym (plan_idle old.files keep names) ∙ some)))
  answers (Err (Refused refusal)) is = record { is = turn_by old.files keep names (Err refusal) is; other = refused_plan old.files names keep refusal is; quiet = quiet }
  answers (Err Device) answered = tt
  answers (Err Memory) answered = tt

  pub plan_serves : (result : Result Reply Fault) → Answered names (planned old.files names keep) result → Serves result old mid job turn
  plan_serves result answered = record {
    answer = answers result answered;
    left = rested old mid NoNames _ quiet.still quiet.said quiet.moments (λ files left. inl (inl tt));
    reads = inl (inl tt);
    gave = record { guids = quiet.guids; times = quiet.times };
    idle = λ is. quiet;
  }

  -- it fails as the reading of the files does
  pub failed_plan : (fault : Fault) → Says {T = Retention} (planned old.files names keep) (Err fault) → Serves (Err fault) old mid job turn
  failed_plan (Refused refusal) is = plan_serves (Err (Refused refusal)) is
  failed_plan Device is = plan_serves (Err Device) tt
  failed_plan Memory is = plan_serves (Err Memory) tt

  -- or for want of memory
  pub lacking_plan : (fault : Fault) → fault ≡ Memory → Serves (Err fault) old mid job turn
  lacking_plan fault is = subst (λ (f : Fault). Serves (Err f) old mid job turn) (sym is) (plan_serves (Err Memory) tt)

-- There is no file that it could change.
pub plan_sound : (old : World) (account : Account) (keep : ℕ) (names : List (List ℕ)) → IsSoundJob old account (planning old.files keep names)
plan_sound old account keep names = record {
  plain = λ name is. absurd (none_some name is);
  done = λ some. absurd (true≢false (sym (plan_idle old.files keep names) ∙ some));
}
