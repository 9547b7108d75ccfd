-- A plan by what the files are read as.
use Rattle.std.proofs.Common.{◌≡◌, ℕ, List, refl, sym, ap, ◌∙◌, Result, Ok, Err}
use Rattle.nb_catalog.proofs.Common.{Files, Fault, Refused, Device, Memory, Refusal, LevelHead, Says, read_files, Retention, plan_of, IsSafe, KeepsChains, KeepsFiles, AreDistinct, planned, err_ok, ok_equal}
use Rattle.nb_catalog.proofs.ChainLaws.{points_chained}
use Rattle.nb_catalog.proofs.KeptFiles.{keeps_files}
use Rattle.nb_catalog.proofs.KeptLaws.{is_safe}

module _ (files : Files) (names : List (List ℕ)) (keep : ℕ) where
  by_heads : (r : Result (List LevelHead) Refusal) → read_files files names ≡ r → planned files names keep ≡ elim r [ Err refusal ↦ Err refusal | Ok heads ↦ Ok (plan_of heads keep) ]
  unfolding planned
  by_heads r is = ap (λ (x : Result (List LevelHead) Refusal). elim x as (λ y. Result Retention Refusal) [ Err refusal ↦ Err refusal | Ok heads ↦ Ok (plan_of heads keep) ]) is

  pub planned_is : (heads : List LevelHead) (plan : Retention) → read_files files names ≡ Ok heads → plan ≡ plan_of heads keep → planned files names keep ≡ Ok plan
  planned_is heads plan read is = by_heads (Ok heads) read ∙ ap (λ (p : Retention). Ok p) (sym is)

  pub planned_fault : (fault : Fault) → Says {T = List LevelHead} (read_files files names) (Err fault) → Says {T = Retention} (planned files names keep) (Err fault)
  planned_fault (Refused r) is = by_heads (Err r) is
  planned_fault Device is = tt
  planned_fault Memory is = tt

  -- what a plan keeps
  pub keeps_chains : (plan : Retention) → planned files names keep ≡ Ok plan → KeepsChains files names keep plan
  keeps_chains plan is = by (read_files files names) refl
    where
      by : (r : Result (List LevelHead) Refusal) → read_files files names ≡ r → KeepsChains files names keep plan
      by (Err refusal) read = absurd (err_ok refusal plan (sym (by_heads (Err refusal) read) ∙ is))
      by (Ok heads) read =
          let safe : IsSafe heads keep plan = is_safe heads keep plan (ok_equal {T = Retention} {E = Refusal} plan (plan_of heads keep) (sym is ∙ by_heads (Ok heads) read)) in
          record { heads = heads; read = read; chained = λ e kept. points_chained files names heads read e (safe.points e kept); safe = safe; by_name = keeps_files files names heads keep plan read (ok_equal {T = Retention} {E = Refusal} plan (plan_of heads keep) (sym is ∙ by_heads (Ok heads) read)) }

  -- so no file of a kept line by its name, where no name stands twice
  pub keeps_listed : (heads : List LevelHead) (plan : Retention) → planned files names keep ≡ Ok plan → read_files files names ≡ Ok heads → AreDistinct names → KeepsFiles names heads keep plan
  keeps_listed heads plan is read = keeps_files files names heads keep plan read (ok_equal {T = Retention} {E = Refusal} plan (plan_of heads keep) (sym is ∙ by_heads (Ok heads) read))
