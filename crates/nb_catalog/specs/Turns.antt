-- The turn of a plan of backup files, and the list that names them.
use Rattle.std.specs.Prelude.{ℕ, List, [], Some, None, Result, Ok, Err}
use Rattle.nb_host.specs.Files.{File, Files}
use Rattle.nb_host.specs.declared.refusals.Refusal.{Refusal}
use Rattle.nb_host.specs.declared.refusals.Refusal.TheVariants.{NoFile}
use Rattle.nb_model.specs.declared.reply.Reply.{Reply}
use Rattle.nb_model.specs.declared.reply.Reply.TheVariants.{Planned}
use Rattle.nb_model.specs.Jobs.{only_turn, only_refusal}
use Rattle.nb_model.specs.Run.{Event}
use Rattle.nb_catalog.specs.Heads.{read_files}
use Rattle.nb_catalog.specs.Plans.{Retention, plan_of}
use Rattle.nb_catalog.specs.Chained.{names_at}
use Rattle.nb_catalog.specs.NameLists.{list_of}

-- the plan of these files, or the first refusal
unfoldable pub planned : Files → (names : List (List ℕ)) → (keep : ℕ) → Result Retention Refusal
planned files names keep = elim (read_files files names) [ Err refusal ↦ Err refusal | Ok heads ↦ Ok (plan_of heads keep) ]

-- the names in a list file, or why it has none
abbrev pub names_in : (list : List ℕ) → File → Result (List (List ℕ)) Refusal
names_in list None = Err (NoFile list)
names_in list (Some bytes) = list_of bytes

-- what a plan of these files says: how many are needed, and the names of those that are dropped and of the orphans
abbrev pub plan_reply : (names : List (List ℕ)) → Retention → Reply
plan_reply names plan = Planned plan.kept (names_at names plan.dropped) (names_at names plan.orphans)

-- the turn of the job: each file has to be there and whole, and nothing is changed
unfoldable pub plan_turn : Files → (names : List (List ℕ)) → (keep : ℕ) → Event
plan_turn files names keep = elim (planned files names keep) [ Err refusal ↦ only_refusal refusal | Ok plan ↦ only_turn (plan_reply names plan) [] ]
