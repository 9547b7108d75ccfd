-- No statement is refused as words that name no job.
use Rattle.std.proofs.Common.{◌≡◌, ◌≢◌, ℕ, zero, suc, List, [], ◌∷◌, ◌++◌, refl, sym, ap, subst, ◌∙◌, Bool, Option, Some, None, false, true, ◌==◌}
use Rattle.nb_model.proofs.Common.{AllByRecursion, says, true≢false, Refusal, Usage, normal_state, Reply, Done, Refused, Statement, CreateDb, OpenDb, PageNew, Write, Free, BeginBackup, EndBackup, Activate, Backup, BackupSince, CopyTo, CreateTable, DropTable, Insert, Update, Delete, Get, Scan, Forced, Reclaim, ShowCache, Ask, Draft, Cause, runs_other, not_of_form, no_room, Chain, image_state, History, Slot, Spot, pages_of, Seen, Outcome, unless, changes, new_turn, write_turn, free_turn, begin_turn, end_turn, activate_turn, activated, ends_by, forced_turn, access_turn, cache_turn, with_spot, in_table, in_row, create_turn, drop_turn, insert_turn, update_turn, delete_turn, get_turn, scan_turn, room_in, starts, backup_turn, since_turn, copy_turn, reclaim_turn, first_turn}
use Rattle.nb_model.specs.declared.statement.Statement.TheVariants.{Access as SetAccess}
use Rattle.nb_model.proofs.StatusLaws.{is_refusal}
use Rattle.nb_model.proofs.ToldTurns.{Tells, told_turn}
use Rattle.nb_model.proofs.UsageCauses.{IsOther, none_other, other_first, other_when, other_broken, other_raw, other_read_only, other_runs, other_short, other_short_for, other_pages, other_runs_any, other_check}

-- the reply to it isn't that refusal
abbrev NoUsage : Outcome → Type 0
NoUsage o = o.reply ≢ Some (Refused Usage)

refused_other : (r : Refusal) → IsOther (Some r) → Some (Refused r) ≢ Some (Refused Usage)
refused_other r other e = other (ap Some (same e))
  where
    same : Some (Refused r) ≡ Some (Refused Usage) → r ≡ Usage
    same k = cc

guarded_other : (s : Seen) (c : Cause) (o : Outcome) → IsOther c → NoUsage o → NoUsage (unless s c o)
unfolding unless
guarded_other s None o c h = h
guarded_other s (Some r) o c h = refused_other r c

changed_other : (s : Seen) (cs : List Cause) (d : Draft) (reply : Reply) → AllByRecursion IsOther cs → Some reply ≢ Some (Refused Usage) → NoUsage (changes s cs d reply)
unfolding changes
changed_other s cs d reply h other = guarded_other s _ _ (other_first _ (behind cs h)) other
  where
    behind : (xs : List Cause) → AllByRecursion IsOther xs → AllByRecursion IsOther (xs ++ not_of_form d ∷ no_room d ∷ [])
    behind [] k = (other_broken d.broken, (other_when _ _ (λ e. cc), tt))
    behind (x ∷ xs) k = (k.0, behind xs k.1)

start_never_usage : (s : Seen) (session : ℕ) (name : List ℕ) (ask : Ask) (missing : Cause) → IsOther missing → NoUsage (starts s session name ask missing)
unfolding starts
start_never_usage s session name ask missing other = guarded_other s _ _ (other_first _ (
  other_read_only s.base.image,
  (other_when _ _ (λ e. cc), (other_when _ _ (λ e. cc), (other_pages (pages_of History s.base.image), (other, (other_short_for _ s.base.image, (other_broken (room_in s.base.image).draft.broken, (other_when _ _ (λ e. cc), (other_when _ _ (λ e. cc), tt)))))))),
)) (λ e. cc)

spot_other : (s : Seen) (o : Option Spot) (r : Refusal) (go : Spot → Outcome) → IsOther (Some r) → ((spot : Spot) → NoUsage (go spot)) → NoUsage (with_spot s o r go)
unfolding with_spot
spot_other s None r go c h = refused_other r c
spot_other s (Some spot) r go c h = h spot

table_other : (s : Seen) (before : Cause) (table : List ℕ) (behind : Cause) (go : Spot → Chain → Outcome) → IsOther before → IsOther behind → ((spot : Spot) (chain : Chain) → NoUsage (go spot chain)) → NoUsage (in_table s before table behind go)
unfolding in_table
table_other s before table behind go a b h =
    guarded_other s _ _ (other_first _ (a, (other_pages _, tt))) (spot_other s _ _ _ (λ e. cc) (λ spot. guarded_other s _ _ (other_first _ (b, (other_pages _, tt))) (h spot _)))

row_other : (s : Seen) (chain : Chain) (key : ℕ) (bytes : Slot) → NoUsage (in_row s chain key bytes)
unfolding in_row
row_other s chain key bytes = spot_other s _ _ _ (λ e. cc) (λ row. changed_other s _ _ Done tt (λ e. cc))

-- one that only tells something
told_other : (s : Seen) (o : Outcome) → Tells s o → NoUsage o
told_other s o tells = subst NoUsage (sym tells.is) (guarded_other s _ _ tells.other (answered tells.reply tells.told))
  where
    answered : (reply : Reply) → is_refusal reply ≡ false → Some reply ≢ Some (Refused Usage)
    answered reply told e = true≢false (ap refused (sym e) ∙ told)
      where
        refused : Option Reply → Bool
        refused None = false
        refused (Some r) = is_refusal r

activate_other : (s : Seen) (session : ℕ) → NoUsage (activate_turn s session)
unfolding activate_turn activated ends_by
activate_other s session = by (image_state s.base.image == normal_state)
  where
    by : (normal : Bool) → NoUsage (elim normal as (λ z. Outcome) [ true ↦ says s (activated s.base) [] | false ↦ unless s (runs_other s.running session) (ends_by s session (activated s.base)) ])
    by true = λ e. cc
    by false = guarded_other s _ _ (other_runs s.running session) (λ e. cc)

-- Nor is any other.
pub never_usage : (statement : Statement) → (s : Seen) (session : ℕ) → NoUsage (first_turn s session statement)
unfolding first_turn new_turn write_turn free_turn begin_turn end_turn ends_by forced_turn access_turn cache_turn backup_turn since_turn copy_turn create_turn drop_turn insert_turn update_turn delete_turn get_turn scan_turn reclaim_turn
never_usage (CreateDb name size raw cache) s session = λ e. cc
never_usage (OpenDb name cache) s session = λ e. cc
never_usage PageNew s session = changed_other s _ _ _ (other_read_only s.base.image, (other_short s.base.image, tt)) (λ e. cc)
never_usage (Free p) s session = changed_other s _ _ _ (other_raw s.base.image p, (other_read_only s.base.image, tt)) (λ e. cc)
never_usage (Write p text) s session = changed_other s _ _ _ (other_raw s.base.image p, (other_read_only s.base.image, (other_when _ _ (λ e. cc), tt))) (λ e. cc)
never_usage BeginBackup s session = guarded_other s _ _ (other_first _ (other_read_only s.base.image, (other_when _ _ (λ e. cc), (other_when _ _ (λ e. cc), tt)))) (λ e. cc)
never_usage EndBackup s session = guarded_other s _ _ (other_first _ (other_when _ _ (λ e. cc), (other_runs s.running session, tt))) (λ e. cc)
never_usage Activate s session = activate_other s session
never_usage (Backup zero name) s session = start_never_usage s session name _ None none_other
never_usage (Backup (suc below) name) s session = start_never_usage s session name _ _ (other_when _ _ (λ e. cc))
never_usage (BackupSince guid name) s session = start_never_usage s session name _ _ (other_when _ _ (λ e. cc))
never_usage (CopyTo name) s session = guarded_other s _ _ (other_first _ (other_when _ _ (λ e. cc), (other_runs_any s.running, (other_when _ _ (λ e. cc), tt)))) (λ e. cc)
never_usage (Forced on) s session = guarded_other s _ _ (other_read_only s.base.image) (λ e. cc)
never_usage (SetAccess closed) s session = guarded_other s _ _ (other_when _ _ (λ e. cc)) (λ e. cc)
never_usage Reclaim s session = guarded_other s _ _ (other_first _ (other_read_only s.base.image, (other_check s.base.image, tt))) (λ e. cc)
never_usage (CreateTable table) s session = changed_other s _ _ _ (other_read_only s.base.image, (other_pages _, (other_when _ _ (λ e. cc), (other_when _ _ (λ e. cc), (other_short s.base.image, tt))))) (λ e. cc)
never_usage (DropTable table) s session = table_other s _ table _ _ (other_read_only s.base.image) none_other (λ spot chain. changed_other s _ _ _ tt (λ e. cc))
never_usage (Insert table key text) s session =
    table_other s _ table _ _ (other_read_only s.base.image) (other_when _ _ (λ e. cc)) (λ spot chain. changed_other s _ _ _ (other_when _ _ (λ e. cc), (other_short_for _ s.base.image, tt)) (λ e. cc))
never_usage (Update table key text) s session = table_other s _ table _ _ (other_read_only s.base.image) (other_when _ _ (λ e. cc)) (λ spot chain. row_other s chain key _)
never_usage (Delete table key) s session = table_other s _ table _ _ (other_read_only s.base.image) none_other (λ spot chain. row_other s chain key _)
never_usage (Get table key) s session = table_other s _ table _ _ none_other none_other (λ spot chain. spot_other s _ _ _ (λ e. cc) (λ row e. cc))
never_usage (Scan table) s session = table_other s _ table _ _ none_other none_other (λ spot chain e. cc)
never_usage ShowCache s session = λ e. cc
never_usage other s session = told_other s _ (told_turn other refl s session)
