-- A refused statement changes nothing and leaves nothing to do.
use Rattle.std.proofs.Common.{◌≡◌, ℕ, zero, suc, List, [], refl, sym, ap, subst, ◌∙◌, Bool, true, false, ◌==◌, Option, Some, None}
use Rattle.nb_model.proofs.Common.{true≢false, normal_state, Refusal, Reply, Refused, Statement, CreateDb, OpenDb, PageNew, Write, Free, BeginBackup, EndBackup, Activate, Backup, BackupSince, CopyTo, CreateTable, DropTable, Insert, Update, Delete, Get, Scan, Forced, Access, Reclaim, ShowCache, Ask, Draft, Cause, runs_other, Chain, Slot, Spot, DoesNothing, Seen, Outcome, says, image_state, unless, changes, new_turn, write_turn, free_turn, begin_turn, end_turn, activate_turn, activated, ends_by, forced_turn, access_turn, cache_turn, with_spot, in_table, in_row, create_turn, drop_turn, insert_turn, update_turn, delete_turn, get_turn, scan_turn, reclaim_turn, starts, backup_turn, since_turn, copy_turn, first_turn}
use Rattle.nb_model.proofs.StatusLaws.{is_refusal}
use Rattle.nb_model.proofs.ToldTurns.{Tells, told_turn}

-- where it is refused it does nothing
pub record IsQuiet (s : Seen) (o : Outcome) : Type 0 where
  pub quiet : (r : Refusal) → o.reply ≡ Some (Refused r) → DoesNothing s o

refuses : (s : Seen) (r : Refusal) → IsQuiet s (says s (Refused r) [])
refuses s r = record { quiet = λ q e. record { strokes = refl; next = refl; made = refl; running = refl; given = refl } }

abbrev is_refused : Option Reply → Bool
is_refused None = false
is_refused (Some reply) = is_refusal reply

refused_is : (r : Option Reply) (q : Refusal) → r ≡ Some (Refused q) → is_refused r ≡ true
refused_is r q e = ap is_refused e

-- it says something else, or nothing
answers : (s : Seen) (o : Outcome) → is_refused o.reply ≡ false → IsQuiet s o
answers s o e = record { quiet = λ r is. absurd (true≢false (sym (refused_is o.reply r is) ∙ e)) }

guarded : (s : Seen) (c : Cause) (o : Outcome) → IsQuiet s o → IsQuiet s (unless s c o)
unfolding unless
guarded s None o h = h
guarded s (Some r) o h = refuses s r

changed : (s : Seen) (cs : List Cause) (d : Draft) (reply : Reply) → is_refusal reply ≡ false → IsQuiet s (changes s cs d reply)
unfolding changes
changed s cs d reply h = guarded s _ _ (answers s _ h)

spotted : (s : Seen) (spot : Option Spot) (r : Refusal) (go : Spot → Outcome) → ((x : Spot) → IsQuiet s (go x)) → IsQuiet s (with_spot s spot r go)
unfolding with_spot
spotted s None r go h = refuses s r
spotted s (Some x) r go h = h x

tabled : (s : Seen) (before : Cause) (table : List ℕ) (behind : Cause) (go : Spot → Chain → Outcome) → ((spot : Spot) (chain : Chain) → IsQuiet s (go spot chain)) → IsQuiet s (in_table s before table behind go)
unfolding in_table
tabled s before table behind go h = guarded s _ _ (spotted s _ _ _ (λ spot. guarded s _ _ (h spot _)))

in_row_quiet : (s : Seen) (chain : Chain) (key : ℕ) (bytes : Slot) → IsQuiet s (in_row s chain key bytes)
unfolding in_row
in_row_quiet s chain key bytes = spotted s _ _ _ (λ row. changed s _ _ _ refl)

started : (s : Seen) (session : ℕ) (name : List ℕ) (ask : Ask) (missing : Cause) → IsQuiet s (starts s session name ask missing)
unfolding starts
started s session name ask missing = guarded s _ _ (answers s _ refl)

backed : (s : Seen) (session level : ℕ) (name : List ℕ) → IsQuiet s (backup_turn s session level name)
unfolding backup_turn
backed s session zero name = started s session name _ _
backed s session (suc below) name = started s session name _ _

told_quiet : (s : Seen) (o : Outcome) → Tells s o → IsQuiet s o
told_quiet s o tells = subst (IsQuiet s) (sym tells.is) (guarded s _ _ (answers s _ tells.told))

activate_quiet : (s : Seen) (session : ℕ) → IsQuiet s (activate_turn s session)
unfolding activate_turn activated ends_by
activate_quiet s session = by (image_state s.base.image == normal_state)
  where
    by : (normal : Bool) → IsQuiet s (elim normal as (λ z. Outcome) [ true ↦ says s (activated s.base) [] | false ↦ unless s (runs_other s.running session) (ends_by s session (activated s.base)) ])
    by true = answers s _ refl
    by false = guarded s _ _ (answers s _ refl)

-- the first turn of each statement
pub first_quiet : (s : Seen) (session : ℕ) (statement : Statement) → IsQuiet s (first_turn s session statement)
unfolding first_turn new_turn write_turn free_turn begin_turn end_turn ends_by forced_turn access_turn cache_turn create_turn drop_turn insert_turn update_turn delete_turn get_turn scan_turn reclaim_turn since_turn copy_turn
first_quiet s session (CreateDb name size raw cache) = answers s _ refl
first_quiet s session (OpenDb name cache) = answers s _ refl
first_quiet s session PageNew = changed s _ _ _ refl
first_quiet s session (Write p text) = changed s _ _ _ refl
first_quiet s session (Free p) = changed s _ _ _ refl
first_quiet s session BeginBackup = guarded s _ _ (answers s _ refl)
first_quiet s session EndBackup = guarded s _ _ (answers s _ refl)
first_quiet s session Activate = activate_quiet s session
first_quiet s session (Backup level name) = backed s session level name
first_quiet s session (BackupSince guid name) = started s session name _ _
first_quiet s session (CopyTo name) = guarded s _ _ (answers s _ refl)
first_quiet s session (CreateTable table) = changed s _ _ _ refl
first_quiet s session (DropTable table) = tabled s _ table _ _ (λ spot chain. changed s _ _ _ refl)
first_quiet s session (Insert table key text) = tabled s _ table _ _ (λ spot chain. changed s _ _ _ refl)
first_quiet s session (Update table key text) = tabled s _ table _ _ (λ spot chain. in_row_quiet s chain key _)
first_quiet s session (Delete table key) = tabled s _ table _ _ (λ spot chain. in_row_quiet s chain key _)
first_quiet s session (Get table key) = tabled s _ table _ _ (λ spot chain. spotted s _ _ _ (λ row. answers s _ refl))
first_quiet s session (Scan table) = tabled s _ table _ _ (λ spot chain. answers s _ refl)
first_quiet s session (Forced on) = guarded s _ _ (answers s _ refl)
first_quiet s session (Access closed) = guarded s _ _ (answers s _ refl)
first_quiet s session Reclaim = guarded s _ _ (answers s _ refl)
first_quiet s session ShowCache = answers s _ refl
first_quiet s session other = told_quiet s _ (told_turn other refl s session)
