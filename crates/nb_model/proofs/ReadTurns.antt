-- Turns that only read the database: they make no stroke, and what is left to do after them only reads it too.
use Rattle.std.proofs.Common.{◌≡◌, ◌⊎◌, inl, inr, ℕ, zero, suc, ◌-◌, List, [], ◌∷◌, ◌++◌, get_or, length, replicate, refl, sym, ap, subst, ◌∙◌, false, Option, Some, None}
use Rattle.nb_model.proofs.Common.{AllByRecursion, true≢false, eqb_tells, all_append, Refusal, Refused, Reply, Statement, OpenDb, Read, CopyTo, Get, Scan, Check, ShowHeader, ShowPages, ShowImage, ShowCache, Cause, Chain, Spot, Turn, Begins, Copies, ClosesBackup, ClosesCopy, Ends, Merges, Finishes, Seen, Outcome, says, unless, cache_turn, with_spot, in_table, get_turn, scan_turn, copy_turn, close_copy, first_turn, turn, Played, Now, event_of, outcome, stands_then, one_turn, play, strokes_of}
use Rattle.nb_model.specs.Writes.{statement_writes, turn_writes}
use Rattle.nb_model.proofs.GoingLaws.{one_cases, own_todo, other_todo}
use Rattle.nb_model.proofs.OutputLaws.{strokes_one}
use Rattle.nb_model.proofs.RunLaws.{strokes_of-append}
use Rattle.nb_model.proofs.ToldTurns.{Tells, told_turn}

-- the turn only reads
abbrev Reads : Turn → Type 0
Reads t = turn_writes t ≡ false

-- What it does then.
record OnlyReads (o : Outcome) : Type 0 where
  pub strokes : o.strokes ≡ []
  pub next : AllByRecursion Reads o.next
  pub made : o.made ≡ None

only_says : (s : Seen) (reply : Reply) → OnlyReads (says s reply [])
only_says s reply = record { strokes = refl; next = tt; made = refl }

only_unless : (s : Seen) (c : Cause) (o : Outcome) → OnlyReads o → OnlyReads (unless s c o)
unfolding unless
only_unless s None o h = h
only_unless s (Some r) o h = only_says s (Refused r)

only_spot : (s : Seen) (spot : Option Spot) (r : Refusal) (go : Spot → Outcome) → ((x : Spot) → OnlyReads (go x)) → OnlyReads (with_spot s spot r go)
unfolding with_spot
only_spot s None r go h = only_says s (Refused r)
only_spot s (Some x) r go h = h x

only_table : (s : Seen) (before : Cause) (table : List ℕ) (behind : Cause) (go : Spot → Chain → Outcome) → ((spot : Spot) (chain : Chain) → OnlyReads (go spot chain)) → OnlyReads (in_table s before table behind go)
unfolding in_table
only_table s before table behind go h = only_unless s _ _ (only_spot s _ _ _ (λ spot. only_unless s _ _ (h spot _)))

only_told : (s : Seen) (o : Outcome) → Tells s o → OnlyReads o
only_told s o tells = subst OnlyReads (sym tells.is) (only_unless s _ _ (only_says s tells.reply))

-- the turns of a copy
copies : (n : ℕ) (name : List ℕ) → AllByRecursion Reads (replicate n Copies ++ ClosesCopy name ∷ [])
copies zero name = (refl, tt)
copies (suc n) name = (refl, copies n name)

first_reads : (statement : Statement) → statement_writes statement ≡ false → (s : Seen) (session : ℕ) → OnlyReads (first_turn s session statement)
unfolding first_turn copy_turn get_turn scan_turn cache_turn
first_reads (OpenDb name cache) is s session = record { strokes = refl; next = tt; made = refl }
first_reads (CopyTo name) is s session = only_unless s _ _ (record { strokes = refl; next = copies (length s.base.frozen) name; made = refl })
first_reads (Get table key) is s session = only_table s _ table _ _ (λ spot chain. only_spot s _ _ _ (λ row. only_says s _))
first_reads (Scan table) is s session = only_table s _ table _ _ (λ spot chain. only_says s _)
first_reads ShowCache is s session = record { strokes = refl; next = tt; made = refl }
first_reads (Read p) is s session = only_told s _ (told_turn (Read p) refl s session)
first_reads Check is s session = only_told s _ (told_turn Check refl s session)
first_reads ShowHeader is s session = only_told s _ (told_turn ShowHeader refl s session)
first_reads ShowPages is s session = only_told s _ (told_turn ShowPages refl s session)
first_reads ShowImage is s session = only_told s _ (told_turn ShowImage refl s session)
first_reads other is s session = absurd (true≢false is)

-- each turn that only reads
pub turn_strokes : (s : Seen) (session : ℕ) (t : Turn) → turn_writes t ≡ false → (turn s session t).strokes ≡ []
unfolding turn close_copy
turn_strokes s session (Begins statement) is = (first_reads statement is s session).strokes
turn_strokes s session Copies is = refl
turn_strokes s session (ClosesBackup backing) is = absurd (true≢false is)
turn_strokes s session (ClosesCopy name) is = refl
turn_strokes s session (Ends reply) is = absurd (true≢false is)
turn_strokes s session Merges is = absurd (true≢false is)
turn_strokes s session (Finishes reply) is = absurd (true≢false is)

pub turn_next : (s : Seen) (session : ℕ) (t : Turn) → turn_writes t ≡ false → AllByRecursion (λ u. turn_writes u ≡ false) (turn s session t).next
unfolding turn close_copy
turn_next s session (Begins statement) is = (first_reads statement is s session).next
turn_next s session Copies is = tt
turn_next s session (ClosesBackup backing) is = absurd (true≢false is)
turn_next s session (ClosesCopy name) is = tt
turn_next s session (Ends reply) is = absurd (true≢false is)
turn_next s session Merges is = absurd (true≢false is)
turn_next s session (Finishes reply) is = absurd (true≢false is)

pub turn_made : (s : Seen) (session : ℕ) (t : Turn) → turn_writes t ≡ false → ((turn s session t).made ≡ None) ⊎ ((name : List ℕ) × (t ≡ ClosesCopy name))
unfolding turn
turn_made s session (Begins statement) is = inl (first_reads statement is s session).made
turn_made s session Copies is = inl refl
turn_made s session (ClosesBackup backing) is = absurd (true≢false is)
turn_made s session (ClosesCopy name) is = inr (name, refl)
turn_made s session (Ends reply) is = absurd (true≢false is)
turn_made s session Merges is = absurd (true≢false is)
turn_made s session (Finishes reply) is = absurd (true≢false is)

-- So of all turns that are to come.
abbrev AllRead : Now → Type 0
AllRead now = (place : ℕ) → AllByRecursion Reads (get_or now.todo place [])

one_reads : (session : ℕ) (now : Now) → AllRead now → (strokes_of (one_turn session now).0 ≡ []) × AllRead (one_turn session now).1
unfolding strokes_of outcome
one_reads session now reads = one_cases (λ (p : Played). (strokes_of p.0 ≡ []) × AllRead p.1) session now (refl, reads) (λ u rest is. takes u rest is (subst (AllByRecursion Reads) is (reads (session - 1))))
  where
    takes : (u : Turn) (rest : List Turn) → get_or now.todo (session - 1) [] ≡ u ∷ rest → AllByRecursion Reads (u ∷ rest) → (strokes_of (event_of session u (outcome session u now) ∷ []) ≡ []) × AllRead (stands_then session rest (outcome session u now) now)
    takes u rest is all = (
      strokes_one (event_of session u (outcome session u now)) ∙ turn_strokes _ session u all.0,
      λ place. elim (eqb_tells place (session - 1)) [
        | inl w ↦ subst (λ (p : ℕ). AllByRecursion Reads (get_or (stands_then session rest (outcome session u now) now).todo p [])) (sym w.1)
            (subst (AllByRecursion Reads) (sym (own_todo session now u rest is (outcome session u now))) (all_append Reads (outcome session u now).next rest (turn_next _ session u all.0) all.1))
        | inr w ↦ subst (AllByRecursion Reads) (sym (other_todo session now u rest is (outcome session u now) place w.1)) (reads place)
      ],
    )

pub run_reads : (order : List ℕ) (now : Now) → ((place : ℕ) → AllByRecursion (λ t. turn_writes t ≡ false) (get_or now.todo place [])) → strokes_of (play order now).0 ≡ []
unfolding play strokes_of
run_reads [] now reads = refl
run_reads (session ∷ order) now reads =
    let here : (strokes_of (one_turn session now).0 ≡ []) × AllRead (one_turn session now).1 = one_reads session now reads in
    strokes_of-append (one_turn session now).0 (play order (one_turn session now).1).0
    ∙ ap (λ ss. ss ++ strokes_of (play order (one_turn session now).1).0) here.0 ∙ run_reads order (one_turn session now).1 here.1
