-- What a session is still to make, and for which of them it runs.
use Rattle.std.proofs.Common.{Bool, ◌≡◌, ◌≢◌, ℕ, zero, suc, ◌-◌, List, [], ◌∷◌, ◌++◌, map, get_or, refl, ap, subst}
use Rattle.nb_session.proofs.Common.{slice_index_or, Statement, IsBeginning, AreBeginnings, AreMerging, Runs, IsAt, waits, backs_up, copies, ends, merges, IsGoing, Image, file_of, joined, MadeFile, kept_of, making, making_by, making_all, under_way, AreAmong, Turn, Begins, Copies, ClosesBackup, ClosesCopy, Ends, Merges, Finishes, Now, base_now, one_runs, copy_first, beginnings_make, Contains-append_left, Contains-append_right}
use Rattle.nb_session.proofs.MadeLaws.{none_among}

-- turns after turns
pub making_append : (frozen : Image) (ts us : List Turn) → making frozen (ts ++ us) ≡ making frozen ts ++ making frozen us
unfolding making
making_append frozen [] us = refl
making_append frozen (Begins statement ∷ ts) us = making_append frozen ts us
making_append frozen (Copies ∷ ts) us = making_append frozen ts us
making_append frozen (ClosesBackup b ∷ ts) us = ap (λ (files : List MadeFile). (b.name, file_of 102 (kept_of b frozen)) ∷ files) (making_append frozen ts us)
making_append frozen (ClosesCopy name ∷ ts) us = ap (λ (files : List MadeFile). (name, joined frozen) ∷ files) (making_append frozen ts us)
making_append frozen (Ends reply ∷ ts) us = making_append frozen ts us
making_append frozen (Merges ∷ ts) us = making_append frozen ts us
making_append frozen (Finishes reply ∷ ts) us = making_append frozen ts us

-- a turn that begins a statement makes nothing
pub making_begins : (frozen : Image) (statements : List Statement) → making frozen (map Begins statements) ≡ []
unfolding making
making_begins frozen [] = refl
making_begins frozen (s ∷ statements) = making_begins frozen statements

-- what a session is to make is under way
at_among : (frozen : Image) (todo : List (List Turn)) (place : ℕ) → AreAmong (making frozen (get_or todo place [])) (making_all frozen todo)
unfolding making making_all
at_among frozen [] zero file there = none_among [] file there
at_among frozen [] (suc place) file there = none_among [] file there
at_among frozen (ts ∷ todo) zero file there = Contains-append_left (making frozen ts) (making_all frozen todo) file there
at_among frozen (ts ∷ todo) (suc place) file there = Contains-append_right (making frozen ts) (making_all frozen todo) file (at_among frozen todo place file there)

pub by_among : (session : ℕ) (now : Now) → AreAmong (making_by session now) (under_way now)
by_among session now = at_among (base_now now).frozen now.todo (session - 1)

-- a turn of a copy, or the end after it
abbrev pub IsCopyTurn : Turn → Type 0
IsCopyTurn (Begins statement) = ⊥
IsCopyTurn Copies = Unit {0}
IsCopyTurn (ClosesBackup backing) = Unit {0}
IsCopyTurn (ClosesCopy name) = Unit {0}
IsCopyTurn (Ends reply) = Unit {0}
IsCopyTurn Merges = ⊥
IsCopyTurn (Finishes reply) = ⊥

pub first_copies : (left : ℕ) (last : Turn) → IsCopyTurn last → IsCopyTurn (copy_first left last)
first_copies zero last is = is
first_copies (suc left) last is = tt

no_beginning : (turn : Turn) → IsBeginning turn → IsCopyTurn turn → ⊥
no_beginning (Begins statement) begins copy = copy
no_beginning other begins copy = begins

no_merging : (turn : Turn) (rest : List Turn) → AreMerging (turn ∷ rest) → IsCopyTurn turn → ⊥
no_merging Merges rest turns copy = copy
no_merging (Finishes reply) rest turns copy = copy
no_merging other rest turns copy = turns

-- the session that has it next runs, in the stalled state
pub copy_runs : {sound : Bool} (now : Now) (place : ℕ) (todo : List Turn) (turn : Turn) (rest : List Turn) → IsAt sound now place todo → todo ≡ turn ∷ rest → IsCopyTurn turn → Runs now place 1
copy_runs now place todo turn rest (waits all) is copy = absurd (no_beginning turn (subst AreBeginnings is all).0 copy)
copy_runs now place todo turn rest (backs_up left b behind e all runs room free) is copy = runs
copy_runs now place todo turn rest (copies left name behind e all runs free) is copy = runs
copy_runs now place todo turn rest (ends reply behind e all runs) is copy = runs
copy_runs now place todo turn rest (merges turns runs) is copy = absurd (no_merging turn rest (subst AreMerging is turns) copy)

-- while another one runs a session makes nothing
pub none_making : {sound : Bool} (session : ℕ) (now : Now) → IsGoing sound now → (place : ℕ) → Runs now place 1 → session - 1 ≢ place → making_by session now ≡ []
none_making {sound = sound} session now going place runs off = by (slice_index_or now.todo (session - 1) []) (going.each (session - 1))
  where
    alone : (m : ℕ) → Runs now (session - 1) m → ⊥
    alone m its = off (one_runs now (session - 1) place m 1 its runs)

    by : (todo : List Turn) → IsAt sound now (session - 1) todo → making (base_now now).frozen todo ≡ []
    by todo (waits all) = beginnings_make (base_now now).frozen todo all
    by todo (backs_up left b behind e all its room free) = absurd (alone 1 its)
    by todo (copies left name behind e all its free) = absurd (alone 1 its)
    by todo (ends reply behind e all its) = absurd (alone 1 its)
    by todo (merges turns its) = absurd (alone 2 its)
