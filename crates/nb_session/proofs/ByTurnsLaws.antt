-- What turns taken one by one leave of the files.
use Rattle.std.proofs.Common.{◌≡◌, ◌⊎◌, inl, inr, ℕ, zero, suc, ◌-◌, true, List, [], ◌∷◌, ◌++◌, length, take, refl, sym, ap, subst, ◌∙◌, Bool, false, Result, Ok, Err, IsErr}
use Rattle.nb_session.proofs.Common.{World, LeavesAll, IsTimely, RunError, weaker, MadeFile, Now, Played, one_turn, play, steps_of, after_steps, Trail, OfFiles, Held, name_of, Told, Touched, InTurn, EndsBy, LeavesOthers, touching_by, Plays, PlaysInTurn, told_events, told_turns, IsSaid, output_no_event, append-nil, StopLeft}
use Rattle.nb_session.specs.Files.{LeavesFiles}
use Rattle.nb_model.specs.Outcomes.{Turn}
use Rattle.nb_model.specs.Run.{event_of, outcome, take_turn}
use Rattle.nb_session.specs.ByTurns.{ByTurns, EndsInLast, OfLast, SaidInLast, GoesByTurns, ending_of}
use Rattle.nb_session.specs.Ended.{EndsFirst, EndsNext}
use Rattle.nb_session.specs.Replies.{only_told}
use Rattle.nb_session.specs.Short.{RanOut}
use Rattle.std.specs.List.{list_all, slice_index_or}
use Rattle.nb_session.proofs.EventLaws.{one_told}
use Rattle.nb_session.proofs.InTurnLaws.{play_idle}
use Rattle.nb_session.proofs.OthersLaws.{now_left, leaves_among}
use Rattle.nb_session.proofs.PlayLaws.{no_file}

-- Turns leave alone what they may not touch.
plays_leave : (result : Result Bool RunError) (old new : World) (before after : Held) (t : Trail) (now : Now) (p : Played) (made : List MadeFile) → IsTimely new → LeavesAll new new.files → Plays result old new before after t now p made
    → LeavesOthers old new (Touched (name_of before) made)
plays_leave result old new before after t now p made timely reads plays =
    let here = plays.stops.each new.files new.said (timely.counts_now old.moment new.files plays.stops.later reads) in
    record {
      moments = weaker old new _ _ plays.stops (λ files said left. record { added = record { part = left.out.part; is = left.out.is }; others = left.others });
      others = plays.others;
      others_read = plays.others_read;
      added = record { part = here.out.part; is = here.out.is };
    }

-- a prefix of their lines was said
plays_say : (result : Result Bool RunError) (old new : World) (before after : Held) (t : Trail) (now : Now) (p : Played) (made : List MadeFile) → IsTimely new → LeavesAll new new.files → Plays result old new before after t now p made → IsSaid old p.0 new.said
plays_say result old new before after t now p made timely reads plays = (now_left old new (StopLeft old (name_of before) t p.0 made) timely reads plays.stops).out

-- of no line nothing is
said_none : (old : World) (said : List ℕ) → IsSaid old [] said → said ≡ old.said
said_none old said is =
    let none : is.part ≡ [] = is.front ∙ ap (take (length is.part)) output_no_event ∙ take_none (length is.part) in
    is.is ∙ ap (λ (part : List ℕ). old.said ++ part) none ∙ append-nil old.said
  where
    take_none : (n : ℕ) → take {A = ℕ} n [] ≡ []
    take_none zero = refl
    take_none (suc n) = refl

-- A turn that only tells something leaves all files as they read.
next_still : (ran_out ended : Type 0) (old new : World) (name : List ℕ) (t : Trail) (now : Now) (session : ℕ) → EndsNext ran_out ended old new name t now session → list_all only_told (one_turn session now).0 ≡ true → new.files ≡ old.files
unfolding one_turn take_turn
next_still ran_out ended old new name t now session ends = by (slice_index_or now.todo (session - 1) []) ends
  where
    by : (turns : List Turn) → EndsFirst ran_out ended old new name t now session turns → list_all only_told (take_turn session turns now).0 ≡ true → new.files ≡ old.files
    by [] none told = absurd none
    by (turn ∷ rest) ends told = ends.unchanged (one_told (event_of session turn (outcome session turn now)) told)

-- no turn touches but the database's two files
none_touched : (name m : List ℕ) → Touched name [] m → OfFiles name m
none_touched name m (inl own) = own
none_touched name m (inr there) = absurd (no_file m there.0 there.1)

module _ {H : Type 0} (world : H → World) (timely : (h : H) → IsTimely (world h)) (reads : (h : H) → LeavesAll (world h) (world h).files) (how : Told) where
  -- the database's name stays
  named_then : (order : List ℕ) (old new : H) (before after : Held) (t : Trail) (now : Now) → name_of before ≡ now.name → InTurn world how order old new before after t now → name_of after ≡ (play order now).1.name
  unfolding play
  named_then [] old new before after t now named same = ap (λ (h : Held). name_of h) same.1 ∙ named
  named_then (x ∷ order) old new before after t now named (inl idle) = named_then order old new before after t now named idle.1 ∙ ap (λ (p : Played). p.1.name) (sym (play_idle x order now idle.0))
  named_then (x ∷ order) old new before after t now named (inr taken) =
      named_then order taken.0 new taken.1 after (after_steps t (steps_of (one_turn x now).0)) (one_turn x now).1 taken.2.plays.done.ready.named taken.3

  turns_by : (order : List ℕ) (old new : H) (before after : Held) (t : Trail) (now : Now) → name_of before ≡ now.name → InTurn world how order old new before after t now → ByTurns world (told_events how) order old new t now
  turns_by [] old new before after t now named same = same.0
  turns_by (x ∷ order) old new before after t now named (inl idle) = inl (idle.0, turns_by order old new before after t now named idle.1)
  turns_by (x ∷ order) old new before after t now named (inr taken) = inr (
    taken.0,
    record {
      said = taken.2.plays.done.said;
      leaves = subst (λ (n : List ℕ). LeavesOthers (world old) (world taken.0) (Touched n (touching_by x now))) named
          (plays_leave (Ok taken.2.refused) (world old) (world taken.0) before taken.1 t now (told_turns how (one_turn x now)) (touching_by x now) (timely taken.0) (reads taken.0) taken.2.plays);
      unchanged = next_still ⊥ (Unit {0}) (world old) (world taken.0) (name_of before) t now x taken.2.ends;
      ends = subst (λ (n : List ℕ). EndsNext ⊥ (Unit {0}) (world old) (world taken.0) n t now x) named taken.2.ends;
    },
    turns_by order taken.0 new taken.1 after (after_steps t (steps_of (one_turn x now).0)) (one_turn x now).1 taken.2.plays.done.ready.named taken.3,
  )

  -- what waits is written out
  out_leaves : (result : Result Bool RunError) (old new : H) (before after : Held) (t : Trail) (now : Now) → name_of before ≡ now.name → Plays result (world old) (world new) before after t now ([], now) []
      → LeavesOthers (world old) (world new) (OfFiles now.name)
  out_leaves result old new before after t now named plays =
      subst (λ (n : List ℕ). LeavesOthers (world old) (world new) (OfFiles n)) named
      (leaves_among (world old) (world new) (Touched (name_of before) []) (OfFiles (name_of before)) (none_touched (name_of before))
      (plays_leave result (world old) (world new) before after t now ([], now) [] (timely new) (reads new) plays))

  -- the last thing that is done
  last_leaves : (result : Result Bool RunError) (rest : List ℕ) (old new : H) (before after : Held) (t : Trail) (now : Now) → name_of before ≡ now.name → EndsBy result how rest (world old) (world new) before after t now
      → LeavesOthers (world old) (world new) (OfLast rest now)
  last_leaves (Ok refused) [] old new before after t now named plays = out_leaves (Ok false) old new before after t now named plays.0
  last_leaves (Ok refused) (x ∷ rest) old new before after t now named plays = absurd plays
  last_leaves (Err stop) [] old new before after t now named plays = out_leaves (Err stop) old new before after t now named plays.0
  last_leaves (Err stop) (x ∷ rest) old new before after t now named ends =
      subst (λ (n : List ℕ). LeavesOthers (world old) (world new) (Touched n (touching_by x now))) named
      (plays_leave (Err stop) (world old) (world new) before after t now (told_turns how (one_turn x now)) (touching_by x now) (timely new) (reads new) ends.0)

  last_said : (result : Result Bool RunError) (rest : List ℕ) (old new : H) (before after : Held) (t : Trail) (now : Now) → EndsBy result how rest (world old) (world new) before after t now
      → SaidInLast (told_events how) rest now (world old) (world new)
  last_said (Ok refused) [] old new before after t now plays = said_none (world old) (world new).said (plays_say (Ok false) (world old) (world new) before after t now ([], now) [] (timely new) (reads new) plays.0)
  last_said (Ok refused) (x ∷ rest) old new before after t now plays = absurd plays
  last_said (Err stop) [] old new before after t now plays = said_none (world old) (world new).said (plays_say (Err stop) (world old) (world new) before after t now ([], now) [] (timely new) (reads new) plays.0)
  last_said (Err stop) (x ∷ rest) old new before after t now ends =
      plays_say (Err stop) (world old) (world new) before after t now (told_turns how (one_turn x now)) (touching_by x now) (timely new) (reads new) ends.0

  -- turns are left only where one ended early
  last_early : (result : Result Bool RunError) (rest : List ℕ) (old new : World) (before after : Held) (t : Trail) (now : Now) → EndsBy result how rest old new before after t now → IsErr result ⊎ (rest ≡ [])
  last_early (Ok refused) [] old new before after t now plays = inr refl
  last_early (Ok refused) (x ∷ rest) old new before after t now plays = absurd plays
  last_early (Err stop) rest old new before after t now ends = inl refl

  last_ends : (result : Result Bool RunError) (rest : List ℕ) (old new : World) (before after : Held) (t : Trail) (now : Now) → name_of before ≡ now.name → EndsBy result how rest old new before after t now → EndsInLast (RanOut result) rest t now old new
  last_ends (Ok refused) [] old new before after t now named plays = subst (λ (n : List ℕ). LeavesFiles false ⊥ old new n t []) named plays.1
  last_ends (Ok refused) (x ∷ rest) old new before after t now named plays = absurd plays
  last_ends (Err stop) [] old new before after t now named plays = subst (λ (n : List ℕ). LeavesFiles false ⊥ old new n t []) named plays.1
  last_ends (Err stop) (x ∷ rest) old new before after t now named ends = subst (λ (n : List ℕ). EndsNext (RanOut {T = Bool} (Err stop)) ⊥ old new n t now x) named ends.1

  -- all turns
  pub goes_by : (result : Result Bool RunError) (old new : H) (before after : Held) (t : Trail) (now : Now) (schedule : List ℕ) → name_of before ≡ now.name → PlaysInTurn world result old new before after t how now schedule
      → GoesByTurns world (ending_of result) (told_events how) old new t now schedule
  goes_by result old new before after t now schedule named plays =
      let runs = plays.in_turn in
      let far : Trail = after_steps t (steps_of (play runs.front now).0) in
      record {
        how_often = plays.whole.how_often;
        front = runs.front;
        rest = runs.rest;
        is = runs.is;
        to_end = last_early result runs.rest (world runs.mid) (world new) runs.between after far (play runs.front now).1 runs.last;
        mid = runs.mid;
        taken = turns_by runs.front old runs.mid before runs.between t now named runs.taken;
        last = last_leaves result runs.rest runs.mid new runs.between after far (play runs.front now).1 (named_then runs.front old runs.mid before runs.between t now named runs.taken) runs.last;
        ends = last_ends result runs.rest (world runs.mid) (world new) runs.between after far (play runs.front now).1 (named_then runs.front old runs.mid before runs.between t now named runs.taken) runs.last;
        said = last_said result runs.rest runs.mid new runs.between after far (play runs.front now).1 runs.last;
      }
