-- While a backup is under way its record is kept, and all that was seen goes on from it: so each turn keeps what was seen well.
use Rattle.std.proofs.Common.{◌≡◌, ◌≢◌, inl, inr, ℕ, zero, suc, ◌-◌, List, [], ◌∷◌, ◌++◌, length, replicate, get_or, refl, sym, ap, subst, ◌∙◌, arith, append_assoc, Bool, Option, None, true, false, ◌==◌}
use Rattle.nb_model.proofs.Common.{AllByRecursion, activated, eqb-true, eqb_tells, normal_state, stalled_state, merge_state, Refusal, Refused, Reply, Statement, Ask, Kept, Base, room_in, close_backup, close_copy, runs_other, AreBeginnings, AreMerging, IsNamed, AreNamed, HasRoom, Runs, IsAt, waits, backs_up, copies, merges, IsGoing, image_state, image_scn, Turn, Begins, Copies, ClosesBackup, ClosesCopy, Ends, Merges, Finishes, Backing, Seen, Outcome, says, next_guid, next_time, end_strokes, ends_by, Event, Now, Played, base_now, event_of, outcome, stands_then, one_turn, play, Step, settles, after_step, after_steps, made, steps_of, HasHeader, Stroke, begin, ends, finish, base_after, Trail, settled, first_turn, turn, is_on_pages, IsWellTrail, none_some}
use Rattle.nb_model.specs.Going.{ends as ending}
use Rattle.nb_model.proofs.BackupWell.{IsLedTo, IsRecorded, StartsWell, recorded_on, recorded_settled, start_well, close_well}
use Rattle.nb_model.proofs.GoingLaws.{next_sixteen, one_runs, name_short, then_base, own_todo, other_todo, one_cases, going_turn, named_turn, merge_turns}
use Rattle.nb_model.proofs.HeldTurns.{statement_holds}
use Rattle.nb_model.proofs.LeadLaws.{strokes_lead}
use Rattle.nb_model.proofs.PagesFit.{pages_fit}
use Rattle.nb_model.proofs.PutSound.{header_whole}
use Rattle.nb_model.proofs.OutputLaws.{strokes_one}
use Rattle.nb_model.proofs.RoomLaws.{HasPlainRoom}
use Rattle.nb_model.proofs.SoundTurns.{HasPlace}
use Rattle.nb_model.proofs.SteadyLaws.{WellAlong, KeepsAlong, kept_along, pages_along, begin_along, ends_along, finish_along, settling_along, along_append, along_last, kept_append}
use Rattle.nb_model.proofs.StepsLaws.{steps_one, steps_append, steps_seen, after_steps_append, made_seen}
use Rattle.nb_model.proofs.TurnCases.{MayBegin, MayEnd, MayStart, MayCopy, IsFrom, refused, started, copied, statement_cases, begin_either, end_either, activate_either, its_own, backup_either, since_either, copy_either, pages_once}
use Rattle.nb_model.proofs.TurnCases as cases

-- the backup that a turn closes is recorded
abbrev pub IsRecordedTurn : List Kept → Trail → Turn → Type 0
IsRecordedTurn kept t (Begins statement) = Unit {0}
IsRecordedTurn kept t Copies = Unit {0}
IsRecordedTurn kept t (ClosesBackup b) = IsRecorded kept t b
IsRecordedTurn kept t (ClosesCopy name) = Unit {0}
IsRecordedTurn kept t (Ends reply) = Unit {0}
IsRecordedTurn kept t Merges = Unit {0}
IsRecordedTurn kept t (Finishes reply) = Unit {0}

abbrev pub AreRecorded : List Kept → Trail → List Turn → Type 0
AreRecorded kept t turns = AllByRecursion (IsRecordedTurn kept t) turns

-- so is each backup that is under way
abbrev pub AllRecorded : List Kept → Trail → Now → Type 0
AllRecorded kept t now = (place : ℕ) → AreRecorded kept t (get_or now.todo place [])

-- statements that are still to begin close none, and no merge does
module _ (kept : List Kept) (t : Trail) where
  pub beginnings_recorded : (turns : List Turn) → AreBeginnings turns → AreRecorded kept t turns
  beginnings_recorded [] all = tt
  beginnings_recorded (Begins statement ∷ turns) all = (tt, beginnings_recorded turns all.1)
  beginnings_recorded (other ∷ turns) all = absurd all.0

  merging_recorded : (turns : List Turn) → AreMerging turns → AreRecorded kept t turns
  merging_recorded (Merges ∷ turns) all = (tt, merging_recorded turns all)
  merging_recorded (Finishes reply ∷ turns) all = (tt, beginnings_recorded turns all)
  merging_recorded other all = absurd all

  copies_recorded : (left : ℕ) (turns : List Turn) → AreRecorded kept t turns → AreRecorded kept t (replicate left Copies ++ turns)
  copies_recorded zero turns all = all
  copies_recorded (suc left) turns all = (tt, copies_recorded left turns all)

  copies_left : (left : ℕ) (turns : List Turn) → AreRecorded kept t (replicate left Copies ++ turns) → AreRecorded kept t turns
  copies_left zero turns all = all
  copies_left (suc left) turns all = copies_left left turns all.1

-- What a turn does where it comes: it keeps what was seen well, records the backup that it starts, and leaves one of another session recorded.
record IsTurn (kept : List Kept) (t : Trail) (now : Now) (session : ℕ) (strokes : List Stroke) (turns : List Turn) : Type 0 where
  along : WellAlong kept t (made strokes)
  own : AreRecorded (kept_along kept t (made strokes)) (after_steps t (made strokes)) turns
  others : (place : ℕ) (b : Backing) → place ≢ session - 1 → Runs now place 1 → IsRecorded kept t b → IsRecorded (kept_along kept t (made strokes)) (after_steps t (made strokes)) b

module _ (kept : List Kept) (t : Trail) (now : Now) (session : ℕ) (base : t.base ≡ base_now now) (w : IsWellTrail kept t) (going : IsGoing true now) where
  abbrev seen : Base → Seen
  seen b = record { base = b; cache = now.cache; running = now.running; entry = now.account.entry; given = now.given }

  abbrev s : Seen
  s = seen t.base

  abbrev Is : List Stroke → List Turn → Type 0
  Is strokes turns = IsTurn kept t now session strokes turns

  same_state : image_state t.base.image ≡ image_state (base_now now).image
  same_state = ap (λ (b : Base). image_state b.image) base

  sixteen : length (next_guid now.given) ≡ 16
  sixteen = next_sixteen now.given going.sixteen

  -- It makes no stroke.
  no_stroke : (turns : List Turn) → AreRecorded kept t turns → Is [] turns
  unfolding made after_steps
  no_stroke turns own = record { along = w; own = own; others = λ place b off runs recorded. recorded }

  -- no backup is under way of another session
  alone_turn : (strokes : List Stroke) (turns : List Turn) → WellAlong kept t (made strokes) → AreRecorded (kept_along kept t (made strokes)) (after_steps t (made strokes)) turns
      → ((place : ℕ) → place ≢ session - 1 → Runs now place 1 → ⊥) → Is strokes turns
  alone_turn strokes turns along own alone = record { along = along; own = own; others = λ place b off runs recorded. absurd (alone place off runs) }

  normal_alone : image_state t.base.image ≡ normal_state → (place : ℕ) → place ≢ session - 1 → Runs now place 1 → ⊥
  normal_alone normal place off runs = absurd (omega (arith, normal, same_state, runs.state))

  -- statements
  module _ (rest : List Turn) (all : AreBeginnings rest) where
    abbrev Does : Outcome → Type 0
    Does o = Is o.strokes (o.next ++ rest)

    waits_then : (u : Trail) (rs : List Kept) → AreRecorded rs u rest
    waits_then u rs = beginnings_recorded rs u rest all

    said_turn : (reply : Reply) → Does (says s reply [])
    said_turn reply = no_stroke rest (waits_then t kept)

    refused_turn : (r : Refusal) → Does (refused s r)
    refused_turn r = said_turn (Refused r)

    pages_turn : (statement : Statement) → is_on_pages statement ≡ true → IsNamed (Begins statement) → Does (first_turn s session statement)
    pages_turn statement on named =
        let strokes : List Stroke = (first_turn s session statement).strokes in
        let its_header : HasHeader t.base.image = record { header = w.base.well.header; scn = w.base.well.scn } in
        let keeps : KeepsAlong kept t (made strokes) = pages_along kept statement on named s session t refl w in
        record {
          along = keeps.along;
          own = subst (λ (ts : List Turn). AreRecorded (kept_along kept t (made strokes)) (after_steps t (made strokes)) (ts ++ rest)) (sym (pages_once statement on s session).next)
              (waits_then (after_steps t (made strokes)) (kept_along kept t (made strokes)));
          others = λ place b off runs. recorded_on kept t (made strokes) keeps b (λ bytes of_history held.
              subst (λ (x : Base). IsLedTo b.page bytes x.image) (sym (made_seen t strokes)) (
                statement_holds b.page bytes of_history statement on named s session its_header w.base.well.sound held.1 held.0,
                strokes_lead b.page strokes t.base (header_whole t.base.image its_header w.base.well.sound) (pages_fit statement on named s session its_header w.base.well.sound) held.1,
              ));
        }

    begun_turn : MayBegin t.base.image → Does (cases.begun s)
    begun_turn may = alone_turn (begin (next_guid now.given) None ∷ []) rest (begin_along kept t (next_guid now.given) None w may.normal sixteen may.scn (λ ask is some. absurd (none_some ask is)))
        (waits_then (after_steps t (made (begin (next_guid now.given) None ∷ []))) (kept_along kept t (made (begin (next_guid now.given) None ∷ [])))) (normal_alone may.normal)

    ended_turn : (reply : Reply) → image_state t.base.image ≢ normal_state → ((place : ℕ) → place ≢ session - 1 → Runs now place 1 → ⊥) → Does (ends_by s session reply)
    unfolding ends_by end_strokes
    ended_turn reply some alone = by (image_state t.base.image == stalled_state) refl
      where
        turns : List Turn
        turns = (replicate (length t.base.diverted) Merges ++ Finishes reply ∷ []) ++ rest

        with_strokes : (strokes : List Stroke) → WellAlong kept t (made strokes) → Is strokes turns
        with_strokes strokes along =
            alone_turn strokes turns along (merging_recorded (kept_along kept t (made strokes)) (after_steps t (made strokes)) turns (merge_turns (length t.base.diverted) reply rest all)) alone

        by : (test : Bool) → (image_state t.base.image == stalled_state) ≡ test → Is (elim test as (λ z. List Stroke) [ true ↦ ends ∷ [] | false ↦ [] ]) turns
        by true is = with_strokes (ends ∷ []) (ends_along kept t w (eqb-true (image_state t.base.image) 1 is))
        by false is = no_stroke turns (merging_recorded kept t turns (merge_turns (length t.base.diverted) reply rest all))

    started_turn : (name : List ℕ) (ask : Ask) → IsFrom t.base.image ask → MayStart s name → Does (started s session name ask)
    started_turn name ask is may =
        let o : Outcome = started s session name ask in
        let b : Backing = record { name = name; ask = ask; scn = image_scn t.base.image; guid = next_guid now.given; page = (room_in t.base.image).page; slot = (room_in t.base.image).slot } in
        let count : ℕ = length (room_in t.base.image).draft.image in
        let starts : StartsWell kept t o.strokes b = start_well kept t w now.cache now.running now.account.entry now.given session name ask may is sixteen in
        alone_turn o.strokes (o.next ++ rest) starts.along
        (subst (AreRecorded (kept_along kept t (made o.strokes)) (after_steps t (made o.strokes))) (sym (append_assoc (replicate count Copies) (ClosesBackup b ∷ []) rest))
        (copies_recorded (kept_along kept t (made o.strokes)) (after_steps t (made o.strokes)) count (ClosesBackup b ∷ rest) (starts.recorded, waits_then (after_steps t (made o.strokes)) (kept_along kept t (made o.strokes)))))
        (normal_alone may.may.normal)

    copied_turn : (name : List ℕ) → MayCopy s name → Does (copied s session name)
    copied_turn name may =
        let count : ℕ = length t.base.frozen in
        no_stroke ((replicate count Copies ++ ClosesCopy name ∷ []) ++ rest)
        (subst (AreRecorded kept t) (sym (append_assoc (replicate count Copies) (ClosesCopy name ∷ []) rest)) (copies_recorded kept t count (ClosesCopy name ∷ rest) (tt, waits_then t kept)))

    alone_by : MayEnd s session → (place : ℕ) → place ≢ session - 1 → Runs now place 1 → ⊥
    alone_by may place off runs = off (sym runs.its ∙ ap (λ (x : ℕ). x - 1) (its_own runs.by session (sym (ap (λ (r : Option ℕ). runs_other r session) runs.running) ∙ may.alone)))

    statement_turn : (statement : Statement) → IsNamed (Begins statement) → Does (first_turn s session statement)
    unfolding first_turn
    statement_turn = statement_cases (λ x. IsNamed (Begins x) → Does (first_turn s session x)) pages_turn (λ named. begin_either Does s refused_turn begun_turn) (λ named. end_either Does s session refused_turn (λ may. ended_turn _ may.other (alone_by may)))
        (λ named. activate_either Does s session refused_turn (said_turn (activated s.base)) (λ may. ended_turn _ may.other (alone_by may)))
        (λ level name named. backup_either Does s session level name refused_turn (started_turn name)) (λ guid name named. since_either Does s session guid name refused_turn (started_turn name)) (λ name named. copy_either Does s session name refused_turn (copied_turn name))

  -- the further turns of a backup, a copy or a merge of this session
  module _ (number : ℕ) (runs : Runs now (session - 1) number) where
    only_one : (place : ℕ) → place ≢ session - 1 → Runs now place 1 → ⊥
    only_one place off its = off (one_runs now place (session - 1) 1 number its runs)

    closed_turn : (b : Backing) (rest : List Turn) → AreBeginnings rest → HasPlace t.base.image b → IsRecorded kept t b → Is (close_backup s b).strokes ((close_backup s b).next ++ rest)
    unfolding close_backup
    closed_turn b rest all place recorded =
        let keeps = close_well kept t w b (next_time now.given) place recorded in
        alone_turn _ _ keeps.along (tt, beginnings_recorded _ _ rest all) only_one

    finished_turn : (reply : Reply) (rest : List Turn) → AreBeginnings rest → image_state t.base.image ≡ merge_state → Is (finish ∷ []) rest
    finished_turn reply rest all merge = alone_turn (finish ∷ []) rest (finish_along kept t w merge) (beginnings_recorded _ _ rest all) only_one

  -- Whatever turn comes.
  abbrev Turns : Turn → List Turn → Type 0
  Turns u rest = Is (turn s session u).strokes ((turn s session u).next ++ rest)

  turn_as : (u v : Turn) (rest tail : List Turn) → u ∷ rest ≡ v ∷ tail → Turns v tail → Turns u rest
  turn_as u v rest tail e does =
      let head : v ≡ u = cc in
      let behind : tail ≡ rest = cc in
      subst (λ (x : Turn). Turns x rest) head (subst (Turns v) behind does)

  beginning_turn : (u : Turn) (rest : List Turn) → AreBeginnings (u ∷ rest) → AllByRecursion IsNamed (u ∷ rest) → Turns u rest
  unfolding turn
  beginning_turn (Begins statement) rest all named = statement_turn rest all.1 statement named.0
  beginning_turn other rest all named = absurd all.0

  copying_turn : (rest : List Turn) → AreRecorded kept t rest → Turns Copies rest
  unfolding turn
  copying_turn rest recorded = no_stroke rest recorded

  backup_turn_is : (left : ℕ) (b : Backing) (u : Turn) (rest tail : List Turn) → u ∷ rest ≡ replicate left Copies ++ ClosesBackup b ∷ tail → AllByRecursion IsNamed (u ∷ rest) → AreRecorded kept t (u ∷ rest) → AreBeginnings tail
      → Runs now (session - 1) 1 → HasRoom true (base_now now).image b.page b.slot → Turns u rest
  unfolding turn
  backup_turn_is zero b u rest tail e named recorded all runs room =
      let is : IsNamed (ClosesBackup b) = (subst (AllByRecursion IsNamed) e named).0 in
      let place : HasPlace t.base.image b = record { room = subst (λ (x : Base). HasPlainRoom x.image b.page b.slot) (sym base) (record { below = room.below; plain = room.plain refl }); sixteen = is.1; short = omega (arith, name_short b.name is.0) } in
      turn_as u (ClosesBackup b) rest tail e (closed_turn 1 runs b tail all place (subst (AreRecorded kept t) e recorded).0)
  backup_turn_is (suc left) b u rest tail e named recorded all runs room =
      let behind : List Turn = replicate left Copies ++ ClosesBackup b ∷ tail in
      turn_as u Copies rest behind e (copying_turn behind (subst (AreRecorded kept t) e recorded).1)

  copy_turn_is : (left : ℕ) (name : List ℕ) (u : Turn) (rest tail : List Turn) → u ∷ rest ≡ replicate left Copies ++ ClosesCopy name ∷ tail → AreRecorded kept t (u ∷ rest) → Turns u rest
  unfolding turn close_copy
  copy_turn_is zero name u rest tail e recorded = turn_as u (ClosesCopy name) rest tail e (no_stroke tail (subst (AreRecorded kept t) e recorded).1)
  copy_turn_is (suc left) name u rest tail e recorded =
      let behind : List Turn = replicate left Copies ++ ClosesCopy name ∷ tail in
      turn_as u Copies rest behind e (copying_turn behind (subst (AreRecorded kept t) e recorded).1)

  merging_turn : (u : Turn) (rest : List Turn) → AreMerging (u ∷ rest) → Runs now (session - 1) 2 → Turns u rest
  unfolding turn
  merging_turn Merges rest turns runs = no_stroke rest (merging_recorded kept t rest turns)
  merging_turn (Finishes reply) rest turns runs = finished_turn 2 runs reply rest turns (same_state ∙ runs.state)
  merging_turn other rest turns runs = absurd turns

  ending_turn : (reply : Reply) (tail : List Turn) → AreBeginnings tail → Runs now (session - 1) 1 → Turns (Ends reply) tail
  unfolding turn
  ending_turn reply tail all runs = ended_turn tail all reply (λ none. absurd (omega (arith, none, same_state, runs.state))) (only_one 1 runs)

  turn_is : (u : Turn) (rest : List Turn) → IsAt true now (session - 1) (u ∷ rest) → AllByRecursion IsNamed (u ∷ rest) → AreRecorded kept t (u ∷ rest) → Turns u rest
  turn_is u rest (waits all) named recorded = beginning_turn u rest all named
  turn_is u rest (backs_up left b tail e all runs room free) named recorded = backup_turn_is left b u rest tail e named recorded all runs room
  turn_is u rest (copies left name tail e all runs free) named recorded = copy_turn_is left name u rest tail e recorded
  turn_is u rest (ending reply tail e all runs) named recorded = turn_as u (Ends reply) rest tail e (ending_turn reply tail all runs)
  turn_is u rest (merges turns runs) named recorded = merging_turn u rest turns runs

-- What one turn leaves: what was seen is well along its steps, and each backup that is under way is recorded.
pub record StaysWell (kept : List Kept) (t : Trail) (p : Played) : Type 0 where
  pub along : WellAlong kept t (steps_of p.0)
  pub recorded : AllRecorded (kept_along kept t (steps_of p.0)) (after_steps t (steps_of p.0)) p.1
  pub base : (after_steps t (steps_of p.0)).base ≡ base_now p.1

settled_recorded : (kept : List Kept) (t : Trail) (turns : List Turn) → AreRecorded kept t turns → AreRecorded kept (settled t.base) turns
settled_recorded kept t [] all = tt
settled_recorded kept t (ClosesBackup b ∷ turns) all = (recorded_settled kept t b all.0, settled_recorded kept t turns all.1)
settled_recorded kept t (Begins statement ∷ turns) all = (tt, settled_recorded kept t turns all.1)
settled_recorded kept t (Copies ∷ turns) all = (tt, settled_recorded kept t turns all.1)
settled_recorded kept t (ClosesCopy name ∷ turns) all = (tt, settled_recorded kept t turns all.1)
settled_recorded kept t (Ends reply ∷ turns) all = (tt, settled_recorded kept t turns all.1)
settled_recorded kept t (Merges ∷ turns) all = (tt, settled_recorded kept t turns all.1)
settled_recorded kept t (Finishes reply ∷ turns) all = (tt, settled_recorded kept t turns all.1)

-- a settled point after them, or none
settling_recorded : (kept : List Kept) (t : Trail) (now : Now) (waits : Bool) → AllRecorded kept t now
    → AllRecorded (kept_along kept t (elim waits as (λ z. List Step) [ true ↦ settles ∷ [] | false ↦ [] ])) (after_steps t (elim waits as (λ z. List Step) [ true ↦ settles ∷ [] | false ↦ [] ])) now
unfolding after_steps after_step
settling_recorded kept t now true all place = settled_recorded kept t (get_or now.todo place []) (all place)
settling_recorded kept t now false all place = all place

module _ (kept : List Kept) (t : Trail) (now : Now) (session : ℕ) (base : t.base ≡ base_now now) (w : IsWellTrail kept t) (going : IsGoing true now) (named : AreNamed now) (recorded : AllRecorded kept t now) where
  module _ (u : Turn) (rest : List Turn) (is : get_or now.todo (session - 1) [] ≡ u ∷ rest) where
    abbrev o : Outcome
    o = outcome session u now

    abbrev then : Now
    then = stands_then session rest o now

    one : IsTurn kept t now session o.strokes (o.next ++ rest)
    unfolding outcome
    one = subst (λ (b : Base). IsTurn kept t now session (turn (seen kept t now session base w going b) session u).strokes ((turn (seen kept t now session base w going b) session u).next ++ rest)) base
        (turn_is kept t now session base w going u rest (subst (IsAt true now (session - 1)) is (going.each (session - 1))) (subst (AllByRecursion IsNamed) is (named (session - 1))) (subst (AreRecorded kept t) is (recorded (session - 1))))

    -- another session's turns
    abbrev kept_then : List Kept
    kept_then = kept_along kept t (made o.strokes)

    abbrev t_then : Trail
    t_then = after_steps t (made o.strokes)

    others_recorded : (place : ℕ) → place ≢ session - 1 → (turns : List Turn) → IsAt true now place turns → AreRecorded kept t turns → AreRecorded kept_then t_then turns
    others_recorded place off turns (waits all) before = beginnings_recorded kept_then t_then turns all
    others_recorded place off turns (backs_up left b tail e all runs room free) before =
        subst (AreRecorded kept_then t_then) (sym e) (copies_recorded kept_then t_then left (ClosesBackup b ∷ tail)
        (one.others place b off runs (copies_left kept t left (ClosesBackup b ∷ tail) (subst (AreRecorded kept t) e before)).0, beginnings_recorded kept_then t_then tail all))
    others_recorded place off turns (copies left name tail e all runs free) before =
        subst (AreRecorded kept_then t_then) (sym e) (copies_recorded kept_then t_then left (ClosesCopy name ∷ tail) (tt, beginnings_recorded kept_then t_then tail all))
    others_recorded place off turns (ending reply tail e all runs) before = subst (AreRecorded kept_then t_then) (sym e) (tt, beginnings_recorded kept_then t_then tail all)
    others_recorded place off turns (merges all runs) before = merging_recorded kept_then t_then turns all

    made_recorded : AllRecorded kept_then t_then then
    made_recorded place = elim (eqb_tells place (session - 1)) [
      | inl w ↦ subst (λ (p : ℕ). AreRecorded kept_then t_then (get_or then.todo p [])) (sym w.1) (subst (AreRecorded kept_then t_then) (sym (own_todo session now u rest is o)) one.own)
      | inr w ↦ subst (AreRecorded kept_then t_then) (sym (other_todo session now u rest is o place w.1)) (others_recorded place w.1 (get_or now.todo place []) (going.each place) (recorded place))
    ]

    abbrev settling : List Step
    settling = elim (event_of session u o).syncs as (λ z. List Step) [ true ↦ settles ∷ [] | false ↦ [] ]

    taken_well : StaysWell kept t (event_of session u o ∷ [], then)
    taken_well = record {
      along = subst (WellAlong kept t) (sym steps)
          (along_append kept t (made o.strokes) settling one.along (settling_along kept_then t_then (event_of session u o).syncs (along_last kept t (made o.strokes) one.along)));
      recorded = subst (λ (ss : List Step). AllRecorded (kept_along kept t ss) (after_steps t ss) then) (sym steps)
          (subst (λ (rs : List Kept). AllRecorded rs (after_steps t (made o.strokes ++ settling)) then) (sym (kept_append kept t (made o.strokes) settling))
          (subst (λ (v : Trail). AllRecorded (kept_along kept_then t_then settling) v then) (sym (after_steps_append t (made o.strokes) settling))
          (settling_recorded kept_then t_then then (event_of session u o).syncs made_recorded)));
      base = steps_seen t (event_of session u o ∷ []) ∙ ap (base_after t.base) (strokes_one (event_of session u o)) ∙ ap (λ (b : Base). base_after b o.strokes) base ∙ sym (then_base session rest o now);
    }
      where
        steps : steps_of (event_of session u o ∷ []) ≡ made o.strokes ++ settling
        steps = steps_one (event_of session u o)

  idle_well : StaysWell kept t ([], now)
  unfolding after_steps steps_of
  idle_well = record { along = w; recorded = recorded; base = base }

  pub one_well : StaysWell kept t (one_turn session now)
  one_well = one_cases (StaysWell kept t) session now idle_well taken_well

-- Turns in an order: what was seen is well along all of their steps, and each backup that is under way is recorded.
pub play_well : (order : List ℕ) (kept : List Kept) (t : Trail) (now : Now) → t.base ≡ base_now now → IsWellTrail kept t → IsGoing true now → AreNamed now → AllRecorded kept t now → StaysWell kept t (play order now)
unfolding play
play_well [] kept t now base w going named recorded = idle_well kept t now 0 base w going named recorded
play_well (x ∷ xs) kept t now base w going named recorded =
    let es : List Event = (one_turn x now).0 in
    let mid : Now = (one_turn x now).1 in
    let later : Played = play xs mid in
    let one : StaysWell kept t (one_turn x now) = one_well kept t now x base w going named recorded in
    let rest : StaysWell (kept_along kept t (steps_of es)) (after_steps t (steps_of es)) later =
    play_well xs (kept_along kept t (steps_of es)) (after_steps t (steps_of es)) mid one.base (along_last kept t (steps_of es) one.along) (going_turn x now named going) (named_turn x now named going) one.recorded in
    record {
      along = subst (WellAlong kept t) (sym (steps_append es later.0)) (along_append kept t (steps_of es) (steps_of later.0) one.along rest.along);
      recorded = subst (λ (ss : List Step). AllRecorded (kept_along kept t ss) (after_steps t ss) later.1) (sym (steps_append es later.0))
          (subst (λ (rs : List Kept). AllRecorded rs (after_steps t (steps_of es ++ steps_of later.0)) later.1) (sym (kept_append kept t (steps_of es) (steps_of later.0)))
          (subst (λ (v : Trail). AllRecorded (kept_along (kept_along kept t (steps_of es)) (after_steps t (steps_of es)) (steps_of later.0)) v later.1) (sym (after_steps_append t (steps_of es) (steps_of later.0))) rest.recorded));
      base = ap (λ (ss : List Step). (after_steps t ss).base) (steps_append es later.0) ∙ ap (λ (v : Trail). v.base) (after_steps_append t (steps_of es) (steps_of later.0)) ∙ rest.base;
    }

pub play_along : (order : List ℕ) (kept : List Kept) (t : Trail) (now : Now) → t.base ≡ base_now now → IsWellTrail kept t → IsGoing true now → AreNamed now → AllRecorded kept t now → WellAlong kept t (steps_of (play order now).0)
play_along order kept t now base w going named recorded = (play_well order kept t now base w going named recorded).along
