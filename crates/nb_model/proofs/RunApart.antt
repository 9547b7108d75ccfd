-- A run leaves no page in danger: each turn finds the slot of the history that it needs, and leaves the others theirs.
use Rattle.std.proofs.Common.{◌≡◌, ◌≢◌, inl, inr, ℕ, zero, suc, ◌-◌, ◌≤◌, List, [], ◌∷◌, ◌++◌, get_or, length, replicate, take, refl, sym, ap, subst, ◌∙◌, Bool, true, false, None, ◌==◌, Contains}
use Rattle.nb_model.proofs.Common.{AllByRecursion, eqb-true, eqb_tells, all_go, all_both, all_append, Refusal, Reply, Statement, stalled_state, Ask, Base, Begins, Copies, ClosesBackup, ClosesCopy, Ends, Merges, Finishes, Backing, Turn, Seen, Outcome, next_guid, next_time, room_in, close_backup, close_copy, image_state, History, Spot, spots, found_pages, Image, page_at, IsNeat, HasHeader, IsSoundImage, Stroke, on_base, base_after, begin, ends, finish, ends_by, first_turn, turn, is_on_pages, IsNamed, AreNamed, AreBeginnings, IsAt, waits, backs_up, copies, merges, Runs, IsGoing, Now, Played, base_now, event_of, outcome, stands_then, one_turn, play, strokes_of}
unfoldable use Rattle.nb_model.specs.Pages.{end_strokes}
use Rattle.nb_model.specs.Going.{IsBeginning, ends as ending}
use Rattle.nb_model.specs.Danger.{StaysApart, HasItsPlace}
use Rattle.nb_model.specs.HistoryRows.{HasFreeRow, names_backup}
use Rattle.nb_model.proofs.Along.{Along, along_front, along_append, along_end}
use Rattle.nb_model.proofs.ChainWalks.{StaysLinked, linked_same}
use Rattle.nb_model.proofs.DangerLaws.{neat_none}
use Rattle.nb_model.proofs.FitLaws.{fitting_stays}
use Rattle.nb_model.proofs.FoundSpots.{each_held}
use Rattle.nb_model.proofs.GoingLaws.{next_sixteen, one_cases, one_runs, own_todo, other_todo, then_base, going_turn, named_turn}
use Rattle.nb_model.proofs.HeldChains.{IsHeldIn, IsFormed, all_formed, same_spots}
use Rattle.nb_model.proofs.HeldLaws.{IsHeld}
use Rattle.nb_model.proofs.HeldTurns.{statement_holds}
use Rattle.nb_model.proofs.HistoryTurns.{Carries, named_by, backup_along, unbroken, begin_history, ends_history, finish_history, start_place, start_slots}
use Rattle.nb_model.proofs.LeadLaws.{found_leads}
use Rattle.nb_model.proofs.NeatLaws.{chains_are}
use Rattle.nb_model.proofs.NeatTurns.{turn_neat}
use Rattle.nb_model.proofs.NoRows.{HasNoRows}
use Rattle.nb_model.proofs.OutputLaws.{strokes_one}
use Rattle.nb_model.proofs.PagesFit.{pages_fit}
use Rattle.nb_model.proofs.PutSound.{header_whole}
use Rattle.nb_model.proofs.RoomLaws.{in_chain, chain_owner}
use Rattle.nb_model.proofs.RunLaws.{strokes_of-append, one_is}
use Rattle.nb_model.proofs.SoundTurns.{seen_now}
use Rattle.nb_model.proofs.TurnCases.{statement_cases, refused, MayStart, started, begin_either, end_either, activate_either, backup_either, since_either, copy_either, pages_once}

-- each slot of the history is there still
abbrev KeepsSlots : Image → Image → Type 0
KeepsSlots x y = (u : Spot) → Contains (spots History x) u → Contains (spots History y) u

same_slots : (x y : Image) → spots History y ≡ spots History x → KeepsSlots x y
same_slots x y same u at = subst (λ (us : List Spot). Contains us u) (sym same) at

slot_kept : (x y : Image) → KeepsSlots x y → (page slot : ℕ) → HasFreeRow x page slot → HasFreeRow y page slot
slot_kept x y keeps page slot place = record { bytes = place.bytes; there = keeps (record { page = page; slot = slot; bytes = place.bytes }) place.there; free = place.free }

-- What a turn leaves: the slots of the history, and what is left to do has its place.
record StepsOn (s : Seen) (o : Outcome) : Type 0 where
  slots : KeepsSlots s.base.image (base_after s.base o.strokes).image
  next : AllByRecursion (HasItsPlace (base_after s.base o.strokes).image) o.next

repeated : (P : Turn → Type 0) (n : ℕ) (t : Turn) (ts : List Turn) → P t → AllByRecursion P ts → AllByRecursion P (replicate n t ++ ts)
repeated P zero t ts h all = all
repeated P (suc n) t ts h all = (h, repeated P n t ts h all)

one_slots : (c : Base) (st : Stroke) → spots History (on_base st c).image ≡ spots History c.image → KeepsSlots c.image (base_after c (st ∷ [])).image
unfolding base_after
one_slots c st same = same_slots c.image (on_base st c).image same

no_slots : (c : Base) → KeepsSlots c.image (base_after c []).image
unfolding base_after
no_slots c u at = at

module _ (s : Seen) (session : ℕ) (header : HasHeader s.base.image) (is : IsSoundImage s.base.image) (neat : IsNeat s.base.image) (sixteen : length (next_guid s.given) ≡ 16) where
  abbrev x : Image
  x = s.base.image

  none_steps : (o : Outcome) → o.strokes ≡ [] → o.next ≡ [] → StepsOn s o
  none_steps o none over = record {
    slots = subst (λ (ss : List Stroke). KeepsSlots x (base_after s.base ss).image) (sym none) (no_slots s.base);
    next = subst (AllByRecursion (HasItsPlace (base_after s.base o.strokes).image)) (sym over) tt;
  }

  refused_steps : (r : Refusal) → StepsOn s (refused s r)
  refused_steps r = none_steps (refused s r) refl refl

  -- A statement on pages leaves each page of the history as it is.
  pages_steps : (statement : Statement) → is_on_pages statement ≡ true → IsNamed (Begins statement) → StepsOn s (first_turn s session statement)
  pages_steps statement on named = record {
    slots = same_slots x y (same_spots x header is neat y longer History formed (all_go Facts (λ q. page_at y q ≡ page_at x q) (found_pages History x) (λ q facts. (still q facts).is) facts) (all_go Facts (StaysLinked History x y) (found_pages History x) (λ q facts. linked_same History x y q longer facts.0.in_it (still q facts).is) facts));
    next = subst (AllByRecursion (HasItsPlace y)) (sym (pages_once statement on s session).next) tt;
  }
    where
      y : Image
      y = (base_after s.base (first_turn s session statement).strokes).image

      formed : IsFormed x header is neat History
      formed = (subst (AllByRecursion (IsFormed x header is neat)) (chains_are x) (all_formed x header is neat)).1.0

      longer : length x ≤ length y
      longer = (fitting_stays HasNoRows (first_turn s session statement).strokes s.base (pages_fit statement on named s session header is) (header_whole x header is)).longer

      Facts : ℕ → Type 0
      Facts q = IsHeldIn History x q × Contains (found_pages History x) q

      facts : AllByRecursion Facts (found_pages History x)
      facts = all_both (IsHeldIn History x) (Contains (found_pages History x)) (found_pages History x) formed.each (each_held (found_pages History x))

      still : (q : ℕ) → Facts q → IsHeld q (page_at x q) y
      still q facts = statement_holds q (page_at x q) (record { of_kind = (in_chain History x q facts.0.in_it).1; owner = chain_owner History x q facts.0.in_it }) statement on named s session header is
          (found_leads x q (unbroken x header is neat) facts.1) facts.0.held

  merging_next : (y : Image) (n : ℕ) (reply : Reply) → AllByRecursion (HasItsPlace y) (replicate n Merges ++ Finishes reply ∷ [])
  merging_next y n reply = repeated (HasItsPlace y) n Merges (Finishes reply ∷ []) tt (tt, tt)

  ends_steps : (reply : Reply) → StepsOn s (ends_by s session reply)
  unfolding ends_by end_strokes
  ends_steps reply = record { slots = by (image_state x == stalled_state) refl; next = merging_next _ (length s.base.diverted) reply }
    where
      by : (t : Bool) → (image_state x == stalled_state) ≡ t → KeepsSlots x (base_after s.base (elim t as (λ z. List Stroke) [ true ↦ ends ∷ [] | false ↦ [] ])).image
      by true e = one_slots s.base ends (ends_history s.base header is neat (eqb-true (image_state x) stalled_state e))
      by false e = no_slots s.base

  starts_steps : (name : List ℕ) (ask : Ask) → MayStart s name → StepsOn s (started s session name ask)
  starts_steps name ask may = record {
    slots = start_slots s.base header is neat may.left (next_guid s.given) ask may.may.scn sixteen;
    next = repeated (HasItsPlace _) (length (room_in x).draft.image) Copies _ tt (start_place s.base header is neat may.left (next_guid s.given) ask may.may.scn sixteen, tt);
  }

  first_steps : (statement : Statement) → IsNamed (Begins statement) → StepsOn s (first_turn s session statement)
  unfolding first_turn
  first_steps = statement_cases (λ statement. IsNamed (Begins statement) → StepsOn s (first_turn s session statement)) pages_steps
      (λ named. begin_either (StepsOn s) s refused_steps (λ may. record { slots = one_slots s.base (begin (next_guid s.given) None) (begin_history s.base header is neat (next_guid s.given) None may.scn sixteen); next = tt }))
      (λ named. end_either (StepsOn s) s session refused_steps (λ may. ends_steps _))
      (λ named. activate_either (StepsOn s) s session refused_steps (none_steps _ refl refl) (λ may. ends_steps _))
      (λ level name named. backup_either (StepsOn s) s session level name refused_steps (λ ask from may. starts_steps name ask may))
      (λ guid name named. since_either (StepsOn s) s session guid name refused_steps (λ ask from may. starts_steps name ask may))
      (λ name named. copy_either (StepsOn s) s session name refused_steps (λ may. record { slots = no_slots s.base; next = repeated (HasItsPlace _) (length s.base.frozen) Copies (ClosesCopy name ∷ []) tt (tt, tt) }))

  -- so does each turn but the close of a backup
  abbrev IsOther : Turn → Type 0
  IsOther t = (b : Backing) → t ≢ ClosesBackup b

  turn_steps : (t : Turn) → IsNamed t → IsOther t → StepsOn s (turn s session t)
  unfolding turn close_copy
  turn_steps (Begins statement) named other = first_steps statement named
  turn_steps Copies named other = none_steps _ refl refl
  turn_steps (ClosesBackup b) named other = absurd (other b refl)
  turn_steps (ClosesCopy name) named other = none_steps _ refl refl
  turn_steps (Ends reply) named other = ends_steps reply
  turn_steps Merges named other = none_steps _ refl refl
  turn_steps (Finishes reply) named other = record { slots = one_slots s.base finish (finish_history s.base header is neat); next = tt }

-- What waits has its place still, where the slots of the history are kept, or where it only begins.
moved_all : (x y : Image) → KeepsSlots x y → (ts : List Turn) → AllByRecursion (HasItsPlace x) ts → AllByRecursion (HasItsPlace y) ts
moved_all x y keeps [] all = tt
moved_all x y keeps (t ∷ ts) all = (one t all.0, moved_all x y keeps ts all.1)
  where
    one : (t : Turn) → HasItsPlace x t → HasItsPlace y t
    one (Begins statement) place = place
    one Copies place = tt
    one (ClosesBackup b) place = slot_kept x y keeps b.page b.slot place
    one (ClosesCopy name) place = tt
    one (Ends reply) place = tt
    one Merges place = tt
    one (Finishes reply) place = tt

moved_begun : (x y : Image) (ts : List Turn) → AreBeginnings ts → AllByRecursion (HasItsPlace x) ts → AllByRecursion (HasItsPlace y) ts
moved_begun x y [] begun all = tt
moved_begun x y (t ∷ ts) begun all = (one t begun.0 all.0, moved_begun x y ts begun.1 all.1)
  where
    one : (t : Turn) → IsBeginning t → HasItsPlace x t → HasItsPlace y t
    one (Begins statement) is place = place
    one Copies is place = absurd is
    one (ClosesBackup b) is place = absurd is
    one (ClosesCopy name) is place = absurd is
    one (Ends reply) is place = absurd is
    one Merges is place = absurd is
    one (Finishes reply) is place = absurd is

-- A session that closes a backup runs, and only begins statements after it.
closing_at : (now : Now) (place : ℕ) (b : Backing) (rest : List Turn) → IsAt true now place (ClosesBackup b ∷ rest) → Runs now place 1 × AreBeginnings rest
closing_at now place b rest (waits all) = absurd all.0
closing_at now place b rest (backs_up zero backing tail e all runs room free) = let same : rest ≡ tail = cc in (runs, subst AreBeginnings (sym same) all)
closing_at now place b rest (backs_up (suc n) backing tail e all runs room free) = cc
closing_at now place b rest (copies zero name tail e all runs free) = cc
closing_at now place b rest (copies (suc n) name tail e all runs free) = cc
closing_at now place b rest (ending reply tail e all runs) = cc
closing_at now place b rest (merges turns runs) = absurd turns

-- One that doesn't run only begins statements.
waiting_at : (now : Now) (place : ℕ) (ts : List Turn) → ((number : ℕ) → Runs now place number → ⊥) → IsAt true now place ts → AreBeginnings ts
waiting_at now place ts none (waits all) = all
waiting_at now place ts none (backs_up left backing tail e all runs room free) = absurd (none 1 runs)
waiting_at now place ts none (copies left name tail e all runs free) = absurd (none 1 runs)
waiting_at now place ts none (ending reply tail e all runs) = absurd (none 1 runs)
waiting_at now place ts none (merges turns runs) = absurd (none 2 runs)

abbrev Places : Now → Type 0
Places now = (place : ℕ) → AllByRecursion (HasItsPlace (base_now now).image) (get_or now.todo place [])

record IsApart (now : Now) : Type 0 where
  going : IsGoing true now
  named : AreNamed now
  neat : IsNeat (base_now now).image
  places : Places now

front_along : (Q : Image → Type 0) (b : Base) (ss : List Stroke) → ((k : ℕ) → Q (base_after b (take k ss)).image) → Along Q b ss
unfolding base_after
front_along Q b [] each = each 0
front_along Q b (st ∷ ss) each = (each 0, front_along Q (on_base st b) ss (λ k. each (suc k)))

module _ (session : ℕ) (now : Now) (apart : IsApart now) (u : Turn) (rest : List Turn) (is : get_or now.todo (session - 1) [] ≡ u ∷ rest) where
  abbrev o : Outcome
  o = outcome session u now

  abbrev last : Now
  last = stands_then session rest o now

  abbrev z : Image
  z = (base_after (base_now now) o.strokes).image

  named_here : AllByRecursion IsNamed (u ∷ rest)
  named_here = subst (AllByRecursion IsNamed) is (apart.named (session - 1))

  place_here : AllByRecursion (HasItsPlace (base_now now).image) (u ∷ rest)
  place_here = subst (AllByRecursion (HasItsPlace (base_now now).image)) is (apart.places (session - 1))

  its_along : Along IsNeat (base_now now) o.strokes
  unfolding outcome
  its_along = front_along IsNeat (base_now now) o.strokes (turn_neat (seen_now now) session apart.going.header (apart.going.sure refl) apart.neat u named_here.0 place_here.0 (next_sixteen now.given apart.going.sixteen))

  -- what is left, here and elsewhere, and which backups are named
  record Left : Type 0 where
    names : (guid : List ℕ) → names_backup (base_now now).image guid ≡ true → names_backup z guid ≡ true
    own : AllByRecursion (HasItsPlace z) (o.next ++ rest)
    others : (place : ℕ) → place ≢ session - 1 → AllByRecursion (HasItsPlace z) (get_or now.todo place [])

  other_left : ((b : Backing) → u ≢ ClosesBackup b) → Left
  unfolding outcome
  other_left other =
      let steps : StepsOn (seen_now now) o = turn_steps (seen_now now) session apart.going.header (apart.going.sure refl) apart.neat (next_sixteen now.given apart.going.sixteen) u named_here.0 other in
      record {
        names = named_by (base_now now).image z (λ v at used. steps.slots v at);
        own = all_append (HasItsPlace z) o.next rest steps.next (moved_all (base_now now).image z steps.slots rest place_here.1);
        others = λ place off. moved_all (base_now now).image z steps.slots (get_or now.todo place []) (apart.places place);
      }

  -- a backup that closes keeps the names of the others
  closed : (b : Backing) → IsNamed (ClosesBackup b) → HasFreeRow (base_now now).image b.page b.slot → (guid : List ℕ) → names_backup (base_now now).image guid ≡ true
      → names_backup (base_after (base_now now) (outcome session (ClosesBackup b) now).strokes).image guid ≡ true
  unfolding outcome turn close_backup
  closed b named place guid e =
      (along_end (Carries (base_now now).image) (base_now now) _ (backup_along (base_now now) apart.going.header (apart.going.sure refl) apart.neat b.page b.slot place b.ask.level b.scn (next_time now.given) b.guid b.name named.1 named.0)).names guid e

  closing_left : (b : Backing) → u ≡ ClosesBackup b → Left
  unfolding outcome turn close_backup
  closing_left b e =
      let facts : Runs now (session - 1) 1 × AreBeginnings rest = closing_at now (session - 1) b rest (subst (IsAt true now (session - 1)) (is ∙ ap (λ (t : Turn). t ∷ rest) e) (apart.going.each (session - 1))) in
      record {
        names = subst (λ (t : Turn). (guid : List ℕ) → names_backup (base_now now).image guid ≡ true → names_backup (base_after (base_now now) (outcome session t now).strokes).image guid ≡ true) (sym e)
            (closed b (subst IsNamed e named_here.0) (subst (HasItsPlace (base_now now).image) e place_here.0));
        own = all_append (HasItsPlace z) o.next rest (subst (λ (t : Turn). AllByRecursion (HasItsPlace z) (outcome session t now).next) (sym e) (tt, tt)) (moved_begun (base_now now).image z rest facts.1 place_here.1);
        others = λ place off. moved_begun (base_now now).image z (get_or now.todo place []) (waiting_at now place (get_or now.todo place []) (λ number runs. off (one_runs now place (session - 1) number 1 runs facts.0)) (apart.going.each place)) (apart.places place);
      }

  left : Left
  left = by u refl
    where
      by : (t : Turn) → u ≡ t → Left
      by (ClosesBackup b) e = closing_left b e
      by (Begins statement) e = other_left (λ b f. no statement b (sym e ∙ f))
        where
          no : (statement : Statement) (b : Backing) → Begins statement ≡ ClosesBackup b → ⊥
          no statement b h = cc
      by Copies e = other_left (λ b f. no b (sym e ∙ f))
        where
          no : (b : Backing) → Copies ≡ ClosesBackup b → ⊥
          no b h = cc
      by (ClosesCopy name) e = other_left (λ b f. no name b (sym e ∙ f))
        where
          no : (name : List ℕ) (b : Backing) → ClosesCopy name ≡ ClosesBackup b → ⊥
          no name b h = cc
      by (Ends reply) e = other_left (λ b f. no reply b (sym e ∙ f))
        where
          no : (reply : Reply) (b : Backing) → Ends reply ≡ ClosesBackup b → ⊥
          no reply b h = cc
      by Merges e = other_left (λ b f. no b (sym e ∙ f))
        where
          no : (b : Backing) → Merges ≡ ClosesBackup b → ⊥
          no b h = cc
      by (Finishes reply) e = other_left (λ b f. no reply b (sym e ∙ f))
        where
          no : (reply : Reply) (b : Backing) → Finishes reply ≡ ClosesBackup b → ⊥
          no reply b h = cc

  last_names : (guid : List ℕ) → names_backup (base_now now).image guid ≡ true → names_backup (base_now last).image guid ≡ true
  last_names guid e = subst (λ (c : Base). names_backup c.image guid ≡ true) (sym (then_base session rest o now)) (left.names guid e)

  last_neat : IsNeat (base_now last).image
  last_neat = subst (λ (c : Base). IsNeat c.image) (sym (then_base session rest o now)) (along_end IsNeat (base_now now) o.strokes its_along)

  last_places : Places last
  last_places place = subst (λ (c : Base). AllByRecursion (HasItsPlace c.image) (get_or last.todo place [])) (sym (then_base session rest o now)) (elim (eqb_tells place (session - 1)) [
    | inl w ↦ subst (λ (p : ℕ). AllByRecursion (HasItsPlace z) (get_or last.todo p [])) (sym w.1) (subst (AllByRecursion (HasItsPlace z)) (sym (own_todo session now u rest is o)) left.own)
    | inr w ↦ subst (AllByRecursion (HasItsPlace z)) (sym (other_todo session now u rest is o place w.1)) (left.others place w.1)
  ])

-- What one number of an order leaves.
record OneApart (now : Now) (p : Played) : Type 0 where
  names : (guid : List ℕ) → names_backup (base_now now).image guid ≡ true → names_backup (base_now p.1).image guid ≡ true
  along : Along IsNeat (base_now now) (strokes_of p.0)
  neat : IsNeat (base_now p.1).image
  places : Places p.1

one_leaves : (session : ℕ) (now : Now) → IsApart now → OneApart now (one_turn session now)
unfolding strokes_of
one_leaves session now apart = one_cases (OneApart now) session now (record { names = λ guid e. e; along = apart.neat; neat = apart.neat; places = apart.places }) (λ u rest is. record {
  names = last_names session now apart u rest is;
  along = subst (Along IsNeat (base_now now)) (sym (strokes_one (event_of session u (outcome session u now)))) (its_along session now apart u rest is);
  neat = last_neat session now apart u rest is;
  places = last_places session now apart u rest is;
})

-- so it is apart
one_then : (session : ℕ) (now : Now) → IsApart now → IsApart (one_turn session now).1
one_then session now apart =
    let here : OneApart now (one_turn session now) = one_leaves session now apart in
    record { going = going_turn session now apart.named apart.going; named = named_turn session now apart.named apart.going; neat = here.neat; places = here.places }

run_along : (order : List ℕ) (now : Now) → IsApart now → Along IsNeat (base_now now) (strokes_of (play order now).0)
unfolding play strokes_of
run_along [] now apart = apart.neat
run_along (session ∷ order) now apart =
    let here : OneApart now (one_turn session now) = one_leaves session now apart in
    let next : Now = (one_turn session now).1 in
    let then : IsApart next = one_then session now apart in
    subst (Along IsNeat (base_now now)) (sym (strokes_of-append (one_turn session now).0 (play order next).0))
    (along_append IsNeat (base_now now) (strokes_of (one_turn session now).0) (strokes_of (play order next).0) here.along
    (subst (λ (c : Base). Along IsNeat c (strokes_of (play order next).0)) (one_is session now) (run_along order next then)))

-- At each front of the strokes of a run the image is neat, and no page is in danger.
pub run_apart : (now : Now) (order : List ℕ) → IsGoing true now → AreNamed now → IsNeat (base_now now).image → ((place : ℕ) → AllByRecursion (HasItsPlace (base_now now).image) (get_or now.todo place [])) → StaysApart (base_now now) (strokes_of (play order now).0)
run_apart now order going named neat places =
    let along : Along IsNeat (base_now now) (strokes_of (play order now).0) = run_along order now (record { going = going; named = named; neat = neat; places = places }) in
    let each : (k : ℕ) → IsNeat (base_after (base_now now) (take k (strokes_of (play order now).0))).image = along_front IsNeat (base_now now) (strokes_of (play order now).0) along in
    record { neat = each; none = λ k. neat_none _ (each k) }

-- And each backup that was named is named still after it.
run_names : (order : List ℕ) (now : Now) → IsApart now → (guid : List ℕ) → names_backup (base_now now).image guid ≡ true → names_backup (base_now (play order now).1).image guid ≡ true
unfolding play
run_names [] now apart guid e = e
run_names (session ∷ order) now apart guid e = run_names order (one_turn session now).1 (one_then session now apart) guid ((one_leaves session now apart).names guid e)

pub run_named : (now : Now) (order : List ℕ) (guid : List ℕ) → IsGoing true now → AreNamed now → IsNeat (base_now now).image → ((place : ℕ) → AllByRecursion (HasItsPlace (base_now now).image) (get_or now.todo place [])) → names_backup (base_now now).image guid ≡ true
    → names_backup (base_now (play order now).1).image guid ≡ true
run_named now order guid going named neat places e = run_names order now (record { going = going; named = named; neat = neat; places = places }) guid e
