-- Turns during a backup leave the main file alone.
use Rattle.std.proofs.Common.{◌≡◌, inl, inr, ℕ, ◌-◌, List, [], ◌∷◌, ◌++◌, refl, sym, subst, ◌∙◌}
use Rattle.nb_top.proofs.Common.{World, IsTimely, Event, Now, Played, play, Trail}
use Rattle.nb_change.proofs.MomentLaws.{started}
use Rattle.std.specs.List.{slice_index_or}
use Rattle.nb_model.specs.Outcomes.{Turn}
unfoldable use Rattle.nb_model.specs.Run.{one_turn, take_turn, stands_then}
use Rattle.nb_model.specs.Steps.{steps_of, after_steps}
use Rattle.nb_model.proofs.TodoLaws.{one_turn_idle}
use Rattle.nb_session.specs.ByTurns.{ByTurns}
use Rattle.nb_session.specs.Ended.{EndsFirst}
use Rattle.nb_session.specs.Files.{IsUntouched}
use Rattle.nb_session.proofs.FilesLaws.{untouched_joined}
use Rattle.nb_session.proofs.InTurnLaws.{play_idle, play_none, play_then}
use Rattle.nb_session.proofs.PlayLaws.{after_none}
use Rattle.nb_top.specs.Frozen.{AreDuring, IsDuring, StaysWithin}

-- the database's name stays
taken_named : (session : ℕ) (turns : List Turn) (now : Now) → (take_turn session turns now).1.name ≡ now.name
unfolding take_turn stands_then
taken_named session [] now = refl
taken_named session (turn ∷ rest) now = refl

one_named : (session : ℕ) (now : Now) → (one_turn session now).1.name ≡ now.name
unfolding one_turn
one_named session now = taken_named session (slice_index_or now.todo (session - 1) []) now

play_named : (order : List ℕ) (now : Now) → (play order now).1.name ≡ now.name
unfolding play
play_named [] now = refl
play_named (x ∷ order) now = play_named order (one_turn x now).1 ∙ one_named x now

-- one turn
one_stays : (old new : World) (t : Trail) (now : Now) (session : ℕ) (turns : List Turn) → IsDuring turns t → EndsFirst ⊥ (Unit {0}) old new now.name t now session turns → IsUntouched old new now.name
one_stays old new t now session [] during none = absurd none
one_stays old new t now session (turn ∷ rest) during ends = ends.files.frozen during.0 during.1

-- none
none_stays : (w : World) (name : List ℕ) → IsTimely w → IsUntouched w w name
none_stays w name timely = record { moments = started w _ timely (λ files said now. now.left name); left = λ c left. left; reads = refl }

module _ {H : Type 0} (world : H → World) (timely : (h : H) → IsTimely (world h)) (told : List Event → List Event) where
  -- all turns of an order
  all_stay : (order : List ℕ) (old new : H) (t : Trail) (now : Now) → AreDuring order t now → ByTurns world told order old new t now → IsUntouched (world old) (world new) now.name
  all_stay [] old new t now during same = subst (λ (h : H). IsUntouched (world old) (world h) now.name) (sym same) (none_stays (world old) now.name (timely old))
  all_stay (x ∷ order) old new t now during (inl idle) =
      all_stay order old new t now
      (subst (λ (u : Trail). AreDuring order u now) (after_none t)
      (subst (λ (p : Played). AreDuring order (after_steps t (steps_of p.0)) p.1) (one_turn_idle x now idle.0) during.1))
      idle.1
  all_stay (x ∷ order) old new t now during (inr taken) =
      untouched_joined (world old) (world taken.0) (world new) now.name
      (one_stays (world old) (world taken.0) t now x (slice_index_or now.todo (x - 1) []) during.0 taken.1.ends)
      (subst (IsUntouched (world taken.0) (world new)) (one_named x now) (all_stay order taken.0 new (after_steps t (steps_of (one_turn x now).0)) (one_turn x now).1 during.1 taken.2))

  -- turns are those before and those after
  parted : (front order : List ℕ) (old new : H) (t : Trail) (now : Now) → ByTurns world told (front ++ order) old new t now
      → (mid : H) × ByTurns world told front old mid t now × ByTurns world told order mid new (after_steps t (steps_of (play front now).0)) (play front now).1
  unfolding play
  parted [] order old new t now turns = (
    old,
    refl,
    subst (λ (p : Played). ByTurns world told order old new (after_steps t (steps_of p.0)) p.1) (sym (play_none now))
        (subst (λ (u : Trail). ByTurns world told order old new u now) (sym (after_none t)) turns),
  )
  parted (x ∷ front) order old new t now (inl idle) =
      let parts = parted front order old new t now idle.1 in
      (parts.0, inl (idle.0, parts.1), subst (λ (p : Played). ByTurns world told order parts.0 new (after_steps t (steps_of p.0)) p.1) (sym (play_idle x front now idle.0)) parts.2)
  parted (x ∷ front) order old new t now (inr taken) =
      let parts = parted front order taken.0 new (after_steps t (steps_of (one_turn x now).0)) (one_turn x now).1 taken.2 in (
        parts.0,
        inr (taken.0, taken.1, parts.1),
        subst (λ (u : Trail). ByTurns world told order parts.0 new u (play (x ∷ front) now).1) (sym (play_then x front now t)) parts.2,
      )

  -- A stretch of turns.
  pub stays_within : (front stretch rest : List ℕ) (old new : H) (t : Trail) (now : Now) → ByTurns world told (front ++ (stretch ++ rest)) old new t now
      → AreDuring stretch (after_steps t (steps_of (play front now).0)) (play front now).1 → StaysWithin world told front stretch rest old new t now
  stays_within front stretch rest old new t now turns during =
      let far : Trail = after_steps t (steps_of (play front now).0) in
      let then : Now = (play front now).1 in
      let first = parted front (stretch ++ rest) old new t now turns in
      let second = parted stretch rest first.0 new far then first.2 in
      record {
        entered = first.0;
        left = second.0;
        before = first.1;
        untouched = subst (IsUntouched (world first.0) (world second.0)) (play_named front now) (all_stay stretch first.0 second.0 far then during second.1);
        after = second.2;
      }
