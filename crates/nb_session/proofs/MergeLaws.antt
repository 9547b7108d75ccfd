-- The turns of the end of a backup.
use Rattle.std.proofs.Common.{◌≡◌, ◌≢◌, IfErr, inl, inr, ℕ, zero, suc, ◌+◌, ◌-◌, ◌<◌, List, [], ◌∷◌, ◌++◌, length, replicate, refl, sym, ap, subst, ◌∙◌, arith, true≢false, Result, Ok, Err, IsErr, Option, Some, None, Bool, true, false, not, ◌==◌, ◌≤◌}
use Rattle.nb_session.proofs.Common.{slice_index_or, eqb_tells, append-nil, normal_state, stalled_state, World, Fault, Refused, Device, Memory, HostFault, RunError, Refusal, Reply, Scn, Sync, Base, Cause, first_cause, when, runs_other, IsAt, IsGoing, IsMaking, Image, image_state, Turn, Begins, Ends, Finishes, Seen, Outcome, unless, passes, end_turn, ends_by, end_scn, end_strokes, Now, base_now, outcome, event_of, is_sync, Stroke, finish, on_base, base_after, Trail, turn, end_either, Strikes, after_strokes, IsNoRefusal, Held, IsOpen, name_of, WhereEnded, GoesOn, Progress, More, Finished, after_base, where_ended, DoesEnd, Says, Acts, MayAct, IsMerging, left_refused, merge_first, merge_rest, task_todo, Left, Taken, Task, Merge, Told, IsReady, EndsEarly, IsBehind, Turns, only_told, some_none, none_some}
use Rattle.nb_fields.specs.States.{merge_state}
use Rattle.nb_session.proofs.FilesLaws.{grows_sized}
use Rattle.nb_session.specs.Files.{LeavesFiles, TurnLeaves, is_end, is_finish}
use Rattle.nb_session.specs.Replies.{HasEnded}
use Rattle.nb_base.specs.Stays.{GrowsWithin}
use Rattle.nb_model.specs.Owner.{delta_name}
use Rattle.nb_model.specs.Trail.{after_stroke}
use Rattle.nb_model.specs.Image.{image_guid, image_scn, trimmed}
use Rattle.nb_model.proofs.TrailLaws.{trail_base}
use Rattle.nb_model.proofs.TrimLaws.{finish_base, trimmed_length}
use Rattle.nb_model.proofs.ControlSound.{control_long}
use Rattle.nb_change.specs.Changes.{Only}
use Rattle.nb_base.specs.Open.{OfFiles}
use Rattle.nb_base.specs.Takes.{StrikesOn}
use Rattle.nb_base.proofs.TouchLaws.{strikes_more}
use Rattle.nb_host.specs.declared.refusals.Refusal.TheVariants.{WrongState, BackupRunning}
use Rattle.nb_model.specs.declared.reply.Reply.TheVariants.{Refused as RefusedBy}
use Rattle.nb_model.specs.Outcomes.{Merges as MergesOne}
use Rattle.nb_model.specs.Strokes.{ends}
use Rattle.nb_state.specs.Turns.{Merges}
use Rattle.nb_session.proofs.ActLaws.{trail_plain, ended_map, strikes_left, kept_none, says_none, idle_unchanged}
use Rattle.nb_session.proofs.EventLaws.{marks_none, unsaid}
use Rattle.nb_session.proofs.GiftLaws.{given_nothing, grows_none}
use Rattle.nb_session.proofs.TouchingLaws.{ends_touch}
use Rattle.nb_session.proofs.TurnLaws.{seen_now, turns_lost}
use Rattle.nb_alloc.proofs.WantLaws.{not_wanted}
use Rattle.nb_session.specs.Short.{RanOut}
use Rattle.nb_session.proofs.WayLaws.{merge_turns, ending_at}
use Rattle.nb_model.proofs.WholeLaws.{two_none}

-- the last operation of a merge makes no image longer
finish_shorter : (t : Trail) → length (after_stroke finish t).base.image ≤ length t.base.image
finish_shorter t =
    omega (arith, ap (λ (b : Base). length b.image) (trail_base finish t ∙ finish_base t.base), control_long normal_state (image_scn t.base.image) (image_guid t.base.image) (trimmed t.base.image), trimmed_length t.base.image)

-- The parts of a turn that ends the stalled state.
module _ (s : Seen) (session : ℕ) (reply : Reply) where
  ends_strokes : (ends_by s session reply).strokes ≡ end_strokes s.base.image
  unfolding ends_by
  ends_strokes = refl

  ends_reply : (ends_by s session reply).reply ≡ None
  unfolding ends_by
  ends_reply = refl

-- the end of a backup, where nothing is against it
abbrev ending : Seen → (session : ℕ) → Outcome
ending s session = ends_by s session (Scn (end_scn s.base.image))

abbrev pub end_causes : Seen → (session : ℕ) → Cause
end_causes s session = first_cause (when (image_state s.base.image == normal_state) (WrongState 0) ∷ runs_other s.running session ∷ [])

pub end_turn_is : (s : Seen) (session : ℕ) → end_turn s session ≡ unless s (end_causes s session) (ending s session)
unfolding end_turn
end_turn_is s session = refl

-- where it says nothing yet
end_goes : (s : Seen) (session : ℕ) → (end_turn s session).reply ≡ None → end_turn s session ≡ ending s session
end_goes s session = end_either (λ o. o.reply ≡ None → o ≡ ending s session) s session (λ r is. absurd (some_none (RefusedBy r) is)) (λ may is. refl)

-- A turn does the same as the first of an end, or is refused as it is, but for what it says once all is merged.
pub record IsAlike (s : Seen) (reply : Reply) (first o : Outcome) : Type 0 where
  pub strokes : first.strokes ≡ o.strokes
  pub says : first.reply ≡ o.reply
  pub running : first.running ≡ o.running
  pub given : o.given ≡ s.given
  pub made : o.made ≡ None
  pub next : first.reply ≡ None → o.next ≡ replicate (length s.base.diverted) MergesOne ++ Finishes reply ∷ []
  pub none : (refusal : Refusal) → first.reply ≡ Some (RefusedBy refusal) → o.next ≡ []

module _ (s : Seen) (session : ℕ) (one other : Reply) where
  begun_alike : IsAlike s other (ends_by s session one) (ends_by s session other)
  unfolding ends_by
  begun_alike = record { strokes = refl; says = refl; running = refl; given = refl; made = refl; next = λ quiet. refl; none = λ refusal is. absurd (none_some (RefusedBy refusal) is) }

  -- refused by the same cause, if there is one
  alike_by : (cause : Cause) → IsAlike s other (unless s cause (ends_by s session one)) (unless s cause (ends_by s session other))
  unfolding unless
  alike_by None = begun_alike
  alike_by (Some refusal) = record { strokes = refl; says = refl; running = refl; given = refl; made = refl; next = λ quiet. absurd (some_none (RefusedBy refusal) quiet); none = λ r is. refl }

  -- or not refused
  alike_quiet : (cause : Cause) → (unless s cause (ends_by s session one)).reply ≡ None → IsAlike s other (unless s cause (ends_by s session one)) (ends_by s session other)
  unfolding unless
  alike_quiet None quiet = begun_alike
  alike_quiet (Some refusal) quiet = absurd (some_none (RefusedBy refusal) quiet)

-- one that ends the backup of what is seen
abbrev pub EndsAs : Seen → (session : ℕ) → Reply → Outcome → Type 0
EndsAs s session reply o = IsAlike s reply (end_turn s session) o

pub ends_as : (s : Seen) (session : ℕ) (reply : Reply) (o : Outcome) → o ≡ unless s (end_causes s session) (ends_by s session reply) → EndsAs s session reply o
ends_as s session reply o is =
    subst (λ (first : Outcome). IsAlike s reply first o) (sym (end_turn_is s session))
    (subst (IsAlike s reply (unless s (end_causes s session) (ending s session))) (sym is) (alike_by s session (Scn (end_scn s.base.image)) reply (end_causes s session)))

own_runs : (session : ℕ) → runs_other (Some session) session ≡ None
own_runs session = elim (eqb_tells session session) [
  | inl w ↦ ap (λ (b : Bool). when (not b) (BackupRunning session)) w.0
  | inr w ↦ absurd (w.1 refl)
]

none_against : (s : Seen) (session : ℕ) → image_state s.base.image ≡ stalled_state → s.running ≡ Some session → end_causes s session ≡ None
none_against s session stalled runs =
    two_none _ _ (ap (λ (n : ℕ). when (n == 0) (WrongState 0)) stalled) (ap (λ (r : Option ℕ). runs_other r session) runs ∙ own_runs session)

unopposed : (s : Seen) (session : ℕ) → (unless s None (ending s session)).reply ≡ None
unfolding unless
unopposed s session = ends_reply s session (Scn (end_scn s.base.image))

end_quiet : (s : Seen) (session : ℕ) → image_state s.base.image ≡ stalled_state → s.running ≡ Some session → (end_turn s session).reply ≡ None
end_quiet s session stalled runs =
    ap (λ (o : Outcome). o.reply) (end_turn_is s session) ∙ ap (λ (c : Cause). (unless s c (ending s session)).reply) (none_against s session stalled runs) ∙ unopposed s session

-- the end of the stalled state diverts no page
ends_diverted : (b : Base) (state : Bool) → (base_after b (elim state as (λ z. List Stroke) [ true ↦ ends ∷ [] | false ↦ [] ])).diverted ≡ b.diverted
unfolding base_after on_base
ends_diverted b true = refl
ends_diverted b false = refl

end_diverted : (b : Base) (image : Image) → (base_after b (end_strokes image)).diverted ≡ b.diverted
unfolding end_strokes
end_diverted b image = ends_diverted b (image_state image == stalled_state)

ends_is : (session : ℕ) (reply : Reply) (now : Now) → outcome session (Ends reply) now ≡ ends_by (seen_now now) session reply
unfolding outcome turn
ends_is session reply now = refl

-- after a backup, where its session runs
ends_alike : (session : ℕ) (reply : Reply) (now : Now) → (end_turn (seen_now now) session).reply ≡ None → EndsAs (seen_now now) session reply (outcome session (Ends reply) now)
ends_alike session reply now quiet =
    let s = seen_now now in
    subst (EndsAs s session reply) (sym (ends_is session reply now))
    (subst (λ (first : Outcome). first.reply ≡ None → IsAlike s reply first (ends_by s session reply)) (sym (end_turn_is s session)) (alike_quiet s session (Scn (end_scn s.base.image)) reply (end_causes s session)) quiet)

-- an end is no last turn of a merge, and no `sync`
no_finish : (turn : Turn) → is_end turn ≡ true → is_finish turn ≡ false
no_finish (Finishes reply) over = absurd (true≢false (sym over))
no_finish other over = refl

no_sync : (turn : Turn) → is_end turn ≡ true → is_sync turn ≡ false
no_sync (Begins Sync) over = absurd (true≢false (sym over))
no_sync other over = refl

-- A turn that ends the stalled state, unless it is refused, and what is said once all is merged.
module _ (old new : World) (a b : Held) (t : Trail) (now : Now) (session : ℕ) (ready : IsReady old a t now) (u : Turn) (reply : Reply) (over : is_end u ≡ true) (alike : EndsAs (seen_now now) session reply (outcome session u now)) where
  abbrev turn_of : Outcome
  turn_of = end_turn (seen_now now) session

  abbrev this : Outcome
  this = outcome session u now

  -- the main file is frozen no more
  end_files : {ended : Type 0} (ss : List Stroke) → GrowsWithin old new (name_of a) a.files.page_size t ss → TurnLeaves ended old new (name_of a) t u ss
  end_files ss grows = record {
    frozen = λ stalled plain. absurd (true≢false (sym over ∙ plain));
    gone = λ merged. absurd (true≢false (sym merged.1 ∙ no_finish u over));
    long = grows_sized old new a t ss ready.opened grows;
  }

  pub end_acts : (result : Result ℕ Fault) → b.cap ≡ a.cap → IfErr result (λ fault. fault ≢ Memory) → DoesEnd result old new a b t (end_scn t.base.image) turn_of → MayAct (λ scn. None) result old new a b t now session u []
  end_acts result cap sure does =
      let event = event_of session u this in
      record {
        grows = grows_none old new does.gave;
        acts = λ told. record {
          says = subst (Says (λ scn. None) result) alike.says (says_none result turn_of.reply does.says);
          left = strikes_left old new (name_of a) t _ event alike.made (subst (Strikes old new (name_of a) t) alike.strokes does.left);
          opened = ended_map result (subst (IsOpen new b) (trail_plain t event (no_sync u over))) (subst (λ (ss : List Stroke). WhereEnded result (IsOpen new b (after_strokes t ss))) alike.strokes does.opened);
          running = subst (λ (r : Option ℕ). WhereEnded result (b.running ≡ r)) alike.running does.running;
          given = where_ended result _ (given_nothing old new now.given this.given does.gave alike.given);
          kept = where_ended result _ (kept_none new event alike.made);
          unchanged = idle_unchanged old new turn_of.reply event alike.says does.idle;
          short = not_wanted result _ sure;
          files = subst (TurnLeaves (HasEnded result) old new (name_of a) t u) alike.strokes (end_files turn_of.strokes does.long);
          name = does.name;
          cap = cap;
        };
      }

  -- as many turns are left then as there are entries, and a last one
  many : (entries : ℕ) → IsOpen new b (after_strokes t (end_strokes (base_now now).image)) → entries ≡ length b.files.entries → length (base_now now).diverted ≡ entries
  many entries opened are =
      let kept : (after_strokes t (end_strokes (base_now now).image)).base.diverted ≡ (base_now now).diverted =
      ap (λ (x : Base). x.diverted) (after_base t (end_strokes (base_now now).image)) ∙ end_diverted t.base (base_now now).image ∙ ap (λ (x : Base). x.diverted) ready.base in
      ap length (sym kept) ∙ sym (ap length opened.files.agrees.entries) ∙ sym are

  pub end_behind : (entries : ℕ) → entries ≡ length b.files.entries → (scn : ℕ) → DoesEnd (Ok scn) old new a b t (end_scn t.base.image) turn_of → IsBehind new b session u [] now (Some (Merge (record { left = entries; reply = reply })))
  end_behind entries are scn does =
      let strokes : turn_of.strokes ≡ end_strokes (base_now now).image =
      ap (λ (o : Outcome). o.strokes) (end_goes (seen_now now) session does.says) ∙ ends_strokes (seen_now now) session (Scn (end_scn (base_now now).image)) in
      let diverted : length (base_now now).diverted ≡ entries = many entries (subst (λ (ss : List Stroke). IsOpen new b (after_strokes t ss)) strokes does.opened) are in
      record {
        next = append-nil this.next ∙ alike.next does.says ∙ ap (λ (n : ℕ). replicate n MergesOne ++ Finishes reply ∷ []) diverted ∙ merge_turns entries (Finishes reply);
        goes = tt;
      }

  -- none is where it is refused
  pub end_refused : (refusal : Refusal) → DoesEnd (Err (Refused refusal)) old new a b t (end_scn t.base.image) turn_of → (w : World) → IsBehind w b session u [] now None
  end_refused refusal does w = record { next = append-nil this.next ∙ alike.none refusal does.says; goes = tt }

-- The end after a backup, where its session runs.
module _ (old new : World) (a b : Held) (t : Trail) (now : Now) (session : ℕ) (ready : IsReady old a t now) (reply : Reply) (quiet : (end_turn (seen_now now) session).reply ≡ None) where
  pub ends_acts : (result : Result ℕ Fault) → b.cap ≡ a.cap → IfErr result (λ fault. fault ≢ Memory) → DoesEnd result old new a b t (end_scn t.base.image) (end_turn (seen_now now) session)
      → MayAct (λ scn. None) result old new a b t now session (Ends reply) []
  ends_acts = end_acts old new a b t now session ready (Ends reply) reply refl (ends_alike session reply now quiet)

  pub ends_behind : (entries : ℕ) → entries ≡ length b.files.entries → (scn : ℕ) → DoesEnd (Ok scn) old new a b t (end_scn t.base.image) (end_turn (seen_now now) session)
      → IsBehind new b session (Ends reply) [] now (Some (Merge (record { left = entries; reply = reply })))
  ends_behind = end_behind old new a b t now session ready (Ends reply) reply refl (ends_alike session reply now quiet)

-- The stalled state ends after a backup whose session runs: it isn't refused.
pub ends_quiet : {sound : Bool} (w : World) (held : Held) (t : Trail) (now : Now) (session : ℕ) → IsReady w held t now → IsGoing sound now → (reply : Reply) (more : List Turn) → slice_index_or now.todo (session - 1) [] ≡ Ends reply ∷ more
    → held.running ≡ Some session → (end_turn (seen_now now) session).reply ≡ None
ends_quiet {sound = sound} w held t now session ready going reply more here runs =
    end_quiet (seen_now now) session (ending_at now (session - 1) reply more (subst (IsAt sound now (session - 1)) here (going.each (session - 1)))).state (sym ready.running ∙ runs)

-- so where it ended early, it failed
pub ends_lost : (how : Told) (task : Left → Option Task) (old mid new : World) (a b : Held) (t : Trail) (now : Now) (session : ℕ) (reply : Reply) (more : List Turn) → IsReady old a t now → IsMaking now → slice_index_or now.todo (session - 1) [] ≡ Ends reply ∷ more
    → a.running ≡ Some session → b.cap ≡ a.cap → (fault : Fault) → fault ≢ Memory → DoesEnd (Err fault) old mid a b t (end_scn t.base.image) (end_turn (seen_now now) session)
    → (ended : Result Taken RunError) → (same : Type 0) → (same → new ≡ mid) → EndsEarly session fault ended mid new same → (answer : Result Left RunError) → (IsErr ended → IsErr answer) → (RanOut answer → RanOut ended) → Turns how left_refused task answer old new a b t now session (Ends reply) [] more
ends_lost how task old mid new a b t now session reply more ready makes here runs cap fault none does ended same is_same early answer passed out =
    turns_lost how (λ (scn : ℕ). None) left_refused task old mid new a b t now session (Ends reply) [] more [] (ends_touch session reply now) makes here fault (sure fault does)
    (ends_acts old mid a b t now session ready reply quiet (Err fault) cap none does) (λ acts. marks_none old mid a) ended same is_same early answer passed out
  where
    quiet : (end_turn (seen_now now) session).reply ≡ None
    quiet = ends_quiet old a t now session ready makes.going reply more here runs

    sure : (f : Fault) → DoesEnd (Err f) old mid a b t (end_scn t.base.image) (end_turn (seen_now now) session) → IsNoRefusal f
    sure (Refused refusal) does = some_none (RefusedBy refusal) (sym does.says ∙ quiet)
    sure Device does = tt
    sure Memory does = tt

finish_is : (session : ℕ) (reply : Reply) (now : Now) → outcome session (Finishes reply) now ≡ record { strokes = finish ∷ []; reply = Some reply; next = []; running = None; made = None; given = now.given }
unfolding outcome turn
finish_is session reply now = refl

merge_is : (session : ℕ) (now : Now) → outcome session MergesOne now ≡ passes (seen_now now)
unfolding outcome turn
merge_is session now = refl

-- what a turn of a merge is to say
abbrev pub merge_said : Reply → Progress → Option Reply
merge_said reply More = None
merge_said reply Finished = Some reply

-- what it answers
abbrev pub merge_answer : Result Progress HostFault → Result Progress Fault
merge_answer (Ok progress) = Ok progress
merge_answer (Err fault) = Err Device

-- A further turn of a merge.
module _ (old new : World) (a b : Held) (t : Trail) (now : Now) (session : ℕ) (reply : Reply) (ready : IsReady old a t now) (cap : b.cap ≡ a.cap) where
  diverted : (left : ℕ) → IsMerging session left a → length t.base.diverted ≡ a.merged + left
  diverted left merging = sym (ap length ready.opened.files.agrees.entries) ∙ merging.rest

  -- no turn of a merge only tells something
  finish_told : only_told (event_of session (Finishes reply) (outcome session (Finishes reply) now)) ≡ true → ⊥
  finish_told told = true≢false (sym (ap (λ (x : Outcome). only_told (event_of session (Finishes reply) x)) (sym (finish_is session reply now)) ∙ told))

  merge_told : only_told (event_of session MergesOne (outcome session MergesOne now)) ≡ true → ⊥
  merge_told told = unsaid (event_of session MergesOne (outcome session MergesOne now)) (ap (λ (x : Outcome). x.reply) (merge_is session now)) told

  -- the database isn't in the stalled state
  merge_files : (u : Turn) (ended : Type 0) (ss : List Stroke) → a.files.state ≡ merge_state → (ended × (is_finish u ≡ true) → new.files (delta_name (name_of a)) ≡ None) → GrowsWithin old new (name_of a) a.files.page_size t ss
      → TurnLeaves ended old new (name_of a) t u ss
  merge_files u ended ss merge gone grows = record {
    frozen = λ stalled plain. absurd (omega (arith, stalled, merge, ready.opened.files.agrees.state));
    gone = gone;
    long = grows_sized old new a t ss ready.opened grows;
  }

  -- the last operation of a merge makes no image longer
  no_longer : GrowsWithin old new (name_of a) a.files.page_size t (finish ∷ []) → GrowsWithin old new (name_of a) a.files.page_size t []
  no_longer grows most within = grows most (within, omega (arith, within, finish_shorter t))

  -- it fails
  failed : (u : Turn) (ss : List Stroke) → (only_told (event_of session u (outcome session u now)) ≡ true → ⊥) → (outcome session u now).strokes ≡ ss → (outcome session u now).made ≡ None → Strikes old new (name_of a) t ss → a.files.state ≡ merge_state → GrowsWithin old new (name_of a) a.files.page_size t ss → name_of b ≡ name_of a → Acts (merge_said reply) (Err Device) old new a b t now session u []
  failed u ss never is none struck merge grows name = record { says = tt; left = strikes_left old new (name_of a) t _ (event_of session u (outcome session u now)) none (subst (Strikes old new (name_of a) t) (sym is) struck); opened = tt; running = tt; given = tt; kept = tt; unchanged = λ told. absurd (never told); short = tt; files = subst (LeavesFiles (is_end u) (⊥ × (is_finish u ≡ true)) old new (name_of a) t) (sym is) (merge_files u ⊥ ss merge (λ m. absurd m.0) grows); name = name; cap = cap }

  finishes : (result : Result Progress HostFault) → IsMerging session 0 a → Merges result old new a b t → Acts (merge_said reply) (merge_answer result) old new a b t now session (Finishes reply) []
  finishes (Ok More) merging merges = absurd (omega (arith, diverted 0 merging, merges.on.0))
  finishes (Ok Finished) merging merges =
      let o = finish_is session reply now in
      record {
        says = ap (λ (x : Outcome). x.reply) o;
        left = strikes_left old new (name_of a) t _ (event_of session (Finishes reply) (outcome session (Finishes reply) now)) (ap (λ (x : Outcome). x.made) o) (subst (λ (x : Outcome). Strikes old new (name_of a) t x.strokes) (sym o) merges.left);
        opened = subst (IsOpen new b) (ap (λ (x : Outcome). after_strokes t x.strokes) (sym o) ∙ trail_plain t (event_of session (Finishes reply) (outcome session (Finishes reply) now)) refl) merges.on.2;
        running = merges.on.1 ∙ sym (ap (λ (x : Outcome). x.running) o);
        given = given_nothing old new now.given (outcome session (Finishes reply) now).given merges.gave (ap (λ (x : Outcome). x.given) o);
        kept = kept_none new (event_of session (Finishes reply) (outcome session (Finishes reply) now)) (ap (λ (x : Outcome). x.made) o);
        unchanged = λ told. absurd (finish_told told);
        short = tt;
        files = subst (λ (x : Outcome). TurnLeaves (Unit {0}) old new (name_of a) t (Finishes reply) x.strokes) (sym o) (merge_files (Finishes reply) (Unit {0}) (finish ∷ []) merging.state (λ m. merges.puts) merges.long);
        name = merges.name;
        cap = cap;
      }
  finishes (Err fault) merging merges = failed (Finishes reply) (finish ∷ []) finish_told (ap (λ (x : Outcome). x.strokes) (finish_is session reply now)) (ap (λ (x : Outcome). x.made) (finish_is session reply now)) merges.left merging.state merges.long merges.name

  one_left : (left : ℕ) → IsMerging session (suc left) a → a.merged < length t.base.diverted
  one_left left merging = omega (arith, diverted (suc left) merging)

  struck_one : StrikesOn old new (Only (name_of a)) (name_of a) t [] → Strikes old new (name_of a) t []
  struck_one struck = strikes_more old new (Only (name_of a)) (OfFiles (name_of a)) (name_of a) t [] struck (λ m one. inl one)

  merges_one : (result : Result Progress HostFault) (left : ℕ) → IsMerging session (suc left) a → Merges result old new a b t → Acts (merge_said reply) (merge_answer result) old new a b t now session MergesOne []
  merges_one (Ok More) left merging merges =
      let o = merge_is session now in
      record {
        says = ap (λ (x : Outcome). x.reply) o;
        left = strikes_left old new (name_of a) t _ (event_of session MergesOne (outcome session MergesOne now)) (ap (λ (x : Outcome). x.made) o) (subst (λ (x : Outcome). Strikes old new (name_of a) t x.strokes) (sym o) (struck_one (merges.more (one_left left merging))));
        opened = subst (IsOpen new b) (ap (λ (x : Outcome). after_strokes t x.strokes) (sym o) ∙ trail_plain t (event_of session MergesOne (outcome session MergesOne now)) refl) merges.on.3;
        running = merges.on.2 ∙ ready.running ∙ sym (ap (λ (x : Outcome). x.running) o);
        given = given_nothing old new now.given (outcome session MergesOne now).given merges.gave (ap (λ (x : Outcome). x.given) o);
        kept = kept_none new (event_of session MergesOne (outcome session MergesOne now)) (ap (λ (x : Outcome). x.made) o);
        unchanged = λ told. absurd (merge_told told);
        short = tt;
        files = subst (λ (x : Outcome). TurnLeaves (Unit {0}) old new (name_of a) t MergesOne x.strokes) (sym o) (merge_files MergesOne (Unit {0}) [] merging.state (λ m. absurd (true≢false (sym m.1))) (no_longer merges.long));
        name = merges.name;
        cap = cap;
      }
  merges_one (Ok Finished) left merging merges = absurd (omega (arith, diverted (suc left) merging, merges.on.0))
  merges_one (Err fault) left merging merges = failed MergesOne [] merge_told (ap (λ (x : Outcome). x.strokes) (merge_is session now)) (ap (λ (x : Outcome). x.made) (merge_is session now)) (struck_one (merges.more (one_left left merging))) merging.state (no_longer merges.long) merges.name

  pub merge_acts : (result : Result Progress HostFault) (left : ℕ) → IsMerging session left a → Merges result old new a b t
      → MayAct (merge_said reply) (merge_answer result) old new a b t now session (merge_first left (Finishes reply)) []
  merge_acts result zero merging merges = record { grows = grows_none old new merges.gave; acts = λ told. finishes result merging merges }
  merge_acts result (suc left) merging merges = record { grows = grows_none old new merges.gave; acts = λ told. merges_one result left merging merges }

-- how far the session is behind one turn
module _ (session : ℕ) (reply : Reply) (a b : Held) where
  pub more_behind : (w : World) (now : Now) (left : ℕ) → IsMerging session left a → GoesOn More a b
      → IsBehind w b session (merge_first left (Finishes reply)) (merge_rest left (Finishes reply)) now (Some (Merge (record { left = left - 1; reply = reply })))
  more_behind w now zero merging goes = absurd (omega (arith, merging.rest, goes.0))
  more_behind w now (suc left) merging goes =
      let one : left ≡ suc left - 1 = omega arith in
      record {
        next = ap (λ (x : Outcome). x.next ++ merge_rest (suc left) (Finishes reply)) (merge_is session now) ∙ merge_turns left (Finishes reply)
            ∙ ap (λ (n : ℕ). task_todo (Some (Merge (record { left = n; reply = reply })))) one;
        goes = tt;
      }

  pub finished_behind : (w : World) (now : Now) (left : ℕ) → IsMerging session left a → GoesOn Finished a b
      → IsBehind w b session (merge_first left (Finishes reply)) (merge_rest left (Finishes reply)) now None
  finished_behind w now zero merging goes = record { next = ap (λ (x : Outcome). x.next ++ []) (finish_is session reply now); goes = tt }
  finished_behind w now (suc left) merging goes = absurd (omega (arith, merging.rest, goes))
