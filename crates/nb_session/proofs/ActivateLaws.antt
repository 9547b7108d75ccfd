-- The first turn of a statement that ends a backup: `alter database end backup`, and `activate`, which in the normal state ends none.
use Rattle.std.proofs.Common.{◌≡◌, ℕ, ◌+◌, List, [], ◌∷◌, length, refl, sym, ap, subst, ◌∙◌, Bool, true, false, ◌==◌, Ok, Option, Some, None}
use Rattle.nb_session.proofs.Common.{append-nil, ne_eqb, normal_state, stalled_state, World, IsTimely, GaveNothing, Reply, Scn, Activated, Statement, EndBackup, Activate, Base, Cause, first_cause, when, runs_other, Image, image_state, image_scn, Turn, Begins, Seen, Outcome, says, unless, activate_turn, activated, end_turn, ends_by, end_scn, Now, base_now, outcome, event_of, Event, first_turn, Trail, after_strokes, none_yet, quiet_begun, Held, IsOpen, name_of, IsBackup, IsEnd, end_reply, some_said, IsReady, IsBehind, MayAct}
use Rattle.nb_host.specs.declared.refusals.Refusal.TheVariants.{WrongState}
use Rattle.nb_session.specs.Files.{is_end}
use Rattle.nb_session.proofs.ActLaws.{kept_none, strikes_left, trail_plain}
use Rattle.nb_session.proofs.FilesLaws.{files_quiet}
use Rattle.nb_session.proofs.GiftLaws.{given_nothing, grows_none}
use Rattle.nb_session.proofs.MergeLaws.{EndsAs, end_causes, ends_as, end_turn_is}
use Rattle.nb_session.proofs.TurnLaws.{seen_now, outcome_is}

-- such a statement
pub begins_over : (statement : Statement) (held : Held) → IsEnd statement held → is_end (Begins statement) ≡ true
begins_over EndBackup held is = refl
begins_over Activate held is = refl
begins_over other held is = absurd is

-- makes no file
pub begins_plain : (statement : Statement) (held : Held) → IsEnd statement held → IsBackup statement → ⊥
begins_plain EndBackup held is asks = asks
begins_plain Activate held is asks = asks
begins_plain other held is asks = absurd is

-- one cause
only_cause : (cause : Cause) → first_cause (cause ∷ []) ≡ cause
unfolding first_cause
only_cause None = refl
only_cause (Some refusal) = refl

-- out of the normal state `activate` is refused as an end is
activate_causes : (s : Seen) (session : ℕ) → (image_state s.base.image == normal_state) ≡ false → end_causes s session ≡ runs_other s.running session
unfolding first_cause
activate_causes s session other = ap (λ (normal : Bool). first_cause (when normal (WrongState 0) ∷ runs_other s.running session ∷ [])) other ∙ only_cause (runs_other s.running session)

-- the turn of `activate`, in the normal state and out of it
abbrev activating : Seen → (session : ℕ) → (normal : Bool) → Outcome
activating s session normal = elim normal as (λ z. Outcome) [ true ↦ says s (activated s.base) [] | false ↦ unless s (runs_other s.running session) (ends_by s session (activated s.base)) ]

activate_is : (s : Seen) (session : ℕ) (normal : Bool) → (image_state s.base.image == normal_state) ≡ normal → activate_turn s session ≡ activating s session normal
unfolding activate_turn
activate_is s session normal is = ap (activating s session) is

activate_ends : (s : Seen) (session : ℕ) → (image_state s.base.image == normal_state) ≡ false → EndsAs s session (activated s.base) (activate_turn s session)
activate_ends s session other =
    ends_as s session (activated s.base) (activate_turn s session) (activate_is s session false other ∙ ap (λ (cause : Cause). unless s cause (ends_by s session (activated s.base))) (sym (activate_causes s session other)))

-- what is said of the database once its backup has ended
activated_is : (b : Base) (pages scn : ℕ) → length b.image ≡ pages → end_scn b.image ≡ scn → activated b ≡ Activated pages scn
unfolding activated
activated_is b pages scn all end = ap (λ (n : ℕ). Activated n (end_scn b.image)) all ∙ ap (Activated pages) end

-- in the normal state the SCN stays
end_scn_normal : (image : Image) → image_state image ≡ normal_state → end_scn image ≡ image_scn image
unfolding end_scn
end_scn_normal image normal = ap (λ (state : ℕ). elim (state == stalled_state) as (λ z. ℕ) [ true ↦ image_scn image + 1 | false ↦ image_scn image ]) normal

-- What is held of the database as it stands between two turns.
module _ (w : World) (held : Held) (t : Trail) (now : Now) (session : ℕ) (ready : IsReady w held t now) where
  of_base : {A : Type 0} (f : Image → A) → f t.base.image ≡ f (base_now now).image
  of_base f = ap (λ (b : Base). f b.image) ready.base

  pages_held : length (base_now now).image ≡ held.files.count
  pages_held = sym (of_base length) ∙ sym ready.opened.files.agrees.count

  state_held : image_state (base_now now).image ≡ held.files.state
  state_held = sym (of_base image_state) ∙ sym ready.opened.files.agrees.state

  end_turn_of : end_turn (seen_now now) session ≡ outcome session (Begins EndBackup) now
  unfolding first_turn
  end_turn_of = sym (outcome_is session EndBackup now)

  activate_turn_of : activate_turn (seen_now now) session ≡ outcome session (Begins Activate) now
  unfolding first_turn
  activate_turn_of = sym (outcome_is session Activate now)

  -- the statement ends its backup
  pub begins_end : (statement : Statement) → IsEnd statement held → EndsAs (seen_now now) session (end_reply statement held.files.count (end_scn t.base.image)) (outcome session (Begins statement) now)
  begins_end EndBackup is =
      subst (λ (scn : ℕ). EndsAs (seen_now now) session (Scn scn) (outcome session (Begins EndBackup) now)) (sym (of_base end_scn))
      (ends_as (seen_now now) session (Scn (end_scn (base_now now).image)) (outcome session (Begins EndBackup) now) (sym end_turn_of ∙ end_turn_is (seen_now now) session))
  begins_end Activate is =
      subst (λ (o : Outcome). EndsAs (seen_now now) session (Activated held.files.count (end_scn t.base.image)) o) activate_turn_of
      (subst (λ (r : Reply). EndsAs (seen_now now) session r (activate_turn (seen_now now) session)) (activated_is (base_now now) held.files.count (end_scn t.base.image) pages_held (sym (of_base end_scn)))
      (activate_ends (seen_now now) session (ne_eqb (image_state (base_now now).image) normal_state (λ normal. is (sym state_held ∙ normal)))))
  begins_end other is = absurd is

  -- `activate` in the normal state makes no call
  module _ (timely : IsTimely w) (normal : held.files.state ≡ normal_state) where
    abbrev this : Outcome
    this = outcome session (Begins Activate) now

    this_is : this ≡ says (seen_now now) (activated (base_now now)) []
    this_is = sym activate_turn_of ∙ activate_is (seen_now now) session true (ap (λ (state : ℕ). state == normal_state) (state_held ∙ normal))

    reply_is : this.reply ≡ Some (Activated held.files.count held.scn)
    reply_is =
        ap (λ (o : Outcome). o.reply) this_is
        ∙ ap Some (activated_is (base_now now) held.files.count held.scn pages_held (end_scn_normal (base_now now).image (state_held ∙ normal) ∙ sym (of_base image_scn) ∙ sym ready.opened.agrees.scn))

    still : GaveNothing w w
    still = record { guids = refl; times = refl }

    pub normal_acts : (reply : Reply) → reply ≡ Activated held.files.count held.scn → MayAct some_said (Ok reply) w w held held t now session (Begins Activate) []
    normal_acts reply answered =
        let event = event_of session (Begins Activate) this in
        record {
          grows = grows_none w w still;
          acts = λ told. record {
            says = reply_is ∙ ap Some (sym answered);
            left = strikes_left w w (name_of held) t _ event (ap (λ (o : Outcome). o.made) this_is) (none_yet w w held t _ (quiet_begun w timely) ready.opened);
            opened = subst (IsOpen w held) (ap (after_strokes t) (sym (ap (λ (o : Outcome). o.strokes) this_is)) ∙ trail_plain t event refl) ready.opened;
            running = ready.running ∙ sym (ap (λ (o : Outcome). o.running) this_is);
            given = given_nothing w w now.given this.given still (ap (λ (o : Outcome). o.given) this_is);
            kept = kept_none w event (ap (λ (o : Outcome). o.made) this_is);
            unchanged = λ told. refl;
            short = tt;
            files = files_quiet _ w w (name_of held) t (Begins Activate) _ refl (quiet_begun w timely);
            name = refl;
            cap = refl;
          };
        }

    -- and leaves nothing to do
    pub normal_behind : (v : World) (now_held : Held) → IsBehind v now_held session (Begins Activate) [] now None
    normal_behind v now_held = record { next = append-nil this.next ∙ ap (λ (o : Outcome). o.next) this_is; goes = tt }
