-- The first statement of a run, and the run that comes after it.
use Rattle.std.proofs.Common.{◌≡◌, ℕ, List, [], ◌∷◌, ◌++◌, length, true, false, refl, sym, ap, subst, ◌∙◌, arith, None, Some}
use Rattle.nb_top.proofs.Common.{fresh, fresh_count, Reply, Pages, Opened, Statement, CreateDb, OpenDb, Image, image_state, Base, base_of, IsBase, Account, Stroke, make, on_base, base_in, is_free_entry, guids_in, Given, status_after, Event, Now, Played, base_now, begun, opening, play, rounds, AreFinished, IsRun, after_steps, after_step, made, steps_in, settled, settles_at, after_stroke, base_in_base, IsCreated, created, run_on, IsReopened, reopened, Plan, is_refusal, cache_asked, Target, first_event, target_named}
use Rattle.nb_top.proofs.ToldLaws.{Ran}

-- the turns after it
abbrev pub turns : Plan → Now → ℕ → Played
turns plan now n = play (plan.schedule ++ rounds n) now

-- What the first statement of a run must be, where it isn't refused: what it says, its strokes, and what stands after it.
pub record First (account : Account) (given : Given) (plan : Plan) : Type 0 where
  pub target : Target
  pub named : target_named plan.first ≡ Some target
  pub reply : Reply
  pub allowed : is_refusal reply ≡ false
  pub fine : status_after reply ≡ 0
  pub strokes : List Stroke
  pub now : Now
  pub name_is : now.name ≡ target.name
  pub todo : now.todo ≡ begun plan.sessions
  pub running : now.running ≡ None
  pub cache_is : now.cache ≡ cache_asked plan.first
  pub given_is : now.given ≡ given
  -- the sessions go on after it, and it begins no backup
  pub goes_on : (opening account given plan.sessions plan.first_session plan.first).now ≡ Some now
  pub none : guids_in strokes ≡ []
  -- after it the database stands settled
  pub trail : after_steps (settled (base_in (account.entry target.name))) (steps_in (first_event plan.first_session strokes reply)) ≡ settled (base_now now)
  pub ran : (n : ℕ) → AreFinished (turns plan now n).1.todo
      → Ran account given plan (first_event plan.first_session strokes reply ∷ (turns plan now n).0) (turns plan now n).1.account (turns plan now n).1.given

-- the plan's first statement is that one
with_first : (account : Account) (given : Given) (plan : Plan) (first : Statement) → plan.first ≡ first → (events : List Event) (last : Account) (left : Given)
    → IsRun account given plan.first_session first plan.schedule plan.sessions events last left → Ran account given plan events last left
with_first account given plan first is events last left runs = subst (λ (s : Statement). IsRun account given plan.first_session s plan.schedule plan.sessions events last left) (sym is) runs

-- a creation and no stroke leave a settled point
pub made_trail : (b : Base) (image : Image) (session : ℕ) (reply : Reply) → after_steps (settled b) (steps_in (first_event session (make image ∷ []) reply)) ≡ settled (base_of image)
unfolding after_steps after_step made after_stroke settles_at on_base
made_trail b image session reply = refl

pub kept_trail : (b : Base) (session : ℕ) (reply : Reply) → after_steps (settled b) (steps_in (first_event session [] reply)) ≡ settled b
unfolding after_steps after_step made
kept_trail b session reply = refl

pub made_none : (image : Image) → guids_in (make image ∷ []) ≡ []
unfolding guids_in
made_none image = refl

pub kept_none : guids_in [] ≡ []
unfolding guids_in
kept_none = refl

module _ (account : Account) (given : Given) (plan : Plan) (name : List ℕ) where
  -- where its sessions go on
  pub goes_on_as : (first : Statement) (now : Now) → plan.first ≡ first → (opening account given plan.sessions plan.first_session first).now ≡ Some now → (opening account given plan.sessions plan.first_session plan.first).now ≡ Some now
  goes_on_as first now is goes = ap (λ (s : Statement). (opening account given plan.sessions plan.first_session s).now) is ∙ goes

  -- creating under a free name
  module _ (size raw cache : ℕ) (first_is : plan.first ≡ CreateDb name size raw cache) (free : is_free_entry (account.entry name) ≡ true) where
    abbrev new_one : IsCreated account given plan.sessions plan.first_session name size raw cache (opening account given plan.sessions plan.first_session (CreateDb name size raw cache))
    new_one = created account given plan.sessions plan.first_session name size raw cache free

    pub created_ran : (n : ℕ) → AreFinished (turns plan new_one.now n).1.todo
        → Ran account given plan (first_event plan.first_session (make (fresh size raw) ∷ []) (Pages (fresh_count size raw)) ∷ (turns plan new_one.now n).0) (turns plan new_one.now n).1.account (turns plan new_one.now n).1.given
    created_ran n finished =
        let played : Played = turns plan new_one.now n in
        with_first account given plan (CreateDb name size raw cache) first_is _ played.1.account played.1.given
        (subst (λ (event : Event). IsRun account given plan.first_session (CreateDb name size raw cache) plan.schedule plan.sessions (event ∷ played.0) played.1.account played.1.given) new_one.event
        (run_on account given plan.first_session (CreateDb name size raw cache) plan.schedule plan.sessions new_one.now played.1 played.0 new_one.goes_on (record { how_often = n; is = refl; finished = finished })))

    unfoldable pub first_created : First account given plan
    first_created = record {
      target = record { name = name; creates = true };
      named = ap target_named first_is;
      reply = Pages (fresh_count size raw);
      allowed = refl;
      fine = refl;
      strokes = make (fresh size raw) ∷ [];
      now = new_one.now;
      name_is = new_one.name_is;
      todo = new_one.todo;
      running = new_one.running;
      cache_is = new_one.cache_is ∙ sym (ap cache_asked first_is);
      given_is = new_one.given_is;
      goes_on = goes_on_as (CreateDb name size raw cache) new_one.now first_is new_one.goes_on;
      none = made_none (fresh size raw);
      trail = made_trail (base_in (account.entry name)) (fresh size raw) plan.first_session (Pages (fresh_count size raw)) ∙ ap settled (sym new_one.base);
      ran = created_ran;
    }

    -- it makes a stroke
    pub first_strikes : first_created.strokes ≡ [] → ⊥
    unfolding first_created
    first_strikes none = omega (arith, ap length none)

    pub created_base : base_now first_created.now ≡ base_of (fresh size raw)
    unfolding first_created
    created_base = new_one.base

  -- opening the database that stands there
  module _ (cache : ℕ) (first_is : plan.first ≡ OpenDb name cache) (b : Base) (there : account.entry name ≡ IsBase b) where
    abbrev again : IsReopened account given plan.sessions plan.first_session name cache b (opening account given plan.sessions plan.first_session (OpenDb name cache))
    again = reopened account given plan.sessions plan.first_session name cache b there

    pub opened_ran : (n : ℕ) → AreFinished (turns plan again.now n).1.todo
        → Ran account given plan (first_event plan.first_session [] (Opened (length b.image) (image_state b.image)) ∷ (turns plan again.now n).0) (turns plan again.now n).1.account (turns plan again.now n).1.given
    opened_ran n finished =
        let played : Played = turns plan again.now n in
        with_first account given plan (OpenDb name cache) first_is _ played.1.account played.1.given
        (subst (λ (event : Event). IsRun account given plan.first_session (OpenDb name cache) plan.schedule plan.sessions (event ∷ played.0) played.1.account played.1.given) again.event
        (run_on account given plan.first_session (OpenDb name cache) plan.schedule plan.sessions again.now played.1 played.0 again.goes_on (record { how_often = n; is = refl; finished = finished })))

    unfoldable pub first_opened : First account given plan
    first_opened = record {
      target = record { name = name; creates = false };
      named = ap target_named first_is;
      reply = Opened (length b.image) (image_state b.image);
      allowed = refl;
      fine = refl;
      strokes = [];
      now = again.now;
      name_is = again.name_is;
      todo = again.todo;
      running = again.running;
      cache_is = again.cache_is ∙ sym (ap cache_asked first_is);
      given_is = again.given_is;
      goes_on = goes_on_as (OpenDb name cache) again.now first_is again.goes_on;
      none = kept_none;
      trail = kept_trail (base_in (account.entry name)) plan.first_session (Opened (length b.image) (image_state b.image)) ∙ ap (λ e. settled (base_in e)) there ∙ ap settled (base_in_base b) ∙ ap settled (sym again.base);
      ran = opened_ran;
    }

    pub opened_base : base_now first_opened.now ≡ b
    unfolding first_opened
    opened_base = again.base
