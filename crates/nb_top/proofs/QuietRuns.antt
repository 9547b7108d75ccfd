-- A run that begins with calls that change nothing.
use Rattle.std.proofs.Common.{inl, inr, ⊎_elim, ℕ, List, [], ◌++◌, sym, ap, subst, ◌∙◌, refl, Result, Ok, Err, IfOk, Option}
use Rattle.nb_top.proofs.Common.{Files, World, AtEachMoment, Refusal, RunError, GaveNothing, joined, weaker, Quiet, quiet_joined, Account, Foretells, WasGiven, guids_in, Given, output, Event, strokes_of, given_nothing, given_joined, Status, RunLeft, RunsTo, Finished, IsPerformed, IsUndone, Knows, Target, target_of, Request, quiet_gave}
use Rattle.nb_top.proofs.LeftLaws.{left_first, left_before_all}
use Rattle.nb_top.proofs.ReadsLaws.{reads_quietly}

-- nothing may be given
abbrev pub no_given : Given
no_given = record { guids = []; times = []; holds = [] }

-- what is foretold is foretold after calls that ask for nothing
pub foretold_from : (old mid new : World) (given : Given) (shown : List ℕ) → GaveNothing old mid → Foretells given shown old new → Foretells given shown mid new
foretold_from old mid new given shown none told = record {
  ids = told.ids;
  later_ids = told.later_ids;
  clock = told.clock;
  later_clock = told.later_clock;
  guids = told.guids ∙ ap (λ (l : List (List ℕ)). l ++ told.ids) (sym none.guids);
  guids_first = told.guids_first;
  times = told.times ∙ ap (λ (l : List ℕ). l ++ told.clock) (sym none.times);
  times_first = told.times_first;
  later_shown = told.later_shown;
  holds_first = told.holds_first;
}

-- and what was given then was given in all
pub given_from : (old mid new : World) (given left : Given) → GaveNothing old mid → WasGiven mid new given left → WasGiven old new given left
given_from old mid new given left none gave = given_joined old mid new given given left (given_nothing old mid given given none refl) gave

-- where no file changes, the account knows of them what it knew
pub knows_quietly : (old mid : World) (account : Account) (asked : Result Request Refusal) → Quiet old mid → Knows old.files account asked → Knows mid.files account asked
knows_quietly old mid account asked quiet knows = subst (λ (f : Files). Knows f account asked) (sym quiet.still.files) knows

module _ (old mid new : World) (account : Account) (target : Option Target) (events : List Event) (quiet : Quiet old mid) where
  finished_quietly : (result : Result Status RunError) (given left : Given) → IfOk result (λ status. Finished status mid new account target events given left) → IfOk result (λ status. Finished status old new account target events given left)
  finished_quietly (Ok status) given left done = record {
    said = done.said ∙ ap (λ (l : List ℕ). l ++ output events) quiet.said;
    ended = done.ended;
    gave = given_from old mid new given left (quiet_gave old mid quiet) done.gave;
    database = done.database;
    kept = done.kept;
    guids = λ more. done.guids more ∙ ap (λ (l : List (List ℕ)). l ++ guids_in (strokes_of events)) quiet.guids;
  }
  finished_quietly (Err e) given left done = tt

  stops_quietly : AtEachMoment mid new (RunLeft mid account target events) → AtEachMoment old new (RunLeft old account target events)
  stops_quietly stops =
      joined old mid new _ _ _ quiet.moments stops
      (λ files said is. left_first old account target events files said is)
      (λ files said left. left_before_all old mid quiet.still.left quiet.said account target events files said left)

-- nothing was done before or after them
undone_quietly : (old mid new : World) (result : Result Status RunError) → Quiet old mid → IsUndone result mid new → IsUndone result old new
undone_quietly old mid new (Ok status) quiet undone = undone
undone_quietly old mid new (Err e) quiet undone = quiet_joined old mid new quiet undone

pub runs_quietly : (result : Result Status RunError) (old mid new : World) (asked : Result Request Refusal) (account : Account) (given : Given) → Quiet old mid → RunsTo result mid new asked account given → RunsTo result old new asked account given
runs_quietly result old mid new asked account given quiet runs = record {
  events = runs.events;
  last = runs.last;
  left = runs.left;
  performed = subst (λ (f : Files). IsPerformed f asked account given runs.events runs.last runs.left) quiet.still.files runs.performed;
  opened = ⊎_elim inl (λ undone. inr (undone_quietly old mid new result quiet undone)) runs.opened;
  stops = stops_quietly old mid new account (target_of asked runs.events) runs.events quiet runs.stops;
  reads = reads_quietly old mid new quiet account (target_of asked runs.events) runs.events runs.reads;
  finished = finished_quietly old mid new account (target_of asked runs.events) runs.events quiet result given runs.left runs.finished;
}

-- and nothing else happens: whatever the run must have been, nothing of it has happened
pub left_quietly : (old new : World) (account : Account) (target : Option Target) (events : List Event) → Quiet old new → AtEachMoment old new (RunLeft old account target events)
left_quietly old new account target events quiet = weaker old new _ _ quiet.moments (λ files said is. left_first old account target events files said is)
