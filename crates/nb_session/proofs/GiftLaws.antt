-- What the outside gave in runs of calls, one after another.
use Rattle.std.proofs.Common.{◌≡◌, ℕ, List, [], ◌++◌, length, sym, ap, subst, ◌∙◌, append_assoc}
use Rattle.nb_session.proofs.Common.{append-nil, append_cancel_left, World, GaveNothing, Foretells, WasGiven, Given, Grows, all_append}
use Rattle.nb_change.proofs.GaveLaws.{gave_none, gave_joined}

-- what was given in both parts is what was given in the whole
whole_is : {A : Type 0} (old mid new xs first second : List A) → new ≡ old ++ xs → mid ≡ old ++ first → new ≡ mid ++ second → xs ≡ first ++ second
whole_is old mid new xs first second all one two =
    append_cancel_left old xs (first ++ second) (sym all ∙ two ∙ ap (λ l. l ++ second) one ∙ append_assoc old first second)

-- what is foretold of the whole is foretold of its first part
pub foretold_first : (old mid new : World) (given : Given) (xs ys : List ℕ) → Grows old mid → Grows mid new → Foretells given (xs ++ ys) old new → Foretells given xs old mid
foretold_first old mid new given xs ys first second told = record {
  ids = first.ids;
  later_ids = second.ids ++ told.later_ids;
  clock = first.clock;
  later_clock = second.clock ++ told.later_clock;
  later_shown = ys ++ told.later_shown;
  guids = first.gave.guids;
  guids_first = told.guids_first ∙ ap (λ l. l ++ told.later_ids) (whole_is old.guids mid.guids new.guids told.ids first.ids second.ids told.guids first.gave.guids second.gave.guids) ∙ append_assoc first.ids second.ids told.later_ids;
  times = first.gave.times;
  times_first = told.times_first ∙ ap (λ l. l ++ told.later_clock) (whole_is old.times mid.times new.times told.clock first.clock second.clock told.times first.gave.times second.gave.times) ∙ append_assoc first.clock second.clock told.later_clock;
  holds_first = told.holds_first ∙ append_assoc xs ys told.later_shown;
}

-- and of its second, of what is left then
pub foretold_then : (old mid new : World) (given left : Given) (xs ys : List ℕ) → WasGiven old mid given left → given.holds ≡ xs ++ left.holds → Grows mid new → Foretells given (xs ++ ys) old new → Foretells left ys mid new
foretold_then old mid new given left xs ys first before second told = record {
  ids = second.ids;
  later_ids = told.later_ids;
  clock = second.clock;
  later_clock = told.later_clock;
  later_shown = told.later_shown;
  guids = second.gave.guids;
  guids_first = append_cancel_left first.ids left.guids (second.ids ++ told.later_ids)
      (sym first.guids_first ∙ told.guids_first ∙ ap (λ l. l ++ told.later_ids) (whole_is old.guids mid.guids new.guids told.ids first.ids second.ids told.guids first.guids second.gave.guids) ∙ append_assoc first.ids second.ids told.later_ids);
  times = second.gave.times;
  times_first = append_cancel_left first.clock left.times (second.clock ++ told.later_clock)
      (sym first.times_first ∙ told.times_first ∙ ap (λ l. l ++ told.later_clock) (whole_is old.times mid.times new.times told.clock first.clock second.clock told.times first.times second.gave.times) ∙ append_assoc first.clock second.clock told.later_clock);
  holds_first = append_cancel_left xs left.holds (ys ++ told.later_shown) (sym before ∙ told.holds_first ∙ append_assoc xs ys told.later_shown);
}

-- what was given in both parts was given in the whole
pub given_joined : (old mid new : World) (before between after : Given) → WasGiven old mid before between → WasGiven mid new between after → WasGiven old new before after
given_joined old mid new before between after first second = record {
  ids = first.ids ++ second.ids;
  clock = first.clock ++ second.clock;
  guids = second.guids ∙ ap (λ l. l ++ second.ids) first.guids ∙ append_assoc old.guids first.ids second.ids;
  guids_first = first.guids_first ∙ ap (λ l. first.ids ++ l) second.guids_first ∙ sym (append_assoc first.ids second.ids after.guids);
  times = second.times ∙ ap (λ l. l ++ second.clock) first.times ∙ append_assoc old.times first.clock second.clock;
  times_first = first.times_first ∙ ap (λ l. first.clock ++ l) second.times_first ∙ sym (append_assoc first.clock second.clock after.times);
}

-- nothing was given
pub given_nothing : (old new : World) (before after : Given) → GaveNothing old new → after ≡ before → WasGiven old new before after
given_nothing old new before after gave same = record {
  ids = [];
  clock = [];
  guids = gave.guids ∙ sym (append-nil old.guids);
  guids_first = ap (λ (g : Given). g.guids) (sym same);
  times = gave.times ∙ sym (append-nil old.times);
  times_first = ap (λ (g : Given). g.times) (sym same);
}

pub grows_none : (old new : World) → GaveNothing old new → Grows old new
grows_none old new gave = record { ids = []; clock = []; gave = gave_none old new gave; sixteen = tt }

pub grows_joined : (old mid new : World) → Grows old mid → Grows mid new → Grows old new
grows_joined old mid new first second = record {
  ids = first.ids ++ second.ids;
  clock = first.clock ++ second.clock;
  gave = gave_joined old mid new first.ids second.ids first.clock second.clock first.gave second.gave;
  sixteen = all_append (λ (id : List ℕ). length id ≡ 16) first.ids second.ids first.sixteen second.sixteen;
}

-- what was given is foretold by itself
pub foretold_itself : (old new : World) (shown : List ℕ) (grows : Grows old new) → Foretells (record { guids = grows.ids; times = grows.clock; holds = shown }) shown old new
foretold_itself old new shown grows = record {
  ids = grows.ids;
  later_ids = [];
  clock = grows.clock;
  later_clock = [];
  later_shown = [];
  guids = grows.gave.guids;
  guids_first = sym (append-nil grows.ids);
  times = grows.gave.times;
  times_first = sym (append-nil grows.clock);
  holds_first = sym (append-nil shown);
}

-- nothing more was given
pub foretold_still : (old mid new : World) (given : Given) (shown : List ℕ) → Grows old mid → GaveNothing mid new → Foretells given shown old new → Foretells given shown old mid
foretold_still old mid new given shown grows gave told =
    foretold_first old mid new given shown [] grows (grows_none mid new gave) (subst (λ (xs : List ℕ). Foretells given xs old new) (sym (append-nil shown)) told)
