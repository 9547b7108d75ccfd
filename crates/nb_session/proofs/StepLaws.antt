-- A turn of a session is the next that it has to do.
use Rattle.std.proofs.Common.{◌≡◌, inl, inr, ℕ, ◌-◌, ◌<◌, List, [], ◌∷◌, ◌++◌, length, map, drop, sym, ap, subst, ◌∙◌, append_assoc, get_or-set_same, drop_of_length-le, Bool, true, false, ◌||◌, IsTrue, Result, Ok, Err, IsErr, IsErrAnd, OnOk, Option, Some, None, refl}
use Rattle.nb_session.proofs.Common.{slice_index_or, cases_lt, append-nil, IsDone, World, CountsDevice, CountsRun, FaultCount, Fault, Refused, Device, Memory, RunError, Statement, Base, Foretells, IsMaking, MadeFile, making, making_by, Turn, Begins, Now, Played, base_now, outcome, stands_then, take_turn, one_turn, base_after, Trail, turn_stands, Held, Task, Left, Same, Other, Taken, Asker, task_first, task_rest, task_todo, task_left, left_of, left_refused, left_task, todo_of, HasTodo, KeepsOthers, IsReady, TaskGoes, shown_by, shown_first, shown_next, begun_in, begun_first, touching, touching_by, GoesFurther, Turns, TakesNext, Steps, Plays, told_turns, or_false, name_of}
use Rattle.nb_session.specs.Dangers.{Finds, danger_after}
use Rattle.nb_state.specs.Open.{IsOpen}
use Rattle.nb_host.specs.declared.faults.RunError.TheVariants.{Device as DeviceError, Memory as MemoryError}
use Rattle.nb_session.specs.Ended.{EndsFirst, EndsNext, EndsTurn}
use Rattle.nb_session.specs.Short.{RanOut}
use Rattle.nb_session.proofs.MakesLaws.{place_in}
use Rattle.nb_session.proofs.TouchingLaws.{one_turn_is}
use Rattle.nb_session.proofs.UnderWayLaws.{making_append, making_begins}

-- a session that took a turn has then what the turn left, and what stood after it
taken_todo : (session : ℕ) (now : Now) (t : Turn) (rest : List Turn) → slice_index_or now.todo (session - 1) [] ≡ t ∷ rest
    → slice_index_or (take_turn session (t ∷ rest) now).1.todo (session - 1) [] ≡ (outcome session t now).next ++ rest
unfolding take_turn stands_then
taken_todo session now t rest is = get_or-set_same now.todo (session - 1) ((outcome session t now).next ++ rest) [] (place_in now.todo (session - 1) t rest is)

-- the database is that after its strokes
taken_base : (session : ℕ) (now : Now) (t : Turn) (rest : List Turn) → base_now (take_turn session (t ∷ rest) now).1 ≡ base_after (base_now now) (outcome session t now).strokes
unfolding take_turn
taken_base session now t rest = turn_stands session rest (outcome session t now) now

-- The next turn of a session, whose value tells whether its statement was refused and what is under way then: `tail` is what its statement has to do after it, and these statements it has not begun then.
module _ {T : Type 0} (refused : T → Bool) (task : T → Option Task) (old new : World) (a b : Held) (t : Trail) (now : Now) (asker moved : Asker) (turn : Turn) (tail : List Turn) (rest : List Statement) (here : todo_of asker ≡ turn ∷ (tail ++ map Begins rest)) (has : HasTodo asker now) where
  abbrev more : List Turn
  more = map Begins rest

  one_is : one_turn asker.number now ≡ take_turn asker.number (turn ∷ (tail ++ more)) now
  one_is = one_turn_is asker.number now (turn ∷ (tail ++ more)) (has ∙ here)

  making_is : making_by asker.number now ≡ making (base_now now).frozen (turn ∷ tail)
  making_is =
      ap (making (base_now now).frozen) (has ∙ here) ∙ making_append (base_now now).frozen (turn ∷ tail) more
      ∙ ap (λ (files : List MadeFile). making (base_now now).frozen (turn ∷ tail) ++ files) (making_begins (base_now now).frozen rest) ∙ append-nil (making (base_now now).frozen (turn ∷ tail))

  touching_is : touching_by asker.number now ≡ touching asker.number turn tail now
  touching_is = ap (λ (ts : List Turn). begun_first asker.number ts now ++ making_by asker.number now) (has ∙ here) ∙ ap (λ (files : List MadeFile). begun_in asker.number turn now ++ files) making_is

  plays_one : (result : Result Bool RunError) → Plays result old new a b t now (told_turns asker.told (take_turn asker.number (turn ∷ (tail ++ more)) now)) (touching asker.number turn tail now)
      → Plays result old new a b t now (told_turns asker.told (one_turn asker.number now)) (touching_by asker.number now)
  plays_one result plays =
      subst (λ (p : Played). Plays result old new a b t now (told_turns asker.told p) (touching_by asker.number now)) (sym one_is)
      (subst (Plays result old new a b t now (told_turns asker.told (take_turn asker.number (turn ∷ (tail ++ more)) now))) (sym touching_is) plays)

  -- what was foretold of the session was of the turn
  told_turn : Foretells now.given (shown_next asker a) old new → Foretells now.given (shown_by turn a) old new
  told_turn = subst (λ (ts : List Turn). Foretells now.given (shown_first ts a) old new) here

  -- it is the next one
  ends_next : (ran_out ended : Type 0) → EndsTurn ran_out ended old new (name_of a) t now asker.number turn → EndsNext ran_out ended old new (name_of a) t now asker.number
  ends_next ran_out ended ends = subst (EndsFirst ran_out ended old new (name_of a) t now asker.number) (sym (has ∙ here)) ends

  -- the turn was taken
  takes_turn : (value : T) (noted : Bool) (danger : Option (List ℕ)) → moved ≡ record { number = asker.number; told = asker.told; statements = rest; task = task value; refused = noted; danger = danger }
      → Turns asker.told refused task (Ok value) old new a b t now asker.number turn tail more → TakesNext (refused value) (Ok tt) old new a b t now asker moved
  takes_turn value noted danger same turns = record {
    grows = turns.grows;
    plays = λ told. plays_one (Ok (refused value)) (turns.plays (told_turn told));
    ends = λ told. ends_next (RanOut {T = Unit {0}} (Ok tt)) (Unit {0}) (record { unchanged = (turns.ends (told_turn told)).unchanged; short = λ ran done. absurd ran; files = (turns.ends (told_turn told)).files });
    todo = λ told.
        ap (λ (x : Asker). slice_index_or (one_turn asker.number now).1.todo (x.number - 1) []) same
        ∙ ap (λ (p : Played). slice_index_or p.1.todo (asker.number - 1) []) one_is ∙ taken_todo asker.number now turn (tail ++ more) (has ∙ here)
        ∙ sym (append_assoc (outcome asker.number turn now).next tail more) ∙ ap (λ (ts : List Turn). ts ++ more) (turns.behind (told_turn told)).next ∙ sym (ap todo_of same);
    goes = λ told.
        subst (λ (x : Asker). TaskGoes asker.number new b (base_now (one_turn asker.number now).1).frozen x.task) (sym same)
        (subst (λ (base : Base). TaskGoes asker.number new b base.frozen (task value)) (sym (ap (λ (p : Played). base_now p.1) one_is ∙ taken_base asker.number now turn (tail ++ more))) (turns.behind (told_turn told)).goes);
  }

  -- it ended early
  takes_none : (error : RunError) (answer : Result (Unit {0}) RunError) (which : Bool) → IsErr answer × IsErrAnd answer (λ e. e ≡ error)
      → Turns asker.told refused task (Err error) old new a b t now asker.number turn tail more → TakesNext which answer old new a b t now asker moved
  takes_none error (Ok done) which is turns = absurd is.1
  takes_none error (Err e) which is turns = record {
    grows = turns.grows;
    plays = λ told. subst (λ (f : RunError). Plays (Err f) old new a b t now (told_turns asker.told (one_turn asker.number now)) (touching_by asker.number now)) (sym is.1)
        (plays_one (Err error) (turns.plays (told_turn told)));
    ends = λ told.
        let here_ends = turns.ends (told_turn told) in
        ends_next (RanOut {T = Unit {0}} (Err e)) ⊥ (record { unchanged = here_ends.unchanged; short = λ ran done. here_ends.short (subst (λ (f : RunError). RanOut {T = T} (Err f)) is.1 ran) done; files = here_ends.files });
    todo = λ told. tt;
    goes = λ told. tt;
  }

-- What is said of a failure is said of the answer that hands it on.
module _ {S : Type 0} (error : RunError) where
  pub counts_handed : (T : Type 0) (answer : Result S RunError) (before after : FaultCount) → IsErr answer × IsErrAnd answer (λ e. e ≡ error) → CountsRun {T = T} (Err error) before after → CountsRun answer before after
  counts_handed T (Ok value) before after is counts = absurd is.1
  counts_handed T (Err e) before after is counts = subst (λ (f : RunError). CountsRun {T = S} (Err f) before after) (sym is.1) (by error counts)
    where
      by : (f : RunError) → CountsRun {T = T} (Err f) before after → CountsRun {T = S} (Err f) before after
      by DeviceError is = is
      by MemoryError is = is

-- what is said of a call's fault is said of another answer with it
pub counts_as : (S T : Type 0) (fault : Fault) (before after : FaultCount) → CountsDevice {T = S} (Err fault) before after → CountsDevice {T = T} (Err fault) before after
counts_as S T (Refused refusal) before after is = is
counts_as S T Device before after is = is
counts_as S T Memory before after is = is

-- what is under way comes first
going_on : (asker : Asker) (task : Task) → asker.task ≡ Some task → todo_of asker ≡ task_first task ∷ (task_rest task ++ map Begins asker.statements)
going_on asker task is = ap (λ (x : Option Task). task_todo x ++ map Begins asker.statements) is

-- or else the first of the statements
beginning : (asker : Asker) (statement : Statement) (rest : List Statement) → asker.task ≡ None → asker.statements ≡ statement ∷ rest → todo_of asker ≡ Begins statement ∷ ([] ++ map Begins rest)
beginning asker statement rest is first = ap (λ (x : Option Task). task_todo x ++ map Begins asker.statements) is ∙ ap (map Begins) first

module _ (tells : Bool) (old new : World) (faults faults' : FaultCount) (a b : Held) (asker moved : Asker) (others : KeepsOthers asker.number a b) (kept : moved.told ≡ asker.told) where
  module _ {T : Type 0} (refused : T → Bool) (task : T → Option Task) (turn : Turn) (tail : List Turn) (rest : List Statement) (here : todo_of asker ≡ turn ∷ (tail ++ map Begins rest)) where
    -- what the turn did, where the session comes to it
    abbrev Turned : Result T RunError → Type 0
    Turned result = (now : Now) (t : Trail) → IsTrue tells → IsReady old a t now → IsMaking now → slice_index_or now.todo (asker.number - 1) [] ≡ turn ∷ (tail ++ map Begins rest) → TaskGoes asker.number old a t.base.frozen asker.task
        → Turns asker.told refused task result old new a b t now asker.number turn tail (map Begins rest)

    step_failed : (error : RunError) (answer : Result (Unit {0}) RunError) → IsErr answer × IsErrAnd answer (λ e. e ≡ error) → Turned (Err error) → CountsRun {T = T} (Err error) faults faults'
        → Steps tells answer old new faults faults' a b asker moved
    step_failed error answer handed turned counts = record {
      refused = false;
      noted = on_handed (moved.refused ≡ (asker.refused || false)) answer handed;
      told = kept;
      danger = on_handed (Finds tells old a asker.task asker.statements asker.danger moved.danger) answer handed;
      takes = λ now t told ready going has goes. takes_none refused task old new a b t now asker moved turn tail rest here has error answer false handed (turned now t told ready going (has ∙ here) goes);
      others = others;
      cause = counts_handed error T answer faults faults' handed counts;
    }
      where
        on_handed : (P : Type 0) (answer : Result (Unit {0}) RunError) → IsErr answer × IsErrAnd answer (λ e. e ≡ error) → OnOk answer P
        on_handed P (Ok done) is = absurd is.1
        on_handed P (Err e) is = tt

    step_taken : (value : T) (danger : Option (List ℕ)) → moved ≡ record { number = asker.number; told = asker.told; statements = rest; task = task value; refused = asker.refused || refused value; danger = danger }
        → Finds tells old a asker.task asker.statements asker.danger danger → Turned (Ok value) → faults' ≡ faults
        → Steps tells (Ok tt) old new faults faults' a b asker moved
    step_taken value danger same finds turned counts = record {
      refused = refused value;
      noted = ap (λ (x : Asker). x.refused) same;
      told = kept;
      danger = subst (Finds tells old a asker.task asker.statements asker.danger) (sym (ap (λ (x : Asker). x.danger) same)) finds;
      takes = λ now t told ready going has goes.
          takes_turn refused task old new a b t now asker moved turn tail rest here has value (asker.refused || refused value) danger same (turned now t told ready going (has ∙ here) goes);
      others = others;
      cause = counts;
    }

  -- a further turn of what is under way, which is `now_task` then where it goes on
  module _ (task : Task) (is : asker.task ≡ Some task) (now_task : Option Task) where
    abbrev Went : Result Left RunError → Type 0
    Went result = (now : Now) (t : Trail) (more : List Turn) → IsTrue tells → IsReady old a t now → IsMaking now → GoesFurther asker.told asker.task now_task result old new a b t now asker.number more

    came : (result : Result Left RunError) → Went result → Turned left_refused (left_task now_task) (task_first task) (task_rest task) asker.statements (going_on asker task is) result
    came result went now t told ready going at goes =
        subst (λ (x : Option Task). GoesFurther asker.told x now_task result old new a b t now asker.number (map Begins asker.statements)) is (went now t (map Begins asker.statements) told ready going) at
        (subst (TaskGoes asker.number old a t.base.frozen) is goes)

    pub went_failed : (error : RunError) (answer : Result (Unit {0}) RunError) → IsErr answer × IsErrAnd answer (λ e. e ≡ error) → Went (Err error) → CountsRun {T = Left} (Err error) faults faults'
        → Steps tells answer old new faults faults' a b asker moved
    went_failed error answer handed went counts =
        step_failed left_refused (left_task now_task) (task_first task) (task_rest task) asker.statements (going_on asker task is) error answer handed (came (Err error) went) counts

    went_taken : (left : Left) → moved ≡ record { number = asker.number; told = asker.told; statements = asker.statements; task = left_task now_task left; refused = asker.refused || left_refused left; danger = asker.danger } → Went (Ok left) → faults' ≡ faults
        → Steps tells (Ok tt) old new faults faults' a b asker moved
    went_taken left same went counts =
        step_taken left_refused (left_task now_task) (task_first task) (task_rest task) asker.statements (going_on asker task is) left asker.danger same
        (subst (λ (x : Option Task). Finds tells old a x asker.statements asker.danger asker.danger) (sym is) refl) (came (Ok left) went) counts

    -- the same is under way: nothing more is noted
    pub went_same : (left : Left) → left ≡ Same → moved ≡ record { number = asker.number; told = asker.told; statements = asker.statements; task = now_task; refused = asker.refused; danger = asker.danger } → Went (Ok left) → faults' ≡ faults
        → Steps tells (Ok tt) old new faults faults' a b asker moved
    went_same left is same went counts =
        went_taken left (same ∙ ap {A = Bool} {B = Asker} (λ noted. record { number = asker.number; told = asker.told; statements = asker.statements; task = now_task; refused = noted; danger = asker.danger }) (sym (or_false asker.refused)) ∙ of_left (sym is)) went counts
      where
        of_left : {x y : Left} → x ≡ y → ◌≡◌ {A = Asker} (record { number = asker.number; told = asker.told; statements = asker.statements; task = left_task now_task x; refused = asker.refused || left_refused x; danger = asker.danger })
            (record { number = asker.number; told = asker.told; statements = asker.statements; task = left_task now_task y; refused = asker.refused || left_refused y; danger = asker.danger })
        of_left e = ap {A = Left} {B = Asker} (λ l. record { number = asker.number; told = asker.told; statements = asker.statements; task = left_task now_task l; refused = asker.refused || left_refused l; danger = asker.danger }) e

    -- or something else is
    pub went_other : (left : Left) (taken : Taken) → left ≡ Other taken → moved ≡ record { number = asker.number; told = asker.told; statements = asker.statements; task = taken.task; refused = asker.refused || taken.refused; danger = asker.danger } → Went (Ok left)
        → faults' ≡ faults → Steps tells (Ok tt) old new faults faults' a b asker moved
    went_other left taken is same went counts =
        went_taken left
        (same ∙ ap {A = Left} {B = Asker} (λ l. record { number = asker.number; told = asker.told; statements = asker.statements; task = left_task now_task l; refused = asker.refused || left_refused l; danger = asker.danger }) (sym is))
        went counts

  -- the first turn of a statement
  module _ (statement : Statement) (rest : List Statement) (is : asker.task ≡ None) (first : asker.statements ≡ statement ∷ rest) where
    abbrev Began : Result Taken RunError → Type 0
    Began result = (now : Now) (t : Trail) (more : List Turn) → IsTrue tells → IsReady old a t now → IsMaking now → slice_index_or now.todo (asker.number - 1) [] ≡ Begins statement ∷ more
        → Turns asker.told (λ (x : Taken). x.refused) (λ (x : Taken). x.task) result old new a b t now asker.number (Begins statement) [] more

    pub began_failed : (error : RunError) (answer : Result (Unit {0}) RunError) → IsErr answer × IsErrAnd answer (λ e. e ≡ error) → Began (Err error) → CountsRun {T = Taken} (Err error) faults faults'
        → Steps tells answer old new faults faults' a b asker moved
    began_failed error answer handed began counts =
        step_failed (λ (x : Taken). x.refused) (λ (x : Taken). x.task) (Begins statement) [] rest (beginning asker statement rest is first) error answer handed (λ now t told ready going at goes. began now t (map Begins rest) told ready going at) counts

    pub began_taken : (taken : Taken) (danger : Option (List ℕ)) → moved ≡ record { number = asker.number; told = asker.told; statements = rest; task = taken.task; refused = asker.refused || taken.refused; danger = danger }
        → ((t : Trail) → IsTrue tells → IsOpen old a t → danger ≡ danger_after statement t.base.image asker.danger) → Began (Ok taken) → faults' ≡ faults
        → Steps tells (Ok tt) old new faults faults' a b asker moved
    began_taken taken danger same finds began counts =
        step_taken (λ (x : Taken). x.refused) (λ (x : Taken). x.task) (Begins statement) [] rest (beginning asker statement rest is first) taken danger same
        (subst (λ (x : Option Task). Finds tells old a x asker.statements asker.danger danger) (sym is)
        (subst (λ (ss : List Statement). Finds tells old a None ss asker.danger danger) (sym first) finds)) (λ now t told ready going at goes. began now t (map Begins rest) told ready going at) counts

-- a session that has not finished, with nothing under way, has a statement left
pub begun_within : (asker : Asker) (all : List Statement) (next : ℕ) → (IsDone (left_of asker) → ⊥) → asker.statements ≡ drop next all → asker.task ≡ None → next < length all
begun_within asker all next unfinished left none = elim (cases_lt next (length all)) [
  | inl within ↦ within
  | inr past ↦ absurd (unfinished
      (ap (λ (ss : List Statement). (length ss, task_left asker.task)) (left ∙ drop_of_length-le all past) ∙ ap (λ (task : Option Task). (0, task_left task)) none))
]
