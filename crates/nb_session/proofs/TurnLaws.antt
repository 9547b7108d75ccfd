-- One turn, by what it made of the database and by its line.
use Rattle.std.proofs.Common.{◌≡◌, ◌<◌, ℕ, ◌-◌, List, [], ◌∷◌, ◌++◌, Bool, false, refl, sym, ap, subst, ◌∙◌, true, Result, Ok, Err, IsErr, IfOk, Option, Some, None, if◌then◌else◌}
use Rattle.nb_session.proofs.Common.{slice_index_or, append-nil, true≢false, name_of, World, Fault, Refused, Device, Memory, Refusal, RunError, Reply, Statement, Foretells, IsMaking, line_text, MadeFile, Turn, Begins, Seen, status_after, Now, Played, base_now, outcome, take_turn, Trail, first_turn, turn, status_plain, IsSingle, IsNoRefusal, Held, Left, Other, Task, Taken, Told, Says, Grows, shown_by, Acts, MayAct, TaskFits, left_refused, left_task, task_left, IsReady, HasEnded, is_refusal, EndsEarly, SaysLine, as_played, touching, GoesFurther, IsBehind, Turns, Plays, told_line, told_reply, told_turns, false_true, IfOk-from_err}
use Rattle.nb_session.proofs.FilesLaws.{files_as, files_said}
use Rattle.nb_session.specs.Files.{is_end, is_finish}
use Rattle.nb_session.specs.Short.{CameToEnd}
use Rattle.nb_model.specs.declared.reply.Reply.TheVariants.{Refused as RefusedBy}
use Rattle.nb_model.proofs.UsageLaws.{never_usage}
use Rattle.nb_lines.specs.Brief.{is_brief}
use Rattle.nb_session.specs.Short.{LacksLast, RanOut, says_done}
use Rattle.nb_session.proofs.EventLaws.{Marks, event_failed, event_quiet, event_unsaid, event_said}
use Rattle.nb_session.proofs.GiftLaws.{foretold_still, grows_joined, grows_none}
use Rattle.nb_session.proofs.SaysLaws.{says_other}
use Rattle.nb_session.proofs.ToldLaws.{refusal_line}

-- a result that is a failure
pub plays_err : {T : Type 0} (refused : T → Bool) (result : Result T RunError) (old new : World) (before after : Held) (t : Trail) (now : Now) (p : Played) (files : List MadeFile) → IsErr result
    → ((e : RunError) → Plays (Err e) old new before after t now p files) → Plays (as_played refused result) old new before after t now p files
plays_err refused (Ok value) old new before after t now p files is plays = absurd (cc (is))
plays_err refused (Err e) old new before after t now p files is plays = plays e

-- a failure is no end
failed_none : {S : Type 0} (answer : Result S RunError) → IsErr answer → CameToEnd answer → ⊥
failed_none (Ok value) failed came = cc (failed)
failed_none (Err error) failed came = came

-- A turn of the session that has it to do next, and `tail` and `more` after it.
module _ {T S : Type 0} (how : Told) (reply : T → Option Reply) (result : Result T Fault) (refused : S → Bool) (task : S → Option Task) (old mid new : World) (e0 e1 : Held) (t : Trail) (now : Now) (session : ℕ)
    (u : Turn) (tail more : List Turn) (files : List MadeFile) (files_are : files ≡ touching session u tail now) (makes : IsMaking now) (place : slice_index_or now.todo (session - 1) [] ≡ u ∷ (tail ++ more))
    (may : MayAct reply result old mid e0 e1 t now session u files) (mark : Acts reply result old mid e0 e1 t now session u files → Marks old mid e0 files) where
  abbrev played : Played
  played = told_turns how (take_turn session (u ∷ (tail ++ more)) now)

  acting : Foretells now.given (shown_by u e0) old mid → Acts reply result old mid e0 e1 t now session u (touching session u tail now)
  acting told = subst (Acts reply result old mid e0 e1 t now session u) files_are (may.acts told)

  marks : Foretells now.given (shown_by u e0) old mid → Marks old mid e0 (touching session u tail now)
  marks told = subst (Marks old mid e0) files_are (mark (may.acts told))

  -- it failed before it was to say anything
  pub turns_failed : (answer : Result S RunError) → IsErr answer → (Acts reply result old mid e0 e1 t now session u files → RanOut answer → LacksLast old mid (name_of e0) t (outcome session u now).strokes)
      → Turns how refused task answer old mid e0 e1 t now session u tail more
  turns_failed answer failed lacks = record {
    grows = may.grows;
    plays = λ told. plays_err refused answer old mid e0 e1 t now played (touching session u tail now) failed (event_failed how old mid mid e0 e1 t now session u tail more result reply (acting told) (marks told));
    ends = λ told. record {
      unchanged = (acting told).unchanged;
      short = λ ran done. lacks (may.acts told) ran;
      files = files_as (is_end u) _ _ old mid (name_of e0) t _ (λ (m : CameToEnd answer × (is_finish u ≡ true)). absurd (failed_none answer failed m.0)) (acting told).files;
    };
    behind = λ told. IfOk-from_err answer _ failed;
  }

  -- it has nothing to say
  pub turns_quiet : (value : S) → HasEnded result → refused value ≡ false → IsReady old e0 t now → ((said : Option Reply) → Says reply result said → said ≡ None)
      → (Foretells now.given (shown_by u e0) old mid → IsBehind mid e1 session u tail now (task value)) → Turns how refused task (Ok value) old mid e0 e1 t now session u tail more
  turns_quiet value has not_refused ready quiet behind = record {
    grows = may.grows;
    plays = λ told.
        let acts = acting told in
        subst (λ (b : Bool). Plays (Ok b) old mid e0 e1 t now played (touching session u tail now)) (sym not_refused)
        (event_quiet how old mid mid e0 e1 t now session u tail more result reply acts (marks told) has place ready makes (quiet _ acts.says));
    ends = λ told. record { unchanged = (acting told).unchanged; short = λ ran done. absurd ran; files = files_as (is_end u) _ _ old mid (name_of e0) t _ (λ (m : Unit {0} × (is_finish u ≡ true)). (has, m.1)) (acting told).files };
    behind = behind;
  }

  module _ (has : HasEnded result) (r : Reply) (is_said : (said : Option Reply) → Says reply result said → said ≡ Some r) {V E : Type 0} (line_said : Result V E) (says : SaysLine line_said mid new (told_line session (told_reply how (Some r)))) (ready : IsReady old e0 t now) where
    before : Foretells now.given (shown_by u e0) old new → Foretells now.given (shown_by u e0) old mid
    before told = foretold_still old mid new now.given (shown_by u e0) may.grows says.gave told

    grown : Grows old new
    grown = grows_joined old mid new may.grows (grows_none mid new says.gave)

    -- its line wasn't said whole; memory was taken for it before, where it says what was done
    pub turns_unsaid : (answer : Result S RunError) → IsErr answer → (is_brief r ≡ true → RanOut answer → ⊥) → Turns how refused task answer old new e0 e1 t now session u tail more
    turns_unsaid answer failed lined = record {
      grows = grown;
      plays = λ told.
          let acts = acting (before told) in
          plays_err refused answer old new e0 e1 t now played (touching session u tail now) failed
          (event_unsaid how old mid new e0 e1 t now session u tail more result reply acts (marks (before told)) has place ready makes r (is_said _ acts.says) line_said says);
      ends = λ told.
          let acts = acting (before told) in
          record {
            unchanged = λ only. says.still.files ∙ acts.unchanged only;
            short = λ ran done. absurd (lined (subst (λ (x : Option Reply). says_done x ≡ true) (is_said _ acts.says) done) ran);
            files = files_said line_said mid new _ says old (is_end u) _ (name_of e0) t _ (files_as (is_end u) _ _ old mid (name_of e0) t _ (λ (m : CameToEnd answer × (is_finish u ≡ true)). absurd (failed_none answer failed m.0)) acts.files);
          };
      behind = λ told. IfOk-from_err answer _ failed;
    }

    -- it was
    pub turns_said : (value : S) → new.said ≡ mid.said ++ told_line session (told_reply how (Some r)) → ((outcome session u now).reply ≡ Some r → status_after r ≡ (if refused value then 1 else 0))
        → (Foretells now.given (shown_by u e0) old mid → IsBehind new e1 session u tail now (task value)) → Turns how refused task (Ok value) old new e0 e1 t now session u tail more
    turns_said value said status behind = record {
      grows = grown;
      plays = λ told.
          let acts = acting (before told) in
          let reply_is = is_said _ acts.says in
          event_said how old mid new e0 e1 t now session u tail more result reply acts (marks (before told)) has place ready makes r reply_is line_said says (refused value) said (status reply_is);
      ends = λ told. record {
        unchanged = λ only. says.still.files ∙ (acting (before told)).unchanged only;
        short = λ ran done. absurd ran;
        files = files_said line_said mid new _ says old (is_end u) _ (name_of e0) t _ (files_as (is_end u) _ _ old mid (name_of e0) t _ (λ (m : Unit {0} × (is_finish u ≡ true)). (has, m.1)) (acting (before told)).files);
      };
      behind = λ told. behind (before told);
    }

-- what the last turn of a statement leaves
abbrev pub was_last : Left
was_last = Other (record { task = None; refused = false })

-- either it is left, or the turn failed
last_either : (answer : Result Left RunError) → IfOk answer (λ left. left ≡ was_last) → (P : Result Left RunError → Type 0) → P (Ok was_last) → ((e : RunError) → P (Err e)) → P answer
last_either (Ok left) is P last failed = subst (λ (x : Left). P (Ok x)) (sym is) last
last_either (Err e) is P last failed = failed e

module _ (answer : Result Left RunError) (is : IfOk answer (λ left. left ≡ was_last)) where
  -- its reply is told
  pub turns_told : {T : Type 0} (how : Told) (reply : T → Option Reply) (result : Result T Fault) (task : Option Task) (old mid new : World) (e0 e1 : Held) (t : Trail) (now : Now) (session : ℕ) (u : Turn) (tail more : List Turn)
      (files : List MadeFile) → files ≡ touching session u tail now → IsMaking now → slice_index_or now.todo (session - 1) [] ≡ u ∷ (tail ++ more) → MayAct reply result old mid e0 e1 t now session u files
      → (Acts reply result old mid e0 e1 t now session u files → Marks old mid e0 files) → HasEnded result → (r : Reply) → ((said : Option Reply) → Says reply result said → said ≡ Some r) → IsReady old e0 t now
      → SaysLine answer mid new (told_line session (told_reply how (Some r))) → (is_brief r ≡ true → RanOut answer → ⊥) → status_after r ≡ 0 → IsBehind new e1 session u tail now None
      → Turns how left_refused (left_task task) answer old new e0 e1 t now session u tail more
  turns_told how reply result task old mid new e0 e1 t now session u tail more files files_are makes place may mark ended r is_said ready says lined status behind =
      last_either answer is (λ (a : Result Left RunError). SaysLine a mid new (told_line session (told_reply how (Some r))) → (is_brief r ≡ true → RanOut a → ⊥) → Turns how left_refused (left_task task) a old new e0 e1 t now session u tail more)
      (λ line in_room. turns_said how reply result left_refused (left_task task) old mid new e0 e1 t now session u tail more files files_are makes place may mark ended r is_said {V = Left} {E = RunError} (Ok was_last) line ready was_last line.said (λ replied. status) (λ told. behind))
      (λ e line in_room. turns_unsaid how reply result left_refused (left_task task) old mid new e0 e1 t now session u tail more files files_are makes place may mark ended r is_said {V = Left} {E = RunError} (Err e) line ready (Err e) refl in_room) says lined

  -- nothing of it is left, and it needs nothing
  pub last_falls : (now_task : Option Task) (task : Task) → 0 < task_left (Some task) → IfOk answer (λ left. task_left (left_task now_task left) < task_left (Some task))
  last_falls now_task task some = last_either answer is (λ (a : Result Left RunError). IfOk a (λ left. task_left (left_task now_task left) < task_left (Some task))) some (λ e. tt)

  pub last_fits : (now_task : Option Task) (session : ℕ) (held : Held) → IfOk answer (λ left. TaskFits session (left_task now_task left) held)
  last_fits now_task session held = last_either answer is (λ (a : Result Left RunError). IfOk a (λ left. TaskFits session (left_task now_task left) held)) tt (λ e. tt)

-- it is one
err_is : {T : Type 0} {answer : Result T RunError} {error : RunError} → answer ≡ Err error → IsErr answer
err_is {T} {answer} {error} is = subst (λ (r : Result T RunError). IsErr r) (sym is) refl

-- A turn that isn't refused ended early by a fault.
pub turns_lost : {T S : Type 0} (how : Told) (reply : T → Option Reply) (refused : S → Bool) (task : S → Option Task) (old mid new : World) (e0 e1 : Held) (t : Trail) (now : Now) (session : ℕ) (u : Turn) (tail more : List Turn)
    (files : List MadeFile) → files ≡ touching session u tail now → IsMaking now → slice_index_or now.todo (session - 1) [] ≡ u ∷ (tail ++ more) → (fault : Fault) → IsNoRefusal fault → MayAct reply (Err fault) old mid e0 e1 t now session u files
    → (Acts reply (Err fault) old mid e0 e1 t now session u files → Marks old mid e0 files) → (ended : Result Taken RunError) → (same : Type 0) → (same → new ≡ mid) → EndsEarly session fault ended mid new same → (answer : Result S RunError) → (IsErr ended → IsErr answer)
    → (RanOut answer → RanOut ended) → Turns how refused task answer old new e0 e1 t now session u tail more
turns_lost how reply refused task old mid new e0 e1 t now session u tail more files files_are makes place (Refused refusal) none may mark ended same is_same early answer passed out = absurd none
turns_lost how reply refused task old mid new e0 e1 t now session u tail more files files_are makes place Device none may mark ended same is_same early answer passed out =
    subst (λ (w : World). Turns how refused task answer old w e0 e1 t now session u tail more) (sym (is_same early.1))
    (turns_failed how reply (Err Device) refused task old mid mid e0 e1 t now session u tail more files files_are makes place may mark answer (passed (err_is early.0)) (λ acts ran. absurd (subst (RanOut {T = Taken}) early.0 (out ran))))
turns_lost how reply refused task old mid new e0 e1 t now session u tail more files files_are makes place Memory none may mark ended same is_same early answer passed out =
    subst (λ (w : World). Turns how refused task answer old w e0 e1 t now session u tail more) (sym (is_same early.1))
    (turns_failed how reply (Err Memory) refused task old mid mid e0 e1 t now session u tail more files files_are makes place may mark answer (passed (err_is early.0)) (λ acts ran. acts.short))

-- what is said of the task that is under way
pub under_is : {under : Option Task} {field task : Task} → under ≡ Some field → field ≡ task → under ≡ Some task
under_is is same = is ∙ ap Some same

pub further : {how : Told} {under now_task : Option Task} {task : Task} {result : Result Left RunError} {old new : World} {a b : Held} {t : Trail} {now : Now} {session : ℕ} {more : List Turn} → under ≡ Some task
    → GoesFurther how (Some task) now_task result old new a b t now session more → GoesFurther how under now_task result old new a b t now session more
further {how} {under} {now_task} {task} {result} {old} {new} {a} {b} {t} {now} {session} {more} is goes = subst (λ (x : Option Task). GoesFurther how x now_task result old new a b t now session more) (sym is) goes

-- what a turn sees
abbrev pub seen_now : Now → Seen
seen_now now = record { base = base_now now; cache = now.cache; running = now.running; entry = now.account.entry; given = now.given }

pub outcome_is : (session : ℕ) (statement : Statement) (now : Now) → outcome session (Begins statement) now ≡ first_turn (seen_now now) session statement
unfolding outcome turn
outcome_is session statement now = refl

-- the status after a statement is 1 where it was refused
pub status_told : (session : ℕ) (statement : Statement) (now : Now) (r : Reply) → (outcome session (Begins statement) now).reply ≡ Some r → status_after r ≡ (if is_refusal r then 1 else 0)
status_told session statement now r is =
    status_plain r (λ usage. never_usage statement (seen_now now) session (sym (ap (λ o. o.reply) (outcome_is session statement now)) ∙ is ∙ ap Some usage))

-- after a reply that is no refusal it is 0
pub status_none : (r : Reply) → is_refusal r ≡ false → status_after r ≡ 0
status_none r none = status_plain r (λ usage. false_true (sym none ∙ ap is_refusal usage)) ∙ ap (λ (b : Bool). if b then 1 else 0) none

-- a statement that is done in one turn leaves nothing after it
pub single_behind : (w : World) (held : Held) (session : ℕ) (statement : Statement) (now : Now) → IsSingle statement → IsBehind w held session (Begins statement) [] now None
single_behind w held session statement now single =
    record { next = append-nil (outcome session (Begins statement) now).next ∙ ap (λ o. o.next) (outcome_is session statement now) ∙ single (seen_now now) session; goes = tt }

-- The first turn of a statement ended early: where it was refused, that is said.
module _ {T : Type 0} (how : Told) (reply : T → Option Reply) (old mid new : World) (e0 e1 : Held) (t : Trail) (now : Now) (session : ℕ) (it : Statement) (more : List Turn)
    (files : List MadeFile) (files_are : files ≡ touching session (Begins it) [] now) (makes : IsMaking now) (place : slice_index_or now.todo (session - 1) [] ≡ Begins it ∷ more) (ready : IsReady old e0 t now) where
  begun_refused : (refusal : Refusal) → MayAct reply (Err (Refused refusal)) old mid e0 e1 t now session (Begins it) files → (Acts reply (Err (Refused refusal)) old mid e0 e1 t now session (Begins it) files → Marks old mid e0 files)
      → (answer : Result Taken RunError) → SaysLine answer mid new (line_text session (RefusedBy refusal)) → IfOk answer (λ taken. taken ≡ record { task = None; refused = true })
      → (Foretells now.given (shown_by (Begins it) e0) old mid → IsBehind new e1 session (Begins it) [] now None)
      → Turns how (λ taken. taken.refused) (λ taken. taken.task) answer old new e0 e1 t now session (Begins it) [] more
  begun_refused refusal may mark (Ok taken) says is behind =
      turns_said how reply (Err (Refused refusal)) (λ (x : Taken). x.refused) (λ (x : Taken). x.task) old mid new e0 e1 t now session (Begins it) [] more files files_are makes place may mark tt (RefusedBy refusal) (λ said s. s) (Ok taken)
      (says_other (Ok taken) mid new _ _ (refusal_line how session refusal) says) ready taken (says.said ∙ ap (λ (l : List ℕ). mid.said ++ l) (refusal_line how session refusal))
      (λ replied. status_told session it now (RefusedBy refusal) replied ∙ ap (λ (x : Taken). if x.refused then 1 else 0) (sym is))
      (λ told. subst (λ (x : Taken). IsBehind new e1 session (Begins it) [] now x.task) (sym is) (behind told))
  begun_refused refusal may mark (Err e) says is behind =
      turns_unsaid how reply (Err (Refused refusal)) (λ (x : Taken). x.refused) (λ (x : Taken). x.task) old mid new e0 e1 t now session (Begins it) [] more files files_are makes place may mark tt (RefusedBy refusal) (λ said s. s) (Err e)
      (says_other (Err e) mid new _ _ (refusal_line how session refusal) says) ready
      (Err e) refl (λ brief ran. true≢false (sym brief))

  pub begun_ended : (fault : Fault) → MayAct reply (Err fault) old mid e0 e1 t now session (Begins it) files → (Acts reply (Err fault) old mid e0 e1 t now session (Begins it) files → Marks old mid e0 files)
      → (answer : Result Taken RunError) → (same : Type 0) → (same → new ≡ mid) → EndsEarly session fault answer mid new same → IfOk answer (λ taken. taken ≡ record { task = None; refused = true })
      → ((refusal : Refusal) → fault ≡ Refused refusal → Foretells now.given (shown_by (Begins it) e0) old mid → IsBehind new e1 session (Begins it) [] now None)
      → Turns how (λ taken. taken.refused) (λ taken. taken.task) answer old new e0 e1 t now session (Begins it) [] more
  begun_ended (Refused refusal) may mark answer same is_same early is behind = begun_refused refusal may mark answer early is (behind refusal refl)
  begun_ended Device may mark answer same is_same early is behind =
      turns_lost how reply (λ (x : Taken). x.refused) (λ (x : Taken). x.task) old mid new e0 e1 t now session (Begins it) [] more files files_are makes place Device tt may mark answer same is_same early answer (λ failed. failed) (λ ran. ran)
  begun_ended Memory may mark answer same is_same early is behind =
      turns_lost how reply (λ (x : Taken). x.refused) (λ (x : Taken). x.task) old mid new e0 e1 t now session (Begins it) [] more files files_are makes place Memory tt may mark answer same is_same early answer (λ failed. failed) (λ ran. ran)
