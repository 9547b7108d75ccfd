-- A run leaves other files alone, whatever stands in the files, and says what it refuses.
use Rattle.std.proofs.Common.{◌≡◌, ◌≢◌, inl, inr, ℕ, List, [], ◌∷◌, ◌++◌, max, refl, sym, ap, subst, ◌∙◌, append_assoc, Bool, true, false, IsTrue, Option, None, Some, Result, Ok, Err, Contains}
use Rattle.nb_top.proofs.Common.{true≢false, File, Files, with_file, World, Leaves, LeavesAll, AtEachMoment, IsTimely, Refusal, Names, Other, weaker, decide, with_file-other, with_file-same, Deed, Reply, Statement, CreateDb, OpenDb, Account, Plain, with_entry, Cause, not_free, generated, Foretells, line_text, MadeFile, IsNoneOf, Given, output, status_after, status_of, text_of, not_opened, Event, IsRest, Now, Opening, Played, begun, done_opening, files_made, opening, opening_unless, replies_of, rounds, Stroke, Plan, script_of, ScriptMakes, OthersLeft, foretold_itself, begun_asked, made_named, Status, Telling, Sparingly, number_of, DoesTurn, OfName, one_turn, IsPerformed, IsReadRun, IsScriptRun, IsUnasked, IsWrittenRun, Performs, PerformsRun, Target, begins_refused, first_event, refused_at, run_in, script_made, target_asked, target_of, Asked, Does, EndsSo, KnowsAsked, Request, Runs, Ships, ToGenerate, ToRun, AsksToMake, MayTouch, OfAsked, OfTarget, ReadMakes, SaysRefusal, TouchesOnly, ends_refused}
use Rattle.nb_model.specs.declared.reply.Reply.TheVariants.{Refused as RefusedReply}
use Rattle.nb_model.specs.Outcomes.{Turn}
use Rattle.nb_model.specs.Run.{IsRun as IsWholeRun}
use Rattle.nb_ended.specs.declared.status.Status.TheVariants.{Refused as RefusedStatus, Usage as UsageStatus, Device, Memory}
use Rattle.nb_top.proofs.KnownLaws.{account_told}
use Rattle.nb_top.proofs.MadeRuns.{first_or, made_behind, none_made}
use Rattle.nb_top.proofs.ToldLaws.{told_files}
use Rattle.nb_session.proofs.EventLaws.{made_none}

-- ---- the files that a run makes

-- A first statement makes no file, and its sessions have their statements to do after it.
record BeginsSo (sessions : List (List Statement)) (o : Opening) : Type 0 where
  none : o.event.made ≡ None
  todo : (now : Now) → o.now ≡ Some now → now.todo ≡ begun sessions

abbrev todo_or : List (List Statement) → Option Now → List (List Turn)
todo_or sessions None = begun sessions
todo_or sessions (Some now) = now.todo

module _ (account : Account) (given : Given) (sessions : List (List Statement)) (session : ℕ) where
  unless_so : (name : List ℕ) (cache : ℕ) (strokes : List Stroke) (reply : Reply) (c : Cause) → BeginsSo sessions (opening_unless session c account (done_opening session name cache strokes reply account given sessions))
  unfolding done_opening
  unless_so name cache strokes reply None = record { none = refl; todo = λ now is. ap (todo_or sessions) (sym is) }
  unless_so name cache strokes reply (Some refusal) = record { none = refl; todo = λ now is. ap (todo_or sessions) (sym is) }

  opening_so : (first : Statement) → BeginsSo sessions (opening account given sessions session first)
  unfolding opening
  opening_so (CreateDb name size raw cache) = unless_so name cache _ _ (not_free name (account.entry name))
  opening_so (OpenDb name cache) = unless_so name cache _ _ (not_opened name (account.entry name))
  opening_so other = record { none = refl; todo = λ now is. ap (todo_or sessions) (sym is) }

module _ (plan : Plan) (account : Account) (given : Given) (last : Account) (left : Given) where
  -- after it turns make the files that statements ask for
  rest_makes : (o : Opening) → BeginsSo plan.sessions o → (rest : List Event) → IsRest plan.schedule o given rest last left → (f : MadeFile) → Contains (files_made rest) f → ScriptMakes plan f.0
  rest_makes o so rest goes f there = by o.now refl goes
    where
      by : (n : Option Now) → o.now ≡ n → IsRest plan.schedule (record { event = o.event; account = o.account; now = n }) given rest last left → ScriptMakes plan f.0
      by None is on = absurd (made_none f (subst (λ (es : List Event). Contains (files_made es) f) on.0 there))
      by (Some now) is on =
          made_named (ScriptMakes plan) (plan.schedule ++ rounds on.1.how_often) now (begun_asked plan now (so.todo now is)) f
          (subst (λ (es : List Event). Contains (files_made es) f) (sym (ap (λ (p : Played). p.0) on.1.is)) there)

  whole_makes : (events : List Event) → IsWholeRun account given plan.first_session plan.first plan.schedule plan.sessions events last left → (f : MadeFile) → Contains (files_made events) f → ScriptMakes plan f.0
  whole_makes events runs f there =
      let o : Opening = opening account given plan.sessions plan.first_session plan.first in
      let so : BeginsSo plan.sessions o = opening_so account given plan.sessions plan.first_session plan.first in
      rest_makes o so runs.rest runs.goes_on f (subst (λ (files : List MadeFile). Contains files f) (ap files_made runs.is ∙ made_behind o.event runs.rest so.none) there)

module _ (account : Account) (given : Given) (events : List Event) (last : Account) (left : Given) (f : MadeFile) where
  script_makes : (plan : Plan) (telling : Telling) → IsScriptRun plan telling account given events last left → Contains (files_made events) f → ScriptMakes plan f.0
  script_makes plan telling runs there =
      whole_makes plan account given last left runs.whole runs.run f (subst (λ (files : List MadeFile). Contains files f) (ap files_made runs.said ∙ told_files telling _ runs.whole) there)

  -- a refusal makes none
  refusal_makes : (session : ℕ) (refusal : Refusal) → events ≡ refused_at session refusal → Contains (files_made events) f → ⊥
  refusal_makes session refusal is there = none_made (first_event session [] (RefusedReply refusal)) refl f (subst (λ (es : List Event). Contains (files_made es) f) is there)

  read_makes : (read : Result Plan Refusal) → IsReadRun read Sparingly account given events last left → Contains (files_made events) f → ReadMakes read f.0
  read_makes (Err refusal) runs there = refusal_makes 0 refusal runs.0 there
  read_makes (Ok plan) runs there = script_makes plan Sparingly runs there

script_first : (name bytes : List ℕ) (es : List Event) → files_made (script_made name bytes ∷ es) ≡ (name, bytes) ∷ files_made es
unfolding files_made
script_first name bytes es = refl

module _ (account : Account) (given : Given) (events : List Event) (last : Account) (left : Given) (f : MadeFile) (there : Contains (files_made events) f) where
  written_makes : (number : ℕ) (name : List ℕ) → IsWrittenRun name (generated number) account given events last left → AsksToMake (ToGenerate number name) f.0
  written_makes number name runs =
      elim (first_or (name, generated number) f (files_made runs.rest) (subst (λ (files : List MadeFile). Contains files f) (ap files_made runs.is ∙ script_first name (generated number) runs.rest) there)) [
        | inl own ↦ inl (ap (λ (file : MadeFile). file.0) own)
        | inr later ↦ inr (read_makes (with_entry name (Plain (generated number) None) account) given runs.rest last left f (script_of (generated number)) runs.run later)
      ]

  number_makes : (number : ℕ) (name : List ℕ) (c : Cause)
      → elim c as (λ cause. Type 0) [ Some refusal ↦ (events ≡ refused_at 1 refusal) × (last ≡ account) × (left ≡ given) | None ↦ IsWrittenRun name (generated number) account given events last left ] → AsksToMake (ToGenerate number name) f.0
  number_makes number name (Some refusal) done = absurd (refusal_makes account given events last left f 1 refusal done.0 there)
  number_makes number name None done = written_makes number name done

  -- A run makes the files that its statements ask for, and that of a script which it writes.
  pub performed_makes : (files : Files) (asked : Result Request Refusal) → IsPerformed files asked account given events last left → MayTouch asked f.0
  performed_makes files (Err refusal) done = refusal_makes account given events last left f 0 refusal done.0 there
  performed_makes files (Ok (ToRun plan telling)) done = inr (script_makes account given events last left f plan telling done there)
  performed_makes files (Ok (ToGenerate number name)) done = inr (number_makes number name (not_free name (account.entry name)) done)

-- ---- its database

unasked : (target : Option Target) (m : List ℕ) → Other (OfTarget target) m → IsUnasked target m
unasked None m off = tt
unasked (Some target) m off = off

of_target : (asked : Result Request Refusal) (events : List Event) (m : List ℕ) → Other (MayTouch asked) m → IsUnasked (target_of asked events) m
of_target (Err refusal) events m off = tt
of_target (Ok request) events m off = by (begins_refused (run_in request events))
  where
    by : (refused : Bool) → IsUnasked (elim refused as (λ z. Option Target) [ true ↦ None | false ↦ target_asked request ]) m
    by true = tt
    by false = unasked (target_asked request) m (λ own. off (inl own))

-- ---- the line of a refusal

-- the text has the line of a refusal
record HasRefusal (text : List ℕ) : Type 0 where
  session : ℕ
  refusal : Refusal
  before : List ℕ
  behind : List ℕ
  is : text ≡ before ++ (line_text session (RefusedReply refusal) ++ behind)

first_or_later : (session : ℕ) (reply : Reply) (rs : List (ℕ × Reply)) → max (status_after reply) (status_of rs) ≢ 0 → (status_of rs ≢ 0 → HasRefusal (text_of rs)) → HasRefusal (line_text session reply ++ text_of rs)
first_or_later session (RefusedReply refusal) rs some later = record { session = session; refusal = refusal; before = []; behind = text_of rs; is = refl }
first_or_later session other rs some later =
    let there : HasRefusal (text_of rs) = later (λ none. some (ap (λ (n : ℕ). max 0 n) none)) in
    record {
      session = there.session;
      refusal = there.refusal;
      before = line_text session other ++ there.before;
      behind = there.behind;
      is = ap (λ (l : List ℕ). line_text session other ++ l) there.is ∙ sym (append_assoc (line_text session other) there.before (line_text there.session (RefusedReply there.refusal) ++ there.behind));
    }

-- so it is where the status of replies isn't 0
refused_text : (rs : List (ℕ × Reply)) → status_of rs ≢ 0 → HasRefusal (text_of rs)
unfolding status_of text_of
refused_text [] some = absurd (some refl)
refused_text (r ∷ rs) some = first_or_later r.0 r.1 rs some (refused_text rs)

refused_number : (status : Status) → ends_refused status ≡ true → number_of status ≢ 0
refused_number RefusedStatus ends = λ none. cc
refused_number UsageStatus ends = λ none. cc
refused_number other ends = absurd (true≢false (sym ends))

refused_said : (status : Status) (old new : World) (events : List Event) → new.said ≡ old.said ++ output events → number_of status ≡ status_of (replies_of events) → ends_refused status ≡ true → SaysRefusal old new
refused_said status old new events said number ends =
    let there : HasRefusal (output events) = refused_text (replies_of events) (λ none. refused_number status ends (number ∙ none)) in
    record { session = there.session; refusal = there.refusal; before = there.before; behind = there.behind; is = said ∙ ap (λ (l : List ℕ). old.said ++ l) there.is }

-- it came to its end
no_device : (status : Status) → ends_refused status ≡ true → status ≢ Device
no_device status ends is = true≢false (sym ends ∙ ap ends_refused is)

no_memory : (status : Status) → ends_refused status ≡ true → status ≢ Memory
no_memory status ends is = true≢false (sym ends ∙ ap ends_refused is)

-- ---- all of it

-- it is told by one record, and not by parts
abbrev pub IsOne : Asked → Type 0
IsOne (Runs asked) = Unit {0}
IsOne (Does deed) = Unit {0}
IsOne (Ships primary standby) = ⊥

module _ (old new : World) (timely : IsTimely new) (beside : LeavesAll new new.files) where
  -- what holds at each moment holds of what a crash leaves now
  module _ (names : Names) (moments : AtEachMoment old new (OthersLeft old names)) where
    left_now : (m : List ℕ) (file : File) → Other names m → Leaves new m file → Leaves old m file
    left_now m file off left =
        let files : Files = with_file new.files m file in
        subst (Leaves old m) (with_file-same new.files m file)
        ((moments.each files new.said (timely.counts_now old.moment files moments.later (λ n. elim (decide n m) [
          | inl same ↦ subst (λ (k : List ℕ). Leaves new k (files k)) (sym same) (subst (Leaves new m) (sym (with_file-same new.files m file)) left)
          | inr other ↦ subst (Leaves new n) (sym (with_file-other new.files m file n other)) (beside n)
        ]))).others m off)

    touches_only : (status : Status) → ((m : List ℕ) → Other names m → new.files m ≡ old.files m) → (ends_refused status ≡ true → SaysRefusal old new) → TouchesOnly status old new names
    touches_only status reads says =
        record { moments = moments; left = left_now; reads = reads; added = (moments.each new.files new.said (timely.counts_now old.moment new.files moments.later beside)).added; says = says }

  module _ (status : Status) (account : Account) (given : Given) where
    run_touches : (asked : Result Request Refusal) → PerformsRun status old new asked account given → TouchesOnly status old new (MayTouch asked)
    run_touches asked runs = touches_only (MayTouch asked)
        (weaker old new _ _ runs.stops (λ files said stands. record {
          added = record { part = stands.left.out.part; is = stands.left.out.is };
          others = λ m off. stands.left.others m (of_target asked runs.events m off) (none_of m off);
        }))
        status (λ m off. runs.reads.others m (of_target asked runs.events m off) (none_of m off))
        (λ ends.
        let done = runs.finished (no_device status ends) (no_memory status ends) in
        refused_said status old new runs.events done.said done.ended ends)
      where
        none_of : (m : List ℕ) → Other (MayTouch asked) m → IsNoneOf (files_made runs.events) m
        none_of m off bytes there = off (performed_makes account given runs.events runs.last runs.left (m, bytes) there old.files asked runs.performed)

    turn_touches : (deed : Deed) → DoesTurn status old new (one_turn old.files deed) account → TouchesOnly status old new (OfName (one_turn old.files deed).name)
    turn_touches deed does = touches_only (OfName (one_turn old.files deed).name)
        (weaker old new _ _ does.stops (λ files said left. record { added = record { part = left.out.part; is = left.out.is }; others = left.others }))
        status does.reads.others
        (λ ends.
        let done = does.ended (no_device status ends) (no_memory status ends) in
        refused_said status old new ((one_turn old.files deed).turn account ∷ []) done.said done.ended ends)

    performs_touches : (asked : Asked) → IsOne asked → Performs status old new asked account given → TouchesOnly status old new (OfAsked old.files asked)
    performs_touches (Runs asked) one does = run_touches asked does
    performs_touches (Does deed) one does = turn_touches deed does
    performs_touches (Ships primary standby) one does = absurd one

-- An account that knows what the files tell is told of them alone, and what was given may have been what was to come.
pub done_touches : {H : Type 0} (world : H → World) (tells : Bool) → IsTrue tells → (status : Status) (old new : H) → IsTimely (world new) → LeavesAll (world new) (world new).files → (asked : Asked)
    → IsOne asked → KnowsAsked (world old).files (account_told (world old).files) asked → EndsSo world tells status old new asked → TouchesOnly status (world old) (world new) (OfAsked (world old).files asked)
done_touches world tells told status old new timely beside asked one knows run =
    let account : Account = account_told (world old).files in
    let grows = run.grows account told knows in
    let does = run.does told in
    let given : Given = record { guids = grows.ids; times = grows.clock; holds = does.0 } in
    let foretold : Foretells given does.0 (world old) (world new) = foretold_itself (world old) (world new) does.0 grows in
    performs_touches (world old) (world new) timely beside status account given asked one (does.1 account given knows grows.sixteen foretold).whole
