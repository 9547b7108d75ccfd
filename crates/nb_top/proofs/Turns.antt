-- A run of a job of one turn: what stands of its file at each moment, and its end.
use Rattle.std.proofs.Common.{true≢false, ◌≡◌, ◌⊎◌, inl, inr, ⊎_elim, ℕ, List, [], ◌∷◌, ◌++◌, length, take, true, false, refl, sym, ap, subst, ◌∙◌, Bool, Option, Some, None, Result, Ok, Err, IfOk, OnOk}
use Rattle.nb_top.proofs.Common.{append-nil, File, Files, World, Leaves, LeavesAll, IsTimely, AtEachMoment, Fault, Refusal, RunError, Other, GaveNothing, joined, left_before, weaker, Quiet, Reply, Account, only_refusal, line_text, output, status_after, status_of, Event, replies_of, output_one, status_one, status_refused, FrontSaid, SaysLine, IsSaid, now_left, Status, Done, number_of, OneTurn, OfName, Was, IsAsWas, IsDoneFor, Read, FileLeft, IsOnItsWay, TurnEnded, TurnLeft, leaves_all, IsRefusedWith, IsServed, ServedAs, Serves, TurnsTo, take_self}
use Rattle.nb_host.specs.declared.faults.Fault.TheVariants.{Refused as RefusedFault}
use Rattle.nb_model.specs.declared.reply.Reply.TheVariants.{Refused as RefusedReply}
use Rattle.nb_ended.specs.declared.status.Status.TheVariants.{Refused}

-- all are as they were, and so is that one
as_was : (was : Was) (name : Option (List ℕ)) (files : Files) → ((m : List ℕ) → was m (files m)) → IsAsWas was name files
as_was was None files all = tt
as_was was (Some name) files all = all name

-- a turn that says this reply and is no refusal is served
pub served_as : (reply : Reply) (meant : Event) (new : World) (job : OneTurn) (turn : Event) → turn ≡ meant → meant.session ≡ 1 → meant.reply ≡ Some reply → status_after reply ≡ 0 → (leaves_all turn ≡ false → IsDoneFor new job) → IsServed reply new job turn
served_as reply meant new job turn is session says fine done = record { session = ap (λ (e : Event). e.session) is ∙ session; says = ap (λ (e : Event). e.reply) is ∙ says; fine = fine; done = done }

-- At one moment.
module _ (old : World) (job : OneTurn) (turn : Event) where
  own_left : (was : Was) (part : List ℕ) (files : Files) → (leaves_all turn ≡ true → IsAsWas was job.name files)
      → (leaves_all turn ≡ false → ((IsAsWas was job.name files ⊎ job.half files) × (part ≡ [])) ⊎ job.done files) → FileLeft was job turn part files
  own_left was part files all some = by (leaves_all turn) refl
    where
      by : (t : Bool) → leaves_all turn ≡ t → elim t as (λ none. Type 0) [ true ↦ IsAsWas was job.name files | false ↦ ((IsAsWas was job.name files ⊎ job.half files) × (part ≡ [])) ⊎ job.done files ]
      by true is = all is
      by false is = some is

  abbrev nothing_said : (said : List ℕ) → said ≡ old.said → IsSaid old (turn ∷ []) said
  nothing_said said is = record { part = []; is = is ∙ sym (append-nil old.said); front = refl }

  -- nothing has happened
  still_left : (was : Was) (files : Files) (said : List ℕ) → said ≡ old.said → ((m : List ℕ) → was m (files m)) → TurnLeft was old job turn files said
  still_left was files said silent all = record {
    out = nothing_said said silent;
    own = own_left was [] files (λ is. as_was was job.name files all) (λ is. inl (inl (as_was was job.name files all), refl));
    others = λ m other. all m;
  }

  -- the call goes on
  way_left : (was : Was) (files : Files) (said : List ℕ) → leaves_all turn ≡ false → said ≡ old.said → IsOnItsWay was job files → ((m : List ℕ) → Other (OfName job.name) m → was m (files m)) → TurnLeft was old job turn files said
  way_left was files said some silent way others = record {
    out = nothing_said said silent;
    own = own_left was [] files (λ is. absurd (true≢false (sym is ∙ some))) (λ is. ⊎_elim (λ w. inl (w, refl)) inr way);
    others = others;
  }

  -- it is done, and its line is said
  done_left : (was : Was) (files : Files) (said : List ℕ) → leaves_all turn ≡ false → IsSaid old (turn ∷ []) said → job.done files → ((m : List ℕ) → Other (OfName job.name) m → was m (files m)) → TurnLeft was old job turn files said
  done_left was files said some out done others = record {
    out = out;
    own = own_left was out.part files (λ is. absurd (true≢false (sym is ∙ some))) (λ is. inr done);
    others = others;
  }

  -- it leaves all, and its line is said
  told_left : (was : Was) (files : Files) (said : List ℕ) → leaves_all turn ≡ true → IsSaid old (turn ∷ []) said → ((m : List ℕ) → was m (files m)) → TurnLeft was old job turn files said
  told_left was files said none out all = record {
    out = out;
    own = own_left was out.part files (λ is. as_was was job.name files all) (λ is. absurd (true≢false (sym none ∙ is)));
    others = λ m other. all m;
  }

  -- a line was said after calls that said nothing
  line_said : (mid : World) (reply : Reply) (session : ℕ) (files : Files) (said : List ℕ) → output (turn ∷ []) ≡ line_text session reply → mid.said ≡ old.said → FrontSaid mid (line_text session reply) files said → IsSaid old (turn ∷ []) said
  line_said mid reply session files said is silent front =
      let line : List ℕ = line_text session reply in
      let part : List ℕ = take front.count line in
      record {
        part = part;
        is = front.is ∙ ap (λ (l : List ℕ). l ++ part) silent;
        front = take_self front.count line ∙ ap (take (length part)) (sym is);
      }

-- Nothing happens.
module _ (old mid : World) (job : OneTurn) (turn : Event) (quiet : Quiet old mid) where
  pub quiet_stops : AtEachMoment old mid (TurnLeft (Leaves old) old job turn)
  quiet_stops = weaker old mid _ _ quiet.moments (λ files said is. still_left old job turn (Leaves old) files said is.output is.left)

  pub quiet_reads : TurnLeft (Read old.files) old job turn mid.files mid.said
  quiet_reads = still_left old job turn (Read old.files) mid.files mid.said quiet.said (λ m. ap (λ (f : Files). f m) quiet.still.files)

  pub quiet_gave : GaveNothing old mid
  quiet_gave = record { guids = quiet.guids; times = quiet.times }

  -- so it ended early
  pub quiet_turn : (account : Account) → turn ≡ job.turn account → (e : RunError) → TurnsTo (Err e) old mid job account
  quiet_turn account is e =
      subst (λ (t : Event). AtEachMoment old mid (TurnLeft (Leaves old) old job t) → TurnLeft (Read old.files) old job t mid.files mid.said → TurnsTo (Err e) old mid job account) (sym is)
      (λ stops reads. record { stops = stops; reads = reads; gave = quiet_gave; ended = tt }) quiet_stops quiet_reads

-- The call that takes the turn has answered.
module _ (old mid : World) (job : OneTurn) (account : Account) (result : Result Reply Fault) (serves : Serves result old mid job (job.turn account)) where
  abbrev turn : Event
  turn = job.turn account

  call_stops : AtEachMoment old mid (TurnLeft (Leaves old) old job turn)
  call_stops = by (leaves_all turn) refl
    where
      by : (t : Bool) → leaves_all turn ≡ t → AtEachMoment old mid (TurnLeft (Leaves old) old job turn)
      by true is = quiet_stops old mid job turn (serves.idle is)
      by false is = weaker old mid _ _ serves.left.moments (λ files said left. way_left old job turn (Leaves old) files said is left.output left.has left.others)

  call_reads : TurnLeft (Read old.files) old job turn mid.files mid.said
  call_reads = by (leaves_all turn) refl
    where
      by : (t : Bool) → leaves_all turn ≡ t → TurnLeft (Read old.files) old job turn mid.files mid.said
      by true is = quiet_reads old mid job turn (serves.idle is)
      by false is = way_left old job turn (Read old.files) mid.files mid.said is serves.left.said serves.reads serves.left.others_read

  -- It ended early.
  pub turn_fails : (e : RunError) → TurnsTo (Err e) old mid job account
  turn_fails e = record { stops = call_stops; reads = call_reads; gave = serves.gave; ended = tt }

  -- A line is said after it.
  module _ (new : World) (timely : IsTimely new) (reads_left : LeavesAll new new.files) (reply : Reply) {S E : Type 0} (told : Result S E) (says : SaysLine told mid new (line_text 1 reply)) (line_is : output (turn ∷ []) ≡ line_text 1 reply) where
    gave_nothing : GaveNothing old new
    gave_nothing = record { guids = says.gave.guids ∙ serves.gave.guids; times = says.gave.times ∙ serves.gave.times }

    same_files : (m : List ℕ) → new.files m ≡ mid.files m
    same_files m = ap (λ (f : Files). f m) says.still.files

    said_now : FrontSaid mid (line_text 1 reply) new.files new.said
    said_now = now_left mid new _ timely reads_left says.moments

    said_then : (files : Files) (said : List ℕ) → FrontSaid mid (line_text 1 reply) files said → IsSaid old (turn ∷ []) said
    said_then files said = line_said old job turn mid reply 1 files said line_is serves.left.said

    -- all of it
    said_all : new.said ≡ mid.said ++ line_text 1 reply → new.said ≡ old.said ++ output (turn ∷ [])
    said_all said = said ∙ ap (λ (l : List ℕ). l ++ line_text 1 reply) serves.left.said ∙ ap (λ (l : List ℕ). old.said ++ l) (sym line_is)

  -- It is refused, and its line is said.
  module _ (refusal : Refusal) (is : result ≡ Err (RefusedFault refusal)) where
    refused : IsRefusedWith refusal old mid turn
    refused = subst (λ (r : Result Reply Fault). ServedAs r old mid job turn) is serves.answer

    none : leaves_all turn ≡ true
    none = ap leaves_all refused.is

    refusal_line : output (turn ∷ []) ≡ line_text 1 (RefusedReply refusal)
    refusal_line = ap (λ (e : Event). output (e ∷ [])) refused.is ∙ output_one (only_refusal refusal) (RefusedReply refusal) refl

    module _ (new : World) (timely : IsTimely new) (reads_left : LeavesAll new new.files) {S E : Type 0} (told : Result S E) (says : SaysLine told mid new (line_text 1 (RefusedReply refusal))) where
      pub turn_refused : (end : Result Status RunError) → IfOk end (λ status. status ≡ Refused) → OnOk end (new.said ≡ mid.said ++ line_text 1 (RefusedReply refusal)) → TurnsTo end old new job account
      turn_refused end as_refused said = record {
        stops = joined old mid new _ _ _ call_stops says.moments (λ files now left. left)
            (λ files now front. told_left old job turn (Leaves old) files now none (said_then new timely reads_left (RefusedReply refusal) told says refusal_line files now front)
            (λ m. left_before old mid _ refused.quiet.still.left m (files m) tt (front.left m)));
        reads = told_left old job turn (Read old.files) new.files new.said none (said_then new timely reads_left (RefusedReply refusal) told says refusal_line new.files new.said (said_now new timely reads_left (RefusedReply refusal) told says refusal_line))
            (λ m. same_files new timely reads_left (RefusedReply refusal) told says refusal_line m ∙ ap (λ (f : Files). f m) refused.quiet.still.files);
        gave = gave_nothing new timely reads_left (RefusedReply refusal) told says refusal_line;
        ended = by end as_refused said;
      }
        where
          number : number_of Refused ≡ status_of (replies_of (turn ∷ []))
          number = sym (ap (λ (e : Event). status_of (replies_of (e ∷ []))) refused.is ∙ status_one (only_refusal refusal) (RefusedReply refusal) refl ∙ status_refused refusal refused.other)

          by : (end : Result Status RunError) → IfOk end (λ status. status ≡ Refused) → OnOk end (new.said ≡ mid.said ++ line_text 1 (RefusedReply refusal)) → IfOk end (λ status. TurnEnded status old new job turn)
          by (Ok status) e whole = record {
            said = said_all new timely reads_left (RefusedReply refusal) told says refusal_line whole;
            ended = ap number_of e ∙ number;
            done = λ some. absurd (true≢false (sym none ∙ some));
            unchanged = λ all. says.still.files ∙ refused.quiet.still.files;
          }
          by (Err e) as_said whole = tt

  -- It is done, and its line is said.
  module _ (reply : Reply) (is : result ≡ Ok reply) where
    served : IsServed reply mid job turn
    served = subst (λ (r : Result Reply Fault). ServedAs r old mid job turn) is serves.answer

    reply_line : output (turn ∷ []) ≡ line_text 1 reply
    reply_line = output_one turn reply served.says ∙ ap (λ (session : ℕ). line_text session reply) served.session

    reply_number : number_of Done ≡ status_of (replies_of (turn ∷ []))
    reply_number = sym (status_one turn reply served.says ∙ served.fine)

    module _ (new : World) (timely : IsTimely new) (reads_left : LeavesAll new new.files) {S E : Type 0} (told : Result S E) (says : SaysLine told mid new (line_text 1 reply)) where
      then_said : (files : Files) (said : List ℕ) → FrontSaid mid (line_text 1 reply) files said → IsSaid old (turn ∷ []) said
      then_said = said_then new timely reads_left reply told says reply_line

      -- what stood after the call stands after its line
      same_now : (m : List ℕ) → new.files m ≡ mid.files m
      same_now = same_files new timely reads_left reply told says reply_line

      line_now : IsSaid old (turn ∷ []) new.said
      line_now = then_said new.files new.said (said_now new timely reads_left reply told says reply_line)

      done_stops : AtEachMoment old new (TurnLeft (Leaves old) old job turn)
      done_stops = joined old mid new _ _ _ call_stops says.moments (λ files said left. left) (by (leaves_all turn) refl)
        where
          by : (t : Bool) → leaves_all turn ≡ t → (files : Files) (said : List ℕ) → FrontSaid mid (line_text 1 reply) files said → TurnLeft (Leaves old) old job turn files said
          by true none files said front = told_left old job turn (Leaves old) files said none (then_said files said front) (λ m. left_before old mid _ (serves.idle none).still.left m (files m) tt (front.left m))
          by false some files said front =
              done_left old job turn (Leaves old) files said some (then_said files said front) ((served.done some).left files front.left)
              (λ m off. left_before old mid (Other (OfName job.name)) serves.left.others m (files m) off (front.left m))

      done_reads : TurnLeft (Read old.files) old job turn new.files new.said
      done_reads = by (leaves_all turn) refl
        where
          by : (t : Bool) → leaves_all turn ≡ t → TurnLeft (Read old.files) old job turn new.files new.said
          by true none = told_left old job turn (Read old.files) new.files new.said none line_now (λ m. same_now m ∙ ap (λ (f : Files). f m) (serves.idle none).still.files)
          by false some =
              done_left old job turn (Read old.files) new.files new.said some line_now (subst job.done (sym says.still.files) (served.done some).now)
              (λ m off. same_now m ∙ serves.left.others_read m off)

      -- not to its end
      pub turn_unsaid : (e : RunError) → TurnsTo (Err e) old new job account
      turn_unsaid e = record { stops = done_stops; reads = done_reads; gave = gave_nothing new timely reads_left reply told says reply_line; ended = tt }

      pub turn_done : new.said ≡ mid.said ++ line_text 1 reply → TurnsTo (Ok Done) old new job account
      turn_done said = record {
        stops = done_stops;
        reads = done_reads;
        gave = gave_nothing new timely reads_left reply told says reply_line;
        ended = record {
          said = said_all new timely reads_left reply told says reply_line said;
          ended = reply_number;
          done = λ some. record {
            now = subst job.done (sym says.still.files) (served.done some).now;
            left = λ files leaves. (served.done some).left files (λ m. left_before mid new _ says.still.left m (files m) tt (leaves m));
          };
          unchanged = λ none. says.still.files ∙ (serves.idle none).still.files;
        };
      }

-- A job that begins with calls that change nothing.
module _ (old mid new : World) (quiet : Quiet old mid) (job : OneTurn) (account : Account) where
  abbrev its_turn : Event
  its_turn = job.turn account

  was_before : (m : List ℕ) (file : File) → Leaves mid m file → Leaves old m file
  was_before m file leaves = left_before old mid _ quiet.still.left m file tt leaves

  since : (was later : Was) → ((m : List ℕ) (file : File) → later m file → was m file) → (files : Files) (said : List ℕ) → TurnLeft later mid job its_turn files said → TurnLeft was old job its_turn files said
  since was later goes files said l = record {
    out = record { part = l.out.part; is = l.out.is ∙ ap (λ (s : List ℕ). s ++ l.out.part) quiet.said; front = l.out.front };
    own = own_left old job its_turn was l.out.part files (λ is. all is l.own) (λ is. some is l.own);
    others = λ m off. goes m (files m) (l.others m off);
  }
    where
      named : (name : Option (List ℕ)) → IsAsWas later name files → IsAsWas was name files
      named None as_it = tt
      named (Some name) as_it = goes name (files name) as_it

      all : leaves_all its_turn ≡ true → FileLeft later job its_turn l.out.part files → IsAsWas was job.name files
      all is = by (leaves_all its_turn) is
        where
          by : (t : Bool) → t ≡ true → elim t as (λ none. Type 0) [ true ↦ IsAsWas later job.name files | false ↦ ((IsAsWas later job.name files ⊎ job.half files) × (l.out.part ≡ [])) ⊎ job.done files ] → IsAsWas was job.name files
          by true e as_it = named job.name as_it
          by false e left = absurd (true≢false (sym e))

      some : leaves_all its_turn ≡ false → FileLeft later job its_turn l.out.part files → ((IsAsWas was job.name files ⊎ job.half files) × (l.out.part ≡ [])) ⊎ job.done files
      some is = by (leaves_all its_turn) is
        where
          by : (t : Bool) → t ≡ false → elim t as (λ none. Type 0) [ true ↦ IsAsWas later job.name files | false ↦ ((IsAsWas later job.name files ⊎ job.half files) × (l.out.part ≡ [])) ⊎ job.done files ]
              → ((IsAsWas was job.name files ⊎ job.half files) × (l.out.part ≡ [])) ⊎ job.done files
          by true e left = absurd (true≢false e)
          by false e (inl (inl as_it, none)) = inl (inl (named job.name as_it), none)
          by false e (inl (inr half, none)) = inl (inr half, none)
          by false e (inr done) = inr done

  pub turn_quietly : (result : Result Status RunError) → TurnsTo result mid new job account → TurnsTo result old new job account
  turn_quietly result turns = record {
    stops = joined old mid new _ _ _ (quiet_stops old mid job its_turn quiet) turns.stops (λ files said left. left) (since (Leaves old) (Leaves mid) was_before);
    reads = since (Read old.files) (Read mid.files) (λ m file same. same ∙ ap (λ (f : Files). f m) quiet.still.files) new.files new.said turns.reads;
    gave = record { guids = turns.gave.guids ∙ quiet.guids; times = turns.gave.times ∙ quiet.times };
    ended = by result turns.ended;
  }
    where
      by : (r : Result Status RunError) → IfOk r (λ status. TurnEnded status mid new job its_turn) → IfOk r (λ status. TurnEnded status old new job its_turn)
      by (Ok status) ended = record {
        said = ended.said ∙ ap (λ (s : List ℕ). s ++ output (its_turn ∷ [])) quiet.said;
        ended = ended.ended;
        done = ended.done;
        unchanged = λ all. ended.unchanged all ∙ quiet.still.files;
      }
      by (Err e) ended = tt
