-- A run whose first statement opens its database.
use Rattle.std.proofs.Common.{◌≡◌, inl, inr, ℕ, ◌<◌, List, length, refl, sym, ap, subst, ◌∙◌, false, None, Result, Ok, Err, IfOk}
use Rattle.nb_top.proofs.Common.{Files, is_delta, World, Fault, Refused, Refusal, RunError, Other, untouched_fewer, Quiet, Statement, OpenDb, image_state, image_scn, Base, IsBase, Account, Given, delta_name, owner, not_opened, IsRun, Opening, base_now, opening, base_in, settled, run_ends, not_reopened, reopened, base_in_base, OfFiles, Attaches, IsAttached, Held, IsOpen, IsAskable, FitsFirst, Plan, cache_asked, KnowsNames, MayBeGiven, RunsTo, HoldsUnder, opened_reply, pages_first, refused_at, Telling, ToRun, quiet_gave}
use Rattle.nb_model.specs.declared.reply.Reply.TheVariants.{Opened as OpenedReply, Refused as RefusedReply}
use Rattle.nb_top.proofs.QuietRuns.{left_quietly}
use Rattle.nb_top.proofs.ReadsLaws.{reads_quiet}
use Rattle.nb_top.proofs.FirstLaws.{First, first_opened, opened_base}
use Rattle.nb_top.proofs.FirstReady.{IsBehind, base_name, first_ready, opened_making}
use Rattle.nb_top.proofs.BegunRuns.{first_fails}
use Rattle.nb_top.proofs.ByTurnsLaws.{beside_quiet}
use Rattle.nb_top.proofs.Beginnings.{Beginning, FirstRefused, FirstDone}
use Rattle.nb_top.proofs.ToldLaws.{Ran, performed_refused}
use Rattle.nb_top.proofs.OpenLaws.{shown_entry, refused_entry, owner_never_usage}

module _ (old : World) (account : Account) (given : Given) (plan : Plan) (telling : Telling) (askable : IsAskable plan) (name : List ℕ) (cache : ℕ) (first_is : plan.first ≡ OpenDb name cache) (knows : HoldsUnder old.files account name) where
  -- what the call tells is what the run must say
  refused_ran : (refusal : Refusal) → owner name (old.files name) (old.files (delta_name name)) ≡ Err refusal → Ran account given plan (refused_at plan.first_session refusal) account given
  refused_ran refusal is =
      subst (λ (first : Statement). IsRun account given plan.first_session first plan.schedule plan.sessions (refused_at plan.first_session refusal) account given) (sym first_is)
      (run_ends account given plan.first_session (OpenDb name cache) plan.schedule plan.sessions (RefusedReply refusal)
      (not_reopened account given plan.sessions plan.first_session name cache refusal
      (ap (not_opened name) knows ∙ refused_entry name (old.files name) (old.files (delta_name name)) refusal is)))

  refused_ends : (refusal : Refusal) → owner name (old.files name) (old.files (delta_name name)) ≡ Err refusal → (opening account given plan.sessions plan.first_session plan.first).now ≡ None
  refused_ends refusal is =
      ap (λ (s : Statement). (opening account given plan.sessions plan.first_session s).now) first_is
      ∙ ap (λ (o : Opening). o.now)
      (not_reopened account given plan.sessions plan.first_session name cache refusal
      (ap (not_opened name) knows ∙ refused_entry name (old.files name) (old.files (delta_name name)) refusal is))

  there : (b : Base) → owner name (old.files name) (old.files (delta_name name)) ≡ Ok b → account.entry name ≡ IsBase b
  there b opens = knows ∙ shown_entry old.files name b opens

  -- the account after it
  opened_behind : (b : Base) (here : account.entry name ≡ IsBase b) → IsBehind account name (first_opened account given plan name cache first_is b here).now
  unfolding first_opened
  opened_behind b here =
      let one = reopened account given plan.sessions plan.first_session name cache b here in
      record {
        here = ap (λ (a : Account). a.entry name) one.account_is ∙ one.here ∙ ap IsBase (sym one.base);
        others = λ m other. ap (λ (a : Account). a.entry m) one.account_is ∙ one.others m other;
      }

  plain : is_delta name ≡ false
  plain = (base_name name (subst FitsFirst first_is askable.first.fits).0).plain

  -- nothing happened, whatever the run must have been
  pub open_fails : (new : World) (e : RunError) → Quiet old new → RunsTo (Err e) old new (Ok (ToRun plan telling)) account given
  open_fails new e quiet = by (owner name (old.files name) (old.files (delta_name name))) refl
    where
      by : (answer : Result Base Refusal) → owner name (old.files name) (old.files (delta_name name)) ≡ answer → RunsTo (Err e) old new (Ok (ToRun plan telling)) account given
      by (Err refusal) is = record {
        events = refused_at plan.first_session refusal;
        last = account;
        left = given;
        performed = performed_refused telling plan account given plan.first_session refusal account given (refused_ran refusal is);
        opened = inl tt;
        stops = left_quietly old new account _ _ quiet;
        reads = reads_quiet old new quiet account _ _;
        finished = tt;
      }
      by (Ok b) is =
          first_fails old account given plan telling askable (first_opened account given plan name cache first_is b (there b is)) new e (inr quiet) (λ n. left_quietly old new account _ _ quiet) (λ n. reads_quiet old new quiet account _ _)

  module _ (names : KnowsNames old.files account) (may : MayBeGiven given) (mid : World) (result : Result Held Fault) (attaches : Attaches result old mid name) (quiet : Quiet old mid) (scn : IfOk result (λ held. held.scn < 4294967296)) (cap : IfOk result (λ held. held.cap ≡ cache_asked plan.first)) where
    pub attaches_begins : Beginning old account given plan telling askable mid result
    unfolding first_opened
    attaches_begins = record { fails = λ e. open_fails mid e quiet; refused = is_refused; done = done; beside = beside_quiet old mid account given plan quiet }
      where
        is_refused : (refusal : Refusal) → result ≡ Err (Refused refusal) → FirstRefused old mid account given plan refusal
        is_refused refusal is =
            let answer : owner name (old.files name) (old.files (delta_name name)) ≡ Err refusal = subst (λ (r : Result Held Fault). Attaches r old mid name) is attaches in
            record { quiet = quiet; ran = refused_ran refusal answer; ends = refused_ends refusal answer; not_usage = λ e. owner_never_usage name (old.files name) (old.files (delta_name name)) (answer ∙ ap Err e) }

        read : (m : List ℕ) → Other (OfFiles name) m → mid.files m ≡ old.files m
        read m other = ap (λ (f : Files). f m) quiet.still.files

        done : (held : Held) → result ≡ Ok held → FirstDone old mid account given plan telling askable held
        done held is =
            let answer : IsAttached held old mid name = subst (λ (r : Result Held Fault). Attaches r old mid name) is attaches in
            let b : Base = answer.base in
            let here : account.entry name ≡ IsBase b = there b answer.stands in
            let one : First account given plan = first_opened account given plan name cache first_is b here in
            let base : base_now one.now ≡ b = opened_base account given plan name cache first_is b here in
            let opened : IsOpen mid held (settled (base_now one.now)) = subst (λ (x : Base). IsOpen mid held (settled x)) (sym base) answer.opened in
            record {
              first = one;
              says = ap (λ (n : ℕ). OpenedReply n (image_state b.image)) (sym answer.opened.files.agrees.count) ∙ ap (λ (n : ℕ). OpenedReply held.files.count n) (sym answer.opened.files.agrees.state)
                  ∙ ap (λ (s : Statement). opened_reply s held.files.count held.files.state) (sym first_is);
              counted = answer.opened.files.agrees.count ∙ sym (ap (λ (x : Base). length x.image) (ap base_in here ∙ base_in_base b)) ∙ ap (pages_first account) (sym first_is);
              ready = first_ready old mid account name plain names one.now one.name_is (opened_behind b here) held answer.named (answer.nothing_runs ∙ sym one.running) (subst (λ (r : Result Held Fault). IfOk r (λ h. h.cap ≡ cache_asked plan.first)) is cap ∙ sym one.cache_is) read opened;
              making = opened_making plan askable one.now one.todo mid held opened (subst MayBeGiven (sym one.given_is) may);
              named = answer.named;
              small = λ e. subst (λ (x : Base). image_scn x.image < 4294967296) (sym (ap base_in here ∙ base_in_base b))
                  (subst (λ (n : ℕ). n < 4294967296) answer.opened.agrees.scn (subst (λ (r : Result Held Fault). IfOk r (λ h. h.scn < 4294967296)) is scn));
              alone = untouched_fewer old mid _ _ quiet.still.left (λ m other. tt);
              read = read;
              silent = quiet.said;
              gave = quiet_gave old mid quiet;
              opens = λ none. quiet.still.files;
              stops = λ n. left_quietly old mid account _ _ quiet;
            }
