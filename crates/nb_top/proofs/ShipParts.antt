-- The parts of a ship: the merge, which tells the SCN of the backup too, and the removal.
use Rattle.std.proofs.Common.{true≢false, ◌≡◌, ◌≢◌, ◌⊎◌, inl, inr, ⊎_elim, ℕ, List, [], ◌∷◌, length, true, false, refl, sym, ap, subst, ◌∙◌, Bool, Some, None, Result, Ok, Err, IsTrue, IsErr, OnOk}
use Rattle.nb_top.proofs.Common.{File, Files, with_file, World, Leaves, LeavesAll, IsTimely, Fault, Refused, Device, Memory, Refusal, Changes, Only, Remade, GaveNothing, with_file-same, Quiet, Reply, Base, image_in, bytes_of, in_place, only_turn, only_refusal, apply_turn, Contents, read_level, Event, merge, merged, IsMergeable, OneTurn, IsDoneFor, IsOnItsWay, Read, leaves_all, merging, IsServed, ServedAs, Serves}
use Rattle.nb_host.specs.Calls.{IsSilent, IsStill, Remakes, Syncs, WholeOrNot}
use Rattle.nb_host.specs.Crash.{IsDurable}
use Rattle.nb_host.specs.Moments.{Passes}
use Rattle.nb_model.specs.declared.reply.Reply.TheVariants.{ScnPages}
use Rattle.nb_change.proofs.CallLaws.{remade_alone}
use Rattle.nb_change.proofs.ChangesLaws.{all_before, composed, rested, still_more}
use Rattle.nb_inplace.specs.Apply.{Applies, ApplyAnswers, IsMerged}
use Rattle.nb_inplace.proofs.VerdictLaws.{IsAccepted, accepted}
use Rattle.nb_top.proofs.Merged.{merge_serves}
use Rattle.nb_top.proofs.MergeTurns.{MergeTurn, refuses, merges, refused_merge, turn_is}
use Rattle.nb_top.proofs.Restored.{pages_said}
use Rattle.nb_top.proofs.Turns.{served_as}
use Rattle.nb_top.specs.Shipped.{IsGone, Removes, ScnSays}
use Rattle.nb_top.specs.Shipped.{merge_turn}

-- ---- the turn of the merge

module _ (files : Files) (standby ship : List ℕ) where
  abbrev shipped_turn : ℕ → Contents → Event
  shipped_turn count c = only_turn (ScnPages c.head.scn count) (merge c.pages ∷ [])

  merge_refused : (refusal : Refusal) → in_place files standby ship ≡ Err refusal → merge_turn files standby ship ≡ only_refusal refusal
  unfolding merge_turn
  merge_refused refusal why = rw (why, merge_turn) refl

  merge_accepted : (bytes : List ℕ) (c : Contents) → IsMergeable files standby ship bytes c → merge_turn files standby ship ≡ shipped_turn (length (merged c.pages (image_in bytes))) c
  unfolding merge_turn
  merge_accepted bytes c m = rw (m.accepted, merge_turn) (ap (λ (f : File). shipped_turn (length (merged c.pages (image_in (bytes_of f)))) c) m.there)

  -- it leaves all exactly where the turn of a merge in place does
  same_leaves : leaves_all (merge_turn files standby ship) ≡ leaves_all (apply_turn files standby ship)
  same_leaves = by (turn_is files standby ship)
    where
      by : MergeTurn files standby ship → leaves_all (merge_turn files standby ship) ≡ leaves_all (apply_turn files standby ship)
      by (refuses refusal why same) = ap leaves_all (merge_refused refusal why) ∙ sym (ap leaves_all same)
      by (merges bytes c m same) = ap leaves_all (merge_accepted bytes c m) ∙ sym (ap leaves_all same)

-- ---- the merge

module _ (old mid : World) (standby ship : List ℕ) (result : Result ℕ Fault) (does : Applies result old mid standby ship) where
  abbrev job : OneTurn
  job = merging old.files standby ship

  abbrev turn : Event
  turn = merge_turn old.files standby ship

  plainly : Serves (pages_said result) old mid job (apply_turn old.files standby ship)
  plainly = merge_serves old mid standby ship result does

  -- it was refused, or failed
  pub shipped_fails : (fault : Fault) → result ≡ Err fault → Serves (Err fault) old mid job turn
  shipped_fails fault is = record {
    answer = by fault (subst (λ (r : Result ℕ Fault). ApplyAnswers r old mid standby ship) is does.answer);
    left = plainly.left;
    reads = plainly.reads;
    gave = plainly.gave;
    idle = λ all. plainly.idle (sym (same_leaves old.files standby ship) ∙ all);
  }
    where
      by : (fault : Fault) → ApplyAnswers (Err fault) old mid standby ship → ServedAs (Err fault) old mid job turn
      by (Refused refusal) answer = record { is = merge_refused old.files standby ship refusal answer.1; other = refused_merge old.files standby ship refusal answer.1; quiet = answer.0 }
      by Device answer = tt
      by Memory answer = tt

  -- It was done, and then the head of the ship file was read.
  module _ (count : ℕ) (is : result ≡ Ok count) (apart : ship ≢ standby) (new : World) (quiet : Quiet mid new) where
    pub merge_done : IsMerged old mid standby ship count
    merge_done = subst (λ (r : Result ℕ Fault). ApplyAnswers r old mid standby ship) is does.answer

    turn_done : turn ≡ shipped_turn old.files standby ship count merge_done.contents
    turn_done = merge_accepted old.files standby ship merge_done.bytes merge_done.contents merge_done.mergeable ∙ ap (λ (n : ℕ). shipped_turn old.files standby ship n merge_done.contents) (sym merge_done.counted)

    its : IsAccepted old.files ship merge_done.bytes merge_done.contents
    its = accepted old.files standby ship merge_done.bytes merge_done.contents merge_done.mergeable

    -- the ship file stands there still
    level_there : mid.files ship ≡ Some its.level
    level_there = does.left.others_read ship apart ∙ its.there

    left : Changes old new (Only standby) (IsOnItsWay (Leaves old) job)
    left = composed old mid new (Only standby) _ _ _ plainly.left (rested mid new (Only standby) _ quiet.still quiet.said quiet.moments plainly.left.now) (λ files has. has) (λ files has. has)

    same_files : new.files ≡ mid.files
    same_files = quiet.still.files

    reads : IsOnItsWay (Read old.files) job new.files
    reads = subst (λ (f : Files). IsOnItsWay (Read old.files) job f) (sym same_files) plainly.reads

    gave : GaveNothing old new
    gave = record { guids = quiet.guids ∙ plainly.gave.guids; times = quiet.times ∙ plainly.gave.times }

    idle : leaves_all turn ≡ true → Quiet old new
    idle all = absurd (true≢false (sym all ∙ ap leaves_all turn_done))

    done_for : IsDoneFor new job
    done_for = record {
      now = subst (λ (f : Files). job.done f) (sym same_files) (merge_done.bytes, merge_done.contents, merge_done.mergeable, merge_done.now);
      left = λ files leaves. (merge_done.bytes, merge_done.contents, merge_done.mergeable, merge_done.left files (all_before mid new quiet.still.left files leaves));
    }

    with_answer : (answer : Result Reply Fault) → ServedAs answer old new job turn → Serves answer old new job turn
    with_answer answer served = record { answer = served; left = left; reads = reads; gave = gave; idle = idle }

    -- that failed
    pub shipped_unread : (fault : Fault) → ScnSays merge_done.contents (Err fault) → Serves (Err fault) old new job turn
    shipped_unread (Refused refusal) never = absurd never
    shipped_unread Device says = with_answer (Err Device) tt
    shipped_unread Memory says = with_answer (Err Memory) tt

    -- or it is known
    pub shipped_serves : (scn : ℕ) → ScnSays merge_done.contents (Ok scn) → Serves (Ok (ScnPages scn count)) old new job turn
    shipped_serves scn says = with_answer (Ok (ScnPages scn count))
        (served_as (ScnPages scn count) (only_turn (ScnPages scn count) (merge merge_done.contents.pages ∷ [])) new job turn
        (turn_done ∙ ap (λ (n : ℕ). only_turn (ScnPages n count) (merge merge_done.contents.pages ∷ [])) (sym says)) refl refl refl (λ some. done_for))

    -- as what the file holds says
    pub scn_says : (answer : Result ℕ Fault) → ((bytes : List ℕ) (c : Contents) → mid.files ship ≡ Some bytes → read_level bytes ≡ Ok c → ScnSays c answer) → ScnSays merge_done.contents answer
    scn_says answer says = says its.level merge_done.contents level_there its.read

-- ---- the removal

module _ {T E : Type 0} (tells : Bool) (told : IsTrue tells) (removed : Result T E) (old mid : World) (name : List ℕ) (timely : IsTimely old) (remakes : Remakes tells removed old mid name None) (silent : IsSilent old mid) (passes : Passes old mid) where
  removed_left : Changes old mid (Only name) (Remade old name (λ file. file ≡ None))
  removed_left = remade_alone tells removed old mid name None (λ file. file ≡ None) told timely remakes silent.said passes refl

  none_there : mid.files ≡ with_file old.files name None → mid.files name ≡ None
  none_there is = ap (λ (f : Files). f name) is ∙ with_file-same old.files name None

  pub removes_alone : Removes old mid name
  removes_alone = record {
    left = removed_left;
    reads = by removed (remakes.files told);
    gave = record { guids = silent.guids; times = silent.times };
  }
    where
      by : (r : Result T E) → WholeOrNot r old.files (with_file old.files name None) mid.files → (mid.files name ≡ old.files name) ⊎ (mid.files name ≡ None)
      by (Ok value) is = inr (none_there is)
      by (Err e) is = ⊎_elim (λ same. inl (ap (λ (f : Files). f name) same)) (λ gone. inr (none_there gone)) is

  -- It was removed, and then its name was synced.
  module _ {S F : Type 0} (value : T) (is : removed ≡ Ok value) (synced : Result S F) (new : World) (syncs : Syncs tells synced mid new name) (still : IsSilent mid new) (later : Passes mid new) where
    gone : mid.files name ≡ None
    gone = none_there (subst (λ (r : Result T E). WholeOrNot r old.files (with_file old.files name None) mid.files) is (remakes.files told))

    gone_then : new.files name ≡ None
    gone_then = ap (λ (f : Files). f name) syncs.still.files ∙ gone

    pub removes_synced : Removes old new name
    removes_synced = record {
      left = still_more old mid new (Only name) _ removed_left later syncs.still still.said;
      reads = inr gone_then;
      gave = record { guids = still.guids ∙ silent.guids; times = still.times ∙ silent.times };
    }

    pub gone_synced : OnOk synced (IsGone new name)
    gone_synced = by synced (syncs.durable told)
      where
        by : (r : Result S F) → OnOk r (IsDurable new name (mid.files name)) → OnOk r (IsGone new name)
        by (Ok _) durable = record { durable = subst (IsDurable new name) gone durable; reads = gone_then }
        by (Err e) none = tt
