-- The script of a number is written to a file and run: what is done of it, put together.
use Rattle.std.proofs.Common.{◌≡◌, ℕ, List, [], true, false, sym, ◌∙◌, Bool, IsTrue, Result, Ok, Err, IsErr}
use Rattle.nb_top.proofs.Common.{is_delta, World, Leaves, IsTimely, Refusal, RunError, Changes, Only, Remade, GaveNothing, is_free_name, Account, is_free_entry, generated, Given, IsKept, IsUnfinishedOr, Plan, script_of, grows_none, grows_joined, leaves_changes, Status, Sparingly, AskedByTurns, ReadByTurns, Goes, Knows, RunsTo, Runs, ToGenerate}
use Rattle.nb_session.specs.ByTurns.{Ending}
use Rattle.nb_top.specs.ByTurns.{ending_by}
use Rattle.nb_top.proofs.ByTurnsLaws.{early_err, number_early, number_then}
use Rattle.nb_top.proofs.GeneratedEvents.{with_script}
use Rattle.nb_top.proofs.GeneratedRuns.{knows_script, read_request, writing_fails, written_runs}
use Rattle.nb_top.proofs.QuietRuns.{foretold_from, no_given}
use Rattle.nb_top.proofs.ScriptRuns.{runs_err}

-- turn by turn, the script that was read
read_turns : {H : Type 0} (world : H → World) (early : Ending) (old new : H) (account : Account) (given : Given) (read : Result Plan Refusal) → AskedByTurns world early old new (Runs (read_request read)) account given → ReadByTurns world early old new read Sparingly account given
read_turns world early old new account given (Ok plan) turns = turns
read_turns world early old new account given (Err refusal) same = same

-- The file was free, and is written, or some of it.
module _ {H : Type 0} (world : H → World) (tells : Bool) (old mid : H) (number : ℕ) (name : List ℕ) (plain : is_delta name ≡ false) (free : IsTrue tells → is_free_name (world old).files name ≡ true)
    (written : IsTrue tells → Changes (world old) (world mid) (Only name) (Remade (world old) name (IsUnfinishedOr (generated number)))) (gave : GaveNothing (world old) (world mid)) where
  its_free : IsTrue tells → (account : Account) → Knows (world old).files account (Ok (ToGenerate number name)) → is_free_entry (account.entry name) ≡ true
  its_free told account knows = sym (knows name plain) ∙ free told

  -- it ended early
  pub writing_goes : (result : Result Status RunError) → IsErr result → Goes world tells result old mid (Runs (Ok (ToGenerate number name)))
  writing_goes result failed = record {
    does = λ told. (
      [],
      λ account given knows may foretold. record {
        whole = runs_err result failed (λ r. RunsTo r (world old) (world mid) (Ok (ToGenerate number name)) account given)
            (λ e. writing_fails (world old) number name account given plain knows (its_free told account knows) may (world mid) (written told) e);
        turns = number_early world (ending_by result) number name account given old mid (its_free told account knows) (early_err result failed) (leaves_changes (world old) (world mid) (Only name) _ (written told));
      },
    );
    grows = λ account told knows. grows_none (world old) (world mid) gave;
  }

  -- it is whole, and the script was run
  module _ (kept : IsTrue tells → IsKept (world mid) name (generated number)) (read : Result Plan Refusal) (is : script_of (generated number) ≡ read) where
    knows_read : IsTrue tells → (account : Account) (given : Given) → Knows (world old).files account (Ok (ToGenerate number name)) → Knows (world mid).files (with_script name (generated number) account) (read_request read)
    knows_read told account given knows = by read is
      where
        by : (r : Result Plan Refusal) → script_of (generated number) ≡ r → Knows (world mid).files (with_script name (generated number) account) (read_request r)
        by (Ok plan) same = knows_script (world old) number name account given plain knows (its_free told account knows) (world mid) (written told) (kept told) plan same
        by (Err refusal) same = tt

    pub written_goes : (new : H) → IsTimely (world new) → (IsTrue tells → (m : List ℕ) → Leaves (world new) m ((world new).files m)) → (result : Result Status RunError) → Goes world tells result mid new (Runs (read_request read))
        → Goes world tells result old new (Runs (Ok (ToGenerate number name)))
    written_goes new timely reads result goes = record {
      does = λ told. (
        (goes.does told).0,
        λ account given knows may foretold.
            let behind = with_script name (generated number) account in
            let done = (goes.does told).1 behind given (knows_read told account given knows) may (foretold_from (world old) (world mid) (world new) given _ gave foretold) in
            record {
              whole = written_runs (world old) number name account given plain knows (its_free told account knows) may (world mid) (written told) (kept told) gave (world new) timely (reads told) read is result done.whole;
              turns = number_then world (ending_by result) number name account given old mid new (its_free told account knows) (leaves_changes (world old) (world mid) (Only name) _ (written told)) read is
                  (read_turns world (ending_by result) mid new behind given read done.turns);
            },
      );
      grows = λ account told knows.
          grows_joined (world old) (world mid) (world new) (grows_none (world old) (world mid) gave) (goes.grows (with_script name (generated number) account) told (knows_read told account no_given knows));
    }
