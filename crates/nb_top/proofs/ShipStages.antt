-- What stands between two steps of a ship, before its copy: all that stood as it began, but for the standby and the ship file.
use Rattle.std.proofs.Common.{◌≡◌, ◌≢◌, inl, inr, ℕ, List, true, false, refl, sym, ap, subst, ◌∙◌, Some, None, Result}
use Rattle.nb_top.proofs.Common.{File, Files, bytes_of, is_header, is_delta, is_name, World, Leaves, LeavesAll, IsTimely, AtEachMoment, Fault, Quiet, joined, weaker, decide, left_before, Base, Account, Missing, with_entry, with_kept, delta_name, entry_of_files, owner, no_main, Stands, ShowsIn, IsMergeable, TakesKept, Contents, Reply, Serves, merging, HaveNames, StandsFor, is_database}
use Rattle.nb_model.specs.NewGuids.{IsNewGuid}
use Rattle.nb_ship.specs.Names.{ship_of}
use Rattle.nb_top.specs.Shipped.{IsGone, Removes, merge_turn}
use Rattle.nb_top.proofs.LongNames.{ship_apart, ship_file}
use Rattle.nb_top.proofs.ShipStands.{IsMergedFor, merge_left_others, merge_others, merge_stands, merged_new, removed_new, removed_stands_for}
use Rattle.nb_top.proofs.SureFiles.{still_stands}
use Rattle.nb_top.proofs.WordNames.{database_named, file_named, plain_database, plain_file}

-- Up to this world, since the first: the files stand for an account with the records of before; but for the standby and the ship file all reads as it did;
-- a GUID that was new is so still; and nothing was said or given.
pub record IsStage (standby : List ℕ) (first w : World) (account : Account) : Type 0 where
  pub now : Account
  pub stands : StandsFor w now
  pub kept : now.kept ≡ account.kept
  pub others : (m : List ℕ) → m ≢ standby → m ≢ ship_of standby → w.files m ≡ first.files m
  pub new : (guid : List ℕ) → IsNewGuid first account.kept guid → IsNewGuid w account.kept guid
  pub guids : w.guids ≡ first.guids
  pub times : w.times ≡ first.times
  pub said : w.said ≡ first.said
  pub quiet : AtEachMoment first w (λ files said. said ≡ first.said)

-- Nothing but what was said changes: the files stand for the account still.
module _ (old new : World) (account : Account) (stands : StandsFor old account) (beside : LeavesAll new new.files) (same : new.files ≡ old.files) (left : (m : List ℕ) (file : File) → Leaves new m file → Leaves old m file) where
  pub still_for : StandsFor new account
  still_for = still_stands old new account stands beside (λ m. ap (λ (f : Files). f m) same) (λ files leaves m. left m (files m) (leaves m))

module _ (primary standby : List ℕ) (fits : is_database primary ≡ true) (given : is_database standby ≡ true) (apart : primary ≢ standby) where
  abbrev ship : List ℕ
  ship = ship_of standby

  pub standby_plain : is_delta standby ≡ false
  standby_plain = plain_database standby given

  pub primary_plain : is_delta primary ≡ false
  primary_plain = plain_database primary fits

  pub ship_plain : is_delta ship ≡ false
  ship_plain = plain_file ship (ship_file standby given)

  abbrev Stage : (first w : World) → Account → Type 0
  Stage first w account = IsStage standby first w account

  module _ (first w : World) (account : Account) (stage : Stage first w account) where
    -- names stay names
    pub names_then : HaveNames first.files → HaveNames w.files
    names_then names name bytes there = elim (decide name standby) [
      | inl same ↦ subst (λ (n : List ℕ). is_name n ≡ true) (sym same) (database_named standby given)
      | inr off ↦ elim (decide name ship) [
        | inl same ↦ subst (λ (n : List ℕ). is_name n ≡ true) (sym same) (file_named ship (ship_file standby given))
        | inr other ↦ names name bytes (sym (stage.others name off other) ∙ there)
      ]
    ]

    module _ (off : primary ≢ ship) where
      own : w.files primary ≡ first.files primary
      own = stage.others primary apart off

      near : w.files (delta_name primary) ≡ first.files (delta_name primary)
      near = stage.others (delta_name primary) (no_main primary standby standby_plain) (no_main primary ship ship_plain)

      -- the primary is as it was
      pub same_primary : Stands first.files account → stage.now.entry primary ≡ account.entry primary
      same_primary before =
          stage.stands.now.same_image primary primary_plain ∙ ap (λ (f : File). entry_of_files primary f (w.files (delta_name primary))) own ∙ ap (entry_of_files primary (first.files primary)) near
          ∙ sym (before.same_image primary primary_plain)

      pub shows_then : (b : Base) → ShowsIn primary b first.files → ShowsIn primary b w.files
      shows_then b shows = ap (λ (f : File). owner primary f (w.files (delta_name primary))) own ∙ ap (owner primary (first.files primary)) near ∙ shows

    -- a removal keeps the stage
    pub stage_removed : (mid : World) → LeavesAll w w.files → is_header (bytes_of (w.files ship)) ≡ false → Removes w mid ship → IsGone mid ship → Stage first mid account
    stage_removed mid reads unheaded removes gone = record {
      now = with_entry ship (Missing None) stage.now;
      stands = removed_stands_for w mid stage.now ship stage.stands ship_plain reads unheaded removes gone;
      kept = with_kept ship (Missing None) stage.now ∙ stage.kept;
      others = λ m a b. removes.left.others_read m b ∙ stage.others m a b;
      new = λ guid is. removed_new w mid stage.now ship stage.stands ship_plain reads unheaded removes gone account.kept guid (stage.new guid is);
      guids = removes.gave.guids ∙ stage.guids;
      times = removes.gave.times ∙ stage.times;
      said = removes.left.said ∙ stage.said;
      quiet = joined first w mid _ _ _ stage.quiet removes.left.moments (λ files said is. is) (λ files said l. l.output ∙ stage.said);
    }

    -- and so does a merge of a kept backup
    pub stage_merged : (mid : World) → LeavesAll w w.files → IsTimely mid → LeavesAll mid mid.files → (taken : Result Reply Fault) (serves : Serves taken w mid (merging w.files standby ship) (merge_turn w.files standby ship))
        → ((bytes : List ℕ) (c : Contents) → IsMergeable w.files standby ship bytes c → TakesKept stage.now.kept bytes c) → (reply : Reply) → IsMergedFor w mid standby ship reply → Stage first mid account
    stage_merged mid reads timely reads_mid taken serves takes reply did =
        let others : (m : List ℕ) → m ≢ standby → mid.files m ≡ w.files m = merge_others w mid standby ship taken serves in
        let stood = merge_stands w mid standby ship taken serves stage.now stage.stands standby_plain ship_plain reads timely reads_mid takes in
        record {
          now = stood.0;
          stands = stood.1;
          kept = stood.2 ∙ stage.kept;
          others = λ m a b. others m a ∙ stage.others m a b;
          new = λ guid is. merged_new w mid standby stage.now stage.stands ship_plain (ship_apart standby) standby_plain reads_mid others (merge_left_others w mid standby ship taken serves) reply did account.kept guid (stage.new guid is);
          guids = serves.gave.guids ∙ stage.guids;
          times = serves.gave.times ∙ stage.times;
          said = serves.left.said ∙ stage.said;
          quiet = joined first w mid _ _ _ stage.quiet serves.left.moments (λ files said is. is) (λ files said l. l.output ∙ stage.said);
        }

  -- It begins with what changes nothing.
  pub stage_begins : (old mid : World) (account : Account) → StandsFor old account → LeavesAll mid mid.files → Quiet old mid → Stage old mid account
  stage_begins old mid account stands beside quiet = record {
    now = account;
    stands = still_for old mid account stands beside quiet.still.files left;
    kept = refl;
    others = λ m a b. ap (λ (f : Files). f m) quiet.still.files;
    new = λ guid is. record { sixteen = is.sixteen; some = is.some; unkept = is.unkept; unnamed = λ m bytes m_plain leaves. is.unnamed m bytes m_plain (left m (Some bytes) leaves) };
    guids = quiet.guids;
    times = quiet.times;
    said = quiet.said;
    quiet = weaker old mid _ _ quiet.moments (λ files said is. is.output);
  }
    where
      left : (m : List ℕ) (file : File) → Leaves mid m file → Leaves old m file
      left m file leaves = left_before old mid _ quiet.still.left m file tt leaves
