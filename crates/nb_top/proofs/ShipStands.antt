-- A merge and a removal of a ship keep what stands, and name no new GUID.
use Rattle.std.proofs.Common.{◌≡◌, ◌≢◌, ◌⊎◌, inl, inr, ⊎_elim, ℕ, List, [], ◌∷◌, length, true, false, refl, sym, ap, subst, ◌∙◌, arith, Bool, ◌==◌, ◌&&◌, IsTrue, is_some, nat_le, Some, None, Result, Ok, Err}
use Rattle.nb_top.proofs.Common.{and_parts, true≢false, is_free_file, is_header, state_of, applying_state, File, Files, bytes_of, with_file, is_delta, World, Leaves, LeavesAll, IsTimely, AtEachMoment, Fault, Device, Refusal, Other, Only, decide, left_before, left_with, with_file-same, with_file-other, Base, IsBase, Missing, Account, with_entry, Kept, delta_name, Reply, image_in, in_place, Contents, read_level, Event, only_refusal, only_turn, merge, merged, owner_of_entry, has_main, formed_header, no_main, with_kept, Stands, IsMergeable, ShowsIn, OneTurn, IsDoneFor, TakesKept, leaves_all, merging, IsServed, ServedAs, Serves, TurnsTo, HoldsKept, StandsFor, some_same, ok_same, some_none, apply_turn, status_after, has_delta}
use Rattle.nb_host.specs.declared.faults.RunError.TheVariants.{Device as DeviceError}
use Rattle.nb_inplace.specs.Apply.{base_with}
use Rattle.nb_inplace.proofs.VerdictLaws.{IsAccepted, accepted}
use Rattle.nb_model.specs.declared.reply.Reply.TheVariants.{ScnPages, Refused as RefusedReply}
use Rattle.nb_model.specs.NewGuids.{IsNewGuid, IsUnnamed}
use Rattle.nb_model.specs.Stands.{is_applying}
use Rattle.nb_model.proofs.RemovedLaws.{removed_stands}
use Rattle.nb_model.proofs.StandsLaws.{header_no_level, state_of_applying}
use Rattle.nb_ship.specs.Finds.{IsReady}
use Rattle.nb_ship.specs.Names.{ship_of}
use Rattle.nb_ship.specs.declared.found.Found.TheVariants.{Applied}
use Rattle.nb_ship.proofs.FindsLaws.{what_is_found}
use Rattle.nb_ship.proofs.MergedLaws.{applied_found}
use Rattle.nb_top.specs.Shipped.{IsGone, Removes, merge_turn}
use Rattle.nb_top.proofs.Merged.{merge_sound}
use Rattle.nb_top.proofs.MergeTurns.{MergeTurn, refuses, merges, turn_is}
use Rattle.nb_top.proofs.ShipCopies.{refusal_counts}
use Rattle.nb_top.proofs.Turns.{turn_fails}
use Rattle.nb_top.proofs.TurnsStand.{IsSoundJob, turn_after, turn_moments}

-- ---- a file that is no database

-- Beside a file that is no database stands no difference file.
module _ (files : Files) (account : Account) (stands : Stands files account) (name : List ℕ) (plain : is_delta name ≡ false) (unheaded : is_header (bytes_of (files name)) ≡ false) where
  headed : (bytes : List ℕ) → files name ≡ Some bytes → is_header bytes ≡ true → ⊥
  headed bytes there is = true≢false (sym (ap (λ (f : File). is_header (bytes_of f)) there ∙ is) ∙ unheaded)

  never : ((b : Base) × (account.entry name ≡ IsBase b)) ⊎ ((bytes : List ℕ) × (files name ≡ Some bytes) × IsTrue (is_applying bytes)) → ⊥
  never (inl base) =
      let main = has_main name base.0 (files name) (files (delta_name name)) (owner_of_entry name (files name) (files (delta_name name)) base.0 (sym (stands.same_image name plain) ∙ base.1)) in
      headed main.bytes main.there (formed_header main.bytes main.formed)
  never (inr (bytes, there, applying)) = headed bytes there (and_parts (is_header bytes) (state_of bytes == applying_state) applying).0

  pub none_beside : files (delta_name name) ≡ None
  none_beside = by (files (delta_name name)) refl
    where
      by : (file : File) → files (delta_name name) ≡ file → file ≡ None
      by None is = refl
      by (Some bytes) is = absurd (never (stands.no_stray name plain (ap is_some is)))

never_both : (t : Bool) → (t && false) ≡ false
never_both true = refl
never_both false = refl

none_has : (files : Files) (name : List ℕ) → files (delta_name name) ≡ None → has_delta files name ≡ false
unfolding has_delta
none_has files name none = ap (λ (f : File). nat_le (length name) 94 && is_some f) none ∙ never_both (nat_le (length name) 94)

-- a level file has no header
pub level_unheaded : (bytes : List ℕ) (c : Contents) → read_level bytes ≡ Ok c → is_header bytes ≡ false
level_unheaded bytes c read = by (is_header bytes) refl
  where
    by : (t : Bool) → is_header bytes ≡ t → is_header bytes ≡ false
    by true is = absurd (header_no_level bytes c is read)
    by false is = is

-- ---- a removal

-- What a crash leaves, without that file, stands for an account with the same records.
module _ (w : World) (now : Account) (name : List ℕ) (stands : StandsFor w now) (plain : is_delta name ≡ false) (reads : LeavesAll w w.files) (unheaded : is_header (bytes_of (w.files name)) ≡ false) (files : Files)
    (others : (m : List ℕ) → m ≢ name → Leaves w m (files m)) where
  -- the same, with the file as it was
  abbrev before : Files
  before = with_file files name (w.files name)

  before_left : LeavesAll w before
  before_left = left_with w name files (w.files name) others (reads name)

  held : HoldsKept before now.kept
  held = stands.left before before_left

  same_own : before name ≡ w.files name
  same_own = with_file-same files name (w.files name)

  pub without_holds : files name ≡ None → HoldsKept files now.kept
  without_holds none = record {
    account = with_entry name (Missing None) held.account;
    stands = removed_stands before files held.account name held.stands plain (none_beside before held.account held.stands name plain (ap (λ (f : File). is_header (bytes_of f)) same_own ∙ unheaded))
        (λ m off. sym (with_file-other files name (w.files name) m off)) none;
    same = with_kept name (Missing None) held.account ∙ held.same;
  }

module _ (w mid : World) (now : Account) (name : List ℕ) (stands : StandsFor w now) (plain : is_delta name ≡ false) (reads : LeavesAll w w.files) (unheaded : is_header (bytes_of (w.files name)) ≡ false)
    (removes : Removes w mid name) (gone : IsGone mid name) where
  left_then : (m : List ℕ) (file : File) → m ≢ name → Leaves mid m file → Leaves w m file
  left_then m file off leaves = left_before w mid (Other (Only name)) removes.left.others m file off leaves

  own_gone : (file : File) → Leaves mid name file → file ≡ None
  own_gone file leaves = ⊎_elim (gone.durable.none_back file) (gone.durable.only file) leaves

  abbrev removed : Account
  removed = with_entry name (Missing None) now

  left_stands : (files : Files) → LeavesAll mid files → HoldsKept files removed.kept
  left_stands files leaves =
      subst (HoldsKept files) (sym (with_kept name (Missing None) now))
      (without_holds w now name stands plain reads unheaded files (λ m off. left_then m (files m) off (leaves m)) (own_gone (files name) (leaves name)))

  -- no difference file comes back
  beside_gone : (d : File) → Leaves mid (delta_name name) d → d ≡ None
  beside_gone d leaves =
      let apart : delta_name name ≢ name = no_main name name plain in
      let files : Files = with_file w.files (delta_name name) d in
      let left : LeavesAll w files = left_with w (delta_name name) w.files d (λ m off. reads m) (left_then (delta_name name) d apart leaves) in
      let held : HoldsKept files now.kept = stands.left files left in
      let same : files name ≡ w.files name = with_file-other w.files (delta_name name) d name (λ e. apart (sym e)) in
      sym (with_file-same w.files (delta_name name) d) ∙ none_beside files held.account held.stands name plain (ap (λ (f : File). is_header (bytes_of f)) same ∙ unheaded)

  pub removed_stands_for : StandsFor mid removed
  removed_stands_for = record {
    now = removed_stands w.files mid.files now name stands.now plain (none_beside w.files now stands.now name plain unheaded) removes.left.others_read gone.reads;
    left = left_stands;
    free = λ n n_plain free alone d leaves. elim (decide n name) [
      | inl same ↦ beside_gone d (subst (λ (m : List ℕ). Leaves mid (delta_name m) d) same leaves)
      | inr off ↦
          let apart : delta_name n ≢ name = no_main n name plain in
          stands.free n n_plain (ap is_free_file (sym (removes.left.others_read n off)) ∙ free) (sym (removes.left.others_read (delta_name n) apart) ∙ alone) d (left_then (delta_name n) d apart leaves)
    ];
  }

  pub removed_new : (kept : List Kept) (guid : List ℕ) → IsNewGuid w kept guid → IsNewGuid mid kept guid
  removed_new kept guid new = record {
    sixteen = new.sixteen;
    some = new.some;
    unkept = new.unkept;
    unnamed = λ m bytes m_plain leaves. elim (decide m name) [
      | inl same ↦ absurd (some_none bytes (own_gone (Some bytes) (subst (λ (k : List ℕ). Leaves mid k (Some bytes)) same leaves)))
      | inr off ↦ new.unnamed m bytes m_plain (left_then m (Some bytes) off leaves)
    ];
  }

-- ---- a merge

module _ (files : Files) (standby ship : List ℕ) where
  merge_refused : (refusal : Refusal) → in_place files standby ship ≡ Err refusal → merge_turn files standby ship ≡ only_refusal refusal
  unfolding merge_turn
  merge_refused refusal why = rw (why, merge_turn) refl

  abbrev merging_turn : (bytes : List ℕ) → Contents → Event
  merging_turn bytes c = only_turn (ScnPages c.head.scn (length (merged c.pages (image_in bytes)))) (merge c.pages ∷ [])

  merge_accepted : (bytes : List ℕ) (c : Contents) → IsMergeable files standby ship bytes c → merge_turn files standby ship ≡ merging_turn bytes c
  unfolding merge_turn
  merge_accepted bytes c m = rw (m.accepted, merge_turn) (ap (λ (f : File). only_turn (ScnPages c.head.scn (length (merged c.pages (image_in (bytes_of f))))) (merge c.pages ∷ [])) m.there)

  same_leaves : leaves_all (merge_turn files standby ship) ≡ leaves_all (apply_turn files standby ship)
  same_leaves = by (turn_is files standby ship)
    where
      by : MergeTurn files standby ship → leaves_all (merge_turn files standby ship) ≡ leaves_all (apply_turn files standby ship)
      by (refuses refusal why same) = ap leaves_all (merge_refused refusal why) ∙ sym (ap leaves_all same)
      by (merges bytes c m same) = ap leaves_all (merge_accepted bytes c m) ∙ sym (ap leaves_all same)

-- What a merge of a ship that was done has left: it was accepted, its reply tells what it tells, and the standby is merged for good.
pub record IsMergedFor (old new : World) (standby ship : List ℕ) (reply : Reply) : Type 0 where
  pub bytes : List ℕ
  pub contents : Contents
  pub mergeable : IsMergeable old.files standby ship bytes contents
  pub says : reply ≡ ScnPages contents.head.scn (length (merged contents.pages (image_in bytes)))
  pub reads : ShowsIn standby (base_with bytes contents) new.files
  pub left : (files : Files) → LeavesAll new files → ShowsIn standby (base_with bytes contents) files

module _ (w mid : World) (standby ship : List ℕ) (taken : Result Reply Fault) (serves : Serves taken w mid (merging w.files standby ship) (merge_turn w.files standby ship)) where
  abbrev job : OneTurn
  job = merging w.files standby ship

  abbrev turn : Event
  turn = merge_turn w.files standby ship

  pub merge_others : (m : List ℕ) → m ≢ standby → mid.files m ≡ w.files m
  merge_others = serves.left.others_read

  pub merge_left_others : (m : List ℕ) (file : File) → m ≢ standby → Leaves mid m file → Leaves w m file
  merge_left_others m file off leaves = left_before w mid (Other (Only standby)) serves.left.others m file off leaves

  -- It was done.
  module _ (reply : Reply) (is : taken ≡ Ok reply) where
    served : IsServed reply mid job turn
    served = subst (λ (r : Result Reply Fault). ServedAs r w mid job turn) is serves.answer

    pub merged_for : IsMergedFor w mid standby ship reply
    merged_for = by (turn_is w.files standby ship)
      where
        of_done : (bytes : List ℕ) (c : Contents) → IsMergeable w.files standby ship bytes c → (files : Files) → job.done files → ShowsIn standby (base_with bytes c) files
        of_done bytes c m files done =
            let here = some_same done.0 bytes (sym done.2.there ∙ m.there) in
            let read = ok_same done.1 c (in_place w.files standby ship) done.2.accepted m.accepted in
            subst (λ (d : Contents). ShowsIn standby (base_with bytes d) files) read (subst (λ (l : List ℕ). ShowsIn standby (base_with l done.1) files) here done.3.shows)

        by : MergeTurn w.files standby ship → IsMergedFor w mid standby ship reply
        by (refuses refusal why same) =
            let says : Some (RefusedReply refusal) ≡ Some reply = sym (ap (λ (e : Event). e.reply) (merge_refused w.files standby ship refusal why)) ∙ served.says in
            let number : status_after (RefusedReply refusal) ≡ status_after reply = ap status_after (some_same (RefusedReply refusal) reply says) in
            absurd (omega (arith, number, served.fine, refusal_counts refusal))
        by (merges bytes c m same) =
            let turn_now : turn ≡ merging_turn w.files standby ship bytes c = merge_accepted w.files standby ship bytes c m in
            let done : IsDoneFor mid job = served.done (ap leaves_all turn_now) in
            record {
              bytes = bytes;
              contents = c;
              mergeable = m;
              says = some_same reply (ScnPages c.head.scn (length (merged c.pages (image_in bytes)))) (sym served.says ∙ ap (λ (e : Event). e.reply) turn_now);
              reads = of_done bytes c m mid.files done.now;
              left = λ files leaves. of_done bytes c m files (done.left files leaves);
            }

  -- The files stood for an account, and what is merged is of a kept backup.
  module _ (now : Account) (stands : StandsFor w now) (plain : is_delta standby ≡ false) (ship_plain : is_delta ship ≡ false) (reads : LeavesAll w w.files) (timely : IsTimely mid) (reads_mid : LeavesAll mid mid.files)
      (takes : (bytes : List ℕ) (c : Contents) → IsMergeable w.files standby ship bytes c → TakesKept now.kept bytes c) where
    plainly : Serves (Err Device) w mid job (job.turn now)
    plainly = record { answer = tt; left = serves.left; reads = serves.reads; gave = serves.gave; idle = λ all. serves.idle (same_leaves w.files standby ship ∙ all) }

    turns : TurnsTo (Err DeviceError) w mid job now
    turns = turn_fails w mid job now (Err Device) plainly DeviceError

    sound : IsSoundJob w now job
    sound = merge_sound w now standby ship stands plain ship_plain (λ some. takes)

    pub merge_moments : AtEachMoment w mid (λ files said. HoldsKept files now.kept)
    merge_moments = turn_moments w now job stands reads sound mid timely reads_mid turns.stops turns.reads

    pub merge_stands : (later : Account) × StandsFor mid later × (later.kept ≡ now.kept)
    merge_stands = turn_after w now job stands reads sound mid timely reads_mid turns.stops turns.reads

-- What was merged of the ship file is a database in the normal state, so it names no GUID that is new.
module _ (w mid : World) (standby : List ℕ) (now : Account) (stands : StandsFor w now) (ship_plain : is_delta (ship_of standby) ≡ false) (apart : ship_of standby ≢ standby) (plain : is_delta standby ≡ false) (reads_mid : LeavesAll mid mid.files)
    (others : (m : List ℕ) → m ≢ standby → mid.files m ≡ w.files m) (left : (m : List ℕ) (file : File) → m ≢ standby → Leaves mid m file → Leaves w m file) (reply : Reply) (its : IsMergedFor w mid standby (ship_of standby) reply) where
  abbrev ship : List ℕ
  ship = ship_of standby

  level : IsAccepted w.files ship its.bytes its.contents
  level = accepted w.files standby ship its.bytes its.contents its.mergeable

  pub ship_unheaded : is_header (bytes_of (w.files ship)) ≡ false
  ship_unheaded = ap (λ (f : File). is_header (bytes_of f)) level.there ∙ level_unheaded level.level its.contents level.read

  alone : w.files (delta_name ship) ≡ None
  alone = none_beside w.files now stands.now ship ship_plain ship_unheaded

  -- whatever a crash leaves of it
  ready : (bytes : List ℕ) → Leaves mid standby (Some bytes) → IsReady (with_file mid.files standby (Some bytes)) standby bytes
  ready bytes leaves =
      let files : Files = with_file mid.files standby (Some bytes) in
      let all : LeavesAll mid files = left_with mid standby mid.files (Some bytes) (λ m off. reads_mid m) leaves in
      let ship_same : files ship ≡ w.files ship = with_file-other mid.files standby (Some bytes) ship apart ∙ others ship apart in
      let delta_apart : delta_name ship ≢ standby = no_main ship standby plain in
      let beside : files (delta_name ship) ≡ None = with_file-other mid.files standby (Some bytes) (delta_name ship) delta_apart ∙ others (delta_name ship) delta_apart ∙ alone in
      let found = what_is_found files standby (record { guid = its.contents.head.guid; found = Applied }) (applied_found w.files files standby its.bytes its.contents its.mergeable (its.left files all) ship_same (none_has files ship beside)) in
      subst (IsReady files standby) (some_same found.0 bytes (sym found.2.0.normal.there ∙ with_file-same mid.files standby (Some bytes))) found.2.0

  pub merged_new : (kept : List Kept) (guid : List ℕ) → IsNewGuid w kept guid → IsNewGuid mid kept guid
  merged_new kept guid new = record {
    sixteen = new.sixteen;
    some = new.some;
    unkept = new.unkept;
    unnamed = λ m bytes m_plain leaves. elim (decide m standby) [
      | inl same ↦ none_named bytes (ready bytes (subst (λ (k : List ℕ). Leaves mid k (Some bytes)) same leaves))
      | inr off ↦ new.unnamed m bytes m_plain (left m (Some bytes) off leaves)
    ];
  }
    where
      none_named : (bytes : List ℕ) → IsReady (with_file mid.files standby (Some bytes)) standby bytes → IsUnnamed bytes guid
      none_named bytes is = record {
        level = λ c read. absurd (header_no_level bytes c (formed_header bytes is.normal.formed) read);
        stalled = λ header stalled. absurd (let normal = is.normal.is in omega (arith, stalled, normal));
        pending = λ applying. absurd (let normal = is.normal.is in omega (arith, state_of_applying bytes applying, normal));
      }
