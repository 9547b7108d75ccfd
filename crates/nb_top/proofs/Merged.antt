-- The job of a merge in place: its call serves it, and it keeps what stands.
use Rattle.std.proofs.Common.{true≢false, ◌≡◌, ◌≢◌, ◌⊎◌, inl, inr, ℕ, List, [], ◌∷◌, true, false, refl, sym, ap, subst, ◌∙◌, Some, None, Result, Ok, Err}
use Rattle.nb_top.proofs.Common.{append-nil, is_free_file, File, Files, is_delta, World, Leaves, LeavesAll, Fault, Refused, Device, Memory, Unfinished, Only, weaker_has, Quiet, Pages, Base, base_of, Entry, Plain, IsBase, Account, with_entry, Image, image_in, in_place, apply_turn, account_behind, Contents, HoldsMain, delta_name, entry_of_files, owner_in, Event, account_after, with_made, as_standby, merge, merged, on_base, base_after, base_in, records_after, records_of, ShowsIn, IsWellBaseIn, owner-formed, owner_main, with_kept, owner_applying, opened_entry, IsMergeable, OneTurn, TakesKept, leaves_all, merging, ServedAs, Serves, HoldsKept, StandsFor, ok_same, some_same}
use Rattle.nb_inplace.specs.Apply.{Applies, ApplyAnswers, ApplyLeft, base_with}
use Rattle.nb_inplace.specs.Kept.{MergesBackup}
use Rattle.nb_inplace.proofs.ClosedLaws.{closed_entry, half_in_use}
use Rattle.nb_inplace.proofs.KeptWay.{half_stands, kept_gives}
use Rattle.nb_inplace.proofs.StandbyWell.{merged_well}
use Rattle.nb_inplace.proofs.VerdictLaws.{IsFor, as_it_stands, begun, IsAccepted, accepted}
use Rattle.nb_top.proofs.MergeTurns.{MergeTurn, refuses, merges, merged_turn, done_turn, merged_account, refused_merge, refused_turn, turn_is}
use Rattle.nb_top.proofs.Restored.{pages_said}
use Rattle.nb_top.proofs.Turns.{served_as}
use Rattle.nb_top.proofs.TurnsStand.{IsSoundJob, IsWellBased, sound_on}

module _ (old mid : World) (db name : List ℕ) (result : Result ℕ Fault) (does : Applies result old mid db name) where
  abbrev job : OneTurn
  job = merging old.files db name

  abbrev turn : Event
  turn = apply_turn old.files db name

  -- it is on its way
  on_way : (was : File → Type 0) (files : Files) → ApplyLeft was old db name files → (was (files db) ⊎ job.half files) ⊎ job.done files
  on_way was files (inl as_was) = inl (inl as_was)
  on_way was files (inr (bytes, c, m, inl half)) = inl (inr (bytes, c, m, half))
  on_way was files (inr (bytes, c, m, inr merged_to)) = inr (bytes, c, m, merged_to)

  idle : leaves_all turn ≡ true → Quiet old mid
  idle is = by (turn_is old.files db name)
    where
      by : MergeTurn old.files db name → Quiet old mid
      by (refuses refusal why same) = does.refused refusal why
      by (merges bytes c m same) = absurd (true≢false (sym is ∙ ap leaves_all same))

  answers : (r : Result ℕ Fault) → ApplyAnswers r old mid db name → ServedAs (pages_said r) old mid job turn
  answers (Ok count) done =
      served_as (Pages count) (only count done.contents) mid job turn (done_turn old.files db name done.bytes done.contents done.mergeable ∙ ap (λ (n : ℕ). only n done.contents) (sym done.counted)) refl refl refl
      (λ some. record {
        now = (done.bytes, done.contents, done.mergeable, done.now);
        left = λ files leaves. (done.bytes, done.contents, done.mergeable, done.left files leaves);
      })
    where
      only : (n : ℕ) → Contents → Event
      only n c = record { session = 1; strokes = merge c.pages ∷ []; reply = Some (Pages n); made = None; syncs = true }
  answers (Err (Refused refusal)) answer = record { is = refused_turn old.files db name refusal answer.1; other = refused_merge old.files db name refusal answer.1; quiet = answer.0 }
  answers (Err Device) answer = tt
  answers (Err Memory) answer = tt

  pub merge_serves : Serves (pages_said result) old mid job turn
  merge_serves = record {
    answer = answers result does.answer;
    left = weaker_has old mid (Only db) _ _ does.left (λ files. on_way (Leaves old db) files);
    reads = on_way (λ file. file ≡ old.files db) mid.files does.reads;
    gave = does.gave;
    idle = idle;
  }

-- the account after it
merged_entries : (account : Account) (db : List ℕ) (c : Contents) (n : List ℕ) → (with_entry db (IsBase (base_of (merged c.pages (base_in (account.entry db)).image))) account).entry n ≡ (account_after db (merge c.pages ∷ []) None account).entry n
unfolding account_after with_made with_entry base_after on_base
merged_entries account db c n = refl

merged_kept : (account : Account) (db : List ℕ) (c : Contents) → account.kept ≡ (account_after db (merge c.pages ∷ []) None account).kept
unfolding account_after records_after records_of
merged_kept account db c = sym (append-nil account.kept)

module _ (old : World) (account : Account) (db name : List ℕ) (stands : StandsFor old account) (plain : is_delta db ≡ false) (level_plain : is_delta name ≡ false)
    (takes : (bytes : List ℕ) (c : Contents) → IsMergeable old.files db name bytes c → TakesKept account.kept bytes c) where
  abbrev sound_job : OneTurn
  sound_job = merging old.files db name

  module _ (bytes : List ℕ) (c : Contents) (m : IsMergeable old.files db name bytes c) where
    abbrev its : TakesKept account.kept bytes c
    its = takes bytes c m

    backs : MergesBackup old.files db name bytes c
    backs = record { plain = plain; level_plain = level_plain; mergeable = m; restored = its.restored }

    image_is : merged c.pages (image_in bytes) ≡ as_standby its.backup.image
    image_is = kept_gives old.files account stands.now db name bytes c backs its.backup its.kept_as

  -- what a level file holds, and the standby that it is merged into, are the same whenever they are read
  record IsSame (bytes other : List ℕ) (c d : Contents) : Type 0 where
    standby : bytes ≡ other
    level : c ≡ d

  same_merge : (bytes other : List ℕ) (c d : Contents) → IsMergeable old.files db name bytes c → IsMergeable old.files db name other d → IsSame bytes other c d
  same_merge bytes other c d m n = record { standby = some_same bytes other (sym m.there ∙ n.there); level = ok_same c d (in_place old.files db name) m.accepted n.accepted }

  -- the image of what was merged
  shown : (bytes : List ℕ) (c : Contents) (m : IsMergeable old.files db name bytes c) (files : Files) → sound_job.done files → ShowsIn db (base_of (as_standby (takes bytes c m).backup.image)) files
  shown bytes c m files done =
      let same : IsSame done.0 bytes done.1 c = same_merge done.0 bytes done.1 c done.2 m in
      subst (λ (image : Image). ShowsIn db (base_of image) files) (image_is bytes c m)
      (subst (λ (d : Contents). ShowsIn db (base_with bytes d) files) same.level (subst (λ (l : List ℕ). ShowsIn db (base_with l done.1) files) same.standby done.3.shows))

  gives : (files : Files) → sound_job.done files → sound_job.gives account.kept files
  gives files done bytes c m = record { backup = (takes bytes c m).backup; kept_as = (takes bytes c m).kept_as; shows = shown bytes c m files done }

  -- what stands there before it: the standby is in the normal state, or it can't be opened
  standby_base : (bytes : List ℕ) (c : Contents) → IsMergeable old.files db name bytes c → (base_in (account.entry db)).image ≡ image_in bytes
  unfolding base_in
  standby_base bytes c m = ap (λ (e : Entry). (base_in e).image) (stands.now.same_image db plain ∙ ap (λ (f : File). entry_of_files db f beside) m.there) ∙ by its.for
    where
      beside : File
      beside = old.files (delta_name db)

      its : IsAccepted old.files name bytes c
      its = accepted old.files db name bytes c m

      by : IsFor name bytes c → (base_in (entry_of_files db (Some bytes) beside)).image ≡ image_in bytes
      by (as_it_stands zero on) =
          let main : HoldsMain (image_in bytes) (Some bytes) = record { bytes = bytes; there = refl; formed = its.formed; normal = zero; is = refl } in
          ap (λ (e : Entry). (base_in e).image) (opened_entry db (Some bytes) beside bytes (base_of (image_in bytes)) refl (owner_main db (image_in bytes) (Some bytes) beside main))
      by (begun three same) =
          ap (λ (e : Entry). (base_in e).image) (closed_entry db bytes beside Unfinished (owner-formed db bytes beside its.formed ∙ ap (λ (n : ℕ). owner_in n db bytes beside) three ∙ owner_applying db bytes beside))

  -- it isn't refused
  module _ (bytes : List ℕ) (c : Contents) (m : IsMergeable old.files db name bytes c) (same : apply_turn old.files db name ≡ merged_turn bytes c) where
    abbrev base : Base
    base = base_with bytes c

    base_then : base_of (merged c.pages (base_in (account.entry db)).image) ≡ base
    base_then = ap (λ (i : Image). base_of (merged c.pages i)) (standby_base bytes c m)

    behind : account_behind db (apply_turn old.files db name) account ≡ account_after db (merge c.pages ∷ []) None account
    behind = ap (λ (e : Event). account_behind db e account) same ∙ merged_account old.files db name account bytes c

    -- half merged files
    half : (before files : Files) → LeavesAll old before → HoldsKept before account.kept → before db ≡ old.files db → ((n : List ℕ) → n ≢ db → files n ≡ before n) → sound_job.half files → HoldsKept files account.kept
    half before files left its own rest (standby, d, fit, half_in) = record {
      account = with_entry db (Plain half_in.half (files (delta_name db))) its.account;
      stands = half_stands old.files account stands.now db name standby d (backs standby d fit) half_in.half half_in.is its.account its.same files half_in.there before its.stands (λ n off beside. rest n off);
      same = with_kept db (Plain half_in.half (files (delta_name db))) its.account ∙ its.same;
    }

    -- whose name isn't free
    in_use : (files : Files) → sound_job.half files → is_free_file (files db) ≡ true → is_free_file (old.files db) ≡ true
    in_use files (standby, d, fit, half_in) free =
        let its : TakesKept account.kept standby d = takes standby d fit in
        absurd (true≢false (sym free ∙ ap is_free_file half_in.there
        ∙ half_in_use old.files db name standby d fit half_in.half half_in.is (λ none. stands.now.kept_records.not_nil its.backup its.kept_as.there (its.kept_as.named ∙ none))))

    well_done : IsWellBased old account sound_job db
    well_done = record {
      half = half;
      free = in_use;
      base = base;
      well = subst (λ (image : Image). IsWellBaseIn account.kept (base_of image)) (sym (image_is bytes c m)) (merged_well old.files account (takes bytes c m).backup stands.now (takes bytes c m).kept_as.there);
      shows = λ files done. subst (λ (image : Image). ShowsIn db (base_of image) files) (sym (image_is bytes c m)) (shown bytes c m files done);
      entries = λ n. ap (λ (b : Base). (with_entry db (IsBase b) account).entry n) (sym base_then) ∙ merged_entries account db c n ∙ ap (λ (a : Account). a.entry n) (sym behind);
      kept = merged_kept account db c ∙ ap (λ (a : Account). a.kept) (sym behind);
      gives = gives;
    }

  merge_done : leaves_all (apply_turn old.files db name) ≡ false → IsWellBased old account sound_job db
  merge_done = by (turn_is old.files db name)
    where
      by : MergeTurn old.files db name → leaves_all (apply_turn old.files db name) ≡ false → IsWellBased old account sound_job db
      by (refuses refusal why same) is = absurd (true≢false (sym (ap leaves_all same) ∙ is))
      by (merges bytes c m same) is = well_done bytes c m same

pub merge_sound : (old : World) (account : Account) (db name : List ℕ) → StandsFor old account → is_delta db ≡ false → is_delta name ≡ false
    → (leaves_all (apply_turn old.files db name) ≡ false → (bytes : List ℕ) (c : Contents) → IsMergeable old.files db name bytes c → TakesKept account.kept bytes c) → IsSoundJob old account (merging old.files db name)
merge_sound old account db name stands plain level_plain takes = sound_on old account db _ plain refl (λ is. merge_done old account db name stands plain level_plain (takes is) is)
