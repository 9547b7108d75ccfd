-- The job of a restore: its call serves it, and it keeps what stands.
use Rattle.std.proofs.Common.{true≢false, ◌≡◌, ◌≢◌, ◌⊎◌, inl, inr, ⊎_elim, ℕ, ◌≤◌, List, [], ◌∷◌, length, true, false, refl, sym, ap, subst, ◌∙◌, arith, not, is_some, Some, None, Result, Ok, Err}
use Rattle.nb_top.proofs.Common.{AllByRecursion, and_parts, append-nil, is_free_file, File, Files, is_delta, World, Leaves, LeavesAll, Fault, Refused, Device, Memory, Refusal, Only, weaker_has, is_free_name, Quiet, Reply, Pages, base_of, IsBase, Account, with_entry, is_free_entry, Image, restore_turn, account_behind, delta_name, entry_in, Link, verdict, applied, Event, account_after, with_made, make, fixed, on_base, base_after, records_after, records_of, ShowsIn, IsWellBaseIn, stands_free, free_entry, with_kept, no_main, chain_kept, restored_well, OneTurn, leaves_all, restoring, ServedAs, Serves, HoldsKept, StandsFor, not_some, ok_same}
use Rattle.nb_restore.specs.Kept.{AreKept, GivesKept}
use Rattle.nb_restore.specs.Restore.{RestoreAnswers, RestoreLeft, Restores, base_from}
use Rattle.nb_restore.proofs.ChainLaws.{split_chain}
use Rattle.nb_top.proofs.RestoreTurns.{RestoreTurn, WhyRefused, made_turn, made_account, turn_is, refused_turn, done_turn, refused_restore}
use Rattle.nb_top.proofs.TargetTurns.{refuses, makes}
use Rattle.nb_top.proofs.Turns.{served_as}
use Rattle.nb_top.proofs.TurnsStand.{IsSoundJob, IsWellBased, sound_on}

-- its reply
abbrev pub pages_said : Result ℕ Fault → Result Reply Fault
pages_said (Ok count) = Ok (Pages count)
pages_said (Err fault) = Err fault

module _ (old mid : World) (account : Account) (db : List ℕ) (names : List (List ℕ)) (knows : is_free_name old.files db ≡ is_free_entry (account.entry db)) (result : Result ℕ Fault) (does : Restores result old mid db names) where
  abbrev job : OneTurn
  job = restoring old.files db names

  abbrev turn : Event
  turn = restore_turn old.files account db names

  -- it is on its way
  on_way : (was : File → Type 0) (files : Files) → RestoreLeft was old db names files → (was (files db) ⊎ job.half files) ⊎ job.done files
  on_way was files = ⊎_elim (λ as_was. inl (inl as_was)) (⊎_elim (λ free. inl (inr free)) inr)

  quiet_refused : (refusal : Refusal) → WhyRefused old.files account db names refusal → Quiet old mid
  quiet_refused refusal why = ⊎_elim (λ taken. does.taken (knows ∙ taken.0)) (λ broken. does.broken refusal broken.1) why

  idle : leaves_all turn ≡ true → Quiet old mid
  idle is = by (turn_is old.files account db names)
    where
      by : RestoreTurn old.files account db names → Quiet old mid
      by (refuses refusal why turn_same) = quiet_refused refusal why
      by (makes links free accepted turn_same) = absurd (true≢false (sym is ∙ ap leaves_all turn_same))

  answers : (r : Result ℕ Fault) → RestoreAnswers r old mid db names → ServedAs (pages_said r) old mid job turn
  answers (Ok count) answer =
      let made = answer.1 in
      served_as (Pages count) (only count made.links) mid job turn (done_turn old.files account db names made.links (sym knows ∙ answer.0) made.accepted ∙ ap (λ (n : ℕ). only n made.links) (sym made.counted)) refl refl refl
      (λ some. record {
        now = (made.links, made.accepted, made.now);
        left = λ files leaves. (made.links, made.accepted, made.left files leaves);
      })
    where
      only : (n : ℕ) (links : List Link) → Event
      only n links = record { session = 1; strokes = make (fixed (applied links)) ∷ []; reply = Some (Pages n); made = None; syncs = true }
  answers (Err (Refused refusal)) answer =
      let why : WhyRefused old.files account db names refusal = ⊎_elim (λ taken. inl (sym knows ∙ taken.0, taken.1)) (λ broken. inr (sym knows ∙ broken.0, broken.1)) answer.1 in
      record { is = refused_turn old.files account db names refusal why; other = refused_restore old.files account db names refusal why; quiet = answer.0 }
  answers (Err Device) answer = tt
  answers (Err Memory) answer = tt

  pub restore_serves : Serves (pages_said result) old mid job turn
  restore_serves = record {
    answer = answers result does.answer;
    left = weaker_has old mid (Only db) _ _ does.left (λ files. on_way (Leaves old db) files);
    reads = on_way (λ file. file ≡ old.files db) mid.files does.reads;
    gave = does.gave;
    idle = idle;
  }

-- a chain of one file or more has a link
some_links : (files : Files) (names : List (List ℕ)) (links : List Link) → 1 ≤ length names → verdict files names ≡ Ok links → 1 ≤ length links
some_links files [] links some is = absurd (omega (arith, some))
some_links files (name ∷ names) links some is = let split = split_chain files name names links is in omega (arith, ap length split.all)

-- the account after it
made_entries : (account : Account) (db : List ℕ) (image : Image) (n : List ℕ) → (with_entry db (IsBase (base_of image)) account).entry n ≡ (account_after db (make image ∷ []) None account).entry n
unfolding account_after with_made with_entry base_after on_base
made_entries account db image n = refl

made_kept : (account : Account) (db : List ℕ) (image : Image) → account.kept ≡ (account_after db (make image ∷ []) None account).kept
unfolding account_after records_after records_of
made_kept account db image = sym (append-nil account.kept)

module _ (old : World) (account : Account) (db : List ℕ) (names : List (List ℕ)) (stands : StandsFor old account) (plain : is_delta db ≡ false) (plain_names : AllByRecursion (λ (name : List ℕ). is_delta name ≡ false) names) (some : 1 ≤ length names)
    (takes : (links : List Link) → verdict old.files names ≡ Ok links → AreKept account.kept links) where
  abbrev sound_job : OneTurn
  sound_job = restoring old.files db names

  gives_kept : (links : List Link) → verdict old.files names ≡ Ok links → GivesKept account.kept links
  gives_kept links accepted = chain_kept old.files account names links stands.now plain_names accepted (some_links old.files names links some accepted) (takes links accepted)

  gives : (files : Files) → sound_job.done files → sound_job.gives account.kept files
  gives files done links accepted =
      let kept : GivesKept account.kept links = gives_kept links accepted in
      record {
        backup = kept.backup;
        kept_as = kept.kept_as;
        shows = subst (λ (image : Image). ShowsIn db (base_of (fixed image)) files) kept.image
            (subst (λ (ls : List Link). ShowsIn db (base_from ls) files) (ok_same done.0 links (verdict old.files names) done.1 accepted) done.2.shows);
      }

  -- it isn't refused: the name was free, and the files are a chain
  module _ (links : List Link) (free : is_free_entry (account.entry db) ≡ true) (accepted : verdict old.files names ≡ Ok links) (turn_same : restore_turn old.files account db names ≡ made_turn links) where
    abbrev kept : GivesKept account.kept links
    kept = gives_kept links accepted

    was_free : (is_free_file (old.files db) ≡ true) × (old.files (delta_name db) ≡ None)
    was_free =
        let both = and_parts (is_free_file (old.files db)) (not (is_some (old.files (delta_name db)))) (sym (free_entry old.files account db stands.now.same_image plain) ∙ free) in
        (both.0, not_some (old.files (delta_name db)) both.1)

    half : (before files : Files) → LeavesAll old before → HoldsKept before account.kept → before db ≡ old.files db → ((m : List ℕ) → m ≢ db → files m ≡ before m) → is_free_file (files db) ≡ true → HoldsKept files account.kept
    half before files left its own rest half_free =
        let alone : files (delta_name db) ≡ None = rest (delta_name db) (no_main db db plain) ∙ stands.free db plain was_free.0 was_free.1 (before (delta_name db)) (left (delta_name db)) in
        record {
          account = with_entry db (entry_in files db) its.account;
          stands = stands_free before files its.account db its.stands plain (λ m off beside. rest m off) half_free alone;
          same = with_kept db (entry_in files db) its.account ∙ its.same;
        }

    behind : account_behind db (restore_turn old.files account db names) account ≡ account_after db (make (fixed (applied links)) ∷ []) None account
    behind = ap (λ (e : Event). account_behind db e account) turn_same ∙ made_account old.files account db names links

    well_done : IsWellBased old account sound_job db
    well_done = record {
      half = half;
      free = λ files half_way now_free. was_free.0;
      base = base_from links;
      well = subst (λ (image : Image). IsWellBaseIn account.kept (base_of (fixed image))) (sym kept.image) (restored_well old.files account kept.backup stands.now kept.kept_as.there).base;
      shows = λ files made. subst (λ (ls : List Link). ShowsIn db (base_from ls) files) (ok_same made.0 links (verdict old.files names) made.1 accepted) made.2.shows;
      entries = λ n. made_entries account db (fixed (applied links)) n ∙ ap (λ (a : Account). a.entry n) (sym behind);
      kept = made_kept account db (fixed (applied links)) ∙ ap (λ (a : Account). a.kept) (sym behind);
      gives = gives;
    }

  restore_done : leaves_all (restore_turn old.files account db names) ≡ false → IsWellBased old account sound_job db
  restore_done = by (turn_is old.files account db names)
    where
      by : RestoreTurn old.files account db names → leaves_all (restore_turn old.files account db names) ≡ false → IsWellBased old account sound_job db
      by (refuses refusal why same) is = absurd (true≢false (sym (ap leaves_all same) ∙ is))
      by (makes links free accepted same) is = well_done links free accepted same

pub restore_sound : (old : World) (account : Account) (db : List ℕ) (names : List (List ℕ)) → StandsFor old account → is_delta db ≡ false → AllByRecursion (λ (name : List ℕ). is_delta name ≡ false) names → 1 ≤ length names
    → (leaves_all (restore_turn old.files account db names) ≡ false → (links : List Link) → verdict old.files names ≡ Ok links → AreKept account.kept links) → IsSoundJob old account (restoring old.files db names)
restore_sound old account db names stands plain plain_names some takes = sound_on old account db _ plain refl (λ is. restore_done old account db names stands plain plain_names some (takes is) is)
