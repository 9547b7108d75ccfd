-- The job of a fixup: its call serves it, and it keeps what stands.
use Rattle.std.proofs.Common.{true≢false, ◌≡◌, ◌⊎◌, inl, inr, ⊎_elim, ℕ, List, [], ◌∷◌, true, false, refl, sym, ap, subst, ◌∙◌, None, Result, Ok, Err}
use Rattle.nb_top.proofs.Common.{append-nil, File, Files, is_delta, World, Leaves, Fault, Refused, Device, Memory, Only, weaker_has, Quiet, Reply, Kept, Base, base_of, IsBase, Account, with_entry, Image, image_in, fixup_turn, account_behind, Event, account_after, with_made, IsKeptAs, fix, fixed, on_base, base_after, base_in, records_after, records_of, ShowsIn, IsWellBaseIn, FixAnswers, FixLeft, Fixes, IsFixable, restored_well, OneTurn, fixing, leaves_all, ServedAs, Serves, StandsFor, some_none, some_same}
use Rattle.nb_fields.specs.Header.{guid_of}
use Rattle.nb_model.specs.declared.reply.Reply.TheVariants.{Done}
use Rattle.nb_fixup.proofs.KeptLaws.{copy_kept}
use Rattle.nb_top.proofs.FixTurns.{FixTurn, refuses, fixes, fixed_turn, base_is, done_turn, fixed_account, refused_fix, refused_turn, turn_is}
use Rattle.nb_top.proofs.Turns.{served_as}
use Rattle.nb_top.proofs.TurnsStand.{IsSoundJob, IsWellBased, sound_on}

-- its reply
abbrev pub done_said : Result (Unit {0}) Fault → Result Reply Fault
done_said (Ok value) = Ok Done
done_said (Err fault) = Err fault

module _ (old mid : World) (db : List ℕ) (result : Result (Unit {0}) Fault) (does : Fixes result old mid db) where
  abbrev job : OneTurn
  job = fixing old.files db

  abbrev turn : Event
  turn = fixup_turn old.files db

  -- it is on its way
  on_way : (was : File → Type 0) (files : Files) → FixLeft was old db files → (was (files db) ⊎ job.half files) ⊎ job.done files
  on_way was files = ⊎_elim (λ as_was. inl (inl as_was)) inr

  idle : leaves_all turn ≡ true → Quiet old mid
  idle is = by (turn_is old.files db)
    where
      by : FixTurn old.files db → Quiet old mid
      by (refuses refusal why same) = does.unfit (λ fit. some_none refusal (sym why ∙ fit))
      by (fixes bytes copy same) = absurd (true≢false (sym is ∙ ap leaves_all same))

  answers : (r : Result (Unit {0}) Fault) → FixAnswers r old mid db → ServedAs (done_said r) old mid job turn
  answers (Ok value) kept =
      served_as Done fixed_turn mid job turn (done_turn old.files db kept.copy.fit) refl refl refl (λ some. record { now = (kept.bytes, kept.copy, kept.now); left = λ files leaves. (kept.bytes, kept.copy, kept.left files leaves) })
  answers (Err (Refused refusal)) answer = record { is = refused_turn old.files db refusal answer.1; other = refused_fix old.files db refusal answer.1; quiet = answer.0 }
  answers (Err Device) answer = tt
  answers (Err Memory) answer = tt

  pub fix_serves : Serves (done_said result) old mid job turn
  fix_serves = record {
    answer = answers result does.answer;
    left = weaker_has old mid (Only db) _ _ does.left (λ files. on_way (Leaves old db) files);
    reads = on_way (λ file. file ≡ old.files db) mid.files does.reads;
    gave = does.gave;
    idle = idle;
  }

-- the account after it
fixed_entries : (account : Account) (db : List ℕ) (n : List ℕ) → (with_entry db (IsBase (base_of (fixed (base_in (account.entry db)).image))) account).entry n ≡ (account_after db (fix ∷ []) None account).entry n
unfolding account_after with_made with_entry base_after on_base
fixed_entries account db n = refl

fixed_kept : (account : Account) (db : List ℕ) → account.kept ≡ (account_after db (fix ∷ []) None account).kept
unfolding account_after records_after records_of
fixed_kept account db = sym (append-nil account.kept)

module _ (old : World) (account : Account) (db : List ℕ) (stands : StandsFor old account) (plain : is_delta db ≡ false) (takes : (bytes : List ℕ) → IsFixable old.files db bytes → (r : Kept) × IsKeptAs account.kept (guid_of bytes) r) where
  abbrev sound_job : OneTurn
  sound_job = fixing old.files db

  image_is : (bytes : List ℕ) (copy : IsFixable old.files db bytes) → image_in bytes ≡ (takes bytes copy).0.image
  image_is bytes copy = copy_kept old.files account db bytes (takes bytes copy).0 stands.now plain copy (takes bytes copy).1

  gives : (files : Files) → sound_job.done files → sound_job.gives account.kept files
  gives files done bytes copy =
      let named = takes bytes copy in
      record {
        backup = named.0;
        kept_as = named.1;
        shows = subst (λ (image : Image). ShowsIn db (base_of (fixed image)) files) (image_is bytes copy) (shown files bytes copy done);
      }
    where
      shown : (files : Files) (bytes : List ℕ) → IsFixable old.files db bytes → sound_job.done files → ShowsIn db (base_of (fixed (image_in bytes))) files
      shown files bytes copy done = subst (λ (l : List ℕ). ShowsIn db (base_of (fixed (image_in l))) files) (some_same done.0 bytes (sym done.1.there ∙ copy.there)) done.2.shows

  -- it isn't refused: the copy can be fixed
  module _ (bytes : List ℕ) (copy : IsFixable old.files db bytes) (same : fixup_turn old.files db ≡ fixed_turn) where
    abbrev base : Base
    base = base_of (fixed (image_in bytes))

    base_then : base_of (fixed (base_in (account.entry db)).image) ≡ base
    base_then = ap (λ (b : Base). base_of (fixed b.image)) (base_is old.files account db bytes (stands.now.same_image db plain) copy)

    behind : account_behind db (fixup_turn old.files db) account ≡ account_after db (fix ∷ []) None account
    behind = ap (λ (e : Event). account_behind db e account) same ∙ fixed_account old.files db account

    well_done : IsWellBased old account sound_job db
    well_done = record {
      half = λ before files left its own rest never. absurd never;
      free = λ files never now_free. absurd never;
      base = base;
      well = subst (λ (image : Image). IsWellBaseIn account.kept (base_of (fixed image))) (sym (image_is bytes copy)) (restored_well old.files account (takes bytes copy).0 stands.now (takes bytes copy).1.there).base;
      shows = λ files done. subst (λ (l : List ℕ). ShowsIn db (base_of (fixed (image_in l))) files) (some_same done.0 bytes (sym done.1.there ∙ copy.there)) done.2.shows;
      entries = λ n. ap (λ (b : Base). (with_entry db (IsBase b) account).entry n) (sym base_then) ∙ fixed_entries account db n ∙ ap (λ (a : Account). a.entry n) (sym behind);
      kept = fixed_kept account db ∙ ap (λ (a : Account). a.kept) (sym behind);
      gives = gives;
    }

  fix_done : leaves_all (fixup_turn old.files db) ≡ false → IsWellBased old account sound_job db
  fix_done = by (turn_is old.files db)
    where
      by : FixTurn old.files db → leaves_all (fixup_turn old.files db) ≡ false → IsWellBased old account sound_job db
      by (refuses refusal why same) is = absurd (true≢false (sym (ap leaves_all same) ∙ is))
      by (fixes bytes copy same) is = well_done bytes copy same

pub fix_sound : (old : World) (account : Account) (db : List ℕ) → StandsFor old account → is_delta db ≡ false
    → (leaves_all (fixup_turn old.files db) ≡ false → (bytes : List ℕ) → IsFixable old.files db bytes → (r : Kept) × IsKeptAs account.kept (guid_of bytes) r) → IsSoundJob old account (fixing old.files db)
fix_sound old account db stands plain takes = sound_on old account db _ plain refl (λ is. fix_done old account db stands plain (takes is) is)
