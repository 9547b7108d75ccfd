-- What a crash leaves while one database is changed, and files are made beside it, stands for an account with the records of the backups
-- that have begun.
use Rattle.std.proofs.Common.{◌≡◌, ◌≢◌, ◌⊎◌, ⊎_elim, ℕ, List, [], ◌∷◌, true, false, sym, subst, ◌∙◌, None, Contains}
use Rattle.nb_top.proofs.Common.{is_free_file, File, Files, is_delta, World, Leaves, Other, Kept, IsBase, Account, with_entry, MadeFile, IsNoneOf, AreNew, guids_in, delta_name, entry_in, Step, after_steps, strokes_in, Trail, StandsIn, IsWellTrail, stands_free, IsWholeFile, stood_stands, with_kept, no_main, WellAlong, kept_along, along_last, OfFiles, IsUnfinishedOr, MadeLeft, HoldsKept, StandsFor}
use Rattle.nb_top.proofs.AsWas.{as_was, was_has, was_off}
use Rattle.nb_top.proofs.MadeStand.{IsNewFile, made_along}

-- the database's two names
abbrev pub both : List ℕ → List (List ℕ)
both name = name ∷ delta_name name ∷ []

-- beside them files are the same
pub beside : (name : List ℕ) (was files : Files) (m : List ℕ) → m ≢ name → m ≢ delta_name name → as_was was (both name) files m ≡ files m
beside name was files m off other = was_off was (both name) files m (off, (other, tt))

module _ (old : World) (account : Account) (stands : StandsFor old account) (reads : (m : List ℕ) → Leaves old m (old.files m)) (name : List ℕ) (plain : is_delta name ≡ false)
    (made : List MadeFile) (new : (f : MadeFile) → Contains made f → IsNewFile account f) (apart : (f : MadeFile) → Contains made f → f.0 ≢ name)
    (files : Files) (left : MadeLeft old made files) (others : (m : List ℕ) → Other (OfFiles name) m → IsNoneOf made m → Leaves old m (files m)) where
  -- the same files, but for the database's two, as they were
  abbrev mid : Files
  mid = as_was old.files (both name) files

  mid_others : (m : List ℕ) → IsNoneOf made m → Leaves old m (mid m)
  mid_others m none = was_has old.files (Leaves old m) (both name) files m (reads m) (λ off. others m (λ one. ⊎_elim off.0 off.1.0 one) none)

  mid_left : MadeLeft old made mid
  mid_left n bytes there =
      let one : IsNewFile account (n, bytes) = new (n, bytes) there in
      subst (λ (file : File). Leaves old n file ⊎ IsUnfinishedOr bytes file) (sym (beside name old.files files n (apart (n, bytes) there) (λ same. no_main name n one.plain (sym same)))) (left n bytes there)

  same_beside : (m : List ℕ) → m ≢ name → m ≢ delta_name name → files m ≡ mid m
  same_beside m off other = sym (beside name old.files files m off other)

  -- They stand with the records that are kept along steps.
  module _ (t : Trail) (ss : List Step) (well : WellAlong account.kept t ss) (fresh : AreNew old account.kept (guids_in (strokes_in ss))) (whole : (f : MadeFile) → Contains made f → IsWholeFile (kept_along account.kept t ss) f.1) where
    its : HoldsKept mid (kept_along account.kept t ss)
    its = made_along old account stands reads made new mid mid_left mid_others t ss well fresh whole

    -- where they hold what may be left of what was seen, which is well with these records
    pub holds_within : (seen : Trail) → IsWellTrail (kept_along account.kept t ss) seen → StandsIn name seen files → HoldsKept files (kept_along account.kept t ss)
    holds_within seen is_well s = record {
      account = with_entry name (IsBase s.base) its.account;
      stands = stood_stands mid files its.account name seen its.stands plain same_beside (subst (λ (rs : List Kept). IsWellTrail rs seen) (sym its.same) is_well) s;
      same = with_kept name (IsBase s.base) its.account ∙ its.same;
    }

    -- so after all steps
    pub holds_along : StandsIn name (after_steps t ss) files → HoldsKept files (kept_along account.kept t ss)
    holds_along s = holds_within (after_steps t ss) (along_last account.kept t ss well) s

    -- where its creation was stopped
    pub holds_free : is_free_file (files name) ≡ true → files (delta_name name) ≡ None → HoldsKept files (kept_along account.kept t ss)
    holds_free free alone = record {
      account = with_entry name (entry_in files name) its.account;
      stands = stands_free mid files its.account name its.stands plain same_beside free alone;
      same = with_kept name (entry_in files name) its.account ∙ its.same;
    }
