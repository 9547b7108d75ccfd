-- While files are made beside what stood, what a crash leaves stands for an account.
use Rattle.std.proofs.Common.{◌≡◌, ◌≢◌, ◌⊎◌, inl, inr, ⊎_elim, ℕ, zero, suc, List, [], ◌∷◌, map, true, false, refl, sym, ap, subst, ◌∙◌, arith, not, None, is_some, Contains}
use Rattle.nb_top.proofs.Common.{and_parts, true≢false, is_free_file, is_header, File, Files, bytes_of, with_file, is_delta, World, Leaves, LeavesAll, Remade, left_with, decide, with_file-same, Kept, Account, is_free_entry, read_level, MadeFile, AreAmong, IsNoneOf, AreNew, guids_in, delta_name, Stands, Step, strokes_in, Trail, new_unused, stands_along, IsWholeFile, IsInMaking, is_free, unfinished, whole, with_those, those_kept, stands_those, free_entry, delta_named, WellAlong, kept_along, IsUnfinishedOr, MadeLeft, HoldsKept, StandsFor, not_some}
use Rattle.nb_top.proofs.MadeRuns.{no_file}
use Rattle.nb_top.proofs.AsWas.{IsOff, as_was, was_has, was_off}

-- A file that is made is no difference file, and its name was free.
pub record IsNewFile (account : Account) (file : MadeFile) : Type 0 where
  pub plain : is_delta file.0 ≡ false
  pub free : is_free_entry (account.entry file.0) ≡ true

-- no difference file is made
pub none_delta : (account : Account) (made : List MadeFile) → ((f : MadeFile) → Contains made f → IsNewFile account f) → (n : List ℕ) → IsNoneOf made (delta_name n)
none_delta account made new n bytes there = true≢false (sym (delta_named n) ∙ (new (delta_name n, bytes) there).plain)

first_there : (f : MadeFile) (fs : List MadeFile) → Contains (f ∷ fs) f
first_there f fs = (0, omega arith, refl)

later_there : (f g : MadeFile) (fs : List MadeFile) → Contains fs g → Contains (f ∷ fs) g
later_there f g fs there = (suc there.0, omega (arith, there.1), there.2)

none_then : (f : MadeFile) (fs : List MadeFile) (m : List ℕ) → m ≢ f.0 → IsNoneOf fs m → IsNoneOf (f ∷ fs) m
none_then f fs m off none bytes (zero, low, is) = off (sym (ap (λ (g : MadeFile). g.0) is))
none_then f fs m off none bytes (suc k, low, is) = none bytes (k, omega (arith, low), is)

-- a name is that of one of them or not
none_or_one : (fs : List MadeFile) (m : List ℕ) → IsNoneOf fs m ⊎ ((bytes : List ℕ) × Contains fs (m, bytes))
none_or_one [] m = inl (λ bytes there. no_file (m, bytes) there)
none_or_one (f ∷ fs) m = elim (decide m f.0) [
  | inl same ↦ inr (f.1, (0, omega arith, ap (λ (n : List ℕ). (n, f.1)) (sym same)))
  | inr off ↦ ⊎_elim (λ none. inl (none_then f fs m off none)) (λ one. inr (one.0, later_there f (m, one.0) fs one.1)) (none_or_one fs m)
]

abbrev names : List MadeFile → List (List ℕ)
names fs = map (λ (f : MadeFile). f.0) fs

off_names : (fs : List MadeFile) (m : List ℕ) → IsNoneOf fs m → IsOff (names fs) m
off_names [] m none = tt
off_names (f ∷ fs) m none =
    (λ same. none f.1 (0, omega arith, ap (λ (n : List ℕ). (n, f.1)) (sym same)), off_names fs m (λ bytes there. none bytes (later_there f (m, bytes) fs there)))

-- Those of the files that aren't as they were: each is unfinished or whole.
record Changed (old : World) (made : List MadeFile) (files : Files) : Type 0 where
  those : List MadeFile
  among : AreAmong those made
  each : (f : MadeFile) → Contains those f → IsUnfinishedOr f.1 (files f.0)
  others : (m : List ℕ) → IsOff (names those) m → (IsNoneOf made m → Leaves old m (files m)) → Leaves old m (files m)

changed : (old : World) (made : List MadeFile) (files : Files) → MadeLeft old made files → Changed old made files
changed old [] files left = record { those = []; among = λ f there. there; each = λ f there. absurd (no_file f there); others = λ m off other. other (λ bytes there. no_file (m, bytes) there) }
changed old (f ∷ fs) files left = by (left f.0 f.1 (first_there f fs)) (changed old fs files (λ name bytes there. left name bytes (later_there f (name, bytes) fs there)))
  where
    by : Remade old f.0 (IsUnfinishedOr f.1) files → Changed old fs files → Changed old (f ∷ fs) files
    by (inl was) rest = record {
      those = rest.those;
      among = λ g there. later_there f g fs (rest.among g there);
      each = rest.each;
      others = λ m off other. elim (decide m f.0) [
        | inl same ↦ subst (λ (n : List ℕ). Leaves old n (files n)) (sym same) was
        | inr apart ↦ rest.others m off (λ none. other (none_then f fs m apart none))
      ];
    }
    by (inr now) rest = record {
      those = f ∷ rest.those;
      among = among;
      each = each;
      others = λ m off other. rest.others m off.1 (λ none. other (none_then f fs m off.0 none));
    }
      where
        among : AreAmong (f ∷ rest.those) (f ∷ fs)
        among g (zero, low, is) = (0, omega arith, is)
        among g (suc k, low, is) = later_there f g fs (rest.among g (k, omega (arith, low), is))

        each : (g : MadeFile) → Contains (f ∷ rest.those) g → IsUnfinishedOr g.1 (files g.0)
        each g (zero, low, is) = subst (λ (x : MadeFile). IsUnfinishedOr x.1 (files x.0)) is now
        each g (suc k, low, is) = rest.each g (k, omega (arith, low), is)

in_making : (kept : List Kept) (bytes : List ℕ) (file : File) → IsUnfinishedOr bytes file → IsWholeFile kept bytes → IsInMaking kept file
in_making kept bytes file (inl (inl free)) is = is_free free
in_making kept bytes file (inl (inr none)) is = unfinished (λ other there.
    let same : bytes_of file ≡ other = ap bytes_of there in
    record { no_level = λ c reads. none.no_level c (ap read_level same ∙ reads); no_header = ap is_header (sym same) ∙ none.no_header })
in_making kept bytes file (inr there) is = whole bytes there is

module _ (old : World) (account : Account) (stands : StandsFor old account) where
  -- beside a free name no difference file stands, and a crash brings none back
  pub free_name : (f : MadeFile) → IsNewFile account f → (is_free_file (old.files f.0) ≡ true) × (old.files (delta_name f.0) ≡ None)
  free_name f new =
      let both = and_parts (is_free_file (old.files f.0)) (not (is_some (old.files (delta_name f.0)))) (sym (free_entry old.files account f.0 stands.now.same_image new.plain) ∙ new.free) in
      (both.0, not_some (old.files (delta_name f.0)) both.1)

  -- So it is at the end of a run that made these files: a name that is free then was free before.
  module _ (made : List MadeFile) (new : (f : MadeFile) → Contains made f → IsNewFile account f) (end : World) (reads : (m : List ℕ) → Leaves end m (end.files m))
      (n : List ℕ) (same : IsNoneOf made n → end.files n ≡ old.files n) (same_delta : end.files (delta_name n) ≡ old.files (delta_name n)) where
    free_before : is_free_file (end.files n) ≡ true → end.files (delta_name n) ≡ None → (is_free_file (old.files n) ≡ true) × (old.files (delta_name n) ≡ None)
    free_before free alone = ⊎_elim (λ none. (ap is_free_file (sym (same none)) ∙ free, sym same_delta ∙ alone)) (λ one. free_name (n, one.0) (new (n, one.0) one.1)) (none_or_one made n)

    pub free_left : is_delta n ≡ false → ((files : Files) → LeavesAll end files → Leaves old (delta_name n) (files (delta_name n))) → is_free_file (end.files n) ≡ true → end.files (delta_name n) ≡ None
        → (d : File) → Leaves end (delta_name n) d → d ≡ None
    free_left plain left free alone d is =
        let was = free_before free alone in
        let files : Files = with_file end.files (delta_name n) d in
        stands.free n plain was.0 was.1 d (subst (Leaves old (delta_name n)) (with_file-same end.files (delta_name n) d) (left files (left_with end (delta_name n) end.files d (λ m other. reads m) is)))

module _ (old : World) (account : Account) (stands : StandsFor old account) (reads : (m : List ℕ) → Leaves old m (old.files m)) where
  module _ (made : List MadeFile) (new : (f : MadeFile) → Contains made f → IsNewFile account f) (files : Files) (left : MadeLeft old made files)
      (others : (m : List ℕ) → IsNoneOf made m → Leaves old m (files m)) where
    abbrev now : Changed old made files
    now = changed old made files left

    -- the same files, with those that are being made as they were
    abbrev before : Files
    before = as_was old.files (names now.those) files

    before_left : LeavesAll old before
    before_left m = was_has old.files (Leaves old m) (names now.those) files m (reads m) (λ off. now.others m off (others m))

    holds : HoldsKept before account.kept
    holds = stands.left before before_left

    -- what they stand for, with such records
    abbrev with_records : List Kept → Account
    with_records kept = record { entry = holds.account.entry; kept = kept }

    stood : Stands before (with_records account.kept)
    stood = subst (λ (kept : List Kept). Stands before (with_records kept)) holds.same holds.stands

    with_made : (kept : List Kept) → Stands before (with_records kept) → ((f : MadeFile) → Contains made f → IsWholeFile kept f.1) → HoldsKept files kept
    with_made kept s are_whole = record {
      account = with_those files now.those (with_records kept);
      stands = stands_those files now.those before (with_records kept) s
          (λ f there.
          let one : Contains made f = now.among f there in
          let free = free_name old account stands f (new f one) in
          record {
            plain = (new f one).plain;
            alone = stands.free f.0 (new f one).plain free.0 free.1 (before (delta_name f.0)) (before_left (delta_name f.0));
            is = in_making kept f.1 (files f.0) (now.each f there) (are_whole f one);
          })
          (λ m none. sym (was_off old.files (names now.those) files m (off_names now.those m none)));
      same = those_kept files now.those (with_records kept);
    }

    -- They stand for an account with the records of before,
    pub made_holds : ((f : MadeFile) → Contains made f → IsWholeFile account.kept f.1) → HoldsKept files account.kept
    made_holds are_whole = with_made account.kept stood are_whole

    -- and with those that are kept along steps.
    pub made_along : (t : Trail) (ss : List Step) → WellAlong account.kept t ss → AreNew old account.kept (guids_in (strokes_in ss)) → ((f : MadeFile) → Contains made f → IsWholeFile (kept_along account.kept t ss) f.1)
        → HoldsKept files (kept_along account.kept t ss)
    made_along t ss well fresh are_whole =
        with_made (kept_along account.kept t ss) (stands_along before ss (with_records account.kept) t stood well (new_unused old account.kept (guids_in (strokes_in ss)) before fresh before_left)) are_whole
