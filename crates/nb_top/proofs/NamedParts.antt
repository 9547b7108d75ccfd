-- A world of certain files alone, and what stands in it.
use Rattle.std.proofs.Common.{◌≡◌, ◌≢◌, ◌⊎◌, inl, inr, ℕ, List, [], ◌∷◌, true, false, refl, sym, ap, subst, ◌∙◌, arith, Bool, IsTrue, is_some, Some, None}
use Rattle.nb_top.proofs.Common.{AllByRecursion, decide, delta_same, no_main, is_free_file, File, Files, is_delta, World, Leaves, LeavesAll, IsNow, IsTimely, AtEachMoment, Kept, Base, Entry, Missing, IsBase, Account, Image, entry_of_files, entry_in, delta_name, AreNew, Stands, Belongs, to_base, to_record, HoldsKept, StandsFor, StartsFrom, none_some}
use Rattle.nb_model.specs.NewGuids.{IsNewGuid}
use Rattle.nb_model.specs.Stands.{is_applying}
use Rattle.nb_model.proofs.FrontLaws.{missing_base}
use Rattle.nb_top.specs.Among.{is_among, among, AreClosed, StandAlone, only_of, with_deltas}
use Rattle.nb_top.proofs.NamedFiles.{among_own, among_off, among_skip, among_there, is_there}
use Rattle.nb_top.proofs.WorldLaws.{not_beside}

module _ (names : List (List ℕ)) where
  -- a name is one of them or not
  abbrev By : (own off : Type 0) → Bool → Type 0
  By own off t = elim t as (λ z. Type 0) [ true ↦ own | false ↦ off ]

  -- the world as if there were no other files
  abbrev pub part : World → World
  part w = record {
    files = among names w.files;
    said = w.said;
    reads = w.reads;
    guids = w.guids;
    times = w.times;
    back = λ m file. By (w.back m file) ⊥ (is_among names m);
    now = λ m file. By (w.now m file) (file ≡ None) (is_among names m);
    moment = w.moment;
    left_since = λ t files said. (whole : Files) × w.left_since t whole said × (files ≡ among names whole);
  }

  module _ (w : World) (m : List ℕ) (file : File) where
    -- of one of them a crash leaves what it does
    pub leaves_in : is_among names m ≡ true → Leaves w m file → Leaves (part w) m file
    leaves_in is (inl back) = inl (subst (By (w.back m file) ⊥) (sym is) back)
    leaves_in is (inr now) = inr (subst (By (w.now m file) (file ≡ None)) (sym is) now)

    pub leaves_of : is_among names m ≡ true → Leaves (part w) m file → Leaves w m file
    leaves_of is (inl back) = inl (subst (By (w.back m file) ⊥) is back)
    leaves_of is (inr now) = inr (subst (By (w.now m file) (file ≡ None)) is now)

    -- and of others nothing
    pub leaves_off : is_among names m ≡ false → Leaves (part w) m file → file ≡ None
    leaves_off is (inl back) = absurd (subst (By (w.back m file) ⊥) is back)
    leaves_off is (inr now) = subst (By (w.now m file) (file ≡ None)) is now

    pub leaves_none : is_among names m ≡ false → file ≡ None → Leaves (part w) m file
    leaves_none is none = inr (subst (By (w.now m file) (file ≡ None)) (sym is) none)

  -- by the name
  by_name : (P : Type 0) (m : List ℕ) → (is_among names m ≡ true → P) → (is_among names m ≡ false → P) → P
  by_name P m own off = by (is_among names m) refl
    where
      by : (t : Bool) → is_among names m ≡ t → P
      by true is = own is
      by false is = off is

  -- what a crash leaves of each, it leaves in the world of these alone
  pub leaves_part : (w : World) (files : Files) (m : List ℕ) → (is_among names m ≡ true → Leaves w m (files m)) → Leaves (part w) m (among names files m)
  leaves_part w files m left =
      by_name _ m (λ is. subst (Leaves (part w) m) (sym (among_own names files m is)) (leaves_in w m (files m) is (left is))) (λ is. leaves_none w m (among names files m) is (among_off names files m is))

  pub all_part : (w : World) (files : Files) → LeavesAll w files → LeavesAll (part w) (among names files)
  all_part w files left m = leaves_part w files m (λ is. left m)

  -- and there it leaves nothing else
  pub record IsPartOf (w : World) (files : Files) : Type 0 where
    pub whole : Files
    pub left : LeavesAll w whole
    pub is : files ≡ among names whole

  -- these files, and those that read under other names
  abbrev whole_of : (w : World) → Files → Files
  whole_of w files m = elim (is_among names m) [ true ↦ files m | false ↦ w.files m ]

  pub part_of : (w : World) → LeavesAll w w.files → (files : Files) → LeavesAll (part w) files → IsPartOf w files
  part_of w reads files left = record { whole = whole_of w files; left = whole_left; is = λ i. λ m. same m i }
    where
      whole_in : (m : List ℕ) → is_among names m ≡ true → whole_of w files m ≡ files m
      whole_in m is = ap (λ (t : Bool). elim t as (λ z. File) [ true ↦ files m | false ↦ w.files m ]) is

      whole_off : (m : List ℕ) → is_among names m ≡ false → whole_of w files m ≡ w.files m
      whole_off m is = ap (λ (t : Bool). elim t as (λ z. File) [ true ↦ files m | false ↦ w.files m ]) is

      whole_left : LeavesAll w (whole_of w files)
      whole_left m = by_name _ m (λ is. subst (Leaves w m) (sym (whole_in m is)) (leaves_of w m (files m) is (left m))) (λ is. subst (Leaves w m) (sym (whole_off m is)) (reads m))

      same : (m : List ℕ) → files m ≡ among names (whole_of w files) m
      same m = by_name _ m (λ is. sym (among_own names (whole_of w files) m is ∙ whole_in m is)) (λ is. leaves_off w m (files m) is (left m) ∙ sym (among_off names (whole_of w files) m is))

  -- What stands alone stands in the world of these files.
  pub alone_stands : (w : World) (account : Account) → LeavesAll w w.files → StandAlone names w account → StandsFor (part w) account
  alone_stands w account reads alone = record {
    now = alone.now;
    left = λ files left. let its = part_of w reads files left in subst (λ (f : Files). HoldsKept f account.kept) (sym its.is) (alone.left its.whole its.left);
    free = λ name plain free none d left.
        by_name _ (delta_name name) (λ is. alone.free name plain free none is d (leaves_of w (delta_name name) d is left)) (λ is. leaves_off w (delta_name name) d is left);
  }

  pub stands_alone : (w : World) (account : Account) → StandsFor (part w) account → StandAlone names w account
  stands_alone w account stands = record {
    now = stands.now;
    left = λ files left. stands.left (among names files) (all_part w files left);
    free = λ name plain free none is d left. stands.free name plain free none d (leaves_in w (delta_name name) d is left);
  }

  -- moments
  pub part_moments : (old new : World) (P Q : Files → List ℕ → Type 0) → AtEachMoment old new P → ((whole : Files) (said : List ℕ) → P whole said → Q (among names whole) said) → AtEachMoment (part old) (part new) Q
  part_moments old new P Q moments goes = record {
    later = moments.later;
    each = λ files said left. subst (λ (f : Files). Q f said) (sym left.2) (goes left.0 said (moments.each left.0 said left.1));
    earlier = λ t files said before left. elim (moments.earlier t left.0 said before left.1) [
      | inl was ↦ inl (left.0, was, left.2)
      | inr here ↦ inr (subst (λ (f : Files). Q f said) (sym left.2) (goes left.0 said here))
    ];
  }

  pub part_timely : (w : World) → LeavesAll w w.files → IsTimely w → IsTimely (part w)
  part_timely w reads timely = record {
    counts_now = λ t files before left. let its = part_of w reads files left in (its.whole, timely.counts_now t its.whole before its.left, its.is);
    only_now = λ files said left. let is : IsNow w left.0 said = timely.only_now left.0 said left.1 in record { left = subst (LeavesAll (part w)) (sym left.2) (all_part w left.0 is.left); output = is.output };
  }

  -- new GUIDs are new there
  pub part_new : (w : World) (kept : List Kept) (guids : List (List ℕ)) → AreNew w kept guids → AreNew (part w) kept guids
  part_new w kept guids new = record {
    each = λ guid there.
        let its : IsNewGuid w kept guid = new.each guid there in
        record {
          sixteen = its.sixteen;
          some = its.some;
          unkept = its.unkept;
          unnamed = λ name bytes plain left. by_name _ name (λ is. its.unnamed name bytes plain (leaves_of w name (Some bytes) is left)) (λ is. absurd (none_some bytes (sym (leaves_off w name (Some bytes) is left))));
        };
    once = new.once;
  }

  -- Where all files stand, those of names that are closed do alone.
  module _ (closed : AreClosed names) (files : Files) (account : Account) (stands : Stands files account) where
    abbrev part_files : Files
    part_files = among names files

    abbrev only : Account
    only = only_of names account

    only_own : (name : List ℕ) → is_among names name ≡ true → only.entry name ≡ account.entry name
    only_own name is = ap (λ (t : Bool). elim t as (λ z. Entry) [ true ↦ account.entry name | false ↦ Missing None ]) is

    only_off : (name : List ℕ) → is_among names name ≡ false → only.entry name ≡ Missing None
    only_off name is = ap (λ (t : Bool). elim t as (λ z. Entry) [ true ↦ account.entry name | false ↦ Missing None ]) is

    beside_own : (name : List ℕ) → is_delta name ≡ false → is_among names name ≡ true → part_files (delta_name name) ≡ files (delta_name name)
    beside_own name plain is = among_own names files (delta_name name) (closed name plain ∙ is)

    beside_off : (name : List ℕ) → is_delta name ≡ false → is_among names name ≡ false → part_files (delta_name name) ≡ None
    beside_off name plain is = among_off names files (delta_name name) (closed name plain ∙ is)

    nothing : (name : List ℕ) → entry_of_files name None None ≡ Missing None
    unfolding entry_of_files
    nothing name = refl

    same_entry : (name : List ℕ) → is_delta name ≡ false → only.entry name ≡ entry_in part_files name
    same_entry name plain = by_name _ name
        (λ is. only_own name is ∙ stands.same_image name plain ∙ sym (ap (λ (f : File). entry_of_files name f (part_files (delta_name name))) (among_own names files name is) ∙ ap (entry_of_files name (files name)) (beside_own name plain is)))
        (λ is. only_off name is ∙ sym (ap (λ (f : File). entry_of_files name f (part_files (delta_name name))) (among_off names files name is) ∙ ap (entry_of_files name None) (beside_off name plain is) ∙ nothing name))

    -- a database that is there is one of the account
    was_base : (name : List ℕ) (b : Base) → only.entry name ≡ IsBase b → account.entry name ≡ IsBase b
    was_base name b e = by_name _ name (λ is. sym (only_own name is) ∙ e) (λ is. absurd (missing_base None b (sym (only_off name is) ∙ e)))

    belonged : (x : Image) → Belongs only x → Belongs account x
    belonged x (to_base name b e is) = to_base name b (was_base name b e) is
    belonged x (to_record r there is) = to_record r there is

    stray : (name : List ℕ) → is_delta name ≡ false → IsTrue (is_some (part_files (delta_name name))) → ((b : Base) × (only.entry name ≡ IsBase b)) ⊎ ((bytes : List ℕ) × (part_files name ≡ Some bytes) × IsTrue (is_applying bytes))
    stray name plain beside = by_name _ name
        (λ is. elim (stands.no_stray name plain (subst (λ (f : File). IsTrue (is_some f)) (beside_own name plain is) beside)) [
          | inl base ↦ inl (base.0, only_own name is ∙ base.1)
          | inr waits ↦ inr (waits.0, among_own names files name is ∙ waits.1, waits.2)
        ])
        (λ is. absurd (not_beside (part_files (delta_name name)) (beside_off name plain is) beside))

    pub only_stands : Stands part_files only
    only_stands = record {
      same_image = same_entry;
      frozen_main = λ name b e stalled. stands.frozen_main name b (was_base name b e) stalled;
      sound_images = record { images = λ x belongs. stands.sound_images.images x (belonged x belongs); records = stands.sound_images.records };
      kept_records = record {
        distinct = stands.kept_records.distinct;
        not_nil = stands.kept_records.not_nil;
        stalled = λ name b e stalled. stands.kept_records.stalled name b (was_base name b e) stalled;
        levels = λ name bytes plain there. stands.kept_records.levels name bytes plain (among_there names files name bytes there).there;
      };
      history = record { images = λ x belongs. stands.history.images x (belonged x belongs); records = stands.history.records };
      no_stray = stray;
      standbys = λ name bytes r plain there applying named. stands.standbys name bytes r plain (among_there names files name bytes there).there applying named;
    }

  -- So it is of a world.
  pub only_alone : (w : World) (account : Account) → AreClosed names → LeavesAll w w.files → StandsFor w account → StandAlone names w (only_of names account)
  only_alone w account closed reads stands = record {
    now = only_stands closed w.files account stands.now;
    left = λ files left. let its = stands.left files left in record { account = only_of names its.account; stands = only_stands closed files its.account its.stands; same = its.same };
    free = λ name plain free none is d left.
        let own : is_among names name ≡ true = sym (closed name plain) ∙ is in
        stands.free name plain (ap is_free_file (sym (among_own names w.files name own)) ∙ free) (sym (among_own names w.files (delta_name name) is) ∙ none) d left;
  }

  -- What stands alone in files that a host starts from stands alone there.
  pub alone_starts : (w : World) (files : Files) (kept : List Kept) → HoldsKept (among names files) kept → StartsFrom w files → (account : Account) × StandAlone names w account × (account.kept ≡ kept)
  alone_starts w files kept holds starts = (
    holds.account,
    record {
      now = subst (λ (f : Files). Stands (among names f) holds.account) (λ i. λ m. sym (starts.reads m) i) holds.stands;
      left = λ left leaves. record { account = holds.account; stands = subst (λ (f : Files). Stands (among names f) holds.account) (λ i. λ m. sym (starts.only m (left m) (leaves m)) i) holds.stands; same = refl };
      free = λ name plain free none is d leaves. starts.only (delta_name name) d leaves ∙ sym (starts.reads (delta_name name)) ∙ sym (among_own names w.files (delta_name name) is) ∙ none;
    },
    holds.same,
  )

-- Whatever stands under other names.
pub alone_beside : (names : List (List ℕ)) (files others : Files) (kept : List Kept) → HoldsKept (among names files) kept → ((m : List ℕ) → is_among names m ≡ true → others m ≡ files m) → HoldsKept (among names others) kept
alone_beside names files others kept holds same = subst (λ (f : Files). HoldsKept f kept) (λ i. λ m. by m (is_among names m) refl i) holds
  where
    by : (m : List ℕ) (t : Bool) → is_among names m ≡ t → among names files m ≡ among names others m
    by m true is = among_own names files m is ∙ sym (same m is) ∙ sym (among_own names others m is)
    by m false is = among_off names files m is ∙ sym (among_off names others m is)

-- Names with those of their difference files are closed.
module _ (n name : List ℕ) (names : List (List ℕ)) (plain_n : is_delta n ≡ false) (plain : is_delta name ≡ false) where
  skip_delta : name ≢ n → is_among (n ∷ (delta_name n ∷ names)) (delta_name name) ≡ is_among names (delta_name name)
  skip_delta off = among_skip (delta_name name) n (delta_name n ∷ names) (no_main name n plain_n) ∙ among_skip (delta_name name) (delta_name n) names (λ e. off (delta_same name n e))

  skip_main : name ≢ n → is_among (n ∷ (delta_name n ∷ names)) name ≡ is_among names name
  skip_main off = among_skip name n (delta_name n ∷ names) off ∙ among_skip name (delta_name n) names (λ e. no_main n name plain (sym e))

pub deltas_closed : (names : List (List ℕ)) → AllByRecursion (λ (n : List ℕ). is_delta n ≡ false) names → AreClosed (with_deltas names)
deltas_closed [] plain name plain_name = refl
deltas_closed (n ∷ names) plain name plain_name = elim (decide name n) [
  | inl same ↦ is_there (n ∷ (delta_name n ∷ with_deltas names)) (delta_name name) (1, omega arith, ap delta_name (sym same)) ∙ sym (is_there (n ∷ (delta_name n ∷ with_deltas names)) name (0, omega arith, sym same))
  | inr off ↦ skip_delta n name (with_deltas names) plain.0 plain_name off ∙ deltas_closed names plain.1 name plain_name ∙ sym (skip_main n name (with_deltas names) plain.0 plain_name off)
]
