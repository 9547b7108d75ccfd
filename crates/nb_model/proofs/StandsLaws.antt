-- The files go on to stand for the account where the file of one name changes.
use Rattle.std.proofs.Common.{◌≡◌, ◌≢◌, ◌⊎◌, inl, inr, ℕ, ◌-◌, List, [], ◌∷◌, ◌++◌, length, take, drop, refl, sym, ap, subst, ◌∙◌, arith, length-append, Bool, true, false, ◌==◌, Some, None, Ok, Err, IsTrue, is_some, Contains, nat_eq}
use Rattle.nb_model.proofs.Common.{told_text, pointwise, true≢false, and_parts, eqb-true, take_at, drop_at, number_of, number_in, is_header, state_of, pending_of, stalled_state, applying_state, File, Files, same_name, is_delta, delta_suffix, NotDatabase, Image, image_state, image_guid, Ask, Base, Kept, Entry, IsBase, Account, with_entry, not_database, Contents, first_fault, begins_level, read_level, delta_name, owner, entry_of_files, entry_in, IsSoundImage, nil, IsKeptAs, GoesOnFrom, Belongs, to_base, to_record, IsRaised, IsSameImage, IsFrozenMain, HasSoundImages, HoldsItsRecord, KeepsRecords, NamesItsPast, FollowsHistory, is_applying, HasNoStrayDelta, IsStopped, HasApplyingStandbys, Stands, decide, same_self, err_not_ok, none_and_some}
use Rattle.nb_model.proofs.SoundLaws.{kind_of_header}
use Rattle.nb_model.proofs.RunLaws.{entry_same}

-- the name of a difference file ends as such
pub delta_named : (name : List ℕ) → is_delta (delta_name name) ≡ true
delta_named name =
    let whole : length (name ++ delta_suffix) - length delta_suffix ≡ length name = omega (arith, length-append name delta_suffix) in
    ap (λ (k : ℕ). pointwise nat_eq delta_suffix (drop k (name ++ delta_suffix))) whole
    ∙ ap (pointwise nat_eq delta_suffix) (drop_at name delta_suffix (length name) refl) ∙ same_self delta_suffix

-- so no difference file has the name of a database
pub no_main : (n name : List ℕ) → is_delta name ≡ false → delta_name n ≢ name
no_main n name plain e = true≢false (sym (delta_named n) ∙ ap is_delta e ∙ plain)

-- and no two databases have one difference file
pub delta_same : (m n : List ℕ) → delta_name m ≡ delta_name n → m ≡ n
delta_same m n e =
    let long : length m ≡ length n = omega (arith, length-append m delta_suffix, length-append n delta_suffix, ap length e) in
    sym (take_at m delta_suffix (length m) refl) ∙ ap (take (length m)) e ∙ take_at n delta_suffix (length m) (sym long)

-- another name keeps its entry
pub entry_other : (name n : List ℕ) (entry : Entry) (account : Account) → n ≢ name → (with_entry name entry account).entry n ≡ account.entry n
unfolding with_entry
entry_other name n entry account other = by_test (same_name n name) refl
  where
    by_test : (t : Bool) → t ≡ same_name n name → elim (same_name n name) as (λ z. Entry) [ true ↦ entry | false ↦ account.entry n ] ≡ account.entry n
    by_test true is = absurd (other (told_text n name true is))
    by_test false is = ap (λ (t : Bool). elim t as (λ z. Entry) [ true ↦ entry | false ↦ account.entry n ]) (sym is)

-- a file of a database's form has a header
pub formed_header : (bytes : List ℕ) → not_database bytes ≡ None → is_header bytes ≡ true
unfolding not_database
formed_header bytes formed = by_test (is_header bytes) refl
  where
    refused : is_header bytes ≡ false → not_database bytes ≡ Some (NotDatabase 0)
    refused none = rw (none, not_database) refl

    by_test : (t : Bool) → is_header bytes ≡ t → is_header bytes ≡ true
    by_test true is = is
    by_test false is = absurd (none_and_some (not_database bytes) (NotDatabase 0) formed (refused is))

-- and begins no level file
pub no_level_begins : (bytes : List ℕ) → number_in 0 1 bytes ≡ 1 → begins_level bytes ≡ false
unfolding number_in number_of begins_level
no_level_begins [] h = refl
no_level_begins (b ∷ bs) h = let e : b ≡ 1 = omega arith in rw e refl

pub not_level : (bytes : List ℕ) → begins_level bytes ≡ false → read_level bytes ≡ Err 0
unfolding read_level first_fault
not_level bytes e = rw (e, read_level) refl

pub header_no_level : (bytes : List ℕ) (c : Contents) → is_header bytes ≡ true → read_level bytes ≡ Ok c → ⊥
header_no_level bytes c is reads = err_not_ok {E = ℕ} 0 c (read_level bytes) (not_level bytes (no_level_begins bytes (kind_of_header bytes is))) reads

pub state_of_applying : (bytes : List ℕ) → IsTrue (is_applying bytes) → state_of bytes ≡ applying_state
state_of_applying bytes is = eqb-true (state_of bytes) 3 (and_parts (is_header bytes) (state_of bytes == applying_state) is).1

-- the entry of a file that is opened
pub opened_entry : (name : List ℕ) (main delta : File) (bytes : List ℕ) (b : Base) → main ≡ Some bytes → owner name main delta ≡ Ok b → entry_of_files name main delta ≡ IsBase b
unfolding entry_of_files
opened_entry name main delta bytes b there opens = ap (λ (f : File). entry_of_files name f delta) there ∙ by_owner (sym (ap (λ (f : File). owner name f delta) there) ∙ opens)
  where
    by_owner : owner name (Some bytes) delta ≡ Ok b → entry_of_files name (Some bytes) delta ≡ IsBase b
    by_owner e = rw (e, entry_of_files) refl

-- What is asked of the files of one name, and of the entry that they give.
pub record StandsUnder (files : Files) (kept : List Kept) (name : List ℕ) (entry : Entry) : Type 0 where
  pub same : entry ≡ entry_in files name
  pub frozen : (b : Base) → entry ≡ IsBase b → image_state b.image ≡ stalled_state → IsRaised b.image b.diverted
  pub sound : (b : Base) → entry ≡ IsBase b → IsSoundImage b.image
  pub stalled : (b : Base) → entry ≡ IsBase b → image_state b.image ≡ stalled_state → (r : Kept) × IsKeptAs kept (image_guid b.image) r
  pub past : (b : Base) → entry ≡ IsBase b → NamesItsPast kept b.image
  pub holds : (bytes : List ℕ) → files name ≡ Some bytes → HoldsItsRecord kept bytes
  pub no_stray : IsTrue (is_some (files (delta_name name))) → ((b : Base) × (entry ≡ IsBase b)) ⊎ ((bytes : List ℕ) × (files name ≡ Some bytes) × IsTrue (is_applying bytes))
  pub standby : (bytes : List ℕ) (r : Kept) → files name ≡ Some bytes → IsTrue (is_applying bytes) → IsKeptAs kept (pending_of bytes) r → IsStopped kept bytes r

module _ (old new : Files) (account : Account) (name : List ℕ) (entry : Entry)
    (stands : Stands old account) (plain : is_delta name ≡ false) (others : (m : List ℕ) → m ≢ name → m ≢ delta_name name → new m ≡ old m)
    (under : StandsUnder new account.kept name entry) where
  abbrev next : Account
  next = with_entry name entry account

  same_kept : next.kept ≡ account.kept
  unfolding with_entry
  same_kept = refl

  here : (n : List ℕ) → n ≡ name → next.entry n ≡ entry
  here n e = ap (λ (m : List ℕ). next.entry m) e ∙ entry_same name entry account

  elsewhere : (n : List ℕ) → n ≢ name → next.entry n ≡ account.entry n
  elsewhere n other = entry_other name n entry account other

  -- a database of the account is that of the name, or was one before
  whose : (n : List ℕ) (b : Base) → next.entry n ≡ IsBase b → (entry ≡ IsBase b) ⊎ (account.entry n ≡ IsBase b)
  whose n b e = elim (decide n name) [ inl w ↦ inl (sym (here n w) ∙ e) | inr w ↦ inr (sym (elsewhere n w) ∙ e) ]

  -- what holds of the image of each database of the name, and of all that belonged before, holds of all that belongs
  belonging : (P : Image → Type 0) → ((b : Base) → entry ≡ IsBase b → P b.image) → ((x : Image) → Belongs account x → P x) → (x : Image) → Belongs next x → P x
  belonging P now before x (to_base n b e is) = elim (whose n b e) [
    | inl w ↦ subst P is (now b w)
    | inr w ↦ before x (to_base n b w is)
  ]
  belonging P now before x (to_record r there is) = before x (to_record r (subst (λ (rs : List Kept). Contains rs r) same_kept there) is)

  delta_kept : (n : List ℕ) → n ≢ name → new (delta_name n) ≡ old (delta_name n)
  delta_kept n other = others (delta_name n) (no_main n name plain) (λ e. other (delta_same n name e))

  -- no database has the name of a difference file
  plain_other : (n : List ℕ) → is_delta n ≡ false → n ≢ delta_name name
  plain_other n is e = true≢false (sym (ap is_delta e ∙ delta_named name) ∙ is)

  same_image : IsSameImage new next
  same_image n plain_n = elim (decide n name) [
    | inl w ↦ here n w ∙ under.same ∙ ap (λ (m : List ℕ). entry_in new m) (sym w)
    | inr w ↦
        elsewhere n w ∙ stands.same_image n plain_n
        ∙ ap (λ (f : File). entry_of_files n f (old (delta_name n))) (sym (others n w (plain_other n plain_n)))
        ∙ ap (λ (f : File). entry_of_files n (new n) f) (sym (delta_kept n w))
  ]

  frozen_main : IsFrozenMain next
  frozen_main n b e stalled = elim (whose n b e) [ inl w ↦ under.frozen b w stalled | inr w ↦ stands.frozen_main n b w stalled ]

  sound_images : HasSoundImages next
  sound_images = record {
    images = belonging IsSoundImage under.sound stands.sound_images.images;
    records = λ r there. stands.sound_images.records r (subst (λ (rs : List Kept). Contains rs r) same_kept there);
  }

  kept_records : KeepsRecords new next
  unfolding with_entry
  kept_records = record {
    distinct = stands.kept_records.distinct;
    not_nil = stands.kept_records.not_nil;
    stalled = λ n b e is. elim (whose n b e) [ inl w ↦ under.stalled b w is | inr w ↦ stands.kept_records.stalled n b w is ];
    levels = λ n bytes plain_n there. elim (decide n name) [
      | inl w ↦ under.holds bytes (ap new (sym w) ∙ there)
      | inr w ↦ stands.kept_records.levels n bytes plain_n (sym (others n w (plain_other n plain_n)) ∙ there)
    ];
  }

  history : FollowsHistory next
  unfolding with_entry
  history = record { images = belonging (NamesItsPast account.kept) under.past stands.history.images; records = stands.history.records }

  no_stray : HasNoStrayDelta new next
  no_stray n plain_n beside = elim (decide n name) [
    | inl w ↦ elim (under.no_stray (subst (λ (m : List ℕ). IsTrue (is_some (new (delta_name m)))) w beside)) [
      | inl base ↦ inl (base.0, here n w ∙ base.1)
      | inr standby ↦ inr (standby.0, ap new w ∙ standby.1, standby.2)
    ]
    | inr w ↦ elim (stands.no_stray n plain_n (subst (λ (f : File). IsTrue (is_some f)) (delta_kept n w) beside)) [
      | inl base ↦ inl (base.0, elsewhere n w ∙ base.1)
      | inr standby ↦ inr (standby.0, others n w (plain_other n plain_n) ∙ standby.1, standby.2)
    ]
  ]

  standbys : HasApplyingStandbys new next.kept
  unfolding with_entry
  standbys n bytes r plain_n there applying kept = elim (decide n name) [
    | inl w ↦ under.standby bytes r (ap new (sym w) ∙ there) applying kept
    | inr w ↦ stands.standbys n bytes r plain_n (sym (others n w (plain_other n plain_n)) ∙ there) applying kept
  ]

  -- So the files stand for the account with that entry, where the two files of the name change.
  pub stands_with_both : Stands new (with_entry name entry account)
  stands_with_both = record {
    same_image = same_image;
    frozen_main = frozen_main;
    sound_images = sound_images;
    kept_records = kept_records;
    history = history;
    no_stray = no_stray;
    standbys = standbys;
  }

-- Accounts of the same entries and the same records stand for the same.
module _ (files : Files) (a b : Account) (entries : (n : List ℕ) → a.entry n ≡ b.entry n) (kept : a.kept ≡ b.kept) (stands : Stands files a) where
  before : (n : List ℕ) (base : Base) → b.entry n ≡ IsBase base → a.entry n ≡ IsBase base
  before n base e = entries n ∙ e

  belonged_before : (x : Image) → Belongs b x → Belongs a x
  belonged_before x (to_base n base e is) = to_base n base (before n base e) is
  belonged_before x (to_record r there is) = to_record r (subst (λ (rs : List Kept). Contains rs r) (sym kept) there) is

  pub stands_same : Stands files b
  stands_same = record {
    same_image = λ n plain. sym (entries n) ∙ stands.same_image n plain;
    frozen_main = λ n base e. stands.frozen_main n base (before n base e);
    sound_images = record {
      images = λ x belongs. stands.sound_images.images x (belonged_before x belongs);
      records = λ r there. stands.sound_images.records r (subst (λ (rs : List Kept). Contains rs r) (sym kept) there);
    };
    kept_records = record {
      distinct = subst AreDistinct kept stands.kept_records.distinct;
      not_nil = subst HasNoNil kept stands.kept_records.not_nil;
      stalled = λ n base e is. subst (λ (rs : List Kept). (r : Kept) × IsKeptAs rs (image_guid base.image) r) kept (stands.kept_records.stalled n base (before n base e) is);
      levels = λ n bytes plain there. subst (λ (rs : List Kept). HoldsItsRecord rs bytes) kept (stands.kept_records.levels n bytes plain there);
    };
    history = record {
      images = λ x belongs. subst (λ (rs : List Kept). NamesItsPast rs x) kept (stands.history.images x (belonged_before x belongs));
      records = subst HaveParents kept stands.history.records;
    };
    no_stray = λ n plain beside. elim (stands.no_stray n plain beside) [
      | inl base ↦ inl (base.0, sym (entries n) ∙ base.1)
      | inr standby ↦ inr standby
    ];
    standbys = subst (HasApplyingStandbys files) kept stands.standbys;
  }
    where
      AreDistinct : List Kept → Type 0
      AreDistinct rs = (r q : Kept) → Contains rs r → Contains rs q → r.guid ≡ q.guid → r ≡ q

      HasNoNil : List Kept → Type 0
      HasNoNil rs = (r : Kept) → Contains rs r → r.guid ≢ nil

      HaveParents : List Kept → Type 0
      HaveParents rs = (r : Kept) (ask : Ask) → Contains rs r → r.ask ≡ Some ask → ask.previous ≢ nil → GoesOnFrom rs r ask
