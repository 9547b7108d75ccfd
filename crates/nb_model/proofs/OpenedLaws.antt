-- A database that files stand for is well in its state, and settled it is a well trail; and files stand for a well database.
use Rattle.std.proofs.Common.{◌≡◌, ◌≢◌, inl, inr, ℕ, ◌+◌, ◌-◌, ◌*◌, ◌%◌, ◌<◌, ◌≤◌, List, [], ◌∷◌, ◌++◌, length, take, replicate, refl, sym, ap, subst, ◌∙◌, arith, length-append, add-mul, le_of_mul-le-mul_right, true, false, ◌==◌, Some, None, Ok, Contains}
use Rattle.nb_model.proofs.Common.{and_parts, and_from, take-append-le, length-replicate, mul-mod_left, part, is_zeros, is_header, state_of, size_of, guid_of, part-take, size_facts, stalled_state, merge_state, applying_state, File, Files, is_delta, Page, Image, first_page, image_size, image_state, image_scn, image_guid, image_in, Kept, Base, IsBase, Account, with_entry, not_database, joined, delta_name, diverted_base, owner, IsSoundImage, to_base, to_record, IsKeptAs, IsRaised, IsCopyOf, HoldsItsRecord, HasOldEntries, NamesItsPast, Stands, Trail, settled, StandsOn, StandsIn, IsOfRecord, IsWellBaseIn, IsWellTrail, some_same}
use Rattle.nb_model.proofs.FormLaws.{Formed, formed}
use Rattle.nb_model.proofs.FrontLaws.{owner_of_entry}
use Rattle.nb_model.proofs.HeadSound.{all_zeros}
use Rattle.nb_model.proofs.HeaderLaws.{header-long, header-size, same-header, same-number}
use Rattle.nb_model.proofs.ImageLaws.{AreZeros, joined-append, length-joined, joined-zeros, zeros-are, trimmed-no_zeros, trimmed-append_zeros, all-append, all-replicate}
use Rattle.nb_model.proofs.MainLaws.{IsLaid, laid, laid-front, some_page, image_in-is, main_facts, owned-front, owned-first, diverted-image, IsDiverted, owner_cases, base_told}
use Rattle.nb_model.proofs.OverLaws.{owner_over}
use Rattle.nb_model.proofs.StandsLaws.{header_no_level, state_of_applying, opened_entry, StandsUnder, stands_with_both}
use Rattle.nb_model.proofs.WellTrailLaws.{settled_well, left_well}

-- zeros after zeros
pub zeros_join : (xs ys : List ℕ) → is_zeros xs ≡ true → is_zeros ys ≡ true → is_zeros (xs ++ ys) ≡ true
zeros_join [] ys h k = k
zeros_join (x ∷ xs) ys h k = let parts = and_parts (x == 0) (is_zeros xs) h in and_from (x == 0) (is_zeros (xs ++ ys)) parts.0 (zeros_join xs ys parts.1 k)

pub pages_zeros : (zs : List Page) → AreZeros zs → is_zeros (joined zs) ≡ true
pages_zeros [] h = refl
pages_zeros (z ∷ zs) h = zeros_join z (joined zs) h.0 (pages_zeros zs h.1)

-- the first 64 bytes of pages that are joined
pub joined_front : (image : Image) (rest : List Page) → is_header (first_page image) ≡ true → take 64 (joined (image ++ rest)) ≡ take 64 (first_page image)
joined_front [] rest header = absurd (let some = some_page [] header in omega arith)
joined_front (p ∷ ps) rest header = take-append-le 64 p (joined (ps ++ rest)) (header-long p header)

-- A file that is a copy of a record holds its image.
pub copy_image : (r : Kept) (bytes : List ℕ) → IsCopyOf r bytes → is_header (first_page r.image) ≡ true → IsSoundImage r.image → not_database bytes ≡ None → image_in bytes ≡ r.image
copy_image r bytes copy header sound none =
    let size : ℕ = image_size r.image in
    let n : ℕ = length (joined copy.zeros) in
    let form : Formed bytes = formed bytes none in
    let wide : 1024 ≤ size = (size_facts size (header-size (first_page r.image) header)).at_least in
    let front : take 64 bytes ≡ take 64 (first_page r.image) = ap (take 64) copy.is ∙ joined_front r.image copy.zeros header in
    let same : size_of bytes ≡ size = same-number bytes (first_page r.image) front 24 4 (omega arith) in
    let long : length bytes ≡ length r.image * size + n = ap length (copy.is ∙ joined-append r.image copy.zeros) ∙ length-append (joined r.image) (joined copy.zeros) ∙ ap (λ (k : ℕ). k + n) (length-joined size r.image sound.sizes) in
    let whole : form.count * size ≡ length r.image * size + n = ap (λ (k : ℕ). form.count * k) (sym same) ∙ sym form.whole ∙ long in
    let more : length r.image ≤ form.count = le_of_mul-le-mul_right {k = size} (let le : length r.image * size ≤ form.count * size = omega (arith, whole) in le) (omega arith) in
    let m : ℕ = form.count - length r.image in
    let count : form.count ≡ length r.image + m = omega (arith, more) in
    let left : n ≡ m * size = omega (arith, whole, ap (λ (k : ℕ). k * size) count, add-mul (length r.image) m size) in
    let zeros : List Page = replicate m (replicate {A = ℕ} size 0) in
    let zeros_is : joined copy.zeros ≡ joined zeros = all_zeros (joined copy.zeros) (pages_zeros copy.zeros copy.are_zeros) ∙ ap (λ (k : ℕ). replicate {A = ℕ} k 0) left ∙ joined-zeros m size in
    let is : bytes ≡ joined (r.image ++ zeros) = copy.is ∙ joined-append r.image copy.zeros ∙ ap (λ (x : List ℕ). joined r.image ++ x) zeros_is ∙ sym (joined-append r.image zeros) in
    image_in-is bytes size (r.image ++ zeros) same is
    (all-append (λ (x : Page). length x ≡ size) r.image zeros sound.sizes (all-replicate (λ (x : Page). length x ≡ size) m (replicate {A = ℕ} size 0) (length-replicate {A = ℕ} size 0))) (omega arith)
    ∙ trimmed-append_zeros r.image zeros (all-replicate (λ (x : Page). is_zeros x ≡ true) m (replicate {A = ℕ} size 0) (zeros-are size)) ∙ trimmed-no_zeros r.image sound.sound.no_zeros

-- The main file of a database that is opened: it has the database's control block, and in the stalled state the frozen image.
pub record HasMain (b : Base) (file : File) : Type 0 where
  pub bytes : List ℕ
  pub there : file ≡ Some bytes
  pub formed : not_database bytes ≡ None
  pub front : take 64 (first_page b.image) ≡ take 64 bytes
  pub state : state_of bytes ≤ 2
  pub frozen : state_of bytes ≡ stalled_state → b.frozen ≡ image_in bytes
  pub merge : state_of bytes ≡ merge_state → b.frozen ≡ []

diverted_front : (b : Base) (file : File) (is : IsDiverted b file) → take 64 (first_page b.image) ≡ take 64 is.bytes
diverted_front b file is =
    let main : Image = image_in is.bytes in
    let l : IsLaid main is.bytes = laid is.bytes is.formed in
    let some : 1 ≤ length main = some_page main l.header in
    let size : ℕ = size_of is.bytes in
    ap (λ (c : Base). take 64 (first_page c.image)) is.is ∙ ap (λ (x : Image). take 64 (first_page x)) (diverted-image is.bytes is.delta is.table)
    ∙ ap (take 64) (owned-first size main is.delta is.table some) ∙ owned-front size main is.delta is.table some (header-long (first_page main) l.header) ∙ sym (laid-front main is.bytes l)

diverted_frozen : (b : Base) (file : File) (is : IsDiverted b file) → state_of is.bytes ≡ stalled_state → b.frozen ≡ image_in is.bytes
unfolding diverted_base
diverted_frozen b file is stalled = ap (λ (c : Base). c.frozen) is.is ∙ ap (λ (n : ℕ). elim (n == 1) as (λ z. Image) [ true ↦ image_in is.bytes | false ↦ [] ]) stalled

diverted_merge : (b : Base) (file : File) (is : IsDiverted b file) → state_of is.bytes ≡ merge_state → b.frozen ≡ []
unfolding diverted_base
diverted_merge b file is merge = ap (λ (c : Base). c.frozen) is.is ∙ ap (λ (n : ℕ). elim (n == 1) as (λ z. Image) [ true ↦ image_in is.bytes | false ↦ [] ]) merge

pub has_main : (name : List ℕ) (b : Base) (m d : File) → owner name m d ≡ Ok b → HasMain b m
has_main name b m d opens = elim (owner_cases name b m d opens) [
  | inl holds ↦ record {
    bytes = holds.bytes;
    there = holds.there;
    formed = holds.formed;
    front = sym (main_facts b.image m holds).front;
    state = omega (arith, holds.normal);
    frozen = λ stalled. absurd (omega (arith, stalled, holds.normal));
    merge = λ merge. absurd (omega (arith, merge, holds.normal));
  }
  | inr is ↦ record {
    bytes = is.bytes;
    there = is.there;
    formed = is.formed;
    front = diverted_front b m is;
    state = elim is.other [ inl one ↦ omega (arith, one) | inr two ↦ omega (arith, two) ];
    frozen = diverted_frozen b m is;
    merge = diverted_merge b m is;
  }
]

-- what the control block tells of both
module _ (b : Base) (file : File) (main : HasMain b file) where
  main_form : Formed main.bytes
  main_form = formed main.bytes main.formed

  pub main_header : is_header (first_page b.image) ≡ true
  main_header = same-header (first_page b.image) main.bytes main.front ∙ main_form.header

  pub same_state : image_state b.image ≡ state_of main.bytes
  same_state = same-number (first_page b.image) main.bytes main.front 22 2 (omega arith)

  same_guid : image_guid b.image ≡ guid_of main.bytes
  same_guid = sym (part-take 64 32 16 (first_page b.image) (omega arith)) ∙ ap (part 32 16) main.front ∙ part-take 64 32 16 main.bytes (omega arith)

module _ (files : Files) (account : Account) (name : List ℕ) (b : Base) (stands : Stands files account) (plain : is_delta name ≡ false) (there : account.entry name ≡ IsBase b) where
  opens : owner name (files name) (files (delta_name name)) ≡ Ok b
  opens = owner_of_entry name (files name) (files (delta_name name)) b (sym (stands.same_image name plain) ∙ there)

  sound : IsSoundImage b.image
  sound = stands.sound_images.images b.image (to_base name b there refl)

  main : HasMain b (files name)
  main = has_main name b (files name) (files (delta_name name)) opens

  state : image_state b.image ≡ state_of main.bytes
  state = same_state b (files name) main

  -- the main file of a stalled database is a copy of the record that it names
  of_record : image_state b.image ≡ stalled_state → IsOfRecord account.kept b
  of_record stalled =
      let named = stands.kept_records.stalled name b there stalled in
      let r : Kept = named.0 in
      let kept : IsKeptAs account.kept (image_guid b.image) r = named.1 in
      let form : Formed main.bytes = main_form b (files name) main in
      let one : state_of main.bytes ≡ stalled_state = sym state ∙ stalled in
      let whole : length main.bytes % size_of main.bytes ≡ 0 = ap (λ (n : ℕ). n % size_of main.bytes) form.whole ∙ mul-mod_left form.count (size_of main.bytes) in
      let copy : IsCopyOf r main.bytes = (stands.kept_records.levels name main.bytes plain main.there).copy r form.header one whole (subst (λ (g : List ℕ). IsKeptAs account.kept g r) (same_guid b (files name) main) kept) in
      record {
        backup = r;
        kept_as = kept;
        same = main.frozen one ∙ copy_image r main.bytes copy (stands.sound_images.records r kept.there).header (stands.sound_images.images r.image (to_record r kept.there refl)) main.formed;
      }

  -- It is well in its state,
  pub opened_well_in : image_scn b.image < 4294967296 → IsWellBaseIn account.kept b
  opened_well_in scn = record {
    state = omega (arith, state, main.state);
    well = record { header = main_header b (files name) main; scn = scn; state = refl; sound = sound; past = stands.history.images b.image (to_base name b there refl) };
    normal = base_told name b (files name) (files (delta_name name)) opens;
    stalled = λ stalled.
        let of : IsOfRecord account.kept b = of_record stalled in
        record { raised = stands.frozen_main name b there stalled; old = subst HasOldEntries (sym of.same) (stands.sound_images.records of.backup of.kept_as.there).old };
    backup = of_record;
    merge = λ merge. main.merge (sym state ∙ merge);
  }

  -- and a trail begins with it.
  pub opened_trail : image_scn b.image < 4294967296 → IsWellTrail account.kept (settled b)
  opened_trail scn = settled_well account.kept b (opened_well_in scn) (owner_over name b (files name) (files (delta_name name)) opens sound.sound.no_zeros)

-- So one begins with what a crash left of a well trail.
pub stood_trail : (kept : List Kept) (name : List ℕ) (t : Trail) (m d : File) → IsWellTrail kept t → (s : StandsOn name t m d) → IsWellTrail kept (settled s.base)
stood_trail kept name t m d w s =
    let well : IsWellBaseIn kept s.base = left_well kept t s.base w s.left in
    settled_well kept s.base well (owner_over name s.base m d s.opens well.well.sound.sound.no_zeros)

-- What is asked of the main file of a well database, in whatever state.
module _ (files : Files) (kept : List Kept) (name : List ℕ) (b : Base) (opens : owner name (files name) (files (delta_name name)) ≡ Ok b) (w : IsWellBaseIn kept b)
    (distinct : (r q : Kept) → Contains kept r → Contains kept q → r.guid ≡ q.guid → r ≡ q) where
  its_main : HasMain b (files name)
  its_main = has_main name b (files name) (files (delta_name name)) opens

  its_form : Formed its_main.bytes
  its_form = main_form b (files name) its_main

  its_state : image_state b.image ≡ state_of its_main.bytes
  its_state = same_state b (files name) its_main

  its_bytes : (bytes : List ℕ) → files name ≡ Some bytes → its_main.bytes ≡ bytes
  its_bytes bytes there = some_same its_main.bytes bytes (sym its_main.there ∙ there)

  its_base : (c : Base) → IsBase b ≡ IsBase c → b ≡ c
  its_base c e = cc

  -- it is a copy of the record that it names
  its_copy : (r : Kept) → state_of its_main.bytes ≡ stalled_state → IsKeptAs kept (guid_of its_main.bytes) r → IsCopyOf r its_main.bytes
  its_copy r one named =
      let of : IsOfRecord kept b = w.backup (its_state ∙ one) in
      let l : IsLaid (image_in its_main.bytes) its_main.bytes = laid its_main.bytes its_main.formed in
      let same : of.backup ≡ r = distinct of.backup r of.kept_as.there named.there (of.kept_as.named ∙ same_guid b (files name) its_main ∙ sym named.named) in
      let image : image_in its_main.bytes ≡ r.image = sym (its_main.frozen one) ∙ of.same ∙ ap (λ (q : Kept). q.image) same in
      record { zeros = l.rest; are_zeros = l.zeros; is = l.is ∙ ap (λ (x : Image). joined (x ++ l.rest)) image }

  its_record : HoldsItsRecord kept its_main.bytes
  its_record = record {
    level = λ c r reads named. absurd (header_no_level its_main.bytes c its_form.header reads);
    copy = λ r header one whole named. its_copy r one named;
  }

  well_under : StandsUnder files kept name (IsBase b)
  well_under = record {
    same = sym (opened_entry name (files name) (files (delta_name name)) its_main.bytes b its_main.there opens);
    frozen = λ c e. subst (λ (x : Base). image_state x.image ≡ stalled_state → IsRaised x.image x.diverted) (its_base c e) (λ stalled. (w.stalled stalled).raised);
    sound = λ c e. subst (λ (x : Base). IsSoundImage x.image) (its_base c e) w.well.sound;
    stalled = λ c e. subst (λ (x : Base). image_state x.image ≡ stalled_state → (r : Kept) × IsKeptAs kept (image_guid x.image) r) (its_base c e) (λ stalled. let of : IsOfRecord kept b = w.backup stalled in (of.backup, of.kept_as));
    past = λ c e. subst (λ (x : Base). NamesItsPast kept x.image) (its_base c e) w.well.past;
    holds = λ bytes there. subst (HoldsItsRecord kept) (its_bytes bytes there) its_record;
    no_stray = λ beside. inl (b, refl);
    standby = λ bytes r there applying named.
        let three : state_of its_main.bytes ≡ applying_state = ap state_of (its_bytes bytes there) ∙ state_of_applying bytes applying in
        absurd (omega (arith, three, its_main.state));
  }

-- So the files go on to stand for an account with a well database that they hold, in whatever state.
pub stands_with_well_in : (old new : Files) (account : Account) (name : List ℕ) (b : Base)
    → Stands old account → is_delta name ≡ false → ((m : List ℕ) → m ≢ name → m ≢ delta_name name → new m ≡ old m)
    → owner name (new name) (new (delta_name name)) ≡ Ok b → IsWellBaseIn account.kept b
    → Stands new (with_entry name (IsBase b) account)
stands_with_well_in old new account name b stands plain others opens w =
    stands_with_both old new account name (IsBase b) stands plain others (well_under new account.kept name b opens w stands.kept_records.distinct)

-- So do they where a crash left them of a well trail.
pub stood_stands : (old new : Files) (account : Account) (name : List ℕ) (t : Trail)
    → Stands old account → is_delta name ≡ false → ((m : List ℕ) → m ≢ name → m ≢ delta_name name → new m ≡ old m)
    → IsWellTrail account.kept t → (s : StandsIn name t new)
    → Stands new (with_entry name (IsBase s.base) account)
stood_stands old new account name t stands plain others w s =
    stands_with_well_in old new account name s.base stands plain others s.opens (left_well account.kept t s.base w s.left)
