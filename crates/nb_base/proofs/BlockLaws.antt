-- The control block of a main file is written: what a crash leaves, and what stands after.
use Rattle.std.proofs.Common.{◌≡◌, ◌⊎◌, inl, inr, ⊎_elim, ℕ, zero, suc, ◌+◌, ◌*◌, ◌<◌, ◌≤◌, List, [], ◌∷◌, ◌++◌, length, take, drop, refl, sym, ap, subst, ◌∙◌, arith, mul-le-mul_right, Bool, true, false, IsTrue, Option, Result, OnOk}
use Rattle.nb_base.proofs.Common.{leb_tells, get_or_append_left, on_ok_weaker, is_header, size_of, scn_of, guid_of, stalled_state, File, Files, bytes_of, with_file, World, PageLeft, IsStill, WritesPage, Syncs, ReadsPage, IsTimely, Passes, Changes, Only, left_before, with_file-same, page_more, still_alone, durable_is, Page, Image, first_page, image_size, image_scn, image_guid, written_at, controlled, with_control, header-long, header-other, header-scn, length-joined, page-joined, IsLaid, laid, some_page, control_length, control_size, next_scn, next_guid, in_state, HasRoom, HasImage, IsImageOf, ControlLeft}
use Rattle.nb_host.specs.Files.{with_page as with_page_at}
use Rattle.nb_base.proofs.ControlLaws.{controlled-header}
use Rattle.nb_base.proofs.WrittenLaws.{HasMain, MayWrite, main_put, main_written, laid_formed, laid_image, main_sizes}

-- a file that holds an image is laid so
pub to_main : (image : Image) (m : File) → HasImage image m → HasMain image m
to_main image m h = record { bytes = h.bytes; there = h.there; laid = subst (λ (x : Image). IsLaid x h.bytes) h.is (laid h.bytes h.formed) }

pub of_main : (image : Image) (m : File) → HasMain image m → HasImage image m
of_main image m h = record { bytes = h.bytes; there = h.there; formed = laid_formed image h.bytes h.laid; is = laid_image image h.bytes h.laid }

-- page 0 of its file
module _ (image : Image) (m : File) (h : HasImage image m) where
  laid_as : IsLaid image h.bytes
  laid_as = subst (λ (x : Image). IsLaid x h.bytes) h.is (laid h.bytes h.formed)

  all_long : length h.bytes ≡ length (image ++ laid_as.rest) * image_size image
  all_long = ap length laid_as.is ∙ length-joined (image_size image) (image ++ laid_as.rest) laid_as.sizes

  some : 1 ≤ length image
  some = some_page image laid_as.header

  pub first_read : (before after : List ℕ) (whole : Bool) → image_size image ≡ length before → ReadsPage m (0 * length before) before after whole → after ≡ first_page image
  first_read before after whole sized reads = by whole reads
    where
      most : 1 * image_size image ≤ length (image ++ laid_as.rest) * image_size image
      most = mul-le-mul_right (image_size image) (omega (arith, laid_as.least))

      by : (t : Bool) → ReadsPage m (0 * length before) before after t → after ≡ first_page image
      by true r =
          r.1 ∙ ap (λ (f : File). take (length before) (drop (0 * length before) (bytes_of f))) h.there
          ∙ ap (λ n. take n (drop (0 * n) h.bytes)) (sym sized) ∙ ap (λ (x : List ℕ). take (image_size image) (drop (0 * image_size image) x)) laid_as.is
          ∙ page-joined (image_size image) 0 (image ++ laid_as.rest) laid_as.sizes (omega (arith, laid_as.least)) ∙ get_or_append_left image laid_as.rest [] 0 some
      by false r = absurd (omega (arith, r.0, ap (λ (f : File). length (bytes_of f)) h.there, all_long, most, sized))

-- Page 0 of an image gets another control block.
module _ (image : Image) (m : File) (h : HasImage image m) (state : ℕ) (guid : Option (List ℕ)) (low : state ≤ 3) (sixteen : length (next_guid guid (image_guid image)) ≡ 16) (room : HasRoom state (image_scn image))
    (scn_below : image_scn image < 4294967296) (page : Page) (is : page ≡ controlled state (next_scn state (image_scn image)) (next_guid guid (image_guid image)) (first_page image)) where
  abbrev after : Image
  after = in_state state guid image

  header : is_header (first_page image) ≡ true
  header = (laid_as image m h).header

  long : 64 ≤ length (first_page image)
  long = header-long (first_page image) header

  scn_some : 1 ≤ image_scn image
  scn_some = header-scn (first_page image) header

  next_fits : (s : ℕ) → state ≡ s → (1 ≤ next_scn s (image_scn image)) × (next_scn s (image_scn image) < 4294967296)
  next_fits zero e = (scn_some, scn_below)
  next_fits (suc k) e = let top = room.other (omega (arith, e)) in (omega (arith, scn_some), omega (arith, top))

  next_room : state ≡ stalled_state → next_scn state (image_scn image) < 4294967295
  next_room e = let top = room.stalled e in ap_lt (next_stalled state e) (omega (arith, top))
    where
      next_stalled : (s : ℕ) → s ≡ 1 → next_scn s (image_scn image) ≡ image_scn image + 1
      next_stalled zero e = absurd (omega (arith, e))
      next_stalled (suc k) e = refl

      ap_lt : {a b : ℕ} → a ≡ b → b < 4294967295 → a < 4294967295
      ap_lt e h = omega (arith, e, h)

  may : MayWrite 0 page image
  may =
      let fits = next_fits state refl in
      let formed : is_header page ≡ true = ap is_header is ∙ controlled-header state _ _ sixteen (first_page image) long header low fits.0 fits.1 next_room in
      record {
        below = omega arith;
        long = ap length is ∙ control_length state _ _ (first_page image) long sixteen ∙ main_sizes image h.bytes (laid_as image m h) 0 (some image m h);
        other = header-other page formed;
        header = λ e. formed;
        size = λ e. ap size_of is ∙ control_size state _ _ (first_page image) long sixteen;
      }

  set_first : (x : Image) → 1 ≤ length x → written_at (image_size image) (0, page) x ≡ page ∷ drop 1 x
  unfolding written_at
  set_first [] few = absurd (omega (arith, few))
  set_first (q ∷ qs) few = elim (leb_tells 1 (length (q ∷ qs))) [
    | inl w ↦ rw (w.0, written_at) refl
    | inr w ↦ absurd (omega (arith, w.1))
  ]

  control_first : (x : Image) → 1 ≤ length x → with_control state (next_scn state (image_scn image)) (next_guid guid (image_guid image)) x
      ≡ controlled state (next_scn state (image_scn image)) (next_guid guid (image_guid image)) (first_page x) ∷ drop 1 x
  unfolding with_control
  control_first [] few = absurd (omega (arith, few))
  control_first (q ∷ qs) few = refl

  written : written_at (image_size image) (0, page) image ≡ after
  written = set_first image (some image m h) ∙ ap (λ (x : Page). x ∷ drop 1 image) is ∙ sym (control_first image (some image m h))

  -- the page written whole, and what a crash leaves of it
  pub block_put : (c : File) → c ≡ with_page_at m (0 * length page) page → HasImage (in_state state guid image) c
  block_put c put = of_main after c (subst (λ (x : Image). HasMain x c) written (main_put image m c 0 page (to_main image m h) may put))

  pub block_left : (c : File) → PageLeft (0 * length page) page m c → HasImage image c ⊎ HasImage (in_state state guid image) c
  block_left c left = ⊎_elim (λ was. inl (of_main image c was)) (λ put. inr (of_main after c (subst (λ (x : Image). HasMain x c) written put))) (main_written image m c 0 page (to_main image m h) may left)

-- The calls, one by one. Whatever a crash leaves of the file has this image.
module _ (name : List ℕ) (image : Image) (state : ℕ) (guid : Option (List ℕ)) where
  abbrev P : Files → Type 0
  P = ControlLeft name image (in_state state guid image)

  -- the page was read, also where that failed
  pub block_begun : (old new : World) → IsTimely old → IsStill old new → new.said ≡ old.said → Passes old new → IsImageOf old name image → Changes old new (Only name) P
  block_begun old new timely still silent time is = still_alone old new (Only name) P timely still silent time (λ files left. inl (is.left (files name) (left name)))

  pub image_still : (old new : World) → IsStill old new → IsImageOf old name image → IsImageOf new name image
  image_still old new still is = record {
    left = λ m left. is.left m (left_before old new _ still.left name m tt left);
    reads = subst (λ (f : Files). HasImage image (f name)) (sym still.files) is.reads;
  }

  module _ (low : state ≤ 3) (sixteen : length (next_guid guid (image_guid image)) ≡ 16) (room : HasRoom state (image_scn image)) (scn_below : image_scn image < 4294967296)
      (page : Page) (is : page ≡ controlled state (next_scn state (image_scn image)) (next_guid guid (image_guid image)) (first_page image)) where
    -- page 0 was written, also where that failed
    pub block_more : {T E : Type 0} (tells : Bool) (result : Result T E) (old mid new : World) → IsTrue tells → Changes old mid (Only name) P → IsImageOf mid name image
        → WritesPage tells result mid new name (0 * length page) page → new.said ≡ mid.said → Passes mid new → Changes old new (Only name) P
    block_more tells result old mid new told so_far here writes silent time =
        page_more tells result old mid new (Only name) P P name (0 * length page) page told so_far refl writes silent time (λ files p. p)
        (λ before files left p next others. block_left image (before name) (here.left (before name) (left name)) state guid low sixteen room scn_below page is (files name) next)

    -- and was kept for good
    pub block_done : {T E : Type 0} (tells : Bool) (result : Result T E) (mid written new : World) → IsTrue tells → IsImageOf mid name image
        → written.files ≡ with_file mid.files name (with_page_at (mid.files name) (0 * length page) page) → Syncs tells result written new name → OnOk result (IsImageOf new name (in_state state guid image))
    block_done tells result mid written new told here put syncs = on_ok_weaker result
        (λ durable. record {
          left = λ m left. subst (λ (x : File). HasImage (in_state state guid image) x) (sym (durable_is new name (written.files name) durable m left)) stands;
          reads = subst (λ (f : Files). HasImage (in_state state guid image) (f name)) (sym syncs.still.files) stands;
        })
        (syncs.durable told)
      where
        stands : HasImage (in_state state guid image) (written.files name)
        stands = block_put image (mid.files name) here.reads state guid low sixteen room scn_below page is (written.files name) (ap (λ (f : Files). f name) put ∙ with_file-same mid.files name _)

-- What was read of page 0, and what it becomes.
pub record Sets (image : Image) (state : ℕ) (guid : Option (List ℕ)) (page : Page) : Type 0 where
  pub sixteen : length (next_guid guid (image_guid image)) ≡ 16
  pub fits : image_scn image < 4294967296
  pub is : page ≡ controlled state (next_scn state (image_scn image)) (next_guid guid (image_guid image)) (first_page image)

pub sets_block : (image : Image) (m : File) (state : ℕ) (guid : Option (List ℕ)) (before read after : Page) (whole : Bool) → HasImage image m → image_size image ≡ length before → ReadsPage m (0 * length before) before read whole
    → HasRoom state (image_scn image) → length (next_guid guid (guid_of read)) ≡ 16 → scn_of read < 4294967296
    → (HasRoom state (scn_of read) → after ≡ controlled state (next_scn state (scn_of read)) (next_guid guid (guid_of read)) read) → Sets image state guid after
sets_block image m state guid before read after whole h sized reads room sixteen fits set =
    let first : read ≡ first_page image = first_read image m h before read whole sized reads in
    record {
      sixteen = ap (λ (x : Page). length (next_guid guid (guid_of x))) (sym first) ∙ sixteen;
      fits = subst (λ (x : Page). scn_of x < 4294967296) first fits;
      is = subst (λ (x : Page). after ≡ controlled state (next_scn state (scn_of x)) (next_guid guid (guid_of x)) x) first (set (subst (λ (x : Page). HasRoom state (scn_of x)) (sym first) room));
    }
