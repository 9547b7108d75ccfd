-- A merge from its plan on: it is begun, records are written, pages are counted, and page 0 comes last.
use Rattle.std.proofs.Common.{◌≡◌, inl, inr, ⊎_elim, ℕ, ◌+◌, ◌*◌, ◌≤◌, List, [], ◌∷◌, length, drop, refl, sym, ap, subst, ◌∙◌, arith, length-drop, Bool, true, false, Some, Ok, IsTrue}
use Rattle.nb_inplace.proofs.Common.{is_zeros, is_header, size_of, is_page_size, most_pages, size_facts, File, Files, bytes_of, with_page, World, Leaves, LeavesAll, PageLeft, Changes, Only, NoNames, Moved, Remade, rested, weaker_has, composed, kept_on, remade_on, moved_from, remade_weaker, Quiet, Page, Image, Numbered, page_at, first_page, trimmed, written_at, overwritten, joined, Link, IsOfSize, standby_page, as_standby, header-long, header-other, all-drop, Reading, still_to_come, length-written, Holds, Overwrites, IsKept, all_over-one, HasHead, head_all, IsWhole, IsHalfFile, KeepsHalf, merged_pages, IsHalfOr, IsMergedFile, KeepsMerged, begun_file, pages_with, IsPlan, first_and_rest}
use Rattle.nb_inplace.proofs.ControlLaws.{applying-long, applying-size, applying-header, standby-long}
use Rattle.nb_inplace.proofs.EndLaws.{merged_whole}
use Rattle.nb_inplace.proofs.FileLaws.{first_put, half_begun, begun_left, ended_left}
use Rattle.nb_inplace.proofs.FirstLaws.{HasFirst}
use Rattle.nb_inplace.proofs.PagesLaws.{over_first}
use Rattle.nb_inplace.specs.Most.{count_most}

-- how many pages there are with the records written over
length_over : (size : ℕ) (rs : List Numbered) (image : Image) → length (overwritten size rs image) ≡ pages_with rs (length image)
unfolding overwritten
length_over size [] image = refl
length_over size (r ∷ rs) image = length_over size rs (written_at size r image) ∙ ap (pages_with rs) (length-written size r image)

-- which page 0 the records are written over is the same
over_begun : (size : ℕ) (rs : List Numbered) (first : Page) (ps : List Page) → 1 ≤ length ps → HasFirst rs → overwritten size rs (first ∷ drop 1 ps) ≡ overwritten size rs ps
over_begun size rs first [] some has = absurd (omega (arith, some))
over_begun size rs first (p ∷ ps) some has = over_first size rs first p ps has

standby_length : (image : Image) → length (as_standby image) ≡ length image
standby_length [] = refl
standby_length (p ∷ ps) = refl

module _ (old : World) (standby : List ℕ) (size count : ℕ) (is_begun : Bool) (reader : Reading) (first : Page) (guid : List ℕ) (ps : List Page) (records : List Numbered) (is_size : IsTrue (is_page_size size))
    (plan : IsPlan old.files standby size count is_begun reader first guid ps records) where
  wide : 1024 ≤ size
  wide = (size_facts size is_size).at_least

  least : 5 ≤ length ps
  least = omega (arith, plan.whole.least, plan.whole.long)

  most : length ps ≤ most_pages
  most = omega (arith, plan.whole.most, plan.whole.long)

  page_long : 64 ≤ length (first_page ps)
  page_long = header-long (first_page ps) plan.whole.header

  its : (xs : List Page) → IsOfSize size xs → 1 ≤ length xs → length (first_page xs) ≡ size
  its [] sizes some = absurd (omega (arith, some))
  its (x ∷ xs) sizes some = sizes.0

  first_long : length first ≡ size
  first_long = ap length plan.page_0 ∙ applying-long guid (first_page ps) plan.sixteen page_long ∙ its ps plan.whole.sizes (omega (arith, least))

  -- what the file has once the merge is begun
  abbrev begun_pages : Image
  begun_pages = first ∷ drop 1 ps

  begun_is : (file : File) → file ≡ Some (joined ps) → begun_file is_begun file first ≡ Some (joined begun_pages)
  begun_is file there = by is_begun plan.begun
    where
      by : (t : Bool) → (t ≡ true → first ≡ first_page ps) → begun_file t file first ≡ Some (joined begun_pages)
      by true same = there ∙ ap (λ (x : Image). Some (joined x)) (first_and_rest ps (omega (arith, least)) ∙ ap (λ (p : Page). p ∷ drop 1 ps) (sym (same refl)))
      by false same = ap (λ (f : File). with_page f (0 * length first) first) there ∙ first_put size records (omega (arith, wide)) first ps plan.whole.sizes (omega (arith, least)) first_long

  begun_sizes : IsOfSize size begun_pages
  begun_sizes = (first_long, all-drop (λ (p : Page). length p ≡ size) 1 ps plan.whole.sizes)

  abbrev Half : File → Type 0
  Half = IsHalfFile size records ps first

  begun_half : Half (Some (joined begun_pages))
  begun_half = half_begun size records (omega (arith, wide)) ps first plan.whole.sizes least most first_long

  -- 1. The merge is begun: a crash leaves the standby as it was, or half merged.
  module _ (begun : World) (was : Leaves old standby (old.files standby)) where
    pub begun_on : Changes old begun (Only standby) (Remade old standby (PageLeft (0 * length first) first (old.files standby))) → Changes old begun (Only standby) (Remade old standby Half)
    begun_on is =
        weaker_has old begun (Only standby) (Remade old standby (PageLeft (0 * length first) first (old.files standby))) (Remade old standby Half) is
        (λ files. ⊎_elim inl (λ put. ⊎_elim (λ same. inl (subst (λ (f : File). Leaves old standby f) (sym same) was)) inr
        (begun_left size records (omega (arith, wide)) ps first (old.files standby) (files standby) plan.whole.sizes least most first_long plan.whole.there put)))

  -- 2. Records are written: it stays so.
  module _ (begun : World) (first_part : Changes old begun (Only standby) (Remade old standby Half)) (kept : IsKept begun standby (begun_file is_begun (old.files standby) first)) where
    half_there : Half (begun_file is_begun (old.files standby) first)
    half_there = subst Half (sym (begun_is (old.files standby) plan.whole.there)) begun_half

    still_half : (files : Files) → Moved begun standby (KeepsHalf size records) files → Half (files standby)
    still_half files moved = moved_from begun standby (begun_file is_begun (old.files standby) first) (KeepsHalf size records) files kept.durable moved ps first half_there

    pub records_on : (now : World) → Changes begun now (Only standby) (Moved begun standby (KeepsHalf size records)) → Changes old now (Only standby) (Remade old standby Half)
    records_on now second =
        composed old begun now (Only standby) (Remade old standby Half) (Moved begun standby (KeepsHalf size records)) (Remade old standby Half) first_part second (λ files has. has) (λ files moved. inr (still_half files moved))

    -- also as it reads
    pub reads_half : (now : World) → Changes begun now (Only standby) (Moved begun standby (KeepsHalf size records)) → ((m : List ℕ) → Leaves now m (now.files m)) → Half (now.files standby)
    reads_half now second left = still_half now.files (second.now now.files left)

    -- the level file is as it was
    pub level_there : still_to_come (bytes_of (begun.files reader.name)) reader ≡ Ok records
    level_there = ap (λ (f : File). still_to_come (bytes_of f) reader) (first_part.others_read reader.name plan.level.apart) ∙ plan.level.coming

    -- what is written over then is the image as it was
    pub records_hold : (last : Page) (now : World) → Overwrites size records (begun.files standby) (now.files standby) first last → Holds size first last (overwritten size records begun_pages) (now.files standby)
    records_hold last now over = over first begun_pages (record {
      reads = kept.reads ∙ begun_is (old.files standby) plan.whole.there;
      long = first_long;
      sizes = begun_sizes;
      some = omega arith;
      most = omega (arith, length-drop 1 ps, least, most);
      page_0 = refl;
    })

  -- 3. Pages are counted, and no file changes.
  pub counted_on : (now then : World) → Changes old now (Only standby) (Remade old standby Half) → Quiet now then → Changes old then (Only standby) (Remade old standby Half)
  counted_on now then so_far quiet = kept_on old now then (Only standby) (Remade old standby Half) so_far (rested now then NoNames (LeavesAll now) quiet.still quiet.said quiet.moments (λ files left. left))

  abbrev merged_over : Image
  merged_over = overwritten size records begun_pages

  headed : HasHead size 5 merged_over
  headed =
      let link : Link = record { guid = []; scn = 0; size = size; pages = records } in
      let start : HasHead size 5 begun_pages = record {
        header = ap is_header plan.page_0 ∙ applying-header guid (first_page ps) plan.sixteen plan.whole.header;
        same = ap size_of plan.page_0 ∙ applying-size guid (first_page ps) plan.sixteen page_long ∙ plan.whole.same;
        some = omega arith;
        long = omega (arith, length-drop 1 ps, least);
      } in
      subst (λ (x : Image). HasHead size 5 x) (all_over-one link begun_pages) (head_all size 5 (link ∷ []) begun_pages (plan.level.headed, tt) start)

  -- so many pages there are, the first of which isn't all zeros
  pub pages_over : (pages : ℕ) → pages ≡ pages_with records count → length merged_over ≡ pages
  pages_over pages is = length_over size records begun_pages ∙ ap (pages_with records) (let e : length begun_pages ≡ count = omega (arith, length-drop 1 ps, least, plan.whole.long) in e) ∙ sym is

  pub some_over : (pages : ℕ) → length merged_over ≡ pages → 1 ≤ pages
  some_over pages is = omega (arith, headed.long, is)

  pub first_over : is_zeros (page_at merged_over 0) ≡ false
  first_over = header-other (first_page merged_over) headed.header

  abbrev merged_image : Image
  merged_image = merged_pages size records ps

  over_is : merged_over ≡ overwritten size records ps
  over_is = over_begun size records first ps (omega (arith, least)) plan.level.first

  pub count_is : (pages : ℕ) → pages ≡ length (trimmed merged_over) → pages ≡ length merged_image
  count_is pages is = is ∙ sym (standby_length (trimmed merged_over)) ∙ ap (λ (x : Image). length (as_standby (trimmed x))) over_is

  -- 4. Page 0 comes last: a crash leaves the standby half merged, or merged.
  module _ (now : World) (so_far : Changes old now (Only standby) (Remade old standby Half)) (reads : Half (now.files standby)) (was : Leaves now standby (now.files standby)) (noted : Page) (holds : Holds size first noted merged_over (now.files standby))
      (last : Page) (last_is : last ≡ standby_page noted) where
    last_long : length last ≡ size
    last_long = ap length last_is ∙ standby-long noted (omega (arith, noted_long, wide)) ∙ noted_long
      where
        noted_long : length noted ≡ size
        noted_long = ap length holds.page_0 ∙ its merged_over holds.sizes holds.some

    whole : IsMergedFile size records ps (with_page (now.files standby) (0 * length last) last)
    whole = subst (λ (i : Image). IsWhole as_standby i (with_page (now.files standby) (0 * length last) last)) over_is (merged_whole size first noted merged_over (now.files standby) is_size holds headed last last_is)

    pub ended_on : (new : World) → Changes now new (Only standby) (Remade now standby (PageLeft (0 * length last) last (now.files standby))) → Changes old new (Only standby) (Remade old standby (IsHalfOr size records ps first))
    ended_on new more =
        remade_on old now new (Only standby) (Remade old standby Half) (Remade old standby (IsHalfOr size records ps first)) standby (PageLeft (0 * length last) last (now.files standby)) (now.files standby) so_far more refl was
        (λ files. ⊎_elim inl (λ half. inr (inl half)))
        (λ before files left has is put others. inr (⊎_elim inl (λ done. inr (subst (λ (f : File). IsMergedFile size records ps f) (sym done) whole))
        (ended_left size records (omega (arith, wide)) ps first last (now.files standby) (files standby) reads last_long put)))

    pub ended_kept : (new : World) (pages : ℕ) → pages ≡ length (trimmed merged_over) → IsKept new standby (with_page (now.files standby) (0 * length last) last) → KeepsMerged new standby size records ps pages
    ended_kept new pages is kept = (record { file = with_page (now.files standby) (0 * length last) last; kept = kept; is = whole }, count_is pages is)

  -- All but page 0 is written, and the pages are counted: then a crash leaves the standby half merged, and it holds the image but page 0.
  pub record IsWritten (then : World) (noted : Page) (pages : ℕ) : Type 0 where
    pub left : Changes old then (Only standby) (Remade old standby Half)
    pub reads : Half (then.files standby)
    pub holds : Holds size first noted merged_over (then.files standby)
    pub counted : pages ≡ length (trimmed merged_over)

  pub written : (begun now then : World) → Changes old begun (Only standby) (Remade old standby Half) → IsKept begun standby (begun_file is_begun (old.files standby) first) → Changes begun now (Only standby) (Moved begun standby (KeepsHalf size records))
      → ((m : List ℕ) → Leaves now m (now.files m)) → (noted : Page) → Overwrites size records (begun.files standby) (now.files standby) first noted → Quiet now then → (all pages long : ℕ) → all ≡ pages_with records count → long ≡ size
      → ((start : Page) (image : Image) → now.files standby ≡ Some (joined (start ∷ drop 1 image)) → IsOfSize long (start ∷ drop 1 image) → length image ≡ all → 1 ≤ all → is_zeros (page_at image 0) ≡ false → pages ≡ length (trimmed image))
      → IsWritten then noted pages
  written begun now then first_part kept moved left noted over quiet all pages same_size all_is size_is counted =
      let holds : Holds size first noted merged_over (now.files standby) = records_hold begun first_part kept noted now over in
      let same : now.files standby ≡ then.files standby = ap (λ (f : Files). f standby) (sym quiet.still.files) in
      let long : length merged_over ≡ all = pages_over all all_is in
      record {
        left = counted_on now then (records_on begun first_part kept now moved) quiet;
        reads = subst Half same (reads_half begun first_part kept now moved left);
        holds = subst (Holds size first noted merged_over) same holds;
        counted = counted first merged_over holds.reads (subst (λ k. IsOfSize k (first ∷ drop 1 merged_over)) (sym size_is) (first_long, all-drop (λ (p : Page). length p ≡ size) 1 merged_over holds.sizes)) long (some_over all long) first_over;
      }

  -- what the count reads
  pub counted_within : (begun now : World) → Changes old begun (Only standby) (Remade old standby Half) → IsKept begun standby (begun_file is_begun (old.files standby) first) → (noted : Page) → Overwrites size records (begun.files standby) (now.files standby) first noted
      → (all long before after : ℕ) → all ≡ pages_with records count → long ≡ size → ((start : Page) (image : Image) → now.files standby ≡ Some (joined (start ∷ drop 1 image)) → IsOfSize long (start ∷ drop 1 image) → length image ≡ all → after ≤ before + count_most image)
      → after ≤ before + count_most (overwritten size records ps)
  counted_within begun now first_part kept noted over all long before after all_is size_is counted =
      let holds : Holds size first noted merged_over (now.files standby) = records_hold begun first_part kept noted now over in
      subst (λ (x : Image). after ≤ before + count_most x) over_is
      (counted first merged_over holds.reads (subst (λ k. IsOfSize k (first ∷ drop 1 merged_over)) (sym size_is) (first_long, all-drop (λ (p : Page). length p ≡ size) 1 merged_over holds.sizes)) (pages_over all all_is))

  -- less is said while it isn't ended
  pub part_left : (now : World) → Changes old now (Only standby) (Remade old standby Half) → Changes old now (Only standby) (Remade old standby (IsHalfOr size records ps first))
  part_left now so_far = remade_weaker old now (Only standby) standby Half (IsHalfOr size records ps first) so_far (λ c half. inl half)
