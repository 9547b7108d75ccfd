-- What a merge changes and leaves, from the tests on.
use Rattle.std.proofs.Common.{◌/◌, take, ◌≡◌, ◌≢◌, ◌⊎◌, inl, inr, ⊎_elim, ℕ, mul-le-mul_left, ◌+◌, ◌*◌, ◌<◌, ◌≤◌, List, [], ◌∷◌, ◌++◌, length, refl, sym, ap, subst, ◌∙◌, arith, true, Some, None, Result, Ok, Err, Contains}
use Rattle.nb_inplace.proofs.Common.{mul-div_cancel, eqb-true, take-append-le, is_header, state_of, size_of, size_facts, File, Files, bytes_of, World, Leaves, LeavesAll, IsDurable, Fault, Refused, Device, Memory, Refusal, Changes, Only, NoNames, Remade, GaveNothing, rested, kept_then, nothing_joined, header_in, Header, Quiet, Page, Image, Numbered, first_page, image_size, cut, image_in, trimmed, overwritten, in_place, Head, Contents, joined, read_level, HoldsMain, delta_name, main_page, IsOfSize, as_standby, merged, formed, no_cause, header-long, header-other, same-header, same-number, trimmed-append_zeros, trimmed-other, cut-joined, length-joined, IsLaid, laid, image_in-is, owner_main, header_no_level, trimmed_alike, trimmed_page, Reading, still_to_come, level-headed, Standby, IsFitFor, AcceptSays, pages_of, IsHalfIn, IsMergedTo, ApplyLeft, ApplyAnswers, Applies, applying_page, IsBetween, IsHalf, IsTaken, IsHalfFile, merged_pages, IsHalfOr, IsMergedFile, KeepsMerged, IsPlan, ReadySays, IsWholeStandby, stamp_cause, IsMergeable, level_pages, some_same, err_not_ok}
use Rattle.nb_change.proofs.MomentLaws.{left_before}
use Rattle.nb_change.proofs.SettledLaws.{durable_is}
use Rattle.nb_restore.specs.Sources.{AreHeaded}
use Rattle.nb_inplace.proofs.AcceptLaws.{head_clears}
use Rattle.nb_inplace.proofs.ControlLaws.{applying-size, applying-header}
use Rattle.nb_inplace.proofs.FirstLaws.{level_first}
use Rattle.nb_inplace.proofs.HalfLaws.{front_size, itself_half}
use Rattle.nb_inplace.proofs.PagesLaws.{over_alike}
use Rattle.nb_inplace.proofs.StampLaws.{since_image}
use Rattle.nb_inplace.proofs.VerdictLaws.{answered, verdict_by}
use Rattle.nb_chain.specs.Most.{RefusedReads}
use Rattle.nb_inplace.proofs.MostLaws.{taken_refuses}
use Rattle.nb_inplace.specs.Most.{accepted_most, apply_most, merge_most, refused_most}

-- 1. Nothing was changed.
module _ (old new : World) (standby name : List ℕ) (quiet : Quiet old new) where
  kept_so : (result : Result ℕ Fault) → ApplyAnswers result old new standby name → Applies result old new standby name
  kept_so result answer = record {
    answer = answer;
    left = rested old new (Only standby) (ApplyLeft (Leaves old standby) old standby name) quiet.still quiet.said quiet.moments (λ files left. inl (left standby));
    reads = inl (ap (λ (f : Files). f standby) quiet.still.files);
    gave = record { guids = quiet.guids; times = quiet.times };
    refused = λ refusal is. quiet;
  }

  pub apply_memory : Applies (Err Memory) old new standby name
  apply_memory = kept_so (Err Memory) quiet

  pub apply_refused : (fault : Fault) → AcceptSays old.files standby name (Err fault) → Applies (Err fault) old new standby name
  apply_refused (Refused refusal) says = kept_so (Err (Refused refusal)) (quiet, says)
  apply_refused Device says = kept_so (Err Device) tt
  apply_refused Memory says = kept_so (Err Memory) quiet

-- 2. The standby and the file are fit for each other, but for the stamps.
module _ (old : World) (standby name : List ℕ) (s : Standby) (reader : Reading) (fit : IsFitFor old.files standby name s reader) where
  abbrev files : Files
  files = old.files

  abbrev pub c : Contents
  c = fit.contents

  abbrev pub image : Image
  image = image_in fit.bytes

  abbrev pub size : ℕ
  size = s.header.page_size

  pub is_laid : IsLaid image fit.bytes
  is_laid = laid fit.bytes fit.formed

  -- the pages of the standby's file
  abbrev pub pages : List Page
  pages = image ++ is_laid.rest

  size_is : size_of fit.bytes ≡ size
  unfolding header_in
  size_is = sym (ap (λ (h : Header). h.page_size) fit.is.header)

  image_sized : image_size image ≡ size
  image_sized = front_size fit.bytes fit.formed ∙ size_is

  pub sizes : IsOfSize size pages
  sizes = subst (λ n. IsOfSize n pages) image_sized is_laid.sizes

  wide : 0 < size
  wide = let w = (size_facts (image_size image) is_laid.size).at_least in omega (arith, w, image_sized)

  pub there : files standby ≡ Some (joined pages)
  there = fit.there ∙ ap Some is_laid.is

  pub long : length pages ≡ s.pages
  long =
      let all : length pages * size ≡ s.pages * size = sym (length-joined size pages sizes) ∙ sym (ap length is_laid.is) ∙ fit.is.pages in
      sym (mul-div_cancel (length pages) wide) ∙ ap (λ (n : ℕ). n / size) all ∙ mul-div_cancel s.pages wide

  first_is : first_page pages ≡ first_page image
  first_is = by image is_laid.header
    where
      by : (xs : Image) → is_header (first_page xs) ≡ true → first_page (xs ++ is_laid.rest) ≡ first_page xs
      by [] header = absurd (omega (arith, header-long [] header))
      by (x ∷ xs) header = refl

  image_is : trimmed pages ≡ image
  image_is = trimmed-append_zeros image is_laid.rest is_laid.zeros ∙ is_laid.whole

  -- each page of the file is seen in the image
  seen : (p : ℕ) → main_page size image p ≡ main_page size pages p
  seen p = ap (λ (x : Image). main_page size x p) (sym image_is) ∙ trimmed_page size pages sizes p

  -- the verdict is that of the stamps
  verdict_is : in_place files standby name ≡ answered c (stamp_cause s name c.head.previous_scn pages)
  verdict_is =
      verdict_by files standby name fit.bytes fit.level.bytes c fit.there fit.stands fit.level.there fit.level.read
      ∙ ap (answered c) (head_clears name c fit.bytes s fit.is pages (since_image name c.head.previous_scn fit.bytes pages fit.formed is_laid.is (subst (λ n. IsOfSize n pages) (front_size fit.bytes fit.formed) is_laid.sizes)) fit.clear)

  mergeable : stamp_cause s name c.head.previous_scn pages ≡ None → IsMergeable files standby name fit.bytes c
  mergeable none = record { there = fit.there; accepted = verdict_is ∙ ap (answered c) none }

  stamps_refuse : (r : Refusal) → stamp_cause s name c.head.previous_scn pages ≡ Some r → in_place files standby name ≡ Err r
  stamps_refuse r some = verdict_is ∙ ap (answered c) some

  scn_is : reader.head.previous_scn ≡ c.head.previous_scn
  scn_is = ap (λ (h : Head). h.previous_scn) fit.level.head

  -- The standby wasn't made ready.
  pub ready_fails : (page first : Page) (fault : Fault) → ReadySays (stamp_cause s name reader.head.previous_scn pages) page first (Err fault) → AcceptSays files standby name (Err fault)
  ready_fails page first (Refused refusal) says = stamps_refuse refusal (ap (λ (n : ℕ). stamp_cause s name n pages) (sym scn_is) ∙ says)
  ready_fails page first Device says = tt
  ready_fails page first Memory says = absurd says

  -- 3. It is ready: page 0 was read, as it stands while the merge goes on.
  module _ (whole : IsWholeStandby s) (same_size : reader.head.page_size ≡ size) (first : Page) (done : Unit) (ready : ReadySays (stamp_cause s name reader.head.previous_scn pages) (applying_page reader.head.guid (first_page pages)) first (Ok done)) where
    m : IsMergeable files standby name fit.bytes c
    m = mergeable (ap (λ (n : ℕ). stamp_cause s name n pages) (sym scn_is) ∙ ready.0)

    guid_is : reader.head.guid ≡ c.head.guid
    guid_is = ap (λ (h : Head). h.guid) fit.level.head

    head_size : c.head.size ≡ size
    head_size = sym (ap (λ (h : Head). h.size) fit.level.head) ∙ same_size

    sixteen : length c.head.guid ≡ 16
    sixteen = (level_pages fit.level.bytes c fit.level.read).guid

    page_0 : first ≡ applying_page c.head.guid (first_page pages)
    page_0 = ready.1 ∙ ap (λ (g : List ℕ). applying_page g (first_page pages)) guid_is

    apart : reader.name ≢ standby
    apart same = header_no_level fit.bytes c (formed fit.bytes fit.formed).header (ap read_level bytes_same ∙ fit.level.read)
      where
        bytes_same : fit.bytes ≡ fit.level.bytes
        bytes_same = some_same fit.bytes fit.level.bytes (sym fit.there ∙ ap files (sym same ∙ fit.level.named) ∙ fit.level.there)

    pub plan : IsPlan files standby size s.pages s.is_begun reader first c.head.guid pages c.pages
    plan = record {
      whole = record {
        there = there;
        long = long;
        sizes = sizes;
        least = whole.least;
        most = whole.most;
        header = ap is_header first_is ∙ is_laid.header;
        same = ap size_of first_is ∙ image_sized;
      };
      level = record {
        apart = apart;
        coming = ap (λ (f : File). still_to_come (bytes_of f) reader) (ap files fit.level.named ∙ fit.level.there) ∙ fit.level.coming;
        headed = subst (λ n. AreHeaded n c.pages) head_size (level-headed fit.level.bytes c fit.level.read);
        first = level_first fit.level.bytes c fit.level.read;
      };
      sixteen = sixteen;
      page_0 = page_0;
      begun = λ is. page_0 ∙ ap (applying_page c.head.guid) first_is ∙ sym (itself_half files standby name fit.bytes c m (eqb-true (state_of fit.bytes) 3 (sym fit.is.begun ∙ is))).first ∙ sym first_is;
    }

    page_long : 64 ≤ length (first_page pages)
    page_long = header-long (first_page pages) (ap is_header first_is ∙ is_laid.header)

    first_header : is_header first ≡ true
    first_header = ap is_header page_0 ∙ applying-header c.head.guid (first_page pages) sixteen (ap is_header first_is ∙ is_laid.header)

    first_size : size_of first ≡ size
    first_size = ap size_of page_0 ∙ applying-size c.head.guid (first_page pages) sixteen page_long ∙ ap size_of first_is ∙ image_sized

    -- A file that is half merged,
    module _ (file : File) (h : IsHalfFile size c.pages pages first file) where
      abbrev all : List Page
      all = first ∷ h.pages

      abbrev half : List ℕ
      half = joined all

      front : take 64 half ≡ take 64 first
      front = take-append-le 64 first (joined h.pages) (header-long first first_header)

      half_size : size_of half ≡ size
      half_size = same-number half first front 24 4 (omega arith) ∙ first_size

      half_image : image_in half ≡ trimmed all
      half_image = image_in-is half size all half_size refl h.sizes wide

      half_seen : (p : ℕ) → main_page size (image_in half) p ≡ main_page size all p
      half_seen p = ap (λ (x : Image). main_page size x p) half_image ∙ trimmed_page size all h.sizes p

      between : (p : ℕ) → (main_page size all p ≡ main_page size pages p) ⊎ Contains c.pages (p, main_page size all p) → (main_page size (image_in half) p ≡ main_page size image p) ⊎ Contains c.pages (p, main_page size (image_in half) p)
      between p (inl was) = inl (half_seen p ∙ was ∙ sym (seen p))
      between p (inr one) = inr (subst (λ (x : Page). Contains c.pages (p, x)) (sym (half_seen p)) one)

      is_half : IsHalf fit.bytes c half
      is_half = record {
        formed = no_cause half size (length all) (same-header half first front ∙ first_header) half_size wide (length-joined size all h.sizes) h.least h.most;
        first = ap first_page half_image ∙ ap first_page (trimmed-other first h.pages (header-other first first_header)) ∙ page_0 ∙ ap (applying_page c.head.guid) first_is;
        pages = subst (λ n. IsBetween n c.pages image (image_in half)) (sym size_is) (λ p from. between p (h.between p from));
      }

    -- or merged
    gives : merged c.pages image ≡ merged_pages size c.pages pages
    unfolding merged
    gives =
        ap (λ (n : ℕ). as_standby (trimmed (overwritten n c.pages image))) image_sized
        ∙ ap as_standby (trimmed_alike size (overwritten size c.pages image) (overwritten size c.pages pages) (λ p. over_alike size c.pages pages image p (inl (seen p))))

    -- the pages of the standby's file
    file_pages : pages_of fit.bytes ≡ pages
    file_pages =
        let count : length fit.bytes ≡ length pages * size = ap length is_laid.is ∙ length-joined size pages sizes in
        let low : length pages ≤ length fit.bytes = omega (arith, count, (let one : length pages * 1 ≤ length pages * size = mul-le-mul_left (length pages) wide in one)) in
        ap (λ (n : ℕ). cut n (length fit.bytes) fit.bytes) size_is ∙ ap (cut size (length fit.bytes)) is_laid.is ∙ cut-joined size (length fit.bytes) pages sizes wide low

    merged_to : (now : Files) → IsMergedFile size c.pages pages (now standby) → IsMergedTo standby fit.bytes c now
    merged_to now is = record {
      exact = is.exact ∙ ap (λ (ps : List Page). Some (joined (as_standby (overwritten size c.pages ps)))) (sym file_pages) ∙ ap (λ (n : ℕ). Some (joined (as_standby (overwritten n c.pages (pages_of fit.bytes))))) (sym size_is);
      shows = owner_main standby (merged c.pages image) (now standby) (now (delta_name standby)) (subst (λ (i : Image). HoldsMain i (now standby)) (sym gives) is.holds);
    }

    part_in : (now : Files) → IsHalfOr size c.pages pages first (now standby) → IsHalfIn standby fit.bytes c now ⊎ IsMergedTo standby fit.bytes c now
    part_in now (inl h) = inl (record { half = half (now standby) h; there = h.reads; is = is_half (now standby) h })
    part_in now (inr is) = inr (merged_to now is)

    -- 4. From then on the merge goes.
    module _ (mid new : World) (quiet : Quiet old mid) where
      plan_then : IsPlan mid.files standby size s.pages s.is_begun reader first c.head.guid pages c.pages
      plan_then = subst (λ (f : Files). IsPlan f standby size s.pages s.is_begun reader first c.head.guid pages c.pages) (sym quiet.still.files) plan

      left_all : Changes mid new (Only standby) (Remade mid standby (IsHalfOr size c.pages pages first)) → Changes old new (Only standby) (ApplyLeft (Leaves old standby) old standby name)
      left_all second =
          kept_then old mid new (Only standby) (Remade mid standby (IsHalfOr size c.pages pages first)) (ApplyLeft (Leaves old standby) old standby name)
          (rested old mid NoNames (LeavesAll old) quiet.still quiet.said quiet.moments (λ now left. left)) second (λ now left. inl (left standby))
          (λ now. ⊎_elim (λ was. inl (left_before old mid _ quiet.still.left standby (now standby) tt was)) (λ part. inr (fit.bytes, c, m, part_in now part)))

      -- how it goes, from a standby that is kept for good as it stands
      record Goes : Type 0 where
        durable : IsDurable mid standby (mid.files standby)
        left : Changes mid new (Only standby) (Remade mid standby (IsHalfOr size c.pages pages first))
        stays : (m : List ℕ) → Leaves new m (new.files m)

      -- what reads is what a crash may leave, and before there was one of that
      reads_all : Goes → ApplyLeft (λ file. file ≡ files standby) old standby name new.files
      reads_all goes =
          ⊎_elim (λ was. inl (durable_is mid standby (mid.files standby) goes.durable (new.files standby) was ∙ ap (λ (f : Files). f standby) quiet.still.files)) (λ part. inr (fit.bytes, c, m, part_in new.files part))
          (goes.left.now new.files goes.stays)

      applies : (result : Result ℕ Fault) → ApplyAnswers result old new standby name → Goes → GaveNothing mid new → Applies result old new standby name
      applies result answer left gave = record {
        answer = answer;
        left = left_all left.left;
        reads = reads_all left;
        gave = nothing_joined old mid new (record { guids = quiet.guids; times = quiet.times }) gave;
        refused = λ refusal is. absurd (err_not_ok refusal c (in_place files standby name) is m.accepted);
      }

      -- The device failed,
      fails : (P : ℕ → Type 0) (fault : Fault) → IsTaken (Err fault) P → Goes → GaveNothing mid new → Applies (Err fault) old new standby name
      fails P (Refused refusal) says left gave = absurd says
      fails P Device says left gave = applies (Err Device) tt left gave
      fails P Memory says left gave = absurd says

      -- or the standby is merged, and kept for good.
      kept : (count : ℕ) → KeepsMerged new standby size c.pages pages count → Goes → GaveNothing mid new → Applies (Ok count) old new standby name
      kept count keeps left gave =
          applies (Ok count) (record {
            bytes = fit.bytes;
            contents = c;
            mergeable = m;
            counted = keeps.1 ∙ sym (ap length gives);
            left = λ now leaves. merged_to now (subst (λ (f : File). IsMergedFile size c.pages pages f) (sym (durable_is new standby keeps.0.file keeps.0.kept.durable (now standby) (leaves standby))) keeps.0.is);
            now = merged_to new.files (subst (λ (f : File). IsMergedFile size c.pages pages f) (sym keeps.0.kept.reads) keeps.0.is);
          }) left gave

      answers : (result : Result ℕ Fault) → IsTaken result (KeepsMerged new standby size c.pages pages) → Goes → GaveNothing mid new → Applies result old new standby name
      answers (Ok count) keeps left gave = kept count keeps left gave
      answers (Err fault) says left gave = fails (KeepsMerged new standby size c.pages pages) fault says left gave

      -- what holds of it by every plan, in pages of that size
      abbrev ByPlan : (size : ℕ) → ((records : List Numbered) (ps : List Page) → Type 0) → Type 0
      ByPlan n P = (guid : List ℕ) (ps : List Page) (records : List Numbered) → IsPlan mid.files standby n s.pages s.is_begun reader first guid ps records → IsDurable mid standby (mid.files standby) → P records ps

      pub apply_done : (n : ℕ) → size ≡ n → IsDurable mid standby (mid.files standby) → ((m : List ℕ) → Leaves new m (new.files m)) → (result : Result ℕ Fault) → ByPlan n (λ records ps. IsTaken result (KeepsMerged new standby n records ps))
          → ByPlan n (λ records ps. Changes mid new (Only standby) (Remade mid standby (IsHalfOr n records ps first))) → GaveNothing mid new → Applies result old new standby name
      apply_done n same durable stays result done left gave =
          subst (λ (k : ℕ). ByPlan k (λ records ps. IsTaken result (KeepsMerged new standby k records ps)) → ByPlan k (λ records ps. Changes mid new (Only standby) (Remade mid standby (IsHalfOr k records ps first))) → Applies result old new standby name) same
          (λ its_done its_left. answers result (its_done c.head.guid pages c.pages plan_then durable) (record { durable = durable; left = its_left c.head.guid pages c.pages plan_then durable; stays = stays }) gave) done left

      -- a merge that was begun refuses nothing
      pub apply_takes : (n : ℕ) → size ≡ n → IsDurable mid standby (mid.files standby) → (result : Result ℕ Fault) → ByPlan n (λ records ps. IsTaken result (KeepsMerged new standby n records ps)) → (before most after : ℕ) → RefusedReads result before most after
      apply_takes n same durable result done before most after =
          subst (λ (k : ℕ). ByPlan k (λ records ps. IsTaken result (KeepsMerged new standby k records ps)) → RefusedReads result before most after) same
          (λ its_done. taken_refuses ℕ result (KeepsMerged new standby size c.pages pages) before most after (its_done c.head.guid pages c.pages plan_then durable)) done

      -- what it reads
      pub apply_within : (n : ℕ) → size ≡ n → IsDurable mid standby (mid.files standby) → ByPlan n (λ records ps. new.reads ≤ mid.reads + merge_most n records ps) → mid.reads ≤ old.reads + refused_most files standby name → new.reads ≤ old.reads + apply_most files standby name
      apply_within n same durable within ready =
          let merge : new.reads ≤ mid.reads + merge_most size c.pages pages =
          subst (λ (k : ℕ). ByPlan k (λ records ps. new.reads ≤ mid.reads + merge_most k records ps) → new.reads ≤ mid.reads + merge_most size c.pages pages) same (λ its. its c.head.guid pages c.pages plan_then durable) within in
          let most : accepted_most (bytes_of (files standby)) (in_place files standby name) ≡ merge_most size c.pages pages =
          ap (λ (f : File). accepted_most (bytes_of f) (in_place files standby name)) fit.there ∙ ap (accepted_most fit.bytes) m.accepted ∙ ap (λ (k : ℕ). merge_most k c.pages (pages_of fit.bytes)) size_is ∙ ap (merge_most size c.pages) file_pages in
          omega (arith, merge, most, ready)
