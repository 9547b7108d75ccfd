-- The target from its making to its page 0 in the normal state.
use Rattle.std.proofs.Common.{◌≡◌, ◌≢◌, inl, inr, ⊎_elim, ℕ, ◌*◌, ◌≤◌, List, ◌++◌, length, drop, refl, sym, subst, ◌∙◌, arith, IsTrue, Some}
use Rattle.nb_restore.proofs.Common.{is_page_size, size_facts, with_page, File, World, Leaves, PageLeft, Changes, Only, Moved, Remade, composed, weaker_has, Page, Image, joined, Link, all_over, IsOfSize, fixed, Reading, Holds, KeepsFront, OverwritesAll, AreReady, IsFree, IsFreeOr, IsKept, IsPlan, IsUnfinishedPage, IsWhole, KeepsWhole, restored}
use Rattle.nb_restore.proofs.FinishLaws.{normal_page, written_all, last_left}
use Rattle.nb_restore.proofs.FrontLaws.{front_joined}
use Rattle.nb_restore.proofs.HeadLaws.{HasHead, head_all}
use Rattle.nb_restore.proofs.ReadyLaws.{level_0_holds, level_0_head, ready_headed, ready_still}
use Rattle.nb_restore.proofs.TargetLaws.{begun_then, then_done}

-- since the target was begun a crash leaves its name free, or the whole
abbrev pub Since : (mid new : World) (target : List ℕ) (whole : File → Type 0) → Type 0
Since mid new target whole = Changes mid new (Only target) (λ files. IsFreeOr whole (files target))

-- All pages but page 0 are written since the target was begun. In its place that page still stands.
pub record IsWritten (mid now : World) (target : List ℕ) (size : ℕ) (start first : Page) (image : Image) : Type 0 where
  pub size_is : IsTrue (is_page_size size)
  pub stands : IsUnfinishedPage start
  pub free : Changes mid now (Only target) (λ files. IsFree (files target))
  pub holds : Holds size start first image (now.files target)
  pub head : HasHead size 5 image

-- with its making before
pub since_left : (old mid new : World) (target : List ℕ) (whole : File → Type 0) → Changes old mid (Only target) (Remade old target IsFree) → Since mid new target whole → Changes old new (Only target) (Remade old target (IsFreeOr whole))
since_left old mid new target whole made since =
    composed old mid new (Only target) (Remade old target IsFree) (λ files. IsFreeOr whole (files target)) (Remade old target (IsFreeOr whole)) made since
    (λ files. ⊎_elim inl (λ free. inr (inl free))) (λ files has. inr has)

-- The target is made for this plan, and holds the page that says that a restore goes on.
module _ (old mid : World) (target level_0 : List ℕ) (count : ℕ) (readers : List Reading) (first page : Page) (pages : List Page) (links : List Link) (plan : IsPlan old.files target level_0 (length page) count readers first page pages links)
    (size_is : IsTrue (is_page_size (length page))) (made : IsUnfinishedPage page → Changes old mid (Only target) (Remade old target IsFree)) (held : IsKept mid target (Some page)) where
  -- while pages after page 0 are written the name stays free
  stays_free : (new : World) → Changes mid new (Only target) (Moved mid target KeepsFront) → Changes mid new (Only target) (λ files. IsFree (files target))
  stays_free new more = let wide = (size_facts (length page) size_is).at_least in begun_then target mid new page plan.stands (omega (arith, wide)) held more

  pub part_since : (new : World) → Changes mid new (Only target) (Moved mid target KeepsFront) → Since mid new target (restored pages links)
  part_since new more = weaker_has mid new (Only target) (λ files. IsFree (files target)) (λ files. IsFreeOr (restored pages links) (files target)) (stays_free new more) (λ files free. inl free)

  -- level 0 and the level files are as they were
  pub level_0_there : mid.files level_0 ≡ Some (joined pages)
  level_0_there = (made plan.stands).others_read level_0 plan.whole.apart ∙ plan.whole.there

  pub readers_ready : (new : World) (wide : ℕ) → wide ≡ length page → Changes mid new (Only target) (Moved mid target KeepsFront) → AreReady new.files target wide links readers
  readers_ready new wide same more =
      subst (λ k. AreReady new.files target k links readers) (sym same) (ready_still old.files new.files target (length page) links readers (λ m other. more.others_read m other ∙ (made plan.stands).others_read m other) plan.ready)

  -- the pages of level 0 and of the level files were written
  all_written : (copied new : World) (wide : ℕ) (last : Page) → wide ≡ length page → Changes mid copied (Only target) (Moved mid target KeepsFront) → Changes copied new (Only target) (Moved copied target KeepsFront)
      → copied.files target ≡ Some (page ++ drop (length page) (joined pages)) → OverwritesAll wide links (copied.files target) (new.files target) first last
      → IsWritten mid new target (length page) page last (all_over links pages)
  all_written copied new wide last same first_part second_part level_0_is over =
      let some : 1 ≤ length pages = omega (arith, plan.whole.least, plan.whole.long) in
      let there : Holds (length page) page first pages (copied.files target) =
      level_0_holds (length page) page first pages (copied.files target) refl plan.whole.sizes some (omega (arith, plan.whole.long, plan.whole.most)) plan.page_0 level_0_is in
      record {
        size_is = size_is;
        stands = plan.stands;
        free = stays_free new (front_joined target mid copied new first_part second_part);
        holds = subst (λ k. OverwritesAll k links (copied.files target) (new.files target) first last) same over page pages there;
        head = head_all (length page) 5 links pages (ready_headed old.files target (length page) links readers plan.ready) (level_0_head old.files target level_0 (length page) count pages plan.whole);
      }

  -- by what is answered of whatever pages and links
  pub written_by : (copied new : World) (wide : ℕ) (last : Page) → wide ≡ length page → Changes mid copied (Only target) (Moved mid target KeepsFront) → Changes copied new (Only target) (Moved copied target KeepsFront)
      → ((ps : List Page) (start : Page) → level_0 ≢ target → mid.files level_0 ≡ Some (joined ps) → IsOfSize (length page) ps → length ps ≡ count → mid.files target ≡ Some start → copied.files target ≡ Some (start ++ drop (length page) (joined ps)))
      → ((ls : List Link) → AreReady copied.files target wide ls readers → OverwritesAll wide ls (copied.files target) (new.files target) first last) → IsWritten mid new target (length page) page last (all_over links pages)
  written_by copied new wide last same first_part second_part copies overwrites =
      all_written copied new wide last same first_part second_part (copies pages page plan.whole.apart level_0_there plan.whole.sizes plan.whole.long held.reads)
      (overwrites links (readers_ready copied wide same first_part))

module _ (old mid new : World) (target : List ℕ) (size : ℕ) (start first : Page) (image : Image) (written : IsWritten old mid target size start first image) (last : Page) (last_is : last ≡ normal_page first) where
  -- page 0 is written: a crash leaves the name free, or the whole
  pub all_since : Leaves mid target (mid.files target) → Changes mid new (Only target) (Remade mid target (PageLeft (0 * length last) last (mid.files target))) → Since old new target (IsWhole fixed image)
  all_since was more =
      then_done target old mid new (IsWhole fixed image) (PageLeft (0 * length last) last (mid.files target)) (mid.files target) written.free was more
      (λ c. last_left size start first image (mid.files target) written.size_is written.holds written.head last c written.stands last_is)

  -- and is kept: the target is the whole
  pub all_kept : IsKept new target (with_page (mid.files target) (0 * length last) last) → KeepsWhole new target (IsWhole fixed image)
  all_kept kept = record {
    file = with_page (mid.files target) (0 * length last) last;
    kept = kept;
    is = written_all size start first image (mid.files target) written.size_is written.holds written.head last last_is;
  }
