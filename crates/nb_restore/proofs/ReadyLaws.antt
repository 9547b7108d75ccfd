-- What a plan gives: the target holds level 0, and then all that is written over it.
use Rattle.std.proofs.Common.{◌≡◌, ◌≢◌, ℕ, ◌*◌, ◌≤◌, List, [], ◌∷◌, ◌++◌, length, drop, sym, ap, subst, ◌∙◌, arith, Some, Ok}
use Rattle.nb_restore.proofs.Common.{most_pages, File, Files, bytes_of, Page, first_page, joined, Link, Reading, still_to_come, IsOfSize, drop-joined, Holds, IsLevel0, AreReady}
use Rattle.nb_restore.proofs.HeadLaws.{HasHead, AllHeaded}

-- with all of level 0 after its start the target holds level 0, but for its page 0
pub level_0_holds : (size : ℕ) (page first : Page) (ps : List Page) (after : File) → length page ≡ size → IsOfSize size ps → 1 ≤ length ps → length ps ≤ most_pages → first ≡ first_page ps → after ≡ Some (page ++ drop size (joined ps))
    → Holds size page first ps after
level_0_holds size page first ps after long sizes some most is copied =
    let one : 1 * size ≡ size = omega arith in
    let behind : drop size (joined ps) ≡ joined (drop 1 ps) = ap (λ k. drop k (joined ps)) (sym one) ∙ drop-joined size 1 ps sizes some in
    record {
      reads = copied ∙ ap (λ (xs : List ℕ). Some (page ++ xs)) behind;
      long = long;
      sizes = sizes;
      some = some;
      most = most;
      page_0 = is;
    }

-- and has its page 0
pub level_0_head : (files : Files) (target name : List ℕ) (size count : ℕ) (ps : List Page) → IsLevel0 files target name size count ps → HasHead size 5 ps
level_0_head files target name size count ps whole = record { header = whole.header; same = whole.same; some = omega arith; long = omega (arith, whole.least, whole.long) }

-- the pages 0 of the level files
pub ready_headed : (files : Files) (target : List ℕ) (size : ℕ) (links : List Link) (readers : List Reading) → AreReady files target size links readers → AllHeaded size links
ready_headed files target size [] readers ready = tt
ready_headed files target size (l ∷ ls) [] ready = absurd ready
ready_headed files target size (l ∷ ls) (r ∷ rs) ready = (ready.0.headed, ready_headed files target size ls rs ready.1)

-- the readers stay ready while only the target changes
pub ready_still : (files now : Files) (target : List ℕ) (size : ℕ) (links : List Link) (readers : List Reading) → ((m : List ℕ) → m ≢ target → now m ≡ files m) → AreReady files target size links readers → AreReady now target size links readers
ready_still files now target size [] [] same ready = tt
ready_still files now target size [] (r ∷ rs) same ready = absurd ready
ready_still files now target size (l ∷ ls) [] same ready = absurd ready
ready_still files now target size (l ∷ ls) (r ∷ rs) same ready = (
  record {
    apart = ready.0.apart;
    pages = subst (λ (f : File). still_to_come (bytes_of f) r ≡ Ok l.pages) (sym (same r.name ready.0.apart)) ready.0.pages;
    sized = ready.0.sized;
    headed = ready.0.headed;
  },
  ready_still files now target size ls rs same ready.1,
)
