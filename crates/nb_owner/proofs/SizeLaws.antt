-- Each page of a database that is open has the size of a page.
use Rattle.std.proofs.Common.{◌≡◌, ℕ, ◌<◌, length, Option, Some, None, refl, sym, ap, ◌∙◌, arith, is_some}
use Rattle.nb_owner.proofs.Common.{size_of, World, page_at, image_size, delta_name, Trail, Holds, holds, base-sizes, rank_of, Held, IsOpen}
use Rattle.nb_model.specs.Sound.{IsOfSize}
use Rattle.nb_model.proofs.SoundLaws.{all_from}

pub open_sized : (w : World) (held : Held) (t : Trail) → IsOpen w held t → IsOfSize (image_size t.base.image) t.base.image
open_sized w held t is = all_from (λ page. length page ≡ image_size t.base.image) t.base.image (λ p low. by p low (rank_of held.pages p) refl)
  where
    files : Holds is.sees.base (w.files held.files.name) (w.files (delta_name held.files.name))
    files = holds held.files.name is.sees.base (w.files held.files.name) (w.files (delta_name held.files.name)) is.files.shows

    by : (p : ℕ) → p < length t.base.image → (o : Option ℕ) → rank_of held.pages p ≡ o → length (page_at t.base.image p) ≡ image_size t.base.image
    by p low (Some rank) at = (is.waits.each p rank at).sized
    by p low None at =
        ap length (sym (is.waits.clean p (ap is_some at))) ∙ base-sizes is.sees.base (w.files held.files.name) (w.files (delta_name held.files.name)) files p (omega (arith, low, is.waits.behind.long))
        ∙ ap size_of is.waits.behind.first
