-- The bytes of the pages so far.
use Rattle.std.proofs.Common.{◌≡◌, ℕ, suc, ◌<◌, List, [], ◌∷◌, ◌++◌, length, take, sym, ap, ◌∙◌}
use Rattle.nb_shown.proofs.Common.{Page, Image, page_at, bytes_of_image}
use Rattle.std.proofs.Math.Seq.{take-suc}
use Rattle.std.proofs.lemmas.Grind.{flat_map-append}
use Rattle.std.proofs.lemmas.List.{append-nil}
use Rattle.std.proofs.lemmas.List.Concat.{flat_map-cons}

one_page : (page : Page) → bytes_of_image (page ∷ []) ≡ page
one_page page = flat_map-cons (λ (p : Page). p) page [] ∙ append-nil page

-- with one page more
pub bytes_more : (image : Image) (n : ℕ) → n < length image → bytes_of_image (take n image) ++ page_at image n ≡ bytes_of_image (take (suc n) image)
bytes_more image n low =
    sym (ap bytes_of_image (take-suc image n [] low) ∙ flat_map-append (λ (p : Page). p) (take n image) (page_at image n ∷ [])
    ∙ ap (λ (l : List ℕ). bytes_of_image (take n image) ++ l) (one_page (page_at image n)))
