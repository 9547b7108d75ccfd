-- The name of a database that is open isn't free.
use Rattle.std.proofs.Common.{◌≡◌, inl, inr, List, ℕ, sym, ap, ◌∙◌, true, false}
use Rattle.nb_copy.proofs.Common.{true≢false, is_free_name, File, Files, World, Base, delta_name, owner, Trail, ShowsIn, OfFiles, Held, IsOpen, name_of}
use Rattle.nb_fields.specs.Free.{is_free_file}
use Rattle.nb_page.proofs.FreeLaws.{is_free_name-false}
use Rattle.nb_model.proofs.OpenedLaws.{HasMain, has_main}
use Rattle.nb_model.proofs.OpeningLaws.{opened_in_use}

-- nor is that of one that is shown
pub in_use : (files : Files) (name : List ℕ) (b : Base) → ShowsIn name b files → is_free_name files name ≡ false
in_use files name b shows =
    let main : HasMain b (files name) = has_main name b (files name) (files (delta_name name)) shows in
    is_free_name-false files name
    (ap is_free_file main.there ∙ opened_in_use name main.bytes (files (delta_name name)) b (ap (λ (f : File). owner name f (files (delta_name name))) (sym main.there) ∙ shows))

pub not_free : (w : World) (held : Held) (t : Trail) → IsOpen w held t → is_free_name w.files (name_of held) ≡ false
not_free w held t opened = in_use w.files (name_of held) opened.files.sees.base opened.files.files.shows

-- so a name that is free is neither of its two, where it isn't that of the difference file
pub free_apart : (w : World) (held : Held) (t : Trail) (name : List ℕ) → IsOpen w held t → is_free_name w.files name ≡ true → (name ≡ delta_name (name_of held) → ⊥) → OfFiles (name_of held) name → ⊥
free_apart w held t name is free no_delta (inl same) = true≢false (sym free ∙ ap (λ (n : List ℕ). is_free_name w.files n) same ∙ not_free w held t is)
free_apart w held t name is free no_delta (inr delta) = no_delta delta
