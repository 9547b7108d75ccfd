-- Which names are free, by the start of the file and the file beside it.
use Rattle.std.proofs.Common.{◌≡◌, ℕ, List, take, true, false, ap, sym, ◌∙◌, ◌&&◌, not, Some, None, Bool}
use Rattle.nb_page.proofs.Common.{File, Files, is_free_file, is_free_file-take, is_free_file-none, is_free_name, has_delta}
use Rattle.nb_host.specs.Files.{bytes_of}

-- no file is free as an empty one is
pub is_free_file-start : (file : File) (start : List ℕ) → start ≡ take 64 (bytes_of file) → is_free_file (Some start) ≡ is_free_file file
is_free_file-start None start e = ap (λ bytes. is_free_file (Some bytes)) e ∙ is_free_file-none
is_free_file-start (Some bytes) start e = ap (λ bytes. is_free_file (Some bytes)) e ∙ is_free_file-take bytes

-- where the start is free, the file beside it tells
pub is_free_name-true : (files : Files) (name : List ℕ) (beside : Bool) → is_free_file (files name) ≡ true → beside ≡ has_delta files name → not beside ≡ is_free_name files name
unfolding is_free_name
is_free_name-true files name beside free same = ap not same ∙ sym (ap (λ b. b && not (has_delta files name)) free)

-- and otherwise the name is not free
pub is_free_name-false : (files : Files) (name : List ℕ) → is_free_file (files name) ≡ false → is_free_name files name ≡ false
unfolding is_free_name
is_free_name-false files name free = ap (λ b. b && not (has_delta files name)) free
