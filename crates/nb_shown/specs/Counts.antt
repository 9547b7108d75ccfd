-- How many pages are of each kind.
use Rattle.std.specs.Prelude.{ℕ, ◌+◌, ◌-◌, ◌/◌, Bool, true, false, ◌&&◌, ◌==◌, not}
use Rattle.nb_fields.specs.Page.{kind_of}
use Rattle.nb_fields.specs.Places.{bits_in}
use Rattle.nb_model.specs.Image.{Image, page_at}
use Rattle.nb_model.specs.Forms.{is_free_page}
use Rattle.nb_model.specs.Backups.{count_from, is_other}
use Rattle.nb_shown.specs.declared.counts.PageCounts.{PageCounts}

-- page p is taken, and of such a kind
abbrev pub is_taken_of : Image → (ℕ → Bool) → ℕ → Bool
is_taken_of image kinds p = not (is_free_page image p) && kinds (kind_of (page_at image p))

-- what is counted of the pages below p
abbrev pub counts_below : Image → (p : ℕ) → PageCounts
counts_below image p = record {
  header = count_from p 0 (is_taken_of image (λ k. k == 1));
  inventory = count_from p 0 (is_taken_of image (λ k. k == 2));
  scn = count_from p 0 (is_taken_of image (λ k. k == 10));
  data_pages = count_from p 0 (is_taken_of image (λ k. k == 5));
  raw = count_from p 0 (is_taken_of image (λ k. k == 8));
  other = count_from p 0 (is_taken_of image is_other);
  free = count_from p 0 (is_free_page image);
}

-- 1 for a page that counts
abbrev pub one_if : Bool → ℕ
one_if true = 1
one_if false = 0

-- one page more, which is free, or of that kind
abbrev pub with_page : (is_free : Bool) (kind : ℕ) → PageCounts → PageCounts
with_page is_free kind c = record {
  header = c.header + one_if (not is_free && kind == 1);
  inventory = c.inventory + one_if (not is_free && kind == 2);
  scn = c.scn + one_if (not is_free && kind == 10);
  data_pages = c.data_pages + one_if (not is_free && kind == 5);
  raw = c.raw + one_if (not is_free && kind == 8);
  other = c.other + one_if (not is_free && is_other kind);
  free = c.free + one_if is_free;
}

-- all pages that are counted
abbrev pub sum_of : PageCounts → ℕ
sum_of c = c.header + c.inventory + c.scn + c.data_pages + c.raw + c.other + c.free

-- how many inventory pages have the bits of so many pages
abbrev pub inventories_below : (size count : ℕ) → ℕ
inventories_below size count = (count - 1) / bits_in size + 1
