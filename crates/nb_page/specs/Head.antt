-- The head that a page holds.
use Rattle.std.specs.Prelude.{ℕ, List}
use Rattle.nb_fields.specs.Page.{kind_of, generation_of, stamp_of, number_of_page}
use Rattle.nb_page.specs.declared.page.PageHead.{PageHead}

-- the head in the first 16 bytes
unfoldable pub head_in : List ℕ → PageHead
head_in page = record { kind = kind_of page; generation = generation_of page; scn = stamp_of page; number = number_of_page page }
