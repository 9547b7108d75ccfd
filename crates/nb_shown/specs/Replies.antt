-- What is shown, as replies.
use Rattle.std.specs.Prelude.{ℕ, List}
use Rattle.std.specs.List.{flat_map}
use Rattle.nb_model.specs.Image.{Image}
use Rattle.nb_model.specs.declared.reply.Reply.{Reply}
use Rattle.nb_model.specs.declared.reply.Reply.TheVariants.{PagesShown, ImageShown}
use Rattle.nb_shown.specs.declared.counts.PageCounts.{PageCounts}

-- all bytes of an image, page after page
abbrev pub bytes_of_image : Image → List ℕ
bytes_of_image image = flat_map (λ p. p) image

-- the counts
abbrev pub pages_shown : PageCounts → Reply
pages_shown c = PagesShown c.header c.inventory c.scn c.data_pages c.raw c.other c.free

-- the digest of so many pages
abbrev pub image_shown : (count : ℕ) → List ℕ → Reply
image_shown count digest = ImageShown count digest
