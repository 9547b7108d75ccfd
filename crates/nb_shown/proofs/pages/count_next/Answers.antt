use Rattle.std.proofs.Common.{◌≡◌, ◌+◌, ◌-◌, ◌≤◌, ℕ, length, sym, ap, ◌∙◌, arith}
use Rattle.nb_shown.proofs.Common.{inventory_place, page_at, counts_below}
use Rattle.nb_shown.proofs.pages.count_next.Goals as goal

pub returns-clause-counts : goal.returns-clause-counts
returns-clause-counts g c t tells is so_far =
    let image = t.base.image in
    let size : c.page_size-size.result ≡ length c.args.page.now = c.page_size-size.ensures.value ∙ sym c.requires.room in
    let map = (c.in_ok-read_map.ensures.reads t tells is).page ∙ ap (page_at image) (c.place_of.ensures ∙ ap (λ (s : ℕ). inventory_place s c.args.k) size) in
    let inside : c.args.first + (c.min-end.result - c.args.first) ≤ length image = omega (arith, c.min-end.ensures, c.count.ensures.value, is.files.agrees.count, c.requires.below) in
    let end : c.args.first + (c.min-end.result - c.args.first) ≡ c.min-end.result = omega (arith, c.min-end.ensures, c.count.ensures.value, c.bits_in.ensures.some, c.requires.below) in
    c.in_ok-count_covered.ensures.counts c.args.k t tells (c.in_ok-read_map.ensures.looks.opened t tells is) c.requires.first map inside so_far ∙ ap (counts_below image) end
