use Rattle.std.proofs.Common.{◌∙◌, ℕ, length, refl, ap, arith, ◌==◌, if◌then◌else◌}
use Rattle.nb_page.proofs.Common.{bytes_of, with_part, data_payload, size_facts}
use Rattle.nb_page.proofs.FillLaws.{owner_filled, number-of_test}
use Rattle.nb_page.proofs.fill.fill_data.Goals as goal

pub returns : goal.returns
unfolding data_payload bytes_of
returns c =
    let owner : ℕ = if c.args.number == 4 then 1 else 0 in
    let size = size_facts (length c.args.page.now) c.requires.size in
    c.put.ensures.written ∙ ap (λ v. with_part 20 (bytes_of 4 v) c.args.page.now) (c.from-owner.ensures ∙ number-of_test (c.args.number == 4))
    ∙ owner_filled c.args.page.now (bytes_of 4 owner) refl (omega arith) c.requires.blank
