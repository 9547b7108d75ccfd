use Rattle.std.proofs.Common.{ℕ, sym, subst, ◌∙◌, false, IsTrue}
use Rattle.nb_alloc.proofs.Common.{is_page_size, image_size, IsKnown}
use Rattle.nb_alloc.proofs.BehindLaws.{known_lacking}
use Rattle.nb_alloc.proofs.behind.Behind.at.Goals as goal

pub returns-clause-known : goal.returns-clause-known
returns-clause-known g c t tells is kind =
    let size : IsTrue (is_page_size (image_size t.base.image)) = subst (λ (s : ℕ). IsTrue (is_page_size s)) (c.page_size-page_size.ensures.value ∙ is.files.agrees.page_size) c.page_size-page_size.ensures.one_of in
    subst (λ (n : ℕ). IsKnown t.base.image t.base.image (record { page = c.args.number; entry = n; lost = false })) (sym c.unwrap_or.ensures)
    (known_lacking t.base.image c.args.number c.in_ok-lacking.lacking size kind (c.in_ok-lacking.ensures.value t tells is) (c.in_ok-lacking.ensures.place t tells is))
