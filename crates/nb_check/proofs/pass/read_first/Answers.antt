use Rattle.std.proofs.Common.{ℕ, sym, ap, subst, ◌∙◌, IsTrue}
use Rattle.nb_check.proofs.Common.{is_page_size, page_at, image_size}
use Rattle.nb_check.proofs.PassLaws.{first_map_is, first_entries_are}
use Rattle.nb_check.proofs.pass.read_first.Goals as goal

pub returns-clause-map : goal.returns-clause-map
returns-clause-map g c t tells is more =
    let valid : IsTrue (is_page_size (image_size t.base.image)) = subst (λ (s : ℕ). IsTrue (is_page_size s)) (c.page_size-size.ensures.value ∙ is.files.agrees.page_size) c.page_size-size.ensures.one_of in
    c.in_ok-read_there.ensures.page t tells is more ∙ ap (page_at t.base.image) (sym (first_map_is (image_size t.base.image) valid))

pub returns-clause-entries : goal.returns-clause-entries
returns-clause-entries g c t tells is more =
    let valid : IsTrue (is_page_size (image_size t.base.image)) = subst (λ (s : ℕ). IsTrue (is_page_size s)) (c.page_size-size.ensures.value ∙ is.files.agrees.page_size) c.page_size-size.ensures.one_of in
    c.in_ok-read_there-2.ensures.page t tells (c.in_ok-read_there.ensures.looks.opened t tells is) more ∙ ap (page_at t.base.image) (sym (first_entries_are (image_size t.base.image) valid))
