use Rattle.std.proofs.Common.{◌∙◌, sym}
use Rattle.nb_page.proofs.Common.{and_from, and_left, and_right}
use Rattle.nb_page.proofs.HeaderLaws.{is_header-fields}
use Rattle.nb_page.proofs.header.read_header.Goals as goal
use Rattle.nb_page.proofs.header.read_header.Goals.{else-is_marked-via-then-is_marked+else-is_sound, else-is_marked-via-else-is_marked}

pub returns-then-is_sound-clause-exact : goal.returns-then-is_sound-clause-exact
returns-then-is_sound-clause-exact c =
    let form = is_header-fields c.args.first.now c.header_in-header.result c.requires c.header_in-header.ensures in
    sym (form ∙ and_from _ _ (sym c.is_marked.ensures ∙ c.if-is_marked.true) (sym c.is_sound.ensures ∙ c.if-is_sound.true))

pub returns-else-is_marked-clause-exact : goal.returns-else-is_marked-clause-exact
returns-else-is_marked-clause-exact c =
    let form = is_header-fields c.args.first.now c.header_in-header.result c.requires c.header_in-header.ensures in
    elim c.else-is_marked.branch [
      | else-is_marked-via-then-is_marked+else-is_sound w ↦ sym (form ∙ and_right _ _ (sym w.is_sound.ensures ∙ w.if-is_sound.false))
      | else-is_marked-via-else-is_marked w ↦ sym (form ∙ and_left _ _ (sym c.is_marked.ensures ∙ w.if-is_marked.false))
    ]
