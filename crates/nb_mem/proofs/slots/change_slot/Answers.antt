use Rattle.std.proofs.Common.{Some, None, ◌≡◌, ◌∙◌, sym, ap, List, ℕ, ◌∷◌, ◌++◌, []}
use Rattle.nb_mem.proofs.Common.{position, same_name, Slot, File, with_file, file_after, files_in, names_in}
use Rattle.nb_mem.proofs.SlotLaws.{found, changed, not_found, added}
use Rattle.nb_mem.proofs.SlotNames.{names-changed, names-added}
use Rattle.nb_mem.proofs.slots.change_slot.Goals as goal

pub returns-in_ok-change_file-in-Some-clause-ok : goal.returns-in_ok-change_file-in-Some-clause-ok
returns-in_ok-change_file-in-Some-clause-ok c =
    let slots = c.args.slots.now.items in
    let name = c.args.name.now in
    let slot = c.index_mut-slot.result.now in
    let is : position (λ s. same_name name s.name) slots ≡ Some c.in-Some.at = sym (c.in-Some.ensures ∙ ap (λ (l : List Slot). position (λ (s : Slot). same_name name s.name) l) c.deref.ensures.value) in
    changed name slots c.in-Some.at slot c.change_file.new.file is c.index_mut-slot.ensures.value
    ∙ ap (λ (f : File). with_file (files_in slots) name f)
    (c.in_ok-change_file-in-Some.ensures.ok ∙ ap (λ (f : File). file_after c.args.change.now f) (sym (found name slots c.in-Some.at slot is c.index_mut-slot.ensures.value)))

pub returns-in_ok-push-in-None-clause-ok : goal.returns-in_ok-push-in-None-clause-ok
returns-in_ok-push-in-None-clause-ok c =
    let slots = c.args.slots.now.items in
    let name = c.args.name.now in
    let file = c.change_file-in-None.new.file in
    let is : position (λ s. same_name name s.name) slots ≡ None = sym (c.in-None.ensures ∙ ap (λ (l : List Slot). position (λ (s : Slot). same_name name s.name) l) c.deref.ensures.value) in
    ap files_in (c.in_ok-push-in-None.ensures.items ∙ ap (λ (n : List ℕ). slots ++ record { name = n; file = file } ∷ []) c.copied-name.ensures)
    ∙ added name slots file is
    ∙ ap (λ (f : File). with_file (files_in slots) name f)
    (c.in_ok-change_file-in-None.ensures.ok ∙ ap (λ (f : File). file_after c.args.change.now f) (sym (not_found name slots is)))

pub returns-in_ok-change_file-in-Some-clause-names : goal.returns-in_ok-change_file-in-Some-clause-names
returns-in_ok-change_file-in-Some-clause-names c =
    let slots = c.args.slots.now.items in
    let name = c.args.name.now in
    let is : position (λ s. same_name name s.name) slots ≡ Some c.in-Some.at = sym (c.in-Some.ensures ∙ ap (λ (l : List Slot). position (λ (s : Slot). same_name name s.name) l) c.deref.ensures.value) in
    names-changed name slots c.in-Some.at c.index_mut-slot.result.now c.change_file.new.file is c.index_mut-slot.ensures.value

pub returns-in_ok-push-in-None-clause-names : goal.returns-in_ok-push-in-None-clause-names
returns-in_ok-push-in-None-clause-names c =
    let slots = c.args.slots.now.items in
    let name = c.args.name.now in
    let file = c.change_file-in-None.new.file in
    let is : position (λ s. same_name name s.name) slots ≡ None = sym (c.in-None.ensures ∙ ap (λ (l : List Slot). position (λ (s : Slot). same_name name s.name) l) c.deref.ensures.value) in
    ap names_in (c.in_ok-push-in-None.ensures.items ∙ ap (λ (n : List ℕ). slots ++ record { name = n; file = file } ∷ []) c.copied-name.ensures)
    ∙ names-added name slots file is
