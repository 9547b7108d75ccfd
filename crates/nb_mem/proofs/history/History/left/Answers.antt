use Rattle.std.proofs.Common.{◌≡◌, ◌<◌, ◌≤◌, ◌+◌, List, [], ◌∷◌, ◌++◌, length, get_or, ◌∙◌, sym, ap, ap₂, subst, take, drop, add-one, reverse}
use Rattle.nb_mem.proofs.Common.{take_more, take_all, drop_all, Leaves, Entry, Slot, Choices, names_in, world_of, IsLeft, placed, left_by, outcome_by, placed_all, picked, begun}
use Rattle.std.proofs.Math.Seq.{drop-cons}
use Rattle.nb_mem.proofs.OutcomeLaws.{left_leaves}
use Rattle.nb_mem.proofs.LeftLaws.{IsLeftSoFar, one_placed, all_placed}
use Rattle.nb_mem.proofs.history.History.left.Goals as goal

pub loop-slot-preserved : goal.loop-slot-preserved
loop-slot-preserved c =
    let stopped = reverse c.self.inside.calls.items in
    let slots = c.self.inside.slots.items in
    let slot = c.slot-item.result in
    let i = c.loop-slot.slot-index in
    let low : i < length slots = subst (λ (l : List Slot). i < length l) c.deref-slot-items.ensures.value c.loop-slot-test.true in
    let at : slot ≡ get_or slots i slot = c.slot-item.is ∙ ap (λ (l : List Slot). get_or l i slot) c.deref-slot-items.ensures.value in
    let calls_are : reverse c.deref.result.now ≡ stopped = ap (λ (l : List Entry). reverse l) c.deref.ensures.value in
    let file_is : c.in_ok-file.file ≡ left_by c.loop-slot.choices stopped slot.name = c.in_ok-file.ensures.exact ∙ ap (λ (l : List Entry). left_by c.loop-slot.choices l slot.name) calls_are in
    let choices_are : c.left_of.new.choices ≡ (outcome_by c.loop-slot.choices stopped slot.name).1 = c.in_ok-file.ensures.choices ∙ ap (λ (l : List Entry). (outcome_by c.loop-slot.choices l slot.name).1) calls_are in
    let leaves : Leaves (world_of stopped) slot.name c.in_ok-file.file = subst (λ f. Leaves (world_of stopped) slot.name f) (sym file_is) (left_leaves c.loop-slot.choices stopped slot.name) in
    let more : take i slots ++ slot ∷ [] ≡ take (i + 1) slots = ap (λ (s : Slot). take i slots ++ s ∷ []) at ∙ sym (take_more slots i slot low) in
    let rest : slot.name ∷ names_in (drop (i + 1) slots) ≡ names_in (drop i slots) = ap (λ (s : Slot). s.name ∷ names_in (drop (i + 1) slots)) at ∙ ap (λ k. (get_or slots i slot).name ∷ names_in (drop k slots)) (add-one i) ∙ sym (ap names_in (drop-cons slots i slot low)) in
    record {
      so_far = subst (λ (l : List Entry). IsLeftSoFar stopped l (take (i + 1) slots)) (sym c.in_ok-place_left.ensures)
          (subst (IsLeftSoFar stopped _) more (one_placed stopped c.loop-slot.left (take i slots) slot c.loop-slot.invariant.so_far c.in_ok-file.file leaves));
      by_choices = ap₂ (λ (l : List Entry) (d : Choices). placed_all stopped (names_in (drop (i + 1) slots)) l d) (c.in_ok-place_left.ensures ∙ ap (λ f. placed slot.name f c.loop-slot.left) file_is) choices_are
          ∙ ap (λ ns. placed_all stopped ns c.loop-slot.left c.loop-slot.choices) rest
          ∙ c.loop-slot.invariant.by_choices;
    }

pub returns : goal.returns
returns c =
    let stopped = reverse c.self.inside.calls.items in
    let slots = c.self.inside.slots.items in
    let end : length slots ≤ c.loop-slot.slot-index = subst (λ (l : List Slot). length l ≤ c.loop-slot.slot-index) c.deref-slot-items.ensures.value c.loop-slot-test.false in
    let all : take c.loop-slot.slot-index slots ≡ slots = take_all c.loop-slot.slot-index slots end in
    let none : drop c.loop-slot.slot-index slots ≡ [] = drop_all c.loop-slot.slot-index slots end in
    record {
      left = subst (λ (l : List Entry). IsLeft l c.loop-slot.left) c.self.view_is
          (all_placed stopped c.loop-slot.left slots c.self.invariant.files (subst (IsLeftSoFar stopped c.loop-slot.left) all c.loop-slot.invariant.so_far));
      picked = ap (λ (l : List Slot). (placed_all stopped (names_in l) c.loop-slot.left c.loop-slot.choices).0) (sym none)
          ∙ ap (λ x. x.0) c.loop-slot.invariant.by_choices
          ∙ ap (λ ns. (placed_all stopped ns [] (begun c.args.pick)).0) c.self.invariant.names
          ∙ ap (λ (l : List Entry). picked c.args.pick l) c.self.view_is;
    }
