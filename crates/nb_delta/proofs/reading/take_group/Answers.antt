use Rattle.std.proofs.Common.{ℕ, List, length, ◌≡◌, ◌≤◌, ◌<◌, ◌∙◌, ap, sym, subst, arith, ◌==◌, Err}
use Rattle.nb_delta.proofs.Common.{number_in, slots_in, page_in, entries_from, Reads}
use Rattle.nb_delta.proofs.GroupLaws.{group_misshapen, group_names, group_fault, group_told, whole_fit, count_misshapen}
use Rattle.nb_delta.proofs.reading.take_group.Goals as goal

pub returns-then-count-room-clause-answer : goal.returns-then-count-room-clause-answer
returns-then-count-room-clause-answer c bytes most long page_is whole =
    let size : ℕ = length c.args.page.now in
    let same : c.number_at-count.result ≡ number_in 0 4 (page_in size bytes c.args.at) = c.number_at-count.ensures.value ∙ ap (λ (p : List ℕ). number_in 0 4 p) (sym page_is) in
    let many : slots_in size < number_in 0 4 (page_in size bytes c.args.at) = omega (arith, same, c.if-count-room.true, c.slots_in-room.ensures.value) in
    group_names _ _ _ _ c.args.at c.broken.ensures (group_misshapen most size c.args.at bytes c.args.entries.now (count_misshapen size c.args.at bytes _ many))

pub returns-in_err-read_entries-clause-answer : goal.returns-in_err-read_entries-clause-answer
returns-in_err-read_entries-clause-answer c bytes most long page_is whole =
    let size : ℕ = length c.args.page.now in
    let same : c.number_at-count.result ≡ number_in 0 4 (page_in size bytes c.args.at) = c.number_at-count.ensures.value ∙ ap (λ (p : List ℕ). number_in 0 4 p) (sym page_is) in
    let few : number_in 0 4 (page_in size bytes c.args.at) ≤ slots_in size = omega (arith, same, c.if-count-room.false, c.slots_in-room.ensures.value) in
    group_fault most size c.args.at bytes c.args.entries.now (whole_fit size c.args.at bytes _ whole few) _ _ _ _ c.from_residual.ensures
    (subst (λ (n : ℕ). Reads (entries_from size c.args.at 0 n bytes c.args.entries.now) (Err c.in_err-read_entries.field-0.0) c.read_entries.new.entries) same (c.in_err-read_entries.ensures.answer bytes long page_is))

pub returns-clause-answer : goal.returns-clause-answer
returns-clause-answer c bytes most long page_is whole =
    let size : ℕ = length c.args.page.now in
    let same : c.number_at-count.result ≡ number_in 0 4 (page_in size bytes c.args.at) = c.number_at-count.ensures.value ∙ ap (λ (p : List ℕ). number_in 0 4 p) (sym page_is) in
    let few : number_in 0 4 (page_in size bytes c.args.at) ≤ slots_in size = omega (arith, same, c.if-count-room.false, c.slots_in-room.ensures.value) in
    group_told most size c.args.at bytes c.args.entries.now (whole_fit size c.args.at bytes _ whole few) c.read_entries.new.entries _
    (ap (λ (n : ℕ). n == c.slots_in-room.result) same ∙ ap (λ (n : ℕ). number_in 0 4 (page_in size bytes c.args.at) == n) c.slots_in-room.ensures.value)
    (ap (λ (n : ℕ). entries_from size c.args.at 0 n bytes c.args.entries.now) (sym same) ∙ c.in_ok-read_entries.ensures.answer bytes long page_is)
