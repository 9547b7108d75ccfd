use Rattle.std.proofs.Common.{ℕ, List, length, ◌≡◌, ◌≤◌, ◌+◌, ◌*◌, suc, ◌∙◌, Bool, ap, sym, subst}
use Rattle.nb_delta.proofs.Common.{ReadsPage, slots_in, page_in, groups_from, ReadsGroup}
use Rattle.nb_delta.proofs.GroupLaws.{IsPage, page_read}
use Rattle.nb_delta.proofs.reading.read_group.Goals as goal

pub returns-then-is_whole-clause-answer : goal.returns-then-is_whole-clause-answer
returns-then-is_whole-clause-answer g c tells bytes most there long =
    let file = (g.H.Host.world c.args.host.now).files c.args.name.now in
    let before : List ℕ = c.args.page.now in
    let after : List ℕ = c.read_page.new.into in
    let same : length after ≡ length before = c.read_page.auto.into in
    let page : IsPage (length before) c.args.at bytes after =
    page_read file c.args.at bytes before after there (subst (λ (b : Bool). ReadsPage file (c.args.at * length before) before after b) c.if-is_whole.true (c.in_ok-is_whole.ensures.answer tells)) in
    subst (λ (n : ℕ). ReadsGroup (groups_from (suc most) n c.args.at bytes c.args.entries.now) c.take_group.result (groups_from most n (c.args.at + slots_in n + 1) bytes c.take_group.new.entries) c.take_group.new.entries) same
    (c.take_group.ensures.answer bytes most long (ap (λ (n : ℕ). page_in n bytes c.args.at) same ∙ page.is) (subst (λ (n : ℕ). (c.args.at + 1) * n ≤ length bytes) (sym same) page.whole))
