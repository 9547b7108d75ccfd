use Rattle.std.proofs.Common.{◌≡◌, ℕ, ◌+◌, List, length, subst}
use Rattle.nb_delta.proofs.Common.{on_ok_weaker, File, GroupStep, GroupPut, NotesSome, Only, moved_weaker}
use Rattle.nb_delta.proofs.NotingLaws.{group_some, group_all}
use Rattle.nb_delta.proofs.waiting.note_group.Goals as goal

pub returns-clause-changes : goal.returns-clause-changes
returns-clause-changes g c tells =
    let size : ℕ = length c.args.page.now in
    let page : List ℕ = c.fill_group.new.page in
    let same : length page ≡ size = c.fill_group.auto.page in
    moved_weaker (g.H.Host.world c.args.host.now) (g.H.Host.world c.write_group.new.host) (Only c.args.name.now) c.args.name.now (GroupStep (length page) c.args.group page) (NotesSome size c.args.entries.now c.args.group (c.args.group + 1))
    (c.write_group.ensures.changes tells)
    (λ b d was step. group_some size c.requires.size c.args.entries.now c.args.group page c.fill_group.ensures b d (subst (λ (n : ℕ). GroupStep n c.args.group page b d) same step))

pub returns-clause-noted : goal.returns-clause-noted
returns-clause-noted g c tells =
    let size : ℕ = length c.args.page.now in
    let page : List ℕ = c.fill_group.new.page in
    let same : length page ≡ size = c.fill_group.auto.page in
    let old : File = (g.H.Host.world c.args.host.now).files c.args.name.now in
    let new : File = (g.H.Host.world c.write_group.new.host).files c.args.name.now in
    on_ok_weaker c.write_group.result (λ put. group_all size c.requires.size c.args.entries.now c.args.group page c.fill_group.ensures old new (subst (λ (n : ℕ). GroupPut n c.args.group page old new) same put)) (c.write_group.ensures.put tells)
