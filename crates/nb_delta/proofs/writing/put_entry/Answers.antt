use Rattle.std.proofs.Common.{◌≡◌, ℕ, ◌-◌, ◌/◌, List, length, ap, ◌∙◌}
use Rattle.nb_delta.proofs.Common.{on_ok_weaker, File, Only, moved_weaker, Keeps, AddStep}
use Rattle.nb_delta.proofs.StepLaws.{ready_again, added_again, newest_keeps}
use Rattle.nb_delta.proofs.NoteLaws.{entry_changes}
use Rattle.nb_delta.proofs.writing.put_entry.Goals as goal

pub returns-in_err-put_slot-clause-changes : goal.returns-in_err-put_slot-clause-changes
returns-in_err-put_slot-clause-changes g c tells before number newest has =
    let bytes : List ℕ = c.args.bytes.now in
    let name : List ℕ = c.args.name.now in
    let place : ℕ = c.len-place.result - 1 in
    let at : place ≡ length c.args.entries.now - 1 = ap (λ (n : ℕ). n - 1) c.len-place.ensures.value in
    let old : File = (g.H.Host.world c.args.host.now).files name in
    moved_weaker (g.H.Host.world c.args.host.now) (g.H.Host.world c.put_slot.new.host) (Only name) name (Keeps (length bytes) place) (AddStep (length bytes) before number bytes old)
    (c.put_slot.ensures.changes tells)
    (λ b d was keeps. newest_keeps (length bytes) c.requires.size c.args.entries.now before number place bytes old b d newest at keeps)

pub returns-clause-added : goal.returns-clause-added
returns-clause-added g c tells before number newest has =
    let bytes : List ℕ = c.args.bytes.now in
    let place : ℕ = c.len-place.result - 1 in
    let at : place ≡ length c.args.entries.now - 1 = ap (λ (n : ℕ). n - 1) c.len-place.ensures.value in
    let old : File = (g.H.Host.world c.args.host.now).files c.args.name.now in
    let mid : File = (g.H.Host.world c.put_slot.new.host).files c.args.name.now in
    let new : File = (g.H.Host.world c.note.new.host).files c.args.name.now in
    let group : ℕ = place / c.slots_in.result in
    let same : length c.put_slot.new.page ≡ length bytes = c.put_slot.auto.page ∙ c.requires.room in
    let again : length c.fill_group.new.page ≡ length bytes = c.fill_group.auto.page ∙ same in
    let prepared = c.in_ok-put_slot.ensures.prepared tells in
    on_ok_weaker c.note.result
    (added_again (length bytes) c.requires.size (length c.put_slot.new.page) (length c.fill_group.new.page) same again c.args.entries.now before number place group bytes c.fill_group.new.page old mid newest at prepared new)
    (c.note.ensures.noted tells before number
    (ready_again (length bytes) c.requires.size (length c.put_slot.new.page) (length c.fill_group.new.page) same again c.args.entries.now before number place group bytes c.fill_group.new.page old mid newest at prepared has
    (ap (λ (n : ℕ). place / n) c.slots_in.ensures.value) c.fill_group.ensures))

pub returns-clause-changes : goal.returns-clause-changes
returns-clause-changes g c tells before number newest has =
    let bytes : List ℕ = c.args.bytes.now in
    let name : List ℕ = c.args.name.now in
    let place : ℕ = c.len-place.result - 1 in
    let at : place ≡ length c.args.entries.now - 1 = ap (λ (n : ℕ). n - 1) c.len-place.ensures.value in
    let old : File = (g.H.Host.world c.args.host.now).files name in
    let mid : File = (g.H.Host.world c.put_slot.new.host).files name in
    let group : ℕ = place / c.slots_in.result in
    let same : length c.put_slot.new.page ≡ length bytes = c.put_slot.auto.page ∙ c.requires.room in
    let again : length c.fill_group.new.page ≡ length bytes = c.fill_group.auto.page ∙ same in
    let prepared = c.in_ok-put_slot.ensures.prepared tells in
    let durable = c.in_ok-put_slot.ensures.durable tells in
    entry_changes (g.H.Host.world c.args.host.now) (g.H.Host.world c.put_slot.new.host) (g.H.Host.world c.note.new.host) name (length bytes) c.requires.size (length c.put_slot.new.page) (length c.fill_group.new.page) same again
    c.args.entries.now before number place group bytes c.fill_group.new.page newest at prepared durable
    (c.put_slot.ensures.changes tells)
    (c.note.ensures.changes tells before number
    (ready_again (length bytes) c.requires.size (length c.put_slot.new.page) (length c.fill_group.new.page) same again c.args.entries.now before number place group bytes c.fill_group.new.page old mid newest at prepared has
    (ap (λ (n : ℕ). place / n) c.slots_in.ensures.value) c.fill_group.ensures)
    durable)
