use Rattle.std.proofs.Common.{◌≡◌, ℕ, ◌+◌, ◌*◌, ◌/◌, List, length, replicate, ap, ◌∙◌, sym, subst, arith}
use Rattle.nb_delta.proofs.Common.{length-replicate, on_ok_weaker, Files, with_page, PageLeft, slots_in, alloc_place, Keeps, Only, page_alone, moved_begun, whole_on_ok}
use Rattle.nb_delta.proofs.MoveLaws.{written}
use Rattle.nb_delta.proofs.StepLaws.{next_left, keeps_none, room_inner, room_last}
use Rattle.nb_delta.proofs.writing.make_room.Goals as goal

pub returns-clause-changes : goal.returns-clause-changes
returns-clause-changes g c tells =
    let size : ℕ = length c.args.page.now in
    let next : ℕ = (c.args.place + 1) / c.slots_in-room.result in
    let page : List ℕ = c.fill.new.self in
    let zeros : page ≡ replicate size 0 = c.fill.ensures.after (λ y e. e) in
    let long : length page ≡ size = ap (λ (xs : List ℕ). length xs) zeros ∙ length-replicate {A = ℕ} size 0 in
    let room : c.slots_in-room.result ≡ slots_in size = c.slots_in-room.ensures.value in
    let last : c.args.place + 1 ≡ next * slots_in size = sym c.if-next-room.false ∙ ap (λ (n : ℕ). next * n) room in
    page_alone g.H.Host.tells c.write_page.result (g.H.Host.world c.args.host.now) (g.H.Host.world c.write_page.new.self) c.args.name.now (c.alloc_page_of.result * length page) page (Keeps size c.args.place)
    tells (g.met.H.Host.timely c.args.host.now) c.write_page.ensures.files c.write_page.ensures.log.said c.write_page.ensures.time
    (λ d x was left. next_left size c.requires.size c.args.place next (omega arith) page long d x
    (subst (λ (n : ℕ). PageLeft (n * size) page d x) c.alloc_page_of.ensures.value (subst (λ (n : ℕ). PageLeft (c.alloc_page_of.result * n) page d x) long left)))

pub returns-clause-room : goal.returns-clause-room
returns-clause-room g c tells =
    let size : ℕ = length c.args.page.now in
    let next : ℕ = (c.args.place + 1) / c.slots_in-room.result in
    let page : List ℕ = c.fill.new.self in
    let zeros : page ≡ replicate size 0 = c.fill.ensures.after (λ y e. e) in
    let long : length page ≡ size = ap (λ (xs : List ℕ). length xs) zeros ∙ length-replicate {A = ℕ} size 0 in
    let room : c.slots_in-room.result ≡ slots_in size = c.slots_in-room.ensures.value in
    let last : c.args.place + 1 ≡ next * slots_in size = sym c.if-next-room.false ∙ ap (λ (n : ℕ). next * n) room in
    let old : Files = (g.H.Host.world c.args.host.now).files in
    let new : Files = (g.H.Host.world c.write_page.new.self).files in
    on_ok_weaker c.write_page.result
    (λ files. room_last size c.requires.size c.args.place next page (old c.args.name.now) (new c.args.name.now) last zeros
    (written old new c.args.name.now page (c.alloc_page_of.result * length page) files
    ∙ ap (λ (n : ℕ). with_page (old c.args.name.now) (n * length page) page) c.alloc_page_of.ensures.value ∙ ap (λ (n : ℕ). with_page (old c.args.name.now) (alloc_place size next * n) page) long))
    (whole_on_ok c.write_page.result _ _ _ (c.write_page.ensures.files.files tells))

pub returns-then-next-room-clause-changes : goal.returns-then-next-room-clause-changes
returns-then-next-room-clause-changes g c tells =
    moved_begun (g.H.Host.world c.args.host.now) (Only c.args.name.now) c.args.name.now (Keeps (length c.args.page.now) c.args.place) (g.met.H.Host.timely c.args.host.now) (λ d was. keeps_none (length c.args.page.now) c.requires.size c.args.place d)

pub returns-then-next-room-clause-room : goal.returns-then-next-room-clause-room
returns-then-next-room-clause-room g c tells =
    let size : ℕ = length c.args.page.now in
    let room : c.slots_in-room.result ≡ slots_in size = c.slots_in-room.ensures.value in
    let next : ℕ = (c.args.place + 1) / c.slots_in-room.result in
    room_inner size c.requires.size c.args.place next ((g.H.Host.world c.args.host.now).files c.args.name.now) (ap (λ (n : ℕ). (c.args.place + 1) / n) (sym room)) (λ e. c.if-next-room.true (ap (λ (n : ℕ). next * n) room ∙ e))
