use Rattle.std.proofs.Common.{◌+◌, sym, subst, ap, ◌∙◌, max, ◌||◌, nat_le}
use Rattle.nb_base.proofs.Common.{page, after_stroke, is_kept_place, Held, IsOpen, IsWrite, noted_in}
use Rattle.nb_base.proofs.MergedLaws.{merged_held}
use Rattle.nb_base.proofs.AgreeLaws.{written_held, later_forced, agrees_later, seen_open, synced_is}
use Rattle.nb_base.proofs.files.TwoFiles.write.Goals as goal

pub returns-clause-takes : goal.returns-clause-takes
returns-clause-takes g c t tells open_ fits =
    let new = g.H.Host.world c.put.new.host in
    let held = c.args.self.now in
    let number = c.args.number in
    let is : IsWrite t number c.args.page.now = record { fits = fits; long = c.requires.size ∙ open_.agrees.page_size; below = c.requires.most; other = c.requires.some } in
    let must = c.is_synced-synced.ensures ∙ ap (λ n. c.self.inside.forced || is_kept_place n number || nat_le c.self.inside.count number) (c.len.ensures ∙ c.self.invariant.3)
    ∙ ap (λ (h : Held). h.forced || is_kept_place h.page_size number || nat_le h.count number) c.self.view_is ∙ synced_is held t.base number open_.agrees in
    let takes = c.in_ok-put.ensures.takes t tells open_ is must in
    let put_is = c.self-2.view_is ∙ c.in_ok-put.ensures.known in
    let count = c.max-self-inside.ensures ∙ ap (λ (h : Held). max h.count (number + 1)) put_is in
    let held_is = ap (λ (h : Held). record h { count = c.max-self-inside.result }) put_is ∙ ap (λ n. record (written_held held number) { count = n }) count in
    let taken = c.take_forced.ensures in
    let flag = c.take_forced.new.self.forced in
    let forced = later_forced t number c.args.page.now fits held.forced flag open_.agrees.forced taken.first (λ some. taken.other some ∙ ap (λ (h : Held). h.forced) held_is) in
    record {
      left = takes.left;
      done = subst (λ (h : Held). IsOpen new h (after_stroke (page number c.args.page.now) t)) (sym (taken.same ∙ ap (λ (h : Held). record h { forced = flag }) held_is))
          (seen_open new (record (written_held held number) { forced = flag }) (after_stroke (page number c.args.page.now) t) takes.done (agrees_later held t number c.args.page.now flag fits forced open_.agrees) open_.drafted);
    }

pub returns-clause-merged : goal.returns-clause-merged
returns-clause-merged g c t k tells open_ fits merges merged =
    let new = g.H.Host.world c.put.new.host in
    let held = c.args.self.now in
    let number = c.args.number in
    let is : IsWrite t number c.args.page.now = record { fits = fits; long = c.requires.size ∙ open_.agrees.page_size; below = c.requires.most; other = c.requires.some } in
    let put_is = c.self-2.view_is ∙ c.in_ok-put.ensures.known in
    let same = sym c.take_forced.ensures.same in
    merged_held new held _ k (ap (λ (h : Held). h.name) (sym put_is) ∙ ap (λ (h : Held). h.name) same) (ap (λ (h : Held). h.page_size) (sym put_is) ∙ ap (λ (h : Held). h.page_size) same)
    (ap (λ n. noted_in n number held.entries) (sym merges) ∙ ap (λ (h : Held). h.entries) (sym put_is) ∙ ap (λ (h : Held). h.entries) same)
    (c.in_ok-put.ensures.merged t k tells open_ is merges merged)
