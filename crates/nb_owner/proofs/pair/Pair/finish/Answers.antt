use Rattle.std.proofs.Common.{◌≡◌, ◌-◌, length, ap, sym, subst, ◌∙◌, arith, nat_eq}
use Rattle.nb_owner.proofs.Common.{IsDistinct, keys_of, finish, after_stroke, not_done, NoneWaits, Held, Pages, IsOpen, AreOf, behind_first, but_below}
use Rattle.nb_base.specs.Open.{IsOpen as AreOpen}
use Rattle.nb_owner.proofs.OpenLaws.{of_finished, below_waits, finished_count}
use Rattle.nb_owner.proofs.UsedLaws.{once_removed}
use Rattle.nb_owner.proofs.WaitLaws.{open_settled}
use Rattle.nb_owner.proofs.pair.Pair.finish.Goals as goal

pub returns-in_err-finish_files-clause-takes : goal.returns-in_err-finish_files-clause-takes
returns-in_err-finish_files-clause-takes g c t tells is merged = record { left = (c.finish_files.ensures.takes t tells is merged).left; done = not_done c.from_residual.result _ c.from_residual.ensures.0 }

pub forget_behind-requires : goal.forget_behind-requires
forget_behind-requires g c = record { none = c.in_ok-finish_files.ensures.none }

pub returns-clause-takes : goal.returns-clause-takes
returns-clause-takes g c t tells given merged =
    let old = g.H.Host.world c.args.host.now in
    let new = g.H.Host.world c.finish_files.new.host in
    let ok = c.in_ok-finish_files.ensures in
    let is = subst (λ (h : Held). IsOpen old h t) (sym c.self.view_is) given in
    let takes = ok.takes t tells given merged in
    let mid = c.finish_files.new.self in
    let count = finished_count new mid.files t takes.done in
    let before = c.count-before.ensures.value ∙ is.agrees.count in
    let once = c.self.invariant.0.once in
    let pages : mid.pages ≡ behind_first c.self.inside.cache.pages = ok.others ∙ ap (λ (h : Held). behind_first h.pages) (sym c.self.view_is) in
    let kept : c.forget_behind.new.self.pages ≡ but_below (length t.base.image - mid.files.count) (length t.base.image) (behind_first c.self.inside.cache.pages) =
    ap (λ (h : Held). h.pages) c.forget_behind.ensures ∙ ap (λ n. but_below (n - mid.files.count) n mid.pages) before ∙ ap (but_below (length t.base.image - mid.files.count) (length t.base.image)) pages in
    record {
      left = takes.left;
      done = open_settled new c.forget_behind.new.self (after_stroke finish t)
          (subst (λ (ps : Pages). NoneWaits ps) (sym (kept ∙ ap (but_below (length t.base.image - mid.files.count) (length t.base.image)) (sym pages)))
          (below_waits (length t.base.image - mid.files.count) (length t.base.image) mid.pages (omega arith) (subst (λ (ps : Pages). IsDistinct nat_eq (keys_of ps)) (sym pages) (once_removed 0 c.self.inside.cache.pages once)) ok.none))
          (subst (λ files. AreOpen new files (after_stroke finish t)) (ap (λ (h : Held). h.files) (sym c.forget_behind.ensures)) takes.done)
          (subst (λ (ps : Pages). AreOf (after_stroke finish t).base.image ps) (sym kept) (of_finished c.self.inside.cache.pages once t mid.files.count count is.pages));
    }

pub returns-clause-others : goal.returns-clause-others
returns-clause-others g c =
    let mid = c.finish_files.new.self in
    let new = c.forget_behind.new.self in
    let old = c.args.self.now in
    ap (λ (h : Held). h.pages) c.forget_behind.ensures ∙ ap (λ n. but_below (n - mid.files.count) n mid.pages) (c.count-before.ensures.value ∙ ap (λ (h : Held). h.files.count) c.self.view_is)
    ∙ ap (λ n. but_below (old.files.count - n) old.files.count mid.pages) (ap (λ (h : Held). h.files.count) (sym c.forget_behind.ensures))
    ∙ ap (but_below (old.files.count - new.files.count) old.files.count) c.in_ok-finish_files.ensures.others

pub returns-in_err-finish_files-clause-within : goal.returns-in_err-finish_files-clause-within
returns-in_err-finish_files-clause-within g c t tells is = c.finish_files.ensures.within t tells is

pub returns-clause-within : goal.returns-clause-within
returns-clause-within g c t tells is = c.finish_files.ensures.within t tells is
