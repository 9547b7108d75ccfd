use Rattle.std.proofs.Common.{◌≡◌, ◌<◌, ℕ, List, sym, ap, subst, ◌∙◌, arith, Bool, false, IsTrue}
use Rattle.nb_base.proofs.Common.{IsDurable, Changes, Only, Moved, left_before, Known, Waits, FrontStep, HasAll, delta_name, Trail, StandsIn, Held, IsOpen, GoesIn, the_view}
use Rattle.nb_base.proofs.EnterLaws.{drafts_wait, enter_changes, enter_open, kept_changes, kept_open}
use Rattle.nb_base.proofs.WriteLaws.{main_apart}
use Rattle.nb_base.proofs.files.TwoFiles.enter.Goals as goal
use Rattle.nb_base.proofs.files.TwoFiles.enter.Goals.{After-write_entries}

pub returns-in_err-sync-clause-left : goal.returns-in_err-sync-clause-left
returns-in_err-sync-clause-left g c f t waits tells given none =
    let old = g.H.Host.world c.args.host.now in
    let new = g.H.Host.world c.sync.new.self in
    let goes = subst (λ (h : Held). GoesIn old h f t waits) (sym c.self.view_is) given in
    subst (λ (h : Held). Changes old new (Only (delta_name h.name)) (StandsIn h.name t)) c.self.view_is
    (kept_changes old (g.met.H.Host.reads_left c.args.host.now tells) (the_view c.self.inside) f t waits goes none new c.sync.ensures.files.still (sym c.drafted.ensures.value ∙ c.if-drafted-eq0.true) (g.met.H.Host.timely c.args.host.now) c.sync.ensures.log.said c.sync.ensures.time)

pub returns-in_ok-sync-clause-left : goal.returns-in_ok-sync-clause-left
returns-in_ok-sync-clause-left g c f t waits tells given none =
    let old = g.H.Host.world c.args.host.now in
    let new = g.H.Host.world c.sync.new.self in
    let goes = subst (λ (h : Held). GoesIn old h f t waits) (sym c.self.view_is) given in
    subst (λ (h : Held). Changes old new (Only (delta_name h.name)) (StandsIn h.name t)) c.self.view_is
    (kept_changes old (g.met.H.Host.reads_left c.args.host.now tells) (the_view c.self.inside) f t waits goes none new c.sync.ensures.files.still (sym c.drafted.ensures.value ∙ c.if-drafted-eq0.true) (g.met.H.Host.timely c.args.host.now) c.sync.ensures.log.said c.sync.ensures.time)

pub returns-in_ok-sync-clause-done : goal.returns-in_ok-sync-clause-done
returns-in_ok-sync-clause-done g c f t waits tells given none =
    let old = g.H.Host.world c.args.host.now in
    let new = g.H.Host.world c.sync.new.self in
    let goes = subst (λ (h : Held). GoesIn old h f t waits) (sym c.self.view_is) given in
    let still = c.in_ok-sync.ensures.files.still in
    let durable = subst (λ (n : List ℕ). IsDurable new n (new.files n)) c.delta.ensures (subst (λ (x : _). IsDurable new c.delta.result (x c.delta.result)) (sym still.files) (c.in_ok-sync.ensures.files.durable tells)) in
    subst (λ (h : Held). IsOpen new h t) c.self.view_is
    (kept_open old (g.met.H.Host.reads_left c.args.host.now tells) (the_view c.self.inside) f t waits goes none new still (sym c.drafted.ensures.value ∙ c.if-drafted-eq0.true) durable)

-- The drafted entries are brought into the table: what a crash leaves, also where that failed.
module _ (g : _) (c : goal.After-write_entries g) (f t : Trail) (waits : ℕ → Bool) (tells : IsTrue g.H.Host.tells) (given : GoesIn (g.H.Host.world c.args.host.now) c.args.self.now f t waits) (none : (p : ℕ) → waits p ≡ false) where
  left : Changes (g.H.Host.world c.args.host.now) (g.H.Host.world c.write_entries.new.host) (Only (delta_name c.args.self.now.name)) (StandsIn c.args.self.now.name t)
  left =
      let old = g.H.Host.world c.args.host.now in
      let new = g.H.Host.world c.write_entries.new.host in
      let goes = subst (λ (h : Held). GoesIn old h f t waits) (sym c.self.view_is) given in
      let reads = g.met.H.Host.reads_left c.args.host.now tells in
      let d = c.self.inside.delta in
      let wait = drafts_wait old reads (the_view c.self.inside) f t waits goes none c.drafted.ensures.apart in
      let changes = subst (λ (n : List ℕ). Changes old new (Only n) (Moved old n (FrontStep d.page_size f.base.diverted goes.behind.diverted.0 (old.files n)))) c.self.invariant.5
      (c.write_entries.ensures.changes tells f.base.diverted goes.behind.diverted.0 (subst (λ (n : List ℕ). Waits d.page_size d.entries d.drafted f.base.diverted goes.behind.diverted.0 (old.files n)) (sym c.self.invariant.5) wait)) in
      subst (λ (h : Held). Changes old new (Only (delta_name h.name)) (StandsIn h.name t)) c.self.view_is
      (enter_changes old reads (the_view c.self.inside) f t waits goes none new (g.met.H.Host.timely c.args.host.now) changes)

pub returns-in_err-write_entries-clause-left : goal.returns-in_err-write_entries-clause-left
returns-in_err-write_entries-clause-left g c f t waits tells given none = left g (goal.at.returns-in_err-write_entries-clause-left g c).After-write_entries f t waits tells given none

pub returns-in_ok-write_entries-clause-left : goal.returns-in_ok-write_entries-clause-left
returns-in_ok-write_entries-clause-left g c f t waits tells given none = left g (goal.at.returns-in_ok-write_entries-clause-left g c).After-write_entries f t waits tells given none

pub returns-in_ok-write_entries-clause-done : goal.returns-in_ok-write_entries-clause-done
returns-in_ok-write_entries-clause-done g c f t waits tells given none =
    let old = g.H.Host.world c.args.host.now in
    let new = g.H.Host.world c.write_entries.new.host in
    let goes = subst (λ (h : Held). GoesIn old h f t waits) (sym c.self.view_is) given in
    let reads = g.met.H.Host.reads_left c.args.host.now tells in
    let d = c.self.inside.delta in
    let some : 0 < c.self.inside.delta.drafted = omega (arith, c.drafted.ensures.value, c.if-drafted-eq0.false) in
    let wait = subst (λ (n : List ℕ). Waits d.page_size d.entries d.drafted f.base.diverted goes.behind.diverted.0 (old.files n)) (sym c.self.invariant.5) (drafts_wait old reads (the_view c.self.inside) f t waits goes none c.drafted.ensures.apart) in
    let changes = subst (λ (n : List ℕ). Changes old new (Only n) (Moved old n (FrontStep d.page_size f.base.diverted goes.behind.diverted.0 (old.files n)))) c.self.invariant.5
    (c.write_entries.ensures.changes tells f.base.diverted goes.behind.diverted.0 wait) in
    let all = subst (λ (n : List ℕ). HasAll d.page_size d.entries (old.files n) (new.files n)) c.self.invariant.5 (c.in_ok-write_entries.ensures.written tells f.base.diverted goes.behind.diverted.0 wait) in
    let durable = subst (λ (n : List ℕ). IsDurable new n (new.files n)) c.self.invariant.5 (c.in_ok-write_entries.ensures.durable tells some) in
    enter_open old reads (the_view c.self.inside) f t waits goes none new (λ m left. left_before old new _ changes.others c.self.inside.name m (main_apart c.self.inside.name) left)
    (changes.others_read c.self.inside.name (main_apart c.self.inside.name)) all durable _
    (ap (λ (k : Known). record { name = c.self.inside.name; page_size = k.page_size; state = c.self.inside.state; forced = c.self.inside.forced; count = c.self.inside.count; main_count = c.self.inside.main_count; entries = k.entries; drafted = k.drafted }) c.in_ok-write_entries.ensures.done)
