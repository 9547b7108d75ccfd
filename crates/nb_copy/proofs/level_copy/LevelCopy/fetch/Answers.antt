use Rattle.std.proofs.Common.{◌≡◌, length, ap, subst, ◌∙◌, arith, sym, ◌≤◌, ◌<◌, IsTrue, false, true}
use Rattle.nb_copy.proofs.Common.{with_items_is, is_page_size, is_scn_place, LevelHead, Held, IsOpen, open_still, LevelCopying, HasEntriesOf, IsLevelOf, page_at, image_size, may_have_changed, Trail, is_above, scn_page_of, stalled_state}
use Rattle.nb_page.proofs.QuietLaws.{quiet_joined as quiet_joined}
use Rattle.nb_copy.proofs.PlaceLaws.{own_page, entry_low, may_place}
use Rattle.nb_copy.proofs.ReadLaws.{above_may, entry_above, reads_both, reads_least}
use Rattle.nb_copy.proofs.level_copy.LevelCopy.fetch.Goals as goal
use Rattle.nb_copy.proofs.level_copy.LevelCopy.fetch.Goals.{After-entry}

-- The page is no SCN page, and its entry was read.
module _ (g : _) (c : goal.After-entry g) where
  abbrev copy : LevelCopying
  copy = c.args.self.now

  next : c.self.inside.next ≡ copy.next
  next = ap (λ (v : LevelCopying). v.next) c.self.view_is ∙ ap (λ (v : LevelCopying). v.next) c.in_ok-index.ensures.same

  size : c.head-head.result.now.page_size ≡ copy.file.head.page_size
  size = ap (λ (h : LevelHead). h.page_size) c.head-head.ensures ∙ ap (λ (v : LevelCopying). v.file.head.page_size) c.self.view_is ∙ ap (λ (v : LevelCopying). v.file.head.page_size) c.in_ok-index.ensures.same

  scn : c.head-head.result.now.previous_scn ≡ copy.file.head.previous_scn
  scn = ap (λ (h : LevelHead). h.previous_scn) c.head-head.ensures ∙ ap (λ (v : LevelCopying). v.file.head.previous_scn) c.self.view_is ∙ ap (λ (v : LevelCopying). v.file.head.previous_scn) c.in_ok-index.ensures.same

  other : is_scn_place copy.file.head.page_size copy.next ≡ false
  other = ap (λ n. is_scn_place n copy.next) (sym size) ∙ ap (is_scn_place c.head-head.result.now.page_size) (sym next) ∙ sym c.is_place.ensures.value ∙ c.if-is_place.false

  long : copy.file.head.page_size ≡ length c.deref-2.result.now
  long = sym size ∙ ap (λ (h : LevelHead). h.page_size) c.head-head.ensures ∙ sym (ap length c.deref-2.ensures.value ∙ c.self.invariant.scn_room)

  module _ (t : Trail) (tells : IsTrue g.H.Host.tells) (open_ : IsOpen (g.H.Host.world c.args.host.now) c.args.engine.now t) (stalled : c.args.engine.now.files.state ≡ stalled_state) (of : IsLevelOf copy t.base.frozen) (ready : HasEntriesOf copy t.base.frozen) where
    read : c.deref-2.result.now ≡ page_at t.base.frozen (scn_page_of t.base.frozen copy.next)
    read = c.deref-2.ensures.value ∙ ap (λ (v : LevelCopying). v.scn_page) c.self.view_is ∙ c.in_ok-index.ensures.entries t tells open_ stalled of ready

    low : c.entry.result ≤ c.head-head.result.now.previous_scn → may_have_changed t.base.frozen copy.file.head.previous_scn copy.next ≡ false
    low few =
        let load = c.in_ok-index.ensures in
        entry_low t.base.frozen copy.file.head.page_size copy.next c.in_ok-index.index copy.file.head.previous_scn c.entry.result c.deref-2.result.now of.size load.index long load.inside read c.entry.ensures (omega (arith, few, scn)) c.requires.some other

    above : c.head-head.result.now.previous_scn < c.entry.result → is_above t.base.frozen copy.file.head.previous_scn copy.next ≡ true
    above many =
        let load = c.in_ok-index.ensures in
        entry_above t.base.frozen copy.file.head.page_size copy.next c.in_ok-index.index copy.file.head.previous_scn c.entry.result c.deref-2.result.now of.size load.index long load.inside read c.entry.ensures (omega (arith, many, scn)) c.requires.some other

pub returns-then-is_place-clause-fetched : goal.returns-then-is_place-clause-fetched
returns-then-is_place-clause-fetched g c t tells open_ stalled of ready =
    let frozen = t.base.frozen in
    let load = c.in_ok-index.ensures in
    let head = ap (λ (h : LevelHead). h.page_size) c.head-head.ensures in
    let size : c.head-head.result.now.page_size ≡ image_size frozen = head ∙ ap (λ (v : LevelCopying). v.file.head.page_size) c.self.view_is ∙ ap (λ (v : LevelCopying). v.file.head.page_size) load.same ∙ of.size in
    let next : c.self.inside.next ≡ c.args.self.now.next = ap (λ (v : LevelCopying). v.next) c.self.view_is ∙ ap (λ (v : LevelCopying). v.next) load.same in
    let is = subst (λ n. IsTrue (is_page_size n)) (sym head) c.self.invariant.is_size in
    let own = own_page frozen c.head-head.result.now.page_size c.self.inside.next size is (sym c.is_place.ensures.value ∙ c.if-is_place.true) in
    let may = may_place frozen c.head-head.result.now.page_size c.args.self.now.file.head.previous_scn c.self.inside.next size (sym c.is_place.ensures.value ∙ c.if-is_place.true) in (
      ap (may_have_changed frozen c.args.self.now.file.head.previous_scn) (sym next) ∙ may,
      c.copy_from_slice.ensures.items ∙ c.deref.ensures.value ∙ ap (λ (v : LevelCopying). v.scn_page) c.self.view_is ∙ load.entries t tells open_ stalled of ready
          ∙ ap (λ n. page_at frozen (scn_page_of frozen n)) (sym next) ∙ ap (page_at frozen) (own ∙ next),
    )

pub returns-then-entry-head-clause-fetched : goal.returns-then-entry-head-clause-fetched
returns-then-entry-head-clause-fetched g c t tells open_ stalled of ready = low g (goal.at.returns-then-entry-head-clause-fetched g c).After-entry t tells open_ stalled of ready c.if-entry-head.true

pub returns-in_err-read_main-clause-quiet : goal.returns-in_err-read_main-clause-quiet
returns-in_err-read_main-clause-quiet g c = quiet_joined _ _ _ c.in_ok-index.ensures.quiet c.read_main.ensures.quiet

pub returns-clause-fetched : goal.returns-clause-fetched
returns-clause-fetched g c t tells open_ stalled of ready =
    let frozen = t.base.frozen in
    let at = (goal.at.returns-clause-fetched g c).After-entry in
    let load = c.in_ok-index.ensures in
    let page = with_items_is c.self.inside.page c.read_main.new.into (omega (arith, c.read_main.auto.into, ap length c.deref_mut.ensures.value, c.self.inside.page.ok.0)) in
    let still = open_still _ _ _ _ t load.engine load.quiet open_ in
    let same : c.self.inside.next ≡ c.args.self.now.next = next g at in (
      above_may frozen c.args.self.now.file.head.previous_scn c.args.self.now.next (above g at t tells open_ stalled of ready c.if-entry-head.false),
      page ∙ c.in_ok-read_main.ensures.page t tells still (ap (λ (e : Held). e.files.state) load.engine ∙ stalled) (omega (arith, c.requires.below, of.long, same)) ∙ ap (page_at frozen) same,
    )

pub returns-clause-quiet : goal.returns-clause-quiet
returns-clause-quiet g c = quiet_joined _ _ _ c.in_ok-index.ensures.quiet c.read_main.ensures.quiet

pub returns-in_err-index-clause-reads : goal.returns-in_err-index-clause-reads
returns-in_err-index-clause-reads g c t tells open_ stalled of ready =
    let copy = c.args.self.now in
    omega (arith, c.in_err-index.ensures.loads tells, reads_least t.base.frozen copy.file.head.previous_scn copy.next copy.file.head.page_size of.size c.requires.some)

pub returns-then-is_place-clause-reads : goal.returns-then-is_place-clause-reads
returns-then-is_place-clause-reads g c t tells open_ stalled of ready =
    let copy = c.args.self.now in
    omega (arith, c.in_ok-index.ensures.loads tells, reads_least t.base.frozen copy.file.head.previous_scn copy.next copy.file.head.page_size of.size c.requires.some)

pub returns-then-entry-head-clause-reads : goal.returns-then-entry-head-clause-reads
returns-then-entry-head-clause-reads g c t tells open_ stalled of ready =
    let copy = c.args.self.now in
    omega (arith, c.in_ok-index.ensures.loads tells, reads_least t.base.frozen copy.file.head.previous_scn copy.next copy.file.head.page_size of.size c.requires.some)

pub returns-in_err-read_main-clause-reads : goal.returns-in_err-read_main-clause-reads
returns-in_err-read_main-clause-reads g c t tells open_ stalled of ready =
    let copy = c.args.self.now in
    let high = above g (goal.at.returns-in_err-read_main-clause-reads g c).After-entry t tells open_ stalled of ready c.if-entry-head.false in
    omega (arith, c.in_ok-index.ensures.loads tells, c.read_main.ensures.once tells, reads_both t.base.frozen copy.file.head.previous_scn copy.next copy.file.head.page_size of.size c.requires.some high)

pub returns-clause-reads : goal.returns-clause-reads
returns-clause-reads g c t tells open_ stalled of ready =
    let copy = c.args.self.now in
    let high = above g (goal.at.returns-clause-reads g c).After-entry t tells open_ stalled of ready c.if-entry-head.false in
    omega (arith, c.in_ok-index.ensures.loads tells, c.read_main.ensures.once tells, reads_both t.base.frozen copy.file.head.previous_scn copy.next copy.file.head.page_size of.size c.requires.some high)
