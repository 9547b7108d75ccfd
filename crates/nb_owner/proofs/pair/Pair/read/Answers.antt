use Rattle.std.proofs.Common.{◌≡◌, ◌<◌, ℕ, nat_eq, false, is_some, refl, ap, sym, subst, ◌∙◌, None, IsSome}
use Rattle.nb_owner.proofs.Common.{on_ok_weaker, on_err_weaker, promoted, slot_of, dropped, NoneWaits, Held, Pages, IsOpen, IsValid, AreOf, cache_of, bare, used, the_view, not_there}
use Rattle.nb_owner.proofs.RankLaws.{rank_promoted}
use Rattle.nb_owner.proofs.OpenLaws.{of_read, valid_looked, found_put, found_slot, missed_same, found_page, put_page, first_block, bare_put, looked_none, kept_drops}
use Rattle.nb_owner.proofs.WaitLaws.{open_with}
use Rattle.nb_owner.proofs.pair.Pair.read.Goals as goal

-- A page that isn't in memory was looked for: what is held is as it was.
held_missed : (files : Rattle.nb_base.specs.Open.Held) (cache after : Rattle.nb_cache.specs.Held.Held) (held : Held) (p : ℕ) → IsValid cache files.page_size → after ≡ record cache { pages = promoted (nat_eq p) cache.pages } → is_some (slot_of cache.pages p) ≡ false
    → ◌≡◌ {A = Held} (record { files = files; pages = cache.pages; cap = cache.cap }) held → ◌≡◌ {A = Held} (record { files = files; pages = after.pages; cap = after.cap }) held
held_missed files cache after held p valid looked none view =
    ap (λ (k : Rattle.nb_cache.specs.Held.Held). let h : Held = record { files = files; pages = k.pages; cap = k.cap } in h) (missed_same cache after files.page_size files.page_size valid refl p looked (not_there _ none)) ∙ view

pub invariant_of-self : goal.invariant_of-self
invariant_of-self g c = (
  valid_looked c.self.inside.cache c.look.new.self c.self.inside.files.page_size c.self.inside.files.page_size c.self.invariant.0 refl c.args.number c.look.ensures.moved,
  c.self.invariant.1,
  (λ stalled. looked_none c.self.inside.cache c.look.new.self c.args.number c.look.ensures.moved c.self.invariant.0.once (c.self.invariant.2 stalled)),
)

pub invariant_of-self-2 : goal.invariant_of-self-2
invariant_of-self-2 g c = (
  valid_looked c.self.inside.cache c.look.new.self c.self.inside.files.page_size c.self.inside.files.page_size c.self.invariant.0 refl c.args.number c.look.ensures.moved,
  c.self.invariant.1,
  (λ stalled. looked_none c.self.inside.cache c.look.new.self c.args.number c.look.ensures.moved c.self.invariant.0.once (c.self.invariant.2 stalled)),
)

pub returns-then-look-clause-page : goal.returns-then-look-clause-page
returns-then-look-clause-page g c t tells given low =
    let is = subst (λ (h : Held). IsOpen (g.H.Host.world c.args.host.now) h t) (sym c.self.view_is) given in
    let slot = found_slot _ c.look.new.into c.args.into.now (sym c.look.ensures.found ∙ c.if-look.true) c.look.ensures.filled in
    slot.2 ∙ found_page t.base.image c.self.inside.cache.pages c.args.number slot.0 slot.1 is.pages

pub returns-then-look-clause-control_block : goal.returns-then-look-clause-control_block
returns-then-look-clause-control_block g c first tells t given =
    let slot = found_slot _ c.look.new.into c.args.into.now (sym c.look.ensures.found ∙ c.if-look.true) c.look.ensures.filled in
    let now = found_put c.self.inside.cache c.look.new.self c.self.inside.files.page_size c.self.inside.files.page_size c.self.invariant.0 refl c.args.number c.look.ensures.moved slot.0 slot.1 in
    first_block t.base.image c.args.number c.look.new.into first
    (slot.2 ∙ put_page t.base.image c.self.inside.cache.pages c.self.inside.cache.cap c.args.number slot.0 (subst (λ (ps : Pages). AreOf t.base.image ps) now given.pages))

pub returns-then-look-clause-open : goal.returns-then-look-clause-open
returns-then-look-clause-open g c t tells given =
    let w = g.H.Host.world c.args.host.now in
    let is = subst (λ (h : Held). IsOpen w h t) (sym c.self.view_is) given in
    let slot = found_slot _ c.look.new.into c.args.into.now (sym c.look.ensures.found ∙ c.if-look.true) c.look.ensures.filled in
    let now = found_put c.self.inside.cache c.look.new.self c.self.inside.files.page_size c.self.inside.files.page_size c.self.invariant.0 refl c.args.number c.look.ensures.moved slot.0 slot.1 in
    let moved = ap (λ (k : Rattle.nb_cache.specs.Held.Held). k.pages) c.look.ensures.moved in
    let opened = open_with w (the_view c.self.inside) t c.look.new.self.pages is
    (λ q. ap (λ (ps : Pages). Rattle.nb_cache.specs.Held.rank_of ps q) moved ∙ rank_promoted c.args.number q c.self.inside.cache.pages)
    (subst (λ (ps : Pages). AreOf t.base.image ps) (sym now)
    (of_read c.self.inside.cache.pages c.self.invariant.0.once t.base.image c.self.inside.cache.cap c.args.number slot.0 (found_page t.base.image c.self.inside.cache.pages c.args.number slot.0 slot.1 is.pages) is.pages)) in
    subst (λ (cap : _). let h : Held = record { files = c.self.inside.files; pages = c.look.new.self.pages; cap = cap } in IsOpen w h t) (sym (ap (λ (k : Rattle.nb_cache.specs.Held.Held). k.cap) c.look.ensures.moved)) opened

pub returns-then-look-clause-used : goal.returns-then-look-clause-used
returns-then-look-clause-used g c low drops =
    let slot = found_slot _ c.look.new.into c.args.into.now (sym c.look.ensures.found ∙ c.if-look.true) c.look.ensures.filled in
    let now = found_put c.self.inside.cache c.look.new.self c.self.inside.files.page_size c.self.inside.files.page_size c.self.invariant.0 refl c.args.number c.look.ensures.moved slot.0 slot.1 in
    ap (λ (ps : Pages). bare ps) now ∙ bare_put c.args.number c.self.inside.cache.cap slot.0 c.self.inside.cache.pages
    ∙ ap (λ bytes. used (bare c.self.inside.cache.pages) c.self.inside.cache.cap c.args.number bytes) (sym slot.2) ∙ ap (λ (h : Held). used (bare h.pages) h.cap c.args.number c.look.new.into) c.self.view_is

pub returns-then-look-clause-full : goal.returns-then-look-clause-full
returns-then-look-clause-full g c full =
    let slot = found_slot _ c.look.new.into c.args.into.now (sym c.look.ensures.found ∙ c.if-look.true) c.look.ensures.filled in
    absurd (kept_drops c.self.inside.cache c.args.number slot.0 slot.1 (subst (λ (h : Held). IsSome (dropped (cache_of h) c.args.number)) (sym c.self.view_is) full))

pub fetch-requires-clause-absent : goal.fetch-requires-clause-absent
fetch-requires-clause-absent g c =
    let none = not_there _ (sym c.look.ensures.found ∙ c.if-look.false) in
    ap (λ (k : Rattle.nb_cache.specs.Held.Held). Rattle.nb_cache.specs.Held.slot_of k.pages c.args.number)
    (missed_same c.self.inside.cache c.look.new.self c.self.inside.files.page_size c.self.inside.files.page_size c.self.invariant.0 refl c.args.number c.look.ensures.moved none) ∙ none

pub returns-clause-failed : goal.returns-clause-failed
returns-clause-failed g c =
    let same = held_missed c.self.inside.files c.self.inside.cache c.look.new.self c.args.self.now c.args.number c.self.invariant.0 c.look.ensures.moved (sym c.look.ensures.found ∙ c.if-look.false) c.self.view_is in
    on_err_weaker c.fetch.result (λ failed. failed ∙ same) c.fetch.ensures.failed

pub returns-clause-page : goal.returns-clause-page
returns-clause-page g c t tells given low =
    let same = held_missed c.self.inside.files c.self.inside.cache c.look.new.self c.args.self.now c.args.number c.self.invariant.0 c.look.ensures.moved (sym c.look.ensures.found ∙ c.if-look.false) c.self.view_is in
    c.fetch.ensures.page t tells (subst (λ (h : Held). IsOpen (g.H.Host.world c.args.host.now) h t) (sym same) given) low

pub returns-clause-open : goal.returns-clause-open
returns-clause-open g c t tells given =
    let same = held_missed c.self.inside.files c.self.inside.cache c.look.new.self c.args.self.now c.args.number c.self.invariant.0 c.look.ensures.moved (sym c.look.ensures.found ∙ c.if-look.false) c.self.view_is in
    c.fetch.ensures.open t tells (subst (λ (h : Held). IsOpen (g.H.Host.world c.args.host.now) h t) (sym same) given)

pub returns-clause-used : goal.returns-clause-used
returns-clause-used g c low drops =
    let same = held_missed c.self.inside.files c.self.inside.cache c.look.new.self c.args.self.now c.args.number c.self.invariant.0 c.look.ensures.moved (sym c.look.ensures.found ∙ c.if-look.false) c.self.view_is in
    on_ok_weaker c.fetch.result (λ put. put ∙ ap (λ (h : Held). used (bare h.pages) h.cap c.args.number c.fetch.new.into) same)
    (c.fetch.ensures.used (subst (λ (h : Held). c.args.number < h.files.count) (sym same) low) (subst (λ (h : Held). dropped (cache_of h) c.args.number ≡ None) (sym same) drops))

pub returns-clause-full : goal.returns-clause-full
returns-clause-full g c full =
    let same = held_missed c.self.inside.files c.self.inside.cache c.look.new.self c.args.self.now c.args.number c.self.invariant.0 c.look.ensures.moved (sym c.look.ensures.found ∙ c.if-look.false) c.self.view_is in
    c.fetch.ensures.full (subst (λ (h : Held). IsSome (dropped (cache_of h) c.args.number)) (sym same) full) ∙ same

pub returns-then-look-clause-ranks : goal.returns-then-look-clause-ranks
returns-then-look-clause-ranks g c p =
    ap (λ (k : Rattle.nb_cache.specs.Held.Held). Rattle.nb_cache.specs.Held.rank_of k.pages p) c.look.ensures.moved ∙ rank_promoted c.args.number p c.self.inside.cache.pages
    ∙ ap (λ (h : Held). Rattle.nb_cache.specs.Held.rank_of h.pages p) c.self.view_is

pub returns-clause-ranks : goal.returns-clause-ranks
returns-clause-ranks g c p =
    let same = held_missed c.self.inside.files c.self.inside.cache c.look.new.self c.args.self.now c.args.number c.self.invariant.0 c.look.ensures.moved (sym c.look.ensures.found ∙ c.if-look.false) c.self.view_is in
    c.fetch.ensures.ranks p ∙ ap (λ (h : Held). Rattle.nb_cache.specs.Held.rank_of h.pages p) same

pub returns-then-look-clause-none_waits : goal.returns-then-look-clause-none_waits
returns-then-look-clause-none_waits g c none =
    looked_none c.self.inside.cache c.look.new.self c.args.number c.look.ensures.moved c.self.invariant.0.once (subst (λ (h : Held). NoneWaits h.pages) (sym c.self.view_is) none)

pub returns-clause-none_waits : goal.returns-clause-none_waits
returns-clause-none_waits g c none =
    c.fetch.ensures.none_waits (looked_none c.self.inside.cache c.look.new.self c.args.number c.look.ensures.moved c.self.invariant.0.once (subst (λ (h : Held). NoneWaits h.pages) (sym c.self.view_is) none))
