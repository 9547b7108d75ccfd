use Rattle.std.proofs.Common.{◌≡◌, ◌<◌, ⊎_elim, length, refl, ap, sym, subst, ◌∙◌, arith, None, is_some}
use Rattle.nb_owner.proofs.Common.{Files, ShowsIn, slot_of, rank_of, dropped, NoneWaits, Held, IsOpen, AreOf, IsValid, cache_of, bare, used, the_view}
use Rattle.nb_model.proofs.MainLaws.{some_page}
use Rattle.nb_owner.proofs.OpenLaws.{bare_put, put_page, first_block}
use Rattle.nb_owner.proofs.WaitLaws.{files_still, read_open, absent_page, absent_waits, clean_entry, sees_size, kept_ranks}
use Rattle.nb_owner.proofs.pair.Pair.fetch.Goals as goal

pub returns-in_err-read-clause-open : goal.returns-in_err-read-clause-open
returns-in_err-read-clause-open g c t tells given =
    let old = g.H.Host.world c.args.host.now in
    let new = g.H.Host.world c.read.new.host in
    let is = subst (λ (h : Held). IsOpen old h t) (sym c.self.view_is) given in
    files_still old new (the_view c.self.inside) t c.read.new.self c.read.ensures.same c.read.ensures.quiet.still is

pub returns-clause-open : goal.returns-clause-open
returns-clause-open g c t tells given =
    let old = g.H.Host.world c.args.host.now in
    let new = g.H.Host.world c.read.new.host in
    let is = subst (λ (h : Held). IsOpen old h t) (sym c.self.view_is) given in
    let now : Held = record { files = c.read.new.self; pages = c.self.inside.cache.pages; cap = c.self.inside.cache.cap } in
    let opened : IsOpen new now t = files_still old new (the_view c.self.inside) t c.read.new.self c.read.ensures.same c.read.ensures.quiet.still is in
    let absent : slot_of c.self.inside.cache.pages c.args.number ≡ None = ap (λ (h : Held). slot_of h.pages c.args.number) c.self.view_is ∙ c.requires.absent in
    let valid : IsValid (cache_of now) now.files.page_size = record { wide = refl; once = c.self.invariant.0.once; some = c.self.invariant.0.some; most = c.self.invariant.0.most } in
    ⊎_elim
    (λ (same : c.keep_read.new.self ≡ now). subst (λ (h : Held). IsOpen new h t) (sym same) opened)
    (λ kept.
    let low : c.args.number < length is.sees.base.image = omega (arith, kept.0, ap (λ f. f.count) c.read.ensures.same, is.agrees.count, is.waits.behind.long) in
    subst (λ (h : Held). IsOpen new h t) (sym kept.2)
    (read_open new now t opened valid c.args.number c.read.new.into absent kept.1
    (c.in_ok-read.ensures.page is.sees.base tells is.files.shows (sees_size old (the_view c.self.inside) t is) (clean_entry old (the_view c.self.inside) t is c.args.number (ap is_some (absent_waits c.self.inside.cache.pages c.args.number absent))) low ∙ absent_page old (the_view c.self.inside) t is c.args.number absent)))
    c.keep_read.ensures.either

pub returns-clause-used : goal.returns-clause-used
returns-clause-used g c low drops =
    let now : Held = record { files = c.read.new.self; pages = c.self.inside.cache.pages; cap = c.self.inside.cache.cap } in
    let same : now ≡ c.args.self.now = ap (λ (f : Rattle.nb_base.specs.Open.Held). let h : Held = record { files = f; pages = c.self.inside.cache.pages; cap = c.self.inside.cache.cap } in h) c.read.ensures.same ∙ c.self.view_is in
    let kept = c.keep_read.ensures.used (subst (λ (h : Held). c.args.number < h.files.count) (sym same) low) (subst (λ (h : Held). dropped (cache_of h) c.args.number ≡ None) (sym same) drops) in
    ap (λ (h : Held). bare h.pages) kept ∙ bare_put c.args.number c.self.inside.cache.cap (record { bytes = c.read.new.into; rank = None }) c.self.inside.cache.pages
    ∙ ap (λ (h : Held). used (bare h.pages) h.cap c.args.number c.read.new.into) same

pub returns-clause-page : goal.returns-clause-page
returns-clause-page g c t tells given low =
    let old = g.H.Host.world c.args.host.now in
    let is = subst (λ (h : Held). IsOpen old h t) (sym c.self.view_is) given in
    let absent : slot_of c.self.inside.cache.pages c.args.number ≡ None = ap (λ (h : Held). slot_of h.pages c.args.number) c.self.view_is ∙ c.requires.absent in
    c.in_ok-read.ensures.page is.sees.base tells is.files.shows (sees_size old (the_view c.self.inside) t is) (clean_entry old (the_view c.self.inside) t is c.args.number (ap is_some (absent_waits c.self.inside.cache.pages c.args.number absent)))
    (omega (arith, low, is.waits.behind.long)) ∙ absent_page old (the_view c.self.inside) t is c.args.number absent

pub returns-clause-control_block : goal.returns-clause-control_block
returns-clause-control_block g c first tells t given =
    let new = g.H.Host.world c.read.new.host in
    let now : Held = record { files = c.read.new.self; pages = c.self.inside.cache.pages; cap = c.self.inside.cache.cap } in
    let absent : slot_of c.self.inside.cache.pages c.args.number ≡ None = ap (λ (h : Held). slot_of h.pages c.args.number) c.self.view_is ∙ c.requires.absent in
    first_block t.base.image c.args.number c.read.new.into first
    (⊎_elim
    (λ (same : c.keep_read.new.self ≡ now).
    let is : IsOpen new (the_view c.self.inside) t = subst (λ (f : Rattle.nb_base.specs.Open.Held). let h : Held = record { files = f; pages = c.self.inside.cache.pages; cap = c.self.inside.cache.cap } in IsOpen new h t) c.read.ensures.same
    (subst (λ (h : Held). IsOpen new h t) same given) in
    let shows = subst (λ (files : Files). ShowsIn c.self.inside.files.name is.sees.base files) c.read.ensures.quiet.still.files is.files.shows in
    let low : c.args.number < length is.sees.base.image = omega (arith, first, some_page t.base.image is.agrees.header, is.waits.behind.long) in
    c.in_ok-read.ensures.page is.sees.base tells shows (sees_size new (the_view c.self.inside) t is) (clean_entry new (the_view c.self.inside) t is c.args.number (ap is_some (absent_waits c.self.inside.cache.pages c.args.number absent))) low
    ∙ absent_page new (the_view c.self.inside) t is c.args.number absent)
    (λ kept. put_page t.base.image c.self.inside.cache.pages c.self.inside.cache.cap c.args.number (record { bytes = c.read.new.into; rank = None }) (subst (λ (h : Held). AreOf t.base.image h.pages) kept.2 given.pages))
    c.keep_read.ensures.either)

pub returns-clause-ranks : goal.returns-clause-ranks
returns-clause-ranks g c p =
    let now : Held = record { files = c.read.new.self; pages = c.self.inside.cache.pages; cap = c.self.inside.cache.cap } in
    let absent : slot_of c.self.inside.cache.pages c.args.number ≡ None = ap (λ (h : Held). slot_of h.pages c.args.number) c.self.view_is ∙ c.requires.absent in
    let valid : IsValid (cache_of now) now.files.page_size = record { wide = refl; once = c.self.invariant.0.once; some = c.self.invariant.0.some; most = c.self.invariant.0.most } in
    ⊎_elim
    (λ (same : c.keep_read.new.self ≡ now). ap (λ (h : Held). rank_of h.pages p) same ∙ ap (λ (h : Held). rank_of h.pages p) c.self.view_is)
    (λ kept. ap (λ (h : Held). rank_of h.pages p) kept.2 ∙ kept_ranks now valid c.args.number c.read.new.into absent kept.1 p ∙ ap (λ (h : Held). rank_of h.pages p) c.self.view_is)
    c.keep_read.ensures.either

pub returns-clause-none_waits : goal.returns-clause-none_waits
returns-clause-none_waits g c none = c.keep_read.ensures.none_waits (subst (λ (h : Held). NoneWaits h.pages) (sym c.self.view_is) none)
