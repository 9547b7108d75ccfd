-- The pages that wait go out: what a crash leaves at each moment, and what reads.
use Rattle.std.proofs.Common.{◌≡◌, ◌≢◌, inl, inr, ⊎_elim, ℕ, ◌<◌, ◌≤◌, List, [], length, refl, sym, ap, subst, ◌∙◌, arith, Bool, true, false, Option, Some, None, is_some}
use Rattle.nb_owner.proofs.Common.{true≢false, eqb_tells, is_scn_place, state_of, size_of, normal_state, Files, World, IsTimely, Names, Only, Changes, begun, rested, composed, Page, Image, page_at, first_page, image_size, image_state, Base, page, on_base, Trail, settled, IsLeft, IsFirm, StandsIn, ShowsIn, IsOnTheWay, IsRead, behind_firm, way_left, way_start, way_put, firm_put, read_start, read_put, read_firm, read_done, Agrees, StandsFirm, MayPut, PutLeft, rank_of, with_rank, NoneWaits, StandsAs, Held, Pages, waits, IsWaiting, IsOpen, NoScnWaits, GoesOut, none_some}
use Rattle.nb_host.specs.Crash.{LeavesAll}
use Rattle.nb_page.specs.Quiet.{Quiet}
use Rattle.nb_model.specs.Waiting.{rank_of as rank_for}
use Rattle.nb_model.proofs.CoveredLaws.{firm_left}
use Rattle.nb_base.specs.Open.{IsOpen as AreOpen}
use Rattle.nb_owner.proofs.RankLaws.{rank_marked, rank_marked_other, waits_there, none_found, marked_of}
use Rattle.nb_owner.proofs.WaitLaws.{agrees_same, plain_table}

-- Calls that change nothing come after.
pub quiet_more : (old mid new : World) (names : Names) (P : Files → Type 0) → Changes old mid names P → Quiet mid new → Changes old new names P
quiet_more old mid new names P before quiet =
    composed old mid new names P P P before (rested mid new names P quiet.still quiet.said quiet.moments before.now) (λ files is. is) (λ files is. is)

-- One page goes out, while P holds of what is left.
module _ (held : Held) (f t : Trail) (P : Base → Type 0) (same : (b : Base) → P b → (length b.image ≡ length t.base.image) × (first_page b.image ≡ first_page t.base.image))
    (p rank : ℕ) (waiting : IsWaiting t p rank) (normal : image_state t.base.image ≡ normal_state) (size : length (page_at t.base.image p) ≡ image_size t.base.image)
    (put_on : (b : Base) → P b → P (on_base (page p (page_at t.base.image p)) b)) where
  abbrev own : Page
  own = page_at t.base.image p

  abbrev name : List ℕ
  name = held.files.name

  may_put : (b : Base) → length b.image ≡ length t.base.image → first_page b.image ≡ first_page t.base.image → MayPut b p (page_at t.base.image p)
  may_put b long first = record {
    normal = ap state_of first ∙ normal;
    some = waiting.some;
    low = omega (arith, waiting.low, long);
    below = waiting.below;
    long = size ∙ sym (ap size_of first);
    other = waiting.other;
  }

  module _ (w new : World) (left : (files : Files) → LeavesAll w files → StandsAs held.files.name P files) where
    stands_put : (files : Files) → PutLeft w held.files.name p (page_at t.base.image p) files → StandsAs held.files.name P files
    stands_put files put =
        let s : StandsAs held.files.name P put.before = left put.before put.was in
        let is = same s.base s.is in
        ⊎_elim (λ stays. record { base = s.base; opens = stays; is = s.is }) (λ goes. record { base = on_base (page p own) s.base; opens = goes; is = put_on s.base s.is })
        (put.by s.base s.opens (may_put s.base is.0 is.1))

    -- At each moment a crash leaves what may be left of what was seen.
    pub put_changes : ((b : Base) → P b → IsLeft t b) → (old : World) → Changes old w (Only held.files.name) (StandsIn held.files.name t)
        → Changes w new (Only held.files.name) (PutLeft w held.files.name p (page_at t.base.image p)) → Changes old new (Only held.files.name) (StandsIn held.files.name t)
    put_changes weak old before by =
        composed old w new (Only name) (StandsIn name t) (PutLeft w name p own) (StandsIn name t) before by (λ files is. is)
        (λ files put. let s : StandsAs name P files = stands_put files put in record { base = s.base; opens = s.opens; left = weak s.base s.is })

  -- Once it is out, it waits no longer.
  pub put_out : (w new : World) → GoesOut w held f t P → rank_of held.pages p ≡ Some rank → Changes w new (Only held.files.name) (PutLeft w held.files.name p (page_at t.base.image p))
      → ((b : Base) → ShowsIn held.files.name b w.files → MayPut b p (page_at t.base.image p) → ShowsIn held.files.name (on_base (page p (page_at t.base.image p)) b) new.files)
      → GoesOut new (record held { pages = with_rank p None held.pages }) f t P
  put_out w new out at by reads = record {
    left = λ files all. stands_put w new out.left files (by.now files all);
    reads = record {
      base = on_base (page p own) out.reads.base;
      opens = reads out.reads.base out.reads.opens (may_put out.reads.base out.reads.is.long out.reads.is.first);
      is = read_put t p waiting.some waiting.low (λ stalled. absurd (omega (arith, stalled, normal))) f (waits held.pages) (waits later) out.reads.base
          (λ q ne. ap is_some (rank_marked_other p q None held.pages ne)) (ap is_some gone) out.reads.is;
    };
    agrees = out.agrees;
    pages = marked_of t.base.image p None held.pages out.pages;
    behind = out.behind;
    each = λ q r still. elim (eqb_tells q p) [
      | inl e ↦ absurd (none_some {X = ℕ} _ (sym gone ∙ sym (ap (rank_of later) e.1) ∙ still))
      | inr e ↦ out.each q r (sym (rank_marked_other p q None held.pages e.1) ∙ still)
    ];
    normal = out.normal;
    drafted = out.drafted;
  }
    where
      later : Pages
      later = with_rank p None held.pages

      gone : rank_of (with_rank p None held.pages) p ≡ None
      gone = rank_marked p None held.pages (waits_there p rank held.pages at)

-- The way begins: SCN pages are to go out first, or none waits.
module _ (w : World) (held : Held) (t : Trail) (is : IsOpen w held t) (normal : image_state t.base.image ≡ normal_state) where
  no_drafts : held.files.drafted ≡ 0
  no_drafts = is.waits.stalled (λ stalled. absurd (omega (arith, stalled, normal)))

  reads_first : StandsAs held.files.name (IsRead is.sees t (waits held.pages)) w.files
  reads_first = record { base = is.sees.base; opens = is.files.shows; is = read_start is.sees t (waits held.pages) is.waits.behind (plain_table held.pages held.files.drafted is.sees t no_drafts is.waits) is.waits.clean }

  pub start_way : GoesOut w held is.sees t (IsOnTheWay is.sees t)
  start_way = record {
    left = λ files all.
        let s : StandsFirm held.files.name is.sees files = is.files.left files all in
        record { base = s.base; opens = s.opens; is = way_start is.sees t s.base is.waits.behind (λ stalled. absurd (omega (arith, stalled, normal))) s.left };
    reads = reads_first;
    agrees = is.agrees;
    pages = is.pages;
    behind = is.waits.behind;
    each = is.waits.each;
    normal = normal;
    drafted = no_drafts;
  }

  pub start_firm : NoScnWaits t held.pages → GoesOut w held is.sees t (IsFirm t)
  start_firm none = record {
    left = λ files all.
        let s : StandsFirm held.files.name is.sees files = is.files.left files all in
        record { base = s.base; opens = s.opens; is = behind_firm is.sees t is.waits.behind (λ p at. is.waits.clean p (none p at)) s.base s.left };
    reads = reads_first;
    agrees = is.agrees;
    pages = is.pages;
    behind = is.waits.behind;
    each = is.waits.each;
    normal = normal;
    drafted = no_drafts;
  }

-- Once the SCN pages are out and kept for good, the others go.
pub synced_firm : (w new : World) (held : Held) (f t : Trail) (out : GoesOut w held f t (IsOnTheWay f t)) → t.earlier ≢ [] → NoScnWaits t held.pages → AreOpen new held.files (settled out.reads.base) → GoesOut new held f t (IsFirm t)
synced_firm w new held f t out unsettled none o = record {
  left = λ files all.
      let s : StandsFirm held.files.name (settled out.reads.base) files = o.left files all in
      record { base = s.base; opens = s.opens; is = subst (IsFirm t) (sym (s.left.rest.whole refl)) (read_firm f t (waits held.pages) out.reads.base out.behind unsettled out.reads.is none) };
  reads = record { base = out.reads.base; opens = o.shows; is = out.reads.is };
  agrees = out.agrees;
  pages = out.pages;
  behind = out.behind;
  each = out.each;
  normal = out.normal;
  drafted = out.drafted;
}

-- what reads agrees with what is held
pub reads_agree : (w : World) (held : Held) (f t : Trail) (P : Base → Type 0) (out : GoesOut w held f t P) → Agrees held.files out.reads.base
reads_agree w held f t P out = agrees_same held.files t.base out.reads.base (sym out.reads.is.long) (sym out.reads.is.first) (sym out.reads.is.frozen) (sym out.reads.is.diverted) out.agrees

-- Once none waits, the files hold what is seen.
pub out_open : (w : World) (held : Held) (f t : Trail) → GoesOut w held f t (IsFirm t) → NoneWaits held.pages → AreOpen w held.files t
out_open w held f t out none = record {
  left = λ files all. let s : StandsAs held.files.name (IsFirm t) files = out.left files all in record { base = s.base; opens = s.opens; left = s.is };
  shows = subst (λ (b : Base). ShowsIn held.files.name b w.files) (read_done f t (waits held.pages) out.reads.base out.reads.is (λ p. ap is_some (none_found held.pages none p))) out.reads.opens;
  agrees = out.agrees;
  drafted = out.drafted;
}

-- in the normal state the rank goes by whether it is an SCN page
pub rank_normal : (image : Image) (p : ℕ) → image_state image ≡ normal_state → rank_for image p ≡ elim (is_scn_place (image_size image) p) as (λ z. ℕ) [ true ↦ 2 | false ↦ 3 ]
unfolding rank_for
rank_normal image p normal = elim (eqb_tells (image_state image) 1) [
  | inl w ↦ absurd (omega (arith, w.1, normal))
  | inr w ↦ ap (λ (u : Bool). elim u as (λ z. ℕ) [ true ↦ 0 | false ↦ elim (is_scn_place (image_size image) p) as (λ z. ℕ) [ true ↦ 2 | false ↦ 3 ] ]) w.0
]

-- The rank of a page that waits tells whether it is an SCN page.
module _ (t : Trail) (p rank : ℕ) (waiting : IsWaiting t p rank) (normal : image_state t.base.image ≡ normal_state) where
  rank_is : rank ≡ elim (is_scn_place (image_size t.base.image) p) as (λ z. ℕ) [ true ↦ 2 | false ↦ 3 ]
  rank_is = waiting.ranked ∙ rank_normal t.base.image p normal

  pub low_rank : rank ≤ 2 → is_scn_place (image_size t.base.image) p ≡ true
  low_rank low = by (is_scn_place (image_size t.base.image) p) refl
    where
      by : (u : Bool) → is_scn_place (image_size t.base.image) p ≡ u → is_scn_place (image_size t.base.image) p ≡ true
      by true at = at
      by false plain = absurd (let three : rank ≡ 3 = rank_is ∙ ap (λ (u : Bool). elim u as (λ z. ℕ) [ true ↦ 2 | false ↦ 3 ]) plain in omega (arith, three, low))

  pub high_rank : 2 < rank → is_scn_place (image_size t.base.image) p ≡ false
  high_rank high = by (is_scn_place (image_size t.base.image) p) refl
    where
      by : (u : Bool) → is_scn_place (image_size t.base.image) p ≡ u → is_scn_place (image_size t.base.image) p ≡ false
      by true at = absurd (let two : rank ≡ 2 = rank_is ∙ ap (λ (u : Bool). elim u as (λ z. ℕ) [ true ↦ 2 | false ↦ 3 ]) at in omega (arith, two, high))
      by false plain = plain

-- where only later ranks wait, no SCN page does
pub none_scn : (t : Trail) (pages : Pages) → image_state t.base.image ≡ normal_state → ((p rank : ℕ) → rank_of pages p ≡ Some rank → IsWaiting t p rank) → ((p rank : ℕ) → rank_of pages p ≡ Some rank → 2 < rank) → NoScnWaits t pages
none_scn t pages normal each high p at = by (rank_of pages p) refl
  where
    by : (o : Option ℕ) → rank_of pages p ≡ o → waits pages p ≡ false
    by None is = ap is_some is
    by (Some rank) is = absurd (true≢false (sym at ∙ high_rank t p rank (each p rank is) normal (high p rank is)))

-- While SCN pages go out,
module _ (w : World) (held : Held) (f t : Trail) (out : GoesOut w held f t (IsOnTheWay f t)) (unsettled : t.earlier ≢ []) where
  way_stands : (files : Files) → StandsAs held.files.name (IsOnTheWay f t) files → StandsIn held.files.name t files
  way_stands files s = record { base = s.base; opens = s.opens; left = way_left f t out.behind s.base unsettled s.is }

  pub way_begun : IsTimely w → Changes w w (Only held.files.name) (StandsIn held.files.name t)
  way_begun timely = begun w (Only held.files.name) (StandsIn held.files.name t) timely (λ files all. way_stands files (out.left files all))

  module _ (new : World) (p rank : ℕ) (at : rank_of held.pages p ≡ Some rank) (low : rank ≤ 2) (size : length (page_at t.base.image p) ≡ held.files.page_size)
      (by : Changes w new (Only held.files.name) (PutLeft w held.files.name p (page_at t.base.image p))) where
    waiting : IsWaiting t p rank
    waiting = out.each p rank at

    same : (b : Base) → IsOnTheWay f t b → (length b.image ≡ length t.base.image) × (first_page b.image ≡ first_page t.base.image)
    same b way = (way.long, way.first)

    put_scn : (b : Base) → IsOnTheWay f t b → IsOnTheWay f t (on_base (page p (page_at t.base.image p)) b)
    put_scn b way = way_put t p waiting.some waiting.low (λ stalled. absurd (omega (arith, stalled, out.normal))) f b (low_rank t p rank waiting out.normal low) way

    pub way_changes : (old : World) (name : List ℕ) → held.files.name ≡ name → Changes old w (Only name) (StandsIn name t) → Changes old new (Only name) (StandsIn name t)
    way_changes old m named before = subst (λ (n : List ℕ). Changes old new (Only n) (StandsIn n t)) named
        (put_changes held f t (IsOnTheWay f t) same p rank waiting out.normal (size ∙ out.agrees.page_size) put_scn w new out.left (λ b way. way_left f t out.behind b unsettled way) old (subst (λ (n : List ℕ). Changes old w (Only n) (StandsIn n t)) (sym named) before) by)

    pub way_more : ((b : Base) → ShowsIn held.files.name b w.files → MayPut b p (page_at t.base.image p) → ShowsIn held.files.name (on_base (page p (page_at t.base.image p)) b) new.files)
        → GoesOut new (record held { pages = with_rank p None held.pages }) f t (IsOnTheWay f t)
    way_more reads = put_out held f t (IsOnTheWay f t) same p rank waiting out.normal (size ∙ out.agrees.page_size) put_scn w new out at by reads

-- and while the others do.
module _ (w : World) (held : Held) (f t : Trail) (out : GoesOut w held f t (IsFirm t)) (none : NoScnWaits t held.pages) where
  pub firm_begun : IsTimely w → Changes w w (Only held.files.name) (StandsIn held.files.name t)
  firm_begun timely = begun w (Only held.files.name) (StandsIn held.files.name t) timely
      (λ files all. let s : StandsAs held.files.name (IsFirm t) files = out.left files all in record { base = s.base; opens = s.opens; left = firm_left t s.base s.is })

  module _ (new : World) (p rank : ℕ) (at : rank_of held.pages p ≡ Some rank) (size : length (page_at t.base.image p) ≡ held.files.page_size)
      (by : Changes w new (Only held.files.name) (PutLeft w held.files.name p (page_at t.base.image p))) where
    waits_p : IsWaiting t p rank
    waits_p = out.each p rank at

    plain : is_scn_place (image_size t.base.image) p ≡ false
    plain = by_place (is_scn_place (image_size t.base.image) p) refl
      where
        by_place : (u : Bool) → is_scn_place (image_size t.base.image) p ≡ u → is_scn_place (image_size t.base.image) p ≡ false
        by_place false e = e
        by_place true e = absurd (true≢false (sym (ap is_some at) ∙ none p e))

    same_firm : (b : Base) → IsFirm t b → (length b.image ≡ length t.base.image) × (first_page b.image ≡ first_page t.base.image)
    same_firm b left = (left.mixed.long, left.mixed.first)

    put_other : (b : Base) → IsFirm t b → IsFirm t (on_base (page p (page_at t.base.image p)) b)
    put_other b left = firm_put t p waits_p.some waits_p.low (λ stalled. absurd (omega (arith, stalled, out.normal))) b plain waits_p.unsettled left

    pub firm_changes : (old : World) (name : List ℕ) → held.files.name ≡ name → Changes old w (Only name) (StandsIn name t) → Changes old new (Only name) (StandsIn name t)
    firm_changes old m named before = subst (λ (n : List ℕ). Changes old new (Only n) (StandsIn n t)) named
        (put_changes held f t (IsFirm t) same_firm p rank waits_p out.normal (size ∙ out.agrees.page_size) put_other w new out.left (firm_left t) old (subst (λ (n : List ℕ). Changes old w (Only n) (StandsIn n t)) (sym named) before) by)

    pub firm_more : ((b : Base) → ShowsIn held.files.name b w.files → MayPut b p (page_at t.base.image p) → ShowsIn held.files.name (on_base (page p (page_at t.base.image p)) b) new.files)
        → GoesOut new (record held { pages = with_rank p None held.pages }) f t (IsFirm t)
    firm_more reads = put_out held f t (IsFirm t) same_firm p rank waits_p out.normal (size ∙ out.agrees.page_size) put_other w new out at by reads

    -- no SCN page waits then either
    pub none_more : NoScnWaits t (with_rank p None held.pages)
    none_more q at_q = elim (eqb_tells q p) [
      | inl e ↦ ap is_some (ap (rank_of (with_rank p None held.pages)) e.1 ∙ rank_marked p None held.pages (waits_there p rank held.pages at))
      | inr e ↦ ap is_some (rank_marked_other p q None held.pages e.1) ∙ none q at_q
    ]
