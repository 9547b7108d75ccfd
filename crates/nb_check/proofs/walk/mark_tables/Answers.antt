use Rattle.std.proofs.Common.{◌≡◌, ℕ, List, [], ◌+◌, length, refl, sym, ap, subst, ◌∙◌, arith, ◌++◌, ◌≢◌, ◌-◌, ◌∷◌, None, IsTrue}
use Rattle.nb_check.proofs.Common.{Image, page_at, Catalogue, Chain, next_in, found_pages, pages_of, chains_cause, Held, IsOpen, tested_on, not_linked, chains_on, so, walks_first, walks_broken, walks_split, walks_next, walks_all, walks_over, Walks, Trail, broken_at, none_some, Marks, looks_begun, looks_then}
use Rattle.nb_check.proofs.ListLaws.{AreOut, chains_of_pages, listed_few, seen_first, tables, tables_begun, tables_few, tables_more, tables_are, tables_broken}
use Rattle.nb_check.proofs.walk.mark_tables.Goals as goal
use Rattle.nb_check.proofs.walk.mark_tables.Goals.{In_ok-mark_listed}

-- what came of the pages of the catalogue so far
abbrev Out : Image → (before after : Marks) (old now : ℕ) → List ℕ → Type 0
Out image before after old now ps = AreOut image (chains_of_pages image ps) before after (old + length ps) now

-- The chains that one more page of the catalogue names are out of the set.
module _ (g : _) (c : goal.In_ok-mark_listed g) (t : Trail) (tells : IsTrue g.H.Host.tells) (is : IsOpen (g.H.Host.world c.args.host.now) c.args.engine.now t) (formed : broken_at (pages_of Catalogue t.base.image) ≡ None) where
  abbrev reads : ℕ
  reads = (g.H.Host.world c.args.host.now).reads

  abbrev OutBefore : List ℕ → Type 0
  OutBefore ps = Out t.base.image c.args.marks.now c.loop-left.marks reads (g.H.Host.world c.loop-left.host).reads ps

  abbrev OutAfter : List ℕ → Type 0
  OutAfter ps = Out t.base.image c.args.marks.now c.mark_listed.new.marks reads (g.H.Host.world c.mark_listed.new.host).reads ps

  still : IsOpen (g.H.Host.world c.loop-left.host) c.loop-left.engine t
  still = c.loop-left.invariant.looks.opened t tells is

  read : c.chain_read.new.page ≡ page_at t.base.image c.loop-left.number
  read = c.in_ok-next.ensures.page t tells still

  one : (ps : List ℕ) → OutBefore ps → OutAfter (ps ++ c.loop-left.number ∷ [])
  one ps was =
      let listed = c.in_ok-mark_listed.ensures in
      let on = c.in_ok-next.ensures.looks.opened t tells still in
      tables_more t.base.image ps c.loop-left.number c.chain_read.new.page c.args.marks.now c.loop-left.marks c.mark_listed.new.marks reads
      (g.H.Host.world c.loop-left.host).reads (g.H.Host.world c.chain_read.new.host).reads (g.H.Host.world c.mark_listed.new.host).reads read was (c.in_ok-next.ensures.once tells) (listed.test t tells on) (listed.reached t tells on) (listed.once t tells on)

  -- it leads on
  onward : c.in_ok-next.next ≢ 0 → Walks Catalogue t.base.image (λ ps. OutAfter ps) (c.loop-left.left - 1) c.in_ok-next.next
  onward leads =
      walks_next Catalogue t.base.image (λ ps. OutBefore ps) c.loop-left.left c.loop-left.number c.loop-left-test.true (c.loop-left.invariant.walks t tells is formed) (c.in_ok-next.ensures.test t tells still)
      (λ ps. OutAfter ps) one c.in_ok-next.next (c.in_ok-next.ensures.next ∙ ap next_in read) leads

  -- or is the last
  all : c.in_ok-next.next ≡ 0 → AreOut t.base.image (tables t.base.image) c.args.marks.now c.mark_listed.new.marks (reads + length (found_pages Catalogue t.base.image)) (g.H.Host.world c.mark_listed.new.host).reads
  all end =
      subst (λ (cs : List Chain). AreOut t.base.image cs c.args.marks.now c.mark_listed.new.marks (reads + length (found_pages Catalogue t.base.image)) (g.H.Host.world c.mark_listed.new.host).reads) (tables_are t.base.image)
      (walks_all Catalogue t.base.image (λ ps. OutBefore ps) c.loop-left.left c.loop-left.number c.loop-left-test.true (c.loop-left.invariant.walks t tells is formed) (c.in_ok-next.ensures.test t tells still)
      (λ ps. OutAfter ps) one c.in_ok-next.next (c.in_ok-next.ensures.next ∙ ap next_in read) end)

pub loop-left-init : goal.loop-left-init
loop-left-init g c = record {
  walks = λ t tells is formed.
      let reads : ℕ = (g.H.Host.world c.args.host.now).reads in
      walks_first Catalogue t.base.image (Out t.base.image c.args.marks.now c.args.marks.now reads reads) c.count-left.result 3 (c.count-left.ensures.value ∙ is.files.agrees.count) refl (tables_begun t.base.image c.args.marks.now reads);
  sized = refl;
  listed_sized = refl;
  looks = looks_begun (g.H.Host.world c.args.host.now) (g.met.H.Host.timely c.args.host.now);
  cause = refl;
}

pub chain_read-requires : goal.chain_read-requires
chain_read-requires g c = omega (arith, c.loop-left.invariant.listed_sized, c.requires.size, c.requires.listed, ap (λ (h : Held). h.files.page_size) c.loop-left.invariant.looks.same)

pub returns-in_err-next-clause-test : goal.returns-in_err-next-clause-test
returns-in_err-next-clause-test g c t tells is formed =
    let l = c.loop-left in
    let image = t.base.image in
    let reads : ℕ = (g.H.Host.world c.args.host.now).reads in
    tested_on ℕ (Unit {0}) _ _ (not_linked Catalogue image l.number) (chains_cause image (tables image)) c.from_residual.ensures
    (λ r e. absurd (none_some r (sym formed ∙ walks_broken Catalogue image (Out image c.args.marks.now l.marks reads (g.H.Host.world l.host).reads) l.left l.number c.loop-left-test.true (l.invariant.walks t tells is formed) r e)))
    (c.in_err-next.ensures.test t tells (l.invariant.looks.opened t tells is))

pub mark_listed-requires-clause-size : goal.mark_listed-requires-clause-size
mark_listed-requires-clause-size g c =
    omega (arith, c.loop-left.invariant.sized, c.requires.size, ap (λ (h : Held). h.files.page_size) c.loop-left.invariant.looks.same, ap (λ (h : Held). h.files.page_size) c.in_ok-next.ensures.looks.same)

pub mark_listed-requires-clause-listed : goal.mark_listed-requires-clause-listed
mark_listed-requires-clause-listed g c = omega (arith, c.in_ok-next.ensures.sized, c.loop-left.invariant.listed_sized, c.loop-left.invariant.sized, c.requires.listed)

pub returns-in_err-mark_listed-clause-test : goal.returns-in_err-mark_listed-clause-test
returns-in_err-mark_listed-clause-test g c t tells is formed =
    let l = c.loop-left in
    let image = t.base.image in
    let reads : ℕ = (g.H.Host.world c.args.host.now).reads in
    let still = l.invariant.looks.opened t tells is in
    let was = l.invariant.walks t tells is formed in
    let walks = so Catalogue image (Out image c.args.marks.now l.marks reads (g.H.Host.world l.host).reads) l.left l.number c.loop-left-test.true was in
    let split =
    walks_split Catalogue image (Out image c.args.marks.now l.marks reads (g.H.Host.world l.host).reads) l.left l.number c.loop-left-test.true was (c.in_ok-next.ensures.test t tells still) formed in
    tested_on (Unit {0}) (Unit {0}) _ _ (chains_cause image (chains_on c.chain_read.new.page)) (chains_cause image (tables image)) c.from_residual-in_err-mark_listed.ensures
    (λ r e. tables_broken image walks.seen l.number split.0 c.chain_read.new.page r split.1 (c.in_ok-next.ensures.page t tells still) walks.is.formed e)
    (c.in_err-mark_listed.ensures.test t tells (c.in_ok-next.ensures.looks.opened t tells still))

pub loop-left-preserved : goal.loop-left-preserved
loop-left-preserved g c =
    let l = c.loop-left in
    let next = c.in_ok-next.ensures in
    let listed = c.in_ok-mark_listed.ensures in
    record {
      walks = λ t tells is formed. onward g (goal.at.loop-left-preserved g c).In_ok-mark_listed t tells is formed c.if-next-eq0.false;
      sized = listed.sized ∙ l.invariant.sized;
      listed_sized = next.sized ∙ l.invariant.listed_sized;
      looks = looks_then (looks_then l.invariant.looks next.looks) listed.looks;
      cause = listed.cause ∙ next.cause ∙ l.invariant.cause;
    }

pub returns-then-next-eq0-clause-test : goal.returns-then-next-eq0-clause-test
returns-then-next-eq0-clause-test g c t tells is formed = (all g (goal.at.returns-then-next-eq0-clause-test g c).In_ok-mark_listed t tells is formed c.if-next-eq0.true).formed

pub returns-then-next-eq0-clause-reached : goal.returns-then-next-eq0-clause-reached
returns-then-next-eq0-clause-reached g c t tells is formed = (all g (goal.at.returns-then-next-eq0-clause-reached g c).In_ok-mark_listed t tells is formed c.if-next-eq0.true).out

pub returns-then-next-eq0-clause-once : goal.returns-then-next-eq0-clause-once
returns-then-next-eq0-clause-once g c t tells is formed = (all g (goal.at.returns-then-next-eq0-clause-once g c).In_ok-mark_listed t tells is formed c.if-next-eq0.true).few

pub returns-clause-test : goal.returns-clause-test
returns-clause-test g c t tells is formed =
    let l = c.loop-left in
    let reads : ℕ = (g.H.Host.world c.args.host.now).reads in
    absurd (none_some _ (sym formed ∙ walks_over Catalogue t.base.image (Out t.base.image c.args.marks.now l.marks reads (g.H.Host.world l.host).reads) l.left l.number (omega (arith, c.loop-left-test.false)) (l.invariant.walks t tells is formed)))

pub returns-in_err-mark_listed-clause-looks : goal.returns-in_err-mark_listed-clause-looks
returns-in_err-mark_listed-clause-looks g c = looks_then (looks_then c.loop-left.invariant.looks c.in_ok-next.ensures.looks) c.in_err-mark_listed.ensures.looks

pub returns-in_err-next-clause-looks : goal.returns-in_err-next-clause-looks
returns-in_err-next-clause-looks g c = looks_then c.loop-left.invariant.looks c.in_err-next.ensures.looks

pub returns-then-next-eq0-clause-looks : goal.returns-then-next-eq0-clause-looks
returns-then-next-eq0-clause-looks g c = looks_then (looks_then c.loop-left.invariant.looks c.in_ok-next.ensures.looks) c.in_ok-mark_listed.ensures.looks

pub returns-in_err-next-clause-within : goal.returns-in_err-next-clause-within
returns-in_err-next-clause-within g c t tells is formed =
    let l = c.loop-left in
    let image = t.base.image in
    let reads : ℕ = (g.H.Host.world c.args.host.now).reads in
    let was = l.invariant.walks t tells is formed in
    let first = seen_first Catalogue image (Out image c.args.marks.now l.marks reads (g.H.Host.world l.host).reads) l.left l.number was formed in
    let few = tables_few image was.seen first.0 reads (g.H.Host.world l.host).reads first.1 was.is.few in
    omega (arith, few, c.chain_read.ensures.once tells, was.long, c.loop-left-test.true, is.files.agrees.count)

pub returns-in_err-mark_listed-clause-within : goal.returns-in_err-mark_listed-clause-within
returns-in_err-mark_listed-clause-within g c t tells is formed =
    let l = c.loop-left in
    let image = t.base.image in
    let reads : ℕ = (g.H.Host.world c.args.host.now).reads in
    let still = l.invariant.looks.opened t tells is in
    let was = l.invariant.walks t tells is formed in
    let walks = so Catalogue image (Out image c.args.marks.now l.marks reads (g.H.Host.world l.host).reads) l.left l.number c.loop-left-test.true was in
    let split = walks_split Catalogue image (Out image c.args.marks.now l.marks reads (g.H.Host.world l.host).reads) l.left l.number c.loop-left-test.true was (c.in_ok-next.ensures.test t tells still) formed in
    let few =
    listed_few image walks.seen l.number split.0 c.chain_read.new.page reads (g.H.Host.world l.host).reads (g.H.Host.world c.chain_read.new.host).reads (g.H.Host.world c.mark_listed.new.host).reads c.chain_read.new.self.files.count split.1
    (c.in_ok-next.ensures.page t tells still) walks.is.few (c.chain_read.ensures.once tells) (c.mark_listed.ensures.within t tells (c.in_ok-next.ensures.looks.opened t tells still)) in
    omega (arith, few, ap (λ (h : Held). h.files.count) l.invariant.looks.same, ap (λ (h : Held). h.files.count) c.in_ok-next.ensures.looks.same)

pub returns-then-next-eq0-clause-within : goal.returns-then-next-eq0-clause-within
returns-then-next-eq0-clause-within g c t tells is formed = let few = (all g (goal.at.returns-then-next-eq0-clause-within g c).In_ok-mark_listed t tells is formed c.if-next-eq0.true).few in omega (arith, few)

pub returns-clause-within : goal.returns-clause-within
returns-clause-within g c t tells is formed =
    let l = c.loop-left in
    let reads : ℕ = (g.H.Host.world c.args.host.now).reads in
    absurd (none_some _ (sym formed ∙ walks_over Catalogue t.base.image (Out t.base.image c.args.marks.now l.marks reads (g.H.Host.world l.host).reads) l.left l.number (omega (arith, c.loop-left-test.false)) (l.invariant.walks t tells is formed)))
