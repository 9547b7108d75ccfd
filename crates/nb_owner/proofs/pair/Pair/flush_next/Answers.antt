use Rattle.std.proofs.Common.{◌*◌, ◌≡◌, length, sym, subst, ap, ◌∙◌, arith, IsTrue}
use Rattle.nb_owner.proofs.Common.{take_at, Only, Changes, page_at, page, on_base, Trail, ShowsIn, MayPut, PutLeft, rank_of, NoneWaits, Held, AreOf}
use Rattle.nb_owner.proofs.RankLaws.{marked_none}
use Rattle.nb_owner.proofs.OpenLaws.{peeked, valid_marked}
use Rattle.nb_base.specs.Stays.{KeepsFile, EndsWithin}
use Rattle.nb_owner.proofs.pair.Pair.flush_next.Goals as goal
use Rattle.nb_owner.proofs.pair.Pair.flush_next.Goals.{After-put_out}

-- The page is in memory, and goes into its file.
module _ (g : _) (c : goal.After-put_out g) (t : Trail) (pages : AreOf t.base.image c.args.self.now.pages) where
  into : length c.peek.new.into ≡ c.self.inside.page.len
  into = omega (arith, c.peek.auto.into, c.deref_mut.ensures.len)

  peek : c.peek.new.into ≡ page_at t.base.image c.args.number
  peek = peeked t.base.image c.self.inside.cache.pages c.args.number c.requires.waits.0 c.peek.new.into _ (ap (λ (h : Held). rank_of h.pages c.args.number) c.self.view_is ∙ c.requires.waits.1)
      (subst (λ (h : Held). AreOf t.base.image h.pages) (sym c.self.view_is) pages) c.peek.ensures.filled

  is : c.deref.result.now ≡ page_at t.base.image c.args.number
  is = c.deref.ensures.value ∙ take_at c.peek.new.into _ c.self.inside.page.len into ∙ peek

  long : length (page_at t.base.image c.args.number) ≡ c.args.self.now.files.page_size
  long = sym (ap length peek) ∙ into ∙ c.self.invariant.1 ∙ ap (λ (h : Held). h.files.page_size) c.self.view_is

  left : IsTrue g.H.Host.tells
      → Changes (g.H.Host.world c.args.host.now) (g.H.Host.world c.put_out.new.host) (Only c.args.self.now.files.name) (PutLeft (g.H.Host.world c.args.host.now) c.args.self.now.files.name c.args.number (page_at t.base.image c.args.number))
  left tells =
      let old = g.H.Host.world c.args.host.now in
      let new = g.H.Host.world c.put_out.new.host in
      subst (λ (h : Held). Changes old new (Only h.files.name) (PutLeft old h.files.name c.args.number (page_at t.base.image c.args.number))) c.self.view_is
      (subst (λ bytes. Changes old new (Only c.self.inside.files.name) (PutLeft old c.self.inside.files.name c.args.number bytes)) is (c.put_out.ensures.left tells))

pub returns-in_err-put_out-clause-left : goal.returns-in_err-put_out-clause-left
returns-in_err-put_out-clause-left g c t tells pages = left g (goal.at.returns-in_err-put_out-clause-left g c).After-put_out t pages tells

pub returns-in_err-put_out-clause-long : goal.returns-in_err-put_out-clause-long
returns-in_err-put_out-clause-long g c t pages = long g (goal.at.returns-in_err-put_out-clause-long g c).After-put_out t pages

pub invariant_of-self-2 : goal.invariant_of-self-2
invariant_of-self-2 g c =
    let same = ap (λ f. f.page_size) c.put_out.ensures.same in (
      valid_marked c.self.inside.cache c.clean.new.self c.self.inside.files.page_size c.put_out.new.self.page_size c.self.invariant.0 same c.args.number _ c.clean.ensures,
      c.self.invariant.1 ∙ sym same,
      (λ merges. subst (λ k. NoneWaits k) (sym (ap (λ (h : Rattle.nb_cache.specs.Held.Held). h.pages) c.clean.ensures))
          (marked_none c.args.number c.self.inside.cache.pages (c.self.invariant.2 (sym (ap (λ f. f.state) c.put_out.ensures.same) ∙ merges)))),
    )

pub returns-clause-left : goal.returns-clause-left
returns-clause-left g c t tells pages = left g (goal.at.returns-clause-left g c).After-put_out t pages tells

pub returns-clause-put : goal.returns-clause-put
returns-clause-put g c t b tells pages shows may =
    let old = g.H.Host.world c.args.host.now in
    let new = g.H.Host.world c.put_out.new.host in
    let same = is g (goal.at.returns-clause-put g c).After-put_out t pages in
    subst (λ (h : Held). ShowsIn h.files.name (on_base (page c.args.number (page_at t.base.image c.args.number)) b) new.files) c.self.view_is
    (subst (λ bytes. ShowsIn c.self.inside.files.name (on_base (page c.args.number bytes) b) new.files) same
    (c.in_ok-put_out.ensures.put b tells (subst (λ (h : Held). ShowsIn h.files.name b old.files) (sym c.self.view_is) shows) (subst (λ bytes. MayPut b c.args.number bytes) (sym same) may)))

pub returns-clause-long : goal.returns-clause-long
returns-clause-long g c t pages = long g (goal.at.returns-clause-long g c).After-put_out t pages

pub returns-in_err-put_out-clause-within : goal.returns-in_err-put_out-clause-within
returns-in_err-put_out-clause-within g c most tells low = subst (λ (h : Held). KeepsFile (g.H.Host.world c.args.host.now) (g.H.Host.world c.put_out.new.host) h.files.name (EndsWithin (most * h.files.page_size))) c.self.view_is (c.put_out.ensures.within most tells low)

pub returns-clause-within : goal.returns-clause-within
returns-clause-within g c most tells low = subst (λ (h : Held). KeepsFile (g.H.Host.world c.args.host.now) (g.H.Host.world c.put_out.new.host) h.files.name (EndsWithin (most * h.files.page_size))) c.self.view_is (c.put_out.ensures.within most tells low)
