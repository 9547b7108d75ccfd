use Rattle.std.proofs.Common.{ℕ, List, refl, ap, subst, ◌∙◌, arith, Bool}
use Rattle.nb_fold.proofs.Common.{gave_begun, nothing_joined, LevelWriting, IsUnfinished, FallsOn, FoldsOn, Makes, AreOfPages, IsTaken, fails_alike, passed}
use Rattle.nb_fold.proofs.MergeLaws.{makes_none, makes_then}
use Rattle.nb_fold.proofs.merging.merge.Goals as goal

pub loop-init : goal.loop-init
loop-init g c = record {
  sizes = c.requires.sizes;
  few = c.requires.few;
  same = refl;
  folding = λ tells whole most folding. folding;
  makes = λ tells whole most folding. makes_none _ _ _ whole most (g.met.H.Host.timely _) folding;
  gave = gave_begun _;
  cause = refl;
}

pub loop-preserved : goal.loop-preserved
loop-preserved g c =
    let loop = c.loop.invariant in
    let page = c.in_ok-fold_page.ensures in
    let falls = subst (λ b. FallsOn b c.loop.file c.fold_page.new.file c.loop.sources c.fold_page.new.sources) c.if-branch.true page.falls in
    let name = ap (λ (f : LevelWriting). f.name) loop.same in
    record {
      sizes = subst (λ n. AreOfPages n c.fold_page.new.sources) (ap (λ (f : LevelWriting). f.head.page_size) loop.same) c.fold_page.ensures.sizes;
      few = let l = loop.few in let m = falls.1 in omega (arith, l, m);
      same = c.fold_page.ensures.same ∙ ap (λ (f : LevelWriting). record f { written = c.fold_page.new.file.written; run = c.fold_page.new.file.run }) loop.same;
      folding = λ tells whole most folding. subst (λ b. FoldsOn b (g.H.Host.world c.fold_page.new.host) c.fold_page.new.file c.fold_page.new.sources whole most) c.if-branch.true (page.folds tells whole most (loop.folding tells whole most folding));
      makes = λ tells whole most folding.
          makes_then _ (g.H.Host.world c.loop.host) _ _ IsUnfinished (g.met.H.Host.reads_left _ tells _) (loop.makes tells whole most folding)
          (subst (λ (n : List ℕ). Makes (g.H.Host.world c.loop.host) (g.H.Host.world c.fold_page.new.host) n IsUnfinished) name (c.fold_page.ensures.makes tells whole most (loop.folding tells whole most folding)));
      gave = nothing_joined _ _ _ loop.gave c.fold_page.ensures.gave;
      cause = page.cause ∙ loop.cause;
    }

pub loop-smaller : goal.loop-smaller
loop-smaller g c = (subst (λ b. FallsOn b c.loop.file c.fold_page.new.file c.loop.sources c.fold_page.new.sources) c.if-branch.true c.in_ok-fold_page.ensures.falls).0

pub returns-clause-folds : goal.returns-clause-folds
returns-clause-folds g c tells whole most folding =
    subst (λ b. FoldsOn b (g.H.Host.world c.fold_page.new.host) c.fold_page.new.file c.fold_page.new.sources whole most) c.if-branch.false (c.in_ok-fold_page.ensures.folds tells whole most (c.loop.invariant.folding tells whole most folding))

pub returns-clause-makes : goal.returns-clause-makes
returns-clause-makes g c tells whole most folding =
    let loop = c.loop.invariant in
    makes_then _ (g.H.Host.world c.loop.host) _ _ IsUnfinished (g.met.H.Host.reads_left _ tells _) (loop.makes tells whole most folding)
    (subst (λ (n : List ℕ). Makes (g.H.Host.world c.loop.host) (g.H.Host.world c.fold_page.new.host) n IsUnfinished) (ap (λ (f : LevelWriting). f.name) loop.same) (c.fold_page.ensures.makes tells whole most (loop.folding tells whole most folding)))

pub returns-in_err-fold_page-clause-sure : goal.returns-in_err-fold_page-clause-sure
returns-in_err-fold_page-clause-sure g c tells whole most folding =
    passed _ (λ r. IsTaken {T = Unit {0}} r (λ done. Unit {0})) c.from_residual.result c.in_err-fold_page.field-0.0 c.from_residual.ensures
    (fails_alike {S = Bool} (λ more. Unit {0}) (λ done. Unit {0}) c.in_err-fold_page.field-0.0 (c.in_err-fold_page.ensures.sure tells whole most (c.loop.invariant.folding tells whole most folding)))

pub returns-in_err-fold_page-clause-makes : goal.returns-in_err-fold_page-clause-makes
returns-in_err-fold_page-clause-makes g c tells whole most folding =
    let loop = c.loop.invariant in
    makes_then _ (g.H.Host.world c.loop.host) _ _ IsUnfinished (g.met.H.Host.reads_left _ tells _) (loop.makes tells whole most folding)
    (subst (λ (n : List ℕ). Makes (g.H.Host.world c.loop.host) (g.H.Host.world c.fold_page.new.host) n IsUnfinished) (ap (λ (f : LevelWriting). f.name) loop.same) (c.fold_page.ensures.makes tells whole most (loop.folding tells whole most folding)))

pub returns-in_err-fold_page-clause-within : goal.returns-in_err-fold_page-clause-within
returns-in_err-fold_page-clause-within g c tells whole most folding = c.fold_page.ensures.within tells whole most (c.loop.invariant.folding tells whole most folding)

pub returns-clause-within : goal.returns-clause-within
returns-clause-within g c tells whole most folding = c.fold_page.ensures.within tells whole most (c.loop.invariant.folding tells whole most folding)
