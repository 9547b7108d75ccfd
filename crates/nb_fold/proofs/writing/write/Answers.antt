use Rattle.std.proofs.Common.{inl, ℕ, List, ap, subst, ◌∙◌, arith}
use Rattle.nb_fold.proofs.Common.{head_of, level_bytes, LevelWriting, IsKept, IsUnfinished, IsTaken, passed}
use Rattle.nb_fold.proofs.MergeLaws.{folding_made, folded_or, closed_or, makes_weaker}
use Rattle.nb_fold.proofs.writing.write.Goals as goal

pub returns-in_err-begin-clause-makes : goal.returns-in_err-begin-clause-makes
returns-in_err-begin-clause-makes g c tells whole most ready =
    makes_weaker _ _ c.args.out.now IsUnfinished _ (λ f is. inl is) (c.begin.ensures.makes tells ready.may.formed)

pub returns-in_err-merge-clause-makes : goal.returns-in_err-merge-clause-makes
returns-in_err-merge-clause-makes g c tells whole most ready =
    let first = c.begin.ensures.makes tells ready.may.formed in
    let folding = folding_made _ _ _ _ c.requires.name _ _ _ ready first (c.in_ok-begin.ensures.begun tells c.requires.empty c.requires.fresh) c.begin.ensures.reads in
    makes_weaker _ _ c.args.out.now IsUnfinished _ (λ f is. inl is) (folded_or _ _ _ _ c.requires.name _ _ _ ready first _ (g.met.H.Host.reads_left _ tells _) (c.merge.ensures.makes tells whole most folding))

pub returns-in_err-merge-clause-sure : goal.returns-in_err-merge-clause-sure
returns-in_err-merge-clause-sure g c tells whole most ready =
    let first = c.begin.ensures.makes tells ready.may.formed in
    let folding = folding_made _ _ _ _ c.requires.name _ _ _ ready first (c.in_ok-begin.ensures.begun tells c.requires.empty c.requires.fresh) c.begin.ensures.reads in
    passed _ (λ r. IsTaken {T = Unit {0}} r (λ done. Unit {0})) c.from_residual-in_err-merge.result c.in_err-merge.field-0.0 c.from_residual-in_err-merge.ensures (c.in_err-merge.ensures.sure tells whole most folding)

pub returns-in_err-close-clause-makes : goal.returns-in_err-close-clause-makes
returns-in_err-close-clause-makes g c tells whole most ready =
    let first = c.begin.ensures.makes tells ready.may.formed in
    let folding = folding_made _ _ _ _ c.requires.name _ _ _ ready first (c.in_ok-begin.ensures.begun tells c.requires.empty c.requires.fresh) c.begin.ensures.reads in
    let done = c.in_ok-merge.ensures.folds tells whole most folding in
    closed_or _ _ _ _ c.requires.name _ _ _ ready first (g.H.Host.world c.merge.new.host) (g.H.Host.world c.close.new.host) c.merge.new.file (ap (λ (f : LevelWriting). f.name) c.merge.ensures.same) (ap (λ (f : LevelWriting). f.head) c.merge.ensures.same)
    (g.met.H.Host.reads_left _ tells _) (g.met.H.Host.reads_left _ tells _) (c.merge.ensures.makes tells whole most folding) (record { left = c.close.ensures.left tells whole done.has done.may; reads = c.close.ensures.reads tells whole done.has done.may })

pub returns-clause-makes : goal.returns-clause-makes
returns-clause-makes g c tells whole most ready =
    let first = c.begin.ensures.makes tells ready.may.formed in
    let folding = folding_made _ _ _ _ c.requires.name _ _ _ ready first (c.in_ok-begin.ensures.begun tells c.requires.empty c.requires.fresh) c.begin.ensures.reads in
    let done = c.in_ok-merge.ensures.folds tells whole most folding in
    closed_or _ _ _ _ c.requires.name _ _ _ ready first (g.H.Host.world c.merge.new.host) (g.H.Host.world c.close.new.host) c.merge.new.file (ap (λ (f : LevelWriting). f.name) c.merge.ensures.same) (ap (λ (f : LevelWriting). f.head) c.merge.ensures.same)
    (g.met.H.Host.reads_left _ tells _) (g.met.H.Host.reads_left _ tells _) (c.merge.ensures.makes tells whole most folding) (record { left = c.close.ensures.left tells whole done.has done.may; reads = c.close.ensures.reads tells whole done.has done.may })

pub returns-clause-done : goal.returns-clause-done
returns-clause-done g c tells whole most ready =
    let first = c.begin.ensures.makes tells ready.may.formed in
    let folding = folding_made _ _ _ _ c.requires.name _ _ _ ready first (c.in_ok-begin.ensures.begun tells c.requires.empty c.requires.fresh) c.begin.ensures.reads in
    let done = c.in_ok-merge.ensures.folds tells whole most folding in
    let three = g.H.Host.world c.close.new.host in
    let head = ap (λ (f : LevelWriting). level_bytes 102 (head_of f.head) whole) c.merge.ensures.same in
    subst (λ (n : List ℕ). IsKept three n (level_bytes 102 (head_of c.args.file.now.head) whole)) (ap (λ (f : LevelWriting). f.name) c.merge.ensures.same ∙ c.requires.name) (subst (λ (b : List ℕ). IsKept three c.merge.new.file.name b) head (c.in_ok-close.ensures.done tells whole done.has done.may))

pub returns-clause-pages : goal.returns-clause-pages
returns-clause-pages g c tells whole most ready =
    let first = c.begin.ensures.makes tells ready.may.formed in
    let folding = folding_made _ _ _ _ c.requires.name _ _ _ ready first (c.in_ok-begin.ensures.begun tells c.requires.empty c.requires.fresh) c.begin.ensures.reads in
    let done = c.in_ok-merge.ensures.folds tells whole most folding in
    ap (λ (f : LevelWriting). f.written) c.close.ensures.same ∙ done.has.counted

pub returns-in_err-begin-clause-within : goal.returns-in_err-begin-clause-within
returns-in_err-begin-clause-within g c tells whole most ready = let reads = ready.reads in omega (arith, reads, c.begin.ensures.reads)

pub returns-in_err-merge-clause-within : goal.returns-in_err-merge-clause-within
returns-in_err-merge-clause-within g c tells whole most ready =
    let first = c.begin.ensures.makes tells ready.may.formed in
    c.merge.ensures.within tells whole most (folding_made _ _ _ _ c.requires.name _ _ _ ready first (c.in_ok-begin.ensures.begun tells c.requires.empty c.requires.fresh) c.begin.ensures.reads)

pub returns-in_err-close-clause-within : goal.returns-in_err-close-clause-within
returns-in_err-close-clause-within g c tells whole most ready =
    let first = c.begin.ensures.makes tells ready.may.formed in
    let merged = c.merge.ensures.within tells whole most (folding_made _ _ _ _ c.requires.name _ _ _ ready first (c.in_ok-begin.ensures.begun tells c.requires.empty c.requires.fresh) c.begin.ensures.reads) in
    omega (arith, merged, c.close.ensures.log.reads)

pub returns-clause-within : goal.returns-clause-within
returns-clause-within g c tells whole most ready =
    let first = c.begin.ensures.makes tells ready.may.formed in
    let merged = c.merge.ensures.within tells whole most (folding_made _ _ _ _ c.requires.name _ _ _ ready first (c.in_ok-begin.ensures.begun tells c.requires.empty c.requires.fresh) c.begin.ensures.reads) in
    omega (arith, merged, c.close.ensures.log.reads)
