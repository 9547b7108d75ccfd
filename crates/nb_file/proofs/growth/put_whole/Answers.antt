use Rattle.std.proofs.Common.{◌≡◌, ◌∙◌, ◌+◌, ◌<◌, ◌≤◌, ◌⊎◌, inl, inr, ℕ, List, length, refl, sym, ap, subst, arith, IsTrue, OnOk}
use Rattle.nb_file.proofs.Common.{put_at, resized, IsBegun, IsWhole}
use Rattle.nb_file.proofs.GrowthLaws.{put_at-resized, whole-within, same-within, whole-set_back, undone-set_back}
use Rattle.nb_file.proofs.PutLaws.{length-put_at}
use Rattle.nb_file.proofs.growth.put_whole.Goals as goal

-- single bytes, or within the file as it is
either : {P Q : Type 0} (len long end : ℕ) → len ≡ long → P ⊎ Q × (end ≤ len) → P ⊎ (end ≤ long)
either len long end is (inl p) = inl p
either len long end is (inr (q, within)) = inr (omega (arith, is, within))

pub returns-then-piece-eq1-clause-whole : goal.returns-then-piece-eq1-clause-whole
returns-then-piece-eq1-clause-whole g c = λ told. whole-within c.put.result c.args.piece c.args.at c.args.bytes.now _ _
    (either c.args.len _ _ (c.requires.measured told) c.then-piece-eq1.either) (c.put.ensures.put told) (c.put.ensures.begun told)

pub returns-then-piece-eq1-clause-undone : goal.returns-then-piece-eq1-clause-undone
returns-then-piece-eq1-clause-undone g c = λ told. same-within c.put.result (g.F.Disk.failed c.put.new.self ≡ g.F.Disk.failed c.args.file.now + 1) c.args.piece c.args.at c.args.bytes.now _ _
    (either c.args.len _ _ (c.requires.measured told) c.then-piece-eq1.either) (c.put.ensures.begun told)

pub returns-in-Ok-clause-bytes : goal.returns-in-Ok-clause-bytes
returns-in-Ok-clause-bytes g c = λ told. c.in-Ok.ensures.put told ∙ ap (λ (l : List ℕ). put_at l c.args.at c.args.bytes.now) (c.in_ok-resize.ensures.resized told)
    ∙ put_at-resized _ c.args.at c.args.bytes.now (c.args.at + length c.args.bytes.now) (omega (arith, c.requires.measured told, c.if-end-len.false)) refl

pub returns-in-Ok-clause-whole : goal.returns-in-Ok-clause-whole
returns-in-Ok-clause-whole g c = λ told _.
    let len : length (g.F.Disk.bytes c.put-2.new.self) ≡ c.args.at + length c.args.bytes.now =
    ap length (returns-in-Ok-clause-bytes g c told) ∙ length-put_at _ c.args.at c.args.bytes.now ∙ omega (arith, c.requires.measured told, c.if-end-len.false) in
    subst (IsWhole c.args.piece) (sym len) c.requires.whole

module _ (g : _) (c : goal.After-resize-in-Err g) (told : IsTrue g.F.Disk.tells) where
  behind : length (g.F.Disk.bytes c.args.file.now) < c.args.at + length c.args.bytes.now
  behind = omega (arith, c.requires.measured told, c.if-end-len.false)

  begun : IsBegun (resized (g.F.Disk.bytes c.args.file.now) (c.args.at + length c.args.bytes.now)) c.args.at c.args.bytes.now (g.F.Disk.bytes c.put-2.new.self)
  begun = subst (λ (l : List ℕ). IsBegun l c.args.at c.args.bytes.now (g.F.Disk.bytes c.put-2.new.self)) (c.in_ok-resize.ensures.resized told) (c.in-Err.ensures.begun told)

  cut : OnOk c.resize-in-Err.result (g.F.Disk.bytes c.resize-in-Err.new.self ≡ resized (g.F.Disk.bytes c.put-2.new.self) (length (g.F.Disk.bytes c.args.file.now)))
  cut = subst (λ (n : ℕ). OnOk c.resize-in-Err.result (g.F.Disk.bytes c.resize-in-Err.new.self ≡ resized (g.F.Disk.bytes c.put-2.new.self) n)) (c.requires.measured told) (c.resize-in-Err.ensures.resized told)

pub returns-in-Err-clause-whole : goal.returns-in-Err-clause-whole
returns-in-Err-clause-whole g c = λ told was. whole-set_back _ c.args.at c.args.bytes.now _ _ (behind g c told) refl (begun g c told)
    c.resize-in-Err.result _ c.args.piece (cut g c told) (c.resize-in-Err.ensures.same told) was c.requires.whole

pub returns-in-Err-clause-undone : goal.returns-in-Err-clause-undone
returns-in-Err-clause-undone g c = λ told many once. undone-set_back _ c.args.at c.args.bytes.now _ _ (behind g c told) refl (begun g c told)
    c.resize-in-Err.result _ _ _ _ (cut g c told) (c.in-Err.ensures.failed told ∙ ap (λ n. n + 1) (c.in_ok-resize.ensures.failed told)) (c.resize-in-Err.ensures.failed told) once
