use Rattle.std.proofs.Common.{drop, ◌++◌, List, ℕ, refl, sym, ap, ◌∙◌}
use Rattle.nb_base.proofs.Common.{length-take-le}
use Rattle.nb_base.proofs.PageReads.{front_read}
use Rattle.nb_base.proofs.reads.read_front.Goals as goal

pub copy_from_slice-requires : goal.copy_from_slice-requires
copy_from_slice-requires g c = length-take-le 64 c.args.into.now c.requires.size ∙ sym c.read_at.auto.into

pub returns-clause-page : goal.returns-clause-page
returns-clause-page g c bytes tells is low =
    ap (λ (x : List ℕ). x ++ drop 64 c.args.into.now)
    (c.copy_from_slice.ensures.after ∙ front_read _ bytes _ c.read_at.new.into c.in_ok-read_at.field-0 is refl c.read_at.auto.into low (c.in_ok-read_at.ensures.answer tells))
