use Rattle.std.proofs.Common.{ℕ, ◌≡◌, ◌*◌, length, refl, ap, subst, arith}
use Rattle.nb_base.proofs.Common.{Known, fresh}
use Rattle.nb_base.proofs.CreatedLaws.{created}
use Rattle.nb_base.specs.Stays.{FileIs, EndsWithin}
use Rattle.nb_base.proofs.files.TwoFiles.create.Goals as goal

pub returns-clause-creates : goal.returns-clause-creates
returns-clause-creates g c tells =
    created _ _ c.requires.size c.requires.raw _ (omega (arith, c.deref_mut.ensures.len, c.in_ok-page.ensures.len)) _ _ _ _ c.copied.ensures (ap (λ (d : Known). d.page_size) c.in_ok-delta.ensures.ok) refl refl (ap (λ (d : Known). d.entries) c.in_ok-delta.ensures.ok) (ap (λ (d : Known). d.drafted) c.in_ok-delta.ensures.ok) (c.in_ok-count.ensures.creates tells)
    c.in_ok-count.ensures.gave

pub returns-clause-within : goal.returns-clause-within
returns-clause-within g c tells =
    let made = c.in_ok-count.ensures.creates tells in
    let new = g.H.Host.world c.create_file.new.host in
    let long : length c.deref_mut.result.now ≡ c.args.page_size = omega (arith, c.deref_mut.ensures.len, c.in_ok-page.ensures.len) in
    subst (λ (size : ℕ). FileIs new c.args.name.now (EndsWithin (length (fresh size c.args.raw) * size))) long
    (subst (λ (count : ℕ). FileIs new c.args.name.now (EndsWithin (count * length c.deref_mut.result.now))) made.answer.1 (c.in_ok-count.ensures.within tells))
