use Rattle.std.proofs.Common.{nat_eq, subst}
use Rattle.nb_owner.proofs.Common.{IsDistinct, keys_of, Held}
use Rattle.nb_owner.proofs.SeenLaws.{seen_over}
use Rattle.nb_owner.proofs.laws.what_waits_is_seen.Goals as goal

-- src/laws.rt:12:1
pub returns : goal.returns
returns g c = λ t told held. seen_over _ c.args.pair.now t (subst (λ (h : Held). IsDistinct nat_eq (keys_of h.pages)) c.pair.view_is c.pair.invariant.0.once) held
