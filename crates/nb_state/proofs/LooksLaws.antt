-- What calls that only look make together.
use Rattle.std.proofs.Common.{◌≡◌, ◌∙◌, Bool, refl, subst}
use Rattle.nb_state.proofs.Common.{World, IsTimely, Held, Quiet, Looks, quiet_begun, quiet_joined}
use Rattle.nb_state.proofs.MakesLaws.{open_quiet}

-- two looks, one after the other, are one
pub looks_then : {tells : Bool} {old mid new : World} {before between after : Held} → Looks tells old mid before between → Looks tells mid new between after → Looks tells old new before after
looks_then first second = record {
  opened = λ t told is. second.opened t told (first.opened t told is);
  same = second.same ∙ first.same;
  quiet = quiet_joined _ _ _ first.quiet second.quiet;
}

-- what looks at a database looks at one that is seen as it
pub looks_named : {tells : Bool} {old new : World} {held named after : Held} → held ≡ named → Looks tells old new held after → Looks tells old new named after
looks_named {tells} {old} {new} {after} is looks = subst (λ (h : Held). Looks tells old new h after) is looks

-- a call that is quiet and doesn't take the database looks at it
pub looks_quiet : {tells : Bool} {old new : World} {held : Held} → Quiet old new → Looks tells old new held held
looks_quiet {old} {new} {held} quiet = record { opened = λ t told is. open_quiet old new held t quiet is; same = refl; quiet = quiet }

-- before the first call of all, nothing has changed
pub looks_begun : {tells : Bool} {held : Held} → (w : World) → IsTimely w → Looks tells w w held held
looks_begun w timely = looks_quiet (quiet_begun w timely)
