-- What a call that changes no file comes to where it is made over a shadow.
use Rattle.std.proofs.Common.{◌≡◌, ℕ, Bool, true, false, List, refl, sym, ◌∙◌, ap, subst, arith, Result, IfOk, IsTrue}
use Rattle.std.proofs.lemmas.Bool.{false≢true}
use Rattle.nb_host.specs.Files.{File, Files}
use Rattle.nb_host.specs.World.{World}
use Rattle.nb_host.specs.Calls.{IsStill, CountsRead}
use Rattle.nb_host.specs.Moments.{Passes, PassesSaying}
use Rattle.nb_shadow.specs.declared.pair.Pairs.{Pairs}
use Rattle.nb_shadow.specs.Pairs.{AreApart, IsNoTwin}
use Rattle.nb_shadow.specs.Mirror.{mirrored}
use Rattle.nb_shadow.specs.Shadowed.{silence, shadowed, IsInStep}
use Rattle.nb_shadow.proofs.SeenLaws.{reads_below, seen_still, seen_passes, seen_saying}
use Rattle.nb_shadow.proofs.ShadowLaws.{no_time}

module _ (ps : Pairs) (apart : AreApart ps) where
  -- a file that is no twin reads as the host's
  reads_same : (w : World) (name : List ℕ) → IsNoTwin ps name → (shadowed true ps w).files name ≡ w.files name
  reads_same w name no_twin = reads_below ps.delta apart.in_delta (mirrored ps.main w) name no_twin.not_delta ∙ reads_below ps.main apart.in_main w name no_twin.not_main

  pub reads_told : (tells : Bool) (w : World) (name : List ℕ) → IsTrue tells → IsNoTwin ps name → (shadowed tells ps w).files name ≡ w.files name
  reads_told true w name told no_twin = reads_same w name no_twin
  reads_told false w name told no_twin = absurd (false≢true told)

  pub answers : {T E : Type 0} (tells : Bool) (w : World) (name : List ℕ) (r : Result T E) (P : File → T → Type 0) → IsNoTwin ps name → (IsTrue tells → IfOk r (P (w.files name))) → IsTrue tells → IfOk r (P ((shadowed tells ps w).files name))
  answers true w name r P no_twin is told = subst (λ (f : File). IfOk r (P f)) (sym (reads_same w name no_twin)) (is told)
  answers false w name r P no_twin is told = absurd (false≢true told)

  pub still : (tells : Bool) (a b : World) → IsStill a b → IsStill (shadowed tells ps a) (shadowed tells ps b)
  still true a b is = seen_still ps.delta apart.in_delta (mirrored ps.main a) (mirrored ps.main b) (seen_still ps.main apart.in_main a b is)
  still false a b is = record { files = refl; left = record { back = λ m c any left. left; now = λ m c any left. left } }

  pub passes : (tells : Bool) (a b : World) → Passes a b → Passes (shadowed tells ps a) (shadowed tells ps b)
  passes true a b time = seen_passes ps.delta apart.in_delta (mirrored ps.main a) (mirrored ps.main b) (seen_passes ps.main apart.in_main a b time)
  passes false a b time = no_time silence

  pub passes_saying : (tells : Bool) (a b : World) → PassesSaying a b → PassesSaying (shadowed tells ps a) (shadowed tells ps b)
  passes_saying true a b time = seen_saying ps.delta apart.in_delta (mirrored ps.main a) (mirrored ps.main b) (seen_saying ps.main apart.in_main a b time)
  passes_saying false a b time = record { later = omega arith; nothing_else = λ t files said le since. absurd since; keeps = λ t files said le since. since }

  pub counts : {T E : Type 0} (tells : Bool) (r : Result T E) (a b : World) → CountsRead tells r a b → CountsRead tells r (shadowed tells ps a) (shadowed tells ps b)
  counts true r a b is = record { said = is.said; reads = is.reads; guids = is.guids; times = is.times }
  counts false r a b is = record { said = refl; reads = λ told. absurd (false≢true told); guids = refl; times = refl }

-- a call that changes no file leaves the twins in step
pub still_in_step : (ps : Pairs) (a b : World) → IsStill a b → IsInStep ps a → IsInStep ps b
still_in_step ps a b is step = record {
  main = same ps.main.file ∙ step.main ∙ sym (same ps.main.copy);
  delta = same ps.delta.file ∙ step.delta ∙ sym (same ps.delta.copy);
}
  where
    same : (m : List ℕ) → b.files m ≡ a.files m
    same m = ap (λ (f : Files). f m) is.files
