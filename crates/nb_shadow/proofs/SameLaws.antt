-- Whose count of faults it is tells that a shadow is over the host that was lent to it, and over its pairs, whatever the host tells.
use Rattle.std.proofs.Common.{◌≡◌, ℕ, List, ◌∙◌, ap, subst, Result, Ok, Err, OnOk, Bool, IsTrue}
use Rattle.nb_host.specs.Causes.{CountsFault, FaultCount}
use Rattle.nb_host.specs.Files.{File}
use Rattle.nb_host.specs.World.{World}
use Rattle.nb_host.specs.Crash.{IsDurable}
use Rattle.std.proofs.lemmas.Result.{on_ok_weaker}
use Rattle.nb_shadow.specs.declared.pair.Pair.{Pair}
use Rattle.nb_shadow.specs.declared.pair.Pairs.{Pairs}
use Rattle.nb_shadow.specs.Pairs.{AreApart}
use Rattle.nb_shadow.specs.Shadowed.{counted, shadowed}
use Rattle.nb_shadow.specs.Alone.{AreDurable}
use Rattle.nb_shadow.proofs.AloneLaws.{both_durable}
use Rattle.nb_shadow.proofs.PassLaws.{reads_told}

-- the same reference, pairs and host
pub record IsSame (was is : ℕ) (ps now : Pairs) (old new : FaultCount) : Type 0 where
  pub host : is ≡ was
  pub pairs : now ≡ ps
  pub whose : new.whose ≡ old.whose

same_pair : (p q : Pair) → p.file ≡ q.file → p.copy ≡ q.copy → p ≡ q
same_pair p q file copy = ap (λ (n : List ℕ). record p { file = n }) file ∙ ap (λ (n : List ℕ). record q { copy = n }) copy

same_pairs : (ps qs : Pairs) → ps.main ≡ qs.main → ps.delta ≡ qs.delta → ps ≡ qs
same_pairs ps qs main delta = ap (λ (p : Pair). record ps { main = p }) main ∙ ap (λ (p : Pair). record qs { delta = p }) delta

pub whose_same : (was is : ℕ) (ps now : Pairs) (old new : FaultCount) (before after : ℕ) → (counted is now new after).whose ≡ (counted was ps old before).whose → IsSame was is ps now old new
whose_same was is ps now old new before after same = record {
  host = cc;
  pairs = same_pairs now ps (same_pair now.main ps.main (cc) (cc)) (same_pair now.delta ps.delta (cc) (cc));
  whose = cc;
}

-- a call's count is whose it was
pub whose_kept : {T E : Type 0} (r : Result T E) (old new : FaultCount) → CountsFault r old new → new.whose ≡ old.whose
whose_kept (Ok x) old new counts = ap (λ (f : FaultCount). f.whose) counts
whose_kept (Err e) old new counts = counts.whose

-- what is durable over a shadow is so of both files below it
pub synced_both : {T E : Type 0} (r : Result T E) (tells : Bool) → IsTrue tells → (ps now : Pairs) (apart : AreApart ps) (old new : World) → now ≡ ps
    → OnOk r (IsDurable (shadowed tells now new) ps.main.file ((shadowed tells ps old).files ps.main.file)) → OnOk r (AreDurable new ps.main (old.files ps.main.file))
synced_both r tells told ps now apart old new same durable = on_ok_weaker r below durable
  where
    reads : (shadowed tells ps old).files ps.main.file ≡ old.files ps.main.file
    reads = reads_told ps apart tells old ps.main.file told (record { not_main = apart.in_main; not_delta = apart.main_copy })

    below : IsDurable (shadowed tells now new) ps.main.file ((shadowed tells ps old).files ps.main.file) → AreDurable new ps.main (old.files ps.main.file)
    below d = both_durable tells told ps apart new (old.files ps.main.file)
        (subst (λ (qs : Pairs). IsDurable (shadowed tells qs new) ps.main.file (old.files ps.main.file)) same
        (subst (λ (f : File). IsDurable (shadowed tells now new) ps.main.file f) reads d))
