-- Pages that wait are written out, one after another: nothing changes but which pages wait.
use Rattle.std.proofs.Common.{◌≡◌, ℕ, refl, ap, ◌∙◌, None, inl, inr, sym, Some}
use Rattle.nb_owner.proofs.Common.{World, with_rank, Held, bare, eqb_tells, rank_of, Pages, none_some}
use Rattle.nb_host.specs.Causes.{FaultCount}
use Rattle.nb_change.specs.Gave.{GaveNothing}
use Rattle.nb_change.proofs.GaveLaws.{nothing_joined}
use Rattle.nb_owner.specs.Open.{AreBelow}
use Rattle.nb_owner.proofs.RankLaws.{marked_bare, rank_marked, rank_marked_other, waits_there}

-- what stays of the world, of what is held, and of the count of faults
pub record Keeps (old new : World) (was is : Held) (before after : FaultCount) : Type 0 where
  pub files : is.files ≡ was.files
  pub bare : bare is.pages ≡ bare was.pages
  pub cap : is.cap ≡ was.cap
  pub gave : GaveNothing old new
  pub reads : new.reads ≡ old.reads
  pub cause : after ≡ before

pub keeps_begun : (w : World) (held : Held) (faults : FaultCount) → Keeps w w held held faults faults
keeps_begun w held faults = record { files = refl; bare = refl; cap = refl; gave = record { guids = refl; times = refl }; reads = refl; cause = refl }

-- page p waits no longer
pub keeps_on : (old mid new : World) (was between is : Held) (before middle after : FaultCount) (p : ℕ) → Keeps old mid was between before middle → is ≡ record between { pages = with_rank p None between.pages }
    → GaveNothing mid new → new.reads ≡ mid.reads → after ≡ middle → Keeps old new was is before after
keeps_on old mid new was between is before middle after p kept done gave reads cause = record {
  files = ap (λ (h : Held). h.files) done ∙ kept.files;
  bare = ap (λ (h : Held). bare h.pages) done ∙ marked_bare p None between.pages ∙ kept.bare;
  cap = ap (λ (h : Held). h.cap) done ∙ kept.cap;
  gave = nothing_joined old mid new kept.gave gave;
  reads = reads ∙ kept.reads;
  cause = cause ∙ kept.cause;
}

-- what waits is one of so many still, once page p waits no longer
pub below_on : (most p rank : ℕ) (pages : Pages) → rank_of pages p ≡ Some rank → AreBelow most pages → AreBelow most (with_rank p None pages)
below_on most p rank pages at below q r still = elim (eqb_tells q p) [
  | inl e ↦ absurd (none_some {X = ℕ} _ (sym (rank_marked p None pages (waits_there p rank pages at)) ∙ sym (ap (rank_of (with_rank p None pages)) e.1) ∙ still))
  | inr e ↦ below q r (sym (rank_marked_other p q None pages e.1) ∙ still)
]
