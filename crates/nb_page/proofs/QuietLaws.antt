-- How runs of calls that change nothing go on.
use Rattle.std.proofs.Common.{◌≡◌, inl, inr, ⊎_elim, ℕ, List, refl, ◌∙◌, arith}
use Rattle.nb_page.proofs.Common.{Files}
use Rattle.nb_host.specs.World.{World}
use Rattle.nb_host.specs.Crash.{Leaves, Untouched}
use Rattle.nb_host.specs.Calls.{IsStill}
use Rattle.nb_host.specs.Moments.{IsNow, Passes, IsTimely}
use Rattle.nb_page.specs.Quiet.{Quiet}

-- what a crash leaves later it would have left before
pub left_before : (old new : World) (names : List ℕ → Type 0) → Untouched old new names → (name : List ℕ) (file : Files) → names name → Leaves new name (file name) → Leaves old name (file name)
left_before old new names same name file is = ⊎_elim (λ b. inl (same.back name (file name) is b)) (λ n. inr (same.now name (file name) is n))

-- after calls that leave the files and say nothing, this moment is as the earlier one
pub now_before : (old new : World) → IsStill old new → new.said ≡ old.said → (files : Files) (said : List ℕ) → IsNow new files said → IsNow old files said
now_before old new still silent files said is = record { left = λ name. left_before old new _ still.left name files tt (is.left name); output = is.output ∙ silent }

still_joined : (old mid new : World) → IsStill old mid → IsStill mid new → IsStill old new
still_joined old mid new first second = record {
  files = second.files ∙ first.files;
  left = record {
    back = λ m c is b. first.left.back m c is (second.left.back m c is b);
    now = λ m c is n. first.left.now m c is (second.left.now m c is n);
  };
}

-- before the first call
pub quiet_begun : (old : World) → IsTimely old → Quiet old old
quiet_begun old timely = record {
  still = record { files = refl; left = record { back = λ m c is b. b; now = λ m c is n. n } };
  said = refl;
  guids = refl;
  times = refl;
  moments = record { later = omega arith; each = timely.only_now; earlier = λ t files said le left. inl left };
}

-- one run after another
pub quiet_joined : (old mid new : World) → Quiet old mid → Quiet mid new → Quiet old new
quiet_joined old mid new first second = record {
  still = still_joined old mid new first.still second.still;
  said = second.said ∙ first.said;
  guids = second.guids ∙ first.guids;
  times = second.times ∙ first.times;
  moments = record {
    later = omega (arith, first.moments.later, second.moments.later);
    each = λ files said left. ⊎_elim (first.moments.each files said) (now_before old mid first.still first.said files said) (second.moments.earlier old.moment files said first.moments.later left);
    earlier = λ t files said le left. ⊎_elim (first.moments.earlier t files said le) (λ is. inr (now_before old mid first.still first.said files said is)) (second.moments.earlier t files said (omega (arith, le, first.moments.later)) left);
  };
}

-- one call
pub quiet_call : (old new : World) → IsTimely old → IsStill old new → new.said ≡ old.said → new.guids ≡ old.guids → new.times ≡ old.times → Passes old new → Quiet old new
quiet_call old new timely still said guids times passes = record {
  still = still;
  said = said;
  guids = guids;
  times = times;
  moments = record {
    later = passes.later;
    each = λ files s left. ⊎_elim (timely.only_now files s) (now_before old new still said files s) (passes.nothing_else old.moment files s (omega arith) left);
    earlier = λ t files s le left. ⊎_elim inl (λ is. inr (now_before old new still said files s is)) (passes.nothing_else t files s le left);
  };
}
