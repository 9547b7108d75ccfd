-- What one call after another says of the file and of the log.
use Rattle.std.proofs.Common.{◌≡◌, List, ℕ, refl, sym, subst, ap, ◌∙◌}
use Rattle.nb_delta.proofs.Common.{Files, with_file, with_page, World, IsDurable, IsSilent, with_file-same}

-- nothing was said by one run of calls after another
pub silence_none : (w : World) → IsSilent w w
silence_none w = record { said = refl; reads = refl; guids = refl; times = refl }

pub silence_joined : (old mid new : World) → IsSilent old mid → IsSilent mid new → IsSilent old new
silence_joined old mid new first second = record {
  said = second.said ∙ first.said;
  reads = second.reads ∙ first.reads;
  guids = second.guids ∙ first.guids;
  times = second.times ∙ first.times;
}

-- the file after its page was written
pub written : (old new : Files) (name page : List ℕ) (at : ℕ) → new ≡ with_file old name (with_page (old name) at page) → new name ≡ with_page (old name) at page
written old new name page at is = ap (λ (f : Files). f name) is ∙ with_file-same old name (with_page (old name) at page)

-- after a sync the file that reads is kept for good
pub durable_now : (old new : World) (name : List ℕ) → new.files ≡ old.files → IsDurable new name (old.files name) → IsDurable new name (new.files name)
durable_now old new name same durable = subst (λ (f : Files). IsDurable new name (f name)) (sym same) durable
