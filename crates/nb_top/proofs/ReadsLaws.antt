-- What reads after a run.
use Rattle.std.proofs.Common.{◌≡◌, inl, inr, ⊎_elim, ℕ, List, ap, ◌∙◌, Option, None, Some}
use Rattle.nb_top.proofs.Common.{Files, World, Quiet, Account, delta_name, Event, ReadsAsked, RunReads, Target}

-- Nothing happened, whatever the run must have been.
module _ (old new : World) (quiet : Quiet old new) (account : Account) (target : Option Target) (events : List Event) where
  same : (m : List ℕ) → new.files m ≡ old.files m
  same m = ap (λ (f : Files). f m) quiet.still.files

  asked : (t : Option Target) → ReadsAsked old new account t events
  asked None = tt
  asked (Some t) = inr (record { main = inl (same t.name); delta = same (delta_name t.name) })

  pub reads_quiet : RunReads old new account target events
  reads_quiet = record { others = λ m unasked none. same m; database = asked target; unchanged = λ only. quiet.still.files }

-- Nothing happened before it.
module _ (old mid new : World) (quiet : Quiet old mid) (account : Account) (target : Option Target) (events : List Event) where
  before : (m : List ℕ) → mid.files m ≡ old.files m
  before m = ap (λ (f : Files). f m) quiet.still.files

  asked_then : (t : Option Target) → ReadsAsked mid new account t events → ReadsAsked old new account t events
  asked_then None is = tt
  asked_then (Some t) (inl stands) = inl stands
  asked_then (Some t) (inr unbegun) = inr (record {
    main = ⊎_elim (λ is. inl (is ∙ before t.name)) inr unbegun.main;
    delta = unbegun.delta ∙ before (delta_name t.name);
  })

  pub reads_quietly : RunReads mid new account target events → RunReads old new account target events
  reads_quietly reads = record {
    others = λ m unasked none. reads.others m unasked none ∙ before m;
    database = asked_then target reads.database;
    unchanged = λ only. reads.unchanged only ∙ quiet.still.files;
  }
