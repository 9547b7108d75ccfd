use Rattle.nb_change.specs.Changes.{Touches}
-- Calls that touch one file alone, whatever stands in it.
use Rattle.std.proofs.Common.{◌≡◌, ℕ, List, subst, Bool, IsTrue, Result}
use Rattle.nb_gather.proofs.Common.{Files, World, IsStill, WritesPage, AppendsBytes, IsTimely, Passes, Quiet, Changes, ChangedLeft, Only, Moved, still_alone, page_alone, bytes_alone, begun, rested, composed, weaker_has, started, goes_on, IsWhileAdding, AddsTwo}
use Rattle.nb_gather.proofs.AppendLaws.{two_others}

-- nothing is said of what a crash leaves
abbrev Any : Files → Type 0
Any files = Unit {0}

-- the same file by another name for it
pub touches_named : (old new : World) (m n : List ℕ) → m ≡ n → Touches old new (Only m) → Touches old new (Only n)
touches_named old new m n same touches = subst (λ (x : List ℕ). Touches old new (Only x)) same touches

module _ (name : List ℕ) where
  -- more was said of what a crash leaves
  pub touches_has : (old new : World) (P : Files → Type 0) → Changes old new (Only name) P → Touches old new (Only name)
  touches_has old new P changes = weaker_has old new (Only name) P Any changes (λ files has. tt)

  -- before the first call
  pub touches_none : (w : World) → IsTimely w → Touches w w (Only name)
  touches_none w timely = begun w (Only name) Any timely (λ files left. tt)

  -- one run of calls after another
  pub touches_then : (old mid new : World) → Touches old mid (Only name) → Touches mid new (Only name) → Touches old new (Only name)
  touches_then old mid new first second = composed old mid new (Only name) Any Any Any first second (λ files has. has) (λ files has. has)

  -- calls that change nothing
  pub touches_quiet : (old new : World) → Quiet old new → Touches old new (Only name)
  touches_quiet old new quiet = rested old new (Only name) Any quiet.still quiet.said quiet.moments (λ files left. tt)

  pub touches_still : (old new : World) → IsTimely old → IsStill old new → new.said ≡ old.said → Passes old new → Touches old new (Only name)
  touches_still old new timely still silent time = still_alone old new (Only name) Any timely still silent time (λ files left. tt)

  -- one call on that file
  pub touches_page : {T E : Type 0} (tells : Bool) (result : Result T E) (old new : World) (at : ℕ) (page : List ℕ) → IsTrue tells → IsTimely old → WritesPage tells result old new name at page → new.said ≡ old.said → Passes old new → Touches old new (Only name)
  touches_page tells result old new at page told timely writes silent time =
      touches_has old new (Moved old name (λ b c. Unit {0})) (page_alone tells result old new name at page (λ b c. Unit {0}) told timely writes silent time (λ b c left by. tt))

  pub touches_bytes : {T E : Type 0} (tells : Bool) (result : Result T E) (old new : World) (bytes : List ℕ) → IsTrue tells → IsTimely old → AppendsBytes tells result old new name bytes → new.said ≡ old.said → Passes old new → Touches old new (Only name)
  touches_bytes tells result old new bytes told timely appends silent time =
      touches_has old new (Moved old name (λ b c. Unit {0})) (bytes_alone tells result old new name bytes (λ b c. Unit {0}) told timely appends silent time (λ b c left by. tt))

  -- two pieces are appended, also where that fails
  pub touches_two : {T E : Type 0} (result : Result T E) (old new : World) (first second : List ℕ) → IsTimely old → AddsTwo result old new name first second → new.said ≡ old.said → Touches old new (Only name)
  touches_two result old new first second timely adds silent = record {
    moments = goes_on old old new (ChangedLeft old (Only name) Any) (IsWhileAdding old name first second)
        (started old (ChangedLeft old (Only name) Any) timely (λ files said is. record { has = tt; others = λ m other. is.left m; output = is.output })) adds.time
        (λ files said here. record { has = tt; others = here.others; output = here.output });
    now = λ files left. tt;
    others = adds.left.others;
    others_read = two_others name result old new first second adds;
    said = silent;
  }
