-- The one turn of a restore: what it must be, and what stands after it.
use Rattle.std.proofs.Common.{◌≡◌, ◌≢◌, ℕ, List, [], ◌∷◌, length, true, false, refl, None, Ok, Err}
use Rattle.nb_top.proofs.Common.{Files, Refusal, FileExists, Usage, Pages, Account, is_free_entry, only_turn, only_refusal, restore_turn, account_behind, Link, verdict, applied, Event, account_after, with_made, make, fixed}
use Rattle.nb_top.proofs.ChainRefusals.{refused_chain}
use Rattle.nb_top.proofs.TargetTurns.{IsRefused, TargetTurn, target_refused, target_turn, never_usage}

-- the turn that makes the database which these files give
abbrev pub made_turn : List Link → Event
made_turn links = only_turn (Pages (length (applied links))) (make (fixed (applied links)) ∷ [])

-- why a restore is refused: the name of its target isn't free, or the files are no chain
abbrev pub WhyRefused : Files → Account → (db : List ℕ) (names : List (List ℕ)) → Refusal → Type 0
WhyRefused files account db names refusal = IsRefused account db (verdict files names) refusal

-- The turn is refused, or it makes the database that the files give.
abbrev pub RestoreTurn : Files → Account → (db : List ℕ) (names : List (List ℕ)) → Type 0
RestoreTurn files account db names = TargetTurn (List Link) account db (verdict files names) (restore_turn files account db names) made_turn

module _ (files : Files) (account : Account) (db : List ℕ) (names : List (List ℕ)) where
  taken_turn : is_free_entry (account.entry db) ≡ false → restore_turn files account db names ≡ only_refusal (FileExists db)
  unfolding restore_turn
  taken_turn taken = rw (taken, restore_turn) refl

  broken_turn : (refusal : Refusal) → is_free_entry (account.entry db) ≡ true → verdict files names ≡ Err refusal → restore_turn files account db names ≡ only_refusal refusal
  unfolding restore_turn
  broken_turn refusal free broken = rw (free, restore_turn) (rw (broken, restore_turn) refl)

  -- it is refused
  pub refused_turn : (refusal : Refusal) → WhyRefused files account db names refusal → restore_turn files account db names ≡ only_refusal refusal
  refused_turn = target_refused account db (verdict files names) (restore_turn files account db names) made_turn taken_turn broken_turn

  -- it makes the database
  pub done_turn : (links : List Link) → is_free_entry (account.entry db) ≡ true → verdict files names ≡ Ok links → restore_turn files account db names ≡ made_turn links
  unfolding restore_turn
  done_turn links free accepted = rw (free, restore_turn) (rw (accepted, restore_turn) refl)

  -- There is nothing else that it may be.
  pub turn_is : RestoreTurn files account db names
  turn_is = target_turn account db (verdict files names) (restore_turn files account db names) made_turn taken_turn broken_turn done_turn

  pub made_account : (links : List Link) → account_behind db (made_turn links) account ≡ account_after db (make (fixed (applied links)) ∷ []) None account
  unfolding account_behind with_made
  made_account links = refl

  -- as words are that name no job it never is
  pub refused_restore : (refusal : Refusal) → WhyRefused files account db names refusal → refusal ≢ Usage
  refused_restore refusal why = never_usage account db (verdict files names) (λ r. refused_chain files names r) refusal why
