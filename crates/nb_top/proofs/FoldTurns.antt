-- The one turn of a fold: what it must be, and what stands after it.
use Rattle.std.proofs.Common.{◌≡◌, ◌≢◌, inl, inr, ℕ, List, true, false, refl, sym, ap, ◌∙◌, Bool, None, Result, Ok, Err}
use Rattle.nb_top.proofs.Common.{Files, Refusal, FileExists, Usage, is_free_name, Account, Plain, with_entry, is_free_entry, only_refusal, account_behind, Contents, with_made, bytes_for, folded, chained, fold_turn, fold_verdict, made_turn, err_ok}
use Rattle.nb_top.proofs.ChainRefusals.{refused_files}
use Rattle.nb_top.proofs.TargetTurns.{IsRefused, TargetTurn, target_refused, target_turn, never_usage}

-- why a fold is refused: the name of its file isn't free, or the files don't go on from one another
abbrev pub WhyRefused : Files → Account → (out : List ℕ) (names : List (List ℕ)) → Refusal → Type 0
WhyRefused files account out names refusal = IsRefused account out (chained files names) refusal

-- The turn is refused, or it makes the file that the files are folded into.
abbrev pub FoldTurn : Files → Account → (out : List ℕ) (names : List (List ℕ)) → Type 0
FoldTurn files account out names = TargetTurn (List Contents) account out (chained files names) (fold_turn files account out names) (λ cs. made_turn out (folded cs))

module _ (files : Files) (account : Account) (out : List ℕ) (names : List (List ℕ)) where
  taken_turn : is_free_entry (account.entry out) ≡ false → fold_turn files account out names ≡ only_refusal (FileExists out)
  unfolding fold_turn
  taken_turn taken = rw (taken, fold_turn) refl

  broken_turn : (refusal : Refusal) → is_free_entry (account.entry out) ≡ true → chained files names ≡ Err refusal → fold_turn files account out names ≡ only_refusal refusal
  unfolding fold_turn
  broken_turn refusal free broken = rw (free, fold_turn) (rw (broken, fold_turn) refl)

  -- it is refused
  pub refused_turn : (refusal : Refusal) → WhyRefused files account out names refusal → fold_turn files account out names ≡ only_refusal refusal
  refused_turn = target_refused account out (chained files names) (fold_turn files account out names) (λ cs. made_turn out (folded cs)) taken_turn broken_turn

  -- it makes the file
  pub done_turn : (cs : List Contents) → is_free_entry (account.entry out) ≡ true → chained files names ≡ Ok cs → fold_turn files account out names ≡ made_turn out (folded cs)
  unfolding fold_turn
  done_turn cs free accepted = rw (free, fold_turn) (rw (accepted, fold_turn) refl)

  -- There is nothing else that it may be.
  pub turn_is : FoldTurn files account out names
  turn_is = target_turn account out (chained files names) (fold_turn files account out names) (λ cs. made_turn out (folded cs)) taken_turn broken_turn done_turn

  pub made_account : (c : Contents) → account_behind out (made_turn out c) account ≡ with_entry out (Plain (bytes_for c) None) account
  unfolding account_behind with_made
  made_account c = refl

  -- as words are that name no job it never is
  pub refused_fold : (refusal : Refusal) → WhyRefused files account out names refusal → refusal ≢ Usage
  refused_fold refusal why = never_usage account out (chained files names) (λ r. refused_files files names r) refusal why

  -- The verdict of the files, where the account knows whether the name is free.
  module _ (knows : is_free_name files out ≡ is_free_entry (account.entry out)) where
    abbrev Verdict : Bool → Result (List Contents) Refusal
    Verdict free = elim free [ true ↦ chained files names | false ↦ Err (FileExists out) ]

    pub why_refused : (refusal : Refusal) → fold_verdict files out names ≡ Err refusal → WhyRefused files account out names refusal
    why_refused refusal is = by (is_free_name files out) knows is
      where
        same : (a b : Refusal) → ◌≡◌ {A = Result (List Contents) Refusal} (Err a) (Err b) → a ≡ b
        same a b h = cc

        by : (free : Bool) → free ≡ is_free_entry (account.entry out) → Verdict free ≡ Err refusal → WhyRefused files account out names refusal
        by true free verdict = inr (sym free, verdict)
        by false free verdict = inl (sym free, sym (same (FileExists out) refusal verdict))

    pub verdict_refused : (refusal : Refusal) → WhyRefused files account out names refusal → fold_verdict files out names ≡ Err refusal
    verdict_refused refusal (inl taken) = ap Verdict (knows ∙ taken.0) ∙ ap (λ (r : Refusal). Err r) (sym taken.1)
    verdict_refused refusal (inr broken) = ap Verdict (knows ∙ broken.0) ∙ broken.1

-- files that are accepted go on from one another, and the name was free
pub accepted_is : (files : Files) (out : List ℕ) (names : List (List ℕ)) (cs : List Contents) → fold_verdict files out names ≡ Ok cs → (is_free_name files out ≡ true) × (chained files names ≡ Ok cs)
accepted_is files out names cs is = by (is_free_name files out) refl is
  where
    by : (free : Bool) → is_free_name files out ≡ free → elim free as (λ z. Result (List Contents) Refusal) [ true ↦ chained files names | false ↦ Err (FileExists out) ] ≡ Ok cs
        → (is_free_name files out ≡ true) × (chained files names ≡ Ok cs)
    by true free accepted = (free, accepted)
    by false free accepted = absurd (err_ok (FileExists out) cs accepted)
