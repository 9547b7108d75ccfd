-- The one turn that makes a file: it is refused by the file's name or by what other files give, or it makes what they give.
use Rattle.std.proofs.Common.{◌≡◌, ◌≢◌, ◌⊎◌, inl, inr, ℕ, List, true, false, refl, sym, ap, ◌∙◌, Bool, Result, Ok, Err}
use Rattle.nb_top.proofs.Common.{Refusal, FileExists, Usage, Account, is_free_entry, only_refusal, Event}
use Rattle.nb_top.proofs.ChainRefusals.{exists_usage}

-- the name isn't free, or what they give is a refusal
abbrev pub IsRefused : {T : Type 0} → Account → (name : List ℕ) → (given : Result T Refusal) → Refusal → Type 0
IsRefused account name given refusal =
    ((is_free_entry (account.entry name) ≡ false) × (refusal ≡ FileExists name))
    ⊎ ((is_free_entry (account.entry name) ≡ true) × (given ≡ Err refusal))

pub data TargetTurn (T : Type 0) (account : Account) (name : List ℕ) (given : Result T Refusal) (turn : Event) (made : T → Event) : Type 0 where
  refuses : (refusal : Refusal) → IsRefused account name given refusal → turn ≡ only_refusal refusal → TargetTurn T account name given turn made
  makes : (value : T) → is_free_entry (account.entry name) ≡ true → given ≡ Ok value → turn ≡ made value → TargetTurn T account name given turn made

module _ {T : Type 0} (account : Account) (name : List ℕ) (given : Result T Refusal) where
  module _ (turn : Event) (made : T → Event) (taken : is_free_entry (account.entry name) ≡ false → turn ≡ only_refusal (FileExists name))
      (broken : (refusal : Refusal) → is_free_entry (account.entry name) ≡ true → given ≡ Err refusal → turn ≡ only_refusal refusal) where
    -- it is refused
    pub target_refused : (refusal : Refusal) → IsRefused account name given refusal → turn ≡ only_refusal refusal
    target_refused refusal (inl is) = taken is.0 ∙ ap only_refusal (sym is.1)
    target_refused refusal (inr is) = broken refusal is.0 is.1

    -- There is nothing else that it may be.
    pub target_turn : ((value : T) → is_free_entry (account.entry name) ≡ true → given ≡ Ok value → turn ≡ made value) → TargetTurn T account name given turn made
    target_turn done = by (is_free_entry (account.entry name)) refl given refl
      where
        by : (free : Bool) → is_free_entry (account.entry name) ≡ free → (answer : Result T Refusal) → given ≡ answer → TargetTurn T account name given turn made
        by false free answer is = refuses (FileExists name) (inl (free, refl)) (taken free)
        by true free (Ok value) is = makes value free is (done value free is)
        by true free (Err refusal) is = refuses refusal (inr (free, is)) (broken refusal free is)

  -- as words are that name no job it never is, where what they give isn't
  pub never_usage : ((refusal : Refusal) → given ≡ Err refusal → refusal ≢ Usage) → (refusal : Refusal) → IsRefused account name given refusal → refusal ≢ Usage
  never_usage other refusal (inl taken) e = exists_usage name (sym taken.1 ∙ e)
  never_usage other refusal (inr broken) e = other refusal broken.1 e
