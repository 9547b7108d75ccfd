-- The one turn of a fixup: what it must be, and what stands after it.
use Rattle.std.proofs.Common.{◌≡◌, ◌≢◌, ℕ, List, [], ◌∷◌, refl, ap, ◌∙◌, None, Some, Err}
use Rattle.nb_top.proofs.Common.{File, Files, Refusal, Usage, NoFile, base_of, Plain, Account, Cause, image_in, only_turn, only_refusal, not_fixable, fixup_turn, account_behind, delta_name, owner, owner_in, owner_with, entry_of_files, entry_in, Event, account_after, with_made, fix, base_in, owner-formed, IsOther, other_first, other_when, other_database, fixup_cause, IsFixable}
use Rattle.nb_model.specs.declared.reply.Reply.TheVariants.{Done}
use Rattle.nb_fixup.proofs.CauseLaws.{IsFit}
use Rattle.nb_fixup.proofs.FixupLaws.{copy_there, fixable_fit}

-- a copy is never refused as words are that name no job
other_file : (name : List ℕ) → IsOther (Some (NoFile name))
other_file name h = cc

other_cause : (db : List ℕ) (main delta : File) → IsOther (not_fixable db main delta)
unfolding not_fixable
other_cause db None delta = other_file db
other_cause db (Some bytes) delta = other_first _ (other_database bytes, (other_when _ _ (λ e. cc), (other_when _ _ (λ e. cc), tt)))

-- the turn that fixes a copy
abbrev pub fixed_turn : Event
fixed_turn = only_turn Done (fix ∷ [])

-- The turn is refused, or it fixes the copy that stands there.
pub data FixTurn (files : Files) (db : List ℕ) : Type 0 where
  refuses : (refusal : Refusal) → fixup_cause files db ≡ Some refusal → fixup_turn files db ≡ only_refusal refusal → FixTurn files db
  fixes : (bytes : List ℕ) → IsFixable files db bytes → fixup_turn files db ≡ fixed_turn → FixTurn files db

module _ (files : Files) (db : List ℕ) where
  -- it is refused
  pub refused_turn : (refusal : Refusal) → fixup_cause files db ≡ Some refusal → fixup_turn files db ≡ only_refusal refusal
  unfolding fixup_turn
  refused_turn refusal why = rw (why, fixup_turn) refl

  -- it fixes the copy
  pub done_turn : fixup_cause files db ≡ None → fixup_turn files db ≡ fixed_turn
  unfolding fixup_turn
  done_turn fit = rw (fit, fixup_turn) refl

  -- There is nothing else that it may be.
  pub turn_is : FixTurn files db
  turn_is = by (fixup_cause files db) refl
    where
      by : (cause : Cause) → fixup_cause files db ≡ cause → FixTurn files db
      by (Some refusal) why = refuses refusal why (refused_turn refusal why)
      by None fit = let copy = copy_there files db fit in fixes copy.0 copy.1 (done_turn fit)

  -- as words are that name no job it never is
  pub refused_fix : (refusal : Refusal) → fixup_cause files db ≡ Some refusal → refusal ≢ Usage
  refused_fix refusal why e = other_cause db (files db) (files (delta_name db)) (why ∙ ap (λ (r : Refusal). Some r) e)

  pub fixed_account : (account : Account) → account_behind db fixed_turn account ≡ account_after db (fix ∷ []) None account
  unfolding account_behind with_made
  fixed_account account = refl

-- What the copy is before it. Without a difference file it can't be opened.
module _ (files : Files) (account : Account) (db bytes : List ℕ) (knows : account.entry db ≡ entry_in files db) (copy : IsFixable files db bytes) where
  fit : IsFit bytes (files (delta_name db))
  fit = fixable_fit files db bytes copy

  closed : owner db (Some bytes) None ≡ Err (NoFile (delta_name db))
  unfolding owner_in owner_with
  closed = owner-formed db bytes None fit.formed ∙ ap (λ (n : ℕ). owner_in n db bytes None) fit.stalled

  plain : entry_of_files db (Some bytes) None ≡ Plain bytes None
  unfolding entry_of_files
  plain = rw (closed, entry_of_files) refl

  entry_is : account.entry db ≡ Plain bytes None
  entry_is = knows ∙ ap (λ (f : File). entry_of_files db f (files (delta_name db))) copy.there ∙ ap (entry_of_files db (Some bytes)) fit.alone ∙ plain

  pub base_is : base_in (account.entry db) ≡ base_of (image_in bytes)
  unfolding base_in
  base_is = ap base_in entry_is
