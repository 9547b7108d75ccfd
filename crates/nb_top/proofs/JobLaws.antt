-- A job is what it asks for: the run of a script, or one turn.
use Rattle.std.proofs.Common.{◌≡◌, ◌∙◌, ℕ, List, length, refl, sym, subst, Bool, true, false, Some, Ok}
use Rattle.nb_top.proofs.Common.{Files, Ask, Deed, Restore, Fixup, Apply, Turn, Account, IsAttaching, all_sized, apply_turn, asks_size, fixup_turn, quiet, restore_turn, turn_of, Given, Event, base_in, Telling, Quietly, WithSize, one_turn, IsPerformed, told, Does, attached, request_of, none_some, some_same}

-- what is told of a job that attaches is what it says
told_so : (size : Bool) (pages : ℕ) (whole : List Event) → told (elim size as (λ z. Telling) [ true ↦ WithSize | false ↦ Quietly ]) pages whole ≡ elim size as (λ z. List Event) [ true ↦ all_sized pages (quiet whole) | false ↦ quiet whole ]
told_so true pages whole = refl
told_so false pages whole = refl

module _ (files : Files) (before last : Account) (given : Given) (events : List Event) (db : List ℕ) (ask : Ask) where
  -- what such a job asks for is the run of its script
  pub attaches_performed : (left : Given) → IsPerformed files (Ok (attached db ask)) before given events last left → IsAttaching before given db ask events last
  attaches_performed left done = record { whole = done.whole; left = left; run = done.run; said = done.said ∙ told_so (asks_size ask) (length (base_in (before.entry db)).image) done.whole }

  -- and the other way
  pub performed_attaches : (attaching : IsAttaching before given db ask events last) → IsPerformed files (Ok (attached db ask)) before given events last attaching.left
  performed_attaches attaching = record { whole = attaching.whole; run = attaching.run; said = attaching.said ∙ sym (told_so (asks_size ask) (length (base_in (before.entry db)).image) attaching.whole) }

-- The turn of a deed on a database.
abbrev Row : Type 0
Row = List ℕ × Event

abbrev IsRow : Files → Account → Deed → Row → Type 0
IsRow files account deed row = (request_of files (Turn deed) ≡ Does deed) × ((one_turn files deed).name ≡ Some row.0) × ((one_turn files deed).turn account ≡ row.1)

pub turn_done : (files : Files) (deed : Deed) (row : Row) (account : Account) → turn_of files account deed ≡ Some row → IsRow files account deed row
unfolding turn_of
turn_done files (Restore db names) row account is = subst (IsRow files account (Restore db names)) (some_same {X = Row} (db, restore_turn files account db names) row is) (refl, refl, refl)
turn_done files (Apply db file) row account is = subst (IsRow files account (Apply db file)) (some_same {X = Row} (db, apply_turn files db file) row is) (refl, refl, refl)
turn_done files (Fixup db) row account is = subst (IsRow files account (Fixup db)) (some_same {X = Row} (db, fixup_turn files db) row is) (refl, refl, refl)
turn_done files other row account is = absurd (none_some row is)
