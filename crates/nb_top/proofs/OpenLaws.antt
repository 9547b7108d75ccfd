-- Why a database isn't opened: what the call tells, and what the run must say.
use Rattle.std.proofs.Common.{◌≡◌, ◌≢◌, ℕ, zero, suc, List, true, false, refl, sym, ap, ◌∙◌, Bool, ◌==◌, None, Some, Result, Ok, Err}
use Rattle.nb_top.proofs.Common.{size_of, state_of, File, Files, Refusal, BadDelta, Unfinished, Usage, Base, IsBase, Cause, not_database, delta_name, diverted_base, owner, owner_with, owner_in, entry_of_files, entry_in, not_opened, ShowsIn, owner-formed, owner-refused, opened_entry, other_database}
use Rattle.nb_fields.specs.Table.{table_of}

-- no database is shown where there is no file
pub none_shown : (name : List ℕ) (d : File) (b : Base) → owner name None d ≡ Ok b → ⊥
unfolding owner
none_shown name d b is = cc

-- files that show a database are its entry
pub shown_entry : (files : Files) (name : List ℕ) (b : Base) → ShowsIn name b files → entry_in files name ≡ IsBase b
shown_entry files name b shows = by (files name) refl
  where
    by : (main : File) → files name ≡ main → entry_of_files name (files name) (files (delta_name name)) ≡ IsBase b
    by None is = absurd (none_shown name (files (delta_name name)) b (ap (λ (f : File). owner name f (files (delta_name name))) (sym is) ∙ shows))
    by (Some bytes) is = opened_entry name (files name) (files (delta_name name)) bytes b is shows

-- what the call refuses is refused by the run
pub refused_entry : (name : List ℕ) (main delta : File) (r : Refusal) → owner name main delta ≡ Err r → not_opened name (entry_of_files name main delta) ≡ Some r
unfolding owner entry_of_files not_opened
refused_entry name None delta r is = cc
refused_entry name (Some bytes) delta r is = plain is
  where
    plain : owner name (Some bytes) delta ≡ Err r → not_opened name (entry_of_files name (Some bytes) delta) ≡ Some r
    plain e = rw (e, entry_of_files) (rw (e, not_opened) refl)

with_never : (name bytes : List ℕ) (delta : File) → owner_with name bytes delta ≢ Err Usage
unfolding owner_with
with_never name bytes None h = cc
with_never name bytes (Some d) h = by (table_of (size_of bytes) d) h
  where
    by : (t : Result (List ℕ) ℕ) → elim t as (λ z. Result Base Refusal) [ Err page ↦ Err (BadDelta page) | Ok table ↦ Ok (diverted_base bytes d table) ] ≢ Err Usage
    by (Err page) e = cc
    by (Ok table) e = cc

in_never : (state : ℕ) (name bytes : List ℕ) (delta : File) → owner_in state name bytes delta ≢ Err Usage
unfolding owner_in
in_never zero name bytes delta h = cc
in_never (suc k) name bytes delta h = by (k == 2) h
  where
    by : (t : Bool) → elim t as (λ z. Result Base Refusal) [ true ↦ Err Unfinished | false ↦ owner_with name bytes delta ] ≢ Err Usage
    by true e = cc
    by false e = with_never name bytes delta e

-- It is never the refusal of words that name no job.
pub owner_never_usage : (name : List ℕ) (main delta : File) → owner name main delta ≢ Err Usage
unfolding owner
owner_never_usage name None delta h = cc
owner_never_usage name (Some bytes) delta h = by (not_database bytes) refl
  where
    same : (x : Result Base Refusal) (q : Refusal) → x ≡ Err q → x ≡ Err Usage → Some q ≡ Some Usage
    same x q e f = cc

    by : (c : Cause) → not_database bytes ≡ c → ⊥
    by (Some q) broken = other_database bytes (broken ∙ same (owner name (Some bytes) delta) q (owner-refused name bytes delta q broken) h)
    by None formed = in_never (state_of bytes) name bytes delta (sym (owner-formed name bytes delta formed) ∙ h)
