-- The database of an entry of the account is that of its files.
use Rattle.std.proofs.Common.{◌≡◌, ℕ, List, refl, ap, ◌∙◌, Result, Ok, Err, Some, None}
use Rattle.nb_model.proofs.Common.{File, Refusal, Base, Entry, Missing, Plain, IsBase, owner, entry_of_files}

-- an entry that is no database
pub missing_base : (delta : File) (b : Base) → Missing delta ≡ IsBase b → ⊥
missing_base delta b h = cc

pub plain_base : (bytes : List ℕ) (delta : File) (b : Base) → Plain bytes delta ≡ IsBase b → ⊥
plain_base bytes delta b h = cc

-- the database of an entry is that of the files
pub owner_of_entry : (name : List ℕ) (main delta : File) (b : Base) → entry_of_files name main delta ≡ IsBase b → owner name main delta ≡ Ok b
unfolding entry_of_files
owner_of_entry name None delta b e = absurd (missing_base delta b e)
owner_of_entry name (Some bytes) delta b e = by (owner name (Some bytes) delta) refl e
  where
    same : (c : Base) → IsBase c ≡ IsBase b → c ≡ b
    same c h = cc

    by : (answer : Result Base Refusal) → owner name (Some bytes) delta ≡ answer → elim answer as (λ z. Entry) [ Err refusal ↦ Plain bytes delta | Ok base ↦ IsBase base ] ≡ IsBase b → owner name (Some bytes) delta ≡ Ok b
    by (Err r) is h = absurd (plain_base bytes delta b h)
    by (Ok c) is h = is ∙ ap (λ (d : Base). Ok d) (same c h)
