-- A new database is well.
use Rattle.std.proofs.Common.{ℕ, ◌≤◌, List, refl, arith, Some, IsTrue}
use Rattle.nb_model.proofs.Common.{flat_map, fresh, is_page_size, base_of, Kept, IsWell, IsWellBase}
use Rattle.nb_model.proofs.MainLaws.{main_facts}
use Rattle.nb_model.proofs.FreshImageLaws.{fresh_state, fresh_scn, fresh_main}
use Rattle.nb_model.proofs.FreshSound.{fresh_sound, fresh_past}

-- a new database is well
pub fresh_well : (kept : List Kept) (size raw : ℕ) → IsTrue (is_page_size size) → raw ≤ 65535 → IsWell kept (fresh size raw)
fresh_well kept size raw is few = record {
  header = (main_facts (fresh size raw) (Some (flat_map (λ p. p) (fresh size raw))) (fresh_main size raw is few)).header;
  scn = omega (arith, fresh_scn size raw);
  state = fresh_state size raw;
  sound = fresh_sound size raw is few;
  past = fresh_past size raw is few kept;
}

pub fresh_well_base : (kept : List Kept) (size raw : ℕ) → IsTrue (is_page_size size) → raw ≤ 65535 → IsWellBase kept (base_of (fresh size raw))
fresh_well_base kept size raw is few = record { told = refl; well = fresh_well kept size raw is few }
