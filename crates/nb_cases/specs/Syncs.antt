-- The syncs of a page write.
use Rattle.std.specs.Prelude.{◌≡◌, ◌≤◌, ℕ, ◌/◌, ◌%◌, List, Option, Some, None, is_some, Bool, true, false, ◌&&◌, ◌||◌, ◌==◌, not}
use Rattle.nb_fields.specs.Cases.{cell}
use Rattle.nb_fields.specs.States.{normal_state, stalled_state}
use Rattle.nb_model.specs.Account.{Base}
use Rattle.nb_model.specs.Image.{Page, image_state}
use Rattle.nb_model.specs.Owner.{entry_for}
use Rattle.nb_model.specs.Strokes.{on_base, page}
use Rattle.nb_cases.specs.declared.syncs.Syncs.{Syncs}

-- the page gets an entry with the write
abbrev pub is_new : (state : ℕ) (has_entry : Bool) → Bool
is_new state has_entry = state == stalled_state && not has_entry

-- the page stays without one
abbrev pub has_none : (state : ℕ) (has_entry : Bool) → Bool
has_none state has_entry = not (state == stalled_state) && not has_entry

-- Of a page that belongs to the difference file after the write the last that was written there is synced: the table where it got its
-- entry, and the slot where it had one. Of every other page the main file is.
abbrev pub IsKept : Option ℕ → (is_new : Bool) → Syncs → Type 0
IsKept (Some k) true syncs = syncs.table ≡ true
IsKept (Some k) false syncs = syncs.slot ≡ true
IsKept None new syncs = syncs.main ≡ true

-- A new slot is always kept for good before the table names it. Every other sync is of a write that is to be kept, whose page is then
-- kept in the file that it belongs to.
pub record SyncsOf (state : ℕ) (has_entry kept : Bool) (syncs : Syncs) : Type 0 where
  pub slot : syncs.slot ≡ (is_new state has_entry || (has_entry && kept))
  pub table : syncs.table ≡ (is_new state has_entry && kept)
  pub main : syncs.main ≡ (has_none state has_entry && kept)
  pub keeps : (b : Base) (p : ℕ) (bytes : Page) → image_state b.image ≡ state → is_some (entry_for p b.diverted) ≡ has_entry → kept ≡ true
      → IsKept (entry_for p (on_base (page p bytes) b).diverted) (is_new state has_entry) syncs

-- ---- the table

-- the row of a state, and of whether an entry names the page
abbrev pub row_of : (state : ℕ) (has_entry : Bool) → ℕ
row_of state has_entry = elim (state == normal_state) [
  | true ↦ 0
  | false ↦ elim (state == stalled_state) [
    | true ↦ elim has_entry [ true ↦ 1 | false ↦ 2 ]
    | false ↦ elim has_entry [ true ↦ 3 | false ↦ 4 ]
  ]
]

-- the column of a write that is to be kept, and of every other
abbrev pub column_of : (kept : Bool) → ℕ
column_of kept = elim kept [ true ↦ 0 | false ↦ 1 ]

-- the syncs that a cell stands for
abbrev pub syncs_at : ℕ → Syncs
syncs_at cell = record { slot = cell % 2 == 1; table = cell / 2 % 2 == 1; main = cell / 4 % 2 == 1 }

-- each cell of a table has the syncs of its state
abbrev pub AreTheSyncs : List (List ℕ) → Type 0
AreTheSyncs rows = (state : ℕ) (has_entry kept : Bool) → state ≤ 2 → (state ≡ normal_state → has_entry ≡ false) → SyncsOf state has_entry kept (syncs_at (cell rows (row_of state has_entry) (column_of kept)))
