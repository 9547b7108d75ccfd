-- The table of the syncs of a page write: each cell has the syncs of its state.
use Rattle.std.proofs.Common.{◌≡◌, ◌≢◌, ℕ, zero, suc, List, [], ◌∷◌, refl, sym, ap, ◌∙◌, arith, Bool, true, false, not, ◌&&◌, Option, Some, None, is_some}
use Rattle.nb_cases.proofs.Common.{normal_state, stalled_state, merge_state, Base, Page, image_state, entry_for, noted, on_base, page, AreTheSyncs, IsKept, SyncsOf, syncs_at}
use Rattle.std.proofs.lemmas.Bool.{true≢false, ne_eqb}
use Rattle.nb_model.proofs.EntryLaws.{noted_none}
use Rattle.nb_cases.specs.declared.syncs.Syncs.{Syncs}
use Rattle.nb_cases.proofs.EventLaws.{diverts_none_merge, diverts_none_normal, diverts_stalled}

-- the rows of the table
abbrev pub rows : List (List ℕ)
rows = (4 ∷ 0 ∷ []) ∷ (1 ∷ 0 ∷ []) ∷ (3 ∷ 1 ∷ []) ∷ (1 ∷ 0 ∷ []) ∷ (4 ∷ 0 ∷ []) ∷ []

-- a page that is noted has an entry
entered : (p : ℕ) (table : List ℕ) → is_some (entry_for p (noted p table)) ≡ true
entered p table = by (entry_for p (noted p table)) refl
  where
    by : (x : Option ℕ) → entry_for p (noted p table) ≡ x → is_some x ≡ true
    by None none = absurd ((noted_none p table p none).0 refl)
    by (Some k) e = refl

-- where the page belongs
module _ (syncs : Syncs) where
  in_table : (x : Option ℕ) → is_some x ≡ true → syncs.table ≡ true → IsKept x true syncs
  in_table None e is = absurd (true≢false (sym e))
  in_table (Some k) e is = is

  in_slot : (x : Option ℕ) → is_some x ≡ true → syncs.slot ≡ true → IsKept x false syncs
  in_slot None e is = absurd (true≢false (sym e))
  in_slot (Some k) e is = is

  in_main : (x : Option ℕ) → is_some x ≡ false → syncs.main ≡ true → IsKept x false syncs
  in_main None e is = is
  in_main (Some k) e is = absurd (true≢false e)

module _ (b : Base) (p : ℕ) (bytes : Page) where
  abbrev behind : Option ℕ
  behind = entry_for p (on_base (page p bytes) b).diverted

  stays_normal : (t : Bool) → image_state b.image ≡ normal_state → is_some (entry_for p b.diverted) ≡ t → is_some behind ≡ t
  stays_normal t at is = ap (λ (table : List ℕ). is_some (entry_for p table)) (diverts_none_normal b p bytes at) ∙ is

  stays_merge : (t : Bool) → image_state b.image ≡ merge_state → is_some (entry_for p b.diverted) ≡ t → is_some behind ≡ t
  stays_merge t at is = ap (λ (table : List ℕ). is_some (entry_for p table)) (diverts_none_merge b p bytes at) ∙ is

  comes : image_state b.image ≡ stalled_state → is_some behind ≡ true
  comes at = ap (λ (table : List ℕ). is_some (entry_for p table)) (diverts_stalled b p bytes at) ∙ entered p b.diverted

pub the_syncs : AreTheSyncs rows
the_syncs zero true kept low normal = absurd (true≢false (normal refl))
the_syncs zero false true low normal = record {
  slot = refl;
  table = refl;
  main = refl;
  keeps = λ b p bytes at is k. in_main (syncs_at 4) (behind b p bytes) (stays_normal b p bytes false at is) refl;
}
the_syncs zero false false low normal = record {
  slot = refl;
  table = refl;
  main = refl;
  keeps = λ b p bytes at is k. absurd (true≢false (sym k));
}
the_syncs (suc zero) true true low normal = record {
  slot = refl;
  table = refl;
  main = refl;
  keeps = λ b p bytes at is k. in_slot (syncs_at 1) (behind b p bytes) (comes b p bytes at) refl;
}
the_syncs (suc zero) true false low normal = record {
  slot = refl;
  table = refl;
  main = refl;
  keeps = λ b p bytes at is k. absurd (true≢false (sym k));
}
the_syncs (suc zero) false true low normal = record {
  slot = refl;
  table = refl;
  main = refl;
  keeps = λ b p bytes at is k. in_table (syncs_at 3) (behind b p bytes) (comes b p bytes at) refl;
}
the_syncs (suc zero) false false low normal = record {
  slot = refl;
  table = refl;
  main = refl;
  keeps = λ b p bytes at is k. absurd (true≢false (sym k));
}
the_syncs (suc (suc zero)) true true low normal = record {
  slot = refl;
  table = refl;
  main = refl;
  keeps = λ b p bytes at is k. in_slot (syncs_at 1) (behind b p bytes) (stays_merge b p bytes true at is) refl;
}
the_syncs (suc (suc zero)) true false low normal = record {
  slot = refl;
  table = refl;
  main = refl;
  keeps = λ b p bytes at is k. absurd (true≢false (sym k));
}
the_syncs (suc (suc zero)) false true low normal = record {
  slot = refl;
  table = refl;
  main = refl;
  keeps = λ b p bytes at is k. in_main (syncs_at 4) (behind b p bytes) (stays_merge b p bytes false at is) refl;
}
the_syncs (suc (suc zero)) false false low normal = record {
  slot = refl;
  table = refl;
  main = refl;
  keeps = λ b p bytes at is k. absurd (true≢false (sym k));
}
the_syncs (suc (suc (suc more))) has_entry kept low normal = absurd (omega (arith, low))

-- of a page that stays without an entry the main file is synced, where the write is to be kept
pub main_if_kept : (state : ℕ) (kept : Bool) (syncs : Syncs) → state ≢ stalled_state → SyncsOf state false kept syncs → syncs.main ≡ kept
main_if_kept state kept syncs other is = is.main ∙ ap (λ (t : Bool). (not t && not false) && kept) (ne_eqb state 1 other)
