-- The outcomes of each rule.
use Rattle.std.proofs.Common.{◌≡◌, inl, inr, ⊎_elim, ℕ, List, refl, [], Some, None}
use Rattle.nb_mem.proofs.Common.{File, Change, Made, Removed, Paged, Appended, Synced, Entry, NowAfter, BackAfter, files_of, Now, Back, LeavesAfter, PagesMay, BytesMay, AnewMay, SyncedMay, OthersMay, at_same, to_same, to_other}

module _ (es : List Entry) (n : List ℕ) where
  to_now : (change : Change) (c : File) → NowAfter change (files_of es n) (Now es n) c → LeavesAfter es n change c
  to_now change c now = inr (to_same _ (Now es n c) n now)

  to_back : (change : Change) (c : File) → BackAfter change (Back es n) (Now es n) c → LeavesAfter es n change c
  to_back change c back = inl (to_same _ (Back es n c) n back)

  pub page_may : (at : ℕ) (page : List ℕ) (before : File) → Now es n before → PagesMay es n at page before
  page_may at page before now = record {
    lost = to_now (Paged at page) before (before, now, inl refl);
    kept = to_now (Paged at page) _ (before, now, inr (inl refl));
    grown = λ k fits. to_now (Paged at page) _ (before, now, inr (inr (k, fits, refl)));
  }

  pub page_back : (at : ℕ) (page : List ℕ) (before : File) → Back es n before → LeavesAfter es n (Paged at page) before
  page_back at page before back = to_back (Paged at page) before back

  pub append_may : (bytes : List ℕ) (before : File) → Now es n before → BytesMay es n bytes before
  append_may bytes before now = record {
    lost = to_now (Appended bytes) before (before, now, inl refl);
    torn = λ torn is at. to_now (Appended bytes) _ (before, now, inr (torn, is, at, refl));
  }

  pub append_back : (bytes : List ℕ) (before : File) → Back es n before → LeavesAfter es n (Appended bytes) before
  append_back bytes before back = to_back (Appended bytes) before back

  pub made_may : AnewMay es n Made (Some [])
  made_may = record { anew = to_now Made (Some []) refl; back = λ before leaves. to_back Made before leaves }

  pub removed_may : AnewMay es n Removed None
  removed_may = record { anew = to_now Removed None refl; back = λ before leaves. to_back Removed before leaves }

  pub synced_may : SyncedMay es n
  synced_may = record {
    kept = to_now Synced (files_of es n) refl;
    only = λ c leaves. ⊎_elim (λ back. absurd (at_same ⊥ (Back es n c) n back)) (λ now. at_same (c ≡ files_of es n) (Now es n c) n now) leaves;
  }

  pub others_may : (change : Change) → OthersMay es n change
  others_may change m c other leaves = ⊎_elim (λ back. inl (to_other _ _ m n other back)) (λ now. inr (to_other _ _ m n other now)) leaves
