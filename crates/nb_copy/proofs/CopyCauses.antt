-- Why no copy of the frozen file may begin, test by test.
use Rattle.std.proofs.Common.{◌≡◌, ℕ, List, [], ◌∷◌, ap, ◌∙◌, Bool, true, false, Some, None, not}
use Rattle.nb_copy.proofs.Common.{stalled_state, Refusal, BackupRunning, FileExists, Image, first_cause, when, not_state, not_free, is_free_entry, runs_any, Seen, copy_cause, first_here, first_next, no_cause}

module _ (s : Seen) (name : List ℕ) where
  abbrev image : Image
  image = s.base.image

  pub not_stalled : (r : Refusal) → not_state stalled_state image ≡ Some r → copy_cause s name ≡ Some r
  not_stalled = first_here (not_state stalled_state image) (runs_any s.running ∷ not_free name (s.entry name) ∷ [])

  module _ (stalled : not_state stalled_state image ≡ None) where
    behind : copy_cause s name ≡ first_cause (runs_any s.running ∷ not_free name (s.entry name) ∷ [])
    behind = first_next (not_state stalled_state image) (runs_any s.running ∷ not_free name (s.entry name) ∷ []) stalled

    pub other_runs : (other : ℕ) → s.running ≡ Some other → copy_cause s name ≡ Some (BackupRunning other)
    other_runs other e = behind ∙ first_here (runs_any s.running) (not_free name (s.entry name) ∷ []) (BackupRunning other) (ap runs_any e)

    module _ (none : s.running ≡ None) where
      left : copy_cause s name ≡ first_cause (not_free name (s.entry name) ∷ [])
      left = behind ∙ first_next (runs_any s.running) (not_free name (s.entry name) ∷ []) (ap runs_any none)

      pub name_taken : is_free_entry (s.entry name) ≡ false → copy_cause s name ≡ Some (FileExists name)
      name_taken e = left ∙ first_here (not_free name (s.entry name)) [] (FileExists name) (ap (λ (b : Bool). when (not b) (FileExists name)) e)

      pub copy_allowed : is_free_entry (s.entry name) ≡ true → copy_cause s name ≡ None
      copy_allowed e = left ∙ first_next (not_free name (s.entry name)) [] (ap (λ (b : Bool). when (not b) (FileExists name)) e) ∙ no_cause
