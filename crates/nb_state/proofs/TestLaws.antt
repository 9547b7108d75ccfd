-- Why a backup doesn't begin, and why a merge doesn't.
use Rattle.std.proofs.Common.{◌≡◌, ◌≢◌, ℕ, ◌≤◌, ◌<◌, [], ◌∷◌, ap, ◌∙◌, Bool, Option, Some, None, not}
use Rattle.nb_state.proofs.Common.{eq-eqb, ne_eqb, normal_state, Refusal, ScnExhausted, BackupRunning, Image, image_scn, Cause, first_cause, when, not_state, no_scn, runs_other, none_to_end, begin_cause, end_cause, one_cause}
use Rattle.nb_model.proofs.ReadLaws.{lt_no, lt_yes}

-- the first of two causes, and the second where the first doesn't apply
pub first_applies : (c d : Cause) (r : Refusal) → c ≡ Some r → first_cause (c ∷ d ∷ []) ≡ Some r
unfolding first_cause
first_applies c d r is = ap (λ (x : Cause). first_cause (x ∷ d ∷ [])) is

second_decides : (c d : Cause) → c ≡ None → first_cause (c ∷ d ∷ []) ≡ d
unfolding first_cause
second_decides c d none = ap (λ (x : Cause). first_cause (x ∷ d ∷ [])) none ∙ one_cause d

module _ (image : Image) where
  pub other_state : (r : Refusal) → not_state normal_state image ≡ Some r → begin_cause image ≡ Some r
  other_state = first_applies (not_state normal_state image) (no_scn image)

  pub last_scn : not_state normal_state image ≡ None → 4294967293 < image_scn image → begin_cause image ≡ Some (ScnExhausted (image_scn image))
  last_scn normal high = second_decides (not_state normal_state image) (no_scn image) normal ∙ ap (λ (b : Bool). when b (ScnExhausted (image_scn image))) (lt_yes 4294967293 (image_scn image) high)

  pub may_begin : not_state normal_state image ≡ None → image_scn image ≤ 4294967293 → begin_cause image ≡ None
  may_begin normal low = second_decides (not_state normal_state image) (no_scn image) normal ∙ ap (λ (b : Bool). when b (ScnExhausted (image_scn image))) (lt_no 4294967293 (image_scn image) low)

  module _ (running : Option ℕ) (session : ℕ) where
    pub no_backup : (r : Refusal) → none_to_end image ≡ Some r → end_cause image running session ≡ Some r
    no_backup = first_applies (none_to_end image) (runs_other running session)

    module _ (began : none_to_end image ≡ None) where
      pub other_runs : (other : ℕ) → running ≡ Some other → other ≢ session → end_cause image running session ≡ Some (BackupRunning other)
      other_runs other is differs =
          second_decides (none_to_end image) (runs_other running session) began ∙ ap (λ (r : Option ℕ). runs_other r session) is
          ∙ ap (λ (b : Bool). when (not b) (BackupRunning other)) (ne_eqb other session differs)

      pub this_runs : (other : ℕ) → running ≡ Some other → other ≡ session → end_cause image running session ≡ None
      this_runs other is same =
          second_decides (none_to_end image) (runs_other running session) began ∙ ap (λ (r : Option ℕ). runs_other r session) is
          ∙ ap (λ (b : Bool). when (not b) (BackupRunning other)) (eq-eqb other session same)

      pub none_runs : running ≡ None → end_cause image running session ≡ None
      none_runs is = second_decides (none_to_end image) (runs_other running session) began ∙ ap (λ (r : Option ℕ). runs_other r session) is
