-- What a turn leaves of the two files of its database, by what its calls touch.
use Rattle.std.proofs.Common.{◌≡◌, ℕ, List, [], ◌∷◌, Bool, true, false, refl, sym, ap, subst, ◌∙◌, Result}
use Rattle.nb_session.proofs.Common.{true≢false, World, Quiet, Changes, weaker, Turn, Stroke, Trail, Held, IsOpen, name_of, SaysLine}
use Rattle.nb_fields.specs.States.{stalled_state}
use Rattle.nb_host.specs.Files.{File, Files}
use Rattle.nb_change.specs.Changes.{Names}
use Rattle.nb_change.proofs.MomentLaws.{joined, left_before}
use Rattle.nb_model.specs.Image.{image_size, image_state}
use Rattle.nb_model.specs.Owner.{delta_name}
use Rattle.nb_base.specs.Stays.{GrowsWithin}
use Rattle.nb_base.specs.Takes.{StrikesIn}
use Rattle.nb_base.specs.Touches.{WrittenIn}
use Rattle.nb_base.proofs.StaysLaws.{delta-other, grows_joined, grows_not, keeps_joined, other_keeps, still_is}
use Rattle.nb_session.specs.Files.{IsUntouched, LeavesFiles, TurnLeaves, is_end, is_finish}

-- calls that don't touch it
pub untouched_other : (old new : World) (names : Names) (P : Files → Type 0) (name : List ℕ) → Changes old new names P → (names name → ⊥) → IsUntouched old new name
untouched_other old new names P name changes other = record {
  moments = weaker old new _ _ changes.moments (λ files said left. left.others name other);
  left = λ c left. left_before old new _ changes.others name c other left;
  reads = changes.others_read name other;
}

-- calls that change nothing
pub untouched_quiet : (old new : World) (name : List ℕ) → Quiet old new → IsUntouched old new name
untouched_quiet old new name quiet = record {
  moments = weaker old new _ _ quiet.moments (λ files said now. now.left name);
  left = λ c left. left_before old new _ quiet.still.left name c tt left;
  reads = ap (λ (fs : Files). fs name) quiet.still.files;
}

-- calls after calls
pub untouched_joined : (old mid new : World) (name : List ℕ) → IsUntouched old mid name → IsUntouched mid new name → IsUntouched old new name
untouched_joined old mid new name first second = record {
  moments = joined old mid new _ _ _ first.moments second.moments (λ files said is. is) (λ files said left. first.left (files name) left);
  left = λ c left. first.left c (second.left c left);
  reads = second.reads ∙ first.reads;
}

-- a line that is said
module _ {T E : Type 0} (result : Result T E) (mid new : World) (line : List ℕ) (says : SaysLine result mid new line) where
  untouched_said : (name : List ℕ) → IsUntouched mid new name
  untouched_said name = record {
    moments = weaker mid new _ _ says.moments (λ files said front. front.left name);
    left = λ c left. left_before mid new _ says.still.left name c tt left;
    reads = ap (λ (fs : Files). fs name) says.still.files;
  }

  grows_said : (old : World) (name : List ℕ) (size : ℕ) (t : Trail) (ss : List Stroke) → GrowsWithin old mid name size t ss → GrowsWithin old new name size t ss
  grows_said old name size t ss grows most within =
      keeps_joined old mid new name _ (grows most within)
      (λ is. record { moments = weaker mid new _ _ says.moments (λ files said front. is.left (files name) (front.left name)); now = still_is mid new name _ says.still is })

  pub files_said : (old : World) (ends : Bool) (merged : Type 0) (name : List ℕ) (t : Trail) (ss : List Stroke) → LeavesFiles ends merged old mid name t ss → LeavesFiles ends merged old new name t ss
  files_said old ends merged name t ss is = record {
    frozen = λ stalled plain. untouched_joined old mid new name (is.frozen stalled plain) (untouched_said name);
    gone = λ m. ap (λ (fs : Files). fs (delta_name name)) says.still.files ∙ is.gone m;
    long = grows_said old name (image_size t.base.image) t ss is.long;
  }

-- in the stalled state the main file isn't one of those that pages are written to
off_main : (state : ℕ) (name : List ℕ) → state ≡ stalled_state → WrittenIn state name name → ⊥
off_main state name stalled there = delta-other name (subst (λ (n : ℕ). WrittenIn n name name) stalled there)

pub grows_sized : (old new : World) (held : Held) (t : Trail) (ss : List Stroke) → IsOpen old held t → GrowsWithin old new (name_of held) held.files.page_size t ss → GrowsWithin old new (name_of held) (image_size t.base.image) t ss
grows_sized old new held t ss is grows = subst (λ (size : ℕ). GrowsWithin old new (name_of held) size t ss) is.files.agrees.page_size grows

-- calls after calls that make no operation
pub files_joined : (old mid new : World) (name : List ℕ) (t : Trail) → LeavesFiles false ⊥ old mid name t [] → LeavesFiles false ⊥ mid new name t [] → LeavesFiles false ⊥ old new name t []
files_joined old mid new name t first second = record {
  frozen = λ stalled plain. untouched_joined old mid new name (first.frozen stalled plain) (second.frozen stalled plain);
  gone = λ merged. absurd merged;
  long = grows_joined old mid new name (image_size t.base.image) t [] [] first.long second.long;
}

-- what waits goes out into the files that pages are written to in the backup state
pub files_waiting : (old new : World) (held : Held) (t : Trail) → IsOpen old held t → StrikesIn old new held.files.state (name_of held) t [] → GrowsWithin old new (name_of held) held.files.page_size t [] → LeavesFiles false ⊥ old new (name_of held) t []
files_waiting old new held t is struck grows = record {
  frozen = λ stalled plain. untouched_other old new (WrittenIn held.files.state (name_of held)) _ (name_of held) struck (off_main held.files.state (name_of held) (is.files.agrees.state ∙ stalled));
  gone = λ merged. absurd merged;
  long = grows_sized old new held t [] is grows;
}

-- no call
pub files_begun : (w : World) (name : List ℕ) (t : Trail) → Quiet w w → LeavesFiles false ⊥ w w name t []
files_begun w name t quiet = record { frozen = λ stalled plain. untouched_quiet w w name quiet; gone = λ merged. absurd merged; long = grows_not w w name (image_size t.base.image) t [] quiet }

-- less is asked
pub files_as : (ends : Bool) (merged less : Type 0) (old new : World) (name : List ℕ) (t : Trail) (ss : List Stroke) → (less → merged) → LeavesFiles ends merged old new name t ss → LeavesFiles ends less old new name t ss
files_as ends merged less old new name t ss so is = record { frozen = is.frozen; gone = λ m. is.gone (so m); long = is.long }

-- the turn isn't the last one of a merge
no_finish : (ended : Type 0) (turn : Turn) (P : Type 0) → is_finish turn ≡ false → ended × (is_finish turn ≡ true) → P
no_finish ended turn P other is = absurd (true≢false (sym is.1 ∙ other))

-- A turn that changes nothing.
pub files_quiet : (ended : Type 0) (old new : World) (name : List ℕ) (t : Trail) (turn : Turn) (ss : List Stroke) → is_finish turn ≡ false → Quiet old new → TurnLeaves ended old new name t turn ss
files_quiet ended old new name t turn ss other quiet = record {
  frozen = λ stalled plain. untouched_quiet old new name quiet;
  gone = no_finish ended turn _ other;
  long = grows_not old new name (image_size t.base.image) t ss quiet;
}

-- no call, whatever the turn: where it would have ended a merge, that is no end
pub files_nothing : (turn : Turn) (w : World) (name : List ℕ) (t : Trail) (ss : List Stroke) → Quiet w w → LeavesFiles (is_end turn) (⊥ × (is_finish turn ≡ true)) w w name t ss
files_nothing turn w name t ss quiet = record { frozen = λ stalled plain. untouched_quiet w w name quiet; gone = λ merged. absurd merged.0; long = grows_not w w name (image_size t.base.image) t ss quiet }

-- One that touches neither of the two files, or the difference file alone.
pub files_other : (ended : Type 0) (old new : World) (names : Names) (P : Files → Type 0) (name : List ℕ) (t : Trail) (turn : Turn) (ss : List Stroke) → is_finish turn ≡ false → Changes old new names P → (names name → ⊥) → TurnLeaves ended old new name t turn ss
files_other ended old new names P name t turn ss other changes off = record {
  frozen = λ stalled plain. untouched_other old new names P name changes off;
  gone = no_finish ended turn _ other;
  long = λ most within. other_keeps old new names P name _ changes off;
}

-- One that touches the files that pages are written to in the backup state.
pub files_makes : (ended : Type 0) (old new : World) (held : Held) (t : Trail) (turn : Turn) (ss : List Stroke) → is_finish turn ≡ false → IsOpen old held t → StrikesIn old new held.files.state (name_of held) t ss
    → GrowsWithin old new (name_of held) held.files.page_size t ss → TurnLeaves ended old new (name_of held) t turn ss
files_makes ended old new held t turn ss other is struck grows = record {
  frozen = λ stalled plain. untouched_other old new (WrittenIn held.files.state (name_of held)) _ (name_of held) struck (off_main held.files.state (name_of held) (is.files.agrees.state ∙ stalled));
  gone = no_finish ended turn _ other;
  long = grows_sized old new held t ss is grows;
}
