-- What a fixup changes and leaves.
use Rattle.std.proofs.Common.{◌≡◌, inl, inr, ⊎_elim, ℕ, ◌*◌, List, length, take, sym, refl, ap, subst, ◌∙◌, Some, None, Result, Ok, Err}
use Rattle.nb_fixup.proofs.Common.{size_of, File, Files, with_page, Leaves, LeavesAll, PageLeft, Fault, Refused, Device, Memory, NoFile, not_database, Page, image_in, not_fixable, HoldsMain, delta_name, fixed, owner_main, normal_page, fixup_cause, fixed_bytes, IsFixable, IsFixed, FixLeft, FixAnswers, Fixes, TestedByReads, some_none}
use Rattle.nb_host.specs.World.{World}
use Rattle.nb_change.specs.Changes.{Changes, Only, NoNames, Remade}
use Rattle.nb_change.specs.Gave.{GaveNothing}
use Rattle.nb_change.proofs.ChangesLaws.{rested, kept_then}
use Rattle.nb_change.proofs.GaveLaws.{nothing_joined}
use Rattle.nb_change.proofs.MomentLaws.{left_before}
use Rattle.nb_change.proofs.SettledLaws.{durable_is}
use Rattle.nb_page.specs.Quiet.{Quiet}
use Rattle.nb_restore.specs.Target.{IsKept, ReadsOr}
use Rattle.nb_fixup.proofs.CauseLaws.{IsFit, fit_is, not_there}
use Rattle.nb_fixup.proofs.ImageLaws.{first_put, fixed_holds, first_left}

-- what stands there can be fixed
pub fixable_fit : (files : Files) (name bytes : List ℕ) → IsFixable files name bytes → IsFit bytes (files (delta_name name))
fixable_fit files name bytes copy = fit_is name bytes (files (delta_name name)) (ap (λ (f : File). not_fixable name f (files (delta_name name))) (sym copy.there) ∙ copy.fit)

-- and there is such a file where there is no cause against it
pub copy_there : (files : Files) (name : List ℕ) → fixup_cause files name ≡ None → (bytes : List ℕ) × IsFixable files name bytes
copy_there files name fit = by (files name) refl
  where
    by : (file : File) → files name ≡ file → (bytes : List ℕ) × IsFixable files name bytes
    by None is = absurd (some_none (NoFile name) (sym (not_there name (files (delta_name name))) ∙ ap (λ (f : File). not_fixable name f (files (delta_name name))) (sym is) ∙ fit))
    by (Some bytes) is = (bytes, record { there = is; fit = fit })

-- nothing was changed, whatever the device did
module _ (old new : World) (name : List ℕ) (quiet : Quiet old new) where
  kept_so : (result : Result (Unit {0}) Fault) → FixAnswers result old new name → Fixes result old new name
  kept_so result answer = record {
    answer = answer;
    left = rested old new (Only name) (FixLeft (Leaves old name) old name) quiet.still quiet.said quiet.moments (λ files left. inl (left name));
    reads = inl (ap (λ (f : Files). f name) quiet.still.files);
    gave = record { guids = quiet.guids; times = quiet.times };
    unfit = λ some. quiet;
  }

  pub fix_refused : (fault : Fault) → TestedByReads {T = ℕ} (Err fault) (fixup_cause old.files name) → Fixes (Err fault) old new name
  fix_refused (Refused refusal) tested = kept_so (Err (Refused refusal)) (quiet, tested)
  fix_refused Device tested = kept_so (Err Device) tt
  fix_refused Memory tested = absurd tested

-- The copy was read, and then its page 0 is written.
module _ (old mid new : World) (name bytes : List ℕ) (page : Page) (quiet : Quiet old mid) (copy : IsFixable old.files name bytes) (is : page ≡ normal_page (take (size_of bytes) bytes)) where
  formed : not_database bytes ≡ None
  formed = (fixable_fit old.files name bytes copy).formed

  there : mid.files name ≡ Some bytes
  there = ap (λ (f : Files). f name) quiet.still.files ∙ copy.there

  fixed_is : (files : Files) → files name ≡ Some (fixed_bytes bytes) → IsFixed name bytes files
  fixed_is files file = record {
    file = file;
    shows = owner_main name (fixed (image_in bytes)) (files name) (files (delta_name name)) (subst (λ (f : File). HoldsMain (fixed (image_in bytes)) f) (sym file) (fixed_holds bytes formed page is));
  }

  abbrev written : File → Type 0
  written = PageLeft (0 * length page) page (mid.files name)

  left_all : Leaves old name (old.files name) → Changes mid new (Only name) (Remade mid name written) → Changes old new (Only name) (FixLeft (Leaves old name) old name)
  left_all reads second =
      kept_then old mid new (Only name) (Remade mid name written) (FixLeft (Leaves old name) old name) (rested old mid NoNames (LeavesAll old) quiet.still quiet.said quiet.moments (λ files left. left)) second (λ files left. inl (left name))
      (λ files. ⊎_elim (λ was. inl (left_before old mid _ quiet.still.left name (files name) tt was))
      (λ put. ⊎_elim (λ same. inl (subst (λ (f : File). Leaves old name f) (sym (same ∙ sym copy.there)) reads)) (λ done. inr (bytes, copy, fixed_is files done))
      (first_left bytes formed page is (files name) (subst (λ (f : File). PageLeft (0 * length page) page f (files name)) there put))))

  -- page 0 makes it fixed
  put_is : with_page (mid.files name) (0 * length page) page ≡ Some (fixed_bytes bytes)
  put_is = ap (λ (f : File). with_page f (0 * length page) page) there ∙ first_put bytes formed page is

  -- and so the file reads
  reads_all : ReadsOr mid new name (λ file. file ≡ with_page (mid.files name) (0 * length page) page) → FixLeft (λ file. file ≡ old.files name) old name new.files
  reads_all = ⊎_elim (λ same. inl (same ∙ ap (λ (f : Files). f name) quiet.still.files)) (λ put. inr (bytes, copy, fixed_is new.files (put ∙ put_is)))

  gave_all : GaveNothing mid new → GaveNothing old new
  gave_all gave = nothing_joined old mid new (record { guids = quiet.guids; times = quiet.times }) gave

  fixes : (result : Result (Unit {0}) Fault) → FixAnswers result old new name → Leaves old name (old.files name) → Changes mid new (Only name) (Remade mid name written) → ReadsOr mid new name (λ file. file ≡ with_page (mid.files name) (0 * length page) page) → GaveNothing mid new → Fixes result old new name
  fixes result answer there_left left reads gave = record { answer = answer; left = left_all there_left left; reads = reads_all reads; gave = gave_all gave; unfit = λ some. absurd (some copy.fit) }

  -- the device failed
  pub fix_fails : Leaves old name (old.files name) → Changes mid new (Only name) (Remade mid name written) → ReadsOr mid new name (λ file. file ≡ with_page (mid.files name) (0 * length page) page) → GaveNothing mid new → Fixes (Err Device) old new name
  fix_fails there_left left reads gave = fixes (Err Device) tt there_left left reads gave

  -- or the page is kept for good
  pub fix_done : IsKept new name (with_page (mid.files name) (0 * length page) page) → Leaves old name (old.files name) → Changes mid new (Only name) (Remade mid name written) → ReadsOr mid new name (λ file. file ≡ with_page (mid.files name) (0 * length page) page) → GaveNothing mid new → Fixes (Ok tt) old new name
  fix_done kept there_left left reads gave =
      fixes (Ok tt) (record {
        bytes = bytes;
        copy = copy;
        left = λ files leaves. fixed_is files (durable_is new name _ kept.durable (files name) (leaves name) ∙ put_is);
        now = fixed_is new.files (kept.reads ∙ put_is);
      }) there_left left reads gave
