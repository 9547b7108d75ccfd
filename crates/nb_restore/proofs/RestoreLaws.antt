-- What a restore leaves, from its plan on.
use Rattle.std.proofs.Common.{◌≡◌, ◌⊎◌, inl, inr, ⊎_elim, ℕ, List, length, get_or, sym, ap, subst, ◌∙◌, Some, Result, Ok, Err, true}
use Rattle.nb_restore.proofs.Common.{is_free_file, true≢false, File, Files, World, Leaves, LeavesAll, Fault, Refused, Device, Memory, Changes, Only, NoNames, Remade, GaveNothing, rested, kept_then, nothing_joined, durable_is, Quiet, Page, Image, trimmed, joined, HoldsMain, Link, verdict, applied, fixed, owner_main, IsDone, IsPrepared, PlanSays, IsRestoredTo, RestoreLeft, RestoreAnswers, Restores, IsFreeOr, IsPlan, KeepsWhole, ReadsOr, restored, err_not_ok}
use Rattle.nb_change.proofs.MomentLaws.{left_before}
use Rattle.nb_model.specs.Owner.{delta_name}
use Rattle.nb_restore.specs.declared.plan.Plan.{Plan}

-- no plan was made, so nothing is done
pub not_prepared : (old mid : World) (target : List ℕ) (names : List (List ℕ)) (fault : Fault) → Quiet old mid → PlanSays old.files target names (Err fault) → Restores (Err fault) old mid target names
not_prepared old mid target names fault quiet says = record {
  answer = answers fault says;
  left = rested old mid (Only target) (RestoreLeft (Leaves old target) old target names) quiet.still quiet.said quiet.moments (λ files left. inl (left target));
  reads = inl (ap (λ (f : Files). f target) quiet.still.files);
  gave = record { guids = quiet.guids; times = quiet.times };
  taken = λ taken. quiet;
  broken = λ refusal broken. quiet;
}
  where
    answers : (f : Fault) → PlanSays old.files target names (Err f) → RestoreAnswers (Err f) old mid target names
    answers (Refused refusal) refused = (quiet, refused)
    answers Device failed = tt
    answers Memory wants = quiet

module _ (old mid new : World) (target : List ℕ) (names : List (List ℕ)) (plan : Plan) (quiet : Quiet old mid) (prepared : IsPrepared old.files target names plan) where
  abbrev whole : File → Type 0
  whole = restored prepared.pages prepared.links

  abbrev links : List Link
  links = prepared.chain.links

  -- the plan, as it is asked for
  pub plan_for : (level_0 : List ℕ) (first page : Page) → level_0 ≡ get_or names 0 level_0 → first ≡ plan.first.items → page ≡ plan.page.items
      → IsPlan mid.files target level_0 (length page) plan.pages plan.readers.items first page prepared.pages prepared.links
  plan_for level_0 first page is first_is page_is =
      let named : level_0 ≡ prepared.level_0 = is ∙ ap (λ (ns : List (List ℕ)). get_or ns 0 level_0) prepared.named in
      subst (λ (n : List ℕ). IsPlan mid.files target n (length page) plan.pages plan.readers.items first page prepared.pages prepared.links) (sym named)
      (subst (λ (p : Page). IsPlan mid.files target prepared.level_0 (length page) plan.pages plan.readers.items p page prepared.pages prepared.links) (sym first_is)
      (subst (λ (p : Page). IsPlan mid.files target prepared.level_0 (length p) plan.pages plan.readers.items plan.first.items p prepared.pages prepared.links) (sym page_is)
      (subst (λ (f : Files). IsPlan f target prepared.level_0 (length plan.page.items) plan.pages plan.readers.items plan.first.items plan.page.items prepared.pages prepared.links) (sym quiet.still.files) prepared.plan_is)))

  -- the whole file is the database of the chain
  shows : (files : Files) → whole (files target) → IsRestoredTo target links files
  unfolding applied
  shows files is = record {
    exact = is.exact ∙ ap (λ (i : Image). Some (joined (fixed i))) (sym prepared.gives);
    shows = owner_main target (fixed (applied links)) (files target) (files (delta_name target)) (subst (λ (i : Image). HoldsMain (fixed (trimmed i)) (files target)) (sym prepared.gives) is.holds);
  }

  -- what is made is free, or the database of the chain
  free_or_given : (files : Files) → IsFreeOr whole (files target) → (is_free_file (files target) ≡ true) ⊎ ((ls : List Link) × (verdict old.files names ≡ Ok ls) × IsRestoredTo target ls files)
  free_or_given files = ⊎_elim inl (λ is. inr (links, prepared.chain.accepted, shows files is))

  left_all : Changes mid new (Only target) (Remade mid target (IsFreeOr whole)) → Changes old new (Only target) (RestoreLeft (Leaves old target) old target names)
  left_all second =
      kept_then old mid new (Only target) (Remade mid target (IsFreeOr whole)) (RestoreLeft (Leaves old target) old target names) (rested old mid NoNames (LeavesAll old) quiet.still quiet.said quiet.moments (λ files left. left)) second (λ files left. inl (left target))
      (λ files. ⊎_elim (λ was. inl (left_before old mid _ quiet.still.left target (files target) tt was)) (λ made. inr (free_or_given files made)))

  -- and so the target reads
  reads_all : ReadsOr mid new target (IsFreeOr whole) → RestoreLeft (λ file. file ≡ old.files target) old target names new.files
  reads_all = ⊎_elim (λ same. inl (same ∙ ap (λ (f : Files). f target) quiet.still.files)) (λ made. inr (free_or_given new.files made))

  gave_all : GaveNothing mid new → GaveNothing old new
  gave_all gave = nothing_joined old mid new (record { guids = quiet.guids; times = quiet.times }) gave

  restores : (result : Result ℕ Fault) → RestoreAnswers result old new target names → Changes mid new (Only target) (Remade mid target (IsFreeOr whole)) → ReadsOr mid new target (IsFreeOr whole) → GaveNothing mid new → Restores result old new target names
  restores result answer left reads gave = record {
    answer = answer;
    left = left_all left;
    reads = reads_all reads;
    gave = gave_all gave;
    taken = λ taken. absurd (true≢false (sym prepared.chain.free ∙ taken));
    broken = λ refusal broken. absurd (err_not_ok refusal links (verdict old.files names) broken prepared.chain.accepted);
  }

  -- the device failed while the target was made
  pub restore_fails : (T P : Type 0) (fault : Fault) → IsDone {T = T} (Err fault) P → Changes mid new (Only target) (Remade mid target (IsFreeOr whole)) → ReadsOr mid new target (IsFreeOr whole) → GaveNothing mid new → Restores (Err fault) old new target names
  restore_fails T P (Refused refusal) says left reads gave = absurd says
  restore_fails T P Device says left reads gave = restores (Err Device) tt left reads gave
  restore_fails T P Memory says left reads gave = absurd says

  -- or the target is whole, and kept for good
  pub restore_done : KeepsWhole new target whole → Changes mid new (Only target) (Remade mid target (IsFreeOr whole)) → ReadsOr mid new target (IsFreeOr whole) → GaveNothing mid new → Restores (Ok plan.count) old new target names
  restore_done keeps left reads gave =
      restores (Ok plan.count) (
        prepared.chain.free,
        record {
          links = links;
          accepted = prepared.chain.accepted;
          counted = prepared.chain.counted;
          left = λ files leaves. shows files (subst whole (sym (durable_is new target keeps.file keeps.kept.durable (files target) (leaves target))) keeps.is);
          now = shows new.files (subst whole (sym keeps.kept.reads) keeps.is);
          apart = prepared.apart;
        },
      ) left reads gave
