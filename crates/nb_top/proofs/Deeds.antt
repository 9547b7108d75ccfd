-- What is known of each deed that fits, in one place: laws over what is asked for cite it.
use Rattle.std.proofs.Common.{◌≡◌, ◌∙◌, ℕ, List, true, false, ap}
use Rattle.nb_top.proofs.Common.{Files, is_name, World, Deed, Restore, Fixup, Apply, Fold, Account, is_database, FitsDeed, OfName, leaves_all, one_turn, HoldsUnder, KnowsNames, StandsFor}
use Rattle.nb_model.specs.declared.job.Deed.TheVariants.{Plan}
use Rattle.nb_top.proofs.Fixed.{fix_sound}
use Rattle.nb_top.proofs.FoldStands.{fold_sound}
use Rattle.nb_top.proofs.Merged.{merge_sound}
use Rattle.nb_top.proofs.Planned.{plan_sound}
use Rattle.nb_top.proofs.Restored.{restore_sound}
use Rattle.nb_top.proofs.TurnsStand.{IsSoundJob}
use Rattle.nb_top.proofs.WordNames.{database_named, file_named, plain_database, plain_file, plain_files}

pub record IsSoundDeed (deed : Deed) : Type 1 where
  -- its file has a name that a host may give
  pub named : (files : Files) (m : List ℕ) → OfName (one_turn files deed).name m → is_name m ≡ true
  -- an account that tells what the files hold knows what it asks
  pub known : (files : Files) (account : Account) → KnowsNames files account → ((db : List ℕ) → is_database db ≡ true → HoldsUnder files account db) → (one_turn files deed).knows account
  -- it keeps what stands
  pub stands : (old : World) (account : Account) → StandsFor old account → (leaves_all ((one_turn old.files deed).turn account) ≡ false → (one_turn old.files deed).takes account.kept)
      → IsSoundJob old account (one_turn old.files deed)

pub sound_deed : (deed : Deed) → FitsDeed deed → IsSoundDeed deed
sound_deed (Restore db names) fits = record {
  named = λ files m own. ap is_name own ∙ database_named db fits.0;
  known = λ files account free holds. free db (plain_database db fits.0);
  stands = λ old account stands takes. restore_sound old account db names stands (plain_database db fits.0) (plain_files names fits.3) fits.1 takes;
}
sound_deed (Fixup db) fits = record {
  named = λ files m own. ap is_name own ∙ database_named db fits;
  known = λ files account free holds. holds db fits;
  stands = λ old account stands takes. fix_sound old account db stands (plain_database db fits) takes;
}
sound_deed (Apply db name) fits = record {
  named = λ files m own. ap is_name own ∙ database_named db fits.0;
  known = λ files account free holds. holds db fits.0;
  stands = λ old account stands takes. merge_sound old account db name stands (plain_database db fits.0) (plain_file name fits.1) takes;
}
sound_deed (Fold out names) fits = record {
  named = λ files m own. ap is_name own ∙ file_named out fits.0;
  known = λ files account free holds. free out (plain_file out fits.0);
  stands = λ old account stands takes. fold_sound old account out names stands (plain_file out fits.0) (plain_files names fits.3) fits.1 takes;
}
sound_deed (Plan keep names) fits = record {
  named = λ files m own. absurd own;
  known = λ files account free holds. tt;
  stands = λ old account stands takes. plan_sound old account keep names;
}
