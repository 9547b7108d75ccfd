-- A file is synced.
use Rattle.std.proofs.Common.{◌≡◌, ◌≢◌, ⊎_elim, ℕ, true, List, refl, sym, ◌∙◌, ap, subst, Result, Ok, Err, OnOk}
use Rattle.std.proofs.lemmas.Bool.{false≢true}
use Rattle.nb_host.specs.Files.{File, Files}
use Rattle.nb_host.specs.World.{World}
use Rattle.nb_host.specs.Crash.{Untouched, IsDurable}
use Rattle.nb_host.specs.Calls.{IsStill, Syncs}
use Rattle.nb_change.proofs.MomentLaws.{untouched_joined, untouched_fewer}
use Rattle.nb_change.proofs.SettledLaws.{durable_still}
use Rattle.nb_shadow.specs.declared.pair.Pair.{Pair}
use Rattle.nb_shadow.specs.Mirror.{mirrored}
use Rattle.nb_shadow.specs.MirrorLaws.{alone_back, alone_now, either_back, either_now}
use Rattle.nb_shadow.proofs.SeenLaws.{reads_below, seen_still}
use Rattle.nb_shadow.proofs.TwiceLaws.{then, GoesTwice}

still_joined : (a b c : World) → IsStill a b → IsStill b c → IsStill a c
still_joined a b c first second = record { files = second.files ∙ first.files; left = untouched_joined a b c (λ _. Unit {0}) first.left second.left }

still_others : (a b : World) (name : List ℕ) → IsStill a b → Untouched a b (λ m. m ≢ name)
still_others a b name still = untouched_fewer a b (λ _. Unit {0}) (λ m. m ≢ name) still.left (λ m off. tt)

module _ (p : Pair) (apart : p.file ≢ p.copy) where
  durable_passed : {T E : Type 0} (r : Result T E) (w : World) (name : List ℕ) (file : File) → name ≢ p.file → name ≢ p.copy → OnOk r (IsDurable w name file) → OnOk r (IsDurable (mirrored p w) name file)
  durable_passed (Ok x) w name file other off is = record {
    none_back = λ c back. is.none_back c (alone_back p apart w name c other back);
    only = λ c now. is.only c (alone_now p apart w name c other off now);
  }
  durable_passed (Err e) w name file other off is = tt

  durable_twice : {T E : Type 0} (r s : Result T E) (b c : World) (file : File) → IsStill b c → OnOk r (IsDurable b p.file file) → OnOk s (IsDurable c p.copy file) → OnOk (then r s) (IsDurable (mirrored p c) p.file file)
  durable_twice (Ok x) (Ok y) b c file still own twin =
      let kept : IsDurable c p.file file = durable_still b c p.file file still own in
      record {
        none_back = λ f back. ⊎_elim (kept.none_back f) (twin.none_back f) (either_back p apart c f back);
        only = λ f now. ⊎_elim (kept.only f) (twin.only f) (either_now p apart c f now);
      }
  durable_twice (Ok x) (Err e) b c file still own twin = tt
  durable_twice (Err e) s b c file still own twin = tt

  sync_passed : {T E : Type 0} (r : Result T E) (a b : World) (name : List ℕ) → name ≢ p.file → name ≢ p.copy → Syncs true r a b name → Syncs true r (mirrored p a) (mirrored p b) name
  sync_passed r a b name other off is = record {
    still = seen_still p apart a b is.still;
    durable = λ told. subst (λ (f : File). OnOk r (IsDurable (mirrored p b) name f)) (sym (reads_below p apart a name off)) (durable_passed r b name (a.files name) other off (is.durable told));
  }

  sync_twice : {T E : Type 0} (r s : Result T E) (a b c : World) → a.files p.file ≡ a.files p.copy → Syncs true r a b p.file → Syncs true s b c p.copy → Syncs true (then r s) (mirrored p a) (mirrored p c) p.file
  sync_twice r s a b c same first second = record {
    still = seen_still p apart a c (still_joined a b c first.still second.still);
    durable = λ told. subst (λ (f : File). OnOk (then r s) (IsDurable (mirrored p c) p.file f)) (sym (reads_below p apart a p.file apart))
        (durable_twice r s b c (a.files p.file) second.still (first.durable told)
        (subst (λ (f : File). OnOk s (IsDurable c p.copy f)) (ap (λ (f : Files). f p.copy) first.still.files ∙ sym same) (second.durable told)));
  }

pub syncs : {T E : Type 0} → GoesTwice {T = T} {E = E} (λ tells r a b name. Syncs tells r a b name)
syncs = record {
  gains = λ tells r a b name is. still_others a b name is.still;
  reads = λ r a b name is m other. ap (λ (f : Files). f m) is.still.files;
  alike = λ x y p a b c apart same first second.
      let files : c.files ≡ a.files = second.still.files ∙ first.still.files in
      ap (λ (f : Files). f p.file) files ∙ same ∙ sym (ap (λ (f : Files). f p.copy) files);
  passed = λ p apart r a b name other off is. sync_passed p apart r a b name other off is;
  twice = λ p apart r s a b c same first second. sync_twice p apart r s a b c same first second;
  idle = λ tells e w name. record { still = record { files = refl; left = record { back = λ m c off left. left; now = λ m c off left. left } }; durable = λ told. tt };
  mute = λ r name. record { still = record { files = refl; left = record { back = λ m c off none. none; now = λ m c off none. none } }; durable = λ told. absurd (false≢true told) };
}
