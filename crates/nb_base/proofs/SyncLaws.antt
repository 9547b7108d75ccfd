-- What a crash leaves of two files that are kept for good.
use Rattle.std.proofs.Common.{◌≡◌, ◌≢◌, ℕ, zero, suc, refl, sym, ap, subst, ◌∙◌, arith, Ok}
use Rattle.nb_base.proofs.Common.{normal_state, File, Files, World, IsDurable, IsStill, durable_is, Base, delta_name, owner, settled, ShowsIn, Held, Agrees, IsOpen}
use Rattle.nb_base.proofs.FirmLaws.{shows_firm}
use Rattle.nb_base.proofs.OpenedLaws.{holds_whatever}
use Rattle.nb_base.proofs.OwnedLaws.{Holds, holds, shows, base-state}

-- the main file is durable, and the difference file where it is looked at
pub both_settled : (old new : World) (held : Held) (b : Base) → IsStill old new → Agrees held b → held.drafted ≡ 0 → ShowsIn held.name b old.files → IsDurable new held.name (new.files held.name)
    → (held.state ≢ normal_state → IsDurable new (delta_name held.name) (new.files (delta_name held.name))) → IsOpen new held (settled b)
both_settled old new held b still agrees none_drafted reads main delta = record {
  left = λ files all.
      let m : files held.name ≡ new.files held.name = durable_is new held.name (new.files held.name) main (files held.name) (all held.name) in
      shows_firm held.name b (files held.name) (files (delta_name held.name)) (ap (λ (x : File). owner held.name x (files (delta_name held.name))) m ∙ any (files (delta_name held.name)) (λ ne. durable_is new _ _ (delta ne) _ (all (delta_name held.name))));
  shows = shown;
  agrees = agrees;
  drafted = none_drafted;
}
  where
    shown : ShowsIn held.name b new.files
    shown = subst (λ (f : Files). ShowsIn held.name b f) (sym still.files) reads

    any : (d : File) → (held.state ≢ normal_state → d ≡ new.files (delta_name held.name)) → owner held.name (new.files held.name) d ≡ Ok b
    any d is =
        let h : Holds b (new.files held.name) (new.files (delta_name held.name)) = holds held.name b (new.files held.name) (new.files (delta_name held.name)) shown in
        by held.state refl h
      where
        by : (s : ℕ) → held.state ≡ s → (h : Holds b (new.files held.name) (new.files (delta_name held.name))) → owner held.name (new.files held.name) d ≡ Ok b
        by zero e h =
            shows held.name b (new.files held.name) d (holds_whatever b (new.files held.name) (new.files (delta_name held.name)) d h (sym (base-state b (new.files held.name) (new.files (delta_name held.name)) h) ∙ sym agrees.state ∙ e))
        by (suc s) e h = ap (owner held.name (new.files held.name)) (is (λ z. absurd (omega (arith, z, e)))) ∙ shown
