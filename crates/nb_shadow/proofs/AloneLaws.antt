-- Each side by itself is among what is seen.
use Rattle.std.proofs.Common.{◌≢◌, inl, inr, ℕ, Bool, true, false, List, refl, ◌∙◌, IsTrue}
use Rattle.std.specs.Prelude.{None}
use Rattle.std.proofs.lemmas.Bool.{false≢true}
use Rattle.nb_host.specs.Files.{File, Files, with_file}
use Rattle.nb_host.specs.World.{World}
use Rattle.nb_host.specs.Crash.{IsDurable}
use Rattle.nb_host.proofs.NameLaws.{with_file-same, with_file-other}
use Rattle.nb_shadow.specs.declared.pair.Pair.{Pair}
use Rattle.nb_shadow.specs.declared.pair.Pairs.{Pairs}
use Rattle.nb_shadow.specs.Pairs.{AreApart}
use Rattle.nb_shadow.specs.Mirror.{IsSideOf, mirrored}
use Rattle.nb_shadow.specs.Shadowed.{shadowed}
use Rattle.nb_shadow.specs.Alone.{without_copy, copy_in_place, database_alone, twin_alone, AreDurable}

module _ (p : Pair) (apart : p.file ≢ p.copy) where
  file_side : (all : Files) → IsSideOf p all (without_copy p all)
  file_side all = record {
    hidden = with_file-same all p.copy None;
    side = inl (with_file-other all p.copy None p.file apart);
    others = λ m other off. with_file-other all p.copy None m off;
  }

  copy_side : (all : Files) → IsSideOf p all (copy_in_place p all)
  copy_side all =
      let put : Files = with_file all p.file (all p.copy) in
      record {
        hidden = with_file-same put p.copy None;
        side = inr (with_file-other put p.copy None p.file apart ∙ with_file-same all p.file (all p.copy));
        others = λ m other off. with_file-other put p.copy None m off ∙ with_file-other all p.file (all p.copy) m other;
      }

  -- what is durable above is so below, of the file and of its twin
  durable_below : (w : World) (name : List ℕ) (file : File) → name ≢ p.copy → IsDurable (mirrored p w) name file → IsDurable w name file
  durable_below w name file off is = record { none_back = λ c back. is.none_back c (off, inl back); only = λ c now. is.only c (inr (off, inl now)) }

  durable_copy : (w : World) (file : File) → IsDurable (mirrored p w) p.file file → IsDurable w p.copy file
  durable_copy w file is = record { none_back = λ c back. is.none_back c (apart, inr (refl, back)); only = λ c now. is.only c (inr (apart, inr (refl, now))) }

module _ (tells : Bool) (told : IsTrue tells) (ps : Pairs) (apart : AreApart ps) (w : World) where
  pub database_stands : (t : ℕ) (all : Files) (said : List ℕ) → w.left_since t all said → (shadowed tells ps w).left_since t (database_alone ps all) said
  database_stands t all said left = by tells told
    where
      by : (b : Bool) → IsTrue b → (shadowed b ps w).left_since t (database_alone ps all) said
      by true told = (without_copy ps.main all, (all, left, file_side ps.main apart.in_main all), file_side ps.delta apart.in_delta (without_copy ps.main all))
      by false told = absurd (false≢true told)

  pub twin_stands : (t : ℕ) (all : Files) (said : List ℕ) → w.left_since t all said → (shadowed tells ps w).left_since t (twin_alone ps all) said
  twin_stands t all said left = by tells told
    where
      by : (b : Bool) → IsTrue b → (shadowed b ps w).left_since t (twin_alone ps all) said
      by true told = (copy_in_place ps.main all, (all, left, copy_side ps.main apart.in_main all), copy_side ps.delta apart.in_delta (copy_in_place ps.main all))
      by false told = absurd (false≢true told)

  pub both_durable : (file : File) → IsDurable (shadowed tells ps w) ps.main.file file → AreDurable w ps.main file
  both_durable file is = by tells told is
    where
      by : (b : Bool) → IsTrue b → IsDurable (shadowed b ps w) ps.main.file file → AreDurable w ps.main file
      by true told is =
          let inner : IsDurable (mirrored ps.main w) ps.main.file file = durable_below ps.delta apart.in_delta (mirrored ps.main w) ps.main.file file apart.main_copy is in
          record { of_file = durable_below ps.main apart.in_main w ps.main.file file apart.in_main inner; of_copy = durable_copy ps.main apart.in_main w file inner }
      by false told is = absurd (false≢true told)
