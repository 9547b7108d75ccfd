-- A page that waited goes out: what one outcome holds then, what a crash leaves, and what reads.
use Rattle.std.proofs.Common.{◌≡◌, ◌≢◌, ◌⊎◌, inl, inr, ⊎_elim, ℕ, ◌*◌, List, length, refl, sym, ap, subst, ◌∙◌, arith, Bool, IsTrue, None, Ok, Result}
use Rattle.nb_base.proofs.Common.{stalled_state, File, Files, with_file, World, PageLeft, WritesPage, IsTimely, Passes, Only, Changes, with_file-same, with_file-other, begun, page_more, Page, image_state, Base, delta_name, entry_for, owner, page, on_base, settled, ShowsIn, itself_firm, IsWrite, MayPut, PutLeft}
use Rattle.nb_host.specs.Files.{with_page as with_page_at}
use Rattle.nb_base.proofs.OwnedLaws.{Holds, holds, shows, base-state}
use Rattle.nb_base.proofs.StepLaws.{left_main, holds_main}
use Rattle.nb_base.proofs.WriteLaws.{delta_apart}

module _ (b : Base) (p : ℕ) (bytes : Page) (may : MayPut b p bytes) where
  -- it is a write of a page
  put_write : IsWrite (settled b) p bytes
  put_write = record { fits = record { low = omega (arith, may.low); front = λ first. absurd (omega (arith, first, may.some)) }; long = may.long; below = may.below; other = may.other }

  main_state : image_state b.image ≢ stalled_state
  main_state stalled = absurd (omega (arith, stalled, may.normal))

  no_entry : (m d : File) (h : Holds b m d) → entry_for p b.diverted ≡ None
  unfolding entry_for
  no_entry m d h = ap (entry_for p) (h.entries.none (sym (base-state b m d h) ∙ may.normal))

  -- What one outcome holds then.
  pub put_left_on : (name : List ℕ) (m d c : File) → owner name m d ≡ Ok b → PageLeft (p * length bytes) bytes m c → (owner name c d ≡ Ok b) ⊎ (owner name c d ≡ Ok (on_base (page p bytes) b))
  put_left_on name m d c opens step =
      let h : Holds b m d = holds name b m d opens in
      ⊎_elim (λ same. inl (shows name b c d same)) (λ next. inr (shows name (on_base (page p bytes) b) c d next))
      (left_main (settled b) p bytes put_write b (itself_firm (settled b)) m d h main_state (no_entry m d h) c step)

  pub put_on : (name : List ℕ) (m d c : File) → owner name m d ≡ Ok b → c ≡ with_page_at m (p * length bytes) bytes → owner name c d ≡ Ok (on_base (page p bytes) b)
  put_on name m d c opens put =
      let h : Holds b m d = holds name b m d opens in
      shows name (on_base (page p bytes) b) c d (holds_main (settled b) p bytes put_write b (itself_firm (settled b)) m d h main_state (no_entry m d h) c put)

module _ (name : List ℕ) (p : ℕ) (bytes : Page) (old new : World) where
  pub put_left : {T E : Type 0} (tells : Bool) (result : Result T E) → IsTrue tells → IsTimely old → WritesPage tells result old new name (p * length bytes) bytes → new.said ≡ old.said → Passes old new
      → Changes old new (Only name) (PutLeft old name p bytes)
  put_left tells result told timely writes silent time =
      page_more tells result old old new (Only name) (PutLeft old name p bytes) (PutLeft old name p bytes) name (p * length bytes) bytes told
      (begun old (Only name) (PutLeft old name p bytes) timely (λ files all. record { before = files; was = all; by = λ b opens may. inl opens })) refl writes silent time (λ files so_far. so_far)
      (λ before files all so_far step others. record {
        before = before;
        was = all;
        by = λ b opens may.
            let delta : files (delta_name name) ≡ before (delta_name name) = others (delta_name name) (delta_apart name) in
            subst (λ (d : File). (owner name (files name) d ≡ Ok b) ⊎ (owner name (files name) d ≡ Ok (on_base (page p bytes) b))) (sym delta)
            (put_left_on b p bytes may name (before name) (before (delta_name name)) (files name) opens step);
      })

  pub put_shown : new.files ≡ with_file old.files name (with_page_at (old.files name) (p * length bytes) bytes) → (b : Base) → ShowsIn name b old.files → MayPut b p bytes → ShowsIn name (on_base (page p bytes) b) new.files
  put_shown put b opens may =
      let here : new.files name ≡ with_page_at (old.files name) (p * length bytes) bytes = ap (λ (f : Files). f name) put ∙ with_file-same old.files name _ in
      let beside : new.files (delta_name name) ≡ old.files (delta_name name) = ap (λ (f : Files). f (delta_name name)) put ∙ with_file-other old.files name _ (delta_name name) (delta_apart name) in
      subst (λ (d : File). owner name (new.files name) d ≡ Ok (on_base (page p bytes) b)) (sym beside) (put_on b p bytes may name (old.files name) (old.files (delta_name name)) (new.files name) opens here)
