-- A standby that is half merged can't be opened, and its name can't be taken.
use Rattle.std.proofs.Common.{◌≡◌, ◌≢◌, ℕ, List, refl, sym, ap, ◌∙◌, Bool, true, false, ◌==◌, Some, Err, IsTrue}
use Rattle.nb_inplace.proofs.Common.{and_from, eq-eqb, is_header, state_of, applying_state, File, Files, Refusal, Unfinished, Plain, Contents, owner, owner_in, entry_of_files, nil, is_applying, formed, owner-formed, IsHalf, IsMergeable}
use Rattle.nb_fields.specs.Free.{is_free_file}
use Rattle.nb_model.proofs.FreeLaws.{free_header}
use Rattle.nb_inplace.proofs.HalfLaws.{half_state, half_pending}
use Rattle.nb_model.proofs.OpeningLaws.{owner_applying}

-- what can't be opened is a plain file
pub closed_entry : (name bytes : List ℕ) (delta : File) (r : Refusal) → owner name (Some bytes) delta ≡ Err r → entry_of_files name (Some bytes) delta ≡ Plain bytes delta
unfolding entry_of_files
closed_entry name bytes delta r e = rw (e, entry_of_files) refl

-- a header in the applying state
pub is_applying_so : (bytes : List ℕ) → is_header bytes ≡ true → state_of bytes ≡ applying_state → IsTrue (is_applying bytes)
is_applying_so bytes header three = and_from (is_header bytes) (state_of bytes == applying_state) header (eq-eqb (state_of bytes) 3 three)

module _ (files : Files) (standby name bytes : List ℕ) (c : Contents) (m : IsMergeable files standby name bytes c) (half : List ℕ) (h : IsHalf bytes c half) where
  pub half_header : is_header half ≡ true
  half_header = (formed half h.formed).header

  pub half_applying : IsTrue (is_applying half)
  half_applying = is_applying_so half half_header (half_state files standby name bytes c m half h)

  pub half_closed : (delta : File) → owner standby (Some half) delta ≡ Err Unfinished
  half_closed delta = owner-formed standby half delta h.formed ∙ ap (λ (n : ℕ). owner_in n standby half delta) (half_state files standby name bytes c m half h) ∙ owner_applying standby half delta

  pub half_in_use : c.head.guid ≢ nil → is_free_file (Some half) ≡ false
  half_in_use some = by (is_free_file (Some half)) refl
    where
      by : (t : Bool) → is_free_file (Some half) ≡ t → is_free_file (Some half) ≡ false
      by true free = absurd (some (sym (half_pending files standby name bytes c m half h) ∙ (free_header half free half_header).1))
      by false used = used
