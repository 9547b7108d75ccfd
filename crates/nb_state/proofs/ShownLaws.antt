-- What the two files show of a database that is open, and that it stays open while other files change.
use Rattle.std.proofs.Common.{◌≡◌, ℕ, refl, sym, subst, Ok, drop, slice_index}
use Rattle.nb_state.proofs.Common.{File, Files, bytes_of, World, Base, page_at, image_in, delta_name, owner, Trail, ShowsIn, settled, IsMerged, open_of, files_open, files_shown, settled_none, Held, NoPageWaits, IsOpen, name_of, pair_of}
use Rattle.nb_fields.specs.Table.{page_in, slot_place}
use Rattle.nb_host.specs.Crash.{LeavesAll}
use Rattle.nb_base.specs.Firm.{StandsFirmOn}

-- where no page waits they show what was seen
pub shown : (w : World) (held : Held) (t : Trail) → NoPageWaits held → IsOpen w held t → ShowsIn (name_of held) t.base w.files
shown w held t none is = (files_open w (pair_of held) t none.0 is.files).shows

-- and at a settled point none does
pub shown_settled : (w : World) (held : Held) (b : Base) → IsOpen w held (settled b) → ShowsIn (name_of held) b w.files
shown_settled w held b is = (files_shown w (pair_of held) (settled b) (settled_none w (pair_of held) (settled b) is.files refl) is.files).shows

-- The two files read as before, and a crash leaves of them only what it would have left.
module _ (old new : World) (held : Held) (t : Trail) (is : IsOpen old held t) (main : new.files (name_of held) ≡ old.files (name_of held)) (beside : new.files (delta_name (name_of held)) ≡ old.files (delta_name (name_of held)))
    (left : (P : File → File → Type 0) → ((files : Files) → LeavesAll old files → P (files (name_of held)) (files (delta_name (name_of held)))) → (files : Files) → LeavesAll new files → P (files (name_of held)) (files (delta_name (name_of held)))) where
  reads : (P : File → File → Type 0) → P (old.files (name_of held)) (old.files (delta_name (name_of held))) → P (new.files (name_of held)) (new.files (delta_name (name_of held)))
  reads P so = subst (λ (f : File). P f (new.files (delta_name (name_of held)))) (sym main) (subst (P (old.files (name_of held))) (sym beside) so)

  pub open_beside : IsOpen new held t
  open_beside = record {
    files = open_of new (pair_of held) is.files.sees t (record {
      left = left (StandsFirmOn (name_of held) is.files.sees) is.files.files.left;
      shows = reads (λ (m d : File). owner (name_of held) m d ≡ Ok is.files.sees.base) is.files.files.shows;
    }) is.files.agrees is.files.waits is.files.pages;
    agrees = is.agrees;
    merged = λ two j low inside.
        let size : ℕ = held.files.page_size in
        let entry : IsMerged held.files old.files j = is.merged two j low inside in
        record {
          later = λ first. reads (λ (m d : File). drop 64 (page_at (image_in (bytes_of m)) 0) ≡ drop 64 (page_in size (bytes_of d) (slot_place size j))) (entry.later first);
          same = λ some. reads (λ (m d : File). page_in size (bytes_of m) (slice_index held.files.entries j) ≡ page_in size (bytes_of d) (slot_place size j)) (entry.same some);
        };
    most = is.most;
  }
