-- What a crash leaves while an entry is added: its slot is written, room is made, and then the table names it.
use Rattle.std.proofs.Common.{◌≡◌, ℕ, ◌-◌, ◌*◌, Bool, List, length, refl, sym, subst, IsTrue, Result}
use Rattle.nb_delta.proofs.Common.{File, World, PageLeft, IsDurable, WritesPage, IsTimely, Passes, is_page_size, alloc_place, Only, Changes, Moved, page_alone, moved_joined, durable_is, Keeps, SlotStep, AddStep, IsReady, IsNewest, Prepared, NoteStep}
use Rattle.nb_delta.proofs.EntryLaws.{named_none}
use Rattle.nb_delta.proofs.StepLaws.{keeps_slot, keeps_joined, note_left, add_step_again, newest_keeps}

-- the slot, and then room
pub slot_then_room : (old mid new : World) (name : List ℕ) (size : ℕ) → IsTrue (is_page_size size) → (place room : ℕ) (bytes : List ℕ) → room ≡ size
    → Changes old mid (Only name) (Moved old name (SlotStep size place bytes)) → Changes mid new (Only name) (Moved mid name (Keeps room place)) → Changes old new (Only name) (Moved old name (Keeps size place))
slot_then_room old mid new name size is_size place room bytes same first second =
    moved_joined old mid new name (SlotStep size place bytes) (Keeps room place) (Keeps size place) first second
    (λ b c was step. keeps_slot size is_size place bytes b c step)
    (λ b c d was still step keeps. keeps_joined size is_size place b c d (keeps_slot size is_size place bytes b c step) (subst (λ (n : ℕ). Keeps n place c d) same keeps))

-- the allocation page, of a file that is kept for good
pub note_written : {T E : Type 0} (tells : Bool) (result : Result T E) (old new : World) (name : List ℕ) (at group number : ℕ) (page entries : List ℕ) → IsTrue tells → IsTimely old → IsTrue (is_page_size (length page))
    → WritesPage tells result old new name (at * length page) page → new.said ≡ old.said → Passes old new → at ≡ alloc_place (length page) group
    → IsReady (length page) entries number group page (old.files name) → IsDurable old name (old.files name) → Changes old new (Only name) (Moved old name (NoteStep (length page) entries number))
note_written tells result old new name at group number page entries told timely is_size writes silent time place ready durable =
    page_alone tells result old new name (at * length page) page (NoteStep (length page) entries number) told timely writes silent time
    (λ b c was left.
    let file : File = old.files name in
    let is : b ≡ file = durable_is old name file durable b was in
    subst (λ (f : File). NoteStep (length page) entries number f c) (sym is)
    (note_left (length page) is_size entries number group ready.index ready.low ready.many (named_none number entries ready.fresh) ready.below page refl ready.allocation file ready.table ready.whole ready.room c
    (subst (λ (n : ℕ). PageLeft (n * length page) page file c) place (subst (λ (f : File). PageLeft (at * length page) page f c) is left))))

-- the slot and room, and then the allocation page
pub entry_changes : (old mid new : World) (name : List ℕ) (size : ℕ) → IsTrue (is_page_size size) → (first second : ℕ) → first ≡ size → second ≡ size → (entries before : List ℕ) (number place group : ℕ) (bytes page : List ℕ)
    → IsNewest entries before number → place ≡ length entries - 1 → Prepared size place bytes (old.files name) (mid.files name) → IsDurable mid name (mid.files name)
    → Changes old mid (Only name) (Moved old name (Keeps size place)) → Changes mid new (Only name) (Moved mid name (NoteStep second before number)) → Changes old new (Only name) (Moved old name (AddStep size before number bytes (old.files name)))
entry_changes old mid new name size is_size first second same again entries before number place group bytes page newest at prepared durable slot noted =
    moved_joined old mid new name (Keeps size place) (NoteStep second before number) (AddStep size before number bytes (old.files name)) slot noted
    (λ b c was keeps. newest_keeps size is_size entries before number place bytes (old.files name) b c newest at keeps)
    (λ b c d was still keeps step.
    let is : c ≡ mid.files name = durable_is mid name (mid.files name) durable c still in
    add_step_again size is_size first second same again entries before number place group bytes page (old.files name) (mid.files name) newest at prepared b d
    (subst (λ (f : File). Keeps size place b f) is keeps) (subst (λ (f : File). NoteStep second before number f d) is step))
