-- Why a statement is refused: tests in the order of its call, of which the first that applies decides.
use Rattle.std.specs.Prelude.{◌≡◌, ℕ, ◌/◌, ◌%◌, List, [], ◌∷◌, length, Option, Some, None, is_none, Result, Ok, Err, Bool, true, false, ◌&&◌, ◌||◌, ◌==◌, not, nat_le, nat_lt, min}
use Rattle.nb_fields.specs.Page.{kind_of}
use Rattle.nb_fields.specs.Header.{is_header, size_of}
use Rattle.nb_fields.specs.Free.{is_free_file}
use Rattle.nb_fields.specs.Payloads.{text_length}
use Rattle.nb_fields.specs.Places.{most_pages}
use Rattle.nb_fields.specs.Kinds.{inventory_kind, raw_kind}
use Rattle.nb_host.specs.declared.faults.Fault.{Fault}
use Rattle.nb_host.specs.declared.faults.Fault.TheVariants.{Refused, Device, Memory}
use Rattle.nb_host.specs.declared.refusals.Refusal.{Refusal}
use Rattle.nb_host.specs.declared.refusals.Refusal.TheVariants.{FileExists, NotDatabase, WrongState, PageRange, NotAllocated, SystemPage, Full, ScnExhausted, Access, TextLong, BackupRunning}
use Rattle.nb_model.specs.Image.{Image, page_at, image_state, image_scn, is_read_only}
use Rattle.nb_model.specs.Account.{Entry, Missing, Plain, IsBase}
use Rattle.nb_model.specs.Forms.{Draft, is_kind, inventory_of, is_free_page}

-- a refusal, or none where the test doesn't apply
abbrev pub Cause : Type 0
Cause = Option Refusal

-- the first that applies
unfoldable pub first_cause : List Cause → Cause
first_cause [] = None
first_cause (c ∷ cs) = elim c [ None ↦ first_cause cs | Some refusal ↦ Some refusal ]

abbrev pub when : Bool → Refusal → Cause
when test refusal = elim test [ true ↦ Some refusal | false ↦ None ]

-- the refusal is the one that there is a cause for, and there is none at Ok
abbrev pub Tested : {T : Type 0} → Result T Fault → Cause → Type 0
Tested (Ok value) cause = cause ≡ None
Tested (Err (Refused refusal)) cause = cause ≡ Some refusal
Tested (Err Device) cause = Unit {0}
Tested (Err Memory) cause = Unit {0}

-- so it is of a test that only reads: it wants no memory
abbrev pub TestedByReads : {T : Type 0} → Result T Fault → Cause → Type 0
TestedByReads (Ok value) cause = cause ≡ None
TestedByReads (Err (Refused refusal)) cause = cause ≡ Some refusal
TestedByReads (Err Device) cause = Unit {0}
TestedByReads (Err Memory) cause = ⊥

-- and of one that calls nothing: it passes exactly where there is no cause
abbrev pub TestedAlone : {T : Type 0} → Result T Fault → Cause → Type 0
TestedAlone (Ok value) cause = cause ≡ None
TestedAlone (Err (Refused refusal)) cause = cause ≡ Some refusal
TestedAlone (Err Device) cause = ⊥
TestedAlone (Err Memory) cause = ⊥

-- the database may not be changed
abbrev pub read_only : Image → Cause
read_only image = when (is_read_only image) (Access 1)

-- the backup state is another than this
abbrev pub not_state : ℕ → Image → Cause
not_state state image = when (not (image_state image == state)) (WrongState (image_state image))

-- a backup and its end need two SCNs more
abbrev pub no_scn : Image → Cause
no_scn image = when (nat_lt 4294967293 (image_scn image)) (ScnExhausted (image_scn image))

-- the page is at or past the length
abbrev pub past_end : Image → ℕ → Cause
past_end image p = when (nat_le (length image) p) (PageRange p (length image))

-- the page isn't of that kind
abbrev pub not_kind : Image → (kind p : ℕ) → Cause
not_kind image kind p = when (not (is_kind image kind p)) (NotDatabase p)

-- the page is no taken raw page
unfoldable pub not_raw : Image → ℕ → Cause
not_raw image p = first_cause (
    past_end image p
    ∷ not_kind image inventory_kind (inventory_of image p)
    ∷ when (is_free_page image p) (NotAllocated p)
    ∷ when (not (kind_of (page_at image p) == raw_kind)) (SystemPage p)
    ∷ [])

-- the raw page has a text of no form
abbrev pub no_text : Image → ℕ → Cause
no_text image p = when (nat_lt 200 (text_length (page_at image p))) (NotDatabase p)

-- the text doesn't fit
abbrev pub too_long : List ℕ → Cause
too_long text = when (nat_lt 200 (length text)) (TextLong (length text))

abbrev pub lowest_of : ℕ → List ℕ → ℕ
lowest_of p [] = p
lowest_of p (q ∷ qs) = lowest_of (min p q) qs

-- the lowest of the pages that aren't of the form
unfoldable pub lowest_broken : List ℕ → Cause
lowest_broken [] = None
lowest_broken (p ∷ ps) = Some (NotDatabase (lowest_of p ps))

-- the change reads an inventory page that isn't of the form
abbrev pub not_of_form : Draft → Cause
not_of_form d = lowest_broken d.broken

-- the change finds no page for a new one
abbrev pub no_room : Draft → Cause
no_room d = when d.full (Full most_pages)

-- the database is too short for a new page
abbrev pub too_short : Image → Cause
too_short image = when (nat_lt (length image) 5) (NotDatabase (length image))

-- so, where there is no room without one
abbrev pub short_for : {X : Type 0} → (room : Option X) → Image → Cause
short_for (Some x) image = None
short_for None image = too_short image

-- a copy or merge of another session runs; of any session
abbrev pub runs_other : Option ℕ → ℕ → Cause
runs_other None session = None
runs_other (Some other) session = when (not (other == session)) (BackupRunning other)

abbrev pub runs_any : Option ℕ → Cause
runs_any None = None
runs_any (Some other) = Some (BackupRunning other)

-- Nothing stands under the name that a new file would take the place of, nor under the name of its difference file.
unfoldable pub is_free_entry : Entry → Bool
is_free_entry (Missing delta) = is_none delta
is_free_entry (Plain bytes delta) = is_none delta && is_free_file (Some bytes)
is_free_entry (IsBase b) = false

abbrev pub not_free : List ℕ → Entry → Cause
not_free name entry = when (not (is_free_entry entry)) (FileExists name)

-- The file can't be a database: it is named by the first page that breaks the form. It has to have the header form, and 5 to
-- 1,048,576 whole pages.
unfoldable pub not_database : List ℕ → Cause
not_database bytes =
    elim (is_header bytes) [
      | false ↦ Some (NotDatabase 0)
      | true ↦
          let pages : ℕ = length bytes / size_of bytes in
          first_cause (
          when (not (length bytes % size_of bytes == 0) || nat_lt pages 5) (NotDatabase (min pages most_pages))
          ∷ when (nat_lt most_pages pages) (NotDatabase most_pages)
          ∷ [])
    ]

-- a chain of data pages is broken at that page
abbrev pub broken_at : Result (List ℕ) ℕ → Cause
broken_at (Ok pages) = None
broken_at (Err p) = Some (NotDatabase p)
