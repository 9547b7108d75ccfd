-- Strokes: the single changes of a database, and what stands after them.
use Rattle.std.specs.Prelude.{ℕ, zero, suc, ◌+◌, ◌%◌, ◌^◌, List, [], ◌∷◌, ◌++◌, take, drop, replicate, Option, true, false, ◌==◌, nat_eq}
use Rattle.std.specs.List.{list_any}
use Rattle.nb_fields.specs.Bytes.{bytes_of, with_part, number_in}
use Rattle.nb_fields.specs.States.{normal_state, stalled_state, merge_state}
use Rattle.nb_model.specs.Image.{Page, Image, first_page, image_state, image_scn, image_guid, image_size, image_in, with_page, trimmed, Numbered, overwritten}
use Rattle.nb_model.specs.Account.{Ask, Kept, Base, base_of, Entry, Missing, Plain, IsBase, Account, with_entry}

pub data Stroke : Type 0 where
  -- the name becomes a database of that image
  make : Image → Stroke
  -- page p, at most the length, becomes those bytes; of page 0 the first 64 stay
  page : ℕ → Page → Stroke
  -- the control strokes of a backup
  begin : (guid : List ℕ) → Option Ask → Stroke
  ends : Stroke
  finish : Stroke
  -- a copy of a stalled database becomes a database in the normal state
  fix : Stroke
  -- the pages of a level file are merged into a standby
  merge : List Numbered → Stroke

-- page 0 with another state, SCN and GUID: its generation rises, and that SCN is its stamp
unfoldable pub controlled : (state scn : ℕ) (guid : List ℕ) → Page → Page
controlled state scn guid p =
    with_part 4 (bytes_of 4 ((number_in 4 4 p + 1) % 2 ^ 32))
    (with_part 8 (bytes_of 4 scn) (with_part 22 (bytes_of 2 state) (with_part 28 (bytes_of 4 scn) (with_part 32 guid p))))

-- the image with page 0 changed so
unfoldable pub with_control : (state scn : ℕ) (guid : List ℕ) → Image → Image
with_control state scn guid [] = []
with_control state scn guid (p ∷ ps) = controlled state scn guid p ∷ ps

-- the bytes that a page write leaves in page p: of page 0 the first 64 stay
unfoldable pub merged_page : ℕ → Page → Image → Page
merged_page zero bytes image = take 64 (first_page image) ++ drop 64 bytes
merged_page (suc p) bytes image = bytes

-- the list with a number at its end, unless it is there
unfoldable pub noted : ℕ → List ℕ → List ℕ
noted p ps = elim (list_any (nat_eq p) ps) [ true ↦ ps | false ↦ ps ++ p ∷ [] ]

-- the image in the normal state, and nothing else changed
unfoldable pub fixed : Image → Image
fixed [] = []
fixed (p ∷ ps) = with_part 22 (bytes_of 2 0) p ∷ ps

-- page 0 in the normal state, read-only, and with no merge pending
abbrev pub standby_page : Page → Page
standby_page p = with_part 22 (bytes_of 2 0) (with_part 48 (replicate 16 0) (with_part 65 (1 ∷ []) p))

abbrev pub as_standby : Image → Image
as_standby [] = []
as_standby (p ∷ ps) = standby_page p ∷ ps

-- the image with the pages of a level file written over, in the normal state, read-only and with no merge pending
unfoldable pub merged : List Numbered → Image → Image
merged records image = as_standby (trimmed (overwritten (image_size image) records image))

-- a database after one stroke
unfoldable pub on_base : Stroke → Base → Base
on_base (make image) b = base_of image
on_base (page p bytes) b = record b {
  image = with_page p (merged_page p bytes b.image) b.image;
  diverted = elim (image_state b.image == stalled_state) [ true ↦ noted p b.diverted | false ↦ b.diverted ];
}
on_base (begin guid ask) b =
    let now : Image = with_control stalled_state (image_scn b.image + 1) guid b.image in
    record { image = now; frozen = now; diverted = [] }
on_base ends b = record b { image = with_control merge_state (image_scn b.image + 1) (image_guid b.image) b.image; frozen = [] }
-- the main file alone has the image then, and pages of zeros at its end are none of it
on_base finish b = record b { image = with_control normal_state (image_scn b.image) (image_guid b.image) (trimmed b.image); diverted = [] }
on_base fix b = base_of (fixed b.image)
on_base (merge records) b = base_of (merged records b.image)

-- what a stroke adds to the records of backups
unfoldable pub records_of : Stroke → Base → List Kept
records_of (make image) b = []
records_of (page p bytes) b = []
records_of (begin guid ask) b = record { guid = guid; scn = image_scn b.image; ask = ask; image = (on_base (begin guid ask) b).image } ∷ []
records_of ends b = []
records_of finish b = []
records_of fix b = []
records_of (merge records) b = []

-- a database after strokes, in order
unfoldable pub base_after : Base → List Stroke → Base
base_after b [] = b
base_after b (s ∷ ss) = base_after (on_base s b) ss

-- what strokes add to the records
unfoldable pub records_after : Base → List Stroke → List Kept
records_after b [] = []
records_after b (s ∷ ss) = records_of s b ++ records_after (on_base s b) ss

-- the database that a name holds for its next stroke
unfoldable pub base_in : Entry → Base
base_in (Missing delta) = base_of []
base_in (Plain bytes delta) = base_of (image_in bytes)
base_in (IsBase b) = b

-- the account after strokes of the database of that name
unfoldable pub after : List ℕ → Account → List Stroke → Account
after name account [] = account
after name account (s ∷ ss) =
    let b : Base = base_in (account.entry name) in
    record {
      entry = (with_entry name (IsBase (base_after b (s ∷ ss))) account).entry;
      kept = account.kept ++ records_after b (s ∷ ss);
    }
