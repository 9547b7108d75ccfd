-- Backups and copies: the start, the close, and what is shown of the inventories.
use Rattle.std.specs.Prelude.{ℕ, zero, suc, ◌+◌, ◌-◌, ◌/◌, List, [], ◌∷◌, ◌++◌, length, replicate, Option, Some, None, is_none, Bool, true, false, ◌&&◌, ◌||◌, ◌==◌, not, nat_eq, min}
use Rattle.nb_fields.specs.Places.{bits_in}
use Rattle.nb_fields.specs.Page.{kind_of}
use Rattle.nb_fields.specs.States.{normal_state, stalled_state}
use Rattle.nb_host.specs.Names.{same_name}
use Rattle.nb_host.specs.declared.refusals.Refusal.TheVariants.{NoHistory, NoGuid}
use Rattle.nb_model.specs.declared.reply.Reply.TheVariants.{Pages, Level, PagesShown}
use Rattle.nb_model.specs.Image.{Image, page_at, image_size, image_scn}
use Rattle.nb_model.specs.Account.{Ask, Kept}
use Rattle.nb_model.specs.Strokes.{begin}
use Rattle.nb_model.specs.Forms.{Draft, drafted, needs, needs_inventories, inventory_of, scn_page_of, is_free_page}
use Rattle.nb_model.specs.Causes.{Cause, first_cause, when, read_only, not_state, no_scn, not_free, runs_any, broken_at, not_of_form, no_room, short_for}
use Rattle.nb_model.specs.Chains.{History, Spot, spots, pages_of, found_pages, free_spot, backup_spot, level_in, scn_in, guid_in, backup_slot, put_slot, grown}
use Rattle.nb_model.specs.Levels.{file_of, count_in, joined}
use Rattle.nb_model.specs.Outcomes.{Backing, Copies, ClosesBackup, ClosesCopy, Ends, Seen, Outcome, next_guid, next_time, without_guid, without_time, says, unless}

-- where a history row will stand, and the draft that makes room for it
pub record Room : Type 0 where
  pub draft : Draft
  pub page : ℕ
  pub slot : ℕ

-- the page has to be taken, so that no other session takes it before the close
unfoldable pub needs_taken : (p : ℕ) → Draft → Draft
needs_taken p d = elim (is_free_page d.image p) [ true ↦ record d { broken = p ∷ d.broken } | false ↦ d ]

-- The first free slot of the history, whose inventory pages the close will need. Where there is none, a new page is linked.
unfoldable pub room_in : Image → Room
room_in image = elim (free_spot (spots History image)) [
  | Some s ↦ record {
    draft = needs_taken s.page (needs 10 (scn_page_of image s.page) (needs 2 (inventory_of image s.page) (drafted image)));
    page = s.page;
    slot = s.slot;
  }
  | None ↦
      let g : Draft × ℕ = grown History (found_pages History image) [] (drafted image) in
      record { draft = g.0; page = g.1; slot = 0 }
]

-- from which backup one goes on: from none, or from that of a history row
unfoldable pub ask_of : (level : ℕ) → Option Spot → Ask
ask_of level None = record { level = level; previous = replicate 16 0; previous_scn = 0 }
ask_of level (Some row) = record { level = level; previous = guid_in row.bytes; previous_scn = scn_in row.bytes }

-- A backup begins: room is made for its row, then the begin. One turn is left for each page of the frozen image, and one for
-- the close. `missing` is the refusal where there is no backup to go on from.
unfoldable pub starts : Seen → (session : ℕ) → (name : List ℕ) → Ask → (missing : Cause) → Outcome
starts s session name ask missing =
    let image : Image = s.base.image in
    let room : Room = room_in image in
    unless s (first_cause (
    read_only image
    ∷ not_state normal_state image
    ∷ not_free name (s.entry name)
    ∷ broken_at (pages_of History image)
    ∷ missing
    ∷ short_for (free_spot (spots History image)) image
    ∷ not_of_form room.draft
    ∷ no_room room.draft
    ∷ no_scn image
    ∷ []))
    (record {
      strokes = room.draft.strokes ++ begin (next_guid s.given) (Some ask) ∷ [];
      reply = None;
      next = replicate (length room.draft.image) Copies
          ++ ClosesBackup (record { name = name; ask = ask; scn = image_scn image; guid = next_guid s.given; page = room.page; slot = room.slot }) ∷ [];
      running = Some session;
      made = None;
      given = without_guid s.given;
    })

-- `backup L to 'NAME'`: since the latest backup of the level below
unfoldable pub backup_turn : Seen → (session level : ℕ) (name : List ℕ) → Outcome
backup_turn s session zero name = starts s session name (ask_of 0 None) None
backup_turn s session (suc below) name =
    let from : Option Spot = backup_spot (λ row. nat_eq (level_in row) below) s.base.image in
    starts s session name (ask_of (suc below) from) (when (is_none from) (NoHistory below))

-- the level after that of a row, at most 9
unfoldable pub level_behind : Option Spot → ℕ
level_behind None = 0
level_behind (Some row) = min (level_in row.bytes + 1) 9

-- a backup since the latest one of that GUID
unfoldable pub since_turn : Seen → (session : ℕ) (guid name : List ℕ) → Outcome
since_turn s session guid name =
    let from : Option Spot = backup_spot (λ row. same_name (guid_in row) guid) s.base.image in
    starts s session name (ask_of (level_behind from) from) (when (is_none from) (NoGuid guid))

-- what the begin of a backup has kept
abbrev pub kept_by : Seen → Backing → Kept
kept_by s b = record { guid = b.guid; scn = b.scn; ask = Some b.ask; image = s.base.frozen }

-- The level file is whole, of version 102, and its history row is written. The end and the merge follow.
unfoldable pub close_backup : Seen → Backing → Outcome
close_backup s b = record {
  strokes = (put_slot b.page b.slot (backup_slot b.ask.level b.scn (next_time s.given) b.guid b.name) (drafted s.base.image)).strokes;
  reply = None;
  next = Ends (Level b.ask.level b.scn (count_in (kept_by s b) b.ask) b.guid) ∷ [];
  running = s.running;
  made = Some (b.name, file_of 102 (kept_by s b));
  given = without_time s.given;
}

-- `copy to 'NAME'`
unfoldable pub copy_turn : Seen → (session : ℕ) (name : List ℕ) → Outcome
copy_turn s session name =
    unless s (first_cause (not_state stalled_state s.base.image ∷ runs_any s.running ∷ not_free name (s.entry name) ∷ []))
    (record {
      strokes = [];
      reply = None;
      next = replicate (length s.base.frozen) Copies ++ ClosesCopy name ∷ [];
      running = Some session;
      made = None;
      given = s.given;
    })

-- the copy is whole
unfoldable pub close_copy : Seen → (name : List ℕ) → Outcome
close_copy s name = record {
  strokes = [];
  reply = Some (Pages (length s.base.frozen));
  next = [];
  running = None;
  made = Some (name, joined s.base.frozen);
  given = s.given;
}

-- how many of the pages from p on, of which there are `left`, pass a test
unfoldable pub count_from : (left p : ℕ) → (ℕ → Bool) → ℕ
count_from zero p test = 0
count_from (suc left) p test = elim (test p) [ true ↦ suc (count_from left (p + 1) test) | false ↦ count_from left (p + 1) test ]

-- how many pages are taken and of that kind
unfoldable pub taken_of : Image → (ℕ → Bool) → ℕ
taken_of image kinds = count_from (length image) 0 (λ p. not (is_free_page image p) && kinds (kind_of (page_at image p)))

-- a kind that has no count of its own
abbrev pub is_other : ℕ → Bool
is_other k = not (k == 1 || (k == 2 || (k == 10 || (k == 5 || k == 8))))

-- the inventory pages that have the pages below the length
unfoldable pub all_needed : Image → Draft
all_needed image = needs_inventories ((length image - 1) / bits_in (image_size image) + 1) 0 (drafted image)

-- `show pages`
unfoldable pub pages_turn : Seen → Outcome
pages_turn s =
    let image : Image = s.base.image in
    unless s (not_of_form (all_needed image))
    (says s (PagesShown
    (taken_of image (λ k. k == 1)) (taken_of image (λ k. k == 2)) (taken_of image (λ k. k == 10)) (taken_of image (λ k. k == 5)) (taken_of image (λ k. k == 8))
    (taken_of image is_other) (count_from (length image) 0 (is_free_page image))) [])
