-- Worked sessions, which the rows of `worked` compute: a fresh database of 1,024-byte pages, and what is said and made then.
use Rattle.std.specs.Prelude.{ℕ, ◌+◌, List, [], ◌∷◌, ◌++◌, map, replicate, codes, Option, None, Some, Ok, Err, true, false}
use Rattle.nb_fields.specs.Bytes.{bytes_of, with_part}
use Rattle.nb_fields.specs.Payloads.{text_of}
use Rattle.nb_host.specs.Files.{Files}
use Rattle.nb_host.specs.Names.{same_name}
use Rattle.nb_host.specs.declared.refusals.Refusal.{Refusal}
use Rattle.nb_model.specs.declared.reply.Reply.{Reply}
use Rattle.nb_model.specs.declared.statement.Statement.{Statement}
use Rattle.nb_model.specs.declared.statement.Statement.TheVariants.{CreateDb, Write, BeginBackup, Backup}
use Rattle.nb_model.specs.Image.{Numbered, page_at, image_in}
use Rattle.nb_model.specs.Account.{Account, Missing, Base, base_of}
use Rattle.nb_model.specs.Strokes.{Stroke, make, page, begin, ends, finish, fix, merge, fixed, merged}
use Rattle.nb_model.specs.Levels.{read_level, joined}
use Rattle.nb_model.specs.Owner.{owner}
use Rattle.nb_model.specs.Restoring.{verdict, applied}
use Rattle.nb_model.specs.Jobs.{restore_turn, fixup_turn, apply_turn}
use Rattle.nb_model.specs.Outcomes.{Given}
use Rattle.nb_model.specs.Run.{Event, Opening, opening, base_now, play, replies_of, strokes_of, files_made}

-- no file is there
unfoldable pub nowhere : Account
nowhere = record { entry = λ name. Missing None; kept = [] }

-- the k-th GUID: fifteen zero bytes and then k
unfoldable pub g : ℕ → List ℕ
g k = replicate 15 0 ++ k ∷ []

-- GUIDs from the k-th on, and clock values
unfoldable pub given_from : ℕ → Given
given_from k = record { guids = map (λ i. g (k + i)) (0 ∷ 1 ∷ 2 ∷ 3 ∷ []); times = 1000000000 ∷ 1000000001 ∷ 1000000002 ∷ 1000000003 ∷ []; holds = 7 ∷ 8 ∷ [] }

-- session 1 creates `a.db` with so many raw pages, and the sessions take their turns in that order
unfoldable pub opened_with : (raw : ℕ) (from : ℕ) → List (List Statement) → Opening
opened_with raw from sessions = opening nowhere (given_from from) sessions 1 (CreateDb (codes "a.db") 1024 raw 64)

unfoldable pub events : (raw from : ℕ) → List (List Statement) → (order : List ℕ) → List Event
events raw from sessions order = elim (opened_with raw from sessions).now [ None ↦ [] | Some now ↦ (play order now).0 ]

-- the whole run: what creating the database did, and then the turns
unfoldable pub run_of : (raw : ℕ) → List (List Statement) → (order : List ℕ) → List Event
run_of raw sessions order = (opened_with raw 1 sessions).event ∷ events raw 1 sessions order

-- what they say
unfoldable pub replies : (raw : ℕ) → List (List Statement) → (order : List ℕ) → List (ℕ × Reply)
replies raw sessions order = replies_of (events raw 1 sessions order)

-- what session 1 says alone
unfoldable pub says : (raw : ℕ) → List Statement → List (ℕ × Reply)
says raw statements = replies raw (statements ∷ []) (replicate 200 1)

-- which strokes they make: the numbers of pages, and for the others a number past those of pages
unfoldable pub marks : List Stroke → List ℕ
marks [] = []
marks (page p bytes ∷ ss) = p ∷ marks ss
marks (make image ∷ ss) = 2000000 ∷ marks ss
marks (begin guid ask ∷ ss) = 2000001 ∷ marks ss
marks (ends ∷ ss) = 2000002 ∷ marks ss
marks (finish ∷ ss) = 2000003 ∷ marks ss
marks (fix ∷ ss) = 2000004 ∷ marks ss
marks (merge records ∷ ss) = 2000005 ∷ marks ss

unfoldable pub strokes : (raw : ℕ) → List (List Statement) → (order : List ℕ) → List ℕ
strokes raw sessions order = marks (strokes_of (events raw 1 sessions order))

-- the database then
unfoldable pub base_then : (raw : ℕ) → List (List Statement) → (order : List ℕ) → Base
base_then raw sessions order = elim (opened_with raw 1 sessions).now [ None ↦ base_of [] | Some now ↦ base_now (play order now).1 ]

-- the files that were made
unfoldable pub files_of : List (List ℕ × List ℕ) → Files
files_of [] name = None
files_of (f ∷ fs) name = elim (same_name f.0 name) [ true ↦ Some f.1 | false ↦ files_of fs name ]

unfoldable pub made : (raw from : ℕ) → List Statement → List (List ℕ × List ℕ)
made raw from statements = files_made (events raw from (statements ∷ []) (replicate 200 1))

-- the numbers of the pages that a level file holds
abbrev pub numbers_of : List Numbered → List ℕ
numbers_of [] = []
numbers_of (r ∷ rs) = r.0 ∷ numbers_of rs

unfoldable pub pages_held : (name : List ℕ) → List (List ℕ × List ℕ) → Option (List ℕ)
pages_held name files = elim (files_of files name) [
  | None ↦ None
  | Some bytes ↦ elim (read_level bytes) [ Err at ↦ None | Ok c ↦ Some (numbers_of c.pages) ]
]

-- why files are no chain
unfoldable pub refused : List (List ℕ × List ℕ) → (names : List (List ℕ)) → Option Refusal
refused files names = elim (verdict (files_of files) names) [ Ok links ↦ None | Err refusal ↦ Some refusal ]

-- the files of three levels of one database, and a level 0 of another
unfoldable pub chain_files : List (List ℕ × List ℕ)
chain_files =
    made 8 1 (Backup 0 (codes "a.0") ∷ Write 6 (codes "new") ∷ Backup 1 (codes "a.1") ∷ Write 6 (codes "later") ∷ Backup 2 (codes "a.2") ∷ [])
    ++ made 8 4 (Backup 0 (codes "z.0") ∷ [])

-- the main file of a fresh database
unfoldable pub main_file : (raw : ℕ) → List ℕ
main_file raw = joined (base_then raw [] []).image

-- the difference file after a begin and a write of page 6: an allocation page and two slots
unfoldable pub delta_file : List ℕ
delta_file =
    let b : Base = base_then 8 ((BeginBackup ∷ Write 6 (codes "new") ∷ []) ∷ []) (1 ∷ 1 ∷ []) in
    (bytes_of 4 2 ++ (bytes_of 4 2 ++ (bytes_of 4 6 ++ replicate 1012 0))) ++ (page_at b.image 2 ++ page_at b.image 6)

-- the main file as the begin left it
unfoldable pub stalled_file : List ℕ
stalled_file = joined (base_then 8 ((BeginBackup ∷ []) ∷ []) (1 ∷ [])).image

-- why two files can't be opened
unfoldable pub not_open : (main delta : Option (List ℕ)) → Option Refusal
not_open main delta = elim (owner (codes "a.db") main delta) [ Ok b ↦ None | Err refusal ↦ Some refusal ]

-- the place at which a level file is broken
unfoldable pub broken_place : List ℕ → Option ℕ
broken_place bytes = elim (read_level bytes) [ Ok c ↦ None | Err at ↦ Some at ]

-- the bytes of a file that was made
unfoldable pub bytes_made : (name : List ℕ) → List (List ℕ × List ℕ) → List ℕ
bytes_made name files = elim (files_of files name) [ None ↦ [] | Some bytes ↦ bytes ]

-- the level 1 of the worked chain
unfoldable pub level_1_file : List ℕ
level_1_file = bytes_made (codes "a.1") chain_files

-- a standby: what a restore of the level 0 leaves, with its access byte so
unfoldable pub standby : (access : ℕ) → List ℕ
standby access = elim (verdict (files_of chain_files) (codes "a.0" ∷ [])) [
  | Err refusal ↦ []
  | Ok links ↦ with_part 65 (access ∷ []) (joined (fixed (applied links)))
]

-- it, once the level 1 was merged
unfoldable pub merged_standby : List ℕ
merged_standby = elim (read_level level_1_file) [ Err at ↦ [] | Ok c ↦ joined (merged c.pages (image_in (standby 1))) ]

-- the reply of a merge of the level 1 into a standby of those bytes
unfoldable pub apply_reply : List ℕ → Option Reply
apply_reply bytes = (apply_turn (files_of ((codes "b.db", bytes) ∷ chain_files)) (codes "b.db") (codes "a.1")).reply

-- the reply of a restore under a free name
unfoldable pub restore_reply : (names : List (List ℕ)) → Option Reply
restore_reply names = (restore_turn (files_of chain_files) nowhere (codes "c.db") names).reply

-- page 6 of what a chain gives
unfoldable pub restored_text : (names : List (List ℕ)) → List ℕ
restored_text names = elim (verdict (files_of chain_files) names) [ Err refusal ↦ [] | Ok links ↦ text_of (page_at (applied links) 6) ]

-- the reply of a fixup of a file with that file beside it
unfoldable pub fixup_reply : (main delta : Option (List ℕ)) → Option Reply
fixup_reply main delta = (fixup_turn (λ name. elim (same_name name (codes "k.db")) [ true ↦ main | false ↦ delta ]) (codes "k.db")).reply
