-- When level files are folded: the refusals in their order, and the turn of the job.
use Rattle.std.specs.Prelude.{ℕ, ◌+◌, List, [], ◌∷◌, ◌++◌, length, Option, Some, None, Result, Ok, Err, true, false}
use Rattle.nb_host.specs.Files.{Files}
use Rattle.nb_host.specs.declared.refusals.Refusal.{Refusal}
use Rattle.nb_host.specs.declared.refusals.Refusal.TheVariants.{NoFile, FileExists, BadLevel}
use Rattle.nb_page.specs.Free.{is_free_name}
use Rattle.nb_model.specs.declared.reply.Reply.TheVariants.{Level}
use Rattle.nb_model.specs.Account.{Account}
use Rattle.nb_model.specs.Causes.{Cause, not_free}
use Rattle.nb_model.specs.Jobs.{only_refusal}
use Rattle.nb_model.specs.Levels.{Contents, read_level}
use Rattle.nb_model.specs.Restoring.{level_link, not_behind}
use Rattle.nb_model.specs.Run.{Event}
use Rattle.nb_fold.specs.Folding.{folded, bytes_for}

-- A file doesn't go on from the one before it, whose level is one below its own. The first may go on from any.
abbrev pub not_after : (last : Option Contents) (name : List ℕ) → Contents → Cause
not_after None name c = None
not_after (Some last) name c = not_behind (last.head.level + 1) (level_link last) name c

-- what the next file holds, after the last, or its refusal
unfoldable pub file_after : Files → (last : Option Contents) → (name : List ℕ) → Result Contents Refusal
file_after files last name = elim (files name) [
  | None ↦ Err (NoFile name)
  | Some bytes ↦ elim (read_level bytes) [
    | Err at ↦ Err (BadLevel name at)
    | Ok c ↦ elim (not_after last name c) [ Some refusal ↦ Err refusal | None ↦ Ok c ]
  ]
]

-- with more files before
abbrev pub with_files : List Contents → Result (List Contents) Refusal → Result (List Contents) Refusal
with_files cs (Ok more) = Ok (cs ++ more)
with_files cs (Err refusal) = Err refusal

-- what the files hold from here on, after the last, or the first refusal
unfoldable pub files_after : Files → (last : Option Contents) → (names : List (List ℕ)) → Result (List Contents) Refusal
files_after files last [] = Ok []
files_after files last (name ∷ names) = elim (file_after files last name) [ Err refusal ↦ Err refusal | Ok c ↦ with_files (c ∷ []) (files_after files (Some c) names) ]

-- what files hold that go on from one another
abbrev pub chained : Files → (names : List (List ℕ)) → Result (List Contents) Refusal
chained files names = files_after files None names

-- the verdict on a fold: what the files hold, or the first refusal
abbrev pub fold_verdict : Files → (out : List ℕ) → (names : List (List ℕ)) → Result (List Contents) Refusal
fold_verdict files out names = elim (is_free_name files out) [ true ↦ chained files names | false ↦ Err (FileExists out) ]

-- the turn that makes a level file
abbrev pub made_turn : (out : List ℕ) → Contents → Event
made_turn out c = record { session = 1; strokes = []; reply = Some (Level c.head.level c.head.scn (length c.pages) c.head.guid); made = Some (out, bytes_for c); syncs = true }

-- the turn of the job: the name of the file that is made has to be free, and the files have to go on from one another
unfoldable pub fold_turn : Files → Account → (out : List ℕ) → (names : List (List ℕ)) → Event
fold_turn files account out names = elim (not_free out (account.entry out)) [
  | Some refusal ↦ only_refusal refusal
  | None ↦ elim (chained files names) [ Err refusal ↦ only_refusal refusal | Ok cs ↦ made_turn out (folded cs) ]
]
