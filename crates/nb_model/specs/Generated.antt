-- The script that the job `gen` writes, and what it says.
use Rattle.std.specs.Prelude.{ℕ, zero, suc, ◌+◌, ◌/◌, ◌%◌, ◌^◌, ◌==◌, List, [], ◌∷◌, ◌++◌, Option, Some, None, true, false, codes}
use Rattle.std.specs.Fmt.{decimal}
use Rattle.nb_model.specs.declared.reply.Reply.{Reply}
use Rattle.nb_model.specs.declared.reply.Reply.TheVariants.{PagesShown, Refused}
use Rattle.nb_model.specs.Run.{Event}
use Rattle.nb_model.specs.Seeds.{stepped}

abbrev pub ended : List ℕ → List ℕ
ended line = line ++ 10 ∷ []

-- one of the raw pages 5 to 104
abbrev pub raw_page : ℕ → ℕ
raw_page r = 5 + (r / 3) % 100

-- line i by a number: a row, a page, or a read
unfoldable pub line_of : (i r : ℕ) → List ℕ
line_of i r = elim (r % 3) [
  | zero ↦ codes "1: insert t " ++ (decimal i ++ (codes " 'v" ++ (decimal i ++ codes "'")))
  | suc k ↦ elim (k == 0) [
    | true ↦ codes "2: write " ++ (decimal (raw_page r) ++ (codes " 'w" ++ (decimal i ++ codes "'")))
    | false ↦ codes "3: read " ++ decimal (raw_page r)
  ]
]

-- a backup after lines 250, 500 and 750
unfoldable pub backup_line : (i : ℕ) → List ℕ
backup_line i = elim (i == 250) [
  | true ↦ ended (codes "1: backup 0 to 'gen.0'")
  | false ↦ elim (i == 500) [
    | true ↦ ended (codes "1: backup 1 to 'gen.1'")
    | false ↦ elim (i == 750) [ true ↦ ended (codes "1: backup 2 to 'gen.2'") | false ↦ [] ]
  ]
]

-- so many lines from line i on, after the number x
unfoldable pub lines_from : (left i x : ℕ) → List ℕ
lines_from zero i x = []
lines_from (suc left) i x = ended (line_of i (stepped x / 2 ^ 33)) ++ (backup_line i ++ lines_from left (i + 1) (stepped x))

-- the script of a number
unfoldable pub generated : ℕ → List ℕ
generated n =
    ended (codes "1: create database 'gen.db' page_size 4096 raw 100") ++ (ended (codes "seed " ++ decimal n) ++ (ended (codes "1: create table t")
    ++ (lines_from 1000 1 n ++ ended (codes "1: show pages"))))

-- only refusals are said, and the reply of the last line, which alone shows pages
abbrev pub last_or_refusal : Option Reply → Option Reply
last_or_refusal (Some (Refused refusal)) = Some (Refused refusal)
last_or_refusal (Some (PagesShown header inventory scn rows raw other free)) = Some (PagesShown header inventory scn rows raw other free)
last_or_refusal other = None

unfoldable pub said_by_generated : List Event → List Event
said_by_generated [] = []
said_by_generated (e ∷ es) = record e { reply = last_or_refusal e.reply } ∷ said_by_generated es
