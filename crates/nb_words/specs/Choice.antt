-- Which job the flags and the number of plain words choose, as a table.
use Rattle.std.specs.Prelude.{◌≡◌, ℕ, ◌==◌, ◌&&◌, true, false, nat_eq, nat_le, List, [], ◌∷◌, length, map, min, Option, None, codes}
use Rattle.std.specs.List.{position_or_len, range_with_len}
use Rattle.std.specs.Cmp.Lexicographic.{pointwise}
use Rattle.nb_fields.specs.Cases.{cell}
use Rattle.nb_words.specs.Read.{counts_of}
use Rattle.nb_model.specs.Words.{Word, are_flags, job_read, named_job, job_of_three, fold_job, backup_job, restore_job, apply_job, ask_job, fixup_job}
use Rattle.nb_model.specs.declared.job.Ask.TheVariants.{Lock, LockWithSize, Unlock}
use Rattle.nb_model.specs.declared.job.Job.{Job}

-- the sets of flags that name a job
abbrev pub sets : List (List ℕ)
sets = codes "" ∷ codes "B" ∷ codes "R" ∷ codes "IR" ∷ codes "L" ∷ codes "LS" ∷ codes "N" ∷ codes "F" ∷ []

-- the row of these flags; those that name no job have the last one
abbrev pub row_of : List ℕ → ℕ
row_of flags = position_or_len (are_flags flags) sets

-- the row of flags of which each was given so often
abbrev pub row_at : List ℕ → ℕ
row_at counts = position_or_len (λ set. pointwise nat_eq (counts_of set) counts) sets

-- the column: the number of plain words, 12 standing for 12 and more
abbrev pub column_of : List Word → ℕ
column_of plain = min (length plain) 12

-- a cell of a row, from one number of plain words to another
pub record Place : Type 0 where
  pub cell : ℕ
  pub row : ℕ
  pub least : ℕ
  pub most : ℕ

abbrev at : ℕ → ℕ → ℕ → ℕ → Place
at cell row least most = record { cell = cell; row = row; least = least; most = most }

-- where each job stands
abbrev pub places : List Place
places = at 1 0 2 2 ∷ at 2 0 3 3 ∷ at 10 0 4 11 ∷ at 3 1 3 3 ∷ at 4 2 2 11 ∷ at 9 3 2 2 ∷ at 5 4 1 1 ∷ at 6 5 1 1 ∷ at 7 6 1 1 ∷ at 8 7 1 1 ∷ []

-- the cell of a row and a column: that of the first place there, and 0 where none is
abbrev pub choice : List Place → ℕ → ℕ → ℕ
choice [] row column = 0
choice (p ∷ ps) row column = elim (p.row == row && nat_le p.least column && nat_le column p.most) [ true ↦ p.cell | false ↦ choice ps row column ]

-- the table
abbrev pub choices : List (List ℕ)
choices = map (λ row. map (choice places row) (range_with_len 0 13)) (range_with_len 0 9)

-- the job that a cell stands for
abbrev pub job_in : ℕ → List Word → Option Job
job_in cell plain = elim (cell == 1) [
  | true ↦ named_job plain
  | false ↦ elim (cell == 2) [
    | true ↦ job_of_three plain
    | false ↦ elim (cell == 3) [
      | true ↦ backup_job plain
      | false ↦ elim (cell == 4) [
        | true ↦ restore_job plain
        | false ↦ elim (cell == 5) [
          | true ↦ ask_job Lock plain
          | false ↦ elim (cell == 6) [
            | true ↦ ask_job LockWithSize plain
            | false ↦ elim (cell == 7) [
              | true ↦ ask_job Unlock plain
              | false ↦ elim (cell == 8) [
                | true ↦ fixup_job plain
                | false ↦ elim (cell == 9) [ true ↦ apply_job plain | false ↦ elim (cell == 10) [ true ↦ fold_job plain | false ↦ None ] ]
              ]
            ]
          ]
        ]
      ]
    ]
  ]
]

-- by the table, flags and plain words name the job that they name
abbrev pub IsTheChoice : List (List ℕ) → Type 0
IsTheChoice cells = (flags : List ℕ) (plain : List Word) → job_in (cell cells (row_of flags) (column_of plain)) plain ≡ job_read (record { flags = flags; plain = plain })
