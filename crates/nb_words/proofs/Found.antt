-- From what `clap` found, by the table, to the job of the definition.
use Rattle.std.proofs.Common.{MatchOption, ◌≡◌, ◌∙◌, ℕ, min, List, [], ◌∷◌, length, map, Option, Some, None, refl, ap, ap₂, sym, subst, codes, true, Bor}
use Rattle.nb_words.proofs.Common.{list_all, length-map, Row, rows_of, found_of, ArgMatches, Word, Read, read_words, job_of, job_read, is_flag, Job, words_in, Holds, Shows, IsJobOf, counts_of, words_of, IsTheChoice, column_of, job_in, row_at, row_of}
use Rattle.clap.specs.Words.{count_of}
use Rattle.nb_fields.specs.Cases.{cell}
use Rattle.nb_words.proofs.Defined.{AreFlags, all_flags}
use Rattle.nb_words.proofs.Sets.{row_is}

-- what each flag counts
abbrev pub counts_in : List Row → List ℕ
counts_in rows = map (λ letter. count_of (letter ∷ []) rows) (codes "BRLSNFI")

counted : (rows : List Row) (read : Read) → Shows rows read → counts_in rows ≡ counts_of read.flags
counted rows read s = next (s.flags 66) (next (s.flags 82) (next (s.flags 76) (next (s.flags 83) (next (s.flags 78) (next (s.flags 70) (next (s.flags 73) refl)))))) where
  next : {a b : ℕ} {xs ys : List ℕ} → a ≡ b → xs ≡ ys → (a ∷ xs) ≡ (b ∷ ys)
  next e f = ap₂ (λ (t : ℕ) (ts : List ℕ). t ∷ ts) e f

flags_are : (words : List Word) (read : Read) → read_words words ≡ Some read → list_all is_flag read.flags ≡ true
flags_are words read e = subst AreFlags e (all_flags words)

of_read : (words : List Word) (read : Read) → read_words words ≡ Some read → job_read read ≡ job_of words
unfolding job_of
of_read words read e = sym (ap (λ (o : Option Read). elim o [ None ↦ None | Some r ↦ job_read r ]) e)

pub of_none : (words : List Word) → read_words words ≡ None → job_of words ≡ None
unfolding job_of
of_none words e = ap (λ (o : Option Read). elim o [ None ↦ None | Some r ↦ job_read r ]) e

-- the cell of what was found stands for the job of the words
pub job_by_table : (cells : List (List ℕ)) (m : ArgMatches) (counts : List ℕ) (row column : ℕ) (plain : List Word) → IsTheChoice cells
    → counts ≡ counts_in (rows_of (found_of m)) → row ≡ row_at counts → plain ≡ words_in (rows_of (found_of m)) → column ≡ column_of plain
    → IsJobOf m (job_in (cell cells row column) plain)
job_by_table cells m counts row column plain chosen counted_as row_as plain_as column_as words h =
    let rows = rows_of (found_of m) in
    let r = h.read in
    let the_row : row ≡ row_of r.flags = row_as ∙ ap row_at (counted_as ∙ counted rows r h.shows) ∙ row_is r.flags (flags_are words r h.gives) in
    let the_plain : plain ≡ r.plain = plain_as ∙ h.shows.plain in
    ap (λ (k : ℕ). job_in (cell cells k column) plain) the_row
    ∙ ap (λ (k : ℕ). job_in (cell cells (row_of r.flags) k) plain) column_as
    ∙ ap (λ (p : List Word). job_in (cell cells (row_of r.flags) (column_of p)) p) the_plain
    ∙ chosen r.flags r.plain
    ∙ of_read words r h.gives

pub same_job : (m : ArgMatches) (job other : Option Job) → job ≡ other → IsJobOf m other → IsJobOf m job
same_job m job other e is words h = e ∙ is words h

pub column_is : (plain : List (Bor Word)) → min (length plain) 12 ≡ column_of (words_of plain)
column_is plain = ap (λ n. min n 12) (sym (length-map plain (λ (s : Bor Word). s.now)))

pub none_found : (words : List Word) (o : Option ArgMatches) → o ≡ None → MatchOption o (read_words words ≡ None) (Holds words) → job_of words ≡ None
none_found words None e h = of_none words h
none_found words (Some m) e h = absurd (cc)
