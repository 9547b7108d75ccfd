-- What picks leave.
use Rattle.std.proofs.Common.{◌≡◌, ◌≢◌, ⊎_elim, ℕ, ◌≤◌, ◌==◌, nat_le, Bool, true, false, List, [], ◌∷◌, length, refl, sym, ◌∙◌, ap, ap₂, subst, None}
use Rattle.nb_mem.proofs.Common.{eq-eqb, le-leb, File, bytes_of, with_bytes, Choices, Change, Placed, Made, Removed, Paged, Appended, Synced, Entry, Changed, Said, Asked, Outcome, file_after, files_of, begun, is_yes, behind, page_by, grown, torn_by, bytes_by, anew_by, settled, outcome_after, choices_after, outcome_by, left_by, IsOther, LosesAll, settled_after, settled_file, PicksReach, with_file-same, with_file-other, same_self, same_other, decide}
use Rattle.nb_mem.specs.declared.entry.Question.{Question}
use Rattle.nb_mem.proofs.OutcomeLaws.{same_outcome, other_outcome}

-- a file that was synced, and then changed once
module _ (first : Choices) (es : List Entry) (n : List ℕ) where
  synced_outcome : outcome_by first (Changed n Synced ∷ es) n ≡ (settled (files_of es n), first)
  unfolding outcome_after choices_after
  synced_outcome = same_outcome first n Synced es ∙ refl

  synced_file : files_of (Changed n Synced ∷ es) n ≡ files_of es n
  synced_file = with_file-same (files_of es) n (files_of es n)

  changed_once : (change : Change) → left_by first (Changed n change ∷ Changed n Synced ∷ es) n
      ≡ (outcome_after first change (length (bytes_of (files_of es n))) (file_after change (files_of es n)) (settled (files_of es n)) first).left
  changed_once change =
      ap (λ (x : Outcome × Choices). x.0.left) (same_outcome first n change (Changed n Synced ∷ es))
      ∙ ap (λ (f : File). (outcome_after first change (length (bytes_of f)) (file_after change f) (outcome_by first (Changed n Synced ∷ es) n).0 (outcome_by first (Changed n Synced ∷ es) n).1).left) synced_file
      ∙ ap (λ (x : Outcome × Choices). (outcome_after first change (length (bytes_of (files_of es n))) (file_after change (files_of es n)) x.0 x.1).left) synced_outcome

-- bytes that were appended at the file's length
abbrev kept_by : Choices → List ℕ → File → File × Choices
kept_by c bytes file = elim (is_yes c) as (λ _. File × Choices) [
  | false ↦ (file, behind c)
  | true ↦ elim (is_yes (behind c)) as (λ _. File × Choices) [
    | true ↦ (with_bytes file bytes, behind (behind c))
    | false ↦ (with_bytes file (torn_by (is_yes (behind (behind c))) bytes), behind (behind (behind c)))
  ]
]

appended_at : (c : Choices) (bytes : List ℕ) (file : File) → bytes_by c (length (bytes_of file)) bytes file ≡ kept_by c bytes file
unfolding bytes_by
appended_at c bytes file = ap (λ (b : Bool). elim b as (λ _. File × Choices) [ true ↦ kept_by c bytes file | false ↦ (file, c) ]) (eq-eqb (length (bytes_of file)) (length (bytes_of file)) refl)

grows : (at : ℕ) (page : List ℕ) (file : File) → length (bytes_of file) ≤ at → (page_by (begun 2) at page file).0 ≡ grown at page file
unfolding page_by behind
grows at page file low = ap (λ (b : Bool). (elim b as (λ _. File × Choices) [ true ↦ (grown at page file, behind (behind (begun 2))) | false ↦ (file, behind (begun 2)) ]).0) (le-leb (length (bytes_of file)) at low)

loses_page : (at : ℕ) (page : List ℕ) (file : File) → page_by (begun 0) at page file ≡ (file, begun 0)
unfolding page_by behind
loses_page at page file = by_test (nat_le (length (bytes_of file)) at)
  where
    by_test : (b : Bool) → elim b as (λ _. File × Choices) [ true ↦ (file, begun 0) | false ↦ (file, begun 0) ] ≡ (file, begun 0)
    by_test true = refl
    by_test false = refl

pub picks_reach : (es : List Entry) (n : List ℕ) → PicksReach es n
unfolding outcome_after page_by behind anew_by torn_by
picks_reach es n =
    let file : File = files_of es n in
    record {
      page_lost = λ at page. changed_once (begun 0) es n (Paged at page) ∙ ap (λ (x : File × Choices). x.0) (loses_page at page file);
      page_kept = λ at page. changed_once (begun 1) es n (Paged at page) ∙ refl;
      page_grown = λ at page low. changed_once (begun 2) es n (Paged at page) ∙ grows at page file low;
      bytes_lost = λ bytes. changed_once (begun 0) es n (Appended bytes) ∙ ap (λ (x : File × Choices). x.0) (appended_at (begun 0) bytes file);
      bytes_kept = λ bytes. changed_once (begun 1) es n (Appended bytes) ∙ ap (λ (x : File × Choices). x.0) (appended_at (begun 1) bytes file);
      bytes_zeroed = λ bytes. changed_once (begun 5) es n (Appended bytes) ∙ ap (λ (x : File × Choices). x.0) (appended_at (begun 5) bytes file);
      bytes_cut = λ bytes. changed_once (begun 9) es n (Appended bytes) ∙ ap (λ (x : File × Choices). x.0) (appended_at (begun 9) bytes file);
      made = changed_once (begun 1) es n Made ∙ refl;
      made_back = changed_once (begun 0) es n Made ∙ refl;
      removed = changed_once (begun 1) es n Removed ∙ refl;
      removed_back = changed_once (begun 0) es n Removed ∙ refl;
    }

-- pick 1 keeps each change
keeps_change : (change : Change) (file : File) → outcome_after (begun 1) change (length (bytes_of file)) (file_after change file) (settled file) (begun 1) ≡ settled (file_after change file)
unfolding outcome_after page_by behind anew_by
keeps_change (Placed bytes) file = refl
keeps_change Made file = refl
keeps_change Removed file = refl
keeps_change (Paged at page) file = refl
keeps_change (Appended bytes) file = ap (λ (x : File × Choices). settled x.0) (appended_at (begun 1) bytes file)
keeps_change Synced file = refl

keeps_choices : (change : Change) (file : File) → choices_after (begun 1) change (length (bytes_of file)) (settled file) (begun 1) ≡ begun 1
unfolding choices_after page_by behind
keeps_choices (Placed bytes) file = refl
keeps_choices Made file = refl
keeps_choices Removed file = refl
keeps_choices (Paged at page) file = refl
keeps_choices (Appended bytes) file = ap (λ (x : File × Choices). x.1) (appended_at (begun 1) bytes file)
keeps_choices Synced file = refl

-- of no calls
nothing_by : (first : Choices) (n : List ℕ) → outcome_by first [] n ≡ (settled None, first)
unfolding outcome_by
nothing_by first n = refl

pub keeps_all : (es : List Entry) (n : List ℕ) → outcome_by (begun 1) es n ≡ (settled (files_of es n), begun 1)
keeps_all [] n = nothing_by (begun 1) n
keeps_all (Changed m change ∷ es) n = ⊎_elim
    (λ same. subst (λ q. outcome_by (begun 1) (Changed q change ∷ es) n ≡ (settled (files_of (Changed q change ∷ es) n), begun 1)) same
    (same_outcome (begun 1) n change es
    ∙ ap (λ (x : Outcome × Choices). (outcome_after (begun 1) change (length (bytes_of (files_of es n))) (file_after change (files_of es n)) x.0 x.1, choices_after (begun 1) change (length (bytes_of (files_of es n))) x.0 x.1)) (keeps_all es n)
    ∙ ap₂ (λ (o : Outcome) (c : Choices). (o, c)) (keeps_change change (files_of es n)) (keeps_choices change (files_of es n))
    ∙ ap (λ (f : File). (settled f, begun 1)) (sym (with_file-same (files_of es) n (file_after change (files_of es n))))))
    (λ other. other_outcome (begun 1) (Changed m change) n es other ∙ keeps_all es n ∙ ap (λ (f : File). (settled f, begun 1)) (sym (with_file-other (files_of es) m (file_after change (files_of es m)) n other)))
    (decide n m)
keeps_all (Said bytes ∷ es) n = other_outcome (begun 1) (Said bytes) n es tt ∙ keeps_all es n
keeps_all (Asked question ∷ es) n = other_outcome (begun 1) (Asked question) n es tt ∙ keeps_all es n

-- pick 0 loses each change
loses_bytes : (len : ℕ) (bytes : List ℕ) (file : File) → bytes_by (begun 0) len bytes file ≡ (file, begun 0)
unfolding bytes_by behind
loses_bytes len bytes file = by_test (length (bytes_of file) == len)
  where
    by_test : (b : Bool) → elim b as (λ _. File × Choices) [ true ↦ (file, begun 0) | false ↦ (file, begun 0) ] ≡ (file, begun 0)
    by_test true = refl
    by_test false = refl

loses_change : (change : Change) (len : ℕ) (file settled_before : File) (o : Outcome) → o.left ≡ settled_before
    → (outcome_after (begun 0) change len (file_after change file) o (begun 0)).left ≡ settled_after change file settled_before
unfolding outcome_after anew_by
loses_change (Placed bytes) len file before o is = refl
loses_change Made len file before o is = is
loses_change Removed len file before o is = is
loses_change (Paged at page) len file before o is = by_test o.is_back
  where
    by_test : (b : Bool) → (elim b as (λ _. Outcome) [ true ↦ o | false ↦ settled (page_by (begun 0) at page o.left).0 ]).left ≡ before
    by_test true = is
    by_test false = ap (λ (x : File × Choices). x.0) (loses_page at page o.left) ∙ is
loses_change (Appended bytes) len file before o is = by_test o.is_back
  where
    by_test : (b : Bool) → (elim b as (λ _. Outcome) [ true ↦ o | false ↦ settled (bytes_by (begun 0) len bytes o.left).0 ]).left ≡ before
    by_test true = is
    by_test false = ap (λ (x : File × Choices). x.0) (loses_bytes len bytes o.left) ∙ is
loses_change Synced len file before o is = refl

loses_choices : (change : Change) (len : ℕ) (o : Outcome) → choices_after (begun 0) change len o (begun 0) ≡ begun 0
unfolding choices_after behind
loses_choices (Placed bytes) len o = refl
loses_choices Made len o = refl
loses_choices Removed len o = refl
loses_choices (Paged at page) len o = by_test o.is_back
  where
    by_test : (b : Bool) → elim b as (λ _. Choices) [ true ↦ begun 0 | false ↦ (page_by (begun 0) at page o.left).1 ] ≡ begun 0
    by_test true = refl
    by_test false = ap (λ (x : File × Choices). x.1) (loses_page at page o.left)
loses_choices (Appended bytes) len o = by_test o.is_back
  where
    by_test : (b : Bool) → elim b as (λ _. Choices) [ true ↦ begun 0 | false ↦ (bytes_by (begun 0) len bytes o.left).1 ] ≡ begun 0
    by_test true = refl
    by_test false = ap (λ (x : File × Choices). x.1) (loses_bytes len bytes o.left)
loses_choices Synced len o = refl

settled_same : (n : List ℕ) (change : Change) (es : List Entry) → settled_file (Changed n change ∷ es) n ≡ settled_after change (files_of es n) (settled_file es n)
unfolding settled_file
settled_same n change es = rw (same_self n, settled_file) refl

settled_other : (m n : List ℕ) (change : Change) (es : List Entry) → n ≢ m → settled_file (Changed m change ∷ es) n ≡ settled_file es n
unfolding settled_file
settled_other m n change es other = rw (same_other n m other, settled_file) refl

none_settled : (n : List ℕ) → settled_file [] n ≡ None
unfolding settled_file
none_settled n = refl

said_settled : (bytes n : List ℕ) (es : List Entry) → settled_file es n ≡ settled_file (Said bytes ∷ es) n
unfolding settled_file
said_settled bytes n es = refl

asked_settled : (question : Question) (n : List ℕ) (es : List Entry) → settled_file es n ≡ settled_file (Asked question ∷ es) n
unfolding settled_file
asked_settled question n es = refl

loses_same : (n : List ℕ) (change : Change) (es : List Entry) → LosesAll es n → LosesAll (Changed n change ∷ es) n
loses_same n change es before =
    let len : ℕ = length (bytes_of (files_of es n)) in
    let old : Outcome × Choices = outcome_by (begun 0) es n in
    record {
      file = ap (λ (x : Outcome × Choices). x.0.left) (same_outcome (begun 0) n change es)
          ∙ ap (λ (c : Choices). (outcome_after (begun 0) change len (file_after change (files_of es n)) old.0 c).left) before.choices
          ∙ loses_change change len (files_of es n) (settled_file es n) old.0 before.file
          ∙ sym (settled_same n change es);
      choices = ap (λ (x : Outcome × Choices). x.1) (same_outcome (begun 0) n change es)
          ∙ ap (λ (c : Choices). choices_after (begun 0) change len old.0 c) before.choices
          ∙ loses_choices change len old.0;
    }

loses_other : (e : Entry) (n : List ℕ) (es : List Entry) → IsOther e n → settled_file es n ≡ settled_file (e ∷ es) n → LosesAll es n → LosesAll (e ∷ es) n
loses_other e n es other same before = record {
  file = ap (λ (x : Outcome × Choices). x.0.left) (other_outcome (begun 0) e n es other) ∙ before.file ∙ same;
  choices = ap (λ (x : Outcome × Choices). x.1) (other_outcome (begun 0) e n es other) ∙ before.choices;
}

pub loses_all : (es : List Entry) (n : List ℕ) → LosesAll es n
loses_all [] n = record { file = ap (λ (x : Outcome × Choices). x.0.left) (nothing_by (begun 0) n) ∙ sym (none_settled n); choices = ap (λ (x : Outcome × Choices). x.1) (nothing_by (begun 0) n) }
loses_all (Changed m change ∷ es) n = ⊎_elim
    (λ same. subst (λ q. LosesAll (Changed q change ∷ es) n) same (loses_same n change es (loses_all es n)))
    (λ other. loses_other (Changed m change) n es other (sym (settled_other m n change es other)) (loses_all es n))
    (decide n m)
loses_all (Said bytes ∷ es) n = loses_other (Said bytes) n es tt (said_settled bytes n es) (loses_all es n)
loses_all (Asked question ∷ es) n = loses_other (Asked question) n es tt (asked_settled question n es) (loses_all es n)
