-- What a fold is known by before its file is made, and what it leaves.
use Rattle.std.proofs.Common.{◌≡◌, ◌≢◌, inl, inr, ⊎_elim, ℕ, suc, ◌+◌, ◌-◌, ◌*◌, ◌<◌, ◌≤◌, List, [], ◌∷◌, length, get_or, refl, sym, ap, subst, ◌∙◌, arith, true, false, Bool, Some, None, Option, Result, Ok, Err}
use Rattle.nb_fold.proofs.Common.{AllByRecursion, and_parts, is_page_size, most_pages, File, Files, World, Leaves, LeavesAll, Fault, Refused, Device, Memory, Refusal, FileExists, Only, NoNames, Remade, GaveNothing, rested, kept_then, nothing_joined, Quiet, LevelHead, head_of, Head, Contents, AreOfSize, level_bytes, LevelWriting, IsKept, IsUnfinishedOr, AreChained, open_reads, FoldAnswers, FoldLeft, Folds, fold_reads, bytes_for, first_head, folded, folded_head, last_head, pages_of_each, AllOfSize, AllRise, AreApart, MakesOr, pages_left, Held, AllWait, AreOfPages, AreOpened, IsOpened, IsTaken, due, due_by, chained, fold_verdict, HasPages, level_pages, err_not_ok}
use Rattle.nb_fields.specs.Free.{is_free_file}
use Rattle.nb_change.proofs.MomentLaws.{left_before}
use Rattle.nb_page.specs.Free.{is_free_name}
use Rattle.nb_model.proofs.FreeLaws.{free_no_level}
use Rattle.nb_fold.specs.declared.folded.Folded.{Folded}
use Rattle.nb_fold.specs.Most.{fold_most, open_most, read_on_most}
use Rattle.nb_fold.specs.Prepared.{IsPrepared}
use Rattle.nb_fold.proofs.FoldedLaws.{folded_rises, folded_sizes}

-- the verdict, by the name
pub verdict_taken : (files : Files) (out : List ℕ) (names : List (List ℕ)) → is_free_name files out ≡ false → fold_verdict files out names ≡ Err (FileExists out)
verdict_taken files out names taken = ap (λ b. elim b as (λ x. Result (List Contents) Refusal) [ true ↦ chained files names | false ↦ Err (FileExists out) ]) taken

pub verdict_free : (files : Files) (out : List ℕ) (names : List (List ℕ)) → is_free_name files out ≡ true → fold_verdict files out names ≡ chained files names
verdict_free files out names free = ap (λ b. elim b as (λ x. Result (List Contents) Refusal) [ true ↦ chained files names | false ↦ Err (FileExists out) ]) free

-- the heads of the first and the last
pub first_there : (files : Files) (names : List (List ℕ)) (ss : List Held) (cs : List Contents) (s : Held) → AreOpened files names ss cs → 0 < length ss → s ≡ get_or ss 0 s → head_of s.reader.head ≡ first_head cs
first_there files names [] cs s opened some is = absurd (omega (arith, some))
first_there files [] (t ∷ ts) cs s opened some is = absurd opened
first_there files (n ∷ ns) (t ∷ ts) [] s opened some is = absurd opened
first_there files (n ∷ ns) (t ∷ ts) (c ∷ cs) s opened some is = ap (λ (x : Held). head_of x.reader.head) is ∙ opened.0.head

pub last_there : (files : Files) (names : List (List ℕ)) (ss : List Held) (cs : List Contents) (s : Held) → AreOpened files names ss cs → 0 < length ss → s ≡ get_or ss (length ss - 1) s → head_of s.reader.head ≡ last_head cs
last_there files names [] cs s opened some is = absurd (omega (arith, some))
last_there files [] (t ∷ ts) cs s opened some is = absurd opened
last_there files (n ∷ ns) (t ∷ ts) [] s opened some is = absurd opened
last_there files (n ∷ ns) (t ∷ []) (c ∷ []) s opened some is = ap (λ (x : Held). head_of x.reader.head) is ∙ opened.0.head
last_there files (n ∷ []) (t ∷ []) (c ∷ d ∷ cs) s opened some is = absurd opened.1
last_there files (n ∷ m ∷ ns) (t ∷ []) (c ∷ d ∷ cs) s opened some is = absurd opened.1
last_there files (n ∷ []) (t ∷ u ∷ us) (c ∷ cs) s opened some is = absurd opened.1
last_there files (n ∷ m ∷ ns) (t ∷ u ∷ us) (c ∷ []) s opened some is = absurd opened.1
last_there files (n ∷ m ∷ ns) (t ∷ u ∷ us) (c ∷ d ∷ cs) s opened some is =
    last_there files (m ∷ ns) (u ∷ us) (d ∷ cs) s opened.1 (omega arith) (is ∙ ap (λ n. get_or (t ∷ u ∷ us) n s) (let e : suc (suc (length us)) - 1 ≡ suc (suc (length us) - 1) = omega arith in e))

pub head_is : (first last : LevelHead) (cs : List Contents) → head_of first ≡ first_head cs → head_of last ≡ last_head cs → head_of (record first { guid = last.guid; scn = last.scn }) ≡ folded_head cs
head_is first last cs one two = ap (λ (h : Head). record h { guid = last.guid; scn = last.scn }) one ∙ ap (λ (h : Head). record (first_head cs) { guid = h.guid; scn = h.scn }) two

-- no more numbers are due than there are
pub due_few : (ss : List Held) → due ss ≤ length ss * most_pages
due_few [] = omega arith
due_few (s ∷ ss) = let rest = due_few ss in let one = by s.waiting in omega (arith, rest, one)
  where
    by : (waiting : Option ℕ) → due_by waiting ≤ most_pages
    by None = omega arith
    by (Some n) = omega arith

-- What the files hold.
module _ (files : Files) where
  pages_in : (name : List ℕ) (s : Held) (c : Contents) → IsOpened files name s c → HasPages c.head c.pages
  pages_in name s c opened = level_pages opened.bytes c opened.read

  all_rise : (names : List (List ℕ)) (ss : List Held) (cs : List Contents) → AreOpened files names ss cs → AllRise 0 (pages_of_each cs)
  all_rise [] [] [] opened = tt
  all_rise [] [] (c ∷ cs) opened = absurd opened
  all_rise [] (s ∷ ss) cs opened = absurd opened
  all_rise (n ∷ ns) [] cs opened = absurd opened
  all_rise (n ∷ ns) (s ∷ ss) [] opened = absurd opened
  all_rise (n ∷ ns) (s ∷ ss) (c ∷ cs) opened = ((pages_in n s c opened.0).rising, all_rise ns ss cs opened.1)

  all_sized : (size : ℕ) (names : List (List ℕ)) (ss : List Held) (cs : List Contents) → AreOpened files names ss cs → AreOfPages size ss → AllOfSize size (pages_of_each cs)
  all_sized size [] [] [] opened alike = tt
  all_sized size [] [] (c ∷ cs) opened alike = absurd opened
  all_sized size [] (s ∷ ss) cs opened alike = absurd opened
  all_sized size (n ∷ ns) [] cs opened alike = absurd opened
  all_sized size (n ∷ ns) (s ∷ ss) [] opened alike = absurd opened
  all_sized size (n ∷ ns) (s ∷ ss) (c ∷ cs) opened alike =
      (subst (λ k. AreOfSize k c.pages) (sym (ap (λ (h : Head). h.size) opened.0.head) ∙ alike.0) (pages_in n s c opened.0).sizes, all_sized size ns ss cs opened.1 alike.1)

  all_waiting : (names : List (List ℕ)) (ss : List Held) (cs : List Contents) → AreOpened files names ss cs → AllWait files ss (pages_of_each cs)
  all_waiting [] [] [] opened = tt
  all_waiting [] [] (c ∷ cs) opened = absurd opened
  all_waiting [] (s ∷ ss) cs opened = absurd opened
  all_waiting (n ∷ ns) [] cs opened = absurd opened
  all_waiting (n ∷ ns) (s ∷ ss) [] opened = absurd opened
  all_waiting (n ∷ ns) (s ∷ ss) (c ∷ cs) opened = (opened.0.waits, all_waiting ns ss cs opened.1)

  -- none of them is a file of a name that is free
  other : (name out : List ℕ) (s : Held) (c : Contents) → is_free_file (files out) ≡ true → IsOpened files name s c → name ≢ out
  other name out s c free opened same = free_no_level opened.bytes c (sym (ap is_free_file (sym (ap files same) ∙ opened.there)) ∙ free) opened.read

  all_apart : (out : List ℕ) (names : List (List ℕ)) (ss : List Held) (cs : List Contents) → is_free_file (files out) ≡ true → AreOpened files names ss cs → AreApart out ss × AllByRecursion (λ (name : List ℕ). name ≢ out) names
  all_apart out [] [] [] free opened = (tt, tt)
  all_apart out [] [] (c ∷ cs) free opened = absurd opened
  all_apart out [] (s ∷ ss) cs free opened = absurd opened
  all_apart out (n ∷ ns) [] cs free opened = absurd opened
  all_apart out (n ∷ ns) (s ∷ ss) [] free opened = absurd opened
  all_apart out (n ∷ ns) (s ∷ ss) (c ∷ cs) free opened =
      let rest = all_apart out ns ss cs free opened.1 in
      let one = other n out s c free opened.0 in
      ((λ e. one (sym opened.0.named ∙ e), rest.0), (one, rest.1))

  -- the head of the fold is of the form
  first_form : (names : List (List ℕ)) (ss : List Held) (cs : List Contents) → 0 < length ss → AreOpened files names ss cs → length (first_head cs).previous ≡ 16
  first_form names [] cs some opened = absurd (omega (arith, some))
  first_form [] (s ∷ ss) cs some opened = absurd opened
  first_form (n ∷ ns) (s ∷ ss) [] some opened = absurd opened
  first_form (n ∷ ns) (s ∷ ss) (c ∷ cs) some opened = (pages_in n s c opened.0).previous

  last_form : (names : List (List ℕ)) (ss : List Held) (cs : List Contents) → 0 < length ss → AreOpened files names ss cs → length (last_head cs).guid ≡ 16
  last_form names [] cs some opened = absurd (omega (arith, some))
  last_form [] (s ∷ ss) cs some opened = absurd opened
  last_form (n ∷ ns) (s ∷ ss) [] some opened = absurd opened
  last_form (n ∷ ns) (s ∷ ss) (c ∷ []) some opened = (pages_in n s c opened.0).guid
  last_form (n ∷ []) (s ∷ []) (c ∷ d ∷ cs) some opened = absurd opened.1
  last_form (n ∷ m ∷ ns) (s ∷ []) (c ∷ d ∷ cs) some opened = absurd opened.1
  last_form (n ∷ []) (s ∷ t ∷ ts) (c ∷ d ∷ cs) some opened = absurd opened.1
  last_form (n ∷ m ∷ ns) (s ∷ t ∷ ts) (c ∷ d ∷ cs) some opened = last_form (m ∷ ns) (t ∷ ts) (d ∷ cs) (omega arith) opened.1

-- how many reads it takes in all
reads_all : (cs : List Contents) → open_reads cs + pages_left (pages_of_each cs) + 1 ≡ fold_reads cs
reads_all [] = refl
reads_all (c ∷ cs) = let rest = reads_all cs in omega (arith, rest)

-- where the files were begun
pub opened_within : (old mid : Files) (out : List ℕ) (names : List (List ℕ)) (before first after : ℕ) → is_free_name old out ≡ true → mid ≡ old → first ≤ before + 1 → after ≤ first + open_most mid names → after ≤ before + (1 + open_most old names)
opened_within old mid out names before first after free same once opened =
    let more : after ≤ first + open_most old names = subst (λ (f : Files). after ≤ first + open_most f names) same opened in
    omega (arith, once, more)

-- which is all that is read, or the files are read on from there
pub most_free : (files : Files) (out : List ℕ) (names : List (List ℕ)) → is_free_name files out ≡ true → fold_most files out names ≡ 1 + (open_most files names + read_on_most (chained files names))
most_free files out names free = ap (λ (b : Bool). 1 + elim b as (λ x. ℕ) [ true ↦ open_most files names + read_on_most (chained files names) | false ↦ 0 ]) free

pub most_folded : (files : Files) (out : List ℕ) (names : List (List ℕ)) (cs : List Contents) → fold_verdict files out names ≡ Ok cs → fold_most files out names ≡ 1 + (open_most files names + pages_left (pages_of_each cs))
most_folded files out names cs accepted = by (is_free_name files out) refl
  where
    by : (free : Bool) → is_free_name files out ≡ free → fold_most files out names ≡ 1 + (open_most files names + pages_left (pages_of_each cs))
    by true is = most_free files out names is ∙ ap (λ (r : Result (List Contents) Refusal). 1 + (open_most files names + read_on_most r)) (sym (verdict_free files out names is) ∙ accepted)
    by false is = absurd (err_not_ok (FileExists out) cs (fold_verdict files out names) (verdict_taken files out names is) accepted)

-- All is known that the fold needs.
pub prepared : (old mid new : World) (out : List ℕ) (names : List (List ℕ)) (ss : List Held) (file : LevelWriting) → is_free_name old.files out ≡ true → Quiet old mid → mid.reads ≤ old.reads + 1 → AreChained mid.files names mid.reads new.reads ss → Quiet mid new
    → new.reads ≤ mid.reads + open_most mid.files names → 0 < length ss → file.name ≡ out → is_page_size file.head.page_size ≡ true → ((cs : List Contents) → AreOpened mid.files names ss cs → head_of file.head ≡ folded_head cs) → AreOfPages file.head.page_size ss → IsPrepared old new out names ss file
unfolding folded is_free_name
prepared old mid new out names ss file free quiet once chain quiet2 within some named size head alike =
    let cs = chain.contents in
    let opened = chain.opened in
    let headed = head cs opened in
    let same : mid.files ≡ old.files = quiet.still.files in
    let free_file : is_free_file (mid.files out) ≡ true = ap (λ (f : Files). is_free_file (f out)) same ∙ (and_parts (is_free_file (old.files out)) _ free).0 in
    let apart = all_apart mid.files out names ss cs free_file opened in
    record {
      files = cs;
      accepted = verdict_free old.files out names free ∙ ap (λ (f : Files). chained f names) (sym same) ∙ chain.accepted;
      head = headed;
      ready = record {
        coming = pages_of_each cs;
        all = refl;
        may = record {
          formed = record {
            guid = ap (λ (h : Head). length h.guid) headed ∙ last_form mid.files names ss cs some opened;
            previous = ap (λ (h : Head). length h.previous) headed ∙ first_form mid.files names ss cs some opened;
            size = size;
          };
          rising = folded_rises most_pages 0 (pages_of_each cs) (omega arith);
          sizes = folded_sizes file.head.page_size most_pages 0 (pages_of_each cs) (all_sized mid.files file.head.page_size names ss cs opened alike);
        };
        waits = subst (λ (f : Files). AllWait f ss (pages_of_each cs)) (sym quiet2.still.files) (all_waiting mid.files names ss cs opened);
        rises = all_rise mid.files names ss cs opened;
        apart = subst (λ (n : List ℕ). AreApart n ss) (sym named) apart.0;
        reads = omega arith;
      };
      opened = opened_within old.files mid.files out names old.reads mid.reads new.reads free same once within;
      reads = let all = reads_all cs in let few = chain.reads in omega (arith, all, few, once);
      apart = apart.1;
    }

-- It isn't prepared, so nothing is done.
pub not_prepared : (old new : World) (out : List ℕ) (names : List (List ℕ)) (fault : Fault) → Quiet old new → ((refusal : Refusal) → fault ≡ Refused refusal → fold_verdict old.files out names ≡ Err refusal) → Folds (Err fault) old new out names
not_prepared old new out names fault quiet refused = record {
  answer = by fault refused;
  left = rested old new (Only out) (FoldLeft (Leaves old out) old.files out names) quiet.still quiet.said quiet.moments (λ files left. inl (left out));
  reads = inl (ap (λ (f : Files). f out) quiet.still.files);
  gave = record { guids = quiet.guids; times = quiet.times };
  refused = λ refusal is. quiet;
}
  where
    by : (f : Fault) → ((refusal : Refusal) → f ≡ Refused refusal → fold_verdict old.files out names ≡ Err refusal) → FoldAnswers (Err f) old new out names
    by (Refused refusal) r = (quiet, r refusal refl)
    by Device r = tt
    by Memory r = quiet

module _ (old mid new : World) (out : List ℕ) (names : List (List ℕ)) (ss : List Held) (file : LevelWriting) (quiet : Quiet old mid) (plan : IsPrepared old mid out names ss file) where
  abbrev whole : List ℕ
  whole = level_bytes 102 (head_of file.head) (folded plan.files).pages

  whole_is : whole ≡ bytes_for (folded plan.files)
  unfolding folded
  whole_is = ap (λ (h : Head). level_bytes 102 h (folded plan.files).pages) plan.head

  part : (f : File) → IsUnfinishedOr whole f → IsUnfinishedOr (bytes_for (folded plan.files)) f
  part f is = subst (λ (b : List ℕ). IsUnfinishedOr b f) whole_is is

  folds : (result : Result Folded Fault) → FoldAnswers result old new out names → MakesOr mid new out (IsUnfinishedOr whole) → GaveNothing mid new → Folds result old new out names
  folds result answer makes gave = record {
    answer = answer;
    left = kept_then old mid new (Only out) (Remade mid out (IsUnfinishedOr whole)) (FoldLeft (Leaves old out) old.files out names) (rested old mid NoNames (LeavesAll old) quiet.still quiet.said quiet.moments (λ files left. left)) makes.left (λ files left. inl (left out))
        (λ files. ⊎_elim (λ was. inl (left_before old mid _ quiet.still.left out (files out) tt was)) (λ made. inr (plan.files, plan.accepted, part (files out) made)));
    reads = ⊎_elim (λ same. inl (same ∙ ap (λ (f : Files). f out) quiet.still.files)) (λ made. inr (plan.files, plan.accepted, part (new.files out) made)) makes.reads;
    gave = nothing_joined old mid new (record { guids = quiet.guids; times = quiet.times }) gave;
    refused = λ refusal is. absurd (err_not_ok refusal plan.files (fold_verdict old.files out names) is plan.accepted);
  }

  pub fold_fails : (fault : Fault) → IsTaken {T = Unit {0}} (Err fault) (λ done. Unit {0}) → MakesOr mid new out (IsUnfinishedOr whole) → GaveNothing mid new → Folds (Err fault) old new out names
  fold_fails (Refused refusal) sure makes gave = absurd sure
  fold_fails Device sure makes gave = folds (Err Device) tt makes gave
  fold_fails Memory sure makes gave = absurd sure

  pub fold_done : (made : Folded) → head_of made.head ≡ head_of file.head → made.pages ≡ length (folded plan.files).pages → IsKept new out whole → new.reads ≤ old.reads + fold_reads plan.files → MakesOr mid new out (IsUnfinishedOr whole) → GaveNothing mid new → Folds (Ok made) old new out names
  fold_done made head pages kept reads makes gave =
      folds (Ok made) (record { files = plan.files; accepted = plan.accepted; head = head ∙ plan.head; pages = pages; kept = subst (IsKept new out) whole_is kept; apart = plan.apart; reads = reads }) makes gave
