-- The files are read on where the page of a number waits, one after another.
use Rattle.std.proofs.Common.{◌≡◌, ℕ, zero, suc, ◌+◌, ◌<◌, ◌≤◌, List, [], ◌∷◌, ◌++◌, length, get_or, set, take, drop, sym, ap, subst, ◌∙◌, arith, drop-cons}
use Rattle.nb_fold.proofs.Common.{take_more, drop-set-lt, drop-drop, Files, Numbered, AreApart, Held, AllWait, AreOfPages, Waits, count_at, counts_at, due, due_by, rest_after, rests, head_same}

-- the rests of so many files, and the others as they were
abbrev pub rests_upto : (i n : ℕ) → List (List Numbered) → List (List Numbered)
rests_upto zero n rss = rss
rests_upto (suc i) n [] = []
rests_upto (suc i) n (rs ∷ rss) = rest_after n rs ∷ rests_upto i n rss

upto_all : (files : Files) (n : ℕ) (ss : List Held) (rss : List (List Numbered)) → AllWait files ss (rests_upto (length ss) n rss) → AllWait files ss (rests n rss)
upto_all files n [] [] waits = waits
upto_all files n [] (rs ∷ rss) waits = absurd waits
upto_all files n (s ∷ ss) [] waits = absurd waits
upto_all files n (s ∷ ss) (rs ∷ rss) waits = (waits.0, upto_all files n ss rss waits.1)

pub passed_all : (files : Files) (n i : ℕ) (ss : List Held) (rss : List (List Numbered)) → i ≡ length ss → AllWait files ss (rests_upto i n rss) → AllWait files ss (rests n rss)
passed_all files n i ss rss is waits = upto_all files n ss rss (subst (λ k. AllWait files ss (rests_upto k n rss)) is waits)

-- the file in that place
pub record Found (files : Files) (n i : ℕ) (ss : List Held) (s : Held) (rss : List (List Numbered)) : Type 0 where
  pub rs : List Numbered
  pub waits : Waits files s rs
  pub put : (later : Held) → Waits files later (rest_after n rs) → AllWait files (set ss i later) (rests_upto (i + 1) n rss)

one_more : (i n : ℕ) (rss : List (List Numbered)) → rests_upto (suc i) n rss ≡ rests_upto (i + 1) n rss
one_more i n rss = ap (λ k. rests_upto k n rss) (let e : suc i ≡ i + 1 = omega arith in e)

pub found : (files : Files) (n i : ℕ) (ss : List Held) (s : Held) (rss : List (List Numbered)) → i < length ss → s ≡ get_or ss i s → AllWait files ss (rests_upto i n rss) → Found files n i ss s rss
found files n i [] s rss low is waits = absurd (omega (arith, low))
found files n zero (t ∷ ts) s [] low is waits = absurd waits
found files n zero (t ∷ ts) s (rs ∷ rss) low is waits = record {
  rs = rs;
  waits = subst (λ (x : Held). Waits files x rs) (sym is) waits.0;
  put = λ later goes. subst (AllWait files (later ∷ ts)) (one_more 0 n (rs ∷ rss)) (goes, waits.1);
}
found files n (suc i) (t ∷ ts) s [] low is waits = absurd waits
found files n (suc i) (t ∷ ts) s (rs ∷ rss) low is waits =
    let more = found files n i ts s rss (omega (arith, low)) is waits.1 in
    record {
      rs = more.rs;
      waits = more.waits;
      put = λ later goes. subst (AllWait files (t ∷ set ts i later)) (one_more (suc i) n (rs ∷ rss)) (waits.0, subst (AllWait files (set ts i later)) (sym (one_more i n rss)) (more.put later goes));
    }

-- how many numbers are due with another in its place
pub due_set : (i : ℕ) (ss : List Held) (s later : Held) → i < length ss → s ≡ get_or ss i s → due (set ss i later) + due_by s.waiting ≡ due ss + due_by later.waiting
due_set i [] s later low is = absurd (omega (arith, low))
due_set zero (t ∷ ts) s later low is = let e = ap (λ (x : Held). due_by x.waiting) is in omega (arith, e)
due_set (suc i) (t ∷ ts) s later low is = let rest = due_set i ts s later (omega (arith, low)) is in omega (arith, rest)

-- and their pages
pub pages_set : (size i : ℕ) (ss : List Held) (s later : Held) → i < length ss → s ≡ get_or ss i s → later.reader.head.page_size ≡ s.reader.head.page_size → AreOfPages size ss → AreOfPages size (set ss i later)
pages_set size i [] s later low is same all = absurd (omega (arith, low))
pages_set size zero (t ∷ ts) s later low is same all = (same ∙ ap (λ (x : Held). x.reader.head.page_size) is ∙ all.0, all.1)
pages_set size (suc i) (t ∷ ts) s later low is same all = (all.0, pages_set size i ts s later (omega (arith, low)) is same all.1)

pub apart_set : (name : List ℕ) (i : ℕ) (ss : List Held) (s later : Held) → i < length ss → s ≡ get_or ss i s → later.reader.name ≡ s.reader.name → AreApart name ss → AreApart name (set ss i later)
apart_set name i [] s later low is same all = absurd (omega (arith, low))
apart_set name zero (t ∷ ts) s later low is same all = (λ e. all.0 (sym (same ∙ ap (λ (x : Held). x.reader.name) is) ∙ e), all.1)
apart_set name (suc i) (t ∷ ts) s later low is same all = (all.0, apart_set name i ts s later (omega (arith, low)) is same all.1)

counts_more : (n : ℕ) (ss : List Held) (s : Held) → counts_at n (ss ++ s ∷ []) ≡ counts_at n ss + count_at n s.waiting
counts_more n [] s = omega arith
counts_more n (t ∷ ts) s = let rest = counts_more n ts s in omega (arith, rest)

pub counts_front : (k n : ℕ) (ss : List Held) → counts_at n (take k ss) ≤ counts_at n ss
counts_front zero n ss = omega arith
counts_front (suc k) n [] = omega arith
counts_front (suc k) n (s ∷ ss) = let rest = counts_front k n ss in omega (arith, rest)

-- the files from that place on are as they were
module _ (i n : ℕ) (old now : List Held) (s : Held) (same : drop i now ≡ drop i old) (long : length now ≡ length old) (low : i < length now) (is : s ≡ get_or now i s) where
  pub there_still : s ≡ get_or old i s
  there_still = is ∙ head_same (get_or now i s) (get_or old i s) (drop (suc i) now) (drop (suc i) old) (sym (drop-cons now i s low) ∙ same ∙ drop-cons old i s (omega (arith, low, long)))

  pub behind_still : (later : Held) → drop (i + 1) (set now i later) ≡ drop (i + 1) old
  behind_still later =
      drop-set-lt (i + 1) now i later (omega arith) ∙ ap (λ k. drop k now) (let e : i + 1 ≡ 1 + i = omega arith in e) ∙ sym (drop_on now) ∙ ap (drop 1) same ∙ drop_on old ∙ ap (λ k. drop k old) (let e : 1 + i ≡ i + 1 = omega arith in e)
    where
      drop_on : (xs : List Held) → drop 1 (drop i xs) ≡ drop (1 + i) xs
      drop_on xs = drop-drop 1 i xs ∙ ap (λ k. drop k xs) (let e : i + 1 ≡ 1 + i = omega arith in e)

  pub counts_upto : counts_at n (take (i + 1) old) ≡ counts_at n (take i old) + count_at n s.waiting
  counts_upto = ap (counts_at n) (take_more old i s (omega (arith, low, long)) ∙ ap (λ (x : Held). take i old ++ x ∷ []) (sym there_still)) ∙ counts_more n (take i old) s
