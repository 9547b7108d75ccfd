-- The files of a kept line by their names.
use Rattle.std.proofs.Common.{◌≡◌, inl, inr, ℕ, zero, suc, ◌+◌, ◌<◌, List, [], ◌∷◌, length, refl, sym, ap, subst, ◌∙◌, arith, ◌⊎◌, Some, None, Result, Ok, Err, Contains}
use Rattle.nb_catalog.proofs.Common.{slice_index_or, get_or-map, position-Some, Files, Refusal, LevelHead, Entry, with_first, IsSafe, KeepsFiles, names_at, read_file, read_files, whole_head, is_parent, parent, parents_of, line_at, AreDistinct, ArePlaces, Retention, entries_of, is_point, plan_of, points, err_ok, ok_equal, some_same}
use Rattle.nb_catalog.proofs.EntryLaws.{in_entries}
use Rattle.nb_catalog.proofs.FileLaws.{by_first, none_left}
use Rattle.nb_catalog.proofs.InLaws.{In, in_from, in_to, in_filter, in_map}
use Rattle.nb_catalog.proofs.KeptLaws.{is_safe}
use Rattle.nb_catalog.proofs.LineLaws.{line_split}
use Rattle.nb_catalog.proofs.PlaceLaws.{plan_within}
use Rattle.nb_catalog.proofs.WholeLaws.{in_last}

-- as many heads are read as there are names
heads_counted : (files : Files) (names : List (List ℕ)) (heads : List LevelHead) → read_files files names ≡ Ok heads → length heads ≡ length names
heads_counted files [] heads is = sym (ap length (ok_equal {T = List LevelHead} {E = Refusal} [] heads (sym (none_left files) ∙ is)))
heads_counted files (name ∷ names) heads is = by (read_file name (files name)) refl (heads_counted files names)
  where
    further : (head : LevelHead) (rest : Result (List LevelHead) Refusal) → read_files files names ≡ rest → with_first head rest ≡ Ok heads → ((hs : List LevelHead) → read_files files names ≡ Ok hs → length hs ≡ length names) → length heads ≡ length (name ∷ names)
    further head (Err r) read e behind = absurd (err_ok r heads e)
    further head (Ok hs) read e behind = sym (ap length (ok_equal {T = List LevelHead} {E = Refusal} (head ∷ hs) heads e)) ∙ ap suc (behind hs read)

    by : (r : Result LevelHead Refusal) → read_file name (files name) ≡ r → ((hs : List LevelHead) → read_files files names ≡ Ok hs → length hs ≡ length names) → length heads ≡ length (name ∷ names)
    by (Err r) read behind = absurd (err_ok r heads (sym (by_first files name names (Err r) read) ∙ is))
    by (Ok head) read behind = further head (read_files files names) refl (sym (by_first files name names (Ok head) read) ∙ is) behind

-- a place among some
place_in : (count : ℕ) (places : List ℕ) (p : ℕ) → ArePlaces count places → In places p → p < count
place_in count [] p all is = absurd is
place_in count (q ∷ qs) p all (inl same) = subst (λ (n : ℕ). n < count) same all.0
place_in count (q ∷ qs) p all (inr is) = place_in count qs p all.1 is

module _ (heads : List LevelHead) where
  -- each place of a line is one of the list
  line_within : (level place : ℕ) (l : List ℕ) → line_at (parents_of heads) level place ≡ Some l → place < length heads → (p : ℕ) → In l p → p < length heads
  unfolding line_at
  line_within zero place l lined within p is = by (subst (λ (ps : List ℕ). In ps p) (sym (some_same {X = List ℕ} (place ∷ []) l lined)) is)
    where
      by : In (place ∷ []) p → p < length heads
      by (inl same) = subst (λ (n : ℕ). n < length heads) same within
      by (inr none) = absurd none
  line_within (suc level) place l lined within p is =
      let parts = line_split (parents_of heads) level place l lined in
      let found : parent heads (slice_index_or heads place (whole_head [])) ≡ Some parts.0 = sym (get_or-map (parent heads) heads place (whole_head []) None within) ∙ parts.2 in
      let goes = position-Some (is_parent (slice_index_or heads place (whole_head []))) heads parts.0 (whole_head []) found in
      by parts.1 (in_last parts.1 place p (subst (λ (ps : List ℕ). In ps p) parts.4 is)) (line_within level parts.0 parts.1 parts.3 goes.0 p)
    where
      by : (above : List ℕ) → In above p ⊎ (place ≡ p) → (In above p → p < length heads) → p < length heads
      by above (inl there) further = further there
      by above (inr same) further = subst (λ (n : ℕ). n < length heads) same within

  point_within : (e : Entry) → Contains (points heads) e → e.place < length heads
  point_within e is =
      let among = in_filter (is_point heads) (entries_of heads) e (in_from (points heads) e is) in
      let found = in_entries 0 heads e (whole_head []) among.0 in
      let place : 0 + found.0 ≡ e.place = ap (λ (x : Entry). x.place) found.2 in
      let low = found.1 in
      omega (arith, place, low)

pub keeps_files : (files : Files) (names : List (List ℕ)) (heads : List LevelHead) (keep : ℕ) (plan : Retention) → read_files files names ≡ Ok heads → plan ≡ plan_of heads keep → AreDistinct names → KeepsFiles names heads keep plan
keeps_files files names heads keep plan read is distinct e chain name kept_is lined needed out =
    let safe : IsSafe heads keep plan = is_safe heads keep plan is in
    let counted = heads_counted files names heads read in
    let at : ℕ → List ℕ = λ place. slice_index_or names place [] in
    let here = in_map at chain name (in_from (names_at names chain) name needed) in
    let there = in_map at plan.dropped name (in_from (names_at names plan.dropped) name out) in
    let low : here.0 < length heads = line_within heads e.level e.place chain lined (point_within heads e (safe.points e kept_is)) here.0 here.1 in
    let high : there.0 < length heads = place_in (length heads) plan.dropped there.0 (plan_within heads keep plan is).dropped there.1 in
    let same : here.0 ≡ there.0 = distinct here.0 there.0 (omega (arith, low, counted)) (omega (arith, high, counted)) (here.2 ∙ sym there.2) in
    safe.needed e chain here.0 kept_is lined (in_to chain here.0 here.1) (subst (Contains plan.dropped) (sym same) (in_to plan.dropped there.0 there.1))
