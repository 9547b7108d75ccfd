-- What the next read of a reader says of what was still to come.
use Rattle.std.proofs.Common.{◌≡◌, inl, inr, ℕ, suc, ◌+◌, ◌-◌, ◌<◌, ◌≤◌, List, [], ◌∷◌, ◌++◌, length, take, drop, sym, ap, ◌∙◌, arith, length-drop, Some, None, Result, Ok, Err, Bool, true, false, ◌==◌}
use Rattle.nb_level.proofs.Common.{cases_lt, drop-drop, take_all, take_at, length-take-le, part, part-take, Numbered, Head, behind, read_singles, barred_after, head_of, Reading, Step, single_step, run_step, read_rest, still_to_come}
use Rattle.nb_level.proofs.ReadingLaws.{after_single, after_run, singles-step, single-window, singles-fuel, runs-step, run-window, runs-fuel, rest-none, rest-more, rest-cut}

-- what was read, where the file ended before
pub read_cut : (size count : ℕ) (after rest : List ℕ) → count ≤ length after → take count after ≡ take size rest → count < size → length rest ≡ count
read_cut size count after rest room same short =
    let n : length (take count after) ≡ count = length-take-le count after room in
    elim (cases_lt (length rest) size) [
      | inl low ↦ sym (ap length (take_all size rest (omega arith))) ∙ sym (ap length same) ∙ n
      | inr high ↦ absurd (let m : length (take size rest) ≡ size = length-take-le size rest high in let e : length (take count after) ≡ length (take size rest) = ap length same in omega arith)
    ]

-- and where it didn't
pub read_whole : (size : ℕ) (after rest : List ℕ) → length after ≡ size → take size after ≡ take size rest → (size ≤ length rest) × (after ≡ take size rest)
read_whole size after rest room same =
    let whole : after ≡ take size rest = sym (take_all size after (omega arith)) ∙ same in
    let fits : size ≤ length rest = elim (cases_lt (length rest) size) [
      | inl low ↦ absurd (let m : length (take size rest) ≡ length rest = ap length (take_all size rest (omega arith)) in let e : length after ≡ length (take size rest) = ap length whole in omega arith)
      | inr high ↦ high
    ] in
    (fits, whole)

abbrev by_version : (single : Bool) → List ℕ → Reading → Result (List Numbered) ℕ
by_version single bytes r = elim single [
  | true ↦ read_singles (length bytes) (head_of r.head) r.place.at r.place.count r.place.least (drop r.place.at bytes)
  | false ↦ read_rest (length bytes) r.place.left (head_of r.head) r.place.at r.place.count r.place.least r.place.barred (drop r.place.at bytes)
]

to_come-101 : (bytes : List ℕ) (r : Reading) → r.version ≡ 101 → still_to_come bytes r ≡ by_version true bytes r
unfolding still_to_come
to_come-101 bytes r v = ap (λ (n : ℕ). by_version (n == 101) bytes r) v

to_come-102 : (bytes : List ℕ) (r : Reading) → r.version ≡ 102 → still_to_come bytes r ≡ by_version false bytes r
unfolding still_to_come
to_come-102 bytes r v = ap (λ (n : ℕ). by_version (n == 101) bytes r) v

shorter : (at : ℕ) (bytes : List ℕ) → length (drop at bytes) ≤ length bytes
shorter at bytes = omega (arith, length-drop at bytes)

module _ (bytes : List ℕ) (r : Reading) where
  abbrev h : Head
  h = head_of r.head

  abbrev rest : List ℕ
  rest = drop r.place.at bytes

  -- the next step of version 101
  pub single-next : r.version ≡ 101 → 5 ≤ h.size → (window : List ℕ) → window ≡ take (4 + h.size) rest
      → still_to_come bytes r ≡ after_single (length bytes) h r.place.at r.place.count rest (single_step h r.place.at r.place.count r.place.least window)
  single-next v large window is =
      to_come-101 bytes r v
      ∙ singles-fuel (length bytes) (suc (length bytes)) h r.place.at r.place.count r.place.least rest (shorter r.place.at bytes) (omega (arith, shorter r.place.at bytes))
      ∙ singles-step (length bytes) h r.place.at r.place.count r.place.least rest
      ∙ ap (after_single (length bytes) h r.place.at r.place.count rest) (sym (single-window h r.place.at r.place.count r.place.least rest large) ∙ sym (ap (single_step h r.place.at r.place.count r.place.least) is))

  -- the next step of version 102
  pub run-next : r.version ≡ 102 → r.place.left ≡ 0 → 5 ≤ h.size → (window : List ℕ) → window ≡ take (8 + h.size) rest
      → still_to_come bytes r ≡ after_run (length bytes) h r.place.at r.place.count rest (run_step h r.place.at r.place.count r.place.least r.place.barred window)
  run-next v none large window is =
      to_come-102 bytes r v
      ∙ ap (λ (n : ℕ). read_rest (length bytes) n h r.place.at r.place.count r.place.least r.place.barred rest) none
      ∙ rest-none (length bytes) h r.place.at r.place.count r.place.least r.place.barred rest
      ∙ runs-fuel (length bytes) (suc (length bytes)) h r.place.at r.place.count r.place.least r.place.barred rest (shorter r.place.at bytes) (omega (arith, shorter r.place.at bytes))
      ∙ runs-step (length bytes) h r.place.at r.place.count r.place.least r.place.barred rest
      ∙ ap (after_run (length bytes) h r.place.at r.place.count rest) (sym (run-window h r.place.at r.place.count r.place.least r.place.barred rest large) ∙ sym (ap (run_step h r.place.at r.place.count r.place.least r.place.barred) is))

  -- a run is cut off
  pub run-cut : r.version ≡ 102 → 0 < r.place.left → (got : ℕ) → length rest ≡ got → got < h.size → still_to_come bytes r ≡ Err (r.place.at + got)
  run-cut v some got is short =
      let e : r.place.left ≡ suc (r.place.left - 1) = omega arith in
      to_come-102 bytes r v
      ∙ ap (λ (n : ℕ). read_rest (length bytes) n h r.place.at r.place.count r.place.least r.place.barred rest) e
      ∙ rest-cut (length bytes) (r.place.left - 1) h r.place.at r.place.count r.place.least r.place.barred rest (omega (arith, is, short))
      ∙ ap (λ (n : ℕ). Err (r.place.at + n)) is

  -- a page of a run
  pub run-more : r.version ≡ 102 → 0 < r.place.left → (got : ℕ) (page : List ℕ) → got ≡ h.size → h.size ≤ length rest → page ≡ take h.size rest
      → (s : Reading) → s ≡ record r { place = record { at = r.place.at + got; count = r.place.count + 1; least = r.place.least + 1; barred = r.place.barred; left = r.place.left - 1 } }
      → still_to_come bytes r ≡ behind ((r.place.least, page) ∷ []) (still_to_come bytes s)
  run-more v some got page size long is s next =
      let e : r.place.left ≡ suc (r.place.left - 1) = omega arith in
      let left : ℕ = r.place.left - 1 in
      let f : ℕ = length bytes in
      let t : Reading = record r { place = record { at = r.place.at + got; count = r.place.count + 1; least = r.place.least + 1; barred = r.place.barred; left = left } } in
      to_come-102 bytes r v
      ∙ ap (λ (n : ℕ). read_rest f n h r.place.at r.place.count r.place.least r.place.barred rest) e
      ∙ rest-more f left h r.place.at r.place.count r.place.least r.place.barred rest long
      ∙ ap (λ (p : List ℕ). behind ((r.place.least, p) ∷ []) (read_rest f left h (r.place.at + h.size) (r.place.count + 1) (r.place.least + 1) r.place.barred (drop h.size rest))) (sym is)
      ∙ ap (λ l. behind ((r.place.least, page) ∷ []) (read_rest f left h (r.place.at + h.size) (r.place.count + 1) (r.place.least + 1) r.place.barred l)) (drop-drop h.size r.place.at bytes)
      ∙ ap (λ (n : ℕ). behind ((r.place.least, page) ∷ []) (read_rest f left h (r.place.at + n) (r.place.count + 1) (r.place.least + 1) r.place.barred (drop (r.place.at + n) bytes))) (sym size)
      ∙ sym (ap (behind ((r.place.least, page) ∷ [])) (ap (still_to_come bytes) next ∙ to_come-102 bytes t v))

  -- a page of version 101
  pub single-page : r.version ≡ 101 → (got n : ℕ) (page : List ℕ) → got ≡ 4 + h.size → page ≡ part 4 h.size rest
      → (s : Reading) (barred left : ℕ) → s ≡ record r { place = record { at = r.place.at + got; count = r.place.count + 1; least = n + 1; barred = barred; left = left } }
      → behind ((n, part 4 h.size rest) ∷ []) (read_singles (length bytes) h (r.place.at + 4 + h.size) (r.place.count + 1) (n + 1) (drop (4 + h.size) rest)) ≡ behind ((n, page) ∷ []) (still_to_come bytes s)
  single-page v got n page size is s barred left next =
      let f : ℕ = length bytes in
      let t : Reading = record r { place = record { at = r.place.at + got; count = r.place.count + 1; least = n + 1; barred = barred; left = left } } in
      let to : r.place.at + 4 + h.size ≡ r.place.at + got = omega arith in
      ap (λ (p : List ℕ). behind ((n, p) ∷ []) (read_singles f h (r.place.at + 4 + h.size) (r.place.count + 1) (n + 1) (drop (4 + h.size) rest))) (sym is)
      ∙ ap (λ l. behind ((n, page) ∷ []) (read_singles f h (r.place.at + 4 + h.size) (r.place.count + 1) (n + 1) l)) (drop-drop (4 + h.size) r.place.at bytes ∙ ap (λ k. drop k bytes) (omega (arith, size)))
      ∙ ap (λ (a : ℕ). behind ((n, page) ∷ []) (read_singles f h a (r.place.count + 1) (n + 1) (drop (r.place.at + got) bytes))) to
      ∙ sym (ap (behind ((n, page) ∷ [])) (ap (still_to_come bytes) next ∙ to_come-101 bytes t v))

  -- the first page of a run
  pub run-page : r.version ≡ 102 → (got n m : ℕ) (page : List ℕ) → got ≡ 8 + h.size → 1 ≤ m → 8 + h.size ≤ length rest → page ≡ part 8 h.size rest
      → (s : Reading) → s ≡ record r { place = record { at = r.place.at + got; count = r.place.count + 1; least = n + 1; barred = barred_after n m; left = m - 1 } }
      → read_rest (length bytes) m h (r.place.at + 8) r.place.count n (barred_after n m) (drop 8 rest) ≡ behind ((n, page) ∷ []) (still_to_come bytes s)
  run-page v got n m page size some long is s next =
      let f : ℕ = length bytes in
      let b : ℕ = barred_after n m in
      let left : ℕ = m - 1 in
      let e : m ≡ suc left = omega arith in
      let t : Reading = record r { place = record { at = r.place.at + got; count = r.place.count + 1; least = n + 1; barred = b; left = left } } in
      let to : r.place.at + 8 + h.size ≡ r.place.at + got = omega arith in
      ap (λ (k : ℕ). read_rest f k h (r.place.at + 8) r.place.count n b (drop 8 rest)) e
      ∙ rest-more f left h (r.place.at + 8) r.place.count n b (drop 8 rest) (omega (arith, length-drop 8 rest, long))
      ∙ ap (λ (p : List ℕ). behind ((n, p) ∷ []) (read_rest f left h (r.place.at + 8 + h.size) (r.place.count + 1) (n + 1) b (drop h.size (drop 8 rest)))) (sym is)
      ∙ ap (λ l. behind ((n, page) ∷ []) (read_rest f left h (r.place.at + 8 + h.size) (r.place.count + 1) (n + 1) b l)) (drop-drop h.size 8 rest ∙ drop-drop (8 + h.size) r.place.at bytes ∙ ap (λ k. drop k bytes) (omega (arith, size)))
      ∙ ap (λ (a : ℕ). behind ((n, page) ∷ []) (read_rest f left h a (r.place.count + 1) (n + 1) b (drop (r.place.at + got) bytes))) to
      ∙ sym (ap (behind ((n, page) ∷ [])) (ap (still_to_come bytes) next ∙ to_come-102 bytes t v))

-- what was read into a buffer
pub window_is : (got size : ℕ) (seen after before rest : List ℕ) → seen ≡ after → take got after ≡ take (length before) rest → length before ≡ size → take got seen ≡ take size rest
window_is got size seen after before rest same read room = ap (take got) same ∙ read ∙ ap (λ n. take n rest) room

-- the page in a buffer that was read whole
pub page_is : (lead size got : ℕ) (seen rest : List ℕ) → length seen ≡ lead + size → got ≤ lead + size → take got seen ≡ take (lead + size) rest → length (take got seen) ≡ lead + size
    → (got ≡ lead + size) × (lead + size ≤ length rest) × (drop lead seen ≡ part lead size rest)
page_is lead size got seen rest room few same whole =
    let all : lead + size ≤ got = elim (cases_lt got (lead + size)) [
      | inl low ↦ absurd (let n : length (take got seen) ≡ got = length-take-le got seen (omega arith) in omega arith)
      | inr high ↦ high
    ] in
    let got_is : got ≡ lead + size = omega arith in
    let seen_is : take (lead + size) seen ≡ take (lead + size) rest = ap (λ n. take n seen) (sym got_is) ∙ same in
    let read = read_whole (lead + size) seen rest room seen_is in
    let left : length (drop lead seen) ≡ size = omega (arith, length-drop lead seen) in
    (got_is, read.0, sym (take_all size (drop lead seen) (omega arith)) ∙ ap (part lead size) read.1 ∙ part-take (lead + size) lead size rest (omega arith))

module _ (bytes : List ℕ) (r : Reading) (window : List ℕ) where
  abbrev head : Head
  head = head_of r.head

  abbrev coming : List ℕ
  coming = drop r.place.at bytes

  abbrev single : Step
  single = single_step head r.place.at r.place.count r.place.least window

  abbrev run : Step
  run = run_step head r.place.at r.place.count r.place.least r.place.barred window

  module _ (v : r.version ≡ 101) (large : 5 ≤ head.size) (is : window ≡ take (4 + head.size) coming) where
    pub single-broken : (place : ℕ) → Err place ≡ single → still_to_come bytes r ≡ Err place
    single-broken place e = single-next bytes r v large window is ∙ ap (after_single (length bytes) head r.place.at r.place.count coming) (sym e)

    pub single-end : Ok None ≡ single → still_to_come bytes r ≡ Ok []
    single-end e = single-next bytes r v large window is ∙ ap (after_single (length bytes) head r.place.at r.place.count coming) (sym e)

    pub single-gives : (got n one : ℕ) (page : List ℕ) → Ok (Some (n, one)) ≡ single → got ≡ 4 + head.size → page ≡ part 4 head.size coming
        → (s : Reading) (barred left : ℕ) → s ≡ record r { place = record { at = r.place.at + got; count = r.place.count + 1; least = n + 1; barred = barred; left = left } }
        → still_to_come bytes r ≡ behind ((n, page) ∷ []) (still_to_come bytes s)
    single-gives got n one page e size page_is s barred left next =
        single-next bytes r v large window is
        ∙ ap (after_single (length bytes) head r.place.at r.place.count coming) (sym e)
        ∙ single-page bytes r v got n page size page_is s barred left next

  module _ (v : r.version ≡ 102) (none : r.place.left ≡ 0) (large : 5 ≤ head.size) (is : window ≡ take (8 + head.size) coming) where
    pub run-broken : (place : ℕ) → Err place ≡ run → still_to_come bytes r ≡ Err place
    run-broken place e = run-next bytes r v none large window is ∙ ap (after_run (length bytes) head r.place.at r.place.count coming) (sym e)

    pub run-end : Ok None ≡ run → still_to_come bytes r ≡ Ok []
    run-end e = run-next bytes r v none large window is ∙ ap (after_run (length bytes) head r.place.at r.place.count coming) (sym e)

    pub run-gives : (got n m : ℕ) (page : List ℕ) → Ok (Some (n, m)) ≡ run → got ≡ 8 + head.size → 1 ≤ m → 8 + head.size ≤ length coming → page ≡ part 8 head.size coming
        → (s : Reading) → s ≡ record r { place = record { at = r.place.at + got; count = r.place.count + 1; least = n + 1; barred = barred_after n m; left = m - 1 } }
        → still_to_come bytes r ≡ behind ((n, page) ∷ []) (still_to_come bytes s)
    run-gives got n m page e size some long page_is s next =
        run-next bytes r v none large window is
        ∙ ap (after_run (length bytes) head r.place.at r.place.count coming) (sym e)
        ∙ run-page bytes r v got n m page size some long page_is s next

-- a buffer that was filled whole
pub filled : (len : ℕ) (after items : List ℕ) → length after ≡ len → take len (after ++ drop (length after) items) ≡ after
filled len after items room = take_at after (drop (length after) items) len room

-- a list from a place on, to its end
pub to_end : (lead : ℕ) (l : List ℕ) → take (length l - lead) (drop lead l) ≡ drop lead l
to_end lead l = take_all (length l - lead) (drop lead l) (omega (arith, length-drop lead l))
