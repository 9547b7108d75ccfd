-- Reading a level file gives what was written, in both versions. So bytes spell one level file at most.
use Rattle.std.proofs.Common.{◌≡◌, inl, inr, ℕ, zero, suc, ◌+◌, ◌<◌, ◌≤◌, ◌⊎◌, List, [], ◌∷◌, ◌++◌, length, take, drop, refl, sym, ap, subst, ◌∙◌, arith, length-append, append_assoc, Bool, true, false, not, ◌&&◌, ◌||◌, ◌==◌, nat_lt, nat_le, None, Result, Ok, Err}
use Rattle.nb_model.proofs.Common.{true≢false, eqb-true, or_cases, leb_tells, take_at, drop_at, drop-drop, number_of, bytes_of, number_in, part, is_page_size, most_pages, number_of-bytes_of, size_facts, Numbered, Head, IsHead, IsLevel, Contents, Test, Stretch, AreRising, AreOfSize, first_fault, ends_before, head_then, head_in, begins_level, body_bytes, single_bytes, run_bytes, runs_of, runs_behind, joined, end_bytes, end_mark, level_bytes, read_level, read_pages, read_singles, read_runs, with_head, is_first_page}
use Rattle.nb_model.proofs.ReadLaws.{AreClear, clear_none, lt_no, lt_yes, IsRun, single_read, singles_end}
use Rattle.nb_model.proofs.GatherLaws.{AreRuns, total, one_numbered, gathered_pages, gathered_runs, gathered_total, runs_read}

-- what stands after two lists of sixteen
past_guids : (g p w : List ℕ) (n k : ℕ) → length g ≡ 16 → length p ≡ 16 → n ≡ 32 + k → drop n (g ++ (p ++ w)) ≡ drop k w
past_guids g p w n k eg ep e =
    let at : n ≡ 16 + (16 + k) = omega arith in
    ap (λ (x : ℕ). drop x (g ++ (p ++ w))) at ∙ sym (drop-drop (16 + k) 16 (g ++ (p ++ w))) ∙ ap (drop (16 + k)) (drop_at g (p ++ w) 16 eg)
    ∙ sym (drop-drop k 16 (p ++ w)) ∙ ap (drop k) (drop_at p w 16 ep)

-- the head is in its ranges
record Fits (h : Head) : Type 0 where
  pub level : h.level < 65536
  pub size : h.size < 4294967296
  pub scn : h.scn < 4294967296
  pub previous_scn : h.previous_scn < 4294967296

head_read : (version : ℕ) (h : Head) (tail : List ℕ) → IsHead h → Fits h → head_in (head_then version h tail) ≡ h
unfolding head_in head_then number_in bytes_of
head_read version h tail is fits =
    let w : List ℕ = bytes_of 4 h.size ++ (bytes_of 4 h.scn ++ (bytes_of 4 h.previous_scn ++ tail)) in
    let y : List ℕ = h.previous ++ w in
    let past = past_guids h.guid h.previous w in
    let level : number_in 6 2 (head_then version h tail) ≡ h.level = number_of-bytes_of 2 h.level fits.level in
    let guid : part 8 16 (head_then version h tail) ≡ h.guid = take_at h.guid y 16 is.guid in
    let previous : part 24 16 (head_then version h tail) ≡ h.previous = ap (take 16) (drop_at h.guid y 16 is.guid) ∙ take_at h.previous w 16 is.previous in
    let size : number_in 40 4 (head_then version h tail) ≡ h.size = ap (λ (x : List ℕ). number_of (take 4 x)) (past 32 0 is.guid is.previous refl) ∙ number_of-bytes_of 4 h.size fits.size in
    let scn : number_in 44 4 (head_then version h tail) ≡ h.scn = ap (λ (x : List ℕ). number_of (take 4 x)) (past 36 4 is.guid is.previous refl) ∙ number_of-bytes_of 4 h.scn fits.scn in
    let previous_scn : number_in 48 4 (head_then version h tail) ≡ h.previous_scn = ap (λ (x : List ℕ). number_of (take 4 x)) (past 40 8 is.guid is.previous refl) ∙ number_of-bytes_of 4 h.previous_scn fits.previous_scn in
    λ i. record { level = level i; guid = guid i; previous = previous i; size = size i; scn = scn i; previous_scn = previous_scn i }

behind_head : (version : ℕ) (h : Head) (tail : List ℕ) → IsHead h → drop 52 (head_then version h tail) ≡ tail
unfolding head_then bytes_of
behind_head version h tail is = past_guids h.guid h.previous (bytes_of 4 h.size ++ (bytes_of 4 h.scn ++ (bytes_of 4 h.previous_scn ++ tail))) 44 12 is.guid is.previous refl

head_longer : (version : ℕ) (h : Head) (tail : List ℕ) → IsHead h → length (head_then version h tail) ≡ 52 + length tail
unfolding head_then bytes_of
head_longer version h tail is =
    omega (
      arith,
      is.guid,
      is.previous,
      length-append h.guid (h.previous ++ (bytes_of 4 h.size ++ (bytes_of 4 h.scn ++ (bytes_of 4 h.previous_scn ++ tail)))),
      length-append h.previous (bytes_of 4 h.size ++ (bytes_of 4 h.scn ++ (bytes_of 4 h.previous_scn ++ tail))),
    )

pub begins_there : (version : ℕ) (h : Head) (tail : List ℕ) → begins_level (head_then version h tail) ≡ true
unfolding head_then begins_level
begins_there version h tail = refl

version_there : (version : ℕ) (h : Head) (tail : List ℕ) → version < 65536 → number_in 4 2 (head_then version h tail) ≡ version
unfolding head_then number_in bytes_of
version_there version h tail small = number_of-bytes_of 2 version small

-- the tests of a head
abbrev pub head_tests : (bytes : List ℕ) (version : ℕ) → Head → List Test
head_tests bytes version h =
    (not (begins_level bytes), 0)
    ∷ ends_before 52 0 bytes
    ∷ (not (version == 101 || version == 102), 4)
    ∷ (not (nat_le 1 h.level && nat_le h.level 9), 6)
    ∷ (not (is_page_size h.size), 40)
    ∷ (not (nat_lt h.previous_scn h.scn), 44)
    ∷ []

read_there : (bytes : List ℕ) → first_fault (head_tests bytes (number_in 4 2 bytes) (head_in bytes)) ≡ None
    → read_level bytes ≡ with_head (number_in 4 2 bytes) (head_in bytes) (read_pages (number_in 4 2 bytes) (head_in bytes) bytes)
unfolding read_level
read_there bytes clear = rw (clear, read_level) refl

read_step : (bytes : List ℕ) (version : ℕ) (h : Head) → number_in 4 2 bytes ≡ version → head_in bytes ≡ h → AreClear (head_tests bytes version h) → read_level bytes ≡ with_head version h (read_pages version h bytes)
read_step bytes version h e f clear =
    read_there bytes (ap (λ v. first_fault (head_tests bytes v (head_in bytes))) e ∙ ap (λ x. first_fault (head_tests bytes version x)) f ∙ clear_none (head_tests bytes version h) clear)
    ∙ ap (λ v. with_head v (head_in bytes) (read_pages v (head_in bytes) bytes)) e ∙ ap (λ x. with_head version x (read_pages version x bytes)) f

-- rising numbers below the most are few
pub rising_few : (least : ℕ) (rs : List Numbered) → least ≤ most_pages → AreRising least rs → least + length rs ≤ most_pages
rising_few least [] low h = omega arith
rising_few least (r ∷ rs) low h =
    let rest = rising_few (r.0 + 1) rs (omega (arith, h.1)) h.2 in
    omega (arith, h.0, rest)

-- a page of version 101 has at least a byte
singles_short : (rs : List Numbered) → length rs ≤ length (single_bytes rs)
unfolding single_bytes bytes_of
singles_short [] = omega arith
singles_short (r ∷ rs) = let h = singles_short rs in omega (arith, h, length-append r.1 (single_bytes rs))

runs_short : (ss : List Stretch) → length ss ≤ length (run_bytes ss)
unfolding run_bytes bytes_of
runs_short [] = omega arith
runs_short (s ∷ ss) = let h = runs_short ss in omega (arith, h, length-append (joined s.pages) (run_bytes ss))

pub single_front : (r : Numbered) (rs : List Numbered) (e : List ℕ) → single_bytes (r ∷ rs) ++ e ≡ bytes_of 4 r.0 ++ (r.1 ++ (single_bytes rs ++ e))
unfolding single_bytes bytes_of
single_front r rs e = ap (λ (x : List ℕ). bytes_of 4 r.0 ++ x) (append_assoc r.1 (single_bytes rs) e)

pub single_none : (e : List ℕ) → single_bytes [] ++ e ≡ e
unfolding single_bytes
single_none e = refl

-- pages of version 101 after the first are read back
singles_read : (h : Head) (rs : List Numbered) (left at count least : ℕ) → length rs < left → 1 ≤ count → 1 ≤ least → AreRising least rs → AreOfSize h.size rs → count + length rs < 4294967296
    → read_singles left h at count least (single_bytes rs ++ end_bytes (count + length rs)) ≡ Ok rs
singles_read h rs zero at count least few some past rising sizes small = absurd (omega arith)
singles_read h [] (suc left) at count least few some past rising sizes small =
    ap (read_singles (suc left) h at count least) (single_none (end_bytes (count + 0)) ∙ ap end_bytes (omega arith)) ∙ singles_end left h at count least (omega arith) (omega arith)
singles_read h (r ∷ rs) (suc left) at count least few some past rising sizes small =
    let n : ℕ = count + suc (length rs) in
    let same : (count + 1) + length rs ≡ n = omega arith in
    let next = singles_read h rs left (at + 4 + h.size) (count + 1) (r.0 + 1) (omega arith) (omega arith) (omega arith) rising.2 sizes.1 (omega arith) in
    ap (read_singles (suc left) h at count least) (single_front r rs (end_bytes n))
    ∙ single_read left h at count least r.0 r.1 (single_bytes rs ++ end_bytes n) rs sizes.0 (λ e. absurd (omega arith)) rising.0 rising.1 (λ e. absurd (omega (arith, rising.0)))
    (ap (λ (k : ℕ). read_singles left h (at + 4 + h.size) (count + 1) (r.0 + 1) (single_bytes rs ++ end_bytes k)) (sym same) ∙ next)

-- what the grammar says of a body
record IsBody (h : Head) (r : Numbered) (rs : List Numbered) : Type 0 where
  pub first : r.0 ≡ 0
  pub header : is_first_page h r.1 ≡ true
  pub rising : AreRising 1 rs
  pub size : length r.1 ≡ h.size
  pub sizes : AreOfSize h.size rs
  pub few : 1 + length rs ≤ most_pages

-- the whole body of version 101
body_101 : (h : Head) (r : Numbered) (rs : List Numbered) (left : ℕ) → length (r ∷ rs) < left → IsBody h r rs → read_singles left h 52 0 0 (single_bytes (r ∷ rs) ++ end_bytes (length (r ∷ rs))) ≡ Ok (r ∷ rs)
body_101 h r rs zero few body = absurd (omega arith)
body_101 h r rs (suc left) few body =
    let n : ℕ = suc (length rs) in
    let same : 1 + length rs ≡ n = omega arith in
    let next = singles_read h rs left (52 + 4 + h.size) 1 (r.0 + 1) (omega arith) (omega arith) (omega arith) (subst (λ k. AreRising k rs) (omega (arith, body.first)) body.rising) body.sizes (omega (arith, body.few)) in
    ap (read_singles (suc left) h 52 0 0) (single_front r rs (end_bytes n))
    ∙ single_read left h 52 0 0 r.0 r.1 (single_bytes rs ++ end_bytes n) rs body.size (λ e. body.first) (omega arith) (omega (arith, body.first)) (λ e. body.header)
    (ap (λ (k : ℕ). read_singles left h (52 + 4 + h.size) 1 (r.0 + 1) (single_bytes rs ++ end_bytes k)) (sym same) ∙ next)

-- and of version 102
body_102 : (h : Head) (r : Numbered) (rs : List Numbered) (left : ℕ) → length (runs_behind r.0 (r.1 ∷ []) rs) < left → IsBody h r rs
    → read_runs left h 52 0 0 end_mark (run_bytes (runs_behind r.0 (r.1 ∷ []) rs) ++ end_bytes (length (r ∷ rs))) ≡ Ok (r ∷ rs)
body_102 h r rs left few body =
    let ss : List Stretch = runs_behind r.0 (r.1 ∷ []) rs in
    let all : total ss ≡ suc (length rs) = gathered_total r.0 (r.1 ∷ []) rs ∙ omega arith in
    let run : IsRun h 0 0 end_mark r.0 (r.1 ∷ []) = record {
      low = omega arith;
      apart = λ e. absurd (omega (arith, body.first));
      begins = λ e. body.first;
      some = omega arith;
      few = omega arith;
      below = omega (arith, body.first);
      sizes = (body.size, tt);
      head = λ e. body.header;
    } in
    let runs : AreRuns h 0 0 end_mark ss = gathered_runs h 0 0 end_mark r.0 (r.1 ∷ []) rs run (subst (λ (k : ℕ). AreRising k rs) (omega (arith, body.first)) body.rising) body.sizes in
    ap (λ (k : ℕ). read_runs left h 52 0 0 end_mark (run_bytes ss ++ end_bytes k)) (omega (arith, all))
    ∙ runs_read h ss left 52 0 0 end_mark few runs (omega (arith, all)) (omega (arith, all, body.few))
    ∙ ap (λ (x : List Numbered). Ok x) (gathered_pages r.0 (r.1 ∷ []) rs ∙ one_numbered r.0 r.1 rs)

both_second : (a b : Bool) → (a && b) ≡ true → b ≡ true
both_second true b e = e
both_second false b e = absurd (true≢false (sym e))

le_is : (a b : ℕ) → nat_le a b ≡ true → a ≤ b
le_is a b e = elim (leb_tells a b) [ inl w ↦ w.1 | inr w ↦ absurd (true≢false (sym e ∙ w.0)) ]

fits : (h : Head) → IsHead h → Fits h
fits h is =
    let size = size_facts h.size is.size in
    record {
      level = omega (arith, le_is h.level 9 (both_second (nat_le 1 h.level) (nat_le h.level 9) is.level));
      size = omega (arith, size.at_most);
      scn = omega (arith, is.scn);
      previous_scn = omega (arith, is.scn, is.later);
    }

-- the body by its version
pages_101 : (h : Head) (bytes : List ℕ) → read_pages 101 h bytes ≡ read_singles (length bytes) h 52 0 0 (drop 52 bytes)
unfolding read_pages
pages_101 h bytes = refl

pages_102 : (h : Head) (bytes : List ℕ) → read_pages 102 h bytes ≡ read_runs (length bytes) h 52 0 0 end_mark (drop 52 bytes)
unfolding read_pages
pages_102 h bytes = refl

bytes_101 : (h : Head) (rs : List Numbered) → level_bytes 101 h rs ≡ head_then 101 h (single_bytes rs ++ end_bytes (length rs))
unfolding level_bytes body_bytes
bytes_101 h rs = refl

bytes_102 : (h : Head) (r : Numbered) (rs : List Numbered) → level_bytes 102 h (r ∷ rs) ≡ head_then 102 h (run_bytes (runs_behind r.0 (r.1 ∷ []) rs) ++ end_bytes (length (r ∷ rs)))
unfolding level_bytes body_bytes runs_of
bytes_102 h r rs = refl

abbrev contents : ℕ → Head → Numbered → List Numbered → Contents
contents version h r rs = record { version = version; head = h; pages = r ∷ rs }

-- a head that is of the form is read
head_clear : (version : ℕ) (h : Head) (tail : List ℕ) → IsHead h → (version == 101 || version == 102) ≡ true → AreClear (head_tests (head_then version h tail) version h)
head_clear version h tail is known = (
  ap not (begins_there version h tail),
  (
    lt_no (length (head_then version h tail)) 52 (omega (arith, head_longer version h tail is)),
    (ap not known, (ap not is.level, (ap not is.size, (ap not (lt_yes h.previous_scn h.scn is.later), tt)))),
  ),
)

file_read : (version : ℕ) (h : Head) (tail : List ℕ) → IsHead h → (version == 101 || version == 102) ≡ true → version < 65536
    → read_level (head_then version h tail) ≡ with_head version h (read_pages version h (head_then version h tail))
file_read version h tail is known small =
    read_step (head_then version h tail) version h (version_there version h tail small) (head_read version h tail is (fits h is)) (head_clear version h tail is known)

file_101 : (h : Head) (r : Numbered) (rs : List Numbered) → IsHead h → IsBody h r rs → read_level (level_bytes 101 h (r ∷ rs)) ≡ Ok (contents 101 h r rs)
file_101 h r rs is body =
    let tail : List ℕ = single_bytes (r ∷ rs) ++ end_bytes (length (r ∷ rs)) in
    let bytes : List ℕ = head_then 101 h tail in
    let long : length bytes ≡ 52 + length tail = head_longer 101 h tail is in
    ap read_level (bytes_101 h (r ∷ rs)) ∙ file_read 101 h tail is refl (omega arith)
    ∙ ap (with_head 101 h) (pages_101 h bytes ∙ ap (read_singles (length bytes) h 52 0 0) (behind_head 101 h tail is)
    ∙ body_101 h r rs (length bytes) (omega (arith, long, singles_short (r ∷ rs), length-append (single_bytes (r ∷ rs)) (end_bytes (length (r ∷ rs))))) body)

file_102 : (h : Head) (r : Numbered) (rs : List Numbered) → IsHead h → IsBody h r rs → read_level (level_bytes 102 h (r ∷ rs)) ≡ Ok (contents 102 h r rs)
file_102 h r rs is body =
    let ss : List Stretch = runs_behind r.0 (r.1 ∷ []) rs in
    let tail : List ℕ = run_bytes ss ++ end_bytes (length (r ∷ rs)) in
    let bytes : List ℕ = head_then 102 h tail in
    let long : length bytes ≡ 52 + length tail = head_longer 102 h tail is in
    ap read_level (bytes_102 h r rs) ∙ file_read 102 h tail is refl (omega arith)
    ∙ ap (with_head 102 h) (pages_102 h bytes ∙ ap (read_runs (length bytes) h 52 0 0 end_mark) (behind_head 102 h tail is)
    ∙ body_102 h r rs (length bytes) (omega (arith, long, runs_short ss, length-append (run_bytes ss) (end_bytes (length (r ∷ rs))))) body)

-- what the grammar spells is read back
pub level_read : (bytes : List ℕ) (version : ℕ) (h : Head) (r : Numbered) (rs : List Numbered) → IsLevel bytes version h r rs → read_level bytes ≡ Ok (record { version = version; head = h; pages = r ∷ rs })
level_read bytes version h r rs is = ap read_level is.spelled ∙ by_version (or_cases _ _ is.known)
  where
    body : IsBody h r rs
    body = record { first = is.first; header = is.header; rising = is.rising; size = is.sizes.0; sizes = is.sizes.1; few = rising_few 1 rs (omega arith) is.rising }

    by_version : ((version == 101) ≡ true) ⊎ ((version == 102) ≡ true) → read_level (level_bytes version h (r ∷ rs)) ≡ Ok (contents version h r rs)
    by_version (inl e) = subst (λ v. read_level (level_bytes v h (r ∷ rs)) ≡ Ok (contents v h r rs)) (sym (eqb-true version 101 e)) (file_101 h r rs is.head body)
    by_version (inr e) = subst (λ v. read_level (level_bytes v h (r ∷ rs)) ≡ Ok (contents v h r rs)) (sym (eqb-true version 102 e)) (file_102 h r rs is.head body)

abbrev held : Contents → Result Contents ℕ → Contents
held c (Ok x) = x
held c (Err at) = c

same_contents : (x : Result Contents ℕ) (c d : Contents) → x ≡ Ok c → x ≡ Ok d → c ≡ d
same_contents x c d e f = ap (held c) (sym e ∙ f)

-- so bytes spell one level at most
pub level_once : (bytes : List ℕ) (v w : ℕ) (h k : Head) (r q : Numbered) (rs qs : List Numbered) → IsLevel bytes v h r rs → IsLevel bytes w k q qs → (v ≡ w) × (h ≡ k) × (r ∷ rs ≡ q ∷ qs)
level_once bytes v w h k r q rs qs is also =
    let e = same_contents (read_level bytes) (contents v h r rs) (contents w k q qs) (level_read bytes v h r rs is) (level_read bytes w k q qs also) in
    (ap (λ (c : Contents). c.version) e, ap (λ (c : Contents). c.head) e, ap (λ (c : Contents). c.pages) e)
