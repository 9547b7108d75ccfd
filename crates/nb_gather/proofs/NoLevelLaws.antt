-- What is left of a level file before its end is whole is no backup.
use Rattle.std.proofs.Common.{◌≡◌, ◌⊎◌, inl, inr, ⊎_elim, ℕ, suc, ◌+◌, ◌/◌, ◌%◌, ◌<◌, List, [], ◌∷◌, ◌++◌, length, take, drop, refl, sym, ap, subst, ◌∙◌, arith, length-append, append_assoc, true, false, ◌||◌, ◌==◌, nat_le, IsTrue, Some, Ok}
use Rattle.nb_gather.proofs.Common.{eqb-true, or_cases, drop_at, drop_all, drop-drop, number_of, bytes_of, number_in, is_page_size, size_facts, decide, Head, Stretch, Contents, head_then, run_bytes, end_bytes, end_mark, read_level, read_pages, read_runs, total, IsHeaded, IsNoBackup, not_both, and_right}
use Rattle.nb_fields.specs.Header.{is_header, is_marked}
use Rattle.nb_model.specs.Levels.{head_in}
use Rattle.nb_level.proofs.ToldLaws.{level_told}
use Rattle.nb_gather.proofs.TornLaws.{Torn, torn_take, torn_drop, torn_short, torn_self, torn_longer, torn_more}
use Rattle.nb_gather.proofs.UnfinishedLaws.{small_torn, AreFit, torn_runs}

-- what stands after a head goes on
pub head_more : (version : ℕ) (h : Head) (a b : List ℕ) → head_then version h a ++ b ≡ head_then version h (a ++ b)
unfolding head_then bytes_of
head_more version h a b =
    let y : List ℕ = bytes_of 4 h.size ++ (bytes_of 4 h.scn ++ (bytes_of 4 h.previous_scn ++ a)) in
    ap (λ (x : List ℕ). 78 ∷ 66 ∷ 65 ∷ 75 ∷ (bytes_of 2 version ++ (bytes_of 2 h.level ++ x))) (append_assoc h.guid (h.previous ++ y) b ∙ ap (λ (x : List ℕ). h.guid ++ x) (append_assoc h.previous y b))

-- A page size has one byte that isn't zero.
size_byte : (size : ℕ) → IsTrue (is_page_size size) → (size % 256 ≡ 0) × (size / 256 < 256)
size_byte size is =
    ⊎_elim (λ is5. ⊎_elim (λ is4. ⊎_elim (λ is3. ⊎_elim (λ is2. ⊎_elim
    (by 1024 (refl, omega arith)) (by 2048 (refl, omega arith)) (or_cases _ _ is2)) (by 4096 (refl, omega arith)) (or_cases _ _ is3)) (by 8192 (refl, omega arith)) (or_cases _ _ is4))
    (by 16384 (refl, omega arith)) (or_cases _ _ is5)) (by 32768 (refl, omega arith)) (or_cases _ _ is)
  where
    by : (n : ℕ) → (n % 256 ≡ 0) × (n / 256 < 256) → (size == n) ≡ true → (size % 256 ≡ 0) × (size / 256 < 256)
    by n facts same = subst (λ (m : ℕ). (m % 256 ≡ 0) × (m / 256 < 256)) (sym (eqb-true size n same)) facts

size_torn : (size : ℕ) (ts : List ℕ) → IsTrue (is_page_size size) → Torn (bytes_of 4 size) ts → (number_of ts ≡ size) ⊎ (number_of ts ≡ 0)
unfolding bytes_of number_of
size_torn size [] is torn = inr refl
size_torn size (t ∷ ts) is torn =
    let byte = size_byte size is in
    let none : t ≡ 0 = ⊎_elim (λ e. e ∙ byte.0) (λ e. e) torn.0 in
    ⊎_elim (λ e. inl (omega (arith, e, none, byte.0))) (λ e. inr (omega (arith, e, none))) (small_torn 2 (size / 256) ts byte.1 torn.1)

-- It begins with no header.
no_header : (bs ts : List ℕ) → Torn (78 ∷ bs) ts → is_header ts ≡ false
unfolding is_header is_marked number_in number_of
no_header bs [] torn = refl
no_header bs (t ∷ ts) torn = ⊎_elim (λ e. subst (λ x. is_header (x ∷ ts) ≡ false) (sym e) (and_right (nat_le 64 (suc (length ts))) false refl)) (λ e. subst (λ x. is_header (x ∷ ts) ≡ false) (sym e) (and_right (nat_le 64 (suc (length ts))) false refl)) torn.0

module _ (bytes : List ℕ) where
  runs_read : (version : ℕ) → version ≡ 102 → read_pages version (head_in bytes) bytes ≡ read_runs (length bytes) (head_in bytes) 52 0 0 end_mark (drop 52 bytes)
  unfolding read_pages
  runs_read version is = ap (λ v. read_pages v (head_in bytes) bytes) is

module _ (h : Head) (is : IsHeaded h) where
  -- after the GUIDs
  from_size : (tail : List ℕ) → drop 16 (drop 16 (drop 8 (head_then 102 h tail))) ≡ bytes_of 4 h.size ++ (bytes_of 4 h.scn ++ (bytes_of 4 h.previous_scn ++ tail))
  unfolding head_then bytes_of
  from_size tail =
      let y : List ℕ = bytes_of 4 h.size ++ (bytes_of 4 h.scn ++ (bytes_of 4 h.previous_scn ++ tail)) in
      ap (drop 16) (drop_at h.guid (h.previous ++ y) 16 is.guid) ∙ drop_at h.previous y 16 is.previous

  pub head_long : (tail : List ℕ) → length (head_then 102 h tail) ≡ 52 + length tail
  unfolding head_then bytes_of
  head_long tail =
      let y : List ℕ = bytes_of 4 h.size ++ (bytes_of 4 h.scn ++ (bytes_of 4 h.previous_scn ++ tail)) in
      omega (arith, is.guid, is.previous, length-append h.guid (h.previous ++ y), length-append h.previous y)

  module _ (tail ts : List ℕ) (torn : Torn (head_then 102 h tail) ts) where
    torn_version : (number_in 4 2 ts ≡ 102) ⊎ (number_in 4 2 ts ≡ 0)
    unfolding head_then number_in bytes_of
    torn_version = small_torn 1 102 (take 2 (drop 4 ts)) (omega arith) (torn_take 2 _ (drop 4 ts) (torn_drop 4 _ ts torn))

    from_there : Torn (bytes_of 4 h.size ++ (bytes_of 4 h.scn ++ (bytes_of 4 h.previous_scn ++ tail))) (drop 16 (drop 16 (drop 8 ts)))
    from_there = subst (λ (x : List ℕ). Torn x (drop 16 (drop 16 (drop 8 ts)))) (from_size tail) (torn_drop 16 _ (drop 16 (drop 8 ts)) (torn_drop 16 _ (drop 8 ts) (torn_drop 8 _ ts torn)))

    past_head : (k : ℕ) → drop k (drop 16 (drop 16 (drop 8 ts))) ≡ drop (40 + k) ts
    past_head k = ap (drop k) (ap (drop 16) (drop-drop 16 8 ts) ∙ drop-drop 16 24 ts) ∙ drop-drop k 40 ts

    torn_size : (number_in 40 4 ts ≡ h.size) ⊎ (number_in 40 4 ts ≡ 0)
    unfolding number_in bytes_of
    torn_size = subst (λ (x : List ℕ). (number_of (take 4 x) ≡ h.size) ⊎ (number_of (take 4 x) ≡ 0)) (past_head 0) (size_torn h.size (take 4 (drop 16 (drop 16 (drop 8 ts)))) is.size (torn_take 4 _ (drop 16 (drop 16 (drop 8 ts))) from_there))

    torn_tail : Torn tail (drop 52 ts)
    unfolding bytes_of
    torn_tail = subst (λ (x : List ℕ). Torn tail x) (past_head 12) (torn_drop 12 _ (drop 16 (drop 16 (drop 8 ts))) from_there)

  -- What is read as a level file, though some of it may be torn, has its end whole.
  module _ (ss : List Stretch) (fit : AreFit h.size ss) (few : total ss < 4294967296) where
    pub torn_level : (ts : List ℕ) (c : Contents) → Torn (head_then 102 h (run_bytes ss ++ end_bytes (total ss))) ts → read_level ts ≡ Ok c → drop (length (run_bytes ss)) (drop 52 ts) ≡ end_bytes (total ss)
    unfolding head_in
    torn_level ts c torn reads =
        let tail : List ℕ = run_bytes ss ++ end_bytes (total ss) in
        let told = level_told ts c reads in
        let known : (number_in 4 2 ts == 101 || number_in 4 2 ts == 102) ≡ true = ap (λ v. v == 101 || v == 102) (sym told.version) ∙ told.known in
        let sized : is_page_size (number_in 40 4 ts) ≡ true = ap (λ (h : Head). is_page_size h.size) (sym told.head) ∙ told.size in
        let version : number_in 4 2 ts ≡ 102 = ⊎_elim (λ e. e) (λ e. absurd (not_both (0 == 101 || 0 == 102) (subst (λ v. (v == 101 || v == 102) ≡ true) e known) refl)) (torn_version tail ts torn) in
        let size : number_in 40 4 ts ≡ h.size = ⊎_elim (λ e. e) (λ e. absurd (not_both (is_page_size 0) (subst (λ v. is_page_size v ≡ true) e sized) refl)) (torn_size tail ts torn) in
        torn_runs (head_in ts) (total ss) (size_facts (number_in 40 4 ts) sized).at_least few ss (length ts) 52 0 0 end_mark (drop 52 ts) c.pages (subst (λ n. AreFit n ss) (sym size) fit) (let e : 0 + total ss ≡ total ss = omega arith in e) (torn_tail tail ts torn)
        (sym (runs_read ts (number_in 4 2 ts) version) ∙ told.pages)

    begins_torn : (tail ts : List ℕ) → Torn (head_then 102 h tail) ts → is_header ts ≡ false
    unfolding head_then
    begins_torn tail ts torn = no_header _ ts torn

    eight : length (end_bytes (total ss)) ≡ 8
    unfolding end_bytes bytes_of
    eight = refl

    -- without its end
    pub no_backup : (ts : List ℕ) → Torn (head_then 102 h (run_bytes ss)) ts → IsNoBackup (Some ts)
    no_backup ts torn = record {
      no_level = λ c reads.
          let all : Torn (head_then 102 h (run_bytes ss ++ end_bytes (total ss))) ts = subst (λ (x : List ℕ). Torn x ts) (head_more 102 h (run_bytes ss) (end_bytes (total ss))) (torn_longer (head_then 102 h (run_bytes ss)) (end_bytes (total ss)) ts torn) in
          let short = torn_short (head_then 102 h (run_bytes ss)) ts torn in
          let none : drop (length (run_bytes ss)) (drop 52 ts) ≡ [] = drop-drop (length (run_bytes ss)) 52 ts ∙ drop_all (52 + length (run_bytes ss)) ts (omega (arith, short, head_long (run_bytes ss))) in
          let whole = torn_level ts c all reads in
          omega (arith, ap length (sym none ∙ whole), eight);
      no_header = begins_torn (run_bytes ss) ts torn;
    }

    -- with a torn end, where that isn't whole
    pub end_torn : (us : List ℕ) → Torn (end_bytes (total ss)) us → (us ≡ end_bytes (total ss)) ⊎ IsNoBackup (Some (head_then 102 h (run_bytes ss) ++ us))
    end_torn us torn = elim (decide us (end_bytes (total ss))) [
      | inl same ↦ inl same
      | inr other ↦
          let front : List ℕ = head_then 102 h (run_bytes ss) in
          let all : Torn (head_then 102 h (run_bytes ss ++ end_bytes (total ss))) (front ++ us) = subst (λ (x : List ℕ). Torn x (front ++ us)) (head_more 102 h (run_bytes ss) (end_bytes (total ss))) (torn_more front (end_bytes (total ss)) front us refl (torn_self front) torn) in
          let behind : drop (length (run_bytes ss)) (drop 52 (front ++ us)) ≡ us = drop-drop (length (run_bytes ss)) 52 (front ++ us) ∙ drop_at front us (52 + length (run_bytes ss)) (head_long (run_bytes ss)) in
          inr (record {
            no_level = λ c reads. other (sym behind ∙ torn_level (front ++ us) c all reads);
            no_header = begins_torn (run_bytes ss ++ end_bytes (total ss)) (front ++ us) all;
          })
    ]
