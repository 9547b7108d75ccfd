-- The pages that an index finds, as frames move.
use Rattle.std.proofs.Common.{◌≡◌, ℕ, suc, ◌+◌, ◌-◌, ◌<◌, ◌≤◌, nat_eq, false, inl, inr, List, [], ◌∷◌, ◌++◌, length, take, drop, Option, Some, None, refl, sym, ap, ap₂, ◌∙◌, subst, arith, min, MatchOption, length-append, append_assoc, Contains, cond}
use Rattle.nb_cache.proofs.Common.{AllByRecursion, IsDistinct, keys_of, take-append-add, eq-eqb, ne_eqb, eqb-false, cases_eq, last_entry, map-append, append-nil, take_all, take-append-le, take-append-drop, length-take-le, IsDistinct-head, IsDistinct-tail, Contains-append_left, Contains-head, Contains-tail, Contains-cons, Contains-nil, Contains-middle, Contains-without, Contains-with, all_at, all_from, Frame, Index, Frames, NoneHolds, FoundAt, holder, places, Finds, some_same}
use Rattle.nb_cache.proofs.KeyedLaws.{misses_before, last_parts}

-- a frame is in its place
place_of : (es : Frames) (x : ℕ × Frame) → Contains es x → Contains (places es) (x.1.page, x.0)
place_of [] x c = absurd (Contains-nil x c)
place_of (e ∷ es) x c = elim (Contains-cons e es x c) [
  | inl same ↦ subst (λ (y : ℕ × Frame). Contains ((e.1.page, e.0) ∷ places es) (y.1.page, y.0)) same (Contains-head (e.1.page, e.0) (places es))
  | inr rest ↦ Contains-tail (e.1.page, e.0) (places es) (x.1.page, x.0) (place_of es x rest)
]

-- the frames around a place
record Around (es : Frames) (page key : ℕ) : Type 0 where
  pub before : Frames
  pub frame : Frame
  pub behind : Frames
  pub parts : es ≡ before ++ (key, frame) ∷ behind
  pub holds : page ≡ frame.page

around : (es : Frames) (page key : ℕ) → Contains (places es) (page, key) → Around es page key
around [] page key c = absurd (Contains-nil (page, key) c)
around (e ∷ es) page key c = elim (Contains-cons (e.1.page, e.0) (places es) (page, key) c) [
  | inl same ↦ record {
    before = [];
    frame = e.1;
    behind = es;
    parts = ap (λ (k : ℕ). (k, e.1) ∷ es) (ap (λ (p : ℕ × ℕ). p.1) same);
    holds = sym (ap (λ (p : ℕ × ℕ). p.0) same);
  }
  | inr rest ↦ let a = around es page key rest in record {
    before = e ∷ a.before;
    frame = a.frame;
    behind = a.behind;
    parts = ap (λ l. e ∷ l) a.parts;
    holds = a.holds;
  }
]

-- a page is in one place only
pub once : (index : Index) (ps : List (ℕ × ℕ)) → Finds index ps → (page key other : ℕ) → Contains ps (page, key) → Contains ps (page, other) → key ≡ other
once index ps finds page key other one two = some_same key other (sym (finds.each page key one) ∙ finds.each page other two)

-- what an index finds, and what it doesn't
module _ (index : Index) (es : Frames) (held page : ℕ) (finds : Finds index (places (take held es))) where
  pub absent-found : holder index page ≡ None → NoneHolds page (take held es)
  absent-found none = all_from (λ e. nat_eq page e.1.page ≡ false) (take held es) (λ x c. ne_eqb page x.1.page (λ same.
      let some : holder index page ≡ Some x.0 = ap (holder index) same ∙ finds.each x.1.page x.0 (place_of (take held es) x c) in
      absurd (cc)))

  pub found-at : (key : ℕ) → IsDistinct nat_eq (keys_of es) → held ≤ length es → holder index page ≡ Some key → FoundAt es held page key
  found-at key distinct within some =
      let a = around (take held es) page key (finds.only page key some) in
      let x : ℕ × Frame = (key, a.frame) in
      let rest : Frames = drop held es in
      let parts : es ≡ a.before ++ x ∷ (a.behind ++ rest) =
      sym (take-append-drop held es) ∙ ap (λ (l : Frames). l ++ rest) a.parts ∙ append_assoc a.before (x ∷ a.behind) rest in
      let only : AllByRecursion (λ e. nat_eq key e.0 ≡ false) a.before = misses_before es a.before key a.frame (a.behind ++ rest) parts distinct in
      let size : length (take held es) ≡ length a.before + suc (length a.behind) = ap length a.parts ∙ length-append a.before (x ∷ a.behind) in
      let here : (y : ℕ × Frame) → Contains a.before y → Contains (take held es) y =
      λ y c. subst (λ (l : Frames). Contains l y) (sym a.parts) (Contains-append_left a.before (x ∷ a.behind) y c) in record {
        split = record { before = a.before; frame = a.frame; behind = a.behind ++ rest; parts = parts; only = only };
        inside = omega (arith, length-take-le held es within);
        holds = a.holds;
        first = all_from (λ e. nat_eq page e.1.page ≡ false) a.before (λ y c. ne_eqb page y.1.page (λ same.
            let again : holder index page ≡ Some y.0 = ap (holder index) same ∙ finds.each y.1.page y.0 (place_of (take held es) y (here y c)) in
            eqb-false key y.0 (all_at (λ e. nat_eq key e.0 ≡ false) a.before y only c) (some_same key y.0 (sym some ∙ again))));
      }

-- no frame holds the page, so it has no place
pub no-place : (page : ℕ) (es : Frames) → NoneHolds page es → (key : ℕ) → Contains (places es) (page, key) → ⊥
no-place page es none key c =
    let a = around es page key c in
    eqb-false page a.frame.page (all_at (λ e. nat_eq page e.1.page ≡ false) es (key, a.frame) none (subst (λ (l : Frames). Contains l (key, a.frame)) (sym a.parts) (Contains-middle a.before (key, a.frame) a.behind))) a.holds

-- the same places in another order
pub Finds-front : (index : Index) (A : List (ℕ × ℕ)) (p : ℕ × ℕ) (B : List (ℕ × ℕ)) → Finds index (A ++ p ∷ B) → Finds index (p ∷ (A ++ B))
Finds-front index A p B finds = record {
  only = λ page key some. elim (Contains-without A p B (page, key) (finds.only page key some)) [
    | inl same ↦ subst (λ (q : ℕ × ℕ). Contains (p ∷ (A ++ B)) q) same (Contains-head p (A ++ B))
    | inr rest ↦ Contains-tail p (A ++ B) (page, key) rest
  ];
  each = λ page key c. finds.each page key (elim (Contains-cons p (A ++ B) (page, key) c) [
    | inl same ↦ subst (λ (q : ℕ × ℕ). Contains (A ++ p ∷ B) q) same (Contains-middle A p B)
    | inr rest ↦ Contains-with A p B (page, key) rest
  ]);
}

-- one page more
module _ (old new : Index) (page key : ℕ) (entered : (q : ℕ) → holder new q ≡ cond (nat_eq page q) (Some key) (holder old q)) (ps : List (ℕ × ℕ)) (finds : Finds old ps) (none : (k : ℕ) → Contains ps (page, k) → ⊥) where
  here : (q : ℕ) → page ≡ q → holder new q ≡ Some key
  here q same = entered q ∙ ap (λ b. cond b (Some key) (holder old q)) (eq-eqb page q same)

  there : (q : ℕ) → (page ≡ q → ⊥) → holder new q ≡ holder old q
  there q apart = entered q ∙ ap (λ b. cond b (Some key) (holder old q)) (ne_eqb page q apart)

  pub Finds-entered : Finds new ((page, key) ∷ ps)
  Finds-entered = record {
    only = λ q k some. elim (cases_eq page q) [
      | inl same ↦
          let one : key ≡ k = some_same key k (sym (here q same) ∙ some) in
          subst (λ (p : ℕ × ℕ). Contains ((page, key) ∷ ps) p) (ap₂ (λ (a b : ℕ). (a, b)) same one) (Contains-head (page, key) ps)
      | inr apart ↦ Contains-tail (page, key) ps (q, k) (finds.only q k (sym (there q apart) ∙ some))
    ];
    each = λ q k c. elim (Contains-cons (page, key) ps (q, k) c) [
      | inl same ↦ here q (ap (λ (p : ℕ × ℕ). p.0) same) ∙ ap (λ (n : ℕ). Some n) (ap (λ (p : ℕ × ℕ). p.1) same)
      | inr rest ↦ there q (λ same. none k (subst (λ (n : ℕ). Contains ps (n, k)) (sym same) rest)) ∙ finds.each q k rest
    ];
  }

-- one page more, at the end, where all of them are in one place only
module _ (old new : Index) (page key : ℕ) (entered : (q : ℕ) → holder new q ≡ cond (nat_eq page q) (Some key) (holder old q)) (ps : List (ℕ × ℕ)) (finds : Finds old ps) (one : (k : ℕ) → Contains ps (page, k) → k ≡ key) where
  pub Finds-pushed : Finds new (ps ++ (page, key) ∷ [])
  Finds-pushed = record {
    only = λ q k some. elim (cases_eq page q) [
      | inl same ↦
          let is : key ≡ k = some_same key k (sym (entered q ∙ ap (λ b. cond b (Some key) (holder old q)) (eq-eqb page q same)) ∙ some) in
          subst (λ (p : ℕ × ℕ). Contains (ps ++ (page, key) ∷ []) p) (ap₂ (λ (a b : ℕ). (a, b)) same is) (Contains-middle ps (page, key) [])
      | inr apart ↦
          Contains-with ps (page, key) [] (q, k) (subst (λ (l : List (ℕ × ℕ)). Contains l (q, k)) (sym (append-nil ps))
          (finds.only q k (sym (entered q ∙ ap (λ b. cond b (Some key) (holder old q)) (ne_eqb page q apart)) ∙ some)))
    ];
    each = λ q k c. elim (cases_eq page q) [
      | inl same ↦
          let is : key ≡ k = elim (Contains-without ps (page, key) [] (q, k) c) [
            | inl e ↦ ap (λ (p : ℕ × ℕ). p.1) e
            | inr rest ↦ sym (one k (subst (λ (l : List (ℕ × ℕ)). Contains l (page, k)) (append-nil ps) (subst (λ (n : ℕ). Contains (ps ++ []) (n, k)) (sym same) rest)))
          ] in
          entered q ∙ ap (λ b. cond b (Some key) (holder old q)) (eq-eqb page q same) ∙ ap (λ (n : ℕ). Some n) is
      | inr apart ↦
          entered q ∙ ap (λ b. cond b (Some key) (holder old q)) (ne_eqb page q apart) ∙ finds.each q k (elim (Contains-without ps (page, key) [] (q, k) c) [
            | inl e ↦ absurd (apart (ap (λ (p : ℕ × ℕ). p.0) e))
            | inr rest ↦ subst (λ (l : List (ℕ × ℕ)). Contains l (q, k)) (append-nil ps) rest
          ])
    ];
  }

-- one page less, whose key is in no other place
module _ (old new : Index) (page key : ℕ) (left : (q : ℕ) → holder new q ≡ cond (nat_eq page q) None (holder old q)) (A B : List (ℕ × ℕ)) (finds : Finds old (A ++ (page, key) ∷ B)) (alone : (p : ℕ) → Contains (A ++ B) (p, key) → ⊥) where
  pub Finds-left : Finds new (A ++ B)
  Finds-left = record {
    only = λ q k some. elim (cases_eq page q) [
      | inl same ↦ absurd (let none : holder new q ≡ None = left q ∙ ap (λ b. cond b None (holder old q)) (eq-eqb page q same) in cc)
      | inr apart ↦ elim (Contains-without A (page, key) B (q, k) (finds.only q k (sym (left q ∙ ap (λ b. cond b None (holder old q)) (ne_eqb page q apart)) ∙ some))) [
        | inl e ↦ absurd (apart (ap (λ (p : ℕ × ℕ). p.0) e))
        | inr rest ↦ rest
      ]
    ];
    each = λ q k c. elim (cases_eq page q) [
      | inl same ↦
          let there : Contains (A ++ (page, key) ∷ B) (page, k) = Contains-with A (page, key) B (page, k) (subst (λ (n : ℕ). Contains (A ++ B) (n, k)) (sym same) c) in
          let is : k ≡ key = once old (A ++ (page, key) ∷ B) finds page k key there (Contains-middle A (page, key) B) in
          absurd (alone q (subst (λ (n : ℕ). Contains (A ++ B) (q, n)) is c))
      | inr apart ↦ left q ∙ ap (λ b. cond b None (holder old q)) (ne_eqb page q apart) ∙ finds.each q k (Contains-with A (page, key) B (q, k) c)
    ];
  }

-- no frame has this key
pub no-key : (key : ℕ) (es : Frames) → AllByRecursion (λ e. nat_eq key e.0 ≡ false) es → (page : ℕ) → Contains (places es) (page, key) → ⊥
no-key key es apart page c =
    let a = around es page key c in
    eqb-false key key (all_at (λ e. nat_eq key e.0 ≡ false) es (key, a.frame) apart (subst (λ (l : Frames). Contains l (key, a.frame)) (sym a.parts) (Contains-middle a.before (key, a.frame) a.behind))) refl

-- where no two keys are equal, none after a frame is its key
pub misses_behind : (es before : Frames) (key : ℕ) (frame : Frame) (behind : Frames) → es ≡ before ++ (key, frame) ∷ behind → IsDistinct nat_eq (keys_of es) → AllByRecursion (λ e. nat_eq key e.0 ≡ false) behind
misses_behind es before key frame behind parts distinct = from before (subst (λ (l : Frames). IsDistinct nat_eq (keys_of l)) parts distinct) where
  each_of : (l : Frames) → AllByRecursion (λ k. nat_eq key k ≡ false) (keys_of l) → AllByRecursion (λ e. nat_eq key e.0 ≡ false) l
  each_of [] all = tt
  each_of (e ∷ l) all = (all.0, each_of l all.1)

  from : (l : Frames) → IsDistinct nat_eq (keys_of (l ++ (key, frame) ∷ behind)) → AllByRecursion (λ e. nat_eq key e.0 ≡ false) behind
  from [] d = each_of behind (IsDistinct-head nat_eq key (keys_of behind) d)
  from (e ∷ l) d = from l (IsDistinct-tail nat_eq e.0 (keys_of (l ++ (key, frame) ∷ behind)) d)

-- what a look-up says
pub found : (index : Index) (es : Frames) (held page : ℕ) → Finds index (places (take held es)) → IsDistinct nat_eq (keys_of es) → held ≤ length es → (o : Option ℕ) → o ≡ holder index page → MatchOption o (NoneHolds page (take held es)) (FoundAt es held page)
found index es held page finds distinct within None is = absent-found index es held page finds (sym is)
found index es held page finds distinct within (Some key) is = found-at index es held page finds key distinct within (sym is)

-- the places up to a frame that holds a page, and from there on
pub places-at : (es before : Frames) (x : ℕ × Frame) (behind : Frames) (held : ℕ) → es ≡ before ++ x ∷ behind → length before < held → places (take held es) ≡ places before ++ (x.1.page, x.0) ∷ places (take (held - suc (length before)) behind)
places-at es before x behind held parts inside =
    let n : ℕ = held - suc (length before) in
    let e : held ≡ length before + suc n = omega arith in
    ap (λ l. places (take held l)) parts
    ∙ ap (λ m. places (take m (before ++ x ∷ behind))) e
    ∙ ap places (take-append-add before (x ∷ behind) (suc n))
    ∙ map-append (λ e. (e.1.page, e.0)) before (x ∷ take n behind)

-- a page that is seen again is in the same frame
pub seen-once : (es before : Frames) (x : ℕ × Frame) (behind : Frames) (held : ℕ) → es ≡ before ++ x ∷ behind → length before < held → ((page key other : ℕ) → Contains (places (take held es)) (page, key) → Contains (places (take held es)) (page, other) → key ≡ other) → (k : ℕ) → Contains (places before) (x.1.page, k) → k ≡ x.0
seen-once es before x behind held parts inside one k c =
    let rest : List (ℕ × ℕ) = places (take (held - suc (length before)) behind) in
    let all = places-at es before x behind held parts inside in
    one x.1.page k x.0
    (subst (λ (l : List (ℕ × ℕ)). Contains l (x.1.page, k)) (sym all) (Contains-append_left (places before) ((x.1.page, x.0) ∷ rest) (x.1.page, k) c))
    (subst (λ (l : List (ℕ × ℕ)). Contains l (x.1.page, x.0)) (sym all) (Contains-middle (places before) (x.1.page, x.0) rest))

-- the least recently used frame, empty from now on
pub Finds-vacated : (old new : Index) (es : Frames) (held key : ℕ) (frame : Frame) → Finds old (places (take held es)) → 0 < length es → Some (key, frame) ≡ last_entry es → IsDistinct nat_eq (keys_of es) → held ≡ length es → ((q : ℕ) → holder new q ≡ cond (nat_eq frame.page q) None (holder old q)) → Finds new (places (take (min held (length es - 1)) es))
Finds-vacated old new es held key frame finds some is distinct full left =
    let cut = last_parts es key frame some is in
    let x : ℕ × Frame = (key, frame) in
    let size : length es ≡ length cut.0 + 1 = ap length cut.1 ∙ length-append cut.0 (x ∷ []) in
    let all : take held es ≡ es = take_all held es (omega arith) in
    let pairs : places (take held es) ≡ places cut.0 ++ (frame.page, key) ∷ [] = ap places (all ∙ cut.1) ∙ map-append (λ e. (e.1.page, e.0)) cut.0 (x ∷ []) in
    let short : min held (length es - 1) ≡ length cut.0 = omega arith in
    let front : take (min held (length es - 1)) es ≡ cut.0 =
    ap (λ n. take n es) short ∙ ap (take (length cut.0)) cut.1 ∙ take-append-le (length cut.0) cut.0 (x ∷ []) (omega arith) ∙ take_all (length cut.0) cut.0 (omega arith) in
    let alone : (p : ℕ) → Contains (places cut.0 ++ []) (p, key) → ⊥ =
    λ p c. no-key key cut.0 (misses_before es cut.0 key frame [] cut.1 distinct) p (subst (λ (l : List (ℕ × ℕ)). Contains l (p, key)) (append-nil (places cut.0)) c) in
    let less : Finds new (places cut.0 ++ []) =
    Finds-left old new frame.page key left (places cut.0) [] (subst (λ (l : List (ℕ × ℕ)). Finds old l) pairs finds) alone in
    subst (λ (l : List (ℕ × ℕ)). Finds new l) (append-nil (places cut.0) ∙ sym (ap places front)) less

-- the first `held` of frames that are not all in use
pub Finds-not_full : (index : Index) (es : Frames) (held : ℕ) → held < length es → Finds index (places (take held es)) → Finds index (places (take (min held (length es - 1)) es))
Finds-not_full index es held below finds = subst (λ (n : ℕ). Finds index (places (take n es))) (omega arith) finds
