-- What a level takes of a frozen image, one page after another.
use Rattle.std.proofs.Common.{◌≡◌, inl, inr, ℕ, zero, suc, ◌+◌, ◌-◌, ◌<◌, ◌≤◌, List, [], ◌∷◌, ◌++◌, length, take, refl, sym, ap, subst, ◌∙◌, arith, Bool, true, false, ◌&&◌, nat_lt}
use Rattle.nb_copy.proofs.Common.{append-nil, take_all, length-take-le, stamp_of, most_pages, Page, Image, Numbered, page_at, AreRising, AreOfSize, taken_from, may_have_changed, changed_from, changed, level_bytes, IsOfSize, all-take, World, LevelWriting, HasTaken, MayHave, scn_page_of, LevelCopying, IsLevelOf, IsLevelCopying, taken_below, whole_level, Changes, Only, Remade, IsKept, IsUnfinishedOr, LevelHead, head_of, true_or_false}
use Rattle.nb_model.proofs.ChainLaws.{weaker}

changed_rise : (may : ℕ → Bool) (n scn : ℕ) (ps : Image) → n + length ps ≤ most_pages → AreRising n (changed_from may n scn ps)
unfolding changed_from
changed_rise may n scn [] low = tt
changed_rise may n scn (p ∷ ps) low = elim (true_or_false (may n && nat_lt scn (stamp_of p))) [
  | inl is ↦ rw (is, changed_from) (omega arith, omega (arith, low), changed_rise may (n + 1) scn ps (omega (arith, low)))
  | inr is ↦ rw (is, changed_from) (weaker n (changed_from may (n + 1) scn ps) (changed_rise may (n + 1) scn ps (omega (arith, low))))
]

changed_sizes : (may : ℕ → Bool) (size n scn : ℕ) (ps : Image) → IsOfSize size ps → AreOfSize size (changed_from may n scn ps)
unfolding changed_from
changed_sizes may size n scn [] is = tt
changed_sizes may size n scn (p ∷ ps) is = elim (true_or_false (may n && nat_lt scn (stamp_of p))) [
  | inl taken ↦ rw (taken, changed_from) (is.0, changed_sizes may size (n + 1) scn ps is.1)
  | inr not_taken ↦ rw (not_taken, changed_from) (changed_sizes may size (n + 1) scn ps is.1)
]

-- one page more
changed_more : (may : ℕ → Bool) (n scn k : ℕ) (ps : Image) → k < length ps → changed_from may n scn (take (suc k) ps) ≡ changed_from may n scn (take k ps) ++ changed_from may (n + k) scn (page_at ps k ∷ [])
unfolding changed_from
changed_more may n scn k [] low = absurd (omega (arith, low))
changed_more may n scn zero (p ∷ ps) low = ap (λ m. changed_from may m scn (p ∷ [])) (let e : n ≡ n + 0 = omega arith in e)
changed_more may n scn (suc k) (p ∷ ps) low =
    let rest = changed_more may (n + 1) scn k ps (let l : k < length ps = omega (arith, low) in l)
    ∙ ap (λ m. changed_from may (n + 1) scn (take k ps) ++ changed_from may m scn (page_at ps k ∷ [])) (let e : n + 1 + k ≡ n + suc k = omega arith in e) in
    elim (true_or_false (may n && nat_lt scn (stamp_of p))) [
      | inl is ↦ rw (is, changed_from) (ap (λ (rs : List Numbered). (n, p) ∷ rs) rest)
      | inr is ↦ rw (is, changed_from) rest
    ]

-- a page that may have changed goes by its stamp, and another isn't taken
changed_one : (may : ℕ → Bool) (n scn : ℕ) (p : Page) → may n ≡ true → changed_from may n scn (p ∷ []) ≡ taken_from n scn (p ∷ [])
unfolding changed_from taken_from
changed_one may n scn p is = ap (λ (t : Bool). elim (t && nat_lt scn (stamp_of p)) as (λ z. List Numbered) [ true ↦ (n, p) ∷ [] | false ↦ [] ]) is

changed_none : (may : ℕ → Bool) (n scn : ℕ) (p : Page) → may n ≡ false → changed_from may n scn (p ∷ []) ≡ []
unfolding changed_from
changed_none may n scn p is = ap (λ (t : Bool). elim (t && nat_lt scn (stamp_of p)) as (λ z. List Numbered) [ true ↦ (n, p) ∷ [] | false ↦ [] ]) is

module _ (copy : LevelCopying) (frozen : Image) (of : IsLevelOf copy frozen) where
  abbrev scn : ℕ
  scn = copy.file.head.previous_scn

  abbrev may : ℕ → Bool
  may = may_have_changed frozen scn

  -- a page more was dealt with
  pub below_next : (k : ℕ) → k < length frozen → taken_below (k + 1) copy frozen ≡ taken_below k copy frozen ++ changed_from may k scn (page_at frozen k ∷ [])
  below_next k low =
      ap (λ n. changed_from may 0 scn (take n frozen)) (let e : k + 1 ≡ suc k = omega arith in e) ∙ changed_more may 0 scn k frozen low
      ∙ ap (λ n. changed_from may 0 scn (take k frozen) ++ changed_from may n scn (page_at frozen k ∷ [])) (let e : 0 + k ≡ k = omega arith in e)

  -- before the first there is none
  pub below_none : taken_below 0 copy frozen ≡ []
  unfolding changed_from
  below_none = refl

  -- after the last there are all
  pub below_all : (k : ℕ) → length frozen ≤ k → taken_below k copy frozen ≡ changed scn frozen
  below_all k all = ap (changed_from may 0 scn) (take_all k frozen all)

  -- a level file may have them
  pub may_below : (k : ℕ) → k ≤ length frozen → MayHave copy.file.head (taken_below k copy frozen)
  may_below k low = record {
    formed = of.formed;
    rising = changed_rise may 0 scn (take k frozen) (omega (arith, length-take-le k frozen low, low, of.most));
    sizes = changed_sizes may copy.file.head.page_size 0 scn (take k frozen) (all-take (λ x. length x ≡ copy.file.head.page_size) k frozen (subst (λ n. IsOfSize n frozen) (sym of.size) of.sizes));
  }

-- with the page that is dealt with, where it may have changed
next_taken : (copy : LevelCopying) (frozen : Image) → IsLevelOf copy frozen → (k scn : ℕ) (page : Page) → k < length frozen → page ≡ page_at frozen k → scn ≡ copy.file.head.previous_scn
    → may_have_changed frozen copy.file.head.previous_scn k ≡ true → taken_below k copy frozen ++ taken_from k scn (page ∷ []) ≡ taken_below (k + 1) copy frozen
next_taken copy frozen of k scn page low is same may =
    ap (λ (p : Page). taken_below k copy frozen ++ taken_from k scn (p ∷ [])) is ∙ ap (λ n. taken_below k copy frozen ++ taken_from k n (page_at frozen k ∷ [])) same
    ∙ ap (λ (rs : List Numbered). taken_below k copy frozen ++ rs) (sym (changed_one (may_have_changed frozen copy.file.head.previous_scn) k copy.file.head.previous_scn (page_at frozen k) may))
    ∙ sym (below_next copy frozen of k low)

-- What a file has then, and that it may have it.
module _ (copy : LevelCopying) (frozen : Image) (of : IsLevelOf copy frozen) (head : LevelHead) (headed : head ≡ copy.file.head) (k number : ℕ) (same : number ≡ k) (page : Page) (low : k < length frozen) (is : page ≡ page_at frozen k)
    (changes : may_have_changed frozen copy.file.head.previous_scn k ≡ true) where
  pub taken_next : taken_below k copy frozen ++ taken_from number head.previous_scn (page ∷ []) ≡ taken_below (k + 1) copy frozen
  taken_next =
      ap (λ n. taken_below k copy frozen ++ taken_from n head.previous_scn (page ∷ [])) same
      ∙ next_taken copy frozen of k head.previous_scn page low is (ap (λ (h : LevelHead). h.previous_scn) headed) changes

  pub may_next : MayHave head (taken_below k copy frozen ++ taken_from number head.previous_scn (page ∷ []))
  may_next =
      subst (λ (h : LevelHead). MayHave h (taken_below k copy frozen ++ taken_from number head.previous_scn (page ∷ []))) (sym headed)
      (subst (MayHave copy.file.head) (sym taken_next) (may_below copy frozen of (k + 1) (omega (arith, low))))

-- and without it, where it may not
pub next_passed : (copy : LevelCopying) (frozen : Image) → IsLevelOf copy frozen → (k : ℕ) → k < length frozen → may_have_changed frozen copy.file.head.previous_scn k ≡ false
    → taken_below k copy frozen ≡ taken_below (k + 1) copy frozen
next_passed copy frozen of k low may =
    sym (append-nil (taken_below k copy frozen))
    ∙ ap (λ (rs : List Numbered). taken_below k copy frozen ++ rs) (sym (changed_none (may_have_changed frozen copy.file.head.previous_scn) k copy.file.head.previous_scn (page_at frozen k) may))
    ∙ sym (below_next copy frozen of k low)

-- one page more was dealt with
pub level_next : (w : World) (before after : LevelCopying) (frozen : Image) → IsLevelOf before frozen
    → after ≡ record { file = record before.file { written = after.file.written; run = after.file.run }; count = before.count; next = before.next + 1; scn_page = after.scn_page; page = after.page }
    → HasTaken w after.file (taken_below (before.next + 1) before frozen) → after.scn_page ≡ page_at frozen (scn_page_of frozen before.next) → IsLevelCopying w after frozen
level_next w before after frozen of same has entries =
    let next : after.next ≡ before.next + 1 = ap (λ (v : LevelCopying). v.next) same in
    record {
      of = subst (λ (v : LevelCopying). IsLevelOf v frozen) (sym same) (record { long = of.long; least = of.least; most = of.most; sizes = of.sizes; size = of.size; formed = of.formed });
      fresh = λ none. absurd (omega (arith, none, next));
      made = λ none. absurd (omega (arith, none, next));
      begun = λ some. record {
        has = subst (λ (v : LevelCopying). HasTaken w after.file (taken_below v.next v frozen)) (sym same) has;
        entries = λ two. entries ∙ ap (λ n. page_at frozen (scn_page_of frozen n)) (let e : before.next ≡ after.next - 1 = omega (arith, next) in e);
      };
    }

-- All pages were dealt with: the file has those that it is to have, and a close makes it whole.
module _ (w : World) (copy : LevelCopying) (frozen : Image) (copying : IsLevelCopying w copy frozen) (all : copy.next ≡ length frozen) (file : LevelWriting) (filed : file ≡ copy.file) where
  abbrev taken : List Numbered
  taken = changed copy.file.head.previous_scn frozen

  its_all : taken_below copy.next copy frozen ≡ taken
  its_all = below_all copy frozen copying.of copy.next (omega (arith, all))

  has_all : HasTaken w file taken
  has_all =
      let begun = copying.begun (let least = copying.of.least in omega (arith, all, least)) in
      subst (λ (f : LevelWriting). HasTaken w f taken) (sym filed) (subst (λ (rs : List Numbered). HasTaken w copy.file rs) its_all begun.has)

  may_all : MayHave file.head taken
  may_all = subst (λ (f : LevelWriting). MayHave f.head taken) (sym filed) (subst (MayHave copy.file.head) its_all (may_below copy frozen copying.of copy.next (omega (arith, all))))

  pub level_left : (new : World) → ((rs : List Numbered) → HasTaken w file rs → MayHave file.head rs → Changes w new (Only file.name) (Remade w file.name (IsUnfinishedOr (level_bytes 102 (head_of file.head) rs))))
      → Changes w new (Only copy.file.name) (Remade w copy.file.name (IsUnfinishedOr (whole_level copy frozen)))
  level_left new left =
      subst (λ (f : LevelWriting). Changes w new (Only f.name) (Remade w f.name (IsUnfinishedOr (level_bytes 102 (head_of f.head) taken)))) filed (left taken has_all may_all)

  pub level_kept : (new : World) → ((rs : List Numbered) → HasTaken w file rs → MayHave file.head rs → IsKept new file.name (level_bytes 102 (head_of file.head) rs)) → IsKept new copy.file.name (whole_level copy frozen)
  level_kept new done = subst (λ (f : LevelWriting). IsKept new f.name (level_bytes 102 (head_of f.head) taken)) filed (done taken has_all may_all)
