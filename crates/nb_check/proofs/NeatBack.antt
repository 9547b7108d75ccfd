-- A neat image from which leaked pages were given back is neat, with the rows of every table.
use Rattle.std.proofs.Common.{◌≡◌, inl, inr, ℕ, ◌<◌, List, [], ◌∷◌, ◌++◌, take, refl, sym, ap, subst, append_assoc, ◌∙◌, Bool, true, false, ◌||◌, not, nat_eq, Ok, length}
use Rattle.nb_check.proofs.Common.{AllByRecursion, true≢false, cases_Bool, and_parts, list_any-append, Base, Chain, Catalogue, Spot, spots, pages_of, found_pages, is_free_page, Image, used, table_chains, chains, names_of, keys_of, AreDistinct, IsNeat, HasHeader, IsSoundImage, base_after, eq_yes, is_among, leaked, reached, reclaimed, all_go, all_both, or_right, or_parts}
use Rattle.nb_model.specs.RowChanges.{KeepsRows}
use Rattle.nb_model.proofs.HeldChains.{IsHeldIn, chains_held, chain_each}
use Rattle.nb_check.proofs.AmongLaws.{leaked_each}
use Rattle.nb_check.proofs.BackLaws.{IsBack, on_way}
use Rattle.nb_check.proofs.SameLaws.{pages_same, spots_same, chains_same, reached_same, rows_same}

-- each of a list is among them
among_behind : (q : ℕ) (xs ys : List ℕ) → is_among q ys ≡ true → is_among q (xs ++ ys) ≡ true
among_behind q [] ys holds = holds
among_behind q (x ∷ xs) ys holds = or_right (nat_eq q x) (is_among q (xs ++ ys)) (among_behind q xs ys holds)

all_among : (xs ys : List ℕ) → AllByRecursion (λ (q : ℕ). is_among q (xs ++ ys) ≡ true) ys
all_among xs [] = tt
all_among xs (y ∷ ys) = (
  among_behind y xs (y ∷ ys) (ap (λ (t : Bool). t || is_among y ys) (eq_yes y y refl)),
  subst (λ (zs : List ℕ). AllByRecursion (λ (q : ℕ). is_among q zs ≡ true) ys) (append_assoc xs (y ∷ []) ys) (all_among (xs ++ y ∷ []) ys),
)

-- a page that is reached isn't leaked
reached_off : (x : Image) (p : ℕ) → p < length x → is_among p (reached x) ≡ true → is_among p (leaked x) ≡ false
reached_off x p low at = elim (cases_Bool (is_among p (leaked x))) [
  | inl holds ↦ absurd (no_both (is_among p (reached x)) at (and_parts _ _ (sym (leaked_each x p low) ∙ holds)).1)
  | inr fails ↦ fails
]
  where
    no_both : (t : Bool) → t ≡ true → not t ≡ true → ⊥
    no_both true holds fails = true≢false (sym fails)
    no_both false holds fails = true≢false (sym holds)

module _ (x : Image) (header : HasHeader x) (sound : IsSoundImage x) (neat : IsNeat x) (ps qs : List ℕ) (are : leaked x ≡ ps ++ qs) (y : Image) (back : IsBack x ps y) where
  same_chains : chains y ≡ chains x
  same_chains = chains_same x y back.alike sound.sound back.whole.sound.sound

  same_reached : reached y ≡ reached x
  same_reached = reached_same x y back.alike sound.sound back.whole.sound.sound

  same_spots : (c : Chain) → spots c y ≡ spots c x
  same_spots c = spots_same x y back.alike sound.sound back.whole.sound.sound c

  -- a page that is reached is taken still
  still_taken : (p : ℕ) → p < length x → is_free_page x p ≡ false → is_among p (reached x) ≡ true → is_free_page y p ≡ false
  still_taken p low taken at =
      back.bits p low ∙ ap (λ (t : Bool). t || is_among p ps) taken ∙ (or_parts (is_among p ps) (is_among p qs) (sym (list_any-append (nat_eq p) ps qs) ∙ ap (is_among p) (sym are) ∙ reached_off x p low at)).0

  abbrev Stays : ℕ → Type 0
  Stays p = (p < length x) × (is_free_page x p ≡ false)

  all_held : AllByRecursion Stays (reached x)
  all_held = chain_each x Stays (chains x) (all_go (λ c. AllByRecursion (IsHeldIn c x) (found_pages c x)) (λ c. AllByRecursion Stays (found_pages c x)) (chains x)
      (λ c each. all_go (IsHeldIn c x) Stays (found_pages c x) (λ p at. (at.held.below, at.held.taken)) each) (chains_held x header sound neat))

  all_taken : AllByRecursion (λ (p : ℕ). is_free_page y p ≡ false) (reached x)
  all_taken = all_go (λ p. Stays p × (is_among p (reached x) ≡ true)) (λ p. is_free_page y p ≡ false) (reached x) (λ p at. still_taken p at.0.0 at.0.1 at.1)
      (all_both Stays (λ p. is_among p (reached x) ≡ true) (reached x) all_held (all_among [] (reached x)))

  pub back_neat : IsNeat y
  back_neat = record {
    formed = subst (AllByRecursion (λ c. (rs : List ℕ) × (pages_of c y ≡ Ok rs))) (sym same_chains)
        (all_go (λ c. (rs : List ℕ) × (pages_of c x ≡ Ok rs)) (λ c. (rs : List ℕ) × (pages_of c y ≡ Ok rs)) (chains x) (λ c at. (at.0, pages_same x y back.alike sound.sound back.whole.sound.sound c ∙ at.1)) neat.formed);
    apart = subst AreDistinct (sym same_reached) neat.apart;
    taken = subst (AllByRecursion (λ (p : ℕ). is_free_page y p ≡ false)) (sym same_reached) all_taken;
    names = subst (λ (ss : List Spot). AreDistinct (names_of (used ss))) (sym (same_spots Catalogue)) neat.names;
    keys = subst (λ (ss : List Spot). AllByRecursion (λ c. AreDistinct (keys_of (used (spots c y)))) (table_chains (used ss))) (sym (same_spots Catalogue))
        (all_go (λ c. AreDistinct (keys_of (used (spots c x)))) (λ c. AreDistinct (keys_of (used (spots c y)))) (table_chains (used (spots Catalogue x)))
        (λ c at. subst (λ (ss : List Spot). AreDistinct (keys_of (used ss))) (sym (same_spots c)) at) neat.keys);
  }

pub reclaim_rows : (b : Base) → HasHeader b.image → IsSoundImage b.image → IsNeat b.image → KeepsRows b (reclaimed b.image).strokes
reclaim_rows b header sound neat = record {
  neat = λ k. let w = on_way b header sound k in back_neat b.image header sound neat w.front w.rest w.are (base_after b (take k (reclaimed b.image).strokes)).image w.back;
  rows = λ k table. let w = on_way b header sound k in rows_same b.image (base_after b (take k (reclaimed b.image).strokes)).image w.back.alike sound.sound w.back.whole.sound.sound table;
}
