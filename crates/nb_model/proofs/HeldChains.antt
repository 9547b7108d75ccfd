-- In a neat image each page of a chain is taken, so what keeps such pages keeps the chains.
use Rattle.std.proofs.Common.{◌≡◌, ◌≢◌, ◌⊎◌, inl, inr, ⊎_elim, ℕ, suc, ◌<◌, ◌≤◌, List, [], ◌∷◌, length, refl, sym, ap, subst, ◌∙◌, arith, true, false, ◌==◌, Result, Ok, None, Contains}
use Rattle.nb_model.proofs.Common.{AllByRecursion, eqb_tells, broken_at, Chain, History, next_in, is_in_chain, pages_of, found_pages, spots, is_free_page, Page, Image, page_at, image_size, chains, pages_of_all, IsNeat, HasHeader, IsSoundImage, all_parts, all_append, all_go, all_both}
use Rattle.nb_model.proofs.ChainWalks.{HasForm, there_by, StaysLinked, linked_same, pages_stay, found_is, spots_same, spots_are}
use Rattle.nb_model.proofs.HeldLaws.{IsHeld}
use Rattle.nb_model.proofs.NeatLaws.{once_chain, ChangesChain}
use Rattle.nb_model.proofs.PutSound.{IsPlain}
use Rattle.nb_model.proofs.RoomLaws.{in_chain, chain_plain, pages_found}
use Rattle.nb_model.proofs.OnwardTests.{plain_from}

-- Each page that is held in the one is held in the other; each but one.
abbrev pub KeepsEach : Image → Image → Type 0
KeepsEach x y = (q : ℕ) (bytes : Page) → IsHeld q bytes x → IsHeld q bytes y

abbrev pub KeepsBut : ℕ → Image → Image → Type 0
KeepsBut p x y = (q : ℕ) (bytes : Page) → q ≢ p → IsHeld q bytes x → IsHeld q bytes y

-- one of these is p, or none is
pub among_or_not : (p : ℕ) (ps : List ℕ) → Contains ps p ⊎ AllByRecursion (λ (q : ℕ). q ≢ p) ps
among_or_not p [] = inr tt
among_or_not p (q ∷ ps) = by (eqb_tells q p) (among_or_not p ps)
  where
    by : ((q == p) ≡ true) × (q ≡ p) ⊎ ((q == p) ≡ false) × (q ≢ p) → Contains ps p ⊎ AllByRecursion (λ (q : ℕ). q ≢ p) ps → Contains (q ∷ ps) p ⊎ AllByRecursion (λ (q : ℕ). q ≢ p) (q ∷ ps)
    by (inl w) rest = inl (0, omega arith, w.1)
    by (inr w) (inl (k, low, is)) = inl (suc k, omega (arith, low), is)
    by (inr w) (inr all) = inr (w.1, all)

-- what holds of the pages of chains holds of those of each
pub each_chain : (image : Image) (P : ℕ → Type 0) (cs : List Chain) → AllByRecursion P (pages_of_all image cs) → AllByRecursion (λ c. AllByRecursion P (found_pages c image)) cs
unfolding pages_of_all
each_chain image P [] all = tt
each_chain image P (c ∷ cs) all = let both = all_parts P (found_pages c image) (pages_of_all image cs) all in (both.0, each_chain image P cs both.1)

pub chain_each : (image : Image) (P : ℕ → Type 0) (cs : List Chain) → AllByRecursion (λ c. AllByRecursion P (found_pages c image)) cs → AllByRecursion P (pages_of_all image cs)
unfolding pages_of_all
chain_each image P [] all = tt
chain_each image P (c ∷ cs) all = all_append P (found_pages c image) (pages_of_all image cs) all.0 (chain_each image P cs all.1)

pub ok_none : (r : Result (List ℕ) ℕ) (ps : List ℕ) → r ≡ Ok ps → broken_at r ≡ None
ok_none r ps is = ap broken_at is

-- A page of a chain that is held.
pub record IsHeldIn (c : Chain) (x : Image) (q : ℕ) : Type 0 where
  pub in_it : is_in_chain c x q ≡ true
  pub held : IsHeld q (page_at x q) x

module _ (x : Image) (h : HasHeader x) (is : IsSoundImage x) where
  held_in : (c : Chain) (q : ℕ) → is_in_chain c x q ≡ true → is_free_page x q ≡ false → IsHeldIn c x q
  held_in c q in_it taken =
      let plain : IsPlain x q = chain_plain c x q h is in_it in
      record { in_it = in_it; held = record { is = refl; behind = plain.place.behind; below = (in_chain c x q in_it).0; plain = plain_from (image_size x) q plain.no_inventory plain.no_scn_page; taken = taken } }

  all_held : (c : Chain) (ps : List ℕ) → AllByRecursion (λ (q : ℕ). is_in_chain c x q ≡ true) ps → AllByRecursion (λ (q : ℕ). is_free_page x q ≡ false) ps → AllByRecursion (IsHeldIn c x) ps
  all_held c [] a b = tt
  all_held c (q ∷ ps) a b = (held_in c q a.0 b.0, all_held c ps a.1 b.1)

  module _ (neat : IsNeat x) where
    -- each page of each chain is held
    pub chains_held : AllByRecursion (λ c. AllByRecursion (IsHeldIn c x) (found_pages c x)) (chains x)
    chains_held = all_go (λ c. ((ps : List ℕ) × (pages_of c x ≡ Ok ps)) × AllByRecursion (λ (q : ℕ). is_free_page x q ≡ false) (found_pages c x)) (λ c. AllByRecursion (IsHeldIn c x) (found_pages c x)) (chains x)
        (λ c facts. all_held c (found_pages c x) (pages_found c x (ok_none (pages_of c x) facts.0.0 facts.0.1)).each facts.1)
        (all_both (λ c. (ps : List ℕ) × (pages_of c x ≡ Ok ps)) (λ c. AllByRecursion (λ (q : ℕ). is_free_page x q ≡ false) (found_pages c x)) (chains x) neat.formed
        (each_chain x (λ p. is_free_page x p ≡ false) (chains x) neat.taken))

    -- A chain with its pages.
    pub record IsFormed (c : Chain) : Type 0 where
      pub pages : List ℕ
      pub are : pages_of c x ≡ Ok pages
      pub each : AllByRecursion (IsHeldIn c x) (found_pages c x)

    pub all_formed : AllByRecursion IsFormed (chains x)
    all_formed = all_go (λ c. ((ps : List ℕ) × (pages_of c x ≡ Ok ps)) × AllByRecursion (IsHeldIn c x) (found_pages c x)) IsFormed (chains x) (λ c facts. record { pages = facts.0.0; are = facts.0.1; each = facts.1 })
        (all_both (λ c. (ps : List ℕ) × (pages_of c x ≡ Ok ps)) (λ c. AllByRecursion (IsHeldIn c x) (found_pages c x)) (chains x) neat.formed chains_held)

    -- pages that are the same
    pub same_spots : (y : Image) → length x ≤ length y → (c : Chain) → IsFormed c → AllByRecursion (λ (q : ℕ). page_at y q ≡ page_at x q) (found_pages c x) → AllByRecursion (StaysLinked c x y) (found_pages c x) → spots c y ≡ spots c x
    same_spots y longer c formed same linked =
        let ps : List ℕ = formed.pages in
        let found : found_pages c x ≡ ps = found_is c x ps formed.are in
        spots_are c y ps (pages_stay c x y ps formed.are longer (subst (AllByRecursion (StaysLinked c x y)) found linked)) ∙ spots_same x y ps (subst (AllByRecursion (λ (q : ℕ). page_at y q ≡ page_at x q)) found same) ∙ sym (spots_are c x ps formed.are)

    -- Where those of the chains are kept no chain changes.
    pub these_stay : (y : Image) → length x ≤ length y → (P : ℕ → Type 0) → AllByRecursion P (pages_of_all x (chains x)) → ((q : ℕ) (bytes : Page) → P q → IsHeld q bytes x → IsHeld q bytes y) → ChangesChain History x y
    these_stay y longer P all keeps = record {
      longer = longer;
      linked = all_go Formed (λ c. AllByRecursion (StaysLinked c x y) (found_pages c x)) (chains x) linked all_with;
      others = all_go Formed (λ c. (c ≡ History) ⊎ (spots c y ≡ spots c x)) (chains x)
          (λ c facts. inr (same_spots y longer c facts.0 (all_go (λ q. IsHeldIn c x q × P q) (λ q. page_at y q ≡ page_at x q) (found_pages c x) (λ q at. (keeps q (page_at x q) at.1 at.0.held).is) (each c facts)) (linked c facts))) all_with;
      taken = chain_each x (λ p. is_free_page y p ≡ false) (chains x)
          (all_go Formed (λ c. AllByRecursion (λ p. is_free_page y p ≡ false) (found_pages c x)) (chains x)
          (λ c facts. all_go (λ q. IsHeldIn c x q × P q) (λ q. is_free_page y q ≡ false) (found_pages c x) (λ q at. (keeps q (page_at x q) at.1 at.0.held).taken) (each c facts)) all_with);
    }
      where
        Formed : Chain → Type 0
        Formed c = IsFormed c × AllByRecursion P (found_pages c x)

        all_with : AllByRecursion Formed (chains x)
        all_with = all_both IsFormed (λ c. AllByRecursion P (found_pages c x)) (chains x) all_formed (each_chain x P (chains x) all)

        each : (c : Chain) → Formed c → AllByRecursion (λ q. IsHeldIn c x q × P q) (found_pages c x)
        each c facts = all_both (IsHeldIn c x) P (found_pages c x) facts.0.each facts.1

        linked : (c : Chain) → Formed c → AllByRecursion (StaysLinked c x y) (found_pages c x)
        linked c facts = all_go (λ q. IsHeldIn c x q × P q) (StaysLinked c x y) (found_pages c x) (λ q at. linked_same c x y q longer at.0.in_it (keeps q (page_at x q) at.1 at.0.held).is) (each c facts)

    -- So where all are kept.
    pub nothing_changes : (y : Image) → length x ≤ length y → KeepsEach x y → ChangesChain History x y
    nothing_changes y longer keeps = these_stay y longer (λ q. Unit {0}) (every (pages_of_all x (chains x))) (λ q bytes any held. keeps q bytes held)
      where
        every : (qs : List ℕ) → AllByRecursion (λ (q : ℕ). Unit {0}) qs
        every [] = tt
        every (q ∷ qs) = (tt, every qs)

    -- Where all but one are kept, its chain changes alone.
    module _ (y : Image) (longer : length x ≤ length y) (changed : Chain) (p : ℕ) (of_all : Contains (chains x) changed) (its : Contains (found_pages changed x) p) (keeps : KeepsBut p x y)
        (form : HasForm changed (page_at y p)) (next : next_in (page_at y p) ≡ next_in (page_at x p)) (held : IsHeld p (page_at y p) y) where
      -- with who has the page
      abbrev HasOnce : Chain → Type 0
      HasOnce c = IsFormed c × (Contains (found_pages c x) p → c ≡ changed)

      all_once : AllByRecursion HasOnce (chains x)
      all_once = all_both IsFormed (λ c. Contains (found_pages c x) p → c ≡ changed) (chains x) all_formed (once_chain x (chains x) changed p neat.apart of_all its)

      one_linked : (c : Chain) → (Contains (found_pages c x) p → c ≡ changed) → (q : ℕ) → Contains (found_pages c x) q → IsHeldIn c x q → StaysLinked c x y q
      one_linked c once q there at = elim (eqb_tells q p) [
        | inl w ↦
            let same : c ≡ changed = once (subst (Contains (found_pages c x)) w.1 there) in
            record {
              in_it = there_by c y q (subst (λ (n : ℕ). n < length y) (sym w.1) held.below) (subst (λ (n : ℕ). HasForm c (page_at y n)) (sym w.1) (subst (λ (d : Chain). HasForm d (page_at y p)) (sym same) form));
              next = ap (λ (n : ℕ). next_in (page_at y n)) w.1 ∙ next ∙ ap (λ (n : ℕ). next_in (page_at x n)) (sym w.1);
            }
        | inr w ↦ linked_same c x y q longer at.in_it (keeps q (page_at x q) w.1 at.held).is
      ]

      these_linked : (c : Chain) → (Contains (found_pages c x) p → c ≡ changed) → (ps : List ℕ) → ((q : ℕ) → Contains ps q → Contains (found_pages c x) q) → AllByRecursion (IsHeldIn c x) ps → AllByRecursion (StaysLinked c x y) ps
      these_linked c once [] among all = tt
      these_linked c once (q ∷ ps) among all = (one_linked c once q (among q (0, omega arith, refl)) all.0, these_linked c once ps (λ r at. among r (later r at)) all.1)
        where
          later : (r : ℕ) → Contains ps r → Contains (q ∷ ps) r
          later r (k, low, is) = (suc k, omega (arith, low), is)

      all_linked : (c : Chain) → HasOnce c → AllByRecursion (StaysLinked c x y) (found_pages c x)
      all_linked c facts = these_linked c facts.1 (found_pages c x) (λ q at. at) facts.0.each

      one_taken : (q : ℕ) → IsHeld q (page_at x q) x → is_free_page y q ≡ false
      one_taken q at = elim (eqb_tells q p) [
        | inl w ↦ ap (is_free_page y) w.1 ∙ held.taken
        | inr w ↦ (keeps q (page_at x q) w.1 at).taken
      ]

      pub one_changes : ChangesChain changed x y
      one_changes = record {
        longer = longer;
        linked = all_go HasOnce (λ c. AllByRecursion (StaysLinked c x y) (found_pages c x)) (chains x) all_linked all_once;
        others = all_go HasOnce (λ c. (c ≡ changed) ⊎ (spots c y ≡ spots c x)) (chains x) other all_once;
        taken = chain_each x (λ q. is_free_page y q ≡ false) (chains x)
            (all_go IsFormed (λ c. AllByRecursion (λ q. is_free_page y q ≡ false) (found_pages c x)) (chains x)
            (λ c formed. all_go (IsHeldIn c x) (λ q. is_free_page y q ≡ false) (found_pages c x) (λ q at. one_taken q at.held) formed.each) all_formed);
      }
        where
          same : (c : Chain) (ps : List ℕ) → AllByRecursion (λ (q : ℕ). q ≢ p) ps → AllByRecursion (IsHeldIn c x) ps → AllByRecursion (λ (q : ℕ). page_at y q ≡ page_at x q) ps
          same c [] off all = tt
          same c (q ∷ ps) off all = ((keeps q (page_at x q) off.0 all.0.held).is, same c ps off.1 all.1)

          other : (c : Chain) → HasOnce c → (c ≡ changed) ⊎ (spots c y ≡ spots c x)
          other c facts = ⊎_elim (λ here. inl (facts.1 here)) (λ off. inr (same_spots y longer c facts.0 (same c (found_pages c x) off facts.0.each) (all_linked c facts))) (among_or_not p (found_pages c x))
