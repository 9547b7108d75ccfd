-- Databases in step, and when what is left of them is covered.
use Rattle.std.proofs.Common.{◌≡◌, ℕ, zero, suc, ◌/◌, ◌<◌, ◌≤◌, List, [], ◌∷◌, ◌++◌, length, refl, sym, ap, subst, ◌∙◌, arith, true, Some, Contains, IsTrue}
use Rattle.nb_model.proofs.Common.{AllByRecursion, Contains-append_right, is_page_size, is_scn_place, entries_in, stamp_of, state_of, size_of, scn_of, Image, page_at, first_page, image_size, image_scn, Base, scn_page_of, scn_entry, has_entry, entry_for, HasEntries, IsRaised, IsEarlier, IsCovered, AreInStep, AgreesWith, Trail, bases_of, HasPage, IsLeft, IsFirm, all_front}
use Rattle.nb_model.proofs.SoundLaws.{scn_page_there}
use Rattle.nb_model.proofs.MixtureLaws.{has_same, scn_page_same, entry_same}
use Rattle.nb_model.proofs.EntryLaws.{for_front, for_back, for_below}

pub earlier_itself : (a : Image) → IsEarlier a a
earlier_itself a = record { long = omega arith; size = refl; scn = omega arith; entries = λ p low has. omega arith }

pub earlier_joins : (a b c : Image) → IsEarlier a b → IsEarlier b c → IsEarlier a c
earlier_joins a b c ab bc = record {
  long = omega (arith, ab.long, bc.long);
  size = ab.size ∙ bc.size;
  scn = omega (arith, ab.scn, bc.scn);
  entries = λ p low has. omega (arith, ab.entries p low has, bc.entries p (omega (arith, low, ab.long)) (sym (has_same a b ab.size p) ∙ has));
}

-- What holds of all holds of the last one.
all_last : (P : Base → Type 0) (xs : List Base) (now : Base) → AllByRecursion P (xs ++ now ∷ []) → P now
all_last P [] now all = all.0
all_last P (x ∷ xs) now all = all_last P xs now all.1

-- databases in step are so in each part of them
pub steps_front : (xs ys : List Base) → AreInStep (xs ++ ys) → AreInStep xs
steps_front [] ys steps = tt
steps_front (x ∷ xs) ys steps = (steps.0, all_front {A = Base} (λ t. IsEarlier x.image t.image) xs ys steps.1, steps_front xs ys steps.2)

pub steps_back : (xs ys : List Base) → AreInStep (xs ++ ys) → AreInStep ys
steps_back [] ys steps = steps
steps_back (x ∷ xs) ys steps = steps_back xs ys steps.2

-- each is covered,
pub steps_covered : (xs : List Base) (m : Base) → AreInStep xs → Contains xs m → IsCovered m
steps_covered [] m steps (k, low, is) = absurd (omega (arith, low))
steps_covered (x ∷ xs) m steps (zero, low, is) = subst IsCovered is steps.0
steps_covered (x ∷ xs) m steps (suc k, low, is) = steps_covered xs m steps.2 (k, omega (arith, low), is)

-- and was before the last one
pub steps_before : (xs : List Base) (now m : Base) → AreInStep (xs ++ now ∷ []) → Contains (xs ++ now ∷ []) m → IsEarlier m.image now.image
steps_before [] now m steps (zero, low, is) = subst (λ (b : Base). IsEarlier b.image now.image) is (earlier_itself now.image)
steps_before [] now m steps (suc k, low, is) = absurd (omega (arith, low))
steps_before (x ∷ xs) now m steps (zero, low, is) = subst (λ (b : Base). IsEarlier b.image now.image) is (all_last (λ t. IsEarlier x.image t.image) xs now steps.1)
steps_before (x ∷ xs) now m steps (suc k, low, is) = steps_before xs now m steps.2 (k, omega (arith, low), is)

-- One more goes on from the last one.
pub steps_more : (xs : List Base) (now next : Base) → AreInStep (xs ++ now ∷ []) → IsEarlier now.image next.image → IsCovered next → AreInStep ((xs ++ now ∷ []) ++ next ∷ [])
steps_more [] now next steps earlier covered = (steps.0, (earlier, tt), (covered, tt, tt))
steps_more (x ∷ xs) now next steps earlier covered = (steps.0, all_more xs steps.1, steps_more xs now next steps.2 earlier covered)
  where
    all_more : (ys : List Base) → AllByRecursion (λ b. IsEarlier x.image b.image) (ys ++ now ∷ []) → AllByRecursion (λ b. IsEarlier x.image b.image) ((ys ++ now ∷ []) ++ next ∷ [])
    all_more [] all = (all.0, (earlier_joins x.image now.image next.image all.0 earlier, tt))
    all_more (y ∷ ys) all = (all.0, all_more ys all.1)

-- the last of them is there
pub now_there : (t : Trail) → Contains (bases_of t) t.base
now_there t = Contains-append_right t.earlier (t.base ∷ []) t.base (0, omega arith, refl)

-- A page of one of the databases, whose entry is no lower where it is left.
pub record IsFrom (bases : List Base) (b : Base) (p : ℕ) : Type 0 where
  pub has : HasPage bases p (page_at b.image p)
  pub entry : scn_entry has.base.image p ≤ scn_entry b.image p

-- Whatever has its pages from databases in step, and entries no lower than theirs, is covered.
module _ (t : Trail) (b : Base) (steps : AreInStep (bases_of t)) (long : length b.image ≡ length t.base.image) (first : first_page b.image ≡ first_page t.base.image) where
  now_covered : IsCovered t.base
  now_covered = steps_covered (bases_of t) t.base steps (now_there t)

  before : (m : Base) → Contains (bases_of t) m → IsEarlier m.image t.base.image
  before m there = steps_before t.earlier t.base m steps there

  size : image_size b.image ≡ image_size t.base.image
  size = ap size_of first

  scn : image_scn b.image ≡ image_scn t.base.image
  scn = ap scn_of first

  module _ (from : (p : ℕ) → p < length b.image → has_entry b.image p ≡ true → IsFrom (bases_of t) b p)
      (scn_pages : (p : ℕ) → p < length b.image → is_scn_place (image_size t.base.image) p ≡ true → HasPage (bases_of t) p (page_at b.image p)) where
    there : (p : ℕ) → p < length b.image → has_entry b.image p ≡ true → scn_page_of b.image p < length b.image
    there p low has =
        omega (arith, scn_page_same b.image t.base.image size p, long, now_covered.entries.there p (omega (arith, low, long)) (sym (has_same b.image t.base.image size p) ∙ has))

    lower : (p : ℕ) → p < length b.image → has_entry b.image p ≡ true → stamp_of (page_at b.image p) ≤ scn_entry b.image p
    lower p low has =
        let one : IsFrom (bases_of t) b p = from p low has in
        let m : Base = one.has.base in
        let size_m : image_size m.image ≡ image_size b.image = (before m one.has.there).size ∙ sym size in
        omega (arith, ap stamp_of one.has.same, (steps_covered (bases_of t) m steps one.has.there).entries.no_lower p one.has.below (has_same m.image b.image size_m p ∙ has), one.entry)

    later : (p : ℕ) → scn_page_of b.image p < length b.image → has_entry b.image p ≡ true → scn_entry b.image p ≤ image_scn b.image
    later p low has =
        let q : ℕ = scn_page_of b.image p in
        let place : scn_page_of b.image p ≡ scn_page_of t.base.image p = scn_page_same b.image t.base.image size p in
        let at : is_scn_place (image_size t.base.image) (scn_page_of b.image p) ≡ true = ap (is_scn_place (image_size t.base.image)) place ∙ scn_page_there (image_size t.base.image) (p / entries_in (image_size t.base.image)) now_covered.size in
        let one : HasPage (bases_of t) (scn_page_of b.image p) (page_at b.image (scn_page_of b.image p)) = scn_pages (scn_page_of b.image p) low at in
        let m : Base = one.base in
        let size_m : image_size m.image ≡ image_size b.image = (before m one.there).size ∙ sym size in
        let entry : scn_entry m.image p ≡ scn_entry b.image p = entry_same m.image b.image size_m p (sym one.same) in
        let below : scn_page_of m.image p < length m.image = omega (arith, scn_page_same m.image b.image size_m p, one.below) in
        omega (arith, entry, (steps_covered (bases_of t) m steps one.there).entries.no_later p below (has_same m.image b.image size_m p ∙ has), (before m one.there).scn, scn)

    pub covered_entries : HasEntries b.image
    covered_entries = record { there = there; no_lower = lower; no_later = later }

-- What is raised stays so for the first entries: the SCN page of a page that one of them names stands before it,
module _ (now b : Base) (rest : List ℕ) (size : image_size b.image ≡ image_size now.image) (split : now.diverted ≡ b.diverted ++ rest) (raised : IsRaised now.image now.diverted) where
  pub behind_front : (p k : ℕ) → entry_for p b.diverted ≡ Some k → has_entry b.image p ≡ true → (j : ℕ) × (entry_for (scn_page_of b.image p) b.diverted ≡ Some j) × (j < k)
  behind_front p k e has =
      let whole : entry_for p now.diverted ≡ Some k = ap (entry_for p) split ∙ for_front p k b.diverted rest e in
      let old = raised.behind p k whole (sym (has_same b.image now.image size p) ∙ has) in
      let there : entry_for (scn_page_of now.image p) (b.diverted ++ rest) ≡ Some old.0 = sym (ap (entry_for (scn_page_of now.image p)) split) ∙ old.1 in
      let kept : entry_for (scn_page_of now.image p) b.diverted ≡ Some old.0 = for_back (scn_page_of now.image p) old.0 b.diverted rest there (omega (arith, old.2, for_below p k b.diverted e)) in
      (old.0, ap (λ (n : ℕ). entry_for n b.diverted) (scn_page_same b.image now.image size p) ∙ kept, old.2)

  -- and the entry is to be current.
  pub raised_front : ((p k : ℕ) → entry_for p b.diverted ≡ Some k → has_entry b.image p ≡ true → scn_entry b.image p ≡ image_scn b.image) → IsRaised b.image b.diverted
  raised_front current = record { behind = behind_front; current = current }

-- What is left where no SCN page waits.
module _ (t : Trail) (b : Base) (left : IsFirm t b) where
  firm_size : image_size b.image ≡ image_size t.base.image
  firm_size = ap size_of left.mixed.first

  -- each entry is that which is seen
  pub firm_entry : IsTrue (is_page_size (image_size t.base.image)) → (p : ℕ) → scn_entry b.image p ≡ scn_entry t.base.image p
  firm_entry wide p = entry_same b.image t.base.image firm_size p (left.kept (scn_page_of t.base.image p) (scn_page_there (image_size t.base.image) (p / entries_in (image_size t.base.image)) wide))

  pub firm_covered : AreInStep (bases_of t) → IsCovered b
  firm_covered steps =
      let now : IsCovered t.base = steps_covered (bases_of t) t.base steps (now_there t) in
      record {
        size = subst (λ (n : ℕ). IsTrue (is_page_size n)) (sym firm_size) now.size;
        entries = covered_entries t b steps left.mixed.long left.mixed.first
            (λ p low has.
            let one : HasPage (bases_of t) p (page_at b.image p) = left.mixed.each p low in
            let old : IsEarlier one.base.image t.base.image = steps_before t.earlier t.base one.base steps one.there in
            record {
              has = one;
              entry = omega (arith, old.entries p one.below (has_same one.base.image b.image (old.size ∙ sym firm_size) p ∙ has), firm_entry now.size p);
            })
            (λ p low at. left.mixed.each p low);
        raised = λ stalled.
            let raised : IsRaised t.base.image t.base.diverted = now.raised (sym (ap state_of left.mixed.first) ∙ stalled) in
            raised_front t.base b left.rest.diverted.0 firm_size left.rest.diverted.1 raised
            (λ p k e has.
            firm_entry now.size p ∙ raised.current p k (ap (entry_for p) left.rest.diverted.1 ∙ for_front p k b.diverted left.rest.diverted.0 e) (sym (has_same b.image t.base.image firm_size p) ∙ has)
            ∙ sym (ap scn_of left.mixed.first));
      }

  pub firm_agrees : AgreesWith b.image t.base.image
  firm_agrees = record { long = left.mixed.long; scn = ap scn_of left.mixed.first; scn_pages = λ p low at. left.kept p (ap (λ (n : ℕ). is_scn_place n p) (sym firm_size) ∙ at) }

  pub firm_left : IsLeft t b
  firm_left = record { mixed = left.mixed; covered = firm_covered; rest = left.rest }
