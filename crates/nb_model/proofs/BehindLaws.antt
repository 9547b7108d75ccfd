-- What files that are behind may leave is what may be left of what was seen, also on the way on which the pages that wait go out.
use Rattle.std.proofs.Common.{◌≡◌, ◌≢◌, ◌⊎◌, inl, inr, ⊎_elim, ℕ, ◌+◌, ◌/◌, ◌<◌, ◌≤◌, List, [], ◌∷◌, ◌++◌, length, refl, sym, ap, subst, ◌∙◌, arith, append_assoc, length-append, Bool, true, false, Option, Some, None, Contains, IsTrue}
use Rattle.nb_model.proofs.Common.{true≢false, append-nil, Contains-append_left, Contains-append_right, is_page_size, is_scn_place, entries_in, state_of, size_of, scn_of, stalled_state, Page, Image, page_at, first_page, image_size, image_state, image_scn, Base, scn_page_of, scn_entry, has_entry, entry_for, IsRaised, IsEarlier, IsCovered, AreInStep, Trail, bases_of, HasPage, IsMixture, IsRest, IsLeft, IsFirm, IsBehind, IsRewritten, IsOnTheWay, IsEntering, head_same, nil_from_length}
use Rattle.nb_model.proofs.SoundLaws.{scn_page_there, scn_no_entry}
use Rattle.nb_model.proofs.MixtureLaws.{has_same, scn_page_same, entry_same}
use Rattle.nb_model.proofs.EntryLaws.{for_front}
use Rattle.nb_model.proofs.CoveredLaws.{steps_front, steps_back, steps_covered, steps_before, now_there, IsFrom, covered_entries, behind_front, raised_front, firm_covered}

module _ (f t : Trail) (is : IsBehind f t) where
  there_part : (m : Base) → Contains (bases_of f) m → Contains (bases_of t) m
  there_part m there = subst (λ (bs : List Base). Contains bs m) (sym is.part) (Contains-append_right is.before (bases_of f ++ is.behind) m (Contains-append_left (bases_of f) is.behind m there))

  from_part : (p : ℕ) (page : Page) → HasPage (bases_of f) p page → HasPage (bases_of t) p page
  from_part p page has = record { base = has.base; there = there_part has.base has.there; below = has.below; same = has.same }

  pub f_there : Contains (bases_of t) f.base
  f_there = there_part f.base (now_there f)

  -- databases in step are so as far as the files have seen them
  pub part_steps : AreInStep (bases_of t) → AreInStep (bases_of f)
  part_steps steps = steps_front (bases_of f) is.behind (steps_back is.before (bases_of f ++ is.behind) (subst AreInStep is.part steps))

  -- where nothing was written since the settled point, the files aren't behind
  pub behind_whole : t.earlier ≡ [] → (f.earlier ≡ []) × (f.base ≡ t.base)
  behind_whole none =
      let one : t.base ∷ [] ≡ is.before ++ (bases_of f ++ is.behind) = ap (λ (bs : List Base). bs ++ t.base ∷ []) (sym none) ∙ is.part in
      let long : 1 ≡ length (is.before ++ (bases_of f ++ is.behind)) = ap length one in
      let here : length (is.before ++ (bases_of f ++ is.behind)) ≡ length is.before + length (bases_of f ++ is.behind) = length-append is.before (bases_of f ++ is.behind) in
      let there : length (bases_of f ++ is.behind) ≡ length (bases_of f) + length is.behind = length-append (bases_of f) is.behind in
      let its : length (bases_of f) ≡ length f.earlier + 1 = length-append f.earlier (f.base ∷ []) in
      let no_earlier : f.earlier ≡ [] = nil_from_length f.earlier (omega arith) in
      let no_before : is.before ≡ [] = nil_from_length is.before (omega arith) in
      let no_behind : is.behind ≡ [] = nil_from_length is.behind (omega arith) in
      let all : t.base ∷ [] ≡ f.base ∷ [] =
      one ∙ ap (λ (bs : List Base). bs ++ (bases_of f ++ is.behind)) no_before ∙ ap (λ (bs : List Base). bases_of f ++ bs) no_behind ∙ append-nil (bases_of f) ∙ ap (λ (bs : List Base). bs ++ f.base ∷ []) no_earlier in
      (no_earlier, sym (head_same t.base f.base [] [] all))

  -- of the rest no more is missing
  rest_behind : (b : Base) → IsRest f b → IsRest t b
  rest_behind b rest = record {
    frozen = rest.frozen ∙ is.frozen;
    diverted = (
      rest.diverted.0 ++ is.diverted.0,
      is.diverted.1 ∙ ap (λ (x : List ℕ). x ++ is.diverted.0) rest.diverted.1 ∙ append_assoc b.diverted rest.diverted.0 is.diverted.0,
    );
    merging = λ m. rest.merging (ap state_of is.first ∙ m) ∙ is.merging m;
    whole = λ none. let w = behind_whole none in rest.whole w.0 ∙ w.1;
  }

  mixed_behind : (image : Image) → IsMixture (bases_of f) f.base.image image → IsMixture (bases_of t) t.base.image image
  mixed_behind image mixed = record { long = mixed.long ∙ is.long; first = mixed.first ∙ is.first; each = λ p low. from_part p (page_at image p) (mixed.each p low) }

  -- What the files leave may be left of what was seen,
  pub behind_left : (b : Base) → IsFirm f b → IsLeft t b
  behind_left b left = record { mixed = mixed_behind b.image left.mixed; covered = λ steps. firm_covered f b left (part_steps steps); rest = rest_behind b left.rest }

  -- and where no SCN page waits, it is left so that none does.
  pub behind_firm : ((p : ℕ) → is_scn_place (image_size t.base.image) p ≡ true → page_at f.base.image p ≡ page_at t.base.image p) → (b : Base) → IsFirm f b → IsFirm t b
  behind_firm none b left = record {
    mixed = mixed_behind b.image left.mixed;
    kept = λ p at. left.kept p (ap (λ (n : ℕ). is_scn_place n p) (ap size_of is.first) ∙ at) ∙ none p at;
    rest = rest_behind b left.rest;
  }

  -- On the way.
  module _ (b : Base) (some : t.earlier ≢ []) where
    -- what is common to both ways: the SCN page of a page is as the files had it or as it is seen, so no entry is lower than the files'
    module _ (steps : AreInStep (bases_of t)) (first : first_page b.image ≡ first_page t.base.image) where
      abbrev of_f : IsCovered f.base
      of_f = steps_covered (bases_of t) f.base steps f_there

      abbrev of_c : IsCovered t.base
      of_c = steps_covered (bases_of t) t.base steps (now_there t)

      f_before : IsEarlier f.base.image t.base.image
      f_before = steps_before t.earlier t.base f.base steps f_there

      size_b : image_size b.image ≡ image_size t.base.image
      size_b = ap size_of first

      size_f : image_size b.image ≡ image_size f.base.image
      size_f = size_b ∙ sym f_before.size

      at_scn : (p : ℕ) → is_scn_place (image_size t.base.image) (scn_page_of b.image p) ≡ true
      at_scn p = ap (is_scn_place (image_size t.base.image)) (scn_page_same b.image t.base.image size_b p) ∙ scn_page_there (image_size t.base.image) (p / entries_in (image_size t.base.image)) of_c.size

      -- an entry is the files' or the one that is seen
      entry_of_page : (m : Base) → image_size b.image ≡ image_size m.image → (p : ℕ) → page_at b.image (scn_page_of b.image p) ≡ page_at m.image (scn_page_of b.image p) → scn_entry b.image p ≡ scn_entry m.image p
      entry_of_page m size p same =
          let place : scn_page_of b.image p ≡ scn_page_of m.image p = scn_page_same b.image m.image size p in
          entry_same b.image m.image size p (subst (λ (q : ℕ). page_at b.image q ≡ page_at m.image q) place same)

      entry_is : (p : ℕ) → (page_at b.image (scn_page_of b.image p) ≡ page_at f.base.image (scn_page_of b.image p)) ⊎ (page_at b.image (scn_page_of b.image p) ≡ page_at t.base.image (scn_page_of b.image p))
          → (scn_entry b.image p ≡ scn_entry f.base.image p) ⊎ (scn_entry b.image p ≡ scn_entry t.base.image p)
      entry_is p = ⊎_elim (λ same. inl (entry_of_page f.base size_f p same)) (λ same. inr (entry_of_page t.base size_b p same))

      -- so none is lower than the files',
      no_lower : (p : ℕ) → p < length f.base.image → has_entry b.image p ≡ true → (scn_entry b.image p ≡ scn_entry f.base.image p) ⊎ (scn_entry b.image p ≡ scn_entry t.base.image p) → scn_entry f.base.image p ≤ scn_entry b.image p
      no_lower p low has =
          ⊎_elim (λ same. omega (arith, same)) (λ same. omega (arith, same, f_before.entries p low (sym (has_same b.image f.base.image size_f p) ∙ has)))

      -- and where an entry of the difference file names the page in the stalled state, it is current.
      module _ (stalled : image_state t.base.image ≡ stalled_state) (left : (rest : List ℕ) × (f.base.diverted ≡ b.diverted ++ rest)) where
        stalled_f : image_state f.base.image ≡ stalled_state
        stalled_f = ap state_of is.first ∙ stalled

        entry_current : (p k : ℕ) → entry_for p b.diverted ≡ Some k → has_entry b.image p ≡ true → (scn_entry b.image p ≡ scn_entry f.base.image p) ⊎ (scn_entry b.image p ≡ scn_entry t.base.image p)
            → scn_entry b.image p ≡ image_scn b.image
        entry_current p k e has =
            let in_f : entry_for p f.base.diverted ≡ Some k = ap (entry_for p) left.1 ∙ for_front p k b.diverted left.0 e in
            let in_c : entry_for p t.base.diverted ≡ Some k = ap (entry_for p) is.diverted.1 ∙ for_front p k f.base.diverted is.diverted.0 in_f in
            ⊎_elim
            (λ same. same ∙ (of_f.raised stalled_f).current p k in_f (sym (has_same b.image f.base.image size_f p) ∙ has) ∙ ap scn_of is.first ∙ sym (ap scn_of first))
            (λ same. same ∙ (of_c.raised stalled).current p k in_c (sym (has_same b.image t.base.image size_b p) ∙ has) ∙ sym (ap scn_of first))

    -- While pages go into their slots, or SCN pages into the main file,
    module _ (way : IsOnTheWay f t b) where
      way_page : (p : ℕ) → p < length b.image → HasPage (bases_of t) p (page_at b.image p)
      way_page p low = by (is_scn_place (image_size t.base.image) p) refl
        where
          in_c : page_at b.image p ≡ page_at t.base.image p → HasPage (bases_of t) p (page_at b.image p)
          in_c same = record { base = t.base; there = now_there t; below = omega (arith, low, way.long); same = same }

          by : (u : Bool) → is_scn_place (image_size t.base.image) p ≡ u → HasPage (bases_of t) p (page_at b.image p)
          by true at = ⊎_elim (λ same. record { base = f.base; there = f_there; below = omega (arith, low, way.long, is.long); same = same }) in_c (way.scn_pages p low at)
          by false at = ⊎_elim (from_part p (page_at b.image p)) (λ (r : IsRewritten t b p). in_c r.same) (way.others p low at)

      way_covered : AreInStep (bases_of t) → IsCovered b
      way_covered steps = record {
        size = subst (λ (n : ℕ). IsTrue (is_page_size n)) (sym size) now.size;
        entries = covered_entries t b steps way.long way.first from (λ p low at. way_page p low);
        raised = λ stalled.
            let seen : image_state t.base.image ≡ stalled_state = sym (ap state_of way.first) ∙ stalled in
            raised_front t.base b all.0 size all.1 (now.raised seen) (λ p k e has. current seen p k e has);
      }
        where
          now : IsCovered t.base
          now = steps_covered (bases_of t) t.base steps (now_there t)

          size : image_size b.image ≡ image_size t.base.image
          size = ap size_of way.first

          all : (rest : List ℕ) × (t.base.diverted ≡ b.diverted ++ rest)
          all = (
            way.diverted.0 ++ is.diverted.0,
            is.diverted.1 ∙ ap (λ (x : List ℕ). x ++ is.diverted.0) way.diverted.1 ∙ append_assoc b.diverted way.diverted.0 is.diverted.0,
          )

          has_now : (p : ℕ) → has_entry b.image p ≡ true → has_entry t.base.image p ≡ true
          has_now p has = sym (has_same b.image t.base.image size p) ∙ has

          inside : (p : ℕ) → p < length b.image → has_entry b.image p ≡ true → scn_page_of b.image p < length b.image
          inside p low has = omega (arith, scn_page_same b.image t.base.image size p, way.long, now.entries.there p (omega (arith, low, way.long)) (has_now p has))

          either : (p : ℕ) → p < length b.image → has_entry b.image p ≡ true → (scn_entry b.image p ≡ scn_entry f.base.image p) ⊎ (scn_entry b.image p ≡ scn_entry t.base.image p)
          either p low has = entry_is steps way.first p (way.scn_pages (scn_page_of b.image p) (inside p low has) (at_scn steps way.first p))

          -- a page that has an entry is no SCN page
          plain : (p : ℕ) → has_entry b.image p ≡ true → is_scn_place (image_size t.base.image) p ≡ false
          plain p has = by (is_scn_place (image_size t.base.image) p) refl
            where
              by : (u : Bool) → is_scn_place (image_size t.base.image) p ≡ u → is_scn_place (image_size t.base.image) p ≡ false
              by true at = absurd (true≢false (sym (has_now p has) ∙ scn_no_entry t.base.image p at))
              by false at = at

          from : (p : ℕ) → p < length b.image → has_entry b.image p ≡ true → IsFrom (bases_of t) b p
          from p low has = ⊎_elim as_files rewritten (way.others p low (plain p has))
            where
              as_files : HasPage (bases_of f) p (page_at b.image p) → IsFrom (bases_of t) b p
              as_files one =
                  let old : IsEarlier one.base.image f.base.image = steps_before f.earlier f.base one.base (part_steps steps) one.there in
                  let same_size : image_size one.base.image ≡ image_size b.image = old.size ∙ sym (size_f steps way.first) in
                  let entry : scn_entry one.base.image p ≤ scn_entry b.image p =
                  omega (arith, old.entries p one.below (has_same one.base.image b.image same_size p ∙ has), no_lower steps way.first p (omega (arith, low, way.long, is.long)) has (either p low has)) in
                  record { has = record { base = one.base; there = there_part one.base one.there; below = one.below; same = one.same }; entry = entry }

              rewritten : IsRewritten t b p → IsFrom (bases_of t) b p
              rewritten r =
                  let low_c : p < length t.base.image = omega (arith, low, way.long) in
                  record {
                    has = record { base = t.base; there = now_there t; below = low_c; same = r.same };
                    entry = omega (
                      arith,
                      now.entries.no_later p (now.entries.there p low_c (has_now p has)) (has_now p has),
                      entry_current steps way.first r.stalled way.diverted p r.entry r.named has (either p low has),
                      ap scn_of way.first,
                    );
                  }

          -- an entry of the table that is left names a page of the image
          current : image_state t.base.image ≡ stalled_state → (p k : ℕ) → entry_for p b.diverted ≡ Some k → has_entry b.image p ≡ true → scn_entry b.image p ≡ image_scn b.image
          current seen p k e has =
              let in_c : entry_for p t.base.diverted ≡ Some k = ap (entry_for p) all.1 ∙ for_front p k b.diverted all.0 e in
              entry_current steps way.first seen way.diverted p k e has (either p (way.below seen p k e) has)

      pub way_left : IsLeft t b
      way_left = record {
        mixed = record { long = way.long; first = way.first; each = way_page };
        covered = way_covered;
        rest = record {
          frozen = way.frozen ∙ is.frozen;
          diverted = (
            way.diverted.0 ++ is.diverted.0,
            is.diverted.1 ∙ ap (λ (x : List ℕ). x ++ is.diverted.0) way.diverted.1 ∙ append_assoc b.diverted way.diverted.0 is.diverted.0,
          );
          merging = λ m. way.merging m ∙ is.merging m;
          whole = λ none. absurd (some none);
        };
      }

    -- and while entries go into the table, what is left may be left.
    module _ (way : IsEntering f t b) where
      enter_page : (p : ℕ) → p < length b.image → HasPage (bases_of t) p (page_at b.image p)
      enter_page p low = by (entry_for p b.diverted) refl
        where
          by : (x : Option ℕ) → entry_for p b.diverted ≡ x → HasPage (bases_of t) p (page_at b.image p)
          by None e = record { base = f.base; there = f_there; below = omega (arith, low, way.long, is.long); same = way.others p e }
          by (Some k) e = record { base = t.base; there = now_there t; below = omega (arith, low, way.long); same = way.named p k e }

      enter_covered : AreInStep (bases_of t) → IsCovered b
      enter_covered steps = record {
        size = subst (λ (n : ℕ). IsTrue (is_page_size n)) (sym size) now.size;
        entries = covered_entries t b steps way.long way.first from (λ p low at. enter_page p low);
        raised = λ stalled. raised_front t.base b way.diverted.0 size way.diverted.1 (now.raised way.stalled) current;
      }
        where
          now : IsCovered t.base
          now = steps_covered (bases_of t) t.base steps (now_there t)

          size : image_size b.image ≡ image_size t.base.image
          size = ap size_of way.first

          has_now : (p : ℕ) → has_entry b.image p ≡ true → has_entry t.base.image p ≡ true
          has_now p has = sym (has_same b.image t.base.image size p) ∙ has

          either : (p : ℕ) → (scn_entry b.image p ≡ scn_entry f.base.image p) ⊎ (scn_entry b.image p ≡ scn_entry t.base.image p)
          either p = by (entry_for (scn_page_of b.image p) b.diverted) refl
            where
              by : (x : Option ℕ) → entry_for (scn_page_of b.image p) b.diverted ≡ x → (scn_entry b.image p ≡ scn_entry f.base.image p) ⊎ (scn_entry b.image p ≡ scn_entry t.base.image p)
              by None e = inl (entry_of_page steps way.first f.base (size_f steps way.first) p (way.others (scn_page_of b.image p) e))
              by (Some k) e = inr (entry_of_page steps way.first t.base size p (way.named (scn_page_of b.image p) k e))

          -- the SCN page of a page that an entry names stands before it, so it is as it is seen
          current : (p k : ℕ) → entry_for p b.diverted ≡ Some k → has_entry b.image p ≡ true → scn_entry b.image p ≡ image_scn b.image
          current p k e has =
              let raised : IsRaised t.base.image t.base.diverted = now.raised way.stalled in
              let in_c : entry_for p t.base.diverted ≡ Some k = ap (entry_for p) way.diverted.1 ∙ for_front p k b.diverted way.diverted.0 e in
              let scn_page = behind_front t.base b way.diverted.0 size way.diverted.1 raised p k e has in
              entry_of_page steps way.first t.base size p (way.named (scn_page_of b.image p) scn_page.0 scn_page.1) ∙ raised.current p k in_c (has_now p has) ∙ sym (ap scn_of way.first)

          from : (p : ℕ) → p < length b.image → has_entry b.image p ≡ true → IsFrom (bases_of t) b p
          from p low has = by (entry_for p b.diverted) refl
            where
              by : (x : Option ℕ) → entry_for p b.diverted ≡ x → IsFrom (bases_of t) b p
              by None e =
                  let low_f : p < length f.base.image = omega (arith, low, way.long, is.long) in
                  record { has = record { base = f.base; there = f_there; below = low_f; same = way.others p e }; entry = no_lower steps way.first p low_f has (either p) }
              by (Some k) e =
                  let low_c : p < length t.base.image = omega (arith, low, way.long) in
                  record {
                    has = record { base = t.base; there = now_there t; below = low_c; same = way.named p k e };
                    entry = omega (arith, now.entries.no_later p (now.entries.there p low_c (has_now p has)) (has_now p has), current p k e has, ap scn_of way.first);
                  }

      pub enter_left : IsLeft t b
      enter_left = record {
        mixed = record { long = way.long; first = way.first; each = enter_page };
        covered = enter_covered;
        rest = record {
          frozen = way.frozen ∙ is.frozen;
          diverted = way.diverted;
          merging = λ m. absurd (omega (arith, m, way.stalled));
          whole = λ none. absurd (some none);
        };
      }
