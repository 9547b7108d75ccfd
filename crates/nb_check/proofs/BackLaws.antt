-- Leaked pages are given back one after the other: what each front of the strokes leaves.
use Rattle.std.proofs.Common.{◌≡◌, ◌≢◌, inl, inr, ℕ, zero, suc, ◌+◌, ◌<◌, ◌≤◌, List, [], ◌∷◌, ◌++◌, length, take, drop, refl, sym, ap, subst, append_assoc, ◌∙◌, arith, Bool, true, false, cond, ◌&&◌, ◌||◌, ◌==◌, not, nat_eq, None}
use Rattle.nb_check.proofs.Common.{filter, range_with_len, cases_Bool, and_left, or_cases, eqb_tells, append-nil, list_any-append, kind_of, is_system_place, data_kind, Base, History, Draft, drafted, give_page, is_free_page, Page, Image, page_at, image_size, HasHeader, IsSoundImage, Stroke, base_after, all_given, Along, along_append, along_front, drafted_is, drafts_are, set_bit_keeps, IsWhole, leaked_two, given_first, header_whole, eq_no, eq_yes, is_among, is_leaked, leaked, reached, unsound_by, check_cause, reclaimed, given_none, head_same, tail_same, nil_cons, or_parts, or_false, or_true, or_assoc}
use Rattle.nb_model.proofs.DraftLaws.{IsOf}
use Rattle.nb_model.proofs.StrokeLaws.{base_after-append}
use Rattle.nb_check.specs.Laws.{KeepsPages, Reclaims}
use Rattle.nb_check.proofs.GiveLaws.{given, between, given_size, given_length, given_plain, given_fits, free_then, other_then, between_whole, between_size, between_length, between_plain, between_bit, give_along}
use Rattle.nb_check.proofs.SameLaws.{AreAlike, reached_same, chains_cause_same, rows_same, spots_same}
use Rattle.nb_check.proofs.CauseLaws.{check_free}
use Rattle.nb_check.proofs.SoundLaws.{facts_sound, check_parts}

-- A list that a test leaves of a range, without a front of it.
pub filter_same : (f g : ℕ → Bool) (n a : ℕ) → ((q : ℕ) → a ≤ q → q < a + n → f q ≡ g q) → filter f (range_with_len a n) ≡ filter g (range_with_len a n)
filter_same f g zero a same = refl
filter_same f g (suc n) a same =
    ap (λ (t : Bool). cond t (a ∷ filter f (range_with_len (a + 1) n)) (filter f (range_with_len (a + 1) n))) (same a (omega arith) (omega arith))
    ∙ ap (λ (xs : List ℕ). cond (g a) (a ∷ xs) xs) (filter_same f g n (a + 1) (λ q low high. same q (omega (arith, low)) (omega (arith, high))))

among_first : (q : ℕ) (ps : List ℕ) → is_among q (q ∷ ps) ≡ true
among_first q ps = ap (λ (t : Bool). t || is_among q ps) (eq_yes q q refl)

among_rest : (q p : ℕ) (ps : List ℕ) → q ≢ p → is_among q (p ∷ ps) ≡ is_among q ps
among_rest q p ps other = ap (λ (t : Bool). t || is_among q ps) (eq_no q p other)

and_true : (t : Bool) → (t && not false) ≡ t
and_true true = refl
and_true false = refl

and_none : (t : Bool) → (t && not true) ≡ false
and_none true = refl
and_none false = refl

abbrev without : (ℕ → Bool) → List ℕ → ℕ → Bool
without test ps q = test q && not (is_among q ps)

-- what a test leaves of a range, by what it says of the first
abbrev first_by : (test : ℕ → Bool) (n a : ℕ) → Bool → List ℕ
first_by test n a t = cond t (a ∷ filter test (range_with_len (a + 1) n)) (filter test (range_with_len (a + 1) n))

-- what is left after a front
filter_rest : (test : ℕ → Bool) (n a : ℕ) (ps qs : List ℕ) → filter test (range_with_len a n) ≡ ps ++ qs → filter (without test ps) (range_with_len a n) ≡ qs
filter_rest test n a [] qs e = filter_same (without test []) test n a (λ q low high. and_true (test q)) ∙ e
filter_rest test zero a (p ∷ ps) qs e = absurd (nil_cons p (ps ++ qs) e)
filter_rest test (suc n) a (p ∷ ps) qs e = by (test a) refl (filter_rest test n (a + 1) ps qs) (filter_rest test n (a + 1) (p ∷ ps) qs)
  where
    is : (f : ℕ → Bool) (t : Bool) → f a ≡ t → filter f (range_with_len a (suc n)) ≡ first_by f n a t
    is f t same = ap (first_by f n a) same

    by : (t : Bool) → test a ≡ t → (filter test (range_with_len (a + 1) n) ≡ ps ++ qs → filter (without test ps) (range_with_len (a + 1) n) ≡ qs)
        → (filter test (range_with_len (a + 1) n) ≡ (p ∷ ps) ++ qs → filter (without test (p ∷ ps)) (range_with_len (a + 1) n) ≡ qs) → filter (without test (p ∷ ps)) (range_with_len a (suc n)) ≡ qs
    by true holds one all =
        let first : a ∷ filter test (range_with_len (a + 1) n) ≡ p ∷ (ps ++ qs) = sym (is test true holds) ∙ e in
        let here : a ≡ p = head_same a p _ _ first in
        let gone : without test (p ∷ ps) a ≡ false = ap (λ (u : Bool). u && not (is_among a (p ∷ ps))) holds ∙ ap (λ (m : ℕ). true && not (is_among a (m ∷ ps))) (sym here) ∙ ap (λ (u : Bool). true && not u) (among_first a ps) in
        is (without test (p ∷ ps)) false gone
        ∙ filter_same (without test (p ∷ ps)) (without test ps) n (a + 1) (λ q low high. ap (λ (u : Bool). test q && not u) (among_rest q p ps (λ same. omega (arith, low, here, same))))
        ∙ one (tail_same a p _ _ first)
    by false fails one all =
        is (without test (p ∷ ps)) false (and_left (test a) _ fails) ∙ all (sym (is test false fails) ∙ e)

-- The image y is x with these pages given back.
pub record IsBack (x : Image) (ps : List ℕ) (y : Image) : Type 0 where
  pub alike : AreAlike x y
  pub whole : IsWhole y
  pub bits : (q : ℕ) → q < length x → is_free_page y q ≡ (is_free_page x q || is_among q ps)

pub back_first : (x : Image) → IsWhole x → IsBack x [] x
back_first x h = record { alike = record { size = refl; same = refl; pages = λ p plain. refl }; whole = h; bits = λ q low. sym (or_false (is_free_page x q)) }

module _ (x : Image) (sound : IsSoundImage x) (ps : List ℕ) (y : Image) (back : IsBack x ps y) where
  -- a page of a system place is none of data
  system_none : (z : Image) → IsSoundImage z → (q : ℕ) → q < length z → is_system_place (image_size z) q ≡ true → (kind_of (page_at z q) == data_kind) ≡ false
  unfolding is_system_place
  system_none z is q low place = elim (or_cases _ _ place) [
    | inl at ↦ (let two = is.sound.system.inventories q low at in eq_no _ 5 (λ e. omega (arith, e, two)))
    | inr at ↦ (let ten = is.sound.system.scn_pages q low at in eq_no _ 5 (λ e. omega (arith, e, ten)))
  ]

  -- the kinds stay, as far as data pages go
  data_same : (q : ℕ) → q < length x → (kind_of (page_at y q) == data_kind) ≡ (kind_of (page_at x q) == data_kind)
  data_same q low = elim (cases_Bool (is_system_place (image_size x) q)) [
    | inl place ↦
        system_none y back.whole.sound q (let same = back.alike.same in omega (arith, low, same)) (ap (λ (s : ℕ). is_system_place s q) back.alike.size ∙ place) ∙ sym (system_none x sound q low place)
    | inr plain ↦ ap (λ (page : Page). kind_of page == data_kind) (back.alike.pages q plain)
  ]

  reach : reached y ≡ reached x
  reach = reached_same x y back.alike sound.sound back.whole.sound.sound

  -- with some given back, these are still leaked
  still : (free among of_data : Bool) (reaches : Bool) → ((not (free || among) && of_data) && not reaches) ≡ (((not free && of_data) && not reaches) && not among)
  still true among of_data reaches = refl
  still false true of_data reaches = sym (and_none ((true && of_data) && not reaches))
  still false false of_data reaches = sym (and_true ((true && of_data) && not reaches))

  leaked_each : (q : ℕ) → q < length x → is_leaked y q ≡ without (is_leaked x) ps q
  leaked_each q low =
      ap (λ (t : Bool). (not t && kind_of (page_at y q) == data_kind) && not (is_among q (reached y))) (back.bits q low)
      ∙ ap (λ (t : Bool). (not (is_free_page x q || is_among q ps) && t) && not (is_among q (reached y))) (data_same q low)
      ∙ ap (λ (r : List ℕ). (not (is_free_page x q || is_among q ps) && kind_of (page_at x q) == data_kind) && not (is_among q r)) reach
      ∙ still (is_free_page x q) (is_among q ps) (kind_of (page_at x q) == data_kind) (is_among q (reached x))

  pub leaked_rest : (qs : List ℕ) → leaked x ≡ ps ++ qs → leaked y ≡ qs
  unfolding leaked
  leaked_rest qs e =
      ap (λ (n : ℕ). filter (is_leaked y) (range_with_len 0 n)) back.alike.same ∙ filter_same (is_leaked y) (without (is_leaked x) ps) (length x) 0 (λ q low high. leaked_each q (omega (arith, high)))
      ∙ filter_rest (is_leaked x) (length x) 0 ps qs e

  pub back_keeps : (qs : List ℕ) → leaked x ≡ ps ++ qs → check_cause x ≡ None → KeepsPages x y
  back_keeps qs e none = record {
    sound = back.whole.sound;
    checked = check_free y (ap unsound_by (facts_sound y back.whole.sound.sound)) (chains_cause_same x y back.alike sound.sound back.whole.sound.sound ∙ (check_parts x none).1);
    same = back.alike.same;
    pages = λ p low plain. back.alike.pages p plain;
    rows = λ table. rows_same x y back.alike sound.sound back.whole.sound.sound table;
    history = spots_same x y back.alike sound.sound back.whole.sound.sound History;
    bits = λ p low off. back.bits p low ∙ ap (λ (t : Bool). is_free_page x p || t) (or_parts (is_among p ps) (is_among p qs) (sym (list_any-append (nat_eq p) ps qs) ∙ ap (is_among p) (sym e) ∙ off)).0 ∙ or_false (is_free_page x p);
  }

-- One page more is given back.
module _ (x : Image) (header : HasHeader x) (sound : IsSoundImage x) (ps : List ℕ) (p : ℕ) (y : Image) (back : IsBack x ps y) (low : p < length x) (holds : is_leaked x p ≡ true) where
  pub two : 2 ≤ p
  two = leaked_two x header sound p low holds

  pub low_y : p < length y
  low_y = (let same = back.alike.same in omega (arith, low, same))

  among_more : (q : ℕ) → is_among q (ps ++ p ∷ []) ≡ (is_among q ps || is_among q (p ∷ []))
  among_more q = list_any-append (nat_eq q) ps (p ∷ [])

  plain_y : (q : ℕ) → is_system_place (image_size x) q ≡ false → is_system_place (image_size y) q ≡ false
  plain_y q plain = ap (λ (s : ℕ). is_system_place s q) back.alike.size ∙ plain

  pub back_between : IsBack x ps (between y back.whole p two low_y)
  back_between = record {
    alike = record {
      size = between_size y back.whole p two low_y ∙ back.alike.size;
      same = between_length y back.whole p two low_y ∙ back.alike.same;
      pages = λ q plain. between_plain y back.whole p two low_y q (plain_y q plain) ∙ back.alike.pages q plain;
    };
    whole = between_whole y back.whole p two low_y;
    bits = λ q below. between_bit y back.whole p two low_y q ∙ back.bits q below;
  }

  pub back_then : IsBack x (ps ++ p ∷ []) (given y back.whole p two low_y)
  back_then = record {
    alike = record {
      size = given_size y back.whole p two low_y ∙ back.alike.size;
      same = given_length y back.whole p two low_y ∙ back.alike.same;
      pages = λ q plain. given_plain y back.whole p two low_y q (plain_y q plain) ∙ back.alike.pages q plain;
    };
    whole = (given_fits y back.whole p two low_y).whole;
    bits = bits;
  }
    where
      one_only : (q : ℕ) → q ≢ p → is_among q (p ∷ []) ≡ false
      one_only q off = among_rest q p [] off

      bits : (q : ℕ) → q < length x → is_free_page (given y back.whole p two low_y) q ≡ (is_free_page x q || is_among q (ps ++ p ∷ []))
      bits q below = elim (eqb_tells q p) [
        | inl w ↦
            ap (is_free_page (given y back.whole p two low_y)) w.1 ∙ free_then y back.whole p two low_y ∙ sym (or_true (is_free_page x q || is_among q ps))
            ∙ ap (λ (t : Bool). (is_free_page x q || is_among q ps) || t) (sym (ap (λ (m : ℕ). is_among q (m ∷ [])) (sym w.1) ∙ among_first q []))
            ∙ sym (or_assoc (is_free_page x q) (is_among q ps) (is_among q (p ∷ []))) ∙ ap (λ (t : Bool). is_free_page x q || t) (sym (among_more q))
        | inr w ↦
            other_then y back.whole p two low_y q w.1 ∙ back.bits q below ∙ sym (or_false (is_free_page x q || is_among q ps))
            ∙ ap (λ (t : Bool). (is_free_page x q || is_among q ps) || t) (sym (one_only q w.1))
            ∙ sym (or_assoc (is_free_page x q) (is_among q ps) (is_among q (p ∷ []))) ∙ ap (λ (t : Bool). is_free_page x q || t) (sym (among_more q))
      ]

-- The leaked pages are some that were given back and the others.
pub record IsOnWay (x y : Image) : Type 0 where
  pub front : List ℕ
  pub rest : List ℕ
  pub are : leaked x ≡ front ++ rest
  pub back : IsBack x front y

-- A number that a test leaves of a range passes it.
module _ (test : ℕ → Bool) (p : ℕ) (qs : List ℕ) where
  abbrev IsLeft : (a n : ℕ) → Type 0
  IsLeft a n = (p < a + n) × (test p ≡ true)

  left_passes : (n a : ℕ) (fs : List ℕ) → filter test (range_with_len a n) ≡ fs ++ (p ∷ qs) → IsLeft a n
  left_passes zero a [] is = absurd (nil_cons p qs is)
  left_passes zero a (f ∷ fs) is = absurd (nil_cons f (fs ++ (p ∷ qs)) is)
  left_passes (suc n) a fs is = by (test a) refl fs is (λ gs same. let rest = left_passes n (a + 1) gs same in (omega (arith, rest.0), rest.1))
    where
      by : (t : Bool) → test a ≡ t → (gs : List ℕ) → filter test (range_with_len a (suc n)) ≡ gs ++ (p ∷ qs) → ((hs : List ℕ) → filter test (range_with_len (a + 1) n) ≡ hs ++ (p ∷ qs) → IsLeft a (suc n)) → IsLeft a (suc n)
      by true here [] same later =
          let first : a ∷ filter test (range_with_len (a + 1) n) ≡ p ∷ qs = sym (ap (first_by test n a) here) ∙ same in
          let at : a ≡ p = head_same a p _ qs first in
          (omega (arith, at), ap test (sym at) ∙ here)
      by true here (g ∷ gs) same later = later gs (tail_same a g _ (gs ++ (p ∷ qs)) (sym (ap (first_by test n a) here) ∙ same))
      by false here gs same later = later gs (sym (ap (first_by test n a) here) ∙ same)

-- a leaked page of the list is leaked
leaked_in : (x : Image) (p : ℕ) (ps qs : List ℕ) → leaked x ≡ ps ++ (p ∷ qs) → (p < length x) × (is_leaked x p ≡ true)
unfolding leaked
leaked_in x p ps qs e = let found = left_passes (is_leaked x) p qs (length x) 0 ps e in (omega (arith, found.0), found.1)

module _ (x : Image) (header : HasHeader x) (sound : IsSoundImage x) where
  pub given_along : (qs ps : List ℕ) (b : Base) → leaked x ≡ ps ++ qs → IsBack x ps b.image → Along (IsOnWay x) b (all_given qs (drafted b.image)).strokes
  given_along [] ps b e back = subst (Along (IsOnWay x) b) (sym (given_none b.image)) (record { front = ps; rest = []; are = e; back = back })
  given_along (p ∷ qs) ps b e back =
      let at = leaked_in x p ps qs e in
      let d : Draft = give_page p (drafted b.image) in
      let then : Base = base_after b d.strokes in
      let same : then.image ≡ d.image = (set_bit_keeps (IsOf b) (drafts_are b) 1 p (drafted b.image) (drafted_is b)).is in
      let more : leaked x ≡ (ps ++ p ∷ []) ++ qs = e ∙ sym (append_assoc ps (p ∷ []) qs) in
      let now : IsBack x (ps ++ p ∷ []) d.image = back_then x header sound ps p b.image back at.0 at.1 in
      subst (Along (IsOnWay x) b) (sym (given_first p qs b.image))
      (along_append (IsOnWay x) b d.strokes (all_given qs (drafted d.image)).strokes
      (give_along b.image back.whole p (leaked_two x header sound p at.0 at.1) (let long = back.alike.same in omega (arith, long, at.0)) (IsOnWay x) b refl
      (record { front = ps; rest = p ∷ qs; are = e; back = back }) (record { front = ps; rest = p ∷ qs; are = e; back = back_between x header sound ps p b.image back at.0 at.1 }) (record { front = ps ++ p ∷ []; rest = qs; are = more; back = now }))
      (subst (λ (z : Image). Along (IsOnWay x) then (all_given qs (drafted z)).strokes) same (given_along qs (ps ++ p ∷ []) then more (subst (IsBack x (ps ++ p ∷ [])) (sym same) now))))

  -- and after all of them
  pub given_end : (qs ps : List ℕ) (b : Base) → leaked x ≡ ps ++ qs → IsBack x ps b.image → IsBack x (leaked x) (base_after b (all_given qs (drafted b.image)).strokes).image
  unfolding base_after
  given_end [] ps b e back = subst (λ (ss : List Stroke). IsBack x (leaked x) (base_after b ss).image) (sym (given_none b.image)) (subst (λ (fs : List ℕ). IsBack x fs b.image) (sym (e ∙ append-nil ps)) back)
  given_end (p ∷ qs) ps b e back =
      let at = leaked_in x p ps qs e in
      let d : Draft = give_page p (drafted b.image) in
      let then : Base = base_after b d.strokes in
      let same : then.image ≡ d.image = (set_bit_keeps (IsOf b) (drafts_are b) 1 p (drafted b.image) (drafted_is b)).is in
      let more : leaked x ≡ (ps ++ p ∷ []) ++ qs = e ∙ sym (append_assoc ps (p ∷ []) qs) in
      let now : IsBack x (ps ++ p ∷ []) d.image = back_then x header sound ps p b.image back at.0 at.1 in
      let rest : IsBack x (leaked x) (base_after then (all_given qs (drafted then.image)).strokes).image = given_end qs (ps ++ p ∷ []) then more (subst (IsBack x (ps ++ p ∷ [])) (sym same) now) in
      subst (λ (ss : List Stroke). IsBack x (leaked x) (base_after b ss).image) (sym (given_first p qs b.image))
      (subst (λ (c : Base). IsBack x (leaked x) c.image) (sym (base_after-append b d.strokes (all_given qs (drafted d.image)).strokes))
      (subst (λ (z : Image). IsBack x (leaked x) (base_after then (all_given qs (drafted z)).strokes).image) same rest))

drop_front : (fs rs : List ℕ) → drop (length fs) (fs ++ rs) ≡ rs
drop_front [] rs = refl
drop_front (f ∷ fs) rs = drop_front fs rs

-- What a reclaim leaves.
module _ (b : Base) (header : HasHeader b.image) (sound : IsSoundImage b.image) where
  abbrev image : Image
  image = b.image

  along : Along (IsOnWay image) b (reclaimed image).strokes
  along = given_along image header sound (leaked image) [] b refl (back_first image (header_whole image header sound))

  pub on_way : (k : ℕ) → IsOnWay image (base_after b (take k (reclaimed image).strokes)).image
  on_way k = along_front (IsOnWay image) b (reclaimed image).strokes along k

  last : IsBack image (leaked image) (base_after b (reclaimed image).strokes).image
  last = given_end image header sound (leaked image) [] b refl (back_first image (header_whole image header sound))

  pub reclaims : check_cause image ≡ None → Reclaims b (reclaimed image).strokes
  reclaims none = record {
    keeps = λ k. let w = on_way k in back_keeps image sound w.front (base_after b (take k (reclaimed image).strokes)).image w.back w.rest w.are none;
    fronts = λ k. let w = on_way k in (length w.front, leaked_rest image sound w.front (base_after b (take k (reclaimed image).strokes)).image w.back w.rest w.are ∙ sym (ap (drop (length w.front)) w.are ∙ drop_front w.front w.rest));
    none = leaked_rest image sound (leaked image) (base_after b (reclaimed image).strokes).image last [] (sym (append-nil (leaked image)));
  }
