-- Leaked pages are given back one after the other, in rising order.
use Rattle.std.proofs.Common.{◌≡◌, ℕ, zero, suc, ◌+◌, ◌-◌, ◌*◌, ◌<◌, ◌≤◌, List, [], ◌∷◌, ◌++◌, length, refl, sym, ap, subst, append_assoc, ◌∙◌, arith, Bool, true, false, cond, Some, None, Result, Ok, Err, IfErr}
use Rattle.nb_check.proofs.Common.{filter, range_with_len, append-nil, is_system_place, World, Fault, Quiet, base_of, Draft, drafted, give_page, Image, image_size, HasHeader, IsSoundImage, Stroke, all_given, Trail, after_stroke, drafted_is, drafts_are, set_bit_keeps, IsWhole, fits_first, leaked_plain, leaked_two, given_first, bit_put, header_whole, AnyPage, bit_inventory, bit_longer, bit_size, after_strokes, IsNoRefusal, Held, IsOpen, Makes, Tested, makes_none, makes_then, makes_front, mark_cause, StopsShort, Tries, WhereMemory, short_front, short_then, wanted_so, Cause, unless_by, sure_of, tries_made, is_leaked, leaked, given_none}
use Rattle.nb_change.proofs.ReachedLaws.{after_all-joined}
use Rattle.nb_model.proofs.DraftLaws.{IsOf}
use Rattle.nb_alloc.proofs.MakeLaws.{mark_none}
use Rattle.nb_alloc.proofs.NewLaws.{image_is}

-- the leaked pages from page n on
abbrev pub leaked_from : Image → (n : ℕ) → List ℕ
leaked_from image n = filter (is_leaked image) (range_with_len n (length image - n))

pub leaked_all : (image : Image) → leaked image ≡ leaked_from image 0
unfolding leaked
leaked_all image = let all : length image ≡ length image - 0 = omega arith in ap (λ (n : ℕ). filter (is_leaked image) (range_with_len 0 n)) all

range_first : (a n : ℕ) → 0 < n → range_with_len a n ≡ a ∷ range_with_len (a + 1) (n - 1)
range_first a zero some = absurd (omega (arith, some))
range_first a (suc n) some = let one : n ≡ suc n - 1 = omega arith in ap (λ (m : ℕ). a ∷ range_with_len (a + 1) m) one

pub leaked_step : (image : Image) (n : ℕ) → n < length image → leaked_from image n ≡ cond (is_leaked image n) (n ∷ leaked_from image (n + 1)) (leaked_from image (n + 1))
leaked_step image n low =
    let fewer : length image - n - 1 ≡ length image - (n + 1) = omega arith in
    ap (filter (is_leaked image)) (range_first n (length image - n) (omega (arith, low)))
    ∙ ap (λ (m : ℕ). cond (is_leaked image n) (n ∷ filter (is_leaked image) (range_with_len (n + 1) m)) (filter (is_leaked image) (range_with_len (n + 1) m))) fewer

pub leaked_none : (image : Image) (n : ℕ) → length image ≤ n → leaked_from image n ≡ []
leaked_none image n far = let none : length image - n ≡ 0 = omega (arith, far) in ap (λ (m : ℕ). filter (is_leaked image) (range_with_len n m)) none

-- A page that is given back is one of those, and takes two reads.
pub step_reads : (image : Image) (n old now reads then : ℕ) → n < length image → is_leaked image n ≡ true → then ≤ now + 2 → now + 2 * length (leaked_from image n) ≤ old + reads → then + 2 * length (leaked_from image (n + 1)) ≤ old + reads
step_reads image n old now reads then low holds two so_far =
    let one : leaked_from image n ≡ n ∷ leaked_from image (n + 1) = leaked_step image n low ∙ ap (λ (t : Bool). cond t (n ∷ leaked_from image (n + 1)) (leaked_from image (n + 1))) holds in
    let many : length (leaked_from image n) ≡ suc (length (leaked_from image (n + 1))) = ap length one in
    omega (arith, two, so_far, many)

pub passed_reads : (image : Image) (n now all : ℕ) → n < length image → is_leaked image n ≡ false → now + 2 * length (leaked_from image n) ≤ all → now + 2 * length (leaked_from image (n + 1)) ≤ all
passed_reads image n now all low fails so_far =
    let same : leaked_from image n ≡ leaked_from image (n + 1) = leaked_step image n low ∙ ap (λ (t : Bool). cond t (n ∷ leaked_from image (n + 1)) (leaked_from image (n + 1))) fails in
    let many : length (leaked_from image n) ≡ length (leaked_from image (n + 1)) = ap length same in
    omega (arith, so_far, many)

-- The leaked pages below a number were given back, those from it on are still to come.
pub record IsGiving (old now : World) (a b : Held) (t : Trail) (number : ℕ) : Type 0 where
  pub made : List Stroke
  pub makes : Makes {T = Unit {0}} (Ok tt) old now a b t made
  pub whole : IsWhole (after_strokes t made).base.image
  pub size : image_size (after_strokes t made).base.image ≡ image_size t.base.image
  pub longer : length t.base.image ≤ length (after_strokes t made).base.image
  pub strokes : (all_given (leaked t.base.image) (drafted t.base.image)).strokes ≡ made ++ (all_given (leaked_from t.base.image number) (drafted (after_strokes t made).base.image)).strokes

-- a database that is open has a header
pub open_header : (w : World) (a : Held) (t : Trail) → IsOpen w a t → HasHeader t.base.image
open_header w a t is = record { header = is.files.agrees.header; scn = (let agrees = is.agrees.scn in let four = is.agrees.four in omega (arith, agrees, four)) }

no_next : (made rest : List Stroke) (next : Stroke) → made ++ next ∷ rest ≡ [] → ⊥
no_next [] rest next e = cc
no_next (s ∷ ss) rest next e = cc

-- a call that was refused wants no memory, so it stops before the last stroke whatever the cause
pub short_anyway : (fault : Fault) (old new : World) (a b : Held) (t : Trail) (cause : Cause) (xs : List Stroke) → WhereMemory {T = Unit {0}} (Err fault) (StopsShort old new a b t (unless_by cause xs))
    → WhereMemory {T = Unit {0}} (Err fault) (StopsShort old new a b t xs)
short_anyway fault old new a b t cause xs = wanted_so {T = Unit {0}} (Err fault) (StopsShort old new a b t (unless_by cause xs)) (StopsShort old new a b t xs) (by cause)
  where
    by : (k : Cause) → StopsShort old new a b t (unless_by k xs) → StopsShort old new a b t xs
    by None stops = stops
    by (Some r) stops = absurd (no_next stops.made stops.rest stops.next stops.whole)

-- none was given back yet
pub giving_begun : (w : World) (a : Held) (t : Trail) → Quiet w w → IsOpen w a t → HasHeader t.base.image → IsSoundImage t.base.image → IsGiving w w a a t 0
giving_begun w a t quiet is header sound = record {
  made = [];
  makes = makes_none {T = Unit {0}} (Ok tt) w w a a t refl quiet is is;
  whole = header_whole t.base.image header sound;
  size = refl;
  longer = omega arith;
  strokes = ap (λ (ps : List ℕ). (all_given ps (drafted t.base.image)).strokes) (leaked_all t.base.image);
}

-- all were given back
pub giving_done : (old now : World) (a b : Held) (t : Trail) (number : ℕ) → length t.base.image ≤ number → IsGiving old now a b t number → Tries {T = Unit {0}} (Ok tt) old now a b t None (all_given (leaked t.base.image) (drafted t.base.image)).strokes
giving_done old now a b t number far g =
    let all = g.strokes ∙ ap (λ (ps : List ℕ). g.made ++ (all_given ps (drafted (after_strokes t g.made).base.image)).strokes) (leaked_none t.base.image number far) ∙ ap (λ (ss : List Stroke). g.made ++ ss) (given_none _) ∙ append-nil g.made in
    tries_made {T = Unit {0}} (Ok tt) old now a b t None _ refl tt (subst (λ (ss : List Stroke). Makes {T = Unit {0}} (Ok tt) old now a b t ss) (sym all) g.makes) tt

module _ (old mid : World) (a b : Held) (t : Trail) (number : ℕ) (low : number < length t.base.image) (g : IsGiving old mid a b t number) where
  abbrev x : Image
  x = t.base.image

  abbrev u : Trail
  u = after_strokes t g.made

  abbrev z : Image
  z = u.base.image

  -- a page that isn't leaked
  pub giving_passed : is_leaked x number ≡ false → IsGiving old mid a b t (number + 1)
  giving_passed fails = record {
    made = g.made;
    makes = g.makes;
    whole = g.whole;
    size = g.size;
    longer = g.longer;
    strokes = g.strokes ∙ ap (λ (ps : List ℕ). g.made ++ (all_given ps (drafted z)).strokes)
        (leaked_step x number low ∙ ap (λ (t : Bool). cond t (number ∷ leaked_from x (number + 1)) (leaked_from x (number + 1))) fails);
  }

  module _ (holds : is_leaked x number ≡ true) (sound : IsSoundImage x) where
    abbrev d : Draft
    d = give_page number (drafted z)

    plain : is_system_place (image_size x) number ≡ false
    plain = leaked_plain x sound number low holds

    giving_below : number < length z
    giving_below = (let longer = g.longer in omega (arith, low, longer))

    step : (all_given (leaked x) (drafted x)).strokes ≡ g.made ++ (d.strokes ++ (all_given (leaked_from x (number + 1)) (drafted d.image)).strokes)
    step = g.strokes ∙ ap (λ (ps : List ℕ). g.made ++ (all_given ps (drafted z)).strokes)
        (leaked_step x number low ∙ ap (λ (t : Bool). cond t (number ∷ leaked_from x (number + 1)) (leaked_from x (number + 1))) holds)
        ∙ ap (λ (ss : List Stroke). g.made ++ ss) (given_first number (leaked_from x (number + 1)) z)

    abbrev others : List Stroke
    others = (all_given (leaked_from x (number + 1)) (drafted d.image)).strokes

    -- the call failed
    pub giving_failed : (fault : Fault) (new : World) (c : Held) → IsNoRefusal fault → Makes {T = Unit {0}} (Err fault) mid new b c u d.strokes → WhereMemory {T = Unit {0}} (Err fault) (StopsShort mid new b c u d.strokes)
        → Tries {T = Unit {0}} (Err fault) old new a c t None (all_given (leaked x) (drafted x)).strokes
    giving_failed fault new c sure makes stops =
        tries_made {T = Unit {0}} (Err fault) old new a c t None _ refl sure
        (subst (λ (ss : List Stroke). Makes {T = Unit {0}} (Err fault) old new a c t ss) (sym step)
        (makes_then tt (Err fault) old mid new a b c t g.made (d.strokes ++ (all_given (leaked_from x (number + 1)) (drafted d.image)).strokes) g.makes
        (makes_front (Unit {0}) (Unit {0}) fault mid new b c u d.strokes (all_given (leaked_from x (number + 1)) (drafted d.image)).strokes sure makes)))
        (wanted_so {T = Unit {0}} (Err fault) (StopsShort mid new b c u d.strokes) (StopsShort old new a c t (all_given (leaked x) (drafted x)).strokes)
        (λ short. subst (λ (ss : List Stroke). StopsShort old new a c t ss) (sym step) (short_then tt old mid new a b c t g.made (d.strokes ++ others) g.makes (short_front mid new b c u d.strokes others short))) stops)

    module _ (header : HasHeader x) where
      giving_two : 2 ≤ number
      giving_two = leaked_two x header sound number low holds

      whole_then : IsWhole d.image
      whole_then =
          (bit_put AnyPage (λ bytes e. tt) (λ bytes e. tt) (base_of z) 1 number (drafted z) (omega arith) (fits_first AnyPage (base_of z) g.whole) giving_below (bit_inventory z g.whole 1 number giving_two giving_below)).fits.whole

      image_then : (after_strokes t (g.made ++ d.strokes)).base.image ≡ d.image
      image_then =
          ap (λ (w : Trail). w.base.image) (after_all-joined after_stroke t g.made d.strokes)
          ∙ image_is u number d (set_bit_keeps (IsOf u.base) (drafts_are u.base) 1 number (drafted z) (drafted_is u.base)) d.strokes refl

      -- nothing refuses the call
      pub giving_sure : (result : Result (Unit {0}) Fault) → Tested result (mark_cause z number) → IfErr result IsNoRefusal
      giving_sure result tested = sure_of result (mark_cause z number) (mark_none z number (record { sound = g.whole.sound; size = g.whole.fields.size; scn = g.whole.fields.scn }) giving_two giving_below) tested

      -- the page is given back
      pub giving_onward : (new : World) (c : Held) → Makes {T = Unit {0}} (Ok tt) mid new b c u d.strokes → IsGiving old new a c t (number + 1)
      giving_onward new c makes = record {
        made = g.made ++ d.strokes;
        makes = makes_then tt (Ok tt) old mid new a b c t g.made d.strokes g.makes makes;
        whole = subst IsWhole (sym image_then) whole_then;
        size = ap image_size image_then ∙ bit_size z g.whole 1 number giving_two giving_below ∙ g.size;
        longer = (let longer = g.longer in let more = bit_longer z g.whole 1 number giving_two giving_below in omega (arith, longer, more, ap length image_then));
        strokes = step ∙ sym (append_assoc g.made d.strokes (all_given (leaked_from x (number + 1)) (drafted d.image)).strokes)
            ∙ ap (λ (y : Image). (g.made ++ d.strokes) ++ (all_given (leaked_from x (number + 1)) (drafted y)).strokes) (sym image_then);
      }
