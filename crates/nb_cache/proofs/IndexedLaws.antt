-- An index stays true to the frames as they move.
use Rattle.std.proofs.Common.{◌≡◌, ℕ, zero, suc, ◌+◌, ◌-◌, ◌*◌, ◌<◌, ◌≤◌, nat_eq, false, inl, inr, List, [], ◌∷◌, ◌++◌, length, take, min, Some, None, refl, sym, ap, ◌∙◌, subst, arith, length-append, Contains, cond}
use Rattle.nb_cache.proofs.Common.{AllByRecursion, IsDistinct, keys_of, set_value, take-append-add, map-append, append-nil, take-append-le, Contains-append_cases, promoted, demoted, Frame, Index, Frames, NoneHolds, Split, FoundAt, IsLast, holder, places, room_of, Finds, IsIndexed}
use Rattle.nb_cache.proofs.IndexLaws.{places-at, Finds-front, Finds-entered, Finds-left, no-place, no-key, misses_behind}
use Rattle.nb_cache.proofs.ShownLaws.{promoted-split, demoted-split, set_value-split, set_value-promoted, length-split}

-- a frame that has come to the front
places-front : (held : ℕ) (x : ℕ × Frame) (before behind : Frames) → length before < held → places (take held (x ∷ (before ++ behind))) ≡ (x.1.page, x.0) ∷ (places before ++ places (take (held - suc (length before)) behind))
places-front held x before behind inside =
    let n : ℕ = held - suc (length before) in
    let e : held ≡ suc (length before + n) = omega arith in
    ap (λ m. places (take m (x ∷ (before ++ behind)))) e
    ∙ ap (λ l. (x.1.page, x.0) ∷ places l) (take-append-add before behind n)
    ∙ ap (λ l. (x.1.page, x.0) ∷ l) (map-append {B = ℕ × ℕ} (λ e. (e.1.page, e.0)) before (take n behind))

-- a frame that has gone to the end
places-back : (held : ℕ) (x : ℕ × Frame) (before behind : Frames) → length before < held → held ≤ suc (length (before ++ behind)) → places (take (held - 1) ((before ++ behind) ++ x ∷ [])) ≡ places before ++ places (take (held - suc (length before)) behind)
places-back held x before behind inside within =
    let n : ℕ = held - suc (length before) in
    let e : held - 1 ≡ length before + n = omega arith in
    ap places (take-append-le (held - 1) (before ++ behind) (x ∷ []) (omega arith))
    ∙ ap (λ m. places (take m (before ++ behind))) e
    ∙ ap places (take-append-add before behind n)
    ∙ map-append {B = ℕ × ℕ} (λ e. (e.1.page, e.0)) before (take n behind)

-- the frame of a page that is held
module _ (index : Index) (es : Frames) (held page key : ℕ) (found : FoundAt es held page key) (indexed : IsIndexed index es held) where
  abbrev split : Split es key
  split = found.split

  abbrev others : Frames
  others = split.before ++ split.behind

  abbrev P : List (ℕ × ℕ)
  P = places split.before

  abbrev Q : List (ℕ × ℕ)
  Q = places (take (held - suc (length split.before)) split.behind)

  in_places : Finds index (P ++ (page, key) ∷ Q)
  in_places = subst (λ (l : List (ℕ × ℕ)). Finds index l) (places-at es split.before (key, split.frame) split.behind held split.parts found.inside ∙ ap (λ (p : ℕ). P ++ (p, key) ∷ Q) (sym found.holds)) indexed.finds

  -- it comes to the front with the same page
  IsIndexed-front : (w : Frame) → page ≡ w.page → IsIndexed index ((key, w) ∷ others) held
  IsIndexed-front w same = record {
    finds = subst (λ (l : List (ℕ × ℕ)). Finds index l) (ap (λ (p : ℕ). (p, key) ∷ (P ++ Q)) same ∙ sym (places-front held (key, w) split.before split.behind found.inside)) (Finds-front index P (page, key) Q in_places);
    room = subst (λ (n : ℕ). 2 * n ≤ room_of index) (length-split es key split) indexed.room;
  }

  pub IsIndexed-promoted : IsIndexed index (promoted (nat_eq key) es) held
  IsIndexed-promoted = subst (λ (l : Frames). IsIndexed index l held) (sym (promoted-split es key split)) (IsIndexed-front split.frame found.holds)

  pub IsIndexed-renewed : (w : Frame) → page ≡ w.page → IsIndexed index (set_value (nat_eq key) (promoted (nat_eq key) es) w) held
  IsIndexed-renewed w same = subst (λ (l : Frames). IsIndexed index l held) (sym (set_value-promoted es key split w)) (IsIndexed-front w same)

  -- it keeps its place and its page
  pub IsIndexed-marked : (w : Frame) → w.page ≡ split.frame.page → IsIndexed index (set_value (nat_eq key) es w) held
  IsIndexed-marked w same =
      let now : Frames = split.before ++ (key, w) ∷ split.behind in
      let size : length now ≡ length es = length-append split.before ((key, w) ∷ split.behind) ∙ sym (ap length split.parts ∙ length-append split.before ((key, split.frame) ∷ split.behind)) in
      subst (λ (l : Frames). IsIndexed index l held) (sym (set_value-split es key split w)) (record {
        finds = subst (λ (l : List (ℕ × ℕ)). Finds index l) (ap (λ (p : ℕ). P ++ (p, key) ∷ Q) (found.holds ∙ sym same) ∙ sym (places-at now split.before (key, w) split.behind held refl found.inside)) in_places;
        room = subst (λ (n : ℕ). 2 * n ≤ room_of index) (sym size) indexed.room;
      })

  -- it goes to the end, and holds the page no longer
  pub IsIndexed-dropped : (new : Index) → ((q : ℕ) → holder new q ≡ cond (nat_eq page q) None (holder index q)) → room_of new ≡ room_of index → IsDistinct nat_eq (keys_of es) → held ≤ length es → IsIndexed new (demoted (nat_eq key) es) (held - 1)
  IsIndexed-dropped new left room distinct within =
      let x : ℕ × Frame = (key, split.frame) in
      let size = length-split es key split in
      let apart = misses_behind es split.before key split.frame split.behind split.parts distinct in
      let alone : (p : ℕ) → Contains (P ++ Q) (p, key) → ⊥ = λ p c. elim (Contains-append_cases P Q (p, key) c) [
        | inl front ↦ no-key key split.before split.only p front
        | inr back ↦ no-key key (take (held - suc (length split.before)) split.behind) (front_of (held - suc (length split.before)) split.behind apart) p back
      ] in
      subst (λ (l : Frames). IsIndexed new l (held - 1)) (sym (demoted-split es key split)) (record {
        finds = subst (λ (l : List (ℕ × ℕ)). Finds new l) (sym (places-back held x split.before split.behind found.inside (omega arith))) (Finds-left index new page key left P Q in_places alone);
        room = omega (arith, length-append others (x ∷ []), indexed.room);
      }) where
        front_of : (n : ℕ) (l : Frames) → AllByRecursion (λ e. nat_eq key e.0 ≡ false) l → AllByRecursion (λ e. nat_eq key e.0 ≡ false) (take n l)
        front_of zero l all = tt
        front_of (suc n) [] all = tt
        front_of (suc n) (e ∷ l) all = (all.0, front_of n l all.1)

-- a page that was not held, in the frame that was used least recently
pub IsIndexed-put : (old new : Index) (es : Frames) (held page key cap : ℕ) (last : IsLast es key) (w : Frame) → Finds old (places (take (min held (length es - 1)) es)) → ((q : ℕ) → holder new q ≡ cond (nat_eq page q) (Some key) (holder old q)) → NoneHolds page (take held es) → page ≡ w.page → 2 * length es ≤ room_of new → length es ≡ cap → held ≤ cap → IsIndexed new (set_value (nat_eq key) (promoted (nat_eq key) es) w) (min (held + 1) cap)
IsIndexed-put old new es held page key cap last w finds entered none same room all within =
    let y : ℕ × Frame = (key, w) in
    let front : Frames = last.split.before in
    let k : ℕ = min held (length es - 1) in
    let size = length-split es key last.split in
    let behind : front ++ last.split.behind ≡ front = ap (λ l. front ++ l) last.last ∙ append-nil front in
    let parts : es ≡ front ++ (key, last.split.frame) ∷ [] = last.split.parts ∙ ap (λ l. front ++ (key, last.split.frame) ∷ l) last.last in
    let short : length front ≡ length es - 1 = omega (arith, ap length behind) in
    let one : min (held + 1) cap ≡ suc k = omega arith in
    let same_front : take k front ≡ take k es = sym (take-append-le k front ((key, last.split.frame) ∷ []) (omega arith)) ∙ ap (take k) (sym parts) in
    let places_now : (page, key) ∷ places (take k es) ≡ places (take (min (held + 1) cap) (y ∷ (front ++ last.split.behind))) =
    ap (λ (p : ℕ). (p, key) ∷ places (take k es)) same
    ∙ ap (λ l. (w.page, key) ∷ places l) (sym same_front)
    ∙ ap (λ m. places (take m (y ∷ front))) (sym one)
    ∙ ap (λ l. places (take (min (held + 1) cap) (y ∷ l))) (sym behind) in
    let absent : (n : ℕ) → Contains (places (take k es)) (page, n) → ⊥ = no-place page (take k es) (fewer es k held none (omega arith)) in
    subst (λ (l : Frames). IsIndexed new l (min (held + 1) cap)) (sym (set_value-promoted es key last.split w)) (record {
      finds = subst (λ (l : List (ℕ × ℕ)). Finds new l) places_now (Finds-entered old new page key entered (places (take k es)) finds absent);
      room = omega (arith, size, room);
    }) where
      fewer : (l : Frames) (m n : ℕ) → NoneHolds page (take n l) → m ≤ n → NoneHolds page (take m l)
      fewer l zero n all le = tt
      fewer [] (suc m) n all le = tt
      fewer (e ∷ l) (suc m) zero all le = absurd (omega arith)
      fewer (e ∷ l) (suc m) (suc n) all le = (all.0, fewer l m n all.1 (omega arith))
