-- Bytes of a file whose length is set before they are put, and set back.
use Rattle.std.proofs.Common.{◌≡◌, ℕ, ◌+◌, ◌-◌, ◌*◌, ◌≤◌, ◌<◌, ◌⊎◌, inl, inr, Result, Ok, Err, OnOk, OnErr, is_ok, if◌then◌else◌, List, ◌++◌, length, take, drop, sym, ◌∙◌, ap, subst, arith, length-append, length-take, append_assoc, replicate}
use Rattle.nb_file.proofs.Common.{take-take, take-append-le, take_all, drop_all, length-replicate, replicate-append-replicate, cases_lt, padded, put_at, resized, IsBegun, IsSameUpTo, IsWhole, padded-short, length-front}
use Rattle.std.proofs.Math.Nat.{mod-one, mul-add-mod_self_right, mod_self}
use Rattle.nb_file.proofs.PutLaws.{length-put_at}

pub length-resized : (bytes : List ℕ) (len : ℕ) → length (resized bytes len) ≡ len
length-resized bytes len = length-front bytes len

-- what is cut off is a front
pub resized-short : (bytes : List ℕ) (len : ℕ) → len ≤ length bytes → resized bytes len ≡ take len bytes
resized-short bytes len short = ap (take len) (padded-short bytes len short)

-- more zeros after a place change nothing before it
padded-more : (bytes : List ℕ) (at end : ℕ) → length bytes ≤ end → at ≤ end → take at (padded bytes end) ≡ take at (padded bytes at)
unfolding padded
padded-more bytes at end behind within =
    ap (λ (n : ℕ). take at (bytes ++ replicate n 0)) (let e : end - length bytes ≡ (at - length bytes) + (end - length bytes - (at - length bytes)) = omega arith in e)
    ∙ ap (λ (l : List ℕ). take at (bytes ++ l)) (sym (replicate-append-replicate (at - length bytes) (end - length bytes - (at - length bytes)) 0))
    ∙ ap (take at) (sym (append_assoc bytes (replicate (at - length bytes) 0) (replicate (end - length bytes - (at - length bytes)) 0)))
    ∙ take-append-le at (bytes ++ replicate (at - length bytes) 0) (replicate (end - length bytes - (at - length bytes)) 0) (omega (arith, length-append bytes (replicate (at - length bytes) 0), length-replicate {A = ℕ} (at - length bytes) 0))

-- what is put up to the new end is put as into the shorter file
pub put_at-resized : (bytes : List ℕ) (at : ℕ) (new : List ℕ) (end : ℕ) → length bytes ≤ end → end ≡ at + length new → put_at (resized bytes end) at new ≡ put_at bytes at new
unfolding put_at
put_at-resized bytes at new end behind ends =
    (λ i. front i ++ (new ++ rest i))
  where
    front : take at (padded (resized bytes end) at) ≡ take at (padded bytes at)
    front = ap (take at) (padded-short (resized bytes end) at (omega (arith, ends, length-resized bytes end)))
        ∙ take-take at end (padded bytes end) (omega (arith, ends)) ∙ padded-more bytes at end behind (omega (arith, ends))

    rest : drop (at + length new) (resized bytes end) ≡ drop (at + length new) bytes
    rest = drop_all (at + length new) (resized bytes end) (omega (arith, ends, length-resized bytes end)) ∙ sym (drop_all (at + length new) bytes (omega (arith, ends, behind)))

-- a write within a file leaves its length, also where it fails
pub length-begun : (before : List ℕ) (at : ℕ) (new after : List ℕ) → IsBegun before at new after → at + length new ≤ length before → length after ≡ length before
length-begun before at new after (inl same) within = ap length same
length-begun before at new after (inr (k, put)) within = ap length put ∙ length-put_at before at (take k new) ∙ omega (arith, within, length-take k new)

-- and what stands before its place
pub front-begun : (before : List ℕ) (at : ℕ) (new after : List ℕ) → IsBegun before at new after → at ≤ length before → take at after ≡ take at before
unfolding put_at
front-begun before at new after (inl same) within = ap (take at) same
front-begun before at new after (inr (k, put)) within =
    ap (take at) put
    ∙ take-append-le at (take at (padded before at)) (take k new ++ drop (at + length (take k new)) before) (omega (arith, length-front before at))
    ∙ take-take at at (padded before at) (omega arith) ∙ ap (take at) (padded-short before at within)

-- a write within a file that failed
pub same-begun : (before : List ℕ) (at : ℕ) (new after : List ℕ) → IsBegun before at new after → at + length new ≤ length before → IsSameUpTo at before after
same-begun before at new after begun within = record {
  len = length-begun before at new after begun within;
  front = front-begun before at new after begun (omega (arith, within));
}

module _ (old : List ℕ) (at : ℕ) (new : List ℕ) (end : ℕ) (after : List ℕ) (behind : length old < end) (ends : end ≡ at + length new) (begun : IsBegun (resized old end) at new after) where
  -- a write up to the new end leaves it
  pub grown : length after ≡ end
  grown = length-begun (resized old end) at new after begun (omega (arith, ends, length-resized old end)) ∙ length-resized old end

  -- and where the old length is set back, nothing is left of it after the old end
  pub set_back : IsSameUpTo at old (resized after (length old))
  set_back = record {
    len = length-resized after (length old);
    front = front;
  } where
    short : resized after (length old) ≡ take (length old) after
    short = resized-short after (length old) (omega (arith, behind, grown))

    same : take at after ≡ take at (resized old end)
    same = front-begun (resized old end) at new after begun (omega (arith, ends, length-resized old end))

    old_front : (n : ℕ) → n ≤ length old → take n (resized old end) ≡ take n old
    old_front n within = take-take n end (padded old end) (omega (arith, within, behind)) ∙ padded-more old n end (omega (arith, behind)) (omega (arith, within, behind)) ∙ ap (take n) (padded-short old n within)

    before_old_end : at ≤ length old → take at (resized after (length old)) ≡ take at old
    before_old_end within = ap (take at) short ∙ take-take at (length old) after within ∙ same ∙ old_front at within

    kept : length old ≤ at → resized after (length old) ≡ old
    kept past = short ∙ sym (take-take (length old) at after past) ∙ ap (take (length old)) same
        ∙ take-take (length old) at (resized old end) past ∙ old_front (length old) (omega arith) ∙ take_all (length old) old (omega arith)

    front : take at (resized after (length old)) ≡ take at old
    front = elim (cases_lt at (length old)) [ inl l ↦ before_old_end (omega (arith, l)) | inr l ↦ ap (take at) (kept l) ]

  -- whether the old length is set back or not, whole pages are left
  pub whole-set_back : {E : Type 0} (r : Result Unit E) (left : List ℕ) (piece : ℕ) → OnOk r (left ≡ resized after (length old)) → OnErr r (left ≡ after) → IsWhole piece (length old) → IsWhole piece end → IsWhole piece (length left)
  whole-set_back (Ok u) left piece cut kept was is = subst (IsWhole piece) (sym (ap length cut ∙ length-resized after (length old))) was
  whole-set_back (Err e) left piece cut kept was is = subst (IsWhole piece) (sym (ap length kept ∙ grown)) is

  -- where of the three calls one alone failed, the old length was set back
  pub undone-set_back : {E : Type 0} (r : Result Unit E) (left : List ℕ) (none one two : ℕ) → OnOk r (left ≡ resized after (length old)) → one ≡ none + 1 → two ≡ (if is_ok r then one else one + 1) → two ≡ none + 1 → IsSameUpTo at old left
  undone-set_back (Ok u) left none one two cut first last once = subst (IsSameUpTo at old) (sym cut) set_back
  undone-set_back (Err e) left none one two cut first last once = absurd (omega (arith, first, last, once))

-- a page's end is a whole number of pages
pub page-ends : (index page : ℕ) → IsWhole page (index * page + page)
page-ends index page = mul-add-mod_self_right index page page ∙ mod_self page

-- single bytes are always whole
pub single : (len : ℕ) → IsWhole 1 len
single len = mod-one len

-- a write within a file, or of single bytes, leaves whole pieces, also where it fails
pub whole-within : {E : Type 0} (r : Result Unit E) (piece at : ℕ) (new before after : List ℕ)
    → (piece ≡ 1) ⊎ (at + length new ≤ length before) → OnOk r (after ≡ put_at before at new) → OnErr r (IsBegun before at new after) → IsWhole piece (length before) → IsWhole piece (length after)
whole-within r piece at new before after (inl one) put begun whole = subst (λ n. IsWhole n (length after)) (sym one) (single (length after))
whole-within (Ok u) piece at new before after (inr within) put begun whole = subst (IsWhole piece) (sym (ap length put ∙ length-put_at before at new ∙ omega (arith, within))) whole
whole-within (Err e) piece at new before after (inr within) put begun whole = subst (IsWhole piece) (sym (length-begun before at new after begun within)) whole

-- and of pages, where it fails, what stands before it
pub same-within : {E : Type 0} (r : Result Unit E) (P : Type 0) (piece at : ℕ) (new before after : List ℕ)
    → (piece ≡ 1) ⊎ (at + length new ≤ length before) → OnErr r (IsBegun before at new after) → 1 < piece → OnErr r (P → IsSameUpTo at before after)
same-within r P piece at new before after (inl one) begun many = absurd (omega (arith, one, many))
same-within (Ok u) P piece at new before after (inr within) begun many = tt
same-within (Err e) P piece at new before after (inr within) begun many = λ p. same-begun before at new after begun within
