-- Bytes put at a place, one after the other, and after the end.
use Rattle.std.proofs.Common.{◌≡◌, ℕ, ◌+◌, ◌-◌, max, List, ◌++◌, length, take, drop, sym, ◌∙◌, ap, arith, length-append, length-drop, append_assoc}
use Rattle.nb_file.proofs.Common.{take_at, drop_at, drop-drop, drop_all, take_all, append-nil, padded, put_at, padded-short, length-front}

pub length-put_at : (bytes : List ℕ) (at : ℕ) (new : List ℕ) → length (put_at bytes at new) ≡ max (length bytes) (at + length new)
unfolding put_at
length-put_at bytes at new =
    omega (arith, length-front bytes at, length-append (take at (padded bytes at)) (new ++ drop (at + length new) bytes), length-append new (drop (at + length new) bytes), length-drop (at + length new) bytes)

-- right after a middle piece
onto : (front old rest new : List ℕ) (n : ℕ) → n ≡ length front + length old → put_at (front ++ (old ++ rest)) n new ≡ front ++ ((old ++ new) ++ drop (length new) rest)
unfolding put_at
onto front old rest new n is =
    (λ i. begun i ++ (new ++ left i)) ∙ append_assoc front old (new ++ drop (length new) rest) ∙ ap (λ (l : List ℕ). front ++ l) (sym (append_assoc old new (drop (length new) rest)))
  where
    both : length (front ++ old) ≡ n
    both = length-append front old ∙ sym is

    whole : (front ++ old) ++ rest ≡ front ++ (old ++ rest)
    whole = append_assoc front old rest

    begun : take n (padded (front ++ (old ++ rest)) n) ≡ front ++ old
    begun =
        ap (take n) (padded-short (front ++ (old ++ rest)) n (omega (arith, is, length-append front (old ++ rest), length-append old rest)))
        ∙ ap (take n) (sym whole) ∙ take_at (front ++ old) rest n both

    left : drop (n + length new) (front ++ (old ++ rest)) ≡ drop (length new) rest
    left = sym (drop-drop (length new) n (front ++ (old ++ rest))) ∙ ap (λ (l : List ℕ). drop (length new) (drop n l)) (sym whole) ∙ ap (drop (length new)) (drop_at (front ++ old) rest n both)

-- what is put right after what was put is as if both were put together
pub put_at-next : (file : List ℕ) (at : ℕ) (old new : List ℕ) (next : ℕ) → next ≡ at + length old → put_at file at (old ++ new) ≡ put_at (put_at file at old) next new
unfolding put_at
put_at-next file at old new next is = sym (
    onto (take at (padded file at)) old (drop (at + length old) file) new next (omega (arith, is, length-front file at))
    ∙ ap (λ (l : List ℕ). take at (padded file at) ++ ((old ++ new) ++ l))
    (drop-drop (length new) (at + length old) file ∙ ap (λ (k : ℕ). drop k file) (let e : at + length old + length new ≡ at + length (old ++ new) = omega (arith, length-append old new) in e)))

-- what is put at the end is added there
pub put_at-end : (file : List ℕ) (at : ℕ) (new : List ℕ) → at ≡ length file → put_at file at new ≡ file ++ new
unfolding put_at
put_at-end file at new is =
    (λ i. front i ++ (new ++ drop_all (at + length new) file (omega (arith, is)) i)) ∙ ap (λ (l : List ℕ). file ++ l) (append-nil new)
  where
    front : take at (padded file at) ≡ file
    front = ap (take at) (padded-short file at (omega (arith, is))) ∙ take_all at file (omega (arith, is))
