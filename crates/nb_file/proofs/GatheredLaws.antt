-- What a file holds with what waits for it.
use Rattle.std.proofs.Common.{◌≡◌, ℕ, true, false, List, ◌++◌, length, Option, None, Some, arith, sym, ◌∙◌, ap, cond, is_none}
use Rattle.nb_file.proofs.Common.{put_at, seen, is_owner, IsNext, IsFreeFor}
use Rattle.nb_file.proofs.PutLaws.{put_at-next}

-- of its owner, what waits is put over the file
pub seen-owner : (own : Option (List ℕ)) (at : ℕ) (bytes name file : List ℕ) → is_owner own name ≡ true → seen own at bytes name file ≡ put_at file at bytes
seen-owner None at bytes name file is = cc
seen-owner (Some own) at bytes name file is = ap (λ b. cond b (put_at file at bytes) file) is

-- where something waits and it is nobody else's, it is this file's
pub owns : (own : Option (List ℕ)) (name : List ℕ) → is_none own ≡ false → IsFreeFor own name → is_owner own name ≡ true
owns None name some free = cc
owns (Some own) name some free = grind (arith, free)

-- more waits right after
pub seen-more : (own : Option (List ℕ)) (at : ℕ) (old new name : List ℕ) (next : ℕ) → is_none own ≡ false → IsNext own at (length old) next → IsFreeFor own name → (file : List ℕ)
    → seen own at (old ++ new) name file ≡ put_at (seen own at old name file) next new
seen-more None at old new name next some is free file = cc
seen-more (Some own) at old new name next some is free file =
    seen-owner (Some own) at (old ++ new) name file mine ∙ put_at-next file at old new next is ∙ ap (λ (l : List ℕ). put_at l next new) (sym (seen-owner (Some own) at old name file mine))
  where
    mine : is_owner (Some own) name ≡ true
    mine = owns (Some own) name some free
