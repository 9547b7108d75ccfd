-- A file that isn't one of an open database's two is touched alone.
use Rattle.std.proofs.Common.{inl, inr, ℕ, List, refl, subst, ◌∙◌}
use Rattle.nb_copy.proofs.Common.{File, Files, with_file, World, Leaves, LeavesAll, Names, Other, Changes, left_with, left_before, with_file-same, with_file-other, delta_name, Trail, OfFiles, Held, IsOpen, name_of, open_beside}
use Rattle.nb_base.proofs.WriteLaws.{main_apart}

module _ (old new : World) (a : Held) (t : Trail) (is : IsOpen old a t) (reads : (m : List ℕ) → Leaves old m (old.files m)) (others : Names) (apart : (m : List ℕ) → others m → OfFiles (name_of a) m → ⊥)
    (P : Files → Type 0) (changes : Changes old new others P) where
  abbrev main : List ℕ
  main = name_of a

  abbrev delta : List ℕ
  delta = delta_name (name_of a)

  -- what a crash leaves of the two files it would have left beside the others as they read
  own_left : (Q : File → File → Type 0) → ((files : Files) → LeavesAll old files → Q (files (name_of a)) (files (delta_name (name_of a)))) → (files : Files) → ((m : List ℕ) → Other others m → Leaves old m (files m))
      → Q (files (name_of a)) (files (delta_name (name_of a)))
  own_left Q left files same =
      let first : Files = with_file old.files main (files main) in
      let both : Files = with_file first delta (files delta) in
      let all : LeavesAll old both =
      left_with old delta first (files delta) (λ m other. left_with old main old.files (files main) (λ n off. reads n) (same main (λ one. apart main one (inl refl))) m) (same delta (λ one. apart delta one (inr refl))) in
      subst (λ (f : File). Q f (files delta)) (with_file-other first delta (files delta) main (main_apart main) ∙ with_file-same old.files main (files main))
      (subst (λ (d : File). Q (both main) d) (with_file-same first delta (files delta)) (left both all))

  -- the database stays open
  pub open_aside : IsOpen new a t
  open_aside =
      open_beside old new a t is (changes.others_read main (λ one. apart main one (inl refl))) (changes.others_read delta (λ one. apart delta one (inr refl)))
      (λ Q left files all. own_left Q left files (λ m other. left_before old new (Other others) changes.others m (files m) other (all m)))
