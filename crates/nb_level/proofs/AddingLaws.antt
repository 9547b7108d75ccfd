-- Two calls that append, as one.
use Rattle.std.proofs.Common.{◌≡◌, inl, inr, ⊎_elim, ℕ, ◌+◌, min, Bool, List, ◌++◌, length, take, Some, Result, Ok, Err, IsTrue, refl, sym, ap, ◌∙◌, subst, arith, append_assoc, length-append}
use Rattle.nb_level.proofs.Common.{cases_lt, take_at, take_all, take-append-le, File, Files, bytes_of, with_file, with_bytes}
use Rattle.std.proofs.Math.Seq.{take-append-add}
use Rattle.nb_host.specs.World.{World}
use Rattle.nb_host.specs.Crash.{AppendLeft}
use Rattle.nb_host.specs.Calls.{AppendsBytes, IsSilent, Steps}
use Rattle.nb_host.specs.Moments.{IsNow, Passes, Elapses}
use Rattle.nb_host.proofs.NameLaws.{with_file-same, with_file-again}
use Rattle.nb_level.specs.Adding.{TwoLeft, IsWhileAdding, AddsTwo}

-- a front of the first piece is one of both
front_of : (first second : List ℕ) (k : ℕ) → take (min k (length first)) (first ++ second) ≡ take k first
front_of first second k = elim (cases_lt k (length first)) [
  | inl below ↦ let e : min k (length first) ≡ k = omega arith in ap (λ n. take n (first ++ second)) e ∙ take-append-le k first second (omega arith)
  | inr above ↦
      let e : min k (length first) ≡ length first = omega arith in
      ap (λ n. take n (first ++ second)) e ∙ take_at first second (length first) refl ∙ sym (take_all k first (omega arith))
]

-- how long a file is
abbrev length_in : World → List ℕ → ℕ
length_in w name = length (bytes_of (w.files name))

module _ {T E : Type 0} (tells : Bool) (old mid : World) (name first second : List ℕ) (told : IsTrue tells) where
  -- the first call
  module _ (result : Result T E) (one : AppendsBytes tells result old mid name first) (silent : mid.said ≡ old.said) where
    left_mid : Steps old mid name (TwoLeft (length_in old name) first second)
    left_mid = record {
      back = one.left.back;
      now = λ c n. let b = one.left.now c n in (b.0, b.1, (c, b.2, inl refl));
      others = one.left.others;
    }

    during : (w : World) → Steps old w name (TwoLeft (length_in old name) first second) → w.said ≡ old.said → (files : Files) (said : List ℕ) → IsNow w files said → IsWhileAdding old name first second files said
    during w left quiet files said is = record {
      file = ⊎_elim (λ b. inl (left.back (files name) b)) (λ n. inr (left.now (files name) n)) (is.left name);
      others = λ m other. ⊎_elim (λ b. inl (left.others.back m (files m) other b)) (λ n. inr (left.others.now m (files m) other n)) (is.left m);
      output = is.output ∙ quiet;
    }

    begun : Passes old mid → Elapses old mid (IsWhileAdding old name first second)
    begun time = record {
      later = time.later;
      nothing_else = λ t files said le left. ⊎_elim inl (λ here. inr (during mid left_mid silent files said here)) (time.nothing_else t files said le left);
      keeps = time.keeps;
    }

  -- the first call failed
  pub adds-none : (y : E) → AppendsBytes {T = T} tells (Err y) old mid name first → IsSilent old mid → Passes old mid → AddsTwo {T = T} (Err y) old mid name first second
  adds-none y one silent time = record {
    files = ⊎_elim inl (λ part. inr (min part.0 (length first), part.1 ∙ ap (λ bytes. with_file old.files name (with_bytes (old.files name) bytes)) (sym (front_of first second part.0)))) (one.files told);
    left = left_mid (Err y) one silent.said;
    time = begun (Err y) one silent.said time;
  }

  -- the second call
  module _ (new : World) (x : T) (one : AppendsBytes {E = E} tells (Ok x) old mid name first) (silent : IsSilent old mid) (time : Passes old mid) where
    there : mid.files name ≡ with_bytes (old.files name) first
    there = ap (λ (f : Files). f name) (one.files told) ∙ with_file-same old.files name (with_bytes (old.files name) first)

    whole : (more : List ℕ) → with_file mid.files name (with_bytes (mid.files name) more) ≡ with_file old.files name (with_bytes (old.files name) (first ++ more))
    whole more =
        ap (λ (f : File). with_file mid.files name (with_bytes f more)) there
        ∙ ap (λ (bytes : List ℕ). with_file mid.files name (Some bytes)) (append_assoc (bytes_of (old.files name)) first more)
        ∙ ap (λ (fs : Files). with_file fs name (with_bytes (old.files name) (first ++ more))) (one.files told)
        ∙ with_file-again old.files name (with_bytes (old.files name) first) (with_bytes (old.files name) (first ++ more))

    longer : length_in mid name ≡ length_in old name + length first
    longer = ap (λ (f : File). length (bytes_of f)) there ∙ length-append (bytes_of (old.files name)) first

    module _ (result : Result T E) (two : AppendsBytes tells result mid new name second) (quiet : IsSilent mid new) (passes : Passes mid new) where
      left_new : Steps old new name (TwoLeft (length_in old name) first second)
      left_new = record {
        back = λ c b. one.left.back c (two.left.back c b);
        now = λ c n.
            let later = two.left.now c n in
            let before = one.left.now later.0 later.1 in
            (before.0, before.1, (later.0, before.2, subst (λ (l : ℕ). AppendLeft l second later.0 c) longer later.2));
        others = record {
          back = λ m c other b. one.left.others.back m c other (two.left.others.back m c other b);
          now = λ m c other n. one.left.others.now m c other (two.left.others.now m c other n);
        };
      }

      elapsed : Elapses old new (IsWhileAdding old name first second)
      elapsed =
          let so_far = begun (Ok x) one silent.said time in record {
            later = omega (arith, so_far.later, passes.later);
            nothing_else = λ t files said le left. ⊎_elim
                (so_far.nothing_else t files said le)
                (λ here. inr (during (Ok x) one silent.said new left_new (quiet.said ∙ silent.said) files said here))
                (passes.nothing_else t files said (omega (arith, le, so_far.later)) left);
            keeps = λ t files said le left. passes.keeps t files said (omega (arith, le, so_far.later)) (so_far.keeps t files said le left);
          }

    pub adds-both : (z : T) → AppendsBytes {E = E} tells (Ok z) mid new name second → IsSilent mid new → Passes mid new → AddsTwo {E = E} (Ok z) old new name first second
    adds-both z two quiet passes = record {
      files = two.files told ∙ whole second;
      left = left_new (Ok z) two quiet passes;
      time = elapsed (Ok z) two quiet passes;
    }

    pub adds-first : (y : E) → AppendsBytes {T = T} tells (Err y) mid new name second → IsSilent mid new → Passes mid new → AddsTwo {T = T} (Err y) old new name first second
    adds-first y two quiet passes = record {
      files = ⊎_elim
          (λ same. inr (length first, same ∙ one.files told ∙ ap (λ bytes. with_file old.files name (with_bytes (old.files name) bytes)) (sym (take_at first second (length first) refl))))
          (λ part. inr (length first + part.0, part.1 ∙ whole (take part.0 second) ∙ ap (λ bytes. with_file old.files name (with_bytes (old.files name) bytes)) (sym (take-append-add first second part.0))))
          (two.files told);
      left = left_new (Err y) two quiet passes;
      time = elapsed (Err y) two quiet passes;
    }

    pub adds-second : (result : Result T E) → AppendsBytes tells result mid new name second → IsSilent mid new → Passes mid new → AddsTwo result old new name first second
    adds-second (Ok z) = adds-both z
    adds-second (Err y) = adds-first y
