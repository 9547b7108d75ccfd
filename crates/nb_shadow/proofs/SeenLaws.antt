-- What one call of a host, and what the same call on a file and then on its twin, comes to where it is seen through the pair.
use Rattle.std.proofs.Common.{◌≡◌, ◌≢◌, ◌⊎◌, inl, inr, ⊎_elim, ℕ, ◌≤◌, List, refl, sym, ◌∙◌, ap, subst, arith}
use Rattle.std.specs.Prelude.{None}
use Rattle.nb_host.specs.Files.{File, Files, with_file}
use Rattle.nb_host.specs.World.{World}
use Rattle.nb_host.specs.Crash.{Leaves, Untouched}
use Rattle.nb_host.specs.Calls.{IsStill, Steps, IsSilent}
use Rattle.nb_host.specs.Moments.{IsNow, IsTimely, Elapses, Passes, PassesSaying}
use Rattle.nb_host.proofs.NameLaws.{decide, with_file-other, with_file-again, with_file-swap}
use Rattle.nb_change.proofs.MomentLaws.{left_before, untouched_joined, untouched_fewer}
use Rattle.nb_change.proofs.ChangesLaws.{left_with}
use Rattle.nb_shadow.specs.declared.pair.Pair.{Pair}
use Rattle.nb_shadow.specs.Mirror.{IsSideOf, mirrored}
use Rattle.nb_shadow.specs.MirrorLaws.{ReadsLeft, file_left, alone_back, alone_now, either_back, either_now, left_alone, side_left}

module _ (p : Pair) where
  -- the files that are the same below are so above
  pub seen_same : (a b : World) → b.files ≡ a.files → (mirrored p b).files ≡ (mirrored p a).files
  seen_same a b is = ap (λ (f : Files). with_file f p.copy None) is

  -- a file that was written is so above
  pub seen_written : (a b : World) (name : List ℕ) (file : File) → name ≢ p.copy → b.files ≡ with_file a.files name file → (mirrored p b).files ≡ with_file (mirrored p a).files name file
  seen_written a b name file off is = seen_same (record a { files = with_file a.files name file }) b is ∙ with_file-swap a.files name p.copy file None off

  -- what was done to the twin isn't seen
  pub unseen : (a b : World) (file : File) → b.files ≡ with_file a.files p.copy file → (mirrored p b).files ≡ (mirrored p a).files
  unseen a b file is = seen_same (record a { files = with_file a.files p.copy file }) b is ∙ with_file-again a.files p.copy file None

module _ (p : Pair) (apart : p.file ≢ p.copy) where
  -- a file that is no twin reads as it does below
  pub reads_below : (w : World) (m : List ℕ) → m ≢ p.copy → (mirrored p w).files m ≡ w.files m
  reads_below w m off = with_file-other w.files p.copy None m off

  -- names of which nothing was gained below gained nothing above; where the file is among them its twin has to be
  pub seen_untouched : (a b : World) (names few : List ℕ → Type 0) → Untouched a b names → ((m : List ℕ) → few m → m ≢ p.copy → names m) → (few p.file → names p.copy) → Untouched (mirrored p a) (mirrored p b) few
  seen_untouched a b names few is own twin = record { back = λ m c in_few left. back m c in_few left; now = λ m c in_few left. now m c in_few left }
    where
      back : (m : List ℕ) (c : File) → few m → (mirrored p b).back m c → (mirrored p a).back m c
      back m c in_few (off, inl left) = (off, inl (is.back m c (own m in_few off) left))
      back m c in_few (off, inr left) = (off, inr (left.0, is.back p.copy c (twin (subst few left.0 in_few)) left.1))

      now : (m : List ℕ) (c : File) → few m → (mirrored p b).now m c → (mirrored p a).now m c
      now m c in_few (inl hidden) = inl hidden
      now m c in_few (inr (off, inl left)) = inr (off, inl (is.now m c (own m in_few off) left))
      now m c in_few (inr (off, inr left)) = inr (off, inr (left.0, is.now p.copy c (twin (subst few left.0 in_few)) left.1))

  -- of all names but one that is neither
  pub seen_others : (a b : World) (name : List ℕ) → name ≢ p.copy → Untouched a b (λ m. m ≢ name) → Untouched (mirrored p a) (mirrored p b) (λ m. m ≢ name)
  seen_others a b name off is = seen_untouched a b (λ m. m ≢ name) (λ m. m ≢ name) is (λ m other away. other) (λ other at. off (sym at))

  -- of all names but the file's, where below it and its twin alone were touched
  pub seen_both : (a b c : World) → Untouched a b (λ m. m ≢ p.file) → Untouched b c (λ m. m ≢ p.copy) → Untouched (mirrored p a) (mirrored p c) (λ m. m ≢ p.file)
  seen_both a b c first second =
      let neither : List ℕ → Type 0 = λ m. (m ≢ p.file) × (m ≢ p.copy) in
      seen_untouched a c neither (λ m. m ≢ p.file)
      (untouched_joined a b c neither (untouched_fewer a b (λ m. m ≢ p.file) neither first (λ m is. is.0)) (untouched_fewer b c (λ m. m ≢ p.copy) neither second (λ m is. is.1)))
      (λ m other off. (other, off)) (λ other. absurd (other refl))

  pub seen_kept : (a b c : World) → Untouched b a (λ m. m ≢ p.file) → Untouched c b (λ m. m ≢ p.copy) → Untouched (mirrored p c) (mirrored p a) (λ m. m ≢ p.file)
  seen_kept a b c first second =
      let neither : List ℕ → Type 0 = λ m. (m ≢ p.file) × (m ≢ p.copy) in
      seen_untouched c a neither (λ m. m ≢ p.file)
      (untouched_joined c b a neither (untouched_fewer c b (λ m. m ≢ p.copy) neither second (λ m is. is.1)) (untouched_fewer b a (λ m. m ≢ p.file) neither first (λ m is. is.0)))
      (λ m other off. (other, off)) (λ other. absurd (other refl))

  pub seen_still : (a b : World) → IsStill a b → IsStill (mirrored p a) (mirrored p b)
  seen_still a b still = record { files = seen_same p a b still.files; left = seen_untouched a b (λ _. Unit {0}) (λ _. Unit {0}) still.left (λ m any off. tt) (λ any. tt) }

  pub seen_silent : (a b : World) → IsSilent a b → IsSilent (mirrored p a) (mirrored p b)
  seen_silent a b silent = record { said = silent.said; reads = silent.reads; guids = silent.guids; times = silent.times }

  -- moments
  seen_elapses : (a b : World) (here above : Files → List ℕ → Type 0) → ((all files : Files) (said : List ℕ) → IsSideOf p all files → here all said → above files said) → Elapses a b here → Elapses (mirrored p a) (mirrored p b) above
  seen_elapses a b here above goes time = record {
    later = time.later;
    nothing_else = λ t files said le since. ⊎_elim (λ old. inl (since.0, old, since.2)) (λ now. inr (goes since.0 files said since.2 now)) (time.nothing_else t since.0 said le since.1);
    keeps = λ t files said le since. (since.0, time.keeps t since.0 said le since.1, since.2);
  }

  pub seen_passes : (a b : World) → Passes a b → Passes (mirrored p a) (mirrored p b)
  seen_passes a b time = seen_elapses a b _ _ (λ all files said of now. record { left = side_left p apart b all files of now.left; output = now.output }) time

  pub seen_saying : (a b : World) → PassesSaying a b → PassesSaying (mirrored p a) (mirrored p b)
  seen_saying a b time = seen_elapses a b _ _ (λ all files said of now. record { left = side_left p apart b all files of now.left; no_shorter = now.no_shorter; part = now.part }) time

  -- Between the call on the file and that on its twin a crash leaves, on the file's side, what it leaves after both, and on the twin's
  -- side what it left before both.
  module _ (a b c : World) (reads : ReadsLeft a) (timely : IsTimely a) (first : Untouched a b (λ m. m ≢ p.file)) (second : Untouched c b (λ m. m ≢ p.copy)) (quiet : b.said ≡ a.said) (still_quiet : c.said ≡ b.said) where
    between : (t : ℕ) (all files : Files) (said : List ℕ) → t ≤ a.moment → IsSideOf p all files → IsNow b all said → (mirrored p a).left_since t files said ⊎ IsNow (mirrored p c) files said
    between t all files said le of now = by of.side
      where
        after : (m : List ℕ) → m ≢ p.copy → (files p.file ≡ all p.file) → Leaves b m (files m)
        after m off own = ⊎_elim
            (λ (at : m ≡ p.file). subst (λ (n : List ℕ). Leaves b n (files n)) (sym at) (subst (λ (f : File). Leaves b p.file f) (sym own) (now.left p.file)))
            (λ (other : m ≢ p.file). subst (λ (f : File). Leaves b m f) (sym (of.others m other off)) (now.left m))
            (decide m p.file)

        before : Files
        before = with_file all p.file (a.files p.file)

        by : (files p.file ≡ all p.file) ⊎ (files p.file ≡ all p.copy) → (mirrored p a).left_since t files said ⊎ IsNow (mirrored p c) files said
        by (inl own) = inr (record {
          left = left_alone p apart c files of.hidden (λ m off. file_left p apart c m (files m) off (left_before c b (λ m. m ≢ p.copy) second m (files m) off (after m off own)));
          output = now.output ∙ sym still_quiet;
        })
        by (inr twin) = inl (
          before,
          subst (λ (s : List ℕ). a.left_since t before s) (sym (now.output ∙ quiet))
              (timely.counts_now t before le (left_with a p.file all (a.files p.file) (λ m other. left_before a b (λ m. m ≢ p.file) first m (all m) other (now.left m)) (reads p.file))),
          record {
            hidden = of.hidden;
            side = inr (twin ∙ sym (with_file-other all p.file (a.files p.file) p.copy (λ at. apart (sym at))));
            others = λ m other off. of.others m other off ∙ sym (with_file-other all p.file (a.files p.file) m other);
          },
        )

    pub both_pass : Passes a b → Passes b c → Passes (mirrored p a) (mirrored p c)
    both_pass time after = record {
      later = omega (arith, time.later, after.later);
      nothing_else = λ t files said le since.
          ⊎_elim
          (λ mid. ⊎_elim (λ old. inl (since.0, old, since.2)) (λ now. between t since.0 files said le since.2 now) (time.nothing_else t since.0 said le mid))
          (λ now. inr (record { left = side_left p apart c since.0 files since.2 now.left; output = now.output }))
          (after.nothing_else t since.0 said (so_far t le) since.1);
      keeps = λ t files said le since. (since.0, after.keeps t since.0 said (so_far t le) (time.keeps t since.0 said le since.1), since.2);
    }
      where
        so_far : (t : ℕ) → t ≤ a.moment → t ≤ b.moment
        so_far t le = omega (arith, le, time.later)

  -- a file that is neither goes on by a step
  pub seen_steps : (a b : World) (name : List ℕ) (step : File → File → Type 0) → name ≢ p.file → name ≢ p.copy → Steps a b name step → Steps (mirrored p a) (mirrored p b) name step
  seen_steps a b name step other off steps = record {
    back = λ c left. (off, inl (steps.back c (alone_back p apart b name c other left)));
    now = λ c left. let from = steps.now c (alone_now p apart b name c other off left) in (from.0, inr (off, inl from.1), from.2);
    others = seen_others a b name off steps.others;
  }

  -- the file goes on by a step, and then its twin
  pub both_step : (a b c : World) (step : File → File → Type 0) → Steps a b p.file step → Steps b c p.copy step → Steps (mirrored p a) (mirrored p c) p.file step
  both_step a b c step first second = record {
    back = λ f left. ⊎_elim
        (λ own. (apart, inl (first.back f (second.others.back p.file f apart own))))
        (λ twin. (apart, inr (refl, first.others.back p.copy f away (second.back f twin))))
        (either_back p apart c f left);
    now = λ f left. ⊎_elim
        (λ own. let from = first.now f (second.others.now p.file f apart own) in (from.0, inr (apart, inl from.1), from.2))
        (λ twin. let from = second.now f twin in (from.0, inr (apart, inr (refl, first.others.now p.copy from.0 away from.1)), from.2))
        (either_now p apart c f left);
    others = seen_both a b c first.others second.others;
  }
    where
      away : p.copy ≢ p.file
      away at = apart (sym at)
