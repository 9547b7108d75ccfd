-- What is seen through a pair is the world of a host again.
use Rattle.std.proofs.Common.{◌≡◌, ◌≢◌, ◌⊎◌, inl, inr, ⊎_elim, ℕ, Bool, true, false, List, [], refl, sym, ◌∙◌, ap, subst, IsTrue}
use Rattle.std.specs.Prelude.{None}
use Rattle.std.proofs.lemmas.Bool.{false≢true}
use Rattle.nb_host.specs.Files.{File, Files, with_file}
use Rattle.nb_host.specs.World.{World}
use Rattle.nb_host.specs.Crash.{Leaves, LeavesAll}
use Rattle.nb_host.specs.Moments.{IsTimely}
use Rattle.nb_host.proofs.NameLaws.{decide, with_file-same, with_file-other}
use Rattle.nb_change.proofs.ChangesLaws.{left_with}
use Rattle.nb_shadow.specs.declared.pair.Pair.{Pair}
use Rattle.nb_shadow.specs.declared.pair.Pairs.{Pairs}
use Rattle.nb_shadow.specs.Pairs.{AreApart}
use Rattle.nb_shadow.specs.Mirror.{IsSideOf, mirrored}
use Rattle.nb_shadow.specs.Shadowed.{silence, shadowed}

-- what reads is among what a crash leaves
abbrev pub ReadsLeft : World → Type 0
ReadsLeft w = (m : List ℕ) → Leaves w m (w.files m)

module _ (p : Pair) (apart : p.file ≢ p.copy) (w : World) where
  -- what a crash leaves below it leaves above
  pub file_left : (m : List ℕ) (c : File) → m ≢ p.copy → Leaves w m c → Leaves (mirrored p w) m c
  file_left m c other (inl back) = inl (other, inl back)
  file_left m c other (inr now) = inr (inr (other, inl now))

  pub copy_left : (c : File) → Leaves w p.copy c → Leaves (mirrored p w) p.file c
  copy_left c (inl back) = inl (apart, inr (refl, back))
  copy_left c (inr now) = inr (inr (apart, inr (refl, now)))

  -- and of a file that has no twin nothing else
  pub alone_back : (m : List ℕ) (c : File) → m ≢ p.file → (mirrored p w).back m c → w.back m c
  alone_back m c other (off, inl back) = back
  alone_back m c other (off, inr twin) = absurd (other twin.0)

  pub alone_now : (m : List ℕ) (c : File) → m ≢ p.file → m ≢ p.copy → (mirrored p w).now m c → w.now m c
  alone_now m c other off (inl hidden) = absurd (off hidden.0)
  alone_now m c other off (inr (away, inl now)) = now
  alone_now m c other off (inr (away, inr twin)) = absurd (other twin.0)

  alone_left : (m : List ℕ) (c : File) → m ≢ p.file → m ≢ p.copy → Leaves (mirrored p w) m c → Leaves w m c
  alone_left m c other off (inl back) = inl (alone_back m c other back)
  alone_left m c other off (inr now) = inr (alone_now m c other off now)

  -- of the file it is either side
  pub either_back : (c : File) → (mirrored p w).back p.file c → w.back p.file c ⊎ w.back p.copy c
  either_back c (off, inl own) = inl own
  either_back c (off, inr twin) = inr twin.1

  pub either_now : (c : File) → (mirrored p w).now p.file c → w.now p.file c ⊎ w.now p.copy c
  either_now c (inl hidden) = absurd (apart hidden.0)
  either_now c (inr (off, inl own)) = inl own
  either_now c (inr (off, inr twin)) = inr twin.1

  either_left : (c : File) → Leaves (mirrored p w) p.file c → Leaves w p.file c ⊎ Leaves w p.copy c
  either_left c (inl back) = ⊎_elim (λ own. inl (inl own)) (λ twin. inr (inl twin)) (either_back c back)
  either_left c (inr now) = ⊎_elim (λ own. inl (inr own)) (λ twin. inr (inr twin)) (either_now c now)

  -- files without the twin of which each other one is left
  pub left_alone : (files : Files) → files p.copy ≡ None → ((m : List ℕ) → m ≢ p.copy → Leaves (mirrored p w) m (files m)) → LeavesAll (mirrored p w) files
  left_alone files hidden left m = ⊎_elim
      (λ (at : m ≡ p.copy). inr (inl (at, ap files at ∙ hidden)))
      (λ (off : m ≢ p.copy). left m off)
      (decide m p.copy)

  -- either side of what is left below is left above
  pub side_left : (all files : Files) → IsSideOf p all files → LeavesAll w all → LeavesAll (mirrored p w) files
  side_left all files of left = left_alone files of.hidden (λ m off. ⊎_elim
      (λ (at : m ≡ p.file). subst (λ (n : List ℕ). Leaves (mirrored p w) n (files n)) (sym at) (by of.side))
      (λ (other : m ≢ p.file). file_left m (files m) off (subst (λ (f : File). Leaves w m f) (sym (of.others m other off)) (left m)))
      (decide m p.file))
    where
      by : (files p.file ≡ all p.file) ⊎ (files p.file ≡ all p.copy) → Leaves (mirrored p w) p.file (files p.file)
      by (inl own) = file_left p.file (files p.file) apart (subst (λ (f : File). Leaves w p.file f) (sym own) (left p.file))
      by (inr twin) = copy_left (files p.file) (subst (λ (f : File). Leaves w p.copy f) (sym twin) (left p.copy))

  -- and what is left above is a side of what is left below
  pub whole_left : ReadsLeft w → (files : Files) → LeavesAll (mirrored p w) files → (all : Files) × LeavesAll w all × IsSideOf p all files
  whole_left reads files left = by (either_left (files p.file) (left p.file))
    where
      hidden_in : Leaves (mirrored p w) p.copy (files p.copy) → files p.copy ≡ None
      hidden_in (inl back) = absurd (back.0 refl)
      hidden_in (inr (inl none)) = none.1
      hidden_in (inr (inr now)) = absurd (now.0 refl)

      other_left : (m : List ℕ) → m ≢ p.file → m ≢ p.copy → Leaves w m (files m)
      other_left m other off = alone_left m (files m) other off (left m)

      by : Leaves w p.file (files p.file) ⊎ Leaves w p.copy (files p.file) → (all : Files) × LeavesAll w all × IsSideOf p all files
      by (inl own) = (
        with_file files p.copy (w.files p.copy),
        left_with w p.copy files (w.files p.copy) (λ m off. ⊎_elim
            (λ (at : m ≡ p.file). subst (λ (n : List ℕ). Leaves w n (files n)) (sym at) own)
            (λ (other : m ≢ p.file). other_left m other off)
            (decide m p.file)) (reads p.copy),
        record {
          hidden = hidden_in (left p.copy);
          side = inl (sym (with_file-other files p.copy (w.files p.copy) p.file apart));
          others = λ m other off. sym (with_file-other files p.copy (w.files p.copy) m off);
        },
      )
      by (inr twin) =
          let put : Files = with_file files p.copy (files p.file) in
          let here : put p.copy ≡ files p.file = with_file-same files p.copy (files p.file) in (
            with_file put p.file (w.files p.file),
            left_with w p.file put (w.files p.file) (λ m other. ⊎_elim
                (λ (at : m ≡ p.copy). subst (λ (n : List ℕ). Leaves w n (put n)) (sym at) (subst (λ (f : File). Leaves w p.copy f) (sym here) twin))
                (λ (off : m ≢ p.copy). subst (λ (f : File). Leaves w m f) (sym (with_file-other files p.copy (files p.file) m off)) (other_left m other off))
                (decide m p.copy)) (reads p.file),
            record {
              hidden = hidden_in (left p.copy);
              side = inr (sym (with_file-other put p.file (w.files p.file) p.copy (λ at. apart (sym at)) ∙ here));
              others = λ m other off. sym (with_file-other put p.file (w.files p.file) m other ∙ with_file-other files p.copy (files p.file) m off);
            },
          )

  -- the two laws of a host
  pub mirror_reads : ReadsLeft w → ReadsLeft (mirrored p w)
  mirror_reads reads = left_alone (with_file w.files p.copy None) (with_file-same w.files p.copy None) (λ m off.
      file_left m (with_file w.files p.copy None m) off (subst (λ (f : File). Leaves w m f) (sym (with_file-other w.files p.copy None m off)) (reads m)))

  pub mirror_timely : ReadsLeft w → IsTimely w → IsTimely (mirrored p w)
  mirror_timely reads timely = record {
    counts_now = λ t files le left. let whole = whole_left reads files left in (whole.0, timely.counts_now t whole.0 le whole.1, whole.2);
    only_now = λ files said since. let now = timely.only_now since.0 said since.1 in record { left = side_left since.0 files since.2 now.left; output = now.output };
  }

silence_timely : IsTimely silence
silence_timely = record { counts_now = λ t files le left. absurd (leaves_none (files []) (left [])); only_now = λ files said left. absurd left }
  where
    leaves_none : (c : File) → Leaves silence [] c → ⊥
    leaves_none c (inl none) = none
    leaves_none c (inr none) = none

pub shadow_reads : (tells : Bool) (ps : Pairs) (w : World) → AreApart ps → (IsTrue tells → ReadsLeft w) → IsTrue tells → ReadsLeft (shadowed tells ps w)
shadow_reads true ps w apart reads told = mirror_reads ps.delta apart.in_delta (mirrored ps.main w) (mirror_reads ps.main apart.in_main w (reads told))
shadow_reads false ps w apart reads told = absurd (false≢true told)

pub shadow_timely : (tells : Bool) (ps : Pairs) (w : World) → AreApart ps → (IsTrue tells → ReadsLeft w) → IsTimely w → IsTimely (shadowed tells ps w)
shadow_timely true ps w apart reads timely =
    mirror_timely ps.delta apart.in_delta (mirrored ps.main w) (mirror_reads ps.main apart.in_main w (reads refl)) (mirror_timely ps.main apart.in_main w (reads refl) timely)
shadow_timely false ps w apart reads timely = silence_timely
