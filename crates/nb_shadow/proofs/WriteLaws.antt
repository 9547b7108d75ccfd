-- A page is written, and bytes are appended.
use Rattle.std.proofs.Common.{◌≡◌, ◌≢◌, ◌⊎◌, inl, inr, ℕ, true, List, length, take, refl, sym, ◌∙◌, ap, subst, Result, Ok, Err}
use Rattle.std.specs.Prelude.{MatchResult}
use Rattle.std.proofs.lemmas.Bool.{false≢true}
use Rattle.std.proofs.Math.Seq.{take-length}
use Rattle.nb_host.specs.Files.{File, Files, bytes_of, with_file, with_page, with_bytes}
use Rattle.nb_host.specs.World.{World}
use Rattle.nb_host.specs.Crash.{PageLeft, AppendLeft}
use Rattle.nb_host.specs.Calls.{WholeOrNot, Steps, WritesPage, AppendsBytes}
use Rattle.nb_change.proofs.CallLaws.{page_others, bytes_others}
use Rattle.nb_shadow.specs.declared.pair.Pair.{Pair}
use Rattle.nb_shadow.specs.Mirror.{mirrored}
use Rattle.nb_shadow.specs.Shadowed.{silence}
use Rattle.nb_shadow.proofs.SeenLaws.{reads_below, seen_same, seen_written, unseen, seen_steps, both_step}
use Rattle.nb_shadow.proofs.TwiceLaws.{then, GoesTwice, whole_passed, whole_unseen, whole_twice, put_alike, copy_after}

idle_steps : (w : World) (name : List ℕ) (step : File → File → Type 0) → ((f : File) → step f f) → Steps w w name step
idle_steps w name step none = record {
  back = λ c back. back;
  now = λ c now. (c, now, none c);
  others = record { back = λ m c off left. left; now = λ m c off left. left };
}

mute_steps : (name : List ℕ) (step : File → File → Type 0) → Steps silence silence name step
mute_steps name step = record {
  back = λ c none. none;
  now = λ c none. absurd none;
  others = record { back = λ m c off none. none; now = λ m c off none. none };
}

module _ {T E : Type 0} (p : Pair) (apart : p.file ≢ p.copy) (at : ℕ) (page : List ℕ) where
  page_passed : (r : Result T E) (a b : World) (name : List ℕ) → name ≢ p.file → name ≢ p.copy → WritesPage true r a b name at page → WritesPage true r (mirrored p a) (mirrored p b) name at page
  page_passed r a b name other off is = record {
    files = λ told. subst (λ (f : File). WholeOrNot r (mirrored p a).files (with_file (mirrored p a).files name (with_page f at page)) (mirrored p b).files) (sym (reads_below p apart a name off))
        (whole_passed p r a b name (with_page (a.files name) at page) off (is.files told));
    left = seen_steps p apart a b name (PageLeft at page) other off is.left;
  }

  page_twice : (r s : Result T E) (a b c : World) → WritesPage true r a b p.file at page → WritesPage true s b c p.copy at page → WritesPage true (then r s) (mirrored p a) (mirrored p c) p.file at page
  page_twice r s a b c first second = record {
    files = λ told. subst (λ (f : File). WholeOrNot (then r s) (mirrored p a).files (with_file (mirrored p a).files p.file (with_page f at page)) (mirrored p c).files) (sym (reads_below p apart a p.file apart))
        (whole_twice p r s a b c (with_page (a.files p.file) at page) apart (first.files told) (whole_unseen p s b c (with_page (b.files p.copy) at page) (second.files told)));
    left = both_step p apart a b c (PageLeft at page) first.left second.left;
  }

pub writes : {T E : Type 0} (at : ℕ) (page : List ℕ) → GoesTwice {T = T} {E = E} (λ tells r a b name. WritesPage tells r a b name at page)
writes {T} {E} at page = record {
  gains = λ tells r a b name is. is.left.others;
  reads = λ r a b name is m other. page_others true r a b name at page refl is m other;
  alike = λ x y p a b c apart same first second. put_alike p apart a.files b.files c.files (with_page (a.files p.file) at page) (with_page (b.files p.copy) at page) (first.files refl) (second.files refl)
      (ap (λ (f : File). with_page f at page) (sym (copy_after p apart a b same (λ m other. page_others {E = E} true (Ok x) a b p.file at page refl first m other))));
  passed = λ p apart r a b name other off is. page_passed p apart at page r a b name other off is;
  twice = λ p apart r s a b c same first second. page_twice p apart at page r s a b c first second;
  idle = λ tells e w name. record { files = λ told. inl refl; left = idle_steps w name (PageLeft at page) (λ f. inl refl) };
  mute = λ r name. record { files = λ told. absurd (false≢true told); left = mute_steps name (PageLeft at page) };
}

-- what reads where bytes were appended to this file: with all of them, or at a fault a prefix or none
abbrev Appended : {T E : Type 0} → Result T E → (old : Files) (name : List ℕ) (file : File) (bytes : List ℕ) (new : Files) → Type 0
Appended r old name file bytes new = MatchResult r
    (λ _. new ≡ with_file old name (with_bytes file bytes))
    (λ _. (new ≡ old) ⊎ ((k : ℕ) × (new ≡ with_file old name (with_bytes file (take k bytes)))))

module _ (p : Pair) (file : File) (bytes : List ℕ) where
  bytes_passed : {T E : Type 0} (r : Result T E) (a b : World) (name : List ℕ) → name ≢ p.copy → Appended r a.files name file bytes b.files → Appended r (mirrored p a).files name file bytes (mirrored p b).files
  bytes_passed (Ok x) a b name off is = seen_written p a b name _ off is
  bytes_passed (Err e) a b name off (inl is) = inl (seen_same p a b is)
  bytes_passed (Err e) a b name off (inr is) = inr (is.0, seen_written p a b name _ off is.1)

  bytes_unseen : {T E : Type 0} (s : Result T E) (b c : World) → Appended s b.files p.copy file bytes c.files → (mirrored p c).files ≡ (mirrored p b).files
  bytes_unseen (Ok x) b c is = unseen p b c _ is
  bytes_unseen (Err e) b c (inl is) = seen_same p b c is
  bytes_unseen (Err e) b c (inr is) = unseen p b c _ is.1

  bytes_twice : {T E : Type 0} (r s : Result T E) (a b c : World) → p.file ≢ p.copy → Appended r a.files p.file file bytes b.files → (mirrored p c).files ≡ (mirrored p b).files → Appended (then r s) (mirrored p a).files p.file file bytes (mirrored p c).files
  bytes_twice (Ok x) (Ok y) a b c apart is same = same ∙ seen_written p a b p.file _ apart is
  bytes_twice (Ok x) (Err e) a b c apart is same =
      inr (length bytes, same ∙ seen_written p a b p.file _ apart is ∙ ap (λ (l : List ℕ). with_file (mirrored p a).files p.file (with_bytes file l)) (sym (take-length bytes)))
  bytes_twice (Err e) s a b c apart (inl is) same = inl (same ∙ seen_same p a b is)
  bytes_twice (Err e) s a b c apart (inr is) same = inr (is.0, same ∙ seen_written p a b p.file _ apart is.1)

module _ {T E : Type 0} (p : Pair) (apart : p.file ≢ p.copy) (bytes : List ℕ) where
  append_passed : (r : Result T E) (a b : World) (name : List ℕ) → name ≢ p.file → name ≢ p.copy → AppendsBytes true r a b name bytes → AppendsBytes true r (mirrored p a) (mirrored p b) name bytes
  append_passed r a b name other off is =
      let reads : a.files name ≡ (mirrored p a).files name = sym (reads_below p apart a name off) in
      record {
        files = λ told. subst (λ (f : File). Appended r (mirrored p a).files name f bytes (mirrored p b).files) reads (bytes_passed p (a.files name) bytes r a b name off (is.files told));
        left = subst (λ (f : File). Steps (mirrored p a) (mirrored p b) name (AppendLeft (length (bytes_of f)) bytes)) reads (seen_steps p apart a b name (AppendLeft (length (bytes_of (a.files name))) bytes) other off is.left);
      }

  append_twice : (r s : Result T E) (a b c : World) → a.files p.file ≡ a.files p.copy → AppendsBytes true r a b p.file bytes → AppendsBytes true s b c p.copy bytes → AppendsBytes true (then r s) (mirrored p a) (mirrored p c) p.file bytes
  append_twice r s a b c same first second =
      let reads : a.files p.file ≡ (mirrored p a).files p.file = sym (reads_below p apart a p.file apart) in
      let copy : b.files p.copy ≡ a.files p.file = copy_after p apart a b same (λ m other. bytes_others true r a b p.file bytes refl first m other) in
      record {
        files = λ told. subst (λ (f : File). Appended (then r s) (mirrored p a).files p.file f bytes (mirrored p c).files) reads
            (bytes_twice p (a.files p.file) bytes r s a b c apart (first.files told) (bytes_unseen p (b.files p.copy) bytes s b c (second.files told)));
        left = subst (λ (f : File). Steps (mirrored p a) (mirrored p c) p.file (AppendLeft (length (bytes_of f)) bytes)) reads
            (both_step p apart a b c (AppendLeft (length (bytes_of (a.files p.file))) bytes) first.left
            (subst (λ (f : File). Steps b c p.copy (AppendLeft (length (bytes_of f)) bytes)) copy second.left));
      }

pub appends : {T E : Type 0} (bytes : List ℕ) → GoesTwice {T = T} {E = E} (λ tells r a b name. AppendsBytes tells r a b name bytes)
appends {T} {E} bytes = record {
  gains = λ tells r a b name is. is.left.others;
  reads = λ r a b name is m other. bytes_others true r a b name bytes refl is m other;
  alike = λ x y p a b c apart same first second. put_alike p apart a.files b.files c.files (with_bytes (a.files p.file) bytes) (with_bytes (b.files p.copy) bytes) (first.files refl) (second.files refl)
      (ap (λ (f : File). with_bytes f bytes) (sym (copy_after p apart a b same (λ m other. bytes_others {E = E} true (Ok x) a b p.file bytes refl first m other))));
  passed = λ p apart r a b name other off is. append_passed p apart bytes r a b name other off is;
  twice = λ p apart r s a b c same first second. append_twice p apart bytes r s a b c same first second;
  idle = λ tells e w name. record { files = λ told. inl refl; left = idle_steps w name (AppendLeft (length (bytes_of (w.files name))) bytes) (λ f. inl refl) };
  mute = λ r name. record { files = λ told. absurd (false≢true told); left = mute_steps name (AppendLeft 0 bytes) };
}
