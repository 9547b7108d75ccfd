-- A file is made or removed.
use Rattle.std.proofs.Common.{◌≡◌, ◌≢◌, ◌⊎◌, inl, inr, ⊎_elim, ℕ, true, List, refl, sym, Result, Ok, Err, OnOk}
use Rattle.std.proofs.lemmas.Bool.{false≢true}
use Rattle.nb_host.specs.Files.{File}
use Rattle.nb_host.specs.World.{World}
use Rattle.nb_host.specs.Calls.{Remakes}
use Rattle.nb_change.proofs.MomentLaws.{left_before}
use Rattle.nb_change.proofs.CallLaws.{remade_others}
use Rattle.nb_shadow.specs.declared.pair.Pair.{Pair}
use Rattle.nb_shadow.specs.Mirror.{mirrored}
use Rattle.nb_shadow.specs.MirrorLaws.{file_left, copy_left, alone_back, alone_now, either_back, either_now}
use Rattle.nb_shadow.proofs.SeenLaws.{seen_others, seen_both}
use Rattle.nb_shadow.proofs.TwiceLaws.{then, GoesTwice, whole_passed, whole_unseen, whole_twice, put_alike}

-- after Ok it is what was made, and nothing else that is among these outcomes
done_passed : {T E : Type 0} (r : Result T E) (file : File) (P Q : File → Type 0) → ((c : File) → Q c → P c) → OnOk r ((c : File) → P c → c ≡ file) → OnOk r ((c : File) → Q c → c ≡ file)
done_passed (Ok x) file P Q among is = λ c q. is c (among c q)
done_passed (Err e) file P Q among is = tt

done_twice : {T E : Type 0} (r s : Result T E) (file : File) (P Q R : File → Type 0) → ((c : File) → R c → P c ⊎ Q c) → OnOk r ((c : File) → P c → c ≡ file) → OnOk s ((c : File) → Q c → c ≡ file) → OnOk (then r s) ((c : File) → R c → c ≡ file)
done_twice (Ok x) (Ok y) file P Q R either first second = λ c is. ⊎_elim (first c) (second c) (either c is)
done_twice (Ok x) (Err e) file P Q R either first second = tt
done_twice (Err e) s file P Q R either first second = tt

mute_done : {T E : Type 0} (r : Result T E) (file : File) → OnOk r ((c : File) → ⊥ → c ≡ file)
mute_done (Ok x) file = λ c none. absurd none
mute_done (Err e) file = tt

module _ {T E : Type 0} (p : Pair) (apart : p.file ≢ p.copy) (file : File) where
  remake_passed : (r : Result T E) (a b : World) (name : List ℕ) → name ≢ p.file → name ≢ p.copy → Remakes true r a b name file → Remakes true r (mirrored p a) (mirrored p b) name file
  remake_passed r a b name other off is = record {
    files = λ told. whole_passed p r a b name file off (is.files told);
    done = done_passed r file (b.now name) ((mirrored p b).now name) (λ c now. alone_now p apart b name c other off now) is.done;
    back = λ c back. file_left p apart a name c off (is.back c (alone_back p apart b name c other back));
    now = λ c now. ⊎_elim (λ was. inl (file_left p apart a name c off was)) inr (is.now c (alone_now p apart b name c other off now));
    others = seen_others p apart a b name off is.others;
  }

  remake_twice : (r s : Result T E) (a b c : World) → Remakes true r a b p.file file → Remakes true s b c p.copy file → Remakes true (then r s) (mirrored p a) (mirrored p c) p.file file
  remake_twice r s a b c first second = record {
    files = λ told. whole_twice p r s a b c file apart (first.files told) (whole_unseen p s b c file (second.files told));
    done = done_twice r s file (b.now p.file) (c.now p.copy) ((mirrored p c).now p.file) own_or_twin first.done second.done;
    back = λ f back. ⊎_elim
        (λ own. file_left p apart a p.file f apart (first.back f (second.others.back p.file f apart own)))
        (λ twin. copy_left p apart a f (left_before a b (λ m. m ≢ p.file) first.others p.copy f away (second.back f twin)))
        (either_back p apart c f back);
    now = λ f now. ⊎_elim
        (λ own. ⊎_elim (λ was. inl (file_left p apart a p.file f apart was)) inr (first.now f own))
        (λ twin. ⊎_elim (λ was. inl (copy_left p apart a f (left_before a b (λ m. m ≢ p.file) first.others p.copy f away was))) inr (second.now f twin))
        (own_or_twin f now);
    others = seen_both p apart a b c first.others second.others;
  }
    where
      away : p.copy ≢ p.file
      away at = apart (sym at)

      own_or_twin : (f : File) → (mirrored p c).now p.file f → b.now p.file f ⊎ c.now p.copy f
      own_or_twin f now = ⊎_elim (λ own. inl (second.others.now p.file f apart own)) inr (either_now p apart c f now)

pub remakes : {T E : Type 0} (file : File) → GoesTwice {T = T} {E = E} (λ tells r a b name. Remakes tells r a b name file)
remakes file = record {
  gains = λ tells r a b name is. is.others;
  reads = λ r a b name is m other. remade_others true r a b name file refl is m other;
  alike = λ x y p a b c apart same first second. put_alike p apart a.files b.files c.files file file (first.files refl) (second.files refl) refl;
  passed = λ p apart r a b name other off is. remake_passed p apart file r a b name other off is;
  twice = λ p apart r s a b c same first second. remake_twice p apart file r s a b c first second;
  idle = λ tells e w name. record {
    files = λ told. inl refl;
    done = tt;
    back = λ c back. inl back;
    now = λ c now. inl (inr now);
    others = record { back = λ m c off left. left; now = λ m c off left. left };
  };
  mute = λ r name. record {
    files = λ told. absurd (false≢true told);
    done = mute_done r file;
    back = λ c none. absurd none;
    now = λ c none. absurd none;
    others = record { back = λ m c off none. none; now = λ m c off none. none };
  };
}
