-- What a change of a file comes to where it is made over a shadow.
use Rattle.std.proofs.Common.{◌≡◌, ◌≢◌, inl, inr, ℕ, Bool, true, false, List, refl, sym, ◌∙◌, subst, arith, Result, Ok, Err, IsTrue}
use Rattle.std.proofs.lemmas.Bool.{false≢true}
use Rattle.nb_host.specs.World.{World}
use Rattle.nb_host.specs.Calls.{IsSilent}
use Rattle.nb_host.specs.Moments.{IsTimely, Passes}
use Rattle.nb_shadow.specs.declared.pair.Pair.{Pair}
use Rattle.nb_shadow.specs.declared.pair.Pairs.{Pairs}
use Rattle.nb_shadow.specs.Pairs.{AreApart, HasNoTwin, IsNoTwin, IsTwinOf}
use Rattle.nb_shadow.specs.Mirror.{mirrored}
use Rattle.nb_shadow.specs.Shadowed.{silence, shadowed, IsInStep}
use Rattle.nb_shadow.specs.MirrorLaws.{ReadsLeft, mirror_reads, mirror_timely}
use Rattle.nb_shadow.proofs.SeenLaws.{reads_below, seen_others, seen_kept, seen_silent, seen_passes, both_pass}
use Rattle.nb_shadow.proofs.TwiceLaws.{then, ChangeKind, Does, GoesTwice}

turned : {m n : List ℕ} → m ≢ n → n ≢ m
turned other at = other (sym at)

pub no_time : (w : World) → Passes w w
no_time w = record { later = omega arith; nothing_else = λ t files said le since. inl since; keeps = λ t files said le since. since }

no_word : (w : World) → IsSilent w w
no_word w = record { said = refl; reads = refl; guids = refl; times = refl }

module _ {T E : Type 0} (K : ChangeKind T E) (is : GoesTwice K) where
  -- a call that was refused
  pub refused : (tells : Bool) (e : E) (w : World) (name : List ℕ) → Does K tells (Err e) w w name
  refused tells e w name = record { what = is.idle tells e w name; others = record { back = λ m c off left. left; now = λ m c off left. left }; silent = no_word w; time = no_time w }

  mute : (r : Result T E) (name : List ℕ) → Does K false r silence silence name
  mute r name = record { what = is.mute r name; others = record { back = λ m c off left. left; now = λ m c off left. left }; silent = no_word silence; time = no_time silence }

  does_passed : (p : Pair) → p.file ≢ p.copy → (r : Result T E) (a b : World) (name : List ℕ) → name ≢ p.file → name ≢ p.copy → Does K true r a b name → Does K true r (mirrored p a) (mirrored p b) name
  does_passed p apart r a b name other off d = record {
    what = is.passed p apart r a b name other off d.what;
    others = seen_others p apart b a name off d.others;
    silent = seen_silent p apart a b d.silent;
    time = seen_passes p apart a b d.time;
  }

  does_twice : (p : Pair) → p.file ≢ p.copy → (r s : Result T E) (a b c : World) → ReadsLeft a → IsTimely a → a.files p.file ≡ a.files p.copy
      → Does K true r a b p.file → Does K true s b c p.copy → Does K true (then r s) (mirrored p a) (mirrored p c) p.file
  does_twice p apart r s a b c reads timely same first second = record {
    what = is.twice p apart r s a b c same first.what second.what;
    others = seen_kept p apart a b c first.others second.others;
    silent = record { said = second.silent.said ∙ first.silent.said; reads = second.silent.reads ∙ first.silent.reads; guids = second.silent.guids ∙ first.silent.guids; times = second.silent.times ∙ first.silent.times };
    time = both_pass p apart a b c reads timely (is.gains true r a b p.file first.what) second.others first.silent.said second.silent.said first.time second.time;
  }

  module _ (tells : Bool) (ps : Pairs) (apart : AreApart ps) where
    -- a file that has no twin and is none
    pub alone : (r : Result T E) (a b : World) (name : List ℕ) → IsNoTwin ps name → HasNoTwin ps name → Does K tells r a b name → Does K tells r (shadowed tells ps a) (shadowed tells ps b) name
    alone r a b name no_twin has_none d = by tells d
      where
        by : (t : Bool) → Does K t r a b name → Does K t r (shadowed t ps a) (shadowed t ps b) name
        by true d = does_passed ps.delta apart.in_delta r (mirrored ps.main a) (mirrored ps.main b) name has_none.not_delta no_twin.not_delta (does_passed ps.main apart.in_main r a b name has_none.not_main no_twin.not_main d)
        by false d = mute r name

    pub alone_in_step : (r : Result T E) (a b : World) (name : List ℕ) → IsNoTwin ps name → HasNoTwin ps name → Does K tells r a b name → (IsTrue tells → IsInStep ps a) → IsTrue tells → IsInStep ps b
    alone_in_step r a b name no_twin has_none d step told = by tells told d (step told)
      where
        by : (t : Bool) → IsTrue t → Does K t r a b name → IsInStep ps a → IsInStep ps b
        by true told d step = record {
          main = same ps.main.file (turned has_none.not_main) ∙ step.main ∙ sym (same ps.main.copy (turned no_twin.not_main));
          delta = same ps.delta.file (turned has_none.not_delta) ∙ step.delta ∙ sym (same ps.delta.copy (turned no_twin.not_delta));
        }
          where
            same : (m : List ℕ) → m ≢ name → b.files m ≡ a.files m
            same m other = is.reads r a b name d.what m other
        by false told d step = absurd (false≢true told)

    -- A call on a file, and then the same on its twin. Where the first failed there was no second.
    pub twice : (r s : Result T E) (a b c : World) (name copy : List ℕ) → IsTwinOf ps name copy → (IsTrue tells → ReadsLeft a) → IsTimely a → (IsTrue tells → IsInStep ps a)
        → Does K tells r a b name → Does K tells s b c copy → Does K tells (then r s) (shadowed tells ps a) (shadowed tells ps c) name
    twice r s a b c name copy of reads timely step first second = by tells reads step first second
      where
        main_twice : ReadsLeft a → IsInStep ps a → Does K true r a b ps.main.file → Does K true s b c ps.main.copy → Does K true (then r s) (shadowed true ps a) (shadowed true ps c) ps.main.file
        main_twice reads step first second =
            does_passed ps.delta apart.in_delta (then r s) (mirrored ps.main a) (mirrored ps.main c) ps.main.file apart.files apart.main_copy
            (does_twice ps.main apart.in_main r s a b c reads timely step.main first second)

        delta_twice : ReadsLeft a → IsInStep ps a → Does K true r a b ps.delta.file → Does K true s b c ps.delta.copy → Does K true (then r s) (shadowed true ps a) (shadowed true ps c) ps.delta.file
        delta_twice reads step first second =
            does_twice ps.delta apart.in_delta r s (mirrored ps.main a) (mirrored ps.main b) (mirrored ps.main c)
            (mirror_reads ps.main apart.in_main a reads) (mirror_timely ps.main apart.in_main a reads timely)
            (reads_below ps.main apart.in_main a ps.delta.file apart.delta_copy ∙ step.delta ∙ sym (reads_below ps.main apart.in_main a ps.delta.copy (turned apart.copies)))
            (does_passed ps.main apart.in_main r a b ps.delta.file (turned apart.files) apart.delta_copy first)
            (does_passed ps.main apart.in_main s b c ps.delta.copy (turned apart.main_copy) (turned apart.copies) second)

        named : (of : IsTwinOf ps name copy) → ReadsLeft a → IsInStep ps a → Does K true r a b name → Does K true s b c copy → Does K true (then r s) (shadowed true ps a) (shadowed true ps c) name
        named (inl of) reads step first second = subst (λ (n : List ℕ). Does K true (then r s) (shadowed true ps a) (shadowed true ps c) n) (sym of.0)
            (main_twice reads step (subst (λ (n : List ℕ). Does K true r a b n) of.0 first) (subst (λ (n : List ℕ). Does K true s b c n) of.1 second))
        named (inr of) reads step first second = subst (λ (n : List ℕ). Does K true (then r s) (shadowed true ps a) (shadowed true ps c) n) (sym of.0)
            (delta_twice reads step (subst (λ (n : List ℕ). Does K true r a b n) of.0 first) (subst (λ (n : List ℕ). Does K true s b c n) of.1 second))

        by : (t : Bool) → (IsTrue t → ReadsLeft a) → (IsTrue t → IsInStep ps a) → Does K t r a b name → Does K t s b c copy → Does K t (then r s) (shadowed t ps a) (shadowed t ps c) name
        by true reads step first second = named of (reads refl) (step refl) first second
        by false reads step first second = mute (then r s) name

    pub first_failed : (e : E) (a b : World) (name copy : List ℕ) → IsTwinOf ps name copy → (IsTrue tells → ReadsLeft a) → IsTimely a → (IsTrue tells → IsInStep ps a)
        → Does K tells (Err e) a b name → Does K tells (Err e) (shadowed tells ps a) (shadowed tells ps b) name
    first_failed e a b name copy of reads timely step first = twice (Err e) (Err e) a b b name copy of reads timely step first (refused tells e b copy)

    -- after both the twins still read as their files
    pub twice_in_step : (x y : T) (a b c : World) (name copy : List ℕ) → IsTwinOf ps name copy → Does K tells (Ok x) a b name → Does K tells (Ok y) b c copy → (IsTrue tells → IsInStep ps a) → IsTrue tells → IsInStep ps c
    twice_in_step x y a b c name copy of first second step told = by tells told first.what second.what (step told)
      where
        named : IsTwinOf ps name copy → K true (Ok x) a b name → K true (Ok y) b c copy → IsInStep ps a → IsInStep ps c
        named (inl of) first second step =
            let one : K true (Ok x) a b ps.main.file = subst (λ (n : List ℕ). K true (Ok x) a b n) of.0 first in
            let two : K true (Ok y) b c ps.main.copy = subst (λ (n : List ℕ). K true (Ok y) b c n) of.1 second in
            record {
              main = is.alike x y ps.main a b c apart.in_main step.main one two;
              delta = is.reads (Ok y) b c ps.main.copy two ps.delta.file apart.delta_copy ∙ is.reads (Ok x) a b ps.main.file one ps.delta.file (turned apart.files) ∙ step.delta
                  ∙ sym (is.reads (Ok y) b c ps.main.copy two ps.delta.copy (turned apart.copies) ∙ is.reads (Ok x) a b ps.main.file one ps.delta.copy (turned apart.main_copy));
            }
        named (inr of) first second step =
            let one : K true (Ok x) a b ps.delta.file = subst (λ (n : List ℕ). K true (Ok x) a b n) of.0 first in
            let two : K true (Ok y) b c ps.delta.copy = subst (λ (n : List ℕ). K true (Ok y) b c n) of.1 second in
            record {
              main = is.reads (Ok y) b c ps.delta.copy two ps.main.file apart.main_copy ∙ is.reads (Ok x) a b ps.delta.file one ps.main.file apart.files ∙ step.main
                  ∙ sym (is.reads (Ok y) b c ps.delta.copy two ps.main.copy apart.copies ∙ is.reads (Ok x) a b ps.delta.file one ps.main.copy (turned apart.delta_copy));
              delta = is.alike x y ps.delta a b c apart.in_delta step.delta one two;
            }

        by : (t : Bool) → IsTrue t → K t (Ok x) a b name → K t (Ok y) b c copy → IsInStep ps a → IsInStep ps c
        by true told one two step = named of one two step
        by false told one two step = absurd (false≢true told)
