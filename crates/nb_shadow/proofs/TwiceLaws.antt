-- What each kind of change has to meet, so that it may be made on a file and on its twin: a remake, a page write, an append and a sync do.
use Rattle.std.proofs.Common.{◌≡◌, ◌≢◌, inl, inr, ℕ, Bool, true, false, List, sym, ◌∙◌, ap, Result, Ok, Err}
use Rattle.nb_host.specs.Files.{File, Files, with_file}
use Rattle.nb_host.specs.World.{World}
use Rattle.nb_host.specs.Crash.{Untouched}
use Rattle.nb_host.specs.Calls.{WholeOrNot, IsSilent}
use Rattle.nb_host.specs.Moments.{Passes}
use Rattle.nb_host.proofs.NameLaws.{with_file-same, with_file-other}
use Rattle.nb_shadow.specs.declared.pair.Pair.{Pair}
use Rattle.nb_shadow.specs.Mirror.{mirrored}
use Rattle.nb_shadow.specs.Shadowed.{silence}
use Rattle.nb_shadow.proofs.SeenLaws.{seen_same, seen_written, unseen}

-- the answer of two calls, of which the second is made where the first was Ok
abbrev pub then : {T E : Type 0} → Result T E → Result T E → Result T E
then (Ok x) second = second
then (Err e) second = Err e

-- a kind of change: what it does to the world, of one file
abbrev pub ChangeKind : Type 0 → Type 0 → Type 1
ChangeKind T E = (tells : Bool) → Result T E → (old new : World) → (name : List ℕ) → Type 0

-- such a call
pub record Does {T E : Type 0} (K : ChangeKind T E) (tells : Bool) (result : Result T E) (old new : World) (name : List ℕ) : Type 0 where
  pub what : K tells result old new name
  pub others : Untouched new old (λ m. m ≢ name)
  pub silent : IsSilent old new
  pub time : Passes old new

pub record GoesTwice {T E : Type 0} (K : ChangeKind T E) : Type 1 where
  -- a crash gains nothing of the other files, which read as they did
  pub gains : (tells : Bool) (r : Result T E) (a b : World) (name : List ℕ) → K tells r a b name → Untouched a b (λ m. m ≢ name)
  pub reads : (r : Result T E) (a b : World) (name : List ℕ) → K true r a b name → (m : List ℕ) → m ≢ name → b.files m ≡ a.files m
  -- two files that read alike do so after it was done to both
  pub alike : (x y : T) (p : Pair) (a b c : World) → p.file ≢ p.copy → a.files p.file ≡ a.files p.copy → K true (Ok x) a b p.file → K true (Ok y) b c p.copy → c.files p.file ≡ c.files p.copy
  -- seen through a pair of other files it is the same
  pub passed : (p : Pair) → p.file ≢ p.copy → (r : Result T E) (a b : World) (name : List ℕ) → name ≢ p.file → name ≢ p.copy → K true r a b name → K true r (mirrored p a) (mirrored p b) name
  -- done to a file and then to its twin it is done to the file, as it is seen through their pair
  pub twice : (p : Pair) → p.file ≢ p.copy → (r s : Result T E) (a b c : World) → a.files p.file ≡ a.files p.copy → K true r a b p.file → K true s b c p.copy → K true (then r s) (mirrored p a) (mirrored p c) p.file
  -- a call that was refused, and any call over a host that tells nothing
  pub idle : (tells : Bool) (e : E) (w : World) (name : List ℕ) → K tells (Err e) w w name
  pub mute : (r : Result T E) (name : List ℕ) → K false r silence silence name

-- a file that was written whole or not at all
module _ (p : Pair) where
  pub whole_passed : {T E : Type 0} (r : Result T E) (a b : World) (name : List ℕ) (file : File) → name ≢ p.copy → WholeOrNot r a.files (with_file a.files name file) b.files
      → WholeOrNot r (mirrored p a).files (with_file (mirrored p a).files name file) (mirrored p b).files
  whole_passed (Ok x) a b name file off is = seen_written p a b name file off is
  whole_passed (Err e) a b name file off (inl is) = inl (seen_same p a b is)
  whole_passed (Err e) a b name file off (inr is) = inr (seen_written p a b name file off is)

  pub whole_unseen : {T E : Type 0} (s : Result T E) (b c : World) (file : File) → WholeOrNot s b.files (with_file b.files p.copy file) c.files → (mirrored p c).files ≡ (mirrored p b).files
  whole_unseen (Ok x) b c file is = unseen p b c file is
  whole_unseen (Err e) b c file (inl is) = seen_same p b c is
  whole_unseen (Err e) b c file (inr is) = unseen p b c file is

  pub whole_twice : {T E : Type 0} (r s : Result T E) (a b c : World) (file : File) → p.file ≢ p.copy → WholeOrNot r a.files (with_file a.files p.file file) b.files → (mirrored p c).files ≡ (mirrored p b).files
      → WholeOrNot (then r s) (mirrored p a).files (with_file (mirrored p a).files p.file file) (mirrored p c).files
  whole_twice (Ok x) (Ok y) a b c file apart is same = same ∙ seen_written p a b p.file file apart is
  whole_twice (Ok x) (Err e) a b c file apart is same = inr (same ∙ seen_written p a b p.file file apart is)
  whole_twice (Err e) s a b c file apart (inl is) same = inl (same ∙ seen_same p a b is)
  whole_twice (Err e) s a b c file apart (inr is) same = inr (same ∙ seen_written p a b p.file file apart is)

-- files that are equal, put to both
pub put_alike : (p : Pair) → p.file ≢ p.copy → (a b c : Files) (one two : File) → b ≡ with_file a p.file one → c ≡ with_file b p.copy two → one ≡ two → c p.file ≡ c p.copy
put_alike p apart a b c one two first second same =
    ap (λ (f : Files). f p.file) second ∙ with_file-other b p.copy two p.file apart ∙ ap (λ (f : Files). f p.file) first ∙ with_file-same a p.file one
    ∙ same ∙ sym (ap (λ (f : Files). f p.copy) second ∙ with_file-same b p.copy two)

-- the twin reads as the file did, once the file was changed
pub copy_after : (p : Pair) → p.file ≢ p.copy → (a b : World) → a.files p.file ≡ a.files p.copy → ((m : List ℕ) → m ≢ p.file → b.files m ≡ a.files m) → b.files p.copy ≡ a.files p.file
copy_after p apart a b same others = others p.copy (λ at. apart (sym at)) ∙ sym same
