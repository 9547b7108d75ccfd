-- A level file is read to its end, and then again.
use Rattle.std.proofs.Common.{◌≡◌, ℕ, List, sym, ap, subst, ◌∙◌, Bool, IsTrue, Some, Result, Ok, Err, IsErr, IsErrAnd}
use Rattle.nb_fold.proofs.Common.{File, Files, bytes_of, Fault, Refused, Device, Memory, BadLevel, NoFile, Contents, read_level, with_head, head_of, Held, IsGiven, IsOpened, Waits, some_same, err_not_ok, none_and_some}
use Rattle.nb_level.specs.Answers.{StartSays}
use Rattle.nb_level.specs.Reading.{Reading, still_to_come}
use Rattle.nb_level.proofs.ToldLaws.{with_head-is}

module _ (tells : Bool) (told : IsTrue tells) (file : File) (name bytes : List ℕ) (c : Contents) (there : file ≡ Some bytes) (read : read_level bytes ≡ Ok c) where
  pub begun : (reader : Reading) → StartSays tells file name (Ok reader) → (reader.name ≡ name) × (head_of reader.head ≡ c.head) × (still_to_come bytes reader ≡ Ok c.pages)
  begun reader says =
      let is = says.1 told in
      let same : is.0 ≡ bytes = some_same is.0 bytes (sym is.1 ∙ there) in
      let parts = with_head-is reader.version (head_of reader.head) (still_to_come bytes reader) c (sym (subst (λ (b : List ℕ). read_level b ≡ with_head reader.version (head_of reader.head) (still_to_come b reader)) same is.2) ∙ read) in
      (says.0, sym parts.1, parts.0)

  pub not_begun : {T : Type 0} (P : T → Type 0) (fault : Fault) → StartSays tells file name (Err fault) → IsGiven (Err fault) P
  not_begun P (Refused (BadLevel broken at)) says =
      let is = says.1 told in
      absurd (err_not_ok at c (read_level bytes) (ap read_level (sym (some_same is.0 bytes (sym is.1 ∙ there))) ∙ is.2) read)
  not_begun P (Refused (NoFile missing)) says = absurd (none_and_some file bytes (says.1 told) there)
  not_begun P (Refused other) says = says
  not_begun P Device says = tt
  not_begun P Memory says = tt

  -- and so in files that are the same
  pub coming_now : (old mid : Files) (reader : Reading) → mid ≡ old → old name ≡ file → StartSays tells file name (Ok reader) → still_to_come (bytes_of (mid reader.name)) reader ≡ Ok c.pages
  coming_now old mid reader same is says =
      let b = begun reader says in
      ap (λ (f : Files). still_to_come (bytes_of (f reader.name)) reader) same ∙ ap (λ (n : List ℕ). still_to_come (bytes_of (old n)) reader) b.0 ∙ ap (λ (f : File). still_to_come (bytes_of f) reader) (is ∙ there) ∙ b.2

  -- its first page waits
  pub opened : (old mid : Files) (reader : Reading) (source : Held) → mid ≡ old → old name ≡ file → StartSays tells file name (Ok reader) → source.reader ≡ record reader { place = source.reader.place } → Waits mid source c.pages → IsOpened old name source c
  opened old mid reader source same is says on waits =
      let b = begun reader says in
      record {
        bytes = bytes;
        there = is ∙ there;
        read = read;
        named = ap (λ (r : Reading). r.name) on ∙ b.0;
        head = ap (λ (r : Reading). head_of r.head) on ∙ b.1;
        waits = subst (λ (f : Files). Waits f source c.pages) same waits;
      }

-- the fault that is passed on
pub fault_is : (T : Type 0) (result : Result T Fault) (fault f : Fault) → IsErr result × IsErrAnd result (λ e. e ≡ fault) → result ≡ Err f → fault ≡ f
fault_is T (Ok value) fault f is same = absurd is.1
fault_is T (Err e) fault f is same = sym is.1 ∙ (let same_fault : e ≡ f = cc in same_fault)
