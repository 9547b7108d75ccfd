-- The SCN of the backup in a ship file, by its head.
use Rattle.std.proofs.Common.{◌≡◌, ℕ, List, sym, ap, ◌∙◌, Bool, IsTrue, Some, None, Result, Ok, Err}
use Rattle.nb_top.proofs.Common.{File, Fault, Refused, Device, Memory, Refusal, BadLevel, NoFile, Contents, Head, read_level, err_ok, some_none, some_same}
use Rattle.nb_level.specs.Answers.{StartSays}
use Rattle.nb_level.specs.Heads.{head_of}
use Rattle.nb_level.specs.Reading.{Reading, still_to_come}
use Rattle.nb_level.proofs.ToldLaws.{with_head-is}
use Rattle.nb_top.specs.Shipped.{ScnSays}

module _ (tells : Bool) (told : IsTrue tells) (file : File) (name bytes : List ℕ) (c : Contents) (there : file ≡ Some bytes) (read : read_level bytes ≡ Ok c) where
  -- a reader that has started has the head
  pub scn_read : (reader : Reading) → StartSays tells file name (Ok reader) → reader.head.scn ≡ c.head.scn
  scn_read reader says =
      let its = says.1 told in
      let same : its.0 ≡ bytes = some_same its.0 bytes (sym its.1 ∙ there) in
      ap (λ (h : Head). h.scn) (sym (with_head-is reader.version (head_of reader.head) (still_to_come its.0 reader) c (sym its.2 ∙ ap read_level same ∙ read)).1)

  -- and where it hasn't none was refused
  pub scn_unread : (fault : Fault) → StartSays tells file name (Err fault) → ScnSays c (Err fault)
  scn_unread (Refused refusal) says = by refusal says
    where
      by : (refusal : Refusal) → StartSays tells file name (Err (Refused refusal)) → ⊥
      by (BadLevel broken at) says =
          let its = says.1 told in
          let same : its.0 ≡ bytes = some_same its.0 bytes (sym its.1 ∙ there) in
          err_ok {E = ℕ} {T = Contents} at c (sym its.2 ∙ ap read_level same ∙ read)
      by (NoFile missing) says = some_none bytes (sym there ∙ says.1 told)
      by other says = says
  scn_unread Device says = tt
  scn_unread Memory says = tt
