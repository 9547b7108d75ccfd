-- What the answers of the calls below say of a file of a chain.
use Rattle.std.proofs.Common.{◌≡◌, inl, inr, ℕ, ◌+◌, ◌*◌, ◌≤◌, List, [], length, refl, sym, ap, subst, ◌∙◌, arith, true, false, ◌==◌, Some, None, Result, Ok, Err, IfOk}
use Rattle.nb_chain.proofs.Common.{cases_Bool, number_in, signature, File, Fault, Refused, Device, Memory, Refusal, BadLevel, ChainLevel, header_in, Head, Contents, begins_level, read_level, not_whole, not_behind, level_link, first_link, First, Mark, Tip, FirstSays, FirstRefused, IsRefused, TestedAlone, WholeSays, LevelSays, LevelRefused, IsRead, NextSays, NextRefused, IsNext, tip_link}
use Rattle.nb_level.specs.Heads.{head_of}
use Rattle.nb_level.specs.declared.head.LevelHead.{LevelHead}
use Rattle.nb_chain.proofs.StartLaws.{first_whole, first_parted, first_unread, first_level, next_signed, next_other, next_unread, next_refused, next_accepted}
use Rattle.nb_host.proofs.PlainLaws.{some_same}

pub whatever : (T : Type 0) (P : Type 0) (result : Result T Fault) → P → IfOk result (λ value. P)
whatever T P (Ok value) here = here
whatever T P (Err fault) here = tt

-- a level file in the first place
pub level_unread : (file : File) (name bytes : List ℕ) (before after : ℕ) (fault : Fault) → file ≡ Some bytes → begins_level bytes ≡ true → WholeSays file name before after (Err fault) → IsRefused name bytes (Err fault)
level_unread file name bytes before after (Refused r) there begins says =
    let is : LevelRefused (Some bytes) name r = subst (λ (f : File). LevelRefused f name r) there says in
    first_unread name bytes is.0 begins is.1 ∙ ap (λ (x : Refusal). Err x) (sym is.2)
level_unread file name bytes before after Device there begins says = tt
level_unread file name bytes before after Memory there begins says = tt

pub level_first : (file : File) (name bytes : List ℕ) (before after : ℕ) (head : LevelHead) → file ≡ Some bytes → begins_level bytes ≡ true → WholeSays file name before after (Ok head)
    → first_link name bytes ≡ Err (ChainLevel name head.level 0)
level_first file name bytes before after head there begins says =
    let same : says.bytes ≡ bytes = some_same says.bytes bytes (sym says.there ∙ there) in
    first_level name bytes says.contents begins (ap read_level (sym same) ∙ says.read) ∙ ap (λ (n : ℕ). Err (ChainLevel name n 0)) (sym (ap (λ (h : Head). h.level) says.named))

pub refused_first : (file : File) (name bytes : List ℕ) (result : Result First Fault) → file ≡ Some bytes → IsRefused name bytes result → FirstSays file name result
refused_first file name bytes (Ok first) there is = absurd is
refused_first file name bytes (Err (Refused r)) there is = subst (λ (f : File). FirstRefused f name r) (sym there) is
refused_first file name bytes (Err Device) there is = tt
refused_first file name bytes (Err Memory) there is = tt

-- whole pages in the first place
pub whole_first : (file : File) (name bytes : List ℕ) (len : ℕ) (result : Result First Fault) → file ≡ Some bytes → length bytes ≡ len → begins_level bytes ≡ false → TestedAlone result (not_whole name bytes)
    → IfOk result (λ first. first.header ≡ header_in bytes) → IfOk result (λ first. len ≡ first.pages * first.header.page_size) → FirstSays file name result
whole_first file name bytes len (Ok first) there long begins tested header pages = (bytes, there, record { accepted = first_whole name bytes begins tested; header = header; pages = long ∙ pages })
whole_first file name bytes len (Err (Refused r)) there long begins tested header pages = subst (λ (f : File). FirstRefused f name r) (sym there) (first_parted name bytes r begins tested)
whole_first file name bytes len (Err Device) there long begins tested header pages = tt
whole_first file name bytes len (Err Memory) there long begins tested header pages = tt

-- the file in place k
module _ (k : ℕ) (last : Tip) (name : List ℕ) (old : List Mark) (before : ℕ) where
  refused_there : (file : File) (bytes : List ℕ) (new : List Mark) (after : ℕ) (fault : Fault) (r : Refusal) → file ≡ Some bytes → fault ≡ Refused r → NextRefused (Some bytes) k last name r
      → NextSays file k last name old new before after (Err fault)
  refused_there file bytes new after fault r there is refused =
      subst (λ (x : Fault). NextSays file k last name old new before after (Err x)) (sym is) (subst (λ (f : File). NextRefused f k last name r) (sym there) refused)

  -- it is no level file
  pub next_unmarked : (file : File) (bytes first : List ℕ) (new : List Mark) (after : ℕ) (fault : Fault) → file ≡ Some bytes → begins_level bytes ≡ false → number_in 16 4 first ≡ number_in 16 4 bytes
      → ((number_in 16 4 first == signature) ≡ true → fault ≡ Refused (ChainLevel name 0 k)) → ((number_in 16 4 first == signature) ≡ false → fault ≡ Refused (BadLevel name 0))
      → NextSays file k last name old new before after (Err fault)
  next_unmarked file bytes first new after fault there begins same signed other =
      let test : (number_in 16 4 first == signature) ≡ (number_in 16 4 bytes == signature) = ap (λ (n : ℕ). n == signature) same in
      elim (cases_Bool (number_in 16 4 bytes == signature)) [
        | inl w ↦ refused_there file bytes new after fault (ChainLevel name 0 k) there (signed (test ∙ w)) (next_signed name bytes k (tip_link last) begins w)
        | inr w ↦ refused_there file bytes new after fault (BadLevel name 0) there (other (test ∙ w)) (next_other name bytes k (tip_link last) begins w)
      ]

  -- it is broken
  pub next_unread_there : (file : File) (bytes : List ℕ) (new marks : List Mark) (start after done : ℕ) (fault : Fault) → file ≡ Some bytes → begins_level bytes ≡ true → LevelSays file name old new start after (Err fault)
      → NextSays file k last name old marks before done (Err fault)
  next_unread_there file bytes new marks start after done (Refused r) there begins says =
      let is : LevelRefused (Some bytes) name r = subst (λ (f : File). LevelRefused f name r) there says in
      refused_there file bytes marks done (Refused r) r there refl (next_unread name bytes k (tip_link last) is.0 begins is.1 ∙ ap (λ (x : Refusal). Err x) (sym is.2))
  next_unread_there file bytes new marks start after done Device there begins says = tt
  next_unread_there file bytes new marks start after done Memory there begins says = tt

  module _ (file : File) (bytes : List ℕ) (new : List Mark) (start after : ℕ) (head : LevelHead) (there : file ≡ Some bytes) (begins : begins_level bytes ≡ true) (is : IsRead file old new start after head) where
    read_is : read_level bytes ≡ Ok is.contents
    read_is = ap read_level (sym (some_same is.bytes bytes (sym is.there ∙ there))) ∙ is.read

    -- it doesn't go on from the one before
    pub next_apart : (marks : List Mark) (done : ℕ) (fault : Fault) → ((c : Contents) → c.head ≡ head_of head → TestedAlone {T = Unit {0}} (Err fault) (not_behind k (tip_link last) name c))
        → NextSays file k last name old marks before done (Err fault)
    next_apart marks done (Refused r) tested = refused_there file bytes marks done (Refused r) r there refl (next_refused name bytes k (tip_link last) is.contents r begins read_is (tested is.contents (sym is.named)))
    next_apart marks done Device tested = tt
    next_apart marks done Memory tested = tt

    -- it does
    pub next_is : (tip : Tip) → not_behind k (tip_link last) name is.contents ≡ None → tip.guid ≡ head.guid → tip.scn ≡ head.scn → tip.page_size ≡ head.page_size → start ≤ before + 1
        → IsNext file k last name old new before after tip
    next_is tip none guid scn size started = record {
      bytes = bytes;
      there = there;
      link = level_link is.contents;
      accepted = next_accepted name bytes k (tip_link last) is.contents begins read_is none;
      next = let g = guid ∙ ap (λ (h : Head). h.guid) is.named in
          let s = scn ∙ ap (λ (h : Head). h.scn) is.named in
          let z = size ∙ ap (λ (h : Head). h.size) is.named in
          λ i. record { guid = g i; scn = s i; size = z i; pages = [] };
      marks = is.marks;
      reads = omega (arith, is.reads, started);
    }
