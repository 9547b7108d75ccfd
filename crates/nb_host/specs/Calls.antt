-- What one call of a host does, from the world `old` before it to the world `new` after it.
use Rattle.std.specs.Prelude.{◌≡◌, ◌≢◌, ◌⊎◌, ℕ, ◌+◌, ◌<◌, ◌≤◌, Bool, true, false, IsTrue, List, [], ◌∷◌, ◌++◌, length, take, drop, Result, MatchResult, OnOk}
use Rattle.nb_host.specs.Files.{File, bytes_of, with_file, with_page, with_bytes}
use Rattle.nb_host.specs.World.{World}
use Rattle.nb_host.specs.Crash.{Leaves, PageLeft, AppendLeft, IsDurable, Untouched}

-- done, or at a fault done whole or not at all
abbrev pub WholeOrNot : {T E X : Type 0} → Result T E → X → X → X → Type 0
WholeOrNot result before done after = MatchResult result (λ _. after ≡ done) (λ _. (after ≡ before) ⊎ (after ≡ done))

-- the files stay, and a crash leaves nothing of them that it would not have left before
pub record IsStill (old new : World) : Type 0 where
  pub files : new.files ≡ old.files
  pub left : Untouched old new (λ _. Unit {0})

-- From this moment on nothing but `file` was made under the name: where the call failed, the file may also be as it was.
pub record Remakes {T E : Type 0} (tells : Bool) (result : Result T E) (old new : World) (name : List ℕ) (file : File) : Type 0 where
  pub files : IsTrue tells → WholeOrNot result old.files (with_file old.files name file) new.files
  pub done : OnOk result ((c : File) → new.now name c → c ≡ file)
  pub back : (c : File) → new.back name c → Leaves old name c
  pub now : (c : File) → new.now name c → Leaves old name c ⊎ (c ≡ file)
  pub others : Untouched old new (λ m. m ≢ name)

-- one file goes on by a step, and a crash leaves of the others what it would have left
pub record Steps (old new : World) (name : List ℕ) (step : File → File → Type 0) : Type 0 where
  pub back : (c : File) → new.back name c → old.back name c
  pub now : (c : File) → new.now name c → (b : File) × old.now name b × step b c
  pub others : Untouched old new (λ m. m ≢ name)

-- a page is written at that place; at a fault whole or not at all
pub record WritesPage {T E : Type 0} (tells : Bool) (result : Result T E) (old new : World) (name : List ℕ) (at : ℕ) (page : List ℕ) : Type 0 where
  pub files : IsTrue tells → WholeOrNot result old.files (with_file old.files name (with_page (old.files name) at page)) new.files
  pub left : Steps old new name (PageLeft at page)

-- bytes are appended; at a fault a front of them, or nothing is done
pub record AppendsBytes {T E : Type 0} (tells : Bool) (result : Result T E) (old new : World) (name bytes : List ℕ) : Type 0 where
  pub files : IsTrue tells → MatchResult result
      (λ _. new.files ≡ with_file old.files name (with_bytes (old.files name) bytes))
      (λ _. (new.files ≡ old.files) ⊎ ((k : ℕ) × (new.files ≡ with_file old.files name (with_bytes (old.files name) (take k bytes)))))
  pub left : Steps old new name (AppendLeft (length (bytes_of (old.files name))) bytes)

-- the files stay, and after Ok a crash leaves of this one what a read gives
pub record Syncs {T E : Type 0} (tells : Bool) (result : Result T E) (old new : World) (name : List ℕ) : Type 0 where
  pub still : IsStill old new
  pub durable : IsTrue tells → OnOk result (IsDurable new name (old.files name))

-- a whole page is read, or the file ends before the page does and nothing is read
abbrev pub ReadsPage : File → ℕ → (before after : List ℕ) → Bool → Type 0
ReadsPage file at before after true = (at + length before ≤ length (bytes_of file)) × (after ≡ take (length before) (drop at (bytes_of file)))
ReadsPage file at before after false = (length (bytes_of file) < at + length before) × (after ≡ before)

-- as many bytes are read as there are from that place, and room for
pub record ReadsBytes (file : File) (at : ℕ) (before after : List ℕ) (count : ℕ) : Type 0 where
  pub room : count ≤ length before
  pub bytes : take count after ≡ take (length before) (drop at (bytes_of file))
  pub rest : drop count after ≡ drop count before

-- nothing was said, read or given
pub record IsSilent (old new : World) : Type 0 where
  pub said : new.said ≡ old.said
  pub reads : new.reads ≡ old.reads
  pub guids : new.guids ≡ old.guids
  pub times : new.times ≡ old.times

-- a read was counted, or none at a fault
pub record CountsRead {T E : Type 0} (tells : Bool) (result : Result T E) (old new : World) : Type 0 where
  pub said : new.said ≡ old.said
  pub reads : IsTrue tells → MatchResult result (λ _. new.reads ≡ old.reads + 1) (λ _. new.reads ≡ old.reads)
  pub guids : new.guids ≡ old.guids
  pub times : new.times ≡ old.times

-- these bytes were said; at a fault a front of them
pub record Says {T E : Type 0} (tells : Bool) (result : Result T E) (old new : World) (bytes : List ℕ) : Type 0 where
  pub said : IsTrue tells → MatchResult result (λ _. new.said ≡ old.said ++ bytes) (λ _. (k : ℕ) × (new.said ≡ old.said ++ take k bytes))
  pub reads : new.reads ≡ old.reads
  pub guids : new.guids ≡ old.guids
  pub times : new.times ≡ old.times

-- the answer is a GUID given
pub record GivesGuid {E : Type 0} (tells : Bool) (result : Result (List ℕ) E) (old new : World) : Type 0 where
  pub said : new.said ≡ old.said
  pub reads : new.reads ≡ old.reads
  pub guids : IsTrue tells → MatchResult result (λ guid. new.guids ≡ old.guids ++ guid ∷ []) (λ _. new.guids ≡ old.guids)
  pub times : new.times ≡ old.times

-- the answer is a clock value given
pub record GivesTime {E : Type 0} (tells : Bool) (result : Result ℕ E) (old new : World) : Type 0 where
  pub said : new.said ≡ old.said
  pub reads : new.reads ≡ old.reads
  pub guids : new.guids ≡ old.guids
  pub times : IsTrue tells → MatchResult result (λ time. new.times ≡ old.times ++ time ∷ []) (λ _. new.times ≡ old.times)
