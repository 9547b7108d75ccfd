-- What a call says of the object that it knows, by what it says of the object's parts.
use Rattle.std.proofs.Common.{◌≡◌, ℕ, ◌+◌, ◌-◌, ◌*◌, ◌<◌, ◌≤◌, List, [], ◌∷◌, ◌++◌, length, take, drop, replicate, refl, sym, ap, ◌∙◌, subst, arith, inl, inr, IsTrue, length-append, append_assoc, None}
use Rattle.nb_delta.proofs.Common.{World, cases_lt, take-append-le, take-append-drop, take_all, length-take-le, length-replicate, drop-replicate, replicate-append-replicate, append-nil, File, Files, bytes_of, ReadsBytes, IsTimely, is_page_size, most_pages, page_in, slot_place, Only, Changes, Moved, Remade, moved_begun, place_of, Known, HasTable, HasZeros, slot_page, SlotStep, AddStep, IsBlank, IsNewest, Waits, FrontStep, HasAll, nil_from_length}
use Rattle.nb_delta.proofs.StepLaws.{keeps_none}

-- what a crash leaves while an entry is added
abbrev pub AddChanges : World → World → (number : ℕ) → (page : List ℕ) → Known → Type 0
AddChanges old new number page k =
    HasTable k.page_size (old.files k.name) k.entries → Changes old new (Only k.name) (Moved old k.name (AddStep k.page_size k.entries number page (old.files k.name)))

pub add_changes : (old new : World) (number : ℕ) (page entries : List ℕ) (inside k : Known) → inside ≡ k → length page ≡ k.page_size → place_of k.entries number ≡ None → number < most_pages → entries ≡ inside.entries ++ number ∷ []
    → ((before : List ℕ) → (n : ℕ) → IsNewest entries before n → HasTable (length page) (old.files inside.name) before
    → Changes old new (Only inside.name) (Moved old inside.name (AddStep (length page) before n page (old.files inside.name))))
    → AddChanges old new number page k
add_changes old new number page entries inside k same size fresh below is changes =
    subst (λ (x : Known). AddChanges old new number page x) same
    (λ has.
    let size_is : length page ≡ inside.page_size = size ∙ sym (ap (λ (x : Known). x.page_size) same) in
    let newest : IsNewest entries inside.entries number = record { is = is; fresh = subst (λ (x : Known). place_of x.entries number ≡ None) (sym same) fresh; below = below } in
    subst (λ (n : ℕ). Changes old new (Only inside.name) (Moved old inside.name (AddStep n inside.entries number page (old.files inside.name)))) size_is
    (changes inside.entries number newest (subst (λ (n : ℕ). HasTable n (old.files inside.name) inside.entries) (sym size_is) has)))

pub add_begun : (old : World) (number : ℕ) (page : List ℕ) (inside k : Known) → inside ≡ k → IsTrue (is_page_size inside.page_size) → IsTimely old → AddChanges old old number page k
add_begun old number page inside k same is timely =
    subst (λ (x : Known). AddChanges old old number page x) same
    (λ has. moved_begun old (Only inside.name) inside.name (AddStep inside.page_size inside.entries number page (old.files inside.name)) timely (λ d was. inl (keeps_none inside.page_size is (length inside.entries) d)))

-- while a slot is written
abbrev pub SlotChanges : World → World → (slot : ℕ) → (page : List ℕ) → Known → Type 0
SlotChanges old new slot page k =
    (j : ℕ) → slot ≡ slot_place k.page_size j → Changes old new (Only k.name) (Moved old k.name (SlotStep k.page_size j page))

pub slot_changes : (old new : World) (slot : ℕ) (page : List ℕ) (inside k : Known) → inside ≡ k → length page ≡ k.page_size
    → ((j : ℕ) → slot ≡ slot_place (length page) j → Changes old new (Only inside.name) (Moved old inside.name (SlotStep (length page) j page)))
    → SlotChanges old new slot page k
slot_changes old new slot page inside k same size changes =
    subst (λ (x : Known). SlotChanges old new slot page x) same
    (λ j at.
    let size_is : length page ≡ inside.page_size = size ∙ sym (ap (λ (x : Known). x.page_size) same) in
    subst (λ (n : ℕ). Changes old new (Only inside.name) (Moved old inside.name (SlotStep n j page))) size_is
    (changes j (at ∙ ap (λ (n : ℕ). slot_place n j) (sym size_is))))

-- while the file is made
abbrev pub MakeChanges : World → World → Known → Type 0
MakeChanges old new k = Changes old new (Only k.name) (Remade old k.name (IsBlank k.page_size))

-- and while it is taken away
abbrev pub ClearChanges : World → World → Known → Type 0
ClearChanges old new k = Changes old new (Only k.name) (Remade old k.name (λ file. file ≡ None))

-- the object forgot all entries before the call
pub forgot_name : (inside forgot k : Known) → inside ≡ forgot → forgot ≡ record k { entries = []; drafted = 0 } → inside.name ≡ k.name
forgot_name inside forgot k same is = ap (λ (x : Known). x.name) (same ∙ is)

pub forgot_size : (inside forgot k : Known) → inside ≡ forgot → forgot ≡ record k { entries = []; drafted = 0 } → inside.page_size ≡ k.page_size
forgot_size inside forgot k same is = ap (λ (x : Known). x.page_size) (same ∙ is)

pub make_changes : (old new : World) (n : ℕ) (inside forgot k : Known) → inside ≡ forgot → forgot ≡ record k { entries = []; drafted = 0 } → n ≡ inside.page_size
    → Changes old new (Only inside.name) (Remade old inside.name (IsBlank n)) → MakeChanges old new k
make_changes old new n inside forgot k same is size changes =
    subst (λ (name : List ℕ). Changes old new (Only name) (Remade old name (IsBlank k.page_size))) (forgot_name inside forgot k same is)
    (subst (λ (m : ℕ). Changes old new (Only inside.name) (Remade old inside.name (IsBlank m))) (size ∙ forgot_size inside forgot k same is) changes)

pub clear_changes : (old new : World) (inside forgot k : Known) → inside ≡ forgot → forgot ≡ record k { entries = []; drafted = 0 }
    → Changes old new (Only inside.name) (Remade old inside.name (λ file. file ≡ None)) → ClearChanges old new k
clear_changes old new inside forgot k same is changes =
    subst (λ (name : List ℕ). Changes old new (Only name) (Remade old name (λ file. file ≡ None))) (forgot_name inside forgot k same is) changes

-- bytes with zeros after them, `k` of which are taken
padded_to : (size k : ℕ) (rest : List ℕ) → size ≡ k + length rest → take size (rest ++ replicate size 0) ≡ rest ++ replicate k 0
padded_to size k rest sum =
    let long : length (rest ++ replicate k 0) ≡ size = omega (arith, sum, length-append rest (replicate k 0), length-replicate {A = ℕ} k 0) in
    ap (λ (n : ℕ). take size (rest ++ replicate n 0)) sum
    ∙ ap (λ (xs : List ℕ). take size (rest ++ xs)) (sym (replicate-append-replicate k (length rest) 0))
    ∙ ap (λ (xs : List ℕ). take size xs) (sym (append_assoc rest (replicate k 0) (replicate (length rest) 0)))
    ∙ take-append-le size (rest ++ replicate k 0) (replicate (length rest) 0) (omega (arith, long))
    ∙ take_all size (rest ++ replicate k 0) (omega (arith, long))

-- what is read over zeros is the page, with zeros where the file ends before
read_over : (file : File) (slot size : ℕ) (zeros after : List ℕ) (count : ℕ) → zeros ≡ replicate size 0 → length after ≡ size → ReadsBytes file (slot * size) zeros after count → after ≡ page_in size (bytes_of file) slot
unfolding page_in
read_over file slot size zeros after count empty long read =
    let rest : List ℕ = drop (slot * size) (bytes_of file) in
    let room : length zeros ≡ size = ap (λ (xs : List ℕ). length xs) empty ∙ length-replicate {A = ℕ} size 0 in
    let front : take count after ≡ take size rest = read.bytes ∙ ap (λ (n : ℕ). take n rest) room in
    let inside : count ≤ length after = omega (arith, read.room, room, long) in
    let counted : count ≡ length (take size rest) = sym (length-take-le count after inside) ∙ ap (λ (xs : List ℕ). length xs) front in
    let back : drop count after ≡ replicate (size - count) 0 = read.rest ∙ ap (λ (xs : List ℕ). drop count xs) empty ∙ drop-replicate count size 0 in
    let parts : after ≡ take size rest ++ replicate (size - count) 0 =
    sym (take-append-drop count after) ∙ ap (λ (xs : List ℕ). xs ++ drop count after) front ∙ ap (λ (xs : List ℕ). take size rest ++ xs) back in
    elim (cases_lt (length rest) size) [
      | inl l ↦
          let all : take size rest ≡ rest = take_all size rest (omega arith) in
          let so_many : count ≡ length rest = counted ∙ ap (λ (xs : List ℕ). length xs) all in
          parts ∙ ap (λ (xs : List ℕ). xs ++ replicate (size - count) 0) all ∙ ap (λ (n : ℕ). rest ++ replicate (size - n) 0) so_many ∙ sym (padded_to size (size - length rest) rest (omega (arith, l)))
      | inr l ↦
          let none : size - count ≡ 0 = omega (arith, counted, length-take-le size rest l) in
          parts ∙ ap (λ (n : ℕ). take size rest ++ replicate n 0) none ∙ append-nil (take size rest) ∙ sym (take-append-le size rest (replicate size 0) l)
    ]

pub slot_read : (files : Files) (slot size : ℕ) (zeros after : List ℕ) (count : ℕ) (inside k : Known) → inside ≡ k → size ≡ k.page_size → zeros ≡ replicate size 0 → length after ≡ size
    → ReadsBytes (files inside.name) (slot * inside.page_size) zeros after count → (j : ℕ) → slot ≡ slot_place k.page_size j → after ≡ slot_page k.page_size (files k.name) j
slot_read files slot size zeros after count inside k same is empty long read =
    let here : size ≡ inside.page_size = is ∙ sym (ap (λ (x : Known). x.page_size) same) in
    subst (λ (x : Known). (j : ℕ) → slot ≡ slot_place x.page_size j → after ≡ slot_page x.page_size (files x.name) j) same
    (λ j at.
    read_over (files inside.name) slot inside.page_size zeros after count (empty ∙ ap (λ (n : ℕ). replicate n 0) here) (long ∙ here) read
    ∙ ap (λ (n : ℕ). page_in inside.page_size (bytes_of (files inside.name)) n) at)

-- while the entries that wait are written
abbrev pub WaitChanges : World → World → Known → Type 0
WaitChanges old new k =
    (table waiting : List ℕ) → Waits k.page_size k.entries k.drafted table waiting (old.files k.name) → Changes old new (Only k.name) (Moved old k.name (FrontStep k.page_size table waiting (old.files k.name)))

pub wait_changes : (old new : World) (size : ℕ) (inside k : Known) → inside ≡ k → size ≡ inside.page_size
    → ((table waiting : List ℕ) → Waits size inside.entries inside.drafted table waiting (old.files inside.name)
    → Changes old new (Only inside.name) (Moved old inside.name (FrontStep size table waiting (old.files inside.name))))
    → WaitChanges old new k
wait_changes old new size inside k same is changes =
    subst (λ (x : Known). WaitChanges old new x) same
    (subst (λ (n : ℕ). (table waiting : List ℕ) → Waits n inside.entries inside.drafted table waiting (old.files inside.name)
    → Changes old new (Only inside.name) (Moved old inside.name (FrontStep n table waiting (old.files inside.name)))) is changes)

-- before the first call
pub wait_begun : (old : World) (inside k : Known) → inside ≡ k → IsTimely old → WaitChanges old old k
wait_begun old inside k same timely =
    subst (λ (x : Known). WaitChanges old old x) same
    (λ table waiting waits. moved_begun old (Only inside.name) inside.name (FrontStep inside.page_size table waiting (old.files inside.name)) timely
    (λ d was. inl (record { tables = λ entries few has. has; zeros = λ m few has. has; slots = λ j. refl; no_shorter = omega arith })))

-- what a file holds after them
abbrev pub WaitWrites : (before after : Files) → Known → Type 0
WaitWrites before after k = (table waiting : List ℕ) → Waits k.page_size k.entries k.drafted table waiting (before k.name) → HasAll k.page_size k.entries (before k.name) (after k.name)

pub wait_writes : (before after : Files) (size : ℕ) (inside k : Known) → inside ≡ k → size ≡ inside.page_size
    → ((table waiting : List ℕ) → Waits size inside.entries inside.drafted table waiting (before inside.name) → HasAll size inside.entries (before inside.name) (after inside.name)) → WaitWrites before after k
wait_writes before after size inside k same is writes =
    subst (λ (x : Known). WaitWrites before after x) same
    (subst (λ (n : ℕ). (table waiting : List ℕ) → Waits n inside.entries inside.drafted table waiting (before inside.name) → HasAll n inside.entries (before inside.name) (after inside.name)) is writes)

-- and after its last numbers
abbrev pub WaitZeros : (before after : Files) → Known → Type 0
WaitZeros before after k = (table waiting : List ℕ) → Waits k.page_size k.entries k.drafted table waiting (before k.name) → HasZeros k.page_size (after k.name) (length k.entries)

pub wait_zeros : (before after : Files) (size : ℕ) (inside k : Known) → inside ≡ k → size ≡ inside.page_size
    → ((table waiting : List ℕ) → Waits size inside.entries inside.drafted table waiting (before inside.name) → HasZeros size (after inside.name) (length inside.entries)) → WaitZeros before after k
wait_zeros before after size inside k same is zeros =
    subst (λ (x : Known). WaitZeros before after x) same
    (subst (λ (n : ℕ). (table waiting : List ℕ) → Waits n inside.entries inside.drafted table waiting (before inside.name) → HasZeros n (after inside.name) (length inside.entries)) is zeros)

-- where none waits, the file has all entries already
pub none_waits : (files : Files) (inside k : Known) → inside ≡ k → inside.drafted ≡ 0 → WaitWrites files files k
none_waits files inside k same none =
    subst (λ (x : Known). WaitWrites files files x) same
    (λ table waiting waits.
    let all : inside.entries ≡ table = waits.all ∙ ap (λ (xs : List ℕ). table ++ xs) (nil_from_length waiting (waits.many ∙ none)) ∙ append-nil table in
    record { has = subst (λ (xs : List ℕ). HasTable inside.page_size (files inside.name) xs) (sym all) waits.has; slots = λ j. refl; no_shorter = omega arith })
