-- What one call of a host changes: by itself, and after a run of calls.
use Rattle.std.proofs.Common.{◌≡◌, ◌≢◌, ◌⊎◌, inl, inr, ⊎_elim, ℕ, Bool, List, refl, sym, ◌∙◌, ap, subst, length, Result, Ok, Err, IsTrue}
use Rattle.nb_change.proofs.Common.{File, Files, bytes_of, with_file, World, Leaves, LeavesAll, PageLeft, AppendLeft, IsStill, Remakes, Steps, WritesPage, AppendsBytes, IsTimely, Passes, Names, Other, Only, Changes, Moved, Remade}
use Rattle.nb_change.proofs.MomentLaws.{left_before, untouched_fewer}
use Rattle.nb_change.proofs.NameLaws.{decide, with_file-same, with_file-other, whole-other}
use Rattle.nb_change.proofs.ChangesLaws.{begun, one_more, still_more, left_with}

-- the files that weren't written read as they did
pub page_others : {T E : Type 0} (tells : Bool) (result : Result T E) (old new : World) (name : List ℕ) (at : ℕ) (page : List ℕ) → IsTrue tells → WritesPage tells result old new name at page → (m : List ℕ) → m ≢ name → new.files m ≡ old.files m
page_others tells result old new name at page told writes m other = whole-other result old.files new.files name _ (writes.files told) m other

pub bytes_others : {T E : Type 0} (tells : Bool) (result : Result T E) (old new : World) (name bytes : List ℕ) → IsTrue tells → AppendsBytes tells result old new name bytes → (m : List ℕ) → m ≢ name → new.files m ≡ old.files m
bytes_others tells (Ok x) old new name bytes told appends m other = ap (λ (f : Files). f m) (appends.files told) ∙ with_file-other old.files name _ m other
bytes_others tells (Err e) old new name bytes told appends m other =
    ⊎_elim (λ same. ap (λ (f : Files). f m) same) (λ some. ap (λ (f : Files). f m) some.1 ∙ with_file-other old.files name _ m other) (appends.files told)

pub remade_others : {T E : Type 0} (tells : Bool) (result : Result T E) (old new : World) (name : List ℕ) (file : File) → IsTrue tells → Remakes tells result old new name file → (m : List ℕ) → m ≢ name → new.files m ≡ old.files m
remade_others tells result old new name file told remakes m other = whole-other result old.files new.files name file (remakes.files told) m other

-- One call more, by which one file goes on by a step. It goes on from what was made since the file was last made or removed.
pub step_since : (old mid new : World) (names : Names) (P Q : Files → Type 0) (name : List ℕ) (step : File → File → Type 0) → Changes old mid names P → names name → Passes mid new → Steps mid new name step
    → ((m : List ℕ) → m ≢ name → new.files m ≡ mid.files m) → new.said ≡ mid.said
    → ((files : Files) → P files → Q files)
    → ((before files : Files) → LeavesAll mid before → mid.now name (before name) → P before → step (before name) (files name) → ((m : List ℕ) → m ≢ name → files m ≡ before m) → Q files) → Changes old new names Q
step_since old mid new names P Q name step so_far touched time steps read silent weak by =
    one_more old mid new names P Q so_far time (untouched_fewer mid new _ _ steps.others (λ m other. apart m other)) (λ m other. read m (apart m other)) silent weak
    (λ files left.
    let others : (m : List ℕ) → m ≢ name → Leaves mid m (files m) = λ m other. left_before mid new _ steps.others m (files m) other (left m) in
    ⊎_elim
    (λ back. weak files (so_far.now files (λ m. ⊎_elim (λ (is : m ≡ name). subst (λ (n : List ℕ). Leaves mid n (files n)) (sym is) (inl (steps.back (files name) back))) (λ (other : m ≢ name). others m other) (decide m name))))
    (λ now.
    let from = steps.now (files name) now in
    let before : Files = with_file files name from.0 in
    let here : from.0 ≡ before name = sym (with_file-same files name from.0) in
    let all : LeavesAll mid before = left_with mid name files from.0 others (inr from.1) in
    by before files all (subst (λ (f : File). mid.now name f) here from.1) (so_far.now before all) (subst (λ (f : File). step f (files name)) here from.2)
    (λ m other. sym (with_file-other files name from.0 m other)))
    (left name))
  where
    apart : (m : List ℕ) → Other names m → m ≢ name
    apart m other is = other (subst names (sym is) touched)

-- the same, of whatever a crash would have left
pub step_more : (old mid new : World) (names : Names) (P Q : Files → Type 0) (name : List ℕ) (step : File → File → Type 0) → Changes old mid names P → names name → Passes mid new → Steps mid new name step
    → ((m : List ℕ) → m ≢ name → new.files m ≡ mid.files m) → new.said ≡ mid.said
    → ((files : Files) → P files → Q files)
    → ((before files : Files) → LeavesAll mid before → P before → step (before name) (files name) → ((m : List ℕ) → m ≢ name → files m ≡ before m) → Q files) → Changes old new names Q
step_more old mid new names P Q name step so_far touched time steps read silent weak by =
    step_since old mid new names P Q name step so_far touched time steps read silent weak (λ before files left now has next others. by before files left has next others)

-- a page write more
pub page_more : {T E : Type 0} (tells : Bool) (result : Result T E) (old mid new : World) (names : Names) (P Q : Files → Type 0) (name : List ℕ) (at : ℕ) (page : List ℕ) → IsTrue tells → Changes old mid names P → names name
    → WritesPage tells result mid new name at page → new.said ≡ mid.said → Passes mid new
    → ((files : Files) → P files → Q files)
    → ((before files : Files) → LeavesAll mid before → P before → PageLeft at page (before name) (files name) → ((m : List ℕ) → m ≢ name → files m ≡ before m) → Q files) → Changes old new names Q
page_more tells result old mid new names P Q name at page told so_far touched writes silent time weak by =
    step_more old mid new names P Q name (PageLeft at page) so_far touched time writes.left (page_others tells result mid new name at page told writes) silent weak by

-- a call by itself that changes no file
pub still_alone : (old new : World) (names : Names) (P : Files → Type 0) → IsTimely old → IsStill old new → new.said ≡ old.said → Passes old new → ((files : Files) → LeavesAll old files → P files) → Changes old new names P
still_alone old new names P timely still silent time here = still_more old old new names P (begun old names P timely here) time still silent

-- A call by itself by which a file goes on by a step: what a crash leaves of it comes by `all`, which allows for no step too.
pub step_alone : (old new : World) (name : List ℕ) (step all : File → File → Type 0) → IsTimely old → Steps old new name step → ((m : List ℕ) → m ≢ name → new.files m ≡ old.files m) → new.said ≡ old.said → Passes old new
    → ((b : File) → Leaves old name b → all b b) → ((b c : File) → Leaves old name b → step b c → all b c) → Changes old new (Only name) (Moved old name all)
step_alone old new name step all timely steps read silent time none by =
    step_more old old new (Only name) (λ files. Leaves old name (files name)) (Moved old name all) name step (begun old (Only name) _ timely (λ files left. left name)) refl time steps read silent
    (λ files was. record { before = files name; was = was; by = none (files name) was })
    (λ before files left was next others. record { before = before name; was = was; by = by (before name) (files name) was next })

-- a page write by itself
pub page_alone : {T E : Type 0} (tells : Bool) (result : Result T E) (old new : World) (name : List ℕ) (at : ℕ) (page : List ℕ) (all : File → File → Type 0) → IsTrue tells → IsTimely old
    → WritesPage tells result old new name at page → new.said ≡ old.said → Passes old new
    → ((b c : File) → Leaves old name b → PageLeft at page b c → all b c) → Changes old new (Only name) (Moved old name all)
page_alone tells result old new name at page all told timely writes silent time by =
    step_alone old new name (PageLeft at page) all timely writes.left (page_others tells result old new name at page told writes) silent time (λ b was. by b b was (inl refl)) by

-- bytes appended, by themselves
pub bytes_alone : {T E : Type 0} (tells : Bool) (result : Result T E) (old new : World) (name bytes : List ℕ) (all : File → File → Type 0) → IsTrue tells → IsTimely old
    → AppendsBytes tells result old new name bytes → new.said ≡ old.said → Passes old new
    → ((b c : File) → Leaves old name b → AppendLeft (length (bytes_of (old.files name))) bytes b c → all b c) → Changes old new (Only name) (Moved old name all)
bytes_alone tells result old new name bytes all told timely appends silent time by =
    step_alone old new name (AppendLeft (length (bytes_of (old.files name))) bytes) all timely appends.left (bytes_others tells result old new name bytes told appends) silent time (λ b was. by b b was (inl refl)) by

-- a file made anew or removed, by itself
pub remade_alone : {T E : Type 0} (tells : Bool) (result : Result T E) (old new : World) (name : List ℕ) (file : File) (made : File → Type 0) → IsTrue tells → IsTimely old
    → Remakes tells result old new name file → new.said ≡ old.said → Passes old new → made file → Changes old new (Only name) (Remade old name made)
remade_alone tells result old new name file made told timely remakes silent time is =
    one_more old old new (Only name) (Remade old name made) (Remade old name made) (begun old (Only name) _ timely (λ files left. inl (left name))) time remakes.others (remade_others tells result old new name file told remakes) silent
    (λ files has. has)
    (λ files left. ⊎_elim (λ back. inl (remakes.back (files name) back)) (λ now. ⊎_elim inl (λ e. inr (subst made (sym e) is)) (remakes.now (files name) now)) (left name))

-- one call more after a file that was made anew, where all that was made since is known
pub remade_step : (old mid new : World) (name : List ℕ) (first made all : File → Type 0) (step : File → File → Type 0) → Changes old mid (Only name) (Remade old name first) → Passes mid new → Steps mid new name step
    → ((m : List ℕ) → m ≢ name → new.files m ≡ mid.files m) → new.said ≡ mid.said
    → ((c : File) → mid.now name c → made c) → ((c : File) → first c → all c) → ((c d : File) → made c → step c d → all d) → Changes old new (Only name) (Remade old name all)
remade_step old mid new name first made all step so_far time steps read silent known weak by =
    step_since old mid new (Only name) (Remade old name first) (Remade old name all) name step so_far refl time steps read silent
    (λ files. ⊎_elim inl (λ is. inr (weak (files name) is)))
    (λ before files left now has next others. inr (by (before name) (files name) (known (before name) now) next))
