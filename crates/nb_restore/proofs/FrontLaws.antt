-- The first 64 bytes of the target stay while pages after page 0 are written.
use Rattle.std.proofs.Common.{◌≡◌, ◌⊎◌, inl, inr, ⊎_elim, ℕ, ◌+◌, ◌-◌, ◌*◌, ◌≤◌, List, ◌++◌, length, take, drop, replicate, sym, ap, subst, ◌∙◌, arith, length-append, Bool, IsTrue, Some, Result, Ok, Err, OnOk}
use Rattle.nb_restore.proofs.Common.{take-append-le, take-take, length-take-le, length-replicate, File, Files, bytes_of, padded, put_at, with_page, World, AppendLeft, PageLeft, AppendsBytes, IsStill, WritesPage, IsTimely, Passes, Changes, Only, Moved, whole_on_ok, on_ok_then, bytes_alone, page_alone, moved_begun, moved_still, moved_joined, BeginsWith, KeepsFront, with_file-named, far_behind}

-- bytes after, and a page after
front_grown : (front more : List ℕ) (b : File) → BeginsWith front b → BeginsWith front (Some (bytes_of b ++ more))
front_grown front more b begins = record {
  long = omega (arith, length-append (bytes_of b) more, begins.long);
  is = take-append-le 64 (bytes_of b) more begins.long ∙ begins.is;
}

front_put : (front : List ℕ) (at : ℕ) (page : List ℕ) (b : File) → 64 ≤ at → BeginsWith front b → BeginsWith front (with_page b at page)
unfolding put_at padded
front_put front at page b far begins =
    let bytes : List ℕ = bytes_of b in
    let wide : List ℕ = bytes ++ replicate (at - length bytes) 0 in
    let long : at ≤ length wide = omega (arith, length-append bytes (replicate (at - length bytes) 0), length-replicate {A = ℕ} (at - length bytes) 0) in
    let part : length (take at wide) ≡ at = length-take-le at wide long in
    record {
      long = omega (arith, length-append (take at wide) (page ++ drop (at + length page) bytes), part, far);
      is = take-append-le 64 (take at wide) (page ++ drop (at + length page) bytes) (omega (arith, far, part)) ∙ take-take 64 at wide far
          ∙ take-append-le 64 bytes (replicate (at - length bytes) 0) begins.long ∙ begins.is;
    }

pub keeps_none : (b : File) → KeepsFront b b
keeps_none b front begins = begins

pub keeps_page : (at : ℕ) (page : List ℕ) (b c : File) → 64 ≤ at → PageLeft at page b c → KeepsFront b c
keeps_page at page b c far (inl same) front begins = subst (λ (f : File). BeginsWith front f) (sym same) begins
keeps_page at page b c far (inr (inl put)) front begins = subst (λ (f : File). BeginsWith front f) (sym put) (front_put front at page b far begins)
keeps_page at page b c far (inr (inr (k, fits, grown))) front begins = subst (λ (f : File). BeginsWith front f) (sym grown) (front_grown front (replicate (k * length page) 0) b begins)

pub keeps_bytes : (len : ℕ) (bytes : List ℕ) (b c : File) → AppendLeft len bytes b c → KeepsFront b c
keeps_bytes len bytes b c (inl same) front begins = subst (λ (f : File). BeginsWith front f) (sym same) begins
keeps_bytes len bytes b c (inr (torn, from, there, grown)) front begins = subst (λ (f : File). BeginsWith front f) (sym grown) (front_grown front torn b begins)

-- at Ok the page was put
pub put_on_ok : {T E : Type 0} (tells : Bool) (result : Result T E) (old new : World) (name : List ℕ) (at : ℕ) (page : List ℕ) → IsTrue tells → WritesPage tells result old new name at page → OnOk result (new.files name ≡ with_page (old.files name) at page)
put_on_ok tells result old new name at page told writes = on_ok_then result (with_file-named old.files new.files name (with_page (old.files name) at page)) (whole_on_ok result old.files _ new.files (writes.files told))

-- the file reads as before the page was written, or with it
pub page_read : {T E : Type 0} (tells : Bool) (result : Result T E) (old new : World) (name : List ℕ) (at : ℕ) (page : List ℕ) → IsTrue tells → WritesPage tells result old new name at page
    → (new.files name ≡ old.files name) ⊎ (new.files name ≡ with_page (old.files name) at page)
page_read tells (Ok value) old new name at page told writes = inr (with_file-named old.files new.files name (with_page (old.files name) at page) (writes.files told))
page_read tells (Err e) old new name at page told writes =
    ⊎_elim (λ same. inl (ap (λ (f : Files). f name) same)) (λ put. inr (with_file-named old.files new.files name (with_page (old.files name) at page) put)) (writes.files told)

module _ (name : List ℕ) where
  -- before the first call
  pub front_begun : (old : World) → IsTimely old → Changes old old (Only name) (Moved old name KeepsFront)
  front_begun old timely = moved_begun old (Only name) name KeepsFront timely (λ b was. keeps_none b)

  -- a call that changes no file
  pub front_still : (old new : World) → IsTimely old → IsStill old new → new.said ≡ old.said → Passes old new → Changes old new (Only name) (Moved old name KeepsFront)
  front_still old new timely still silent time = moved_still old new (Only name) name KeepsFront timely still silent time (λ b was. keeps_none b)

  -- a page after page 0 is written, also where that fails
  pub front_page : {T E : Type 0} (tells : Bool) (result : Result T E) (old new : World) (n : ℕ) (page : List ℕ) → IsTrue tells → 1 ≤ n → 1024 ≤ length page → IsTimely old → WritesPage tells result old new name (n * length page) page
      → new.said ≡ old.said → Passes old new → Changes old new (Only name) (Moved old name KeepsFront)
  front_page tells result old new n page told some wide timely writes silent time =
      page_alone tells result old new name (n * length page) page KeepsFront told timely writes silent time (λ b c was next. keeps_page (n * length page) page b c (far_behind n (length page) some wide) next)

  -- bytes are appended, also where that fails
  pub front_bytes : {T E : Type 0} (tells : Bool) (result : Result T E) (old new : World) (bytes : List ℕ) → IsTrue tells → IsTimely old → AppendsBytes tells result old new name bytes → new.said ≡ old.said → Passes old new
      → Changes old new (Only name) (Moved old name KeepsFront)
  front_bytes tells result old new bytes told timely appends silent time =
      bytes_alone tells result old new name bytes KeepsFront told timely appends silent time (λ b c was next. keeps_bytes (length (bytes_of (old.files name))) bytes b c next)

  -- one run of calls after another
  pub front_joined : (old mid new : World) → Changes old mid (Only name) (Moved old name KeepsFront) → Changes mid new (Only name) (Moved mid name KeepsFront) → Changes old new (Only name) (Moved old name KeepsFront)
  front_joined old mid new first second =
      moved_joined old mid new name KeepsFront KeepsFront KeepsFront first second (λ b c was by. by) (λ b c d was left one two front begins. two front (one front begins))

  -- and then a call that changes no file, or appends bytes
  pub front_then_still : (old mid new : World) → Changes old mid (Only name) (Moved old name KeepsFront) → IsTimely mid → IsStill mid new → new.said ≡ mid.said → Passes mid new → Changes old new (Only name) (Moved old name KeepsFront)
  front_then_still old mid new so_far timely still silent time = front_joined old mid new so_far (front_still mid new timely still silent time)

  pub front_then_bytes : {T E : Type 0} (tells : Bool) (result : Result T E) (old mid new : World) (bytes : List ℕ) → IsTrue tells → Changes old mid (Only name) (Moved old name KeepsFront) → IsTimely mid → AppendsBytes tells result mid new name bytes
      → new.said ≡ mid.said → Passes mid new → Changes old new (Only name) (Moved old name KeepsFront)
  front_then_bytes tells result old mid new bytes told so_far timely appends silent time = front_joined old mid new so_far (front_bytes tells result mid new bytes told timely appends silent time)
