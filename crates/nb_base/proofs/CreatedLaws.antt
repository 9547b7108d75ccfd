-- What creating a database answers, and what it leaves after a test that changed nothing.
use Rattle.std.proofs.Common.{◌≡◌, ◌≤◌, inr, inl, ⊎_elim, ℕ, List, [], sym, ◌∙◌, ap, subst, arith, Bool, IsTrue, true, false, Result, Ok, Err}
use Rattle.nb_base.proofs.Common.{err_from_is_err_and, is_page_size, fresh, normal_state, Files, World, Fault, Device, Changes, Only, GaveNothing, left_before, rested, composed, Quiet, Image, base_of, delta_name, fresh_main, fresh_size, fresh_state, fresh_forced, main_facts, Held, CreateLeft, CreateReads, CreatesFile, Creates, IsSettled, true≢false}
use Rattle.std.specs.Result.{IsErrAnd}
use Rattle.nb_page.specs.Free.{is_free_name}
use Rattle.nb_base.proofs.FirmLaws.{shows_firm}

-- a test that changed nothing leaves what stood before
pub quiet_left : (old new : World) (name : List ℕ) (image : Image) → Quiet old new → Changes old new (Only name) (CreateLeft old name image)
quiet_left old new name image quiet = rested old new (Only name) _ quiet.still quiet.said quiet.moments (λ files left. inl (left name))

-- and what comes after it leaves what it would have left at once
pub quiet_then : (old mid new : World) (name : List ℕ) (image : Image) → Quiet old mid → Changes mid new (Only name) (CreateLeft mid name image) → Changes old new (Only name) (CreateLeft old name image)
quiet_then old mid new name image quiet so_far =
    composed old mid new (Only name) _ _ _ (quiet_left old mid name image quiet) so_far (λ files left. left)
    (λ files. ⊎_elim (λ was. inl (left_before old mid _ quiet.still.left name (files name) tt was)) inr)

-- so it is of what reads
pub quiet_then_reads : (old mid : World) (name : List ℕ) (image : Image) (files : Files) → Quiet old mid → CreateReads mid name image files → CreateReads old name image files
quiet_then_reads old mid name image files quiet = ⊎_elim (λ same. inl (same ∙ ap (λ (f : Files). f name) quiet.still.files)) inr

-- a name that is free isn't taken
pub not_taken : (old new : World) (name : List ℕ) (free : Bool) → free ≡ true → free ≡ is_free_name old.files name → is_free_name old.files name ≡ false → Quiet old new
not_taken old new name free told is taken = absurd (true≢false (sym told ∙ is ∙ taken))

-- the device failed
pub failed : (result : Result ℕ Fault) (old new : World) (name : List ℕ) (image : Image) → IsErrAnd result (λ fault. fault ≡ Device) → Changes old new (Only name) (CreateLeft old name image)
    → CreateReads old name image new.files → (is_free_name old.files name ≡ false → Quiet old new) → CreatesFile result old new name image
failed result old new name image gives so_far reads taken =
    let error = err_from_is_err_and {Q = λ (fault : Fault). fault ≡ Device} result gives in
    subst (λ (r : Result ℕ Fault). CreatesFile r old new name image) (sym (error.1 ∙ ap Err error.2)) (record { answer = tt; left = so_far; reads = reads; taken = taken })

-- what is held of a new database agrees with it
pub created : (size raw : ℕ) → IsTrue (is_page_size size) → raw ≤ 65535 → (long : ℕ) → long ≡ size → (old new : World) (name : List ℕ) (held : Held) → held.name ≡ name → held.page_size ≡ size → held.state ≡ normal_state → held.forced ≡ true → held.entries ≡ [] → held.drafted ≡ 0
    → CreatesFile (Ok held.count) old new name (fresh long raw) → GaveNothing old new → Creates (Ok held) old new name (fresh size raw)
created size raw is few long same old new name held named sized normal forced none none_drafted file gave =
    let image : Image = fresh size raw in
    let makes : CreatesFile (Ok held.count) old new name image = subst (λ (n : ℕ). CreatesFile (Ok held.count) old new name (fresh n raw)) same file in
    let ready : IsSettled new held.name (base_of image) = subst (λ (n : List ℕ). IsSettled new n (base_of image)) (sym named) makes.answer.2 in
    record {
      answer = (
        makes.answer.0,
        named,
        record {
          left = λ files left. shows_firm held.name (base_of image) (files held.name) (files (delta_name held.name)) (ready.left files left);
          shows = ready.shows;
          agrees = record {
            header = (main_facts image _ (fresh_main size raw is few)).header;
            page_size = sized ∙ sym (fresh_size size raw is);
            state = normal ∙ sym (fresh_state size raw);
            opened = omega (arith, normal);
            forced = forced ∙ sym (fresh_forced size raw);
            count = makes.answer.1;
            main_count = λ stalled. absurd (omega (arith, normal, stalled));
            entries = none;
          };
          drafted = none_drafted;
        },
      );
      left = makes.left;
      reads = makes.reads;
      gave = gave;
      taken = makes.taken;
    }
