-- Opening a database: its two files are those that were read, or the refusal is the one of their owner.
use Rattle.std.proofs.Common.{◌≡◌, ◌≢◌, inl, inr, ℕ, zero, suc, ◌<◌, List, [], length, refl, sym, ap, subst, ◌∙◌, arith, true, false, ◌==◌, Some, None, Result, Ok, Err, IsErr, IsErrAnd, max}
use Rattle.nb_base.proofs.Common.{eqb_tells, state_of, size_of, table_of, normal_state, stalled_state, File, Files, bytes_of, World, LeavesAll, IsDurable, Fault, Refused, Device, Memory, Refusal, NoFile, BadDelta, durable_is, Known, HasTable, Image, image_size, image_state, image_in, is_forced, Base, Cause, not_database, delta_name, owned, behind_entries, owner_with, owner_in, owner, ShowsIn, settled, laid, owner-none, owner-formed, owner-refused, Start, Tested, main_cause, IsStart, AttachesFor, Held, Agrees, IsOpen, IsAttached, Attaches, first_of, some_page, some_same}
use Rattle.nb_base.proofs.FirmLaws.{shows_firm}
use Rattle.nb_base.proofs.AttachLaws.{start_broken, start_rest}
use Rattle.nb_base.proofs.OwnedLaws.{Holds, owned-alone, frozen_in, bytes-state, bytes-size, shows, base-header, base-state, base-size, base-length}
use Rattle.nb_model.proofs.OpeningLaws.{owner_applying}

-- in the normal state the difference file isn't looked at
pub holds_whatever : (b : Base) (m d e : File) (h : Holds b m d) → image_state h.main ≡ normal_state → Holds b m e
holds_whatever b m d e h normal = record {
  main = h.main;
  has = h.has;
  opened = h.opened;
  entries = record { none = h.entries.none; some = λ some. absurd (omega (arith, some, normal)) };
  image =
      h.image ∙ ap (λ (t : List ℕ). owned (image_size h.main) h.main (bytes_of d) t) (h.entries.none normal) ∙ sym (owned-alone (image_size h.main) h.main (bytes_of d)) ∙ owned-alone (image_size h.main) h.main (bytes_of e)
      ∙ ap (λ (t : List ℕ). owned (image_size h.main) h.main (bytes_of e) t) (sym (h.entries.none normal));
  frozen = h.frozen;
}

main_refused : (name : List ℕ) (m d : File) (r : Refusal) → main_cause name m ≡ Some r → owner name m d ≡ Err r
main_refused name None d r e = owner-none name d ∙ ap (λ (x : Refusal). Err x) (some_same {X = Refusal} _ _ e)
main_refused name (Some bytes) d r e = by (not_database bytes) refl
  where
    by : (cause : Cause) → not_database bytes ≡ cause → owner name (Some bytes) d ≡ Err r
    by (Some q) is = owner-refused name bytes d q is ∙ ap (λ (x : Refusal). Err x) (some_same {X = Refusal} _ _ (sym (start_broken bytes q is) ∙ e))
    by None is =
        let rest = start_rest bytes r is e in
        owner-formed name bytes d is ∙ ap (λ n. owner_in n name bytes d) rest.0 ∙ owner_applying name bytes d ∙ ap (λ (x : Refusal). Err x) (sym rest.1)

pub start_refused : (S A : Type 0) (result : Result (Held × A) Fault) (fault : Fault) (old new : World) (name : List ℕ) → IsErr result × IsErrAnd result (λ f. f ≡ fault) → Tested {T = S} (Err fault) (main_cause name (old.files name)) → Attaches (first_of result) old new name
start_refused S A (Ok value) fault old new name is tested = absurd is.1
start_refused S A (Err e) fault old new name is tested = subst (λ (f : Fault). Attaches (Err f) old new name) (sym is.1) (on fault tested)
  where
    on : (f : Fault) → Tested {T = S} (Err f) (main_cause name (old.files name)) → Attaches (Err f) old new name
    on (Refused r) t = main_refused name (old.files name) (old.files (delta_name name)) r t
    on Device t = tt
    on Memory t = tt

-- the difference file isn't there, or is broken
owner_in-diverted : (k : ℕ) (name bytes : List ℕ) (delta : File) → k ≢ 2 → owner_in (suc k) name bytes delta ≡ owner_with name bytes delta
unfolding owner_in
owner_in-diverted k name bytes delta other = elim (eqb_tells k 2) [
  | inl w ↦ absurd (other w.1)
  | inr w ↦ rw (w.0, owner_in) refl
]

owner_with-none : (name bytes : List ℕ) → owner_with name bytes None ≡ Err (NoFile (delta_name name))
unfolding owner_with
owner_with-none name bytes = refl

owner_with-broken : (name bytes delta : List ℕ) (page : ℕ) → table_of (size_of bytes) delta ≡ Err page → owner_with name bytes (Some delta) ≡ Err (BadDelta page)
unfolding owner_with
owner_with-broken name bytes delta page e = rw (e, owner_with) refl

-- under the name that it has
pub answer_at : (state size : ℕ) (n m : List ℕ) (f g : File) (result : Result Known Fault) → n ≡ m → f ≡ g → AttachesFor state size n f result → AttachesFor state size m g result
answer_at state size n m f g result names files is = subst (λ (x : List ℕ). AttachesFor state size x g result) names (subst (λ (x : File). AttachesFor state size n x result) files is)

-- What was read of the start of the main file.
module _ (name bytes : List ℕ) (start : Start) (is : IsStart bytes start) where
  delta_refuses : (d : File) (r : Refusal) → AttachesFor start.state start.page_size (delta_name name) d (Err (Refused r)) → owner name (Some bytes) d ≡ Err r
  delta_refuses d r answer = owner-formed name bytes d is.formed ∙ by start.state refl
    where
      refused : (f : File) → Rattle.nb_delta.specs.Attaching.Attaches start.page_size (delta_name name) f (Err (Refused r)) → owner_with name bytes f ≡ Err r
      refused None e = owner_with-none name bytes ∙ ap (λ (x : Refusal). Err x) (sym e)
      refused (Some delta) broken = owner_with-broken name bytes delta broken.page (ap (λ n. table_of n delta) (sym is.page_size) ∙ broken.broken) ∙ ap (λ (x : Refusal). Err x) (sym broken.named)

      by : (s : ℕ) → start.state ≡ s → owner_in (state_of bytes) name bytes d ≡ Err r
      by zero at = absurd (answer.normal at)
      by (suc k) at = ap (λ n. owner_in n name bytes d) (sym is.state ∙ at) ∙ owner_in-diverted k name bytes d (λ e. absurd (omega (arith, at, e, is.opened))) ∙ refused d (answer.other (omega (arith, at)))

  pub delta_refused : (A : Type 0) (result : Result (Held × A) Fault) (found : Result Known Fault) (fault : Fault) (old new : World) → old.files name ≡ Some bytes → IsErr result × IsErrAnd result (λ f. f ≡ fault)
      → found ≡ Err fault → AttachesFor start.state start.page_size (delta_name name) (old.files (delta_name name)) found → Attaches (first_of result) old new name
  delta_refused A (Ok value) found fault old new there failed told answer = absurd failed.1
  delta_refused A (Err e) found fault old new there failed told answer =
      subst (λ (f : Fault). Attaches (Err f) old new name) (sym failed.1) (on fault (subst (λ (x : Result Known Fault). AttachesFor start.state start.page_size (delta_name name) (old.files (delta_name name)) x) told answer))
    where
      on : (f : Fault) → AttachesFor start.state start.page_size (delta_name name) (old.files (delta_name name)) (Err f) → Attaches (Err f) old new name
      on (Refused r) a = ap (λ (f : File). owner name f (old.files (delta_name name))) there ∙ delta_refuses (old.files (delta_name name)) r a
      on Device a = tt
      on Memory a = tt

  -- and of the difference file
  module _ (d : File) (known : Known) (answer : AttachesFor start.state start.page_size (delta_name name) d (Ok known)) where
    abbrev main : Image
    main = image_in bytes

    abbrev pub read_base : Base
    read_base = record {
      image = owned (image_size (image_in bytes)) (image_in bytes) (bytes_of d) known.entries;
      frozen = elim (image_state (image_in bytes) == stalled_state) as (λ z. Image) [ true ↦ image_in bytes | false ↦ [] ];
      diverted = known.entries;
    }

    state_is : image_state main ≡ start.state
    state_is = bytes-state bytes is.formed ∙ sym is.state

    size_is : image_size main ≡ start.page_size
    size_is = bytes-size bytes is.formed ∙ sym is.page_size

    abbrev read_holds : (m : File) → m ≡ Some bytes → Holds read_base m d
    read_holds m there = record {
      main = main;
      has = record { bytes = bytes; there = there; laid = laid bytes is.formed };
      opened = omega (arith, state_is, is.opened);
      entries = record {
        none = λ e. answer.normal (sym state_is ∙ e);
        some = λ some. subst (λ n. HasTable n d known.entries) (sym size_is) (answer.other (omega (arith, state_is, some)));
      };
      image = refl;
      frozen = frozen_in (image_state main) main;
    }

    -- so they show it, and it has a page 0
    pub read_shows : (files : Files) → files name ≡ Some bytes → files (delta_name name) ≡ d → ShowsIn name read_base files
    read_shows files there beside = ap (owner name (files name)) beside ∙ shows name read_base (files name) d (read_holds (files name) there)

    pub read_size : start.page_size ≡ image_size read_base.image
    read_size = sym size_is ∙ sym (base-size read_base (Some bytes) d (read_holds (Some bytes) refl))

    pub read_some : 0 < length read_base.image
    read_some = some_page read_base.image (base-header read_base (Some bytes) d (read_holds (Some bytes) refl))

    -- what is held of them agrees with them
    read_agrees : (held : Held) → held.page_size ≡ start.page_size → held.state ≡ start.state → held.forced ≡ is_forced read_base.image → held.count ≡ max (length (image_in bytes)) (behind_entries known.entries) → held.main_count ≡ length (image_in bytes) → held.entries ≡ known.entries
        → Agrees held read_base
    read_agrees held sized stated forced count main_count entries =
        let h : Holds read_base (Some bytes) d = read_holds (Some bytes) refl in
        record {
          header = base-header read_base (Some bytes) d h;
          page_size = sized ∙ sym size_is ∙ sym (base-size read_base (Some bytes) d h);
          state = stated ∙ sym state_is ∙ sym (base-state read_base (Some bytes) d h);
          opened = omega (arith, stated, is.opened);
          forced = forced;
          count = count ∙ sym (base-length read_base (Some bytes) d h);
          main_count = λ stalled. main_count ∙ ap length (sym (h.frozen.stalled (state_is ∙ sym stated ∙ stalled)));
          entries = entries;
        }

    -- Once they are kept for good, each crash leaves them.
    pub read_attached : (held : Held) (old new : World) → old.files name ≡ Some bytes → old.files (delta_name name) ≡ d → new.files ≡ old.files → held.name ≡ name → held.page_size ≡ start.page_size → held.state ≡ start.state
        → held.forced ≡ is_forced read_base.image → held.count ≡ max (length (image_in bytes)) (behind_entries known.entries) → held.main_count ≡ length (image_in bytes) → held.entries ≡ known.entries → held.drafted ≡ 0
        → IsDurable new name (Some bytes) → (0 < start.state → IsDurable new (delta_name name) d) → IsAttached held old new name
    read_attached held old new there beside still named sized stated forced count main_count entries none_drafted durable durable_beside =
        let now : ShowsIn name read_base old.files = read_shows old.files there beside in
        record {
          base = read_base;
          stands = now;
          named = named;
          opened = subst (λ (n : List ℕ). IsOpen new (record held { name = n }) (settled read_base)) (sym named) opened_as;
        }
      where
        each : (files : Files) → LeavesAll new files → (s : ℕ) → start.state ≡ s → ShowsIn name read_base files
        each files left zero at =
            let m : File = files name in
            let main_is : m ≡ Some bytes = durable_is new name (Some bytes) durable m (left name) in
            shows name read_base m (files (delta_name name)) (holds_whatever read_base m d (files (delta_name name)) (read_holds m main_is) (state_is ∙ at))
        each files left (suc k) at =
            let m : File = files name in
            let main_is : m ≡ Some bytes = durable_is new name (Some bytes) durable m (left name) in
            let beside_is : files (delta_name name) ≡ d = durable_is new (delta_name name) d (durable_beside (omega (arith, at))) (files (delta_name name)) (left (delta_name name)) in
            ap (owner name m) beside_is ∙ shows name read_base m d (read_holds m main_is)

        opened_as : IsOpen new (record held { name = name }) (settled read_base)
        opened_as = record {
          left = λ files left. shows_firm name read_base (files name) (files (delta_name name)) (each files left start.state refl);
          shows = ap (λ (f : Files). owner name (f name) (f (delta_name name))) still ∙ read_shows old.files there beside;
          agrees = read_agrees (record held { name = name }) sized stated forced count main_count entries;
          drafted = none_drafted;
        }
