-- The files go on to stand for the account where the file of one name becomes one whose name is free.
use Rattle.std.proofs.Common.{◌≡◌, ◌≢◌, ◌⊎◌, inl, inr, ℕ, List, [], ◌∷◌, length, take, drop, replicate, refl, sym, ap, subst, ◌∙◌, arith, length-drop, length-take-le, true, false, ◌&&◌, ◌==◌, Some, None, Result, Ok, Err, IsTrue, is_some, Contains}
use Rattle.nb_model.proofs.Common.{true≢false, and_parts, or_cases, eqb-true, is_zeros, is_unfinished, is_free_file, is_header, state_of, pending_of, is_header-take, applying_state, File, Files, is_delta, Refusal, Base, Kept, Entry, Plain, IsBase, Account, with_entry, Contents, begins_level, read_level, delta_name, owner, entry_of_files, entry_in, nil, IsKeptAs, HoldsItsRecord, is_applying, Stands, err_not_ok}
use Rattle.nb_model.proofs.HeadSound.{all_zeros}
use Rattle.nb_model.proofs.HeaderLaws.{header-long, header-other}
use Rattle.nb_model.proofs.OpeningLaws.{opened_in_use}
use Rattle.nb_model.proofs.StandsLaws.{not_level, header_no_level, StandsUnder, stands_with_both}
use Rattle.nb_model.proofs.FrontLaws.{missing_base, plain_base}

-- A file whose name may be taken isn't opened.
free_closed : (name : List ℕ) (file delta : File) (b : Base) → is_free_file file ≡ true → entry_of_files name file delta ≡ IsBase b → ⊥
unfolding entry_of_files
free_closed name None delta b free e = missing_base delta b e
free_closed name (Some bytes) delta b free e = by (owner name (Some bytes) delta) refl e
  where
    by : (answer : Result Base Refusal) → owner name (Some bytes) delta ≡ answer → elim answer as (λ z. Entry) [ Err refusal ↦ Plain bytes delta | Ok base ↦ IsBase base ] ≡ IsBase b → ⊥
    by (Err r) is h = plain_base bytes delta b h
    by (Ok c) is h = true≢false (sym free ∙ opened_in_use name bytes delta c is)

-- Such a file begins with zeros, or a restore was stopped.
pub free_cases : (bytes : List ℕ) → is_free_file (Some bytes) ≡ true → (is_zeros (take 64 bytes) ≡ true) ⊎ (is_unfinished bytes ≡ true)
unfolding is_free_file
free_cases bytes free = or_cases (is_zeros (take 64 bytes)) (is_unfinished bytes) free

-- zeros are no header
zeros_no_header : (bytes : List ℕ) → is_zeros (take 64 bytes) ≡ true → is_header bytes ≡ true → ⊥
zeros_no_header bytes zeros header = true≢false (sym zeros ∙ header-other (take 64 bytes) (is_header-take bytes ∙ header))

-- and begin no level file
zeros_no_level : (bytes : List ℕ) → is_zeros (take 64 bytes) ≡ true → begins_level bytes ≡ false
unfolding begins_level
zeros_no_level [] zeros = refl
zeros_no_level (b ∷ bs) zeros = let e : b ≡ 0 = eqb-true b 0 (and_parts (b == 0) (is_zeros (take 63 bs)) zeros).0 in rw e refl

pub free_no_level : (bytes : List ℕ) (c : Contents) → is_free_file (Some bytes) ≡ true → read_level bytes ≡ Ok c → ⊥
free_no_level bytes c free reads = elim (free_cases bytes free) [
  | inl zeros ↦ err_not_ok {E = ℕ} 0 c (read_level bytes) (not_level bytes (zeros_no_level bytes zeros)) reads
  | inr unfinished ↦ header_no_level bytes c (and_parts _ _ (and_parts _ _ unfinished).0).0 reads
]

-- where it has a header it is in the applying state, and no merge is pending
pub free_header : (bytes : List ℕ) → is_free_file (Some bytes) ≡ true → is_header bytes ≡ true → (state_of bytes ≡ applying_state) × (pending_of bytes ≡ nil)
free_header bytes free header = elim (free_cases bytes free) [
  | inl zeros ↦ absurd (zeros_no_header bytes zeros header)
  | inr unfinished ↦
      let parts = and_parts (is_header bytes && state_of bytes == applying_state) (is_zeros (pending_of bytes)) unfinished in
      let long : length (pending_of bytes) ≡ 16 = length-take-le 16 (drop 48 bytes) (omega (arith, header-long bytes header, length-drop 48 bytes)) in (
        eqb-true (state_of bytes) 3 (and_parts (is_header bytes) (state_of bytes == applying_state) parts.0).1,
        all_zeros (pending_of bytes) parts.1 ∙ ap (λ (n : ℕ). replicate n 0) long,
      )
]

-- so it holds each record that it names: none
free_holds : (kept : List Kept) (bytes : List ℕ) → is_free_file (Some bytes) ≡ true → HoldsItsRecord kept bytes
free_holds kept bytes free = record {
  level = λ c r reads named. absurd (free_no_level bytes c free reads);
  copy = λ r header stalled whole named. absurd (let applying = (free_header bytes free header).0 in omega arith);
}

-- A file isn't opened, and no difference file stands beside it: it has to hold the record that it names, and to wait for none.
pub closed_under : (files : Files) (kept : List Kept) (name : List ℕ) → files (delta_name name) ≡ None → ((b : Base) → entry_in files name ≡ IsBase b → ⊥) → ((bytes : List ℕ) → files name ≡ Some bytes → HoldsItsRecord kept bytes)
    → ((bytes : List ℕ) (r : Kept) → files name ≡ Some bytes → IsTrue (is_applying bytes) → IsKeptAs kept (pending_of bytes) r → ⊥)
    → StandsUnder files kept name (entry_in files name)
closed_under files kept name alone closed holds waits = record {
  same = refl;
  frozen = λ b e stalled. absurd (closed b e);
  sound = λ b e. absurd (closed b e);
  stalled = λ b e stalled. absurd (closed b e);
  past = λ b e. absurd (closed b e);
  holds = holds;
  no_stray = λ beside. absurd (none_some (files (delta_name name)) alone beside);
  standby = λ bytes r there applying named. absurd (waits bytes r there applying named);
}
  where
    none_some : (f : File) → f ≡ None → IsTrue (is_some f) → ⊥
    none_some f e some = true≢false (sym some ∙ ap is_some e)

-- The name is free: nothing stands under it, or a file whose name may be taken, and no difference file beside it.
pub free_under : (files : Files) (kept : List Kept) (name : List ℕ) → ((r : Kept) → Contains kept r → r.guid ≢ nil) → is_free_file (files name) ≡ true → files (delta_name name) ≡ None
    → StandsUnder files kept name (entry_in files name)
free_under files kept name not_nil free alone =
    closed_under files kept name alone (λ b e. free_closed name (files name) (files (delta_name name)) b free e) (λ bytes there. free_holds kept bytes (free_bytes bytes there))
    (λ bytes r there applying named.
    let pending = (free_header bytes (free_bytes bytes there) (and_parts (is_header bytes) (state_of bytes == applying_state) applying).0).1 in
    not_nil r named.there (named.named ∙ pending))
  where
    free_bytes : (bytes : List ℕ) → files name ≡ Some bytes → is_free_file (Some bytes) ≡ true
    free_bytes bytes there = ap is_free_file (sym there) ∙ free

-- The files stand for the account with what they give under a free name, as a creation leaves it that was stopped.
pub stands_free : (old new : Files) (account : Account) (name : List ℕ)
    → Stands old account → is_delta name ≡ false → ((m : List ℕ) → m ≢ name → m ≢ delta_name name → new m ≡ old m)
    → is_free_file (new name) ≡ true → new (delta_name name) ≡ None
    → Stands new (with_entry name (entry_in new name) account)
stands_free old new account name stands plain others free alone =
    stands_with_both old new account name (entry_in new name) stands plain others (free_under new account.kept name stands.kept_records.not_nil free alone)

-- Files that are the same stand for the same.
pub stands_files : (old new : Files) (account : Account) → Stands old account → ((m : List ℕ) → new m ≡ old m) → Stands new account
stands_files old new account stands same = let all : new ≡ old = λ i. λ m. same m i in subst (λ (files : Files). Stands files account) (sym all) stands
