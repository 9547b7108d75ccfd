-- Files that are made whole beside what stood: the files go on to stand for the account with them.
use Rattle.std.proofs.Common.{◌≡◌, ℕ, suc, List, [], ◌∷◌, true, false, refl, sym, ap, subst, ◌∙◌, arith, ◌==◌, Some, None, Result, Ok, Err, Contains}
use Rattle.nb_top.proofs.Common.{true≢false, and_parts, is_header, state_of, applying_state, File, Files, is_delta, Refusal, Kept, Base, Entry, Plain, IsBase, Account, with_entry, MadeFile, IsNoneOf, IsNoBackup, with_files, delta_name, owner, entry_of_files, entry_in, Stands, IsWholeFile, whole, with_those, stands_those, has_main, delta_named, formed_header, some_same}

-- bytes that are opened have a header
opened_header : (name bytes : List ℕ) (b : Base) → owner name (Some bytes) None ≡ Ok b → is_header bytes ≡ true
opened_header name bytes b opens =
    let main = has_main name b (Some bytes) None opens in
    ap is_header (some_same bytes main.bytes main.there) ∙ formed_header main.bytes main.formed

-- Bytes that no job takes for a backup are whole beside any records.
pub none_whole : (kept : List Kept) (bytes : List ℕ) → IsNoBackup bytes → IsWholeFile kept bytes
none_whole kept bytes none = record {
  holds = record { level = λ c r reads named. absurd (none.no_level c reads); copy = λ r header stalled whole named. absurd (plain header) };
  closed = λ name b opens. plain (opened_header name bytes b opens);
  rests = λ applying. plain (and_parts (is_header bytes) (state_of bytes == applying_state) applying).0;
}
  where
    plain : is_header bytes ≡ true → ⊥
    plain header = true≢false (sym header ∙ none.no_header)

-- A whole file that has no difference file beside it is no database.
plain_entry : (kept : List Kept) (name bytes : List ℕ) → IsWholeFile kept bytes → entry_of_files name (Some bytes) None ≡ Plain bytes None
unfolding entry_of_files
plain_entry kept name bytes is = by (owner name (Some bytes) None) refl
  where
    by : (answer : Result Base Refusal) → owner name (Some bytes) None ≡ answer → elim answer as (λ z. Entry) [ Err refusal ↦ Plain bytes None | Ok base ↦ IsBase base ] ≡ Plain bytes None
    by (Err refusal) e = refl
    by (Ok b) e = absurd (is.closed name b e)

-- what such files give is the account with them
those_whole : (files : Files) (made : List MadeFile) (account : Account) → ((f : MadeFile) → Contains made f → entry_in files f.0 ≡ Plain f.1 None) → with_those files made account ≡ with_files made account
unfolding with_files
those_whole files [] account each = refl
those_whole files (f ∷ fs) account each =
    ap (λ (e : Entry). with_those files fs (with_entry f.0 e account)) (each f (0, omega arith, refl))
    ∙ those_whole files fs (with_entry f.0 (Plain f.1 None) account) (λ g there. each g (suc there.0, omega (arith, there.1), there.2))

-- The file is whole, has a name of its own kind, and no difference file stood beside it.
pub record IsMadeWhole (old new : Files) (kept : List Kept) (file : MadeFile) : Type 0 where
  pub plain : is_delta file.0 ≡ false
  pub alone : old (delta_name file.0) ≡ None
  pub there : new file.0 ≡ Some file.1
  pub is : IsWholeFile kept file.1

pub stands_with_whole : (old new : Files) (made : List MadeFile) (account : Account) → Stands old account → ((f : MadeFile) → Contains made f → IsMadeWhole old new account.kept f)
    → ((m : List ℕ) → IsNoneOf made m → new m ≡ old m) → Stands new (with_files made account)
stands_with_whole old new made account stands each others =
    subst (Stands new) (those_whole new made account entries)
    (stands_those new made old account stands (λ f there. let one = each f there in record { plain = one.plain; alone = one.alone; is = whole f.1 one.there one.is }) others)
  where
    no_delta : (n : List ℕ) → IsNoneOf made (delta_name n)
    no_delta n bytes there = true≢false (sym (delta_named n) ∙ (each (delta_name n, bytes) there).plain)

    entries : (f : MadeFile) → Contains made f → entry_in new f.0 ≡ Plain f.1 None
    entries f there =
        let one = each f there in
        ap (λ (file : File). entry_of_files f.0 file (new (delta_name f.0))) one.there ∙ ap (entry_of_files f.0 (Some f.1)) (others (delta_name f.0) (no_delta f.0) ∙ one.alone) ∙ plain_entry account.kept f.0 f.1 one.is
