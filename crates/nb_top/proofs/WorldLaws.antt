-- Worlds in which the files stand for an account as a run begins.
use Rattle.std.proofs.Common.{◌≡◌, ◌≢◌, ℕ, List, [], refl, sym, ap, ◌∙◌, arith, Some, None, Ok, IsTrue, is_some, false, Contains}
use Rattle.nb_top.proofs.Common.{true≢false, is_header, File, Files, is_delta, World, Kept, Base, Missing, IsBase, Account, Cause, not_database, Image, delta_name, owner, entry_of_files, entry_in, Stands, Belongs, to_base, to_record, stands_files, owner_of_entry, owner-refused, delta_named, formed_header, stands_same, HoldsKept, StandsFor, StartsFrom, ArePlain, no_files, account_of, empty, err_not_ok, none_some}
use Rattle.nb_top.proofs.OpenLaws.{none_shown}

-- A world that starts from files stands for each account for which they stand.
pub stands_from : (w : World) (files : Files) (account : Account) → StartsFrom w files → Stands files account → StandsFor w account
stands_from w files account starts stands = record {
  now = stands_files files w.files account stands starts.reads;
  left = λ left leaves. record { account = account; stands = stands_files files left account stands (λ m. starts.only m (left m) (leaves m)); same = refl };
  free = λ name plain free alone d leaves. starts.only (delta_name name) d leaves ∙ sym (starts.reads (delta_name name)) ∙ alone;
}

-- So it does where they hold certain records.
pub stands_again : (w : World) (files : Files) (kept : List Kept) → HoldsKept files kept → StartsFrom w files → (account : Account) × StandsFor w account × (account.kept ≡ kept)
stands_again w files kept holds starts = (holds.account, stands_from w files holds.account starts holds.stands, holds.same)

-- Where no file is a difference file, none stands beside a name.
pub none_beside : (files : Files) → ((name bytes : List ℕ) → files name ≡ Some bytes → is_delta name ≡ false) → (name : List ℕ) → files (delta_name name) ≡ None
none_beside files plain name = by (files (delta_name name)) refl
  where
    by : (file : File) → files (delta_name name) ≡ file → file ≡ None
    by None is = refl
    by (Some bytes) is = absurd (true≢false (sym (delta_named name) ∙ plain (delta_name name) bytes is))

pub not_beside : (file : File) → file ≡ None → IsTrue (is_some file) → ⊥
not_beside file none beside = true≢false (sym beside ∙ ap is_some none)

-- Plain files stand for the account that has them, without records.
module _ (files : Files) (plain : ArePlain files) where
  no_delta : (name : List ℕ) → files (delta_name name) ≡ None
  no_delta = none_beside files (λ name bytes there. (plain name bytes there).0)

  -- no file can be a database
  not_opens : (name bytes : List ℕ) (b : Base) → is_header bytes ≡ false → owner name (Some bytes) (files (delta_name name)) ≢ Ok b
  not_opens name bytes b none opens = by (not_database bytes) refl
    where
      by : (c : Cause) → not_database bytes ≡ c → ⊥
      by None formed = true≢false (sym (formed_header bytes formed) ∙ none)
      by (Some r) broken = err_not_ok r b (owner name (Some bytes) (files (delta_name name))) (owner-refused name bytes (files (delta_name name)) r broken) opens

  no_database : (name : List ℕ) (b : Base) → entry_in files name ≢ IsBase b
  no_database name b is = by (files name) refl (owner_of_entry name (files name) (files (delta_name name)) b is)
    where
      by : (file : File) → files name ≡ file → owner name file (files (delta_name name)) ≢ Ok b
      by None none opens = none_shown name (files (delta_name name)) b opens
      by (Some bytes) there opens = not_opens name bytes b (plain name bytes there).1 opens

  none_there : (P : Type 0) (r : Kept) → Contains {X = Kept} [] r → P
  none_there P r there = absurd (let low = there.1 in omega arith)

  none_belongs : (P : Type 0) (x : Image) → Belongs (account_of files []) x → P
  none_belongs P x (to_base name b e is) = absurd (no_database name b e)
  none_belongs P x (to_record r there is) = none_there P r there

  pub plain_stand : Stands files (account_of files [])
  plain_stand = record {
    same_image = λ name plain. refl;
    frozen_main = λ name b e stalled. absurd (no_database name b e);
    sound_images = record { images = λ x belongs. none_belongs _ x belongs; records = λ r there. none_there _ r there };
    kept_records = record {
      distinct = λ r q there other same. none_there _ r there;
      not_nil = λ r there. none_there _ r there;
      stalled = λ name b e stalled. absurd (no_database name b e);
      levels = λ name bytes plain there. record { level = λ c r reads named. none_there _ r named.there; copy = λ r header stalled whole named. none_there _ r named.there };
    };
    history = record { images = λ x belongs. none_belongs _ x belongs; records = λ r ask there is asks. none_there _ r there };
    no_stray = λ name plain beside. absurd (not_beside (files (delta_name name)) (no_delta name) beside);
    standbys = λ name bytes r plain there applying named. none_there _ r named.there;
  }

pub begins_plain : (w : World) (files : Files) → ArePlain files → StartsFrom w files → StandsFor w (account_of files [])
begins_plain w files plain starts = stands_from w files (account_of files []) starts (plain_stand files plain)

-- No files stand for the account without entries.
none_plain : ArePlain no_files
none_plain name bytes there = absurd (none_some bytes there)

none_missing : (name : List ℕ) → entry_in no_files name ≡ Missing None
unfolding entry_of_files
none_missing name = refl

none_stand : Stands no_files empty
none_stand = stands_same no_files (account_of no_files []) empty none_missing refl (plain_stand no_files none_plain)

pub begins_empty : (w : World) → StartsFrom w no_files → StandsFor w empty
begins_empty w starts = stands_from w no_files empty starts none_stand
