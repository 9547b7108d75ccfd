-- Copies of files that stand for an account stand for one with the same records.
use Rattle.std.proofs.Common.{◌≡◌, ◌≢◌, ℕ, zero, suc, List, refl, sym, ap, subst, ◌∙◌, true, false, arith, Bool, ◌==◌, Some, None, Result, Ok, Err}
use Rattle.nb_top.proofs.Common.{state_of, normal_state, stalled_state, File, Files, is_delta, World, Refusal, Unfinished, Base, base_of, IsBase, Account, Cause, not_database, Image, image_in, image_state, HoldsMain, delta_name, owner, owner_in, owner_with, entry_in, Stands, Belongs, to_base, to_record, owner_of_entry, main_state, owner-formed, owner-refused, owner_main, StandsFor, StartsFrom, AreCopies, account_of, err_not_ok, ok_equal}
use Rattle.nb_top.proofs.OpenLaws.{none_shown, shown_entry}
use Rattle.nb_top.proofs.WorldLaws.{stands_from, none_beside, not_beside}

-- A database that has no difference file is that of its main file, in the normal state.
pub record IsAlone (bytes : List ℕ) (b : Base) : Type 0 where
  pub formed : not_database bytes ≡ None
  pub normal : state_of bytes ≡ normal_state
  pub is : b ≡ base_of (image_in bytes)

with_none : (name bytes : List ℕ) (b : Base) → owner_with name bytes None ≢ Ok b
unfolding owner_with
with_none name bytes b h = cc

in_state : (state : ℕ) (name bytes : List ℕ) (b : Base) → owner_in state name bytes None ≡ Ok b → (state ≡ normal_state) × (b ≡ base_of (image_in bytes))
unfolding owner_in
in_state zero name bytes b e = (refl, sym (ok_equal {T = Base} {E = Refusal} (base_of (image_in bytes)) b e))
in_state (suc k) name bytes b e = absurd (by (k == 2) e)
  where
    by : (t : Bool) → elim t as (λ z. Result Base Refusal) [ true ↦ Err Unfinished | false ↦ owner_with name bytes None ] ≡ Ok b → ⊥
    by true h = cc
    by false h = with_none name bytes b h

pub opens_alone : (name bytes : List ℕ) (b : Base) → owner name (Some bytes) None ≡ Ok b → IsAlone bytes b
opens_alone name bytes b e = by (not_database bytes) refl
  where
    by : (c : Cause) → not_database bytes ≡ c → IsAlone bytes b
    by (Some r) broken = absurd (err_not_ok r b (owner name (Some bytes) None) (owner-refused name bytes None r broken) e)
    by None formed = let found = in_state (state_of bytes) name bytes b (sym (owner-formed name bytes None formed) ∙ e) in record { formed = formed; normal = found.0; is = found.1 }

module _ (files copies : Files) (account : Account) (stands : Stands files account) (copied : AreCopies files copies) where
  no_delta : (name : List ℕ) → copies (delta_name name) ≡ None
  no_delta = none_beside copies (λ name bytes there. (copied name bytes there).0)

  -- a database among the copies is one of the account, in the normal state
  record HasBase (b : Base) : Type 0 where
    name : List ℕ
    entry : account.entry name ≡ IsBase b
    normal : image_state b.image ≡ normal_state

  has_base : (bytes : List ℕ) (b : Base) → (name : List ℕ) → is_delta name ≡ false → files name ≡ Some bytes → IsAlone bytes b → HasBase b
  has_base bytes b name plain there alone =
      let main : HoldsMain (image_in bytes) (files name) = record { bytes = bytes; there = there; formed = alone.formed; normal = alone.normal; is = refl } in
      let shown = shown_entry files name (base_of (image_in bytes)) (owner_main name (image_in bytes) (files name) (files (delta_name name)) main) in
      record {
        name = name;
        entry = stands.same_image name plain ∙ shown ∙ ap IsBase (sym alone.is);
        normal = ap (λ (x : Base). image_state x.image) alone.is ∙ main_state (image_in bytes) (files name) main;
      }

  base_there : (name : List ℕ) (b : Base) → entry_in copies name ≡ IsBase b → HasBase b
  base_there name b is = by (copies name) refl (owner_of_entry name (copies name) (copies (delta_name name)) b is)
    where
      by : (file : File) → copies name ≡ file → owner name file (copies (delta_name name)) ≡ Ok b → HasBase b
      by None none opens = absurd (none_shown name (copies (delta_name name)) b opens)
      by (Some bytes) there opens =
          let copy = (copied name bytes there).1 in
          has_base bytes b copy.from copy.plain copy.there (opens_alone name bytes b (subst (λ (d : File). owner name (Some bytes) d ≡ Ok b) (no_delta name) opens))

  not_stalled : (name : List ℕ) (b : Base) → entry_in copies name ≡ IsBase b → image_state b.image ≡ stalled_state → ⊥
  not_stalled name b is stalled = let found = base_there name b is in let normal = found.normal in omega arith

  belonged : (x : Image) → Belongs (account_of copies account.kept) x → Belongs account x
  belonged x (to_base name b e is) = let found = base_there name b e in to_base found.name b found.entry is
  belonged x (to_record r there is) = to_record r there is

  copies_stand : Stands copies (account_of copies account.kept)
  copies_stand = record {
    same_image = λ name plain. refl;
    frozen_main = λ name b e stalled. absurd (not_stalled name b e stalled);
    sound_images = record { images = λ x belongs. stands.sound_images.images x (belonged x belongs); records = stands.sound_images.records };
    kept_records = record {
      distinct = stands.kept_records.distinct;
      not_nil = stands.kept_records.not_nil;
      stalled = λ name b e stalled. absurd (not_stalled name b e stalled);
      levels = λ name bytes plain there. let copy = (copied name bytes there).1 in stands.kept_records.levels copy.from bytes copy.plain copy.there;
    };
    history = record { images = λ x belongs. stands.history.images x (belonged x belongs); records = stands.history.records };
    no_stray = λ name plain beside. absurd (not_beside (copies (delta_name name)) (no_delta name) beside);
    standbys = λ name bytes r plain there applying named. let copy = (copied name bytes there).1 in stands.standbys copy.from bytes r copy.plain copy.there applying named;
  }

  pub begins_copied : (w : World) → StartsFrom w copies → StandsFor w (account_of copies account.kept)
  begins_copied w starts = stands_from w copies (account_of copies account.kept) starts copies_stand
