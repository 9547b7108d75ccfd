-- A text is written to a new file.
use Rattle.std.proofs.Common.{◌≡◌, ◌⊎◌, inl, inr, ⊎_elim, ℕ, suc, List, [], ◌∷◌, ◌++◌, length, refl, sym, ap, subst, ◌∙◌, Bool, false, ◌&&◌, ◌==◌, nat_le, IsTrue, Some, Result, Ok}
use Rattle.nb_gen.proofs.Common.{IsNoBackup, IsUnfinished, IsUnfinishedOr, IsScriptText, unfinished_empty, err_ok, and_right}
use Rattle.nb_fields.specs.Bytes.{is_zeros, number_in, number_of}
use Rattle.nb_fields.specs.Free.{is_free_file}
use Rattle.nb_fields.specs.Header.{is_header, is_marked, pending_of, state_of}
use Rattle.nb_host.specs.Files.{File, Files, bytes_of, with_bytes}
use Rattle.nb_host.specs.World.{World}
use Rattle.nb_host.specs.Crash.{AppendLeft}
use Rattle.nb_host.specs.Calls.{AppendsBytes, Remakes}
use Rattle.nb_host.specs.Moments.{IsTimely, Passes}
use Rattle.nb_change.specs.Changes.{Changes, Only, Remade}
use Rattle.nb_change.proofs.CallLaws.{bytes_others, remade_alone, remade_step}
use Rattle.nb_change.proofs.NameLaws.{with_file-same}
use Rattle.nb_model.specs.Levels.{begins_level}
use Rattle.nb_model.proofs.StandsLaws.{not_level}
use Rattle.nb_gather.proofs.TornLaws.{Torn, torn_of}

-- A file that begins with a `1` or with a zero is no backup.
begins_no_header : (b : ℕ) (bs : List ℕ) → (b ≡ 49) ⊎ (b ≡ 0) → is_header (b ∷ bs) ≡ false
unfolding is_header is_marked number_in number_of
begins_no_header b bs is =
    ⊎_elim (λ e. subst (λ x. is_header (x ∷ bs) ≡ false) (sym e) (and_right (nat_le 64 (suc (length bs))) false refl)) (λ e. subst (λ x. is_header (x ∷ bs) ≡ false) (sym e) (and_right (nat_le 64 (suc (length bs))) false refl)) is

begins_no_level : (b : ℕ) (bs : List ℕ) → (b ≡ 49) ⊎ (b ≡ 0) → begins_level (b ∷ bs) ≡ false
unfolding begins_level
begins_no_level b bs is = ⊎_elim (λ e. rw e refl) (λ e. rw e refl) is

-- a script's name isn't free
pub text_in_use : (bytes : List ℕ) → IsScriptText bytes → is_free_file (Some bytes) ≡ false
unfolding is_free_file
text_in_use bytes text = subst (λ (bs : List ℕ). is_free_file (Some bs) ≡ false) (sym text.is) (ap (λ (h : Bool). h && state_of (49 ∷ text.behind) == 3 && is_zeros (pending_of (49 ∷ text.behind))) (begins_no_header 49 text.behind (inl refl)))

no_backup : (b : ℕ) (bs : List ℕ) → (b ≡ 49) ⊎ (b ≡ 0) → IsNoBackup (Some (b ∷ bs))
no_backup b bs is = record {
  no_level = λ c reads. err_ok {E = ℕ} 0 c (sym (not_level (b ∷ bs) (begins_no_level b bs is)) ∙ reads);
  no_header = begins_no_header b bs is;
}

-- so the text of a script is none,
pub text_no_backup : (bytes : List ℕ) → IsScriptText bytes → IsNoBackup (Some bytes)
text_no_backup bytes text = subst (λ (bs : List ℕ). IsNoBackup (Some bs)) (sym text.is) (no_backup 49 text.behind (inl refl))

-- whatever of it is lost
torn_script : (bytes ts : List ℕ) → IsScriptText bytes → Torn bytes ts → IsUnfinished (Some ts)
torn_script bytes ts text torn = by ts (subst (λ (bs : List ℕ). Torn bs ts) text.is torn)
  where
    by : (us : List ℕ) → Torn (49 ∷ text.behind) us → IsUnfinished (Some us)
    by [] is = unfinished_empty
    by (u ∷ us) is = inr (no_backup u us is.0)

module _ (name bytes : List ℕ) (text : IsScriptText bytes) where
  -- the file is made, also where that fails
  pub script_made : {T E : Type 0} (tells : Bool) (result : Result T E) (old new : World) → IsTrue tells → IsTimely old → Remakes tells result old new name (Some []) → new.said ≡ old.said → Passes old new
      → Changes old new (Only name) (Remade old name (IsUnfinishedOr bytes))
  script_made tells result old new told timely remakes silent time = remade_alone tells result old new name (Some []) (IsUnfinishedOr bytes) told timely remakes silent time (inl unfinished_empty)

  module _ {V G : Type 0} (tells : Bool) (value : V) (old mid new : World) (told : IsTrue tells) (makes : Remakes {E = G} tells (Ok value) old mid name (Some [])) where
    empty : mid.files name ≡ Some []
    empty = ap (λ (f : Files). f name) (makes.files told) ∙ with_file-same old.files name (Some [])

    -- what a crash leaves of what is appended
    append_left : (n : ℕ) (b c : File) → b ≡ Some [] → AppendLeft n bytes b c → IsUnfinishedOr bytes c
    append_left n b c none (inl same) = inl (subst IsUnfinished (sym (same ∙ none)) unfinished_empty)
    append_left n b c none (inr (torn, from, long, grown)) =
        inl (subst IsUnfinished (sym (grown ∙ ap (λ (f : File). Some (bytes_of f ++ torn)) none)) (torn_script bytes torn text (torn_of bytes torn from)))

    -- its bytes are appended, also where that fails
    pub script_left : {T E : Type 0} (result : Result T E) → IsTimely old → mid.said ≡ old.said → Passes old mid → AppendsBytes tells result mid new name bytes → new.said ≡ mid.said → Passes mid new
        → Changes old new (Only name) (Remade old name (IsUnfinishedOr bytes))
    script_left result timely silent time appends quiet passes =
        remade_step old mid new name (IsUnfinishedOr bytes) (λ c. c ≡ Some []) (IsUnfinishedOr bytes) (AppendLeft (length (bytes_of (mid.files name))) bytes) (script_made {E = G} tells (Ok value) old mid told timely makes silent time) passes appends.left
        (bytes_others tells result mid new name bytes told appends) quiet makes.done (λ c left. left)
        (λ c d none left. append_left _ c d none left)

    -- and stand there
    pub script_reads : {S F : Type 0} (x : S) → AppendsBytes {E = F} tells (Ok x) mid new name bytes → new.files name ≡ Some bytes
    script_reads x appends = ap (λ (f : Files). f name) (appends.files told) ∙ with_file-same mid.files name _ ∙ ap (λ (f : File). with_bytes f bytes) empty
