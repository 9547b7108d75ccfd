-- A file is removed beside which no difference file stands: the files go on to stand, for the account in which nothing is under the name.
use Rattle.std.proofs.Common.{◌≡◌, ◌≢◌, ℕ, List, sym, ap, subst, ◌∙◌, false, None}
use Rattle.nb_model.proofs.Common.{true≢false, is_free_file, Files, is_delta, Entry, Missing, Account, with_entry, delta_name, entry_of_files, entry_in, Stands}
use Rattle.nb_model.proofs.FreeLaws.{stands_free}
use Rattle.nb_model.proofs.StandsLaws.{delta_named}

pub removed_stands : (old new : Files) (account : Account) (name : List ℕ) → Stands old account → is_delta name ≡ false → old (delta_name name) ≡ None → ((m : List ℕ) → m ≢ name → new m ≡ old m) → new name ≡ None
    → Stands new (with_entry name (Missing None) account)
unfolding is_free_file entry_of_files
removed_stands old new account name stands plain alone others gone =
    subst (λ (entry : Entry). Stands new (with_entry name entry account)) missing
    (stands_free old new account name stands plain (λ m other beside. others m other) (ap is_free_file gone) none_beside)
  where
    none_beside : new (delta_name name) ≡ None
    none_beside = others (delta_name name) (λ e. true≢false (sym (delta_named name) ∙ ap is_delta e ∙ plain)) ∙ alone

    missing : entry_in new name ≡ Missing None
    missing = ap (λ file. entry_of_files name file (new (delta_name name))) gone ∙ ap Missing none_beside
