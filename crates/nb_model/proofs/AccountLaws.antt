-- What turns of statements that can be asked today leave of the account: the database that is seen after their strokes, the records of
-- the backups that have begun, and all else as before.
use Rattle.std.proofs.Common.{◌≡◌, ◌≢◌, ℕ, ◌-◌, List, [], ◌∷◌, ◌++◌, get_or, refl, sym, ap, subst, ◌∙◌, append_assoc, Bool, true, false, Option, Some, None}
use Rattle.nb_model.proofs.Common.{told_text, append-nil, Files, same_name, Kept, Base, Entry, Plain, IsBase, Account, with_entry, Turn, Outcome, MadeFile, with_files, Now, Event, Opening, base_now, with_made, account_after, outcome, stands_then, take_turn, one_turn, play, event_of, strokes_of, files_made, Stands, Stroke, base_in, base_after, records_after}
use Rattle.nb_model.proofs.MakingLaws.{of_made, event_makes, made_append}
use Rattle.nb_model.proofs.OpeningLaws.{with_kept}
use Rattle.nb_model.proofs.OutputLaws.{strokes_one}
use Rattle.nb_model.proofs.RunLaws.{base_in_base, entry_same, one_is, strokes_of-append}
use Rattle.nb_model.proofs.StandsLaws.{entry_other, stands_same}
use Rattle.nb_model.proofs.StrokeLaws.{records_after-append}

-- the account with the file of one turn
made_with : (made : Option (List ℕ × List ℕ)) (account : Account) → with_made made account ≡ with_files (of_made made) account
unfolding with_made with_files
made_with None account = refl
made_with (Some file) account = refl

-- What an account with files has under a name goes by what it had there without them.
pub files_entry : (made : List MadeFile) (a b : Account) (n : List ℕ) → a.entry n ≡ b.entry n → (with_files made a).entry n ≡ (with_files made b).entry n
unfolding with_files with_entry
files_entry [] a b n same = same
files_entry (f ∷ fs) a b n same =
    files_entry fs (with_entry f.0 (Plain f.1 None) a) (with_entry f.0 (Plain f.1 None) b) n (ap (λ (e : Entry). elim (same_name n f.0) as (λ z. Entry) [ true ↦ Plain f.1 None | false ↦ e ]) same)

pub files_kept : (made : List MadeFile) (account : Account) → (with_files made account).kept ≡ account.kept
unfolding with_files with_entry
files_kept [] account = refl
files_kept (f ∷ fs) account = files_kept fs (with_entry f.0 (Plain f.1 None) account)

files_append : (xs ys : List MadeFile) (account : Account) → with_files (xs ++ ys) account ≡ with_files ys (with_files xs account)
unfolding with_files
files_append [] ys account = refl
files_append (x ∷ xs) ys account = files_append xs ys (with_entry x.0 (Plain x.1 None) account)

pub files_none : (account : Account) → with_files [] account ≡ account
unfolding with_files
files_none account = refl

-- What turns keep, the files that they make, and the records that their strokes add.
pub record IsBehind (old new : Now) (ss : List Stroke) (made : List MadeFile) : Type 0 where
  pub name : new.name ≡ old.name
  pub database : old.account.entry old.name ≡ IsBase (base_now old) → new.account.entry new.name ≡ IsBase (base_now new)
  pub others : (n : List ℕ) → n ≢ old.name → new.account.entry n ≡ (with_files made old.account).entry n
  pub kept : new.account.kept ≡ old.account.kept ++ records_after (base_now old) ss

behind_none : (now : Now) → IsBehind now now (strokes_of []) (files_made [])
unfolding strokes_of records_after files_made with_files
behind_none now = record { name = refl; database = λ e. e; others = λ n e. refl; kept = sym (append-nil now.account.kept) }

behind_both : (a b c : Now) (xs ys : List Stroke) (fs gs : List MadeFile) → base_now b ≡ base_after (base_now a) xs → IsBehind a b xs fs → IsBehind b c ys gs → IsBehind a c (xs ++ ys) (fs ++ gs)
behind_both a b c xs ys fs gs base h k = record {
  name = k.name ∙ h.name;
  database = λ e. k.database (h.database e);
  others = λ n off.
      k.others n (λ same. off (same ∙ h.name)) ∙ files_entry gs b.account (with_files fs a.account) n (h.others n off) ∙ ap (λ (x : Account). x.entry n) (sym (files_append fs gs a.account));
  kept = k.kept ∙ ap (λ (rs : List Kept). rs ++ records_after (base_now b) ys) h.kept ∙ append_assoc a.account.kept (records_after (base_now a) xs) (records_after (base_now b) ys)
      ∙ ap (λ (rs : List Kept). a.account.kept ++ rs) (ap (λ (x : Base). records_after (base_now a) xs ++ records_after x ys) base ∙ sym (records_after-append (base_now a) xs ys));
}

stands_behind : (session : ℕ) (rest : List Turn) (o : Outcome) (now : Now) → IsBehind now (stands_then session rest o now) o.strokes (of_made o.made)
unfolding stands_then account_after
stands_behind session rest o now =
    let b : Base = base_after (base_in (now.account.entry now.name)) o.strokes in
    let made : Account = with_made o.made now.account in
    let here : (with_entry now.name (IsBase b) made).entry now.name ≡ IsBase b = entry_same now.name (IsBase b) made in
    record {
      name = refl;
      database = λ e. here ∙ ap IsBase (sym (ap base_in here ∙ base_in_base b));
      others = λ n other. entry_other now.name n (IsBase b) made other ∙ ap (λ (a : Account). a.entry n) (made_with o.made now.account);
      kept = refl;
    }

one_behind : (session : ℕ) (now : Now) → IsBehind now (one_turn session now).1 (strokes_of (one_turn session now).0) (files_made (one_turn session now).0)
unfolding one_turn take_turn
one_behind session now = by (get_or now.todo (session - 1) [])
  where
    by : (ts : List Turn) → IsBehind now (take_turn session ts now).1 (strokes_of (take_turn session ts now).0) (files_made (take_turn session ts now).0)
    by [] = behind_none now
    by (u ∷ rest) =
        let o : Outcome = outcome session u now in
        subst (λ (fs : List MadeFile). IsBehind now (stands_then session rest o now) (strokes_of (event_of session u o ∷ [])) fs) (sym (event_makes session u o))
        (subst (λ (ss : List Stroke). IsBehind now (stands_then session rest o now) ss (of_made o.made)) (sym (strokes_one (event_of session u o))) (stands_behind session rest o now))

-- Turns in an order do so.
pub play_behind : (order : List ℕ) (now : Now) → IsBehind now (play order now).1 (strokes_of (play order now).0) (files_made (play order now).0)
unfolding play
play_behind [] now = behind_none now
play_behind (x ∷ xs) now =
    let mid : Now = (one_turn x now).1 in
    let es : List Event = (one_turn x now).0 in
    let later : List Event = (play xs mid).0 in
    subst (λ (fs : List MadeFile). IsBehind now (play xs mid).1 (strokes_of (es ++ later)) fs) (sym (made_append es later))
    (subst (λ (ss : List Stroke). IsBehind now (play xs mid).1 ss (files_made es ++ files_made later)) (sym (strokes_of-append es later))
    (behind_both now mid (play xs mid).1 (strokes_of es) (strokes_of later) (files_made es) (files_made later) (one_is x now) (one_behind x now) (play_behind xs mid)))

-- The account with that database, these files and these further records, and everything else as before.
pub record IsGrown (name : List ℕ) (b : Base) (more : List Kept) (made : List MadeFile) (old new : Account) : Type 0 where
  pub entries : (n : List ℕ) → new.entry n ≡ (with_entry name (IsBase b) (with_files made old)).entry n
  pub kept : new.kept ≡ old.kept ++ more

-- files that stand for the one stand for the other
pub stands_grown : (files : Files) (name : List ℕ) (b : Base) (more : List Kept) (made : List MadeFile) (old new : Account) → IsGrown name b more made old new
    → Stands files (with_entry name (IsBase b) (with_files made (record { entry = old.entry; kept = old.kept ++ more }))) → Stands files new
unfolding with_entry
stands_grown files name b more made old new is stands =
    let grown : Account = record { entry = old.entry; kept = old.kept ++ more } in
    stands_same files (with_entry name (IsBase b) (with_files made grown)) new
    (λ n. ap (λ (e : Entry). elim (same_name n name) as (λ z. Entry) [ true ↦ IsBase b | false ↦ e ]) (files_entry made grown old n refl) ∙ sym (is.entries n))
    (with_kept name (IsBase b) (with_files made grown) ∙ files_kept made grown ∙ sym is.kept) stands

-- After a first statement that leaves the database of that name, and all else as before, turns leave such an account.
module _ (account : Account) (o : Opening) (first : Now) (name : List ℕ) (b : Base) (name_is : first.name ≡ name) (account_is : first.account ≡ o.account) (base : base_now first ≡ b)
    (here : o.account.entry name ≡ IsBase b) (rest : (n : List ℕ) → n ≢ name → o.account.entry n ≡ account.entry n) (same : o.account.kept ≡ account.kept) where
  pub begun_grown : (order : List ℕ) → IsGrown name (base_now (play order first).1) (records_after b (strokes_of (play order first).0)) (files_made (play order first).0) account (play order first).1.account
  begun_grown order = record {
    entries = λ n. by n (same_name n name) refl;
    kept = behind.kept ∙ ap (λ (rs : List Kept). rs ++ records_after (base_now first) ss) (ap (λ (a : Account). a.kept) account_is ∙ same) ∙ ap (λ (x : Base). account.kept ++ records_after x ss) base;
  }
    where
      last : Now
      last = (play order first).1

      ss : List Stroke
      ss = strokes_of (play order first).0

      made : List MadeFile
      made = files_made (play order first).0

      behind : IsBehind first last ss made
      behind = play_behind order first

      database : first.account.entry first.name ≡ IsBase (base_now first)
      database = ap (λ (n : List ℕ). first.account.entry n) name_is ∙ ap (λ (a : Account). a.entry name) account_is ∙ here ∙ ap IsBase (sym base)

      by : (n : List ℕ) (t : Bool) → t ≡ same_name n name → last.account.entry n ≡ (with_entry name (IsBase (base_now last)) (with_files made account)).entry n
      by n true is =
          let equal : n ≡ name = told_text n name true is in
          ap (λ (m : List ℕ). last.account.entry m) (equal ∙ sym name_is ∙ sym behind.name) ∙ behind.database database
          ∙ sym (entry_same name (IsBase (base_now last)) (with_files made account)) ∙ ap (λ (m : List ℕ). (with_entry name (IsBase (base_now last)) (with_files made account)).entry m) (sym equal)
      by n false is =
          let other : n ≢ name = told_text n name false is in
          behind.others n (λ e. other (e ∙ name_is)) ∙ files_entry made first.account account n (ap (λ (a : Account). a.entry n) account_is ∙ rest n other)
          ∙ sym (entry_other name n (IsBase (base_now last)) (with_files made account) other)
