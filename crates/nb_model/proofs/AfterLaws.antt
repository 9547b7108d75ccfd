-- The account after two lists of strokes is the one after their join.
use Rattle.std.proofs.Common.{◌≡◌, ℕ, List, [], ◌∷◌, ◌++◌, refl, sym, ap, ◌∙◌, append_assoc, Bool, true, false}
use Rattle.nb_model.proofs.Common.{append-nil, same_name, Base, Kept, Entry, IsBase, Account, with_entry, Stroke, base_after, records_after, base_in, after}
use Rattle.nb_model.proofs.StrokeLaws.{base_after-append, records_after-append}
use Rattle.nb_model.proofs.RunLaws.{entry_same, base_in_base}

none : (name : List ℕ) (account : Account) → after name account [] ≡ account
unfolding after
none name account = refl

some_entry : (name : List ℕ) (account : Account) (s : Stroke) (ss : List Stroke) (n : List ℕ)
    → (after name account (s ∷ ss)).entry n ≡ (with_entry name (IsBase (base_after (base_in (account.entry name)) (s ∷ ss))) account).entry n
unfolding after
some_entry name account s ss n = refl

some_kept : (name : List ℕ) (account : Account) (s : Stroke) (ss : List Stroke) → (after name account (s ∷ ss)).kept ≡ account.kept ++ records_after (base_in (account.entry name)) (s ∷ ss)
unfolding after
some_kept name account s ss = refl

-- the database that the account holds then
base_there : (name : List ℕ) (account : Account) (s : Stroke) (ss : List Stroke) → base_in ((after name account (s ∷ ss)).entry name) ≡ base_after (base_in (account.entry name)) (s ∷ ss)
base_there name account s ss = ap base_in (some_entry name account s ss name ∙ entry_same name (IsBase (base_after (base_in (account.entry name)) (s ∷ ss))) account) ∙ base_in_base _

-- an entry after another under the same name
over : (name : List ℕ) (first second : Entry) (account : Account) (n : List ℕ) → (with_entry name second account).entry n ≡ (with_entry name second (with_entry name first account)).entry n
unfolding with_entry
over name first second account n = by_test (same_name n name)
  where
    by_test : (t : Bool) → elim t as (λ z. Entry) [ true ↦ second | false ↦ account.entry n ] ≡ elim t as (λ z. Entry) [ true ↦ second | false ↦ elim t as (λ z. Entry) [ true ↦ first | false ↦ account.entry n ] ]
    by_test true = refl
    by_test false = refl

same_entries : (name : List ℕ) (entry : Entry) (a b : Account) (n : List ℕ) → a.entry n ≡ b.entry n → (with_entry name entry a).entry n ≡ (with_entry name entry b).entry n
unfolding with_entry
same_entries name entry a b n e = ap (λ (x : Entry). elim (same_name n name) as (λ z. Entry) [ true ↦ entry | false ↦ x ]) e

pub entry_join : (name : List ℕ) (account : Account) (xs ys : List Stroke) (n : List ℕ) → (after name account (xs ++ ys)).entry n ≡ (after name (after name account xs) ys).entry n
entry_join name account [] ys n = ap (λ (a : Account). (after name a ys).entry n) (sym (none name account))
entry_join name account (x ∷ xs) [] n =
    ap (λ (zs : List Stroke). (after name account zs).entry n) (append-nil (x ∷ xs)) ∙ ap (λ (a : Account). a.entry n) (sym (none name (after name account (x ∷ xs))))
entry_join name account (x ∷ xs) (y ∷ ys) n =
    let b : Base = base_in (account.entry name) in
    let between : Account = after name account (x ∷ xs) in
    let base : base_after b (x ∷ (xs ++ y ∷ ys)) ≡ base_after (base_in (between.entry name)) (y ∷ ys) =
    base_after-append b (x ∷ xs) (y ∷ ys) ∙ ap (λ (c : Base). base_after c (y ∷ ys)) (sym (base_there name account x xs)) in
    let last : Entry = IsBase (base_after (base_in (between.entry name)) (y ∷ ys)) in
    some_entry name account x (xs ++ y ∷ ys) n ∙ ap (λ (c : Base). (with_entry name (IsBase c) account).entry n) base
    ∙ over name (IsBase (base_after b (x ∷ xs))) last account n
    ∙ same_entries name last (with_entry name (IsBase (base_after b (x ∷ xs))) account) between n (sym (some_entry name account x xs n))
    ∙ sym (some_entry name between y ys n)

pub kept_join : (name : List ℕ) (account : Account) (xs ys : List Stroke) → (after name account (xs ++ ys)).kept ≡ (after name (after name account xs) ys).kept
kept_join name account [] ys = ap (λ (a : Account). (after name a ys).kept) (sym (none name account))
kept_join name account (x ∷ xs) [] =
    ap (λ (zs : List Stroke). (after name account zs).kept) (append-nil (x ∷ xs)) ∙ ap (λ (a : Account). a.kept) (sym (none name (after name account (x ∷ xs))))
kept_join name account (x ∷ xs) (y ∷ ys) =
    let b : Base = base_in (account.entry name) in
    let between : Account = after name account (x ∷ xs) in
    some_kept name account x (xs ++ y ∷ ys)
    ∙ ap (λ (rs : List Kept). account.kept ++ rs) (records_after-append b (x ∷ xs) (y ∷ ys))
    ∙ sym (append_assoc account.kept (records_after b (x ∷ xs)) (records_after (base_after b (x ∷ xs)) (y ∷ ys)))
    ∙ ap (λ (rs : List Kept). rs ++ records_after (base_after b (x ∷ xs)) (y ∷ ys)) (sym (some_kept name account x xs))
    ∙ ap (λ (c : Base). between.kept ++ records_after c (y ∷ ys)) (sym (base_there name account x xs))
    ∙ sym (some_kept name between y ys)
