-- Opening a database again, as the first statement of a run.
use Rattle.std.proofs.Common.{◌≡◌, ◌≢◌, ℕ, List, [], ◌++◌, true, length, refl, sym, ap, ◌∙◌, Some, None}
use Rattle.nb_model.proofs.Common.{append-nil, Refusal, Opened, Refused, Statement, OpenDb, image_state, Kept, Base, IsBase, Account, base_in, records_after, Cause, not_opened, Given, Now, Opening, account_after, base_now, begun, done_opening, opening, opening_unless, refused_opening}
use Rattle.nb_model.proofs.RunLaws.{base_in_base}
use Rattle.nb_model.proofs.OpeningLaws.{after_here, after_others, after_kept}
use Rattle.nb_model.proofs.GoingLaws.{no_more}

-- What opening a database leaves: nothing is changed, and sessions may take their turns.
pub record IsReopened (account : Account) (given : Given) (sessions : List (List Statement)) (session : ℕ) (name : List ℕ) (cache : ℕ) (b : Base) (o : Opening) : Type 0 where
  pub event : o.event ≡ record { session = session; strokes = []; reply = Some (Opened (length b.image) (image_state b.image)); made = None; syncs = true }
  pub here : o.account.entry name ≡ IsBase b
  pub others : (n : List ℕ) → n ≢ name → o.account.entry n ≡ account.entry n
  pub kept : o.account.kept ≡ account.kept
  pub now : Now
  pub goes_on : o.now ≡ Some now
  pub base : base_now now ≡ b
  pub name_is : now.name ≡ name
  pub account_is : now.account ≡ o.account
  pub cache_is : now.cache ≡ cache
  pub running : now.running ≡ None
  pub given_is : now.given ≡ given
  pub todo : now.todo ≡ begun sessions

no_record : (b : Base) → records_after b [] ≡ []
unfolding records_after
no_record b = refl

-- opening a database
pub reopened : (account : Account) (given : Given) (sessions : List (List Statement)) (session : ℕ) (name : List ℕ) (cache : ℕ) (b : Base) → account.entry name ≡ IsBase b
    → IsReopened account given sessions session name cache b (opening account given sessions session (OpenDb name cache))
unfolding opening done_opening not_opened
reopened account given sessions session name cache b there =
    let old : Base = base_in (account.entry name) in
    let is : old ≡ b = ap base_in there ∙ base_in_base b in
    let allowed : not_opened name (account.entry name) ≡ None = ap (not_opened name) there in
    let here : (account_after name [] None account).entry name ≡ IsBase b = after_here name [] account ∙ ap IsBase (no_more old ∙ is) in
    let whole : opening account given sessions session (OpenDb name cache) ≡ done_opening session name cache [] (Opened (length old.image) (image_state old.image)) account given sessions =
    ap (λ (c : Cause). opening_unless session c account (done_opening session name cache [] (Opened (length old.image) (image_state old.image)) account given sessions)) allowed in
    record {
      event = ap (λ (o : Opening). o.event) whole ∙ ap (λ (x : Base). record { session = session; strokes = []; reply = Some (Opened (length x.image) (image_state x.image)); made = None; syncs = true }) is;
      here = ap (λ (o : Opening). o.account.entry name) whole ∙ here;
      others = λ n other. ap (λ (o : Opening). o.account.entry n) whole ∙ after_others name [] account n other;
      kept = ap (λ (o : Opening). o.account.kept) whole ∙ after_kept name [] account ∙ ap (λ (rs : List Kept). account.kept ++ rs) (no_record old) ∙ append-nil account.kept;
      now = record { name = name; cache = cache; account = account_after name [] None account; running = None; given = given; todo = begun sessions };
      goes_on = ap (λ (o : Opening). o.now) whole;
      base = ap base_in here ∙ base_in_base b;
      name_is = refl;
      account_is = sym (ap (λ (o : Opening). o.account) whole);
      cache_is = refl;
      running = refl;
      given_is = refl;
      todo = refl;
    }

-- And what can't be opened is refused.
pub not_reopened : (account : Account) (given : Given) (sessions : List (List Statement)) (session : ℕ) (name : List ℕ) (cache : ℕ) (refusal : Refusal) → not_opened name (account.entry name) ≡ Some refusal
    → opening account given sessions session (OpenDb name cache) ≡ refused_opening session (Refused refusal) account
unfolding opening
not_reopened account given sessions session name cache refusal is =
    let b : Base = base_in (account.entry name) in
    ap (λ (c : Cause). opening_unless session c account (done_opening session name cache [] (Opened (length b.image) (image_state b.image)) account given sessions)) is
