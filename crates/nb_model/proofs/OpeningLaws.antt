-- The first statement of a run: whether its name is free, and what it makes.
use Rattle.std.proofs.Common.{◌≡◌, ◌≢◌, inl, inr, ℕ, List, [], ◌∷◌, ◌++◌, take, refl, sym, ap, subst, ◌∙◌, Bool, true, false, not, ◌&&◌, ◌||◌, ◌==◌, Option, Some, None, Result, Ok, Err, is_some, is_none}
use Rattle.nb_model.proofs.Common.{eqb_tells, append-nil, is_zeros, fresh, fresh_count, is_free_file, is_header, state_of, pending_of, is_header-take, applying_state, File, Files, is_delta, Refusal, FileExists, Unfinished, Reply, Pages, Refused, Statement, CreateDb, Image, Base, base_of, Kept, Entry, Plain, IsBase, Account, with_entry, Stroke, make, on_base, records_of, base_in, base_after, records_after, Cause, not_database, when, is_free_entry, delta_name, owner, entry_of_files, Given, Now, Event, base_now, with_made, account_after, IsPlayed, Opening, begun, refused_opening, done_opening, opening_unless, opening, IsRun, IsSameImage, err_not_ok}
use Rattle.nb_model.specs.Owner.{owner_in}
use Rattle.nb_model.specs.Run.{IsRest}
use Rattle.nb_model.proofs.HeaderLaws.{header-other}
use Rattle.nb_model.proofs.MainLaws.{owner-formed, owner-refused}
use Rattle.nb_model.proofs.RunLaws.{entry_same, base_in_base}
use Rattle.nb_model.proofs.StandsLaws.{entry_other, formed_header}
use Rattle.nb_fields.proofs.Rows.{no_file}

-- in the applying state it isn't opened
pub owner_applying : (name bytes : List ℕ) (delta : File) → owner_in 3 name bytes delta ≡ Err Unfinished
unfolding owner_in
owner_applying name bytes delta = refl

-- a file in use: a header in another state
pub in_use : (bytes : List ℕ) → is_header bytes ≡ true → (state_of bytes == applying_state) ≡ false → is_free_file (Some bytes) ≡ false
unfolding is_free_file
in_use bytes header state =
    ap (λ (t : Bool). t || (is_header bytes && state_of bytes == applying_state && is_zeros (pending_of bytes))) (header-other (take 64 bytes) (is_header-take bytes ∙ header))
    ∙ ap (λ (t : Bool). t && state_of bytes == applying_state && is_zeros (pending_of bytes)) header ∙ ap (λ (t : Bool). true && t && is_zeros (pending_of bytes)) state

-- the name of a file that is opened isn't free
pub opened_in_use : (name bytes : List ℕ) (delta : File) (b : Base) → owner name (Some bytes) delta ≡ Ok b → is_free_file (Some bytes) ≡ false
opened_in_use name bytes delta b opens = by (not_database bytes) refl
  where
    by : (c : Cause) → not_database bytes ≡ c → is_free_file (Some bytes) ≡ false
    by (Some r) is = absurd (err_not_ok r b (owner name (Some bytes) delta) (owner-refused name bytes delta r is) opens)
    by None is = elim (eqb_tells (state_of bytes) 3) [
      | inl w ↦ absurd (err_not_ok Unfinished b (owner name (Some bytes) delta) (owner-formed name bytes delta is ∙ ap (λ n. owner_in n name bytes delta) w.1 ∙ owner_applying name bytes delta) opens)
      | inr w ↦ in_use bytes (formed_header bytes is) w.0
    ]

-- whether a name is free, by its two files
free_of_files : (name : List ℕ) (main delta : File) → is_free_entry (entry_of_files name main delta) ≡ (is_free_file main && not (is_some delta))
unfolding entry_of_files is_free_entry
free_of_files name None delta = rw (no_file) (alone delta)
  where
    alone : (delta : File) → is_none delta ≡ not (is_some delta)
    alone None = refl
    alone (Some d) = refl
free_of_files name (Some bytes) delta = by (owner name (Some bytes) delta) refl
  where
    turned : (delta : File) (free : Bool) → (is_none delta && free) ≡ (free && not (is_some delta))
    turned None true = refl
    turned None false = refl
    turned (Some d) true = refl
    turned (Some d) false = refl

    by : (answer : Result Base Refusal) → owner name (Some bytes) delta ≡ answer
        → is_free_entry (elim answer as (λ z. Entry) [ Err refusal ↦ Plain bytes delta | Ok base ↦ IsBase base ]) ≡ (is_free_file (Some bytes) && not (is_some delta))
    by (Err r) is = turned delta (is_free_file (Some bytes))
    by (Ok b) is = ap (λ (t : Bool). t && not (is_some delta)) (sym (opened_in_use name bytes delta b is))

-- A name is free in the account where its file is free and no difference file stands beside it.
pub free_entry : (files : Files) (account : Account) (name : List ℕ) → IsSameImage files account → is_delta name ≡ false
    → is_free_entry (account.entry name) ≡ (is_free_file (files name) && not (is_some (files (delta_name name))))
free_entry files account name same plain = ap is_free_entry (same name plain) ∙ free_of_files name (files name) (files (delta_name name))

-- what a creation does, and what stands for the turns after it
pub record IsCreated (account : Account) (given : Given) (sessions : List (List Statement)) (session : ℕ) (name : List ℕ) (size raw cache : ℕ) (o : Opening) : Type 0 where
  pub event : o.event ≡ record { session = session; strokes = make (fresh size raw) ∷ []; reply = Some (Pages (fresh_count size raw)); made = None; syncs = true }
  pub here : o.account.entry name ≡ IsBase (base_of (fresh size raw))
  pub others : (n : List ℕ) → n ≢ name → o.account.entry n ≡ account.entry n
  pub kept : o.account.kept ≡ account.kept
  pub now : Now
  pub goes_on : o.now ≡ Some now
  pub base : base_now now ≡ base_of (fresh size raw)
  pub name_is : now.name ≡ name
  pub cache_is : now.cache ≡ cache
  pub account_is : now.account ≡ o.account
  pub running : now.running ≡ None
  pub given_is : now.given ≡ given
  pub todo : now.todo ≡ begun sessions

made_base : (image : Image) (b : Base) → base_after b (make image ∷ []) ≡ base_of image
unfolding base_after on_base
made_base image b = refl

made_records : (image : Image) (b : Base) → records_after b (make image ∷ []) ≡ []
unfolding records_after records_of
made_records image b = refl

-- the account after strokes: this name has the database after them
module _ (name : List ℕ) (strokes : List Stroke) (account : Account) where
  abbrev later : Account
  later = account_after name strokes None account

  pub after_here : later.entry name ≡ IsBase (base_after (base_in (account.entry name)) strokes)
  unfolding account_after with_made
  after_here = entry_same name (IsBase (base_after (base_in (account.entry name)) strokes)) account

  pub after_others : (n : List ℕ) → n ≢ name → later.entry n ≡ account.entry n
  unfolding account_after with_made
  after_others n other = entry_other name n (IsBase (base_after (base_in (account.entry name)) strokes)) account other

  pub after_kept : later.kept ≡ account.kept ++ records_after (base_in (account.entry name)) strokes
  unfolding account_after
  after_kept = refl

done_created : (account : Account) (given : Given) (sessions : List (List Statement)) (session : ℕ) (name : List ℕ) (size raw cache : ℕ)
    → IsCreated account given sessions session name size raw cache (done_opening session name cache (make (fresh size raw) ∷ []) (Pages (fresh_count size raw)) account given sessions)
unfolding done_opening
done_created account given sessions session name size raw cache =
    let strokes : List Stroke = make (fresh size raw) ∷ [] in
    let b : Base = base_in (account.entry name) in
    let here : (account_after name strokes None account).entry name ≡ IsBase (base_of (fresh size raw)) = after_here name strokes account ∙ ap IsBase (made_base (fresh size raw) b) in
    record {
      event = refl;
      here = here;
      others = after_others name strokes account;
      kept = after_kept name strokes account ∙ ap (λ (rs : List Kept). account.kept ++ rs) (made_records (fresh size raw) b) ∙ append-nil account.kept;
      now = record { name = name; cache = cache; account = account_after name strokes None account; running = None; given = given; todo = begun sessions };
      goes_on = refl;
      base = ap base_in here ∙ base_in_base (base_of (fresh size raw));
      name_is = refl;
      cache_is = refl;
      account_is = refl;
      running = refl;
      given_is = refl;
      todo = refl;
    }

-- Creating under a free name makes a fresh database.
pub created : (account : Account) (given : Given) (sessions : List (List Statement)) (session : ℕ) (name : List ℕ) (size raw cache : ℕ) → is_free_entry (account.entry name) ≡ true
    → IsCreated account given sessions session name size raw cache (opening account given sessions session (CreateDb name size raw cache))
unfolding opening
created account given sessions session name size raw cache free =
    subst (IsCreated account given sessions session name size raw cache)
    (ap (λ (t : Bool). opening_unless session (when (not t) (FileExists name)) account (done_opening session name cache (make (fresh size raw) ∷ []) (Pages (fresh_count size raw)) account given sessions)) (sym free))
    (done_created account given sessions session name size raw cache)

-- And under another it is refused.
pub not_created : (account : Account) (given : Given) (sessions : List (List Statement)) (session : ℕ) (name : List ℕ) (size raw cache : ℕ) → is_free_entry (account.entry name) ≡ false
    → opening account given sessions session (CreateDb name size raw cache) ≡ refused_opening session (Refused (FileExists name)) account
unfolding opening
not_created account given sessions session name size raw cache taken =
    ap (λ (t : Bool). opening_unless session (when (not t) (FileExists name)) account (done_opening session name cache (make (fresh size raw) ∷ []) (Pages (fresh_count size raw)) account given sessions)) taken

-- The run of a script whose first statement is done, and of one whose first is refused.
pub run_on : (account : Account) (given : Given) (session : ℕ) (first : Statement) (schedule : List ℕ) (sessions : List (List Statement)) (now last : Now) (rest : List Event)
    → (opening account given sessions session first).now ≡ Some now → IsPlayed schedule now rest last
    → IsRun account given session first schedule sessions ((opening account given sessions session first).event ∷ rest) last.account last.given
run_on account given session first schedule sessions now last rest goes_on played = record {
  rest = rest;
  is = refl;
  goes_on = subst (λ (n : Option Now). IsRest schedule (record { event = o.event; account = o.account; now = n }) given rest last.account last.given) (sym goes_on) (last, played, refl, refl);
}
  where
    o : Opening
    o = opening account given sessions session first

pub run_ends : (account : Account) (given : Given) (session : ℕ) (first : Statement) (schedule : List ℕ) (sessions : List (List Statement)) (reply : Reply)
    → opening account given sessions session first ≡ refused_opening session reply account
    → IsRun account given session first schedule sessions ((refused_opening session reply account).event ∷ []) account given
run_ends account given session first schedule sessions reply refused = record {
  rest = [];
  is = ap (λ (o : Opening). o.event ∷ []) (sym refused);
  goes_on = subst (λ (o : Opening). IsRest schedule o given [] account given) (sym refused) (refl, refl, refl);
}

pub with_kept : (name : List ℕ) (entry : Entry) (account : Account) → (with_entry name entry account).kept ≡ account.kept
unfolding with_entry
with_kept name entry account = refl
