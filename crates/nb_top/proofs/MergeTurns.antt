-- The one turn of a merge in place: what it must be, and what stands after it.
use Rattle.std.proofs.Common.{◌≡◌, ◌≢◌, ℕ, List, [], ◌∷◌, length, true, false, refl, sym, ap, subst, ◌∙◌, Bool, ◌==◌, nat_lt, None, Some, Result, Ok, Err}
use Rattle.nb_top.proofs.Common.{state_of, stamp_of, applying_state, File, Files, Refusal, Usage, NoFile, BadLevel, ChainScn, Pages, Account, Cause, Page, image_in, bytes_of, in_place, in_place_of, not_finishing, not_mergeable, not_next, not_standby, other_pages, written_since, only_turn, only_refusal, apply_turn, account_behind, Contents, read_level, Event, account_after, with_made, merge, merged, IsOther, other_first, other_when, other_database, IsMergeable, none_other, err_ok}
use Rattle.nb_top.proofs.ChainRefusals.{some_other, IsFine, by_cause}

-- the turn that merges what a level file holds into a standby
abbrev pub merged_turn : (bytes : List ℕ) → Contents → Event
merged_turn bytes c = only_turn (Pages (length (merged c.pages (image_in bytes)))) (merge c.pages ∷ [])

-- 1. A merge is never refused as words are that name no job.
standby_other : (name : List ℕ) (file : File) → IsOther (not_standby name file)
unfolding not_standby
standby_other name None = some_other (NoFile name) (λ e. cc)
standby_other name (Some bytes) = other_first _ (other_database bytes, (other_when _ _ (λ e. cc), tt))

written_other : (name : List ℕ) (scn : ℕ) (pages : List Page) → IsOther (written_since name scn pages)
unfolding written_since
written_other name scn [] = none_other
written_other name scn (p ∷ ps) = by (nat_lt scn (stamp_of p)) (written_other name scn ps)
  where
    by : (t : Bool) → IsOther (written_since name scn ps) → IsOther (elim t as (λ z. Cause) [ true ↦ Some (ChainScn name (stamp_of p) scn) | false ↦ written_since name scn ps ])
    by true rest = some_other (ChainScn name (stamp_of p) scn) (λ e. cc)
    by false rest = rest

next_other : (name bytes : List ℕ) (c : Contents) → IsOther (not_next name bytes c)
unfolding not_next
next_other name bytes c = other_first _ (other_when _ _ (λ e. cc), (other_when _ _ (λ e. cc), (other_when _ _ (λ e. cc), (other_when _ _ (λ e. cc), (written_other name c.head.previous_scn (other_pages (image_in bytes)), tt)))))

finishing_other : (name bytes : List ℕ) (c : Contents) → IsOther (not_finishing name bytes c)
unfolding not_finishing
finishing_other name bytes c = other_first _ (other_when _ _ (λ e. cc), (other_when _ _ (λ e. cc), tt))

mergeable_other : (bytes name : List ℕ) (c : Contents) → IsOther (not_mergeable bytes name c)
unfolding not_mergeable
mergeable_other bytes name c = by (state_of bytes == applying_state)
  where
    by : (t : Bool) → IsOther (elim t as (λ z. Cause) [ true ↦ not_finishing name bytes c | false ↦ not_next name bytes c ])
    by true = finishing_other name bytes c
    by false = next_other name bytes c

merge_fine : (files : Files) (db name : List ℕ) → IsFine (in_place files db name)
unfolding in_place in_place_of
merge_fine files db name = by (not_standby db (files db)) (standby_other db (files db))
  where
    of_level : (bytes : List ℕ) (read : Result Contents ℕ) → IsFine (elim read as (λ z. Result Contents Refusal) [
      | Err at ↦ Err (BadLevel name at)
      | Ok c ↦ elim (not_mergeable bytes name c) as (λ z. Result Contents Refusal) [ Some refusal ↦ Err refusal | None ↦ Ok c ]
    ])
    of_level bytes (Err at) = λ e. cc
    of_level bytes (Ok c) = by_cause (not_mergeable bytes name c) c (mergeable_other bytes name c)

    of_file : (file : File) → IsFine (elim file as (λ z. Result Contents Refusal) [ None ↦ Err (NoFile name) | Some bytes ↦ in_place_of (bytes_of (files db)) name bytes ])
    of_file None = λ e. cc
    of_file (Some bytes) = of_level (bytes_of (files db)) (read_level bytes)

    by : (cause : Cause) → IsOther cause → IsFine (elim cause as (λ z. Result Contents Refusal) [
      | Some refusal ↦ Err refusal
      | None ↦ elim (files name) as (λ z. Result Contents Refusal) [ None ↦ Err (NoFile name) | Some bytes ↦ in_place_of (bytes_of (files db)) name bytes ]
    ])
    by (Some refusal) other = λ e. other (ap (λ (x : Refusal). Some x) e)
    by None other = of_file (files name)

-- 2. The turn is refused, or it merges.
pub data MergeTurn (files : Files) (db name : List ℕ) : Type 0 where
  refuses : (refusal : Refusal) → in_place files db name ≡ Err refusal → apply_turn files db name ≡ only_refusal refusal → MergeTurn files db name
  merges : (bytes : List ℕ) (c : Contents) → IsMergeable files db name bytes c → apply_turn files db name ≡ merged_turn bytes c → MergeTurn files db name

no_standby : (files : Files) (db name : List ℕ) (c : Contents) → files db ≡ None → in_place files db name ≡ Ok c → ⊥
unfolding in_place not_standby
no_standby files db name c none accepted = err_ok {E = Refusal} {T = Contents} (NoFile db) c (sym (rw (none, in_place) refl) ∙ accepted)

module _ (files : Files) (db name : List ℕ) where
  pub refused_turn : (refusal : Refusal) → in_place files db name ≡ Err refusal → apply_turn files db name ≡ only_refusal refusal
  unfolding apply_turn
  refused_turn refusal why = rw (why, apply_turn) refl

  accepted_turn : (c : Contents) → in_place files db name ≡ Ok c → apply_turn files db name ≡ merged_turn (bytes_of (files db)) c
  unfolding apply_turn
  accepted_turn c accepted = rw (accepted, apply_turn) refl

  pub done_turn : (bytes : List ℕ) (c : Contents) → IsMergeable files db name bytes c → apply_turn files db name ≡ merged_turn bytes c
  done_turn bytes c m = accepted_turn c m.accepted ∙ ap (λ (f : File). merged_turn (bytes_of f) c) m.there

  pub turn_is : MergeTurn files db name
  turn_is = by (in_place files db name) refl
    where
      of_file : (c : Contents) → in_place files db name ≡ Ok c → (file : File) → files db ≡ file → MergeTurn files db name
      of_file c accepted None none = absurd (no_standby files db name c none accepted)
      of_file c accepted (Some bytes) there = let m : IsMergeable files db name bytes c = record { there = there; accepted = accepted } in merges bytes c m (done_turn bytes c m)

      by : (answer : Result Contents Refusal) → in_place files db name ≡ answer → MergeTurn files db name
      by (Err refusal) why = refuses refusal why (refused_turn refusal why)
      by (Ok c) accepted = of_file c accepted (files db) refl

  pub refused_merge : (refusal : Refusal) → in_place files db name ≡ Err refusal → refusal ≢ Usage
  refused_merge refusal why = subst (λ (r : Result Contents Refusal). IsFine r) why (merge_fine files db name)

  pub merged_account : (account : Account) (bytes : List ℕ) (c : Contents) → account_behind db (merged_turn bytes c) account ≡ account_after db (merge c.pages ∷ []) None account
  unfolding account_behind with_made
  merged_account account bytes c = refl
