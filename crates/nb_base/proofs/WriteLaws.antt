-- A page is written: what a crash leaves at each moment, and what is seen once the call has answered Ok.
use Rattle.std.proofs.Common.{◌≡◌, ◌≢◌, ◌⊎◌, inl, inr, ⊎_elim, ℕ, zero, suc, ◌*◌, ◌<◌, ◌≤◌, List, [], ◌∷◌, length, refl, sym, ap, subst, ◌∙◌, arith, length-append, Bool, true, false, IsTrue, Some, None, Result, Ok, Err, IsErr, OnOk}
use Rattle.nb_base.proofs.Common.{normal_state, stalled_state, merge_state, File, Files, with_file, World, Leaves, IsDurable, Untouched, WritesPage, IsStill, IsTimely, Passes, Only, Changes, Moved, Reached, left_before, with_file-same, with_file-other, all_before, begun, left_with, moved_on, page_more, durable_is, HasTable, SlotStep, SlotPut, Adds, AddStep, Page, image_size, image_state, Base, Stroke, page, delta_name, entry_for, owner, Trail, after_stroke, ShowsIn, must_sync, StandsFirmOn, StandsFirm, OfFiles, IsSeen, IsWrite, StrikesFirm, TakesFirm, place_of, trail_base, none_there, for_nothing, no_err, stroke-diverted}
use Rattle.nb_host.specs.Files.{with_page as with_page_at}
use Rattle.nb_host.specs.Names.{delta_suffix}
use Rattle.nb_base.proofs.OwnedLaws.{Holds, holds, base-state, base-size}
use Rattle.nb_base.proofs.LeftLaws.{later_state}
use Rattle.nb_base.proofs.PlaceLaws.{place-entry}
use Rattle.nb_base.proofs.OutcomeLaws.{stands_stays, stands_main, stands_main_put, shows_main_put, all_entries, stands_slot, stands_slot_put, shows_slot_put, stands_add, stands_added, shows_added}

-- a database's two files have different names
pub delta_apart : (name : List ℕ) → delta_name name ≢ name
delta_apart name same = absurd (omega (arith, length-append name delta_suffix, ap length same))

pub main_apart : (name : List ℕ) → name ≢ delta_name name
main_apart name same = delta_apart name (sym same)

-- nothing is said of what stands at Ok where the answer is none
pub not_done : {T E : Type 0} (result : Result T E) (X : Type 0) → IsErr result → OnOk result X
not_done {T} {E} (Ok x) X is = absurd (no_err T E x is)
not_done (Err e) X is = tt

-- what two facts under Ok give together, of which one has a premise
pub on_ok_both : {T E F A B C : Type 0} (result : Result T E) → (A → (F → B) → C) → OnOk result A → (F → OnOk result B) → OnOk result C
on_ok_both (Ok x) give a b = give a b
on_ok_both (Err e) give a b = tt

-- One of the two files as it reads, and an outcome of the other.
module _ (w : World) (reads : (n : List ℕ) → Leaves w n (w.files n)) (name : List ℕ) (t : Trail) (seen : IsSeen w name t) where
  pub with_delta : (d : File) → Leaves w (delta_name name) d → StandsFirmOn name t (w.files name) d
  with_delta d left =
      let files : Files = with_file w.files (delta_name name) d in
      let stands : StandsFirm name t files = seen.left files (left_with w (delta_name name) w.files d (λ m other. reads m) left) in
      subst (λ (x : File). StandsFirmOn name t x d) (with_file-other w.files (delta_name name) d name (main_apart name)) (subst (λ (x : File). StandsFirmOn name t (files name) x) (with_file-same w.files (delta_name name) d) stands)

  pub with_main : (m : File) → Leaves w name m → StandsFirmOn name t m (w.files (delta_name name))
  with_main m left =
      let files : Files = with_file w.files name m in
      let stands : StandsFirm name t files = seen.left files (left_with w name w.files m (λ n other. reads n) left) in
      subst (λ (x : File). StandsFirmOn name t x (w.files (delta_name name))) (with_file-same w.files name m) (subst (λ (x : File). StandsFirmOn name t (files name) x) (with_file-other w.files name m (delta_name name) (delta_apart name)) stands)

module _ (name : List ℕ) (t : Trail) (p : ℕ) (bytes : Page) (is : IsWrite t p bytes) (old : World) (timely : IsTimely old) (reads : (n : List ℕ) → Leaves old n (old.files n)) (seen : IsSeen old name t) where
  abbrev s : Stroke
  s = page p bytes

  abbrev later : Trail
  later = after_stroke s t

  abbrev Before : Files → Type 0
  Before = StandsFirm name t

  abbrev After : Files → Type 0
  After = Reached after_stroke (StandsFirm name) t (s ∷ [])

  start : Changes old old (OfFiles name) (StandsFirm name t)
  start = begun old (OfFiles name) Before timely seen.left

  -- what stood of a write that isn't synced stands
  pub stays_seen : (new : World) → must_sync t.base.image p ≡ false → StrikesFirm old new name t (page p bytes ∷ []) → ShowsIn name (after_stroke (page p bytes) t).base new.files → IsSeen new name (after_stroke (page p bytes) t)
  stays_seen new waits left shows = record {
    left = λ files all. ⊎_elim (stands_stays name t p bytes is (files name) (files (delta_name name)) waits) (λ o. o) (left.now files all);
    shows = shows;
  }

  -- The main file is written.
  module _ (mid : World) (other : image_state t.base.image ≢ stalled_state) (none : entry_for p t.base.diverted ≡ None) where
    pub struck_main : {T E : Type 0} (tells : Bool) (result : Result T E) → IsTrue tells → WritesPage tells result old mid name (p * length bytes) bytes → mid.said ≡ old.said → Passes old mid → StrikesFirm old mid name t (page p bytes ∷ [])
    struck_main tells result told writes silent time =
        page_more tells result old old mid (OfFiles name) Before After name (p * length bytes) bytes told start (inl refl) writes silent time (λ files o. inl o)
        (λ before files all o step others.
        ⊎_elim inl inr (stands_main name t p bytes is other none (before name) (files (delta_name name)) (files name) (subst (λ (x : File). StandsFirmOn name t (before name) x) (sym (others (delta_name name) (delta_apart name))) o) step))

    module _ (put : mid.files ≡ with_file old.files name (with_page_at (old.files name) (p * length bytes) bytes)) where
      here : mid.files name ≡ with_page_at (old.files name) (p * length bytes) bytes
      here = ap (λ (f : Files). f name) put ∙ with_file-same old.files name _

      beside : mid.files (delta_name name) ≡ old.files (delta_name name)
      beside = ap (λ (f : Files). f (delta_name name)) put ∙ with_file-other old.files name _ (delta_name name) (delta_apart name)

      pub main_shown : ShowsIn name (after_stroke (page p bytes) t).base mid.files
      main_shown = ap (owner name (mid.files name)) beside ∙ shows_main_put name t p bytes is other none (old.files name) (old.files (delta_name name)) (mid.files name) seen.shows here

      pub main_synced : (new : World) → Untouched old mid (λ m. m ≢ name) → IsStill mid new → IsDurable new name (mid.files name) → IsSeen new name (after_stroke (page p bytes) t)
      main_synced new apart still durable = record {
        left = λ files all.
            let main : files name ≡ mid.files name = durable_is new name (mid.files name) durable (files name) (all name) in
            let delta : Leaves old (delta_name name) (files (delta_name name)) = left_before old mid _ apart (delta_name name) (files (delta_name name)) (delta_apart name) (all_before mid new still.left files all (delta_name name)) in
            stands_main_put name t p bytes is other none (old.files name) (files (delta_name name)) (files name) (with_delta old reads name t seen (files (delta_name name)) delta) (main ∙ here);
        shows = subst (λ (f : Files). ShowsIn name later.base f) (sym still.files) main_shown;
      }

  -- The slot of the page's entry is written.
  module _ (new : World) (diverts : 0 < image_state t.base.image) (k : ℕ) (at : entry_for p t.base.diverted ≡ Some k)
      (changes : Changes old new (Only (delta_name name)) (Moved old (delta_name name) (SlotStep (image_size t.base.image) k bytes))) where
    pub struck_slot : StrikesFirm old new name t (page p bytes ∷ [])
    struck_slot =
        moved_on old old new (OfFiles name) Before After (delta_name name) (SlotStep (image_size t.base.image) k bytes) start changes (inr refl) (λ files o. inl o)
        (λ before files all o step others.
        ⊎_elim inl inr (stands_slot name t p bytes is diverts k at (files name) (before (delta_name name)) (files (delta_name name)) (subst (λ (x : File). StandsFirmOn name t x (before (delta_name name))) (sym (others name (main_apart name))) o) step))

    slot_main : new.files name ≡ old.files name
    slot_main = changes.others_read name (main_apart name)

    module _ (put : SlotPut (image_size t.base.image) k bytes (old.files (delta_name name)) (new.files (delta_name name))) where
      pub slot_shown : ShowsIn name (after_stroke (page p bytes) t).base new.files
      slot_shown = ap (λ (x : File). owner name x (new.files (delta_name name))) slot_main
          ∙ shows_slot_put name t p bytes is diverts k at (old.files name) (old.files (delta_name name)) (new.files (delta_name name)) seen.shows put

      pub slot_synced : IsDurable new (delta_name name) (new.files (delta_name name)) → IsSeen new name (after_stroke (page p bytes) t)
      slot_synced durable = record {
        left = λ files all.
            let delta : files (delta_name name) ≡ new.files (delta_name name) = durable_is new (delta_name name) (new.files (delta_name name)) durable (files (delta_name name)) (all (delta_name name)) in
            let main : Leaves old name (files name) = left_before old new _ changes.others name (files name) (main_apart name) (all name) in
            let o : StandsFirmOn name t (files name) (old.files (delta_name name)) = with_main old reads name t seen (files name) main in
            subst (λ (x : File). StandsFirmOn name later (files name) x) (sym delta)
            (stands_slot_put name t p bytes is diverts k at (files name) (old.files (delta_name name)) (new.files (delta_name name)) o (all_entries name t p bytes is diverts (files name) (old.files name) (old.files (delta_name name)) o seen.shows) put);
        shows = slot_shown;
      }

  -- An entry is added.
  module _ (new : World) (stalled : image_state t.base.image ≡ stalled_state) (none : entry_for p t.base.diverted ≡ None)
      (changes : Changes old new (Only (delta_name name)) (Moved old (delta_name name) (AddStep (image_size t.base.image) t.base.diverted p bytes (old.files (delta_name name))))) where
    pub struck_add : StrikesFirm old new name t (page p bytes ∷ [])
    struck_add =
        moved_on old old new (OfFiles name) Before After (delta_name name) (AddStep (image_size t.base.image) t.base.diverted p bytes (old.files (delta_name name))) start changes (inr refl) (λ files o. inl o)
        (λ before files all o step others.
        ⊎_elim inl inr (stands_add name t p bytes is stalled none (old.files name) (old.files (delta_name name)) seen.shows (files name) (before (delta_name name)) (files (delta_name name))
        (subst (λ (x : File). StandsFirmOn name t x (before (delta_name name))) (sym (others name (main_apart name))) o) step))

    add_main : new.files name ≡ old.files name
    add_main = changes.others_read name (main_apart name)

    module _ (adds : Adds (image_size t.base.image) t.base.diverted p bytes (old.files (delta_name name)) (new.files (delta_name name))) where
      pub add_shown : ShowsIn name (after_stroke (page p bytes) t).base new.files
      add_shown = ap (λ (x : File). owner name x (new.files (delta_name name))) add_main
          ∙ shows_added name t p bytes is stalled none (old.files name) (old.files (delta_name name)) seen.shows (old.files name) (old.files (delta_name name)) (new.files (delta_name name))
          (with_main old reads name t seen (old.files name) (reads name)) adds

      pub add_synced : IsDurable new (delta_name name) (new.files (delta_name name)) → IsSeen new name (after_stroke (page p bytes) t)
      add_synced durable = record {
        left = λ files all.
            let delta : files (delta_name name) ≡ new.files (delta_name name) = durable_is new (delta_name name) (new.files (delta_name name)) durable (files (delta_name name)) (all (delta_name name)) in
            let main : Leaves old name (files name) = left_before old new _ changes.others name (files name) (main_apart name) (all name) in
            subst (λ (x : File). StandsFirmOn name later (files name) x) (sym delta)
            (stands_added name t p bytes is stalled none (old.files name) (old.files (delta_name name)) seen.shows (files name) (old.files (delta_name name)) (new.files (delta_name name)) (with_main old reads name t seen (files name) main) adds);
        shows = add_shown;
      }

-- the table of the difference file as it reads, by what its object knows
pub seen_table : (name : List ℕ) (t : Trail) (w : World) → IsSeen w name t → image_state t.base.image ≡ stalled_state → (delta : List ℕ) (size : ℕ) (entries : List ℕ) → delta ≡ delta_name name → size ≡ image_size t.base.image → t.base.diverted ≡ entries
    → HasTable size (w.files delta) entries
seen_table name t w seen stalled delta size entries named size_is entries_are =
    let h : Holds t.base (w.files name) (w.files (delta_name name)) = holds name t.base (w.files name) (w.files (delta_name name)) seen.shows in
    let state : image_state h.main ≡ stalled_state = sym (base-state t.base (w.files name) (w.files (delta_name name)) h) ∙ stalled in
    let same : image_size h.main ≡ size = sym (base-size t.base (w.files name) (w.files (delta_name name)) h) ∙ sym size_is in
    subst (λ (d : List ℕ). HasTable size (w.files d) entries) (sym named) (subst (λ (x : List ℕ). HasTable size (w.files (delta_name name)) x) entries_are
    (subst (λ n. HasTable n (w.files (delta_name name)) t.base.diverted) same (h.entries.some (omega (arith, state)))))

-- in the normal state it isn't looked at
pub no_entries : (name : List ℕ) (t : Trail) (w : World) → IsSeen w name t → image_state t.base.image ≡ normal_state → t.base.diverted ≡ []
no_entries name t w seen normal =
    let h : Holds t.base (w.files name) (w.files (delta_name name)) = holds name t.base (w.files name) (w.files (delta_name name)) seen.shows in
    h.entries.none (sym (base-state t.base (w.files name) (w.files (delta_name name)) h) ∙ normal)

-- The same by what the object of the difference file knows.
module _ (name : List ℕ) (t : Trail) (p : ℕ) (bytes : Page) (is : IsWrite t p bytes) (old : World) (timely : IsTimely old) (reads : (n : List ℕ) → Leaves old n (old.files n)) (seen : IsSeen old name t) where
  -- where a sync was wanted the file is durable, and otherwise the write waits
  synced_or : (synced : Bool) (file : List ℕ) (new : World) → synced ≡ must_sync t.base.image p → (IsTrue synced → IsDurable new file (new.files file)) → (must_sync t.base.image p ≡ false) ⊎ IsDurable new file (new.files file)
  synced_or true file new must durable = inr (durable refl)
  synced_or false file new must durable = inl (sym must)

  module _ (new : World) (diverts : 0 < image_state t.base.image) (k : ℕ) (at : entry_for p t.base.diverted ≡ Some k) (delta : List ℕ) (size : ℕ) (named : delta ≡ delta_name name) (size_is : size ≡ image_size t.base.image) where
    of_slot : Changes old new (Only delta) (Moved old delta (SlotStep size k bytes)) → Changes old new (Only (delta_name name)) (Moved old (delta_name name) (SlotStep (image_size t.base.image) k bytes))
    of_slot changes = subst (λ n. Changes old new (Only (delta_name name)) (Moved old (delta_name name) (SlotStep n k bytes))) size_is (subst (λ (d : List ℕ). Changes old new (Only d) (Moved old d (SlotStep size k bytes))) named changes)

    pub slot_strikes : Changes old new (Only delta) (Moved old delta (SlotStep size k bytes)) → StrikesFirm old new name t (page p bytes ∷ [])
    slot_strikes changes = struck_slot name t p bytes is old timely reads seen new diverts k at (of_slot changes)

    pub slot_seen : Changes old new (Only delta) (Moved old delta (SlotStep size k bytes)) → StrikesFirm old new name t (page p bytes ∷ []) → SlotPut size k bytes (old.files delta) (new.files delta)
        → (synced : Bool) → synced ≡ must_sync t.base.image p → (IsTrue synced → IsDurable new delta (new.files delta)) → IsSeen new name (after_stroke (page p bytes) t)
    slot_seen changes left put synced must durable =
        let put_ : SlotPut (image_size t.base.image) k bytes (old.files (delta_name name)) (new.files (delta_name name)) =
        subst (λ n. SlotPut n k bytes (old.files (delta_name name)) (new.files (delta_name name))) size_is (subst (λ (d : List ℕ). SlotPut size k bytes (old.files d) (new.files d)) named put) in
        ⊎_elim
        (λ waits. stays_seen name t p bytes is old timely reads seen new waits left (slot_shown name t p bytes is old timely reads seen new diverts k at (of_slot changes) put_))
        (λ kept. slot_synced name t p bytes is old timely reads seen new diverts k at (of_slot changes) put_ (subst (λ (d : List ℕ). IsDurable new d (new.files d)) named kept))
        (synced_or synced delta new must durable)

  module _ (new : World) (stalled : image_state t.base.image ≡ stalled_state) (delta : List ℕ) (size : ℕ) (entries : List ℕ) (named : delta ≡ delta_name name) (size_is : size ≡ image_size t.base.image) (entries_are : t.base.diverted ≡ entries)
      (fresh : place_of entries p ≡ None) where
    no_entry : entry_for p t.base.diverted ≡ None
    no_entry = ap (entry_for p) entries_are ∙ sym (place-entry p entries) ∙ fresh

    of_entry : Changes old new (Only delta) (Moved old delta (AddStep size entries p bytes (old.files delta)))
        → Changes old new (Only (delta_name name)) (Moved old (delta_name name) (AddStep (image_size t.base.image) t.base.diverted p bytes (old.files (delta_name name))))
    of_entry changes =
        subst (λ n. Changes old new (Only (delta_name name)) (Moved old (delta_name name) (AddStep n t.base.diverted p bytes (old.files (delta_name name))))) size_is
        (subst (λ (x : List ℕ). Changes old new (Only (delta_name name)) (Moved old (delta_name name) (AddStep size x p bytes (old.files (delta_name name))))) (sym entries_are)
        (subst (λ (d : List ℕ). Changes old new (Only d) (Moved old d (AddStep size entries p bytes (old.files d)))) named changes))

    pub struck_entry : Changes old new (Only delta) (Moved old delta (AddStep size entries p bytes (old.files delta))) → StrikesFirm old new name t (page p bytes ∷ [])
    struck_entry changes = struck_add name t p bytes is old timely reads seen new stalled no_entry (of_entry changes)

    pub entry_seen : Changes old new (Only delta) (Moved old delta (AddStep size entries p bytes (old.files delta))) → StrikesFirm old new name t (page p bytes ∷ []) → Adds size entries p bytes (old.files delta) (new.files delta)
        → (synced : Bool) → synced ≡ must_sync t.base.image p → (IsTrue synced → IsDurable new delta (new.files delta)) → IsSeen new name (after_stroke (page p bytes) t)
    entry_seen changes left adds synced must durable =
        let adds_ : Adds (image_size t.base.image) t.base.diverted p bytes (old.files (delta_name name)) (new.files (delta_name name)) =
        subst (λ n. Adds n t.base.diverted p bytes (old.files (delta_name name)) (new.files (delta_name name))) size_is
        (subst (λ (x : List ℕ). Adds size x p bytes (old.files (delta_name name)) (new.files (delta_name name))) (sym entries_are) (subst (λ (d : List ℕ). Adds size entries p bytes (old.files d) (new.files d)) named adds)) in
        ⊎_elim
        (λ waits. stays_seen name t p bytes is old timely reads seen new waits left (add_shown name t p bytes is old timely reads seen new stalled no_entry (of_entry changes) adds_))
        (λ kept. add_synced name t p bytes is old timely reads seen new stalled no_entry (of_entry changes) adds_ (subst (λ (d : List ℕ). IsDurable new d (new.files d)) named kept))
        (synced_or synced delta new must durable)

-- In the merge state a stroke keeps the state and the entries.
module _ (t : Trail) (p : ℕ) (bytes : Page) where
  pub merges_later : IsWrite t p bytes → image_state t.base.image ≡ merge_state → image_state (after_stroke (page p bytes) t).base.image ≡ 2
  merges_later is merges = later_state t p bytes is.fits ∙ merges

  pub entry_later : image_state t.base.image ≡ merge_state → (k : ℕ) → entry_for p t.base.diverted ≡ Some k → entry_for p (after_stroke (page p bytes) t).base.diverted ≡ Some k
  entry_later merges k at = ap (λ (b : Base). entry_for p b.diverted) (trail_base (page p bytes) t) ∙ ap (entry_for p) (stroke-diverted t.base p bytes (λ e. absurd (omega (arith, e, merges)))) ∙ at

-- What a call took, passed on as a failure, and from a world that is the same.
pub takes_passed : {T E U F : Type 0} (result : Result T E) (passed : Result U F) (old mid new : World) (name : List ℕ) (opened other : Trail → Type 0) (t : Trail) (strokes : List Stroke)
    → mid ≡ old → TakesFirm result mid new name opened t strokes → IsErr passed → TakesFirm passed old new name other t strokes
takes_passed result passed old mid new name opened other t strokes same takes failed = record {
  left = subst (λ (w : World). StrikesFirm w new name t strokes) same takes.left;
  done = not_done passed _ failed;
}

pub takes_from : {T E : Type 0} (result : Result T E) (old mid new : World) (name : List ℕ) (opened : Trail → Type 0) (t : Trail) (strokes : List Stroke)
    → mid ≡ old → TakesFirm result mid new name opened t strokes → TakesFirm result old new name opened t strokes
takes_from result old mid new name opened t strokes same takes = subst (λ (w : World). TakesFirm result w new name opened t strokes) same takes

pub takes_done : {T E U F : Type 0} (x : T) (y : U) (old mid new : World) (name : List ℕ) (opened : Trail → Type 0) (t : Trail) (strokes : List Stroke)
    → mid ≡ old → TakesFirm {T = T} {E = E} (Ok x) mid new name opened t strokes → TakesFirm {T = U} {E = F} (Ok y) old new name opened t strokes
takes_done x y old mid new name opened t strokes same takes = record {
  left = subst (λ (w : World). StrikesFirm w new name t strokes) same takes.left;
  done = takes.done;
}

-- where there are no entries, none names a page
pub none_at : (p k : ℕ) (entries : List ℕ) → entries ≡ [] → entry_for p entries ≡ Some k → ⊥
none_at p k entries none at = none_there (sym (for_nothing p) ∙ ap (entry_for p) (sym none) ∙ at)

-- where an entry names a page, but not in the stalled state, the state is the merge state
pub merges_where : (name : List ℕ) (t : Trail) (w : World) → IsSeen w name t → image_state t.base.image ≢ stalled_state → (p k : ℕ) → entry_for p t.base.diverted ≡ Some k → image_state t.base.image ≡ merge_state
merges_where name t w seen other p k at =
    let h : Holds t.base (w.files name) (w.files (delta_name name)) = holds name t.base (w.files name) (w.files (delta_name name)) seen.shows in
    let state : image_state t.base.image ≡ image_state h.main = base-state t.base (w.files name) (w.files (delta_name name)) h in
    by (image_state h.main) h.opened h.entries.none state
  where
    last : (s : ℕ) → s ≤ 2 → s ≢ 0 → s ≢ 1 → s ≡ 2
    last zero low a b = absurd (a refl)
    last (suc zero) low a b = absurd (b refl)
    last (suc (suc s)) low a b = omega (arith, low)

    by : (s : ℕ) → s ≤ 2 → (s ≡ 0 → t.base.diverted ≡ []) → image_state t.base.image ≡ s → image_state t.base.image ≡ merge_state
    by s opened none is = is ∙ last s opened (λ e. none_at p k t.base.diverted (none e) at) (λ e. other (is ∙ e))
