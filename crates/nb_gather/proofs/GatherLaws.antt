-- A level file takes a page.
use Rattle.std.proofs.Common.{◌≡◌, ◌≢◌, ◌⊎◌, inl, inr, ℕ, ◌+◌, ◌<◌, List, [], ◌∷◌, ◌++◌, length, refl, sym, ap, subst, ◌∙◌, arith, Bool, true, false, ◌&&◌, ◌||◌, ◌==◌, nat_lt, Result, Ok}
use Rattle.nb_gather.proofs.Common.{and_parts, eqb-true, eqb_tells, bytes_of, World, IsTimely, Changes, Only, Remade, LevelHead, AddsTwo, Numbered, Stretch, runs_of, total, eq_yes, LevelWriting, Waiting, Holds, HoldsAll, Reads, HasTaken, MayHave, complete, incomplete, level_front, IsUnfinished, lt_holds, not_both, or_parts}
use Rattle.nb_gather.proofs.AppendLaws.{run_read, run_reads, run_left}
use Rattle.nb_gather.proofs.FitLaws.{RunsFit, runs_fit, may_front}
use Rattle.nb_gather.proofs.QuietLaws.{renamed}
use Rattle.nb_gather.proofs.RunLaws.{one_run, longer_run, goes_on, Grows, runs_added, grown_none, grown_other, grown_more, grown_full}
use Rattle.nb_gather.proofs.UnfinishedLaws.{AreFit}
use Rattle.nb_gather.proofs.WaitingLaws.{none_waits, one_waits, holds_one, holds_longer, goes_as, taken_still, taken_with}

-- the page may go into the run
abbrev pub may_join : Waiting → Numbered → Bool
may_join run r = run.count == 0 || (r.0 == run.first + run.count && nat_lt run.count 16)

-- the page went into it
pub record Joined (old new : Waiting) (r : Numbered) : Type 0 where
  pub first : old.count ≡ 0 → new.first ≡ r.0
  pub more : 0 < old.count → new.first ≡ old.first
  pub alone : old.count ≡ 0 → new.bytes ≡ r.1
  pub bytes : new.bytes ≡ old.bytes ++ r.1
  pub count : new.count ≡ old.count + 1

-- this run is complete with the page, and this one waits then
pub record Completes (run : Waiting) (rs : List Numbered) (r : Numbered) (waits : List Stretch) : Type 0 where
  pub s : Stretch
  pub holds : Holds run s
  pub grows : Grows r (runs_of rs) (s ∷ []) waits

-- a run that is no run, or that the page goes on with
or_right : (a b : Bool) → (a || b) ≡ true → a ≡ false → b ≡ true
or_right true b is none = absurd (not_both true refl none)
or_right false b is none = is

module _ (head : LevelHead) (rs : List Numbered) (r : Numbered) (may : MayHave head (rs ++ r ∷ [])) (old : Waiting) (waits : HoldsAll old (incomplete (runs_of rs))) where
  before : RunsFit head rs
  before = runs_fit head rs (may_front head rs (r ∷ []) may)

  -- a run has begun, and the page goes on with it
  record GoesOn : Type 0 where
    pub w : Stretch
    pub is : incomplete (runs_of rs) ≡ w ∷ []
    pub holds : Holds old w
    pub goes : goes_on w r ≡ true
    pub some : 0 < old.count
    pub few : old.count < 16

  none_or_goes : may_join old r ≡ true → (old.count ≡ 0) ⊎ GoesOn
  none_or_goes may_ = elim (eqb_tells old.count 0) [
    | inl none ↦ inl none.1
    | inr some ↦
        let goes = or_right (old.count == 0) _ may_ some.0 in
        let w = one_waits old head rs before waits some.1 in
        inr (record {
          w = w.0;
          is = w.1;
          holds = w.2;
          goes = sym (goes_as old w.0 r w.2) ∙ goes;
          some = (let ne = some.1 in positive old.count ne);
          few = lt_holds old.count 16 (and_parts (r.0 == old.first + old.count) (nat_lt old.count 16) goes).1;
        })
  ]
    where
      positive : (n : ℕ) → n ≢ 0 → 0 < n
      positive zero_or other = elim (eqb_tells zero_or 0) [ inl e ↦ absurd (other e.1) | inr e ↦ omega (arith, e.1) ]

  module _ (new : Waiting) (joined_ : Joined old new r) where
    -- the run isn't complete with it
    pub joins_still : (w : World) (name : List ℕ) (written : ℕ) → written ≡ length rs → Reads w name (level_front head (complete (runs_of rs))) → may_join old r ≡ true → (new.count == 16) ≡ false
        → HasTaken w (record { name = name; head = head; written = written + 1; run = new }) (rs ++ r ∷ [])
    joins_still w name written counted stands may_ short = elim (none_or_goes may_) [
      | inl none ↦
          taken_still head rs r w name written new counted (one_run r ∷ []) (grown_none r (runs_of rs) (none_waits old head rs before waits none))
          (holds_one old new r joined_.first joined_.more joined_.alone joined_.bytes joined_.count none) stands
      | inr on ↦
          let other : new.count ≢ 16 = λ e. absurd (not_both (new.count == 16) (eq_yes new.count 16 e) short) in
          let room : length on.w.pages + 1 < 16 = below new.count (length on.w.pages) (omega (arith, joined_.count, on.holds.count)) (omega (arith, on.few, on.holds.count)) other in
          taken_still head rs r w name written new counted (longer_run on.w r ∷ []) (grown_more r (runs_of rs) on.w on.is on.goes room)
          (holds_longer old new r joined_.first joined_.more joined_.alone joined_.bytes joined_.count on.w on.some on.holds) stands
    ]
      where
        below : (n m : ℕ) → n ≡ m + 1 → m < 16 → n ≢ 16 → m + 1 < 16
        below n m is low other = elim (eqb_tells n 16) [ inl e ↦ absurd (other e.1) | inr e ↦ omega (arith, is, low, e.1) ]

    -- the run is complete with it
    pub joins_full : may_join old r ≡ true → (new.count == 16) ≡ true → Completes new rs r []
    joins_full may_ full = elim (none_or_goes may_) [
      | inl none ↦ absurd (let sixteen = eqb-true new.count 16 full in omega (arith, sixteen, joined_.count, none))
      | inr on ↦
          let sixteen : new.count ≡ 16 = eqb-true new.count 16 full in
          record {
            s = longer_run on.w r;
            holds = holds_longer old new r joined_.first joined_.more joined_.alone joined_.bytes joined_.count on.w on.some on.holds;
            grows = grown_full r (runs_of rs) on.w on.is on.goes (omega (arith, sixteen, joined_.count, on.holds.count));
          }
    ]

  -- the page doesn't go into it
  pub other_run : may_join old r ≡ false → Completes old rs r (one_run r ∷ [])
  other_run not_ =
      let both = or_parts (old.count == 0) _ not_ in
      let some : old.count ≢ 0 = λ e. absurd (not_both (old.count == 0) (eq_yes old.count 0 e) both.0) in
      let w = one_waits old head rs before waits some in
      record { s = w.0; holds = w.2; grows = grown_other r (runs_of rs) w.0 w.1 (sym (goes_as old w.0 r w.2) ∙ both.1) }

-- The complete run is appended.
module _ (head : LevelHead) (rs : List Numbered) (r : Numbered) (run : Waiting) (waits : List Stretch) (completes : Completes run rs r waits) (name : List ℕ) where
  all_runs : complete (runs_of (rs ++ r ∷ [])) ≡ complete (runs_of rs) ++ completes.s ∷ []
  all_runs = ap complete (runs_added r rs) ∙ completes.grows.0

  pub completes_left : {T E : Type 0} (result : Result T E) (old new : World) → IsTimely old → MayHave head (rs ++ r ∷ []) → Reads old name (level_front head (complete (runs_of rs)))
      → AddsTwo result old new name (bytes_of 4 run.first ++ bytes_of 4 run.count) run.bytes → new.said ≡ old.said → Changes old new (Only name) (Remade old name IsUnfinished)
  completes_left result old new timely may stands adds silent =
      let fit = runs_fit head (rs ++ r ∷ []) may in
      run_left name head (complete (runs_of rs)) run completes.s completes.holds result old new timely stands may.formed (subst (AreFit head.page_size) all_runs fit.done)
      (subst (λ (ss : List Stretch). total ss < 4294967296) all_runs fit.few_done) adds silent

  pub completes_reads : {T E : Type 0} (result : Result T E) (old new : World) → MayHave head (rs ++ r ∷ []) → Reads old name (level_front head (complete (runs_of rs)))
      → AddsTwo result old new name (bytes_of 4 run.first ++ bytes_of 4 run.count) run.bytes → IsUnfinished (new.files name)
  completes_reads result old new may stands adds =
      let fit = runs_fit head (rs ++ r ∷ []) may in
      run_reads name head (complete (runs_of rs)) run completes.s completes.holds result old new stands may.formed (subst (AreFit head.page_size) all_runs fit.done)
      (subst (λ (ss : List Stretch). total ss < 4294967296) all_runs fit.few_done) adds

  pub completes_taken : {T E : Type 0} (x : T) (old new : World) (written : ℕ) (last : Waiting) → written ≡ length rs → HoldsAll last waits → Reads old name (level_front head (complete (runs_of rs)))
      → AddsTwo {E = E} (Ok x) old new name (bytes_of 4 run.first ++ bytes_of 4 run.count) run.bytes → HasTaken new (record { name = name; head = head; written = written + 1; run = last }) (rs ++ r ∷ [])
  completes_taken x old new written last counted holds stands adds =
      taken_with head rs r new name written last counted completes.s waits completes.grows holds (run_read name head (complete (runs_of rs)) run completes.s completes.holds x old new stands adds)

-- A file with these fields takes a page.
module _ (outer self : LevelWriting) (view : self ≡ outer) (w : World) (rs : List Numbered) (r : Numbered) (has : HasTaken w outer rs) (may : MayHave outer.head (rs ++ r ∷ [])) where
  inside : HasTaken w self rs
  inside = subst (λ (v : LevelWriting). HasTaken w v rs) (sym view) has

  fits : MayHave self.head (rs ++ r ∷ [])
  fits = subst (λ (v : LevelWriting). MayHave v.head (rs ++ r ∷ [])) (sym view) may

  -- into the run that waits
  module _ (new : Waiting) (first : self.run.count ≡ 0 → new.first ≡ r.0) (more : 0 < self.run.count → new.first ≡ self.run.first) (alone : self.run.count ≡ 0 → new.bytes ≡ r.1) (bytes : new.bytes ≡ self.run.bytes ++ r.1) (count : new.count ≡ self.run.count + 1) where
    joined : Joined self.run new r
    joined = record { first = first; more = more; alone = alone; bytes = bytes; count = count }

    pub run_still : may_join self.run r ≡ true → (new.count == 16) ≡ false → HasTaken w (record { name = self.name; head = self.head; written = self.written + 1; run = new }) (rs ++ r ∷ [])
    run_still takes short = joins_still self.head rs r fits self.run inside.waits new joined w self.name self.written inside.counted inside.stands takes short

    pub run_full : may_join self.run r ≡ true → (new.count == 16) ≡ true → Completes new rs r []
    run_full takes full = joins_full self.head rs r fits self.run inside.waits new joined takes full

  -- or not
  pub run_other : may_join self.run r ≡ false → Completes self.run rs r (one_run r ∷ [])
  run_other takes = other_run self.head rs r fits self.run inside.waits takes

  -- the run that is complete is appended
  module _ (run : Waiting) (waits : List Stretch) (completes : Completes run rs r waits) where
    pub appends_left : {T E : Type 0} (result : Result T E) (new : World) → IsTimely w → AddsTwo result w new self.name (bytes_of 4 run.first ++ bytes_of 4 run.count) run.bytes → new.said ≡ w.said → Changes w new (Only outer.name) (Remade w outer.name IsUnfinished)
    appends_left result new timely adds silent =
        renamed w new self.name outer.name IsUnfinished (ap (λ (v : LevelWriting). v.name) view) (completes_left self.head rs r run waits completes self.name result w new timely fits inside.stands adds silent)

    pub appends_reads : {T E : Type 0} (result : Result T E) (new : World) → AddsTwo result w new self.name (bytes_of 4 run.first ++ bytes_of 4 run.count) run.bytes → IsUnfinished (new.files outer.name)
    appends_reads result new adds = subst (λ (v : LevelWriting). IsUnfinished (new.files v.name)) view (completes_reads self.head rs r run waits completes self.name result w new fits inside.stands adds)

    pub appends_taken : {T E : Type 0} (x : T) (new : World) (last : Waiting) → HoldsAll last waits → AddsTwo {E = E} (Ok x) w new self.name (bytes_of 4 run.first ++ bytes_of 4 run.count) run.bytes
        → HasTaken new (record { name = self.name; head = self.head; written = self.written + 1; run = last }) (rs ++ r ∷ [])
    appends_taken x new last holds adds = completes_taken self.head rs r run waits completes self.name x w new self.written last inside.counted holds inside.stands adds
