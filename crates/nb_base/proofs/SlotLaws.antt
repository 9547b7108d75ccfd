-- Pages go into their slots in the stalled state, before their entries are in the table: what a crash leaves, and what reads after each.
use Rattle.std.proofs.Common.{◌≡◌, ◌≢◌, ◌⊎◌, inl, inr, ⊎_elim, ℕ, ◌+◌, ◌<◌, ◌≤◌, List, [], ◌++◌, length, refl, sym, ap, subst, ◌∙◌, arith, append_assoc, Bool, true, false, Option, Some, None, Ok}
use Rattle.nb_base.proofs.Common.{true≢false, cases_eq, eqb_tells, is_scn_place, state_of, size_of, stalled_state, File, bytes_of, World, IsTimely, Changes, Only, Moved, begun, moved_on, weaker_has, Known, HasTable, SlotStep, SlotPut, slot_page, Page, page_at, first_page, image_size, image_state, Base, delta_name, entry_for, owner, page, on_base, Trail, bases_of, settled, HasPage, IsFirm, StandsIn, IsBehind, IsRewritten, IsOnTheWay, way_left, named, itself_firm, put_same, put_other, put_first, put_long, Held, Agrees, IsSeen, IsWrite, StandsAs, HasPageIn, MaySlot, IsSlotted, GoesIn, none_there, some_same, stroke-frozen}
use Rattle.nb_base.proofs.LeftLaws.{stroke-stalled, noted-there}
use Rattle.nb_base.proofs.OwnedLaws.{Holds, holds, shows, base-length, base-state, base-size, entry-front, entry-behind, entry_apart}
use Rattle.nb_base.proofs.StepLaws.{holds_slots, holds_slot}
use Rattle.nb_base.proofs.WriteLaws.{main_apart}

-- an entry names a page of the image
pub entry_inside : (b : Base) (m d : File) (h : Holds b m d) (p k : ℕ) → entry_for p b.diverted ≡ Some k → p < length b.image
entry_inside b m d h p k at = let last = named p b.diverted k at in omega (arith, last, base-length b m d h)

-- The page that is seen is written where an entry names it.
module _ (t : Trail) (p k : ℕ) (b : Base) (some : 1 ≤ p) (inside : p < length b.image) (stalled : image_state t.base.image ≡ stalled_state) (first : first_page b.image ≡ first_page t.base.image) (at : entry_for p b.diverted ≡ Some k) where
  pub slot_table : (on_base (page p (page_at t.base.image p)) b).diverted ≡ b.diverted
  slot_table = stroke-stalled b p (page_at t.base.image p) (ap state_of first ∙ stalled) ∙ noted-there p b.diverted k at

  pub slot_here : (q : ℕ) → q ≡ p → page_at (on_base (page p (page_at t.base.image p)) b).image q ≡ page_at t.base.image q
  slot_here q e = ap (page_at (on_base (page p (page_at t.base.image p)) b).image) e ∙ put_same b p (page_at t.base.image p) some inside ∙ sym (ap (page_at t.base.image) e)

  pub slot_there : (q : ℕ) → q ≢ p → page_at (on_base (page p (page_at t.base.image p)) b).image q ≡ page_at b.image q
  slot_there = put_other b p (page_at t.base.image p) some inside

-- On the way it is rewritten then.
module _ (f t : Trail) (p k : ℕ) (b : Base) (some : 1 ≤ p) (stalled : image_state t.base.image ≡ stalled_state) (at : entry_for p b.diverted ≡ Some k) (way : IsOnTheWay f t b) where
  abbrev own : Page
  own = page_at t.base.image p

  inside : p < length b.image
  inside = way.below stalled p k at

  table : (on_base (page p (page_at t.base.image p)) b).diverted ≡ b.diverted
  table = slot_table t p k b some inside stalled way.first at

  here : (q : ℕ) → q ≡ p → page_at (on_base (page p (page_at t.base.image p)) b).image q ≡ page_at t.base.image q
  here = slot_here t p k b some inside stalled way.first at

  there : (q : ℕ) → q ≢ p → page_at (on_base (page p (page_at t.base.image p)) b).image q ≡ page_at b.image q
  there = slot_there t p k b some inside stalled way.first at

  below : (q : ℕ) → q < length (on_base (page p (page_at t.base.image p)) b).image → q < length b.image
  below q low = omega (arith, low, put_long b p own some inside)

  pub way_slot : IsOnTheWay f t (on_base (page p (page_at t.base.image p)) b)
  way_slot = record {
    long = put_long b p own some inside ∙ way.long;
    first = put_first b p own some inside ∙ way.first;
    scn_pages = λ q low_q at_q. elim (eqb_tells q p) [
      | inl w ↦ inr (here q w.1)
      | inr w ↦ subst (λ (x : Page). (x ≡ page_at f.base.image q) ⊎ (x ≡ page_at t.base.image q)) (sym (there q w.1)) (way.scn_pages q (below q low_q) at_q)
    ];
    others = λ q low_q plain. elim (eqb_tells q p) [
      | inl w ↦ inr (record { stalled = stalled; entry = k; named = ap (entry_for q) table ∙ ap (λ n. entry_for n b.diverted) w.1 ∙ at; same = here q w.1 })
      | inr w ↦ ⊎_elim
          (λ (has : HasPage (bases_of f) q (page_at b.image q)). inl (subst (HasPage (bases_of f) q) (sym (there q w.1)) has))
          (λ (r : IsRewritten t b q). inr (record { stalled = stalled; entry = r.entry; named = ap (entry_for q) table ∙ r.named; same = there q w.1 ∙ r.same }))
          (way.others q (below q low_q) plain)
    ];
    below = λ s q j e. let low = way.below stalled q j (sym (ap (entry_for q) table) ∙ e) in omega (arith, low, put_long b p own some inside);
    frozen = stroke-frozen b p own ∙ way.frozen;
    diverted = (way.diverted.0, way.diverted.1 ∙ ap (λ (x : List ℕ). x ++ way.diverted.0) (sym table));
    merging = λ m. absurd (omega (arith, m, stalled));
  }

-- The way begins where the files are behind.
pub way_stalled : (f t : Trail) (b : Base) (m d : File) → Holds b m d → IsBehind f t → image_state t.base.image ≡ stalled_state → IsFirm f b → IsOnTheWay f t b
way_stalled f t b m d h is stalled left = record {
  long = left.mixed.long ∙ is.long;
  first = left.mixed.first ∙ is.first;
  scn_pages = λ p low at. inl (left.kept p (ap (λ (n : ℕ). is_scn_place n p) (ap size_of is.first) ∙ at));
  others = λ p low plain. inl (left.mixed.each p low);
  below = λ s p k at. entry_inside b m d h p k at;
  frozen = left.rest.frozen;
  diverted = left.rest.diverted;
  merging = λ e. absurd (omega (arith, e, stalled));
}

-- What is to be known of the pages that wait.
module _ (w : World) (held : Held) (f t : Trail) (waits : ℕ → Bool) (seen : IsSeen w held.name f) (behind : IsBehind f t) (agrees : Agrees held t.base) (stalled : held.state ≡ stalled_state) (unsettled : t.earlier ≢ [])
    (drafted : length t.base.diverted ≡ length f.base.diverted + held.drafted) (clean : (p : ℕ) → waits p ≡ false → page_at f.base.image p ≡ page_at t.base.image p)
    (drafts : (p k : ℕ) → entry_for p t.base.diverted ≡ Some k → length f.base.diverted ≤ k → waits p ≡ true)
    (each : (p : ℕ) → waits p ≡ true → (1 ≤ p) × (p < length t.base.image) × ((k : ℕ) × (entry_for p t.base.diverted ≡ Some k))) where
  is_stalled : image_state t.base.image ≡ stalled_state
  is_stalled = sym agrees.state ∙ stalled

  pub goes_in : GoesIn w held f t waits
  goes_in = record {
    left = λ files all.
        let s = seen.left files all in
        record { base = s.base; opens = s.opens; is = way_stalled f t s.base (files held.name) (files (delta_name held.name)) (holds held.name s.base (files held.name) (files (delta_name held.name)) s.opens) behind is_stalled s.left };
    reads = record {
      base = f.base;
      opens = seen.shows;
      is = record { long = behind.long; first = behind.first; named = λ p k at gone. clean p gone; others = λ p none. refl; frozen = refl; diverted = refl };
    };
    slots = λ p k at late gone. absurd (true≢false (sym (drafts p k at late) ∙ gone));
    agrees = agrees;
    stalled = stalled;
    behind = behind;
    drafted = drafted;
    inside = λ p k at late. let one = each p (drafts p k at late) in (one.0, one.1);
    plain = λ p none. by p none (waits p) refl;
    unsettled = unsettled;
  }
    where
      by : (p : ℕ) → entry_for p t.base.diverted ≡ None → (u : Bool) → waits p ≡ u → page_at f.base.image p ≡ page_at t.base.image p
      by p none true is = absurd (none_there (sym none ∙ (each p is).2.1))
      by p none false is = clean p is

-- A page goes into its slot.
module _ (w new : World) (held : Held) (f t : Trail) (waits : ℕ → Bool) (goes : GoesIn w held f t waits) (p k : ℕ) (bytes : Page) (may : MaySlot t p bytes) (at : entry_for p t.base.diverted ≡ Some k) where
  abbrev name : List ℕ
  name = held.name

  abbrev way : Base → Type 0
  way = IsOnTheWay f t

  is_one : image_state t.base.image ≡ stalled_state
  is_one = sym goes.agrees.state ∙ goes.stalled

  size_of_base : (b : Base) → first_page b.image ≡ first_page t.base.image → held.page_size ≡ image_size b.image
  size_of_base b first = goes.agrees.page_size ∙ sym (ap size_of first)

  -- it is a write of that page
  write : (b : Base) → length b.image ≡ length t.base.image → first_page b.image ≡ first_page t.base.image → IsWrite (settled b) p bytes
  write b long first = record { fits = record { low = omega (arith, may.low, long); front = λ zero. absurd (omega (arith, zero, may.some)) }; long = may.long ∙ sym (ap size_of first); below = may.below; other = may.other }

  -- where its entry stands, if the table has it
  module _ (b : Base) (rest : List ℕ) (all : t.base.diverted ≡ b.diverted ++ rest) where
    entry_is : (j : ℕ) → entry_for p b.diverted ≡ Some j → j ≡ k
    entry_is j e = some_same {X = ℕ} _ _ (sym (entry-front p b.diverted rest j e) ∙ ap (entry_for p) (sym all) ∙ at)

    entry_past : entry_for p b.diverted ≡ None → length b.diverted ≤ k
    entry_past e = entry-behind p b.diverted rest k e (ap (entry_for p) (sym all) ∙ at)

  -- What two files hold then.
  module _ (b : Base) (long : length b.image ≡ length t.base.image) (first : first_page b.image ≡ first_page t.base.image) (rest : List ℕ) (all : t.base.diverted ≡ b.diverted ++ rest) (m d c : File) (h : Holds b m d) where
    one : 0 < image_state b.image
    one = omega (arith, ap state_of first, is_one)

    has_table : HasTable held.page_size d b.diverted
    has_table = subst (λ n. HasTable n d b.diverted) (sym (base-size b m d h) ∙ sym (size_of_base b first)) (h.entries.some (omega (arith, one, base-state b m d h)))

    stays : HasTable held.page_size c b.diverted → ((j : ℕ) → j < length b.diverted → slot_page held.page_size c j ≡ slot_page held.page_size d j) → Holds b m c
    stays table same =
        holds_slots (settled b) p bytes (write b long first) b (itself_firm (settled b)) m d h one c (subst (λ n. HasTable n c b.diverted) (size_of_base b first) table)
        (λ j low. subst (λ n. slot_page n c j ≡ slot_page n d j) (size_of_base b first) (same j low))

    goes_there : entry_for p b.diverted ≡ Some k → HasTable held.page_size c b.diverted → slot_page held.page_size c k ≡ bytes → ((j : ℕ) → j ≢ k → slot_page held.page_size c j ≡ slot_page held.page_size d j) → Holds (on_base (page p bytes) b) m c
    goes_there e table slot same =
        holds_slot (settled b) p bytes (write b long first) b (itself_firm (settled b)) m d h one k e c (subst (λ n. HasTable n c b.diverted) (size_of_base b first) table) (subst (λ n. slot_page n c k ≡ bytes) (size_of_base b first) slot)
        (λ j low ne. subst (λ n. slot_page n c j ≡ slot_page n d j) (size_of_base b first) (same j ne))

  -- what a crash leaves of one outcome
  module _ (b : Base) (is : IsOnTheWay f t b) where
    abbrev more : List ℕ
    more = is.diverted.0 ++ goes.behind.diverted.0

    all_of : t.base.diverted ≡ b.diverted ++ (is.diverted.0 ++ goes.behind.diverted.0)
    all_of = goes.behind.diverted.1 ∙ ap (λ (x : List ℕ). x ++ goes.behind.diverted.0) is.diverted.1 ∙ append_assoc b.diverted is.diverted.0 goes.behind.diverted.0

    on_step : (m d c : File) → owner name m d ≡ Ok b → SlotStep held.page_size k bytes d c → (next : Base) × (owner name m c ≡ Ok next) × IsOnTheWay f t next
    on_step m d c opens step = by (entry_for p b.diverted) refl
      where
        h : Holds b m d
        h = holds name b m d opens

        table_c : HasTable held.page_size c b.diverted
        table_c = step.table b.diverted (has_table b is.long is.first more all_of m d c h)

        by : (x : Option ℕ) → entry_for p b.diverted ≡ x → (next : Base) × (owner name m c ≡ Ok next) × IsOnTheWay f t next
        by (Some j) e =
            let here : entry_for p b.diverted ≡ Some k = e ∙ ap (λ n. Some n) (entry_is b more all_of j e) in
            ⊎_elim
            (λ kept. (
              b,
              shows name b m c (stays b is.long is.first more all_of m d c h table_c
                  (λ i low. ⊎_elim (λ (v : i ≡ k). ap (slot_page held.page_size c) v ∙ kept ∙ ap (slot_page held.page_size d) (sym v)) (λ ne. step.others i ne) (cases_eq i k))),
              is,
            ))
            (λ slot. (
              on_base (page p bytes) b,
              shows name (on_base (page p bytes) b) m c (goes_there b is.long is.first more all_of m d c h here table_c slot step.others),
              subst (λ (x : Page). IsOnTheWay f t (on_base (page p x) b)) (sym may.same) (way_slot f t p k b may.some is_one here is),
            ))
            step.slot
        by None e =
            let past : length b.diverted ≤ k = entry_past b more all_of e in
            (b, shows name b m c (stays b is.long is.first more all_of m d c h table_c (λ i low. step.others i (λ same. absurd (omega (arith, same, low, past))))), is)

  module _ (changes : Changes w new (Only (delta_name held.name)) (Moved w (delta_name held.name) (SlotStep held.page_size k bytes))) (timely : IsTimely w) where
    pub slot_way : Changes w new (Only (delta_name held.name)) (StandsAs held.name (IsOnTheWay f t))
    slot_way =
        moved_on w w new (Only (delta_name name)) (StandsAs name way) (StandsAs name way) (delta_name name) (SlotStep held.page_size k bytes) (begun w (Only (delta_name name)) (StandsAs name way) timely goes.left) changes refl (λ files s. s)
        (λ before files all s step others.
        let next = on_step s.base s.is (before name) (before (delta_name name)) (files (delta_name name)) s.opens step in
        record { base = next.0; opens = ap (λ (m : File). owner name m (files (delta_name name))) (others name (main_apart name)) ∙ next.1; is = next.2 })

    pub slot_left : Changes w new (Only (delta_name held.name)) (StandsIn held.name t)
    slot_left = weaker_has w new (Only (delta_name name)) (StandsAs name way) (StandsIn name t) slot_way (λ files s. record { base = s.base; opens = s.opens; left = way_left f t goes.behind s.base goes.unsettled s.is })

    -- Once it is there, it waits no longer.
    module _ (put : SlotPut held.page_size k bytes (w.files (delta_name held.name)) (new.files (delta_name held.name))) (later : ℕ → Bool) (as_before : (q : ℕ) → q ≢ p → later q ≡ waits q) where
      abbrev r : Base
      r = goes.reads.base

      abbrev m : File
      m = w.files name

      abbrev d : File
      d = w.files (delta_name name)

      abbrev c : File
      c = new.files (delta_name name)

      abbrev is : IsSlotted f t waits goes.reads.base
      is = goes.reads.is

      h : Holds goes.reads.base (w.files held.name) (w.files (delta_name held.name))
      h = holds name r m d goes.reads.opens

      all_r : t.base.diverted ≡ goes.reads.base.diverted ++ goes.behind.diverted.0
      all_r = goes.behind.diverted.1 ∙ ap (λ (x : List ℕ). x ++ goes.behind.diverted.0) (sym is.diverted)

      table_r : HasTable held.page_size (new.files (delta_name held.name)) goes.reads.base.diverted
      table_r = put.table r.diverted (has_table r is.long is.first goes.behind.diverted.0 all_r m d c h)

      same_main : new.files held.name ≡ w.files held.name
      same_main = changes.others_read name (main_apart name)

      reads_next : StandsAs held.name (IsSlotted f t later) new.files
      reads_next = by (entry_for p r.diverted) refl
        where
          by : (x : Option ℕ) → entry_for p r.diverted ≡ x → StandsAs name (IsSlotted f t later) new.files
          by (Some j) e =
              let here : entry_for p r.diverted ≡ Some k = e ∙ ap (λ n. Some n) (entry_is r goes.behind.diverted.0 all_r j e) in
              let inside : p < length r.image = omega (arith, may.low, is.long) in
              record {
                base = on_base (page p bytes) r;
                opens = ap (λ (x : File). owner name x c) same_main ∙ shows name (on_base (page p bytes) r) m c (goes_there r is.long is.first goes.behind.diverted.0 all_r m d c h here table_r put.slot put.others);
                is = subst (λ (x : Page). IsSlotted f t later (on_base (page p x) r)) (sym may.same) (record {
                  long = put_long r p (page_at t.base.image p) may.some inside ∙ is.long;
                  first = put_first r p (page_at t.base.image p) may.some inside ∙ is.first;
                  named = λ q i e_q gone. elim (eqb_tells q p) [
                    | inl v ↦ slot_here t p k r may.some inside is_one is.first here q v.1
                    | inr v ↦ slot_there t p k r may.some inside is_one is.first here q v.1 ∙ is.named q i e_q (sym (as_before q v.1) ∙ gone)
                  ];
                  others = λ q none. elim (eqb_tells q p) [
                    | inl v ↦ absurd (none_there (sym none ∙ ap (entry_for q) (sym is.diverted) ∙ ap (λ n. entry_for n r.diverted) v.1 ∙ here))
                    | inr v ↦ slot_there t p k r may.some inside is_one is.first here q v.1 ∙ is.others q none
                  ];
                  frozen = stroke-frozen r p (page_at t.base.image p) ∙ is.frozen;
                  diverted = slot_table t p k r may.some inside is_one is.first here ∙ is.diverted;
                });
              }
          by None e =
              let past : length r.diverted ≤ k = entry_past r goes.behind.diverted.0 all_r e in
              record {
                base = r;
                opens = ap (λ (x : File). owner name x c) same_main ∙ shows name r m c (stays r is.long is.first goes.behind.diverted.0 all_r m d c h table_r (λ i low. put.others i (λ same. absurd (omega (arith, same, low, past)))));
                is = record {
                  long = is.long;
                  first = is.first;
                  named = λ q i e_q gone. elim (eqb_tells q p) [
                    | inl v ↦ absurd (none_there (sym e ∙ ap (λ n. entry_for n r.diverted) (sym v.1) ∙ ap (entry_for q) is.diverted ∙ e_q))
                    | inr v ↦ is.named q i e_q (sym (as_before q v.1) ∙ gone)
                  ];
                  others = is.others;
                  frozen = is.frozen;
                  diverted = is.diverted;
                };
              }

      slots_next : (q j : ℕ) → entry_for q t.base.diverted ≡ Some j → length f.base.diverted ≤ j → later q ≡ false → HasPageIn held.page_size j (page_at t.base.image q) (new.files (delta_name held.name))
      slots_next q j e late gone = elim (eqb_tells q p) [
        | inl v ↦
            let same : j ≡ k = some_same {X = ℕ} _ _ (sym e ∙ ap (λ n. entry_for n t.base.diverted) v.1 ∙ at) in
            subst (λ n. HasPageIn held.page_size n (page_at t.base.image q) c) (sym same) (record { whole = put.whole; same = put.slot ∙ may.same ∙ sym (ap (page_at t.base.image) v.1) })
        | inr v ↦
            let old : HasPageIn held.page_size j (page_at t.base.image q) d = goes.slots q j e late (sym (as_before q v.1) ∙ gone) in
            record { whole = longer (bytes_of d) (bytes_of c) _ old.whole put.no_shorter; same = put.others j (entry_apart p q k j t.base.diverted at e v.1) ∙ old.same }
      ]
        where
          longer : (a b : List ℕ) (n : ℕ) → n ≤ length a → length a ≤ length b → n ≤ length b
          longer a b n low grown = omega (arith, low, grown)

      pub slot_goes : GoesIn new held f t later
      slot_goes = record {
        left = slot_way.now;
        reads = reads_next;
        slots = slots_next;
        agrees = goes.agrees;
        stalled = goes.stalled;
        behind = goes.behind;
        drafted = goes.drafted;
        inside = goes.inside;
        plain = goes.plain;
        unsettled = goes.unsettled;
      }

-- The same by what the object of the difference file knows.
pub slot_changes : (old mid new : World) (main : List ℕ) (known delta : Known) (k : ℕ) (bytes : Page) → mid ≡ old → known ≡ delta → delta.name ≡ delta_name main
    → Changes mid new (Only known.name) (Moved mid known.name (SlotStep known.page_size k bytes)) → Changes old new (Only (delta_name main)) (Moved old (delta_name main) (SlotStep delta.page_size k bytes))
slot_changes old mid new main known delta k bytes same knows named changes =
    subst (λ (n : List ℕ). Changes old new (Only n) (Moved old n (SlotStep delta.page_size k bytes))) named
    (subst (λ (d : Known). Changes old new (Only d.name) (Moved old d.name (SlotStep d.page_size k bytes))) knows (subst (λ (w : World). Changes w new (Only known.name) (Moved w known.name (SlotStep known.page_size k bytes))) same changes))

pub slot_puts : (old mid new : World) (main : List ℕ) (known delta : Known) (k : ℕ) (bytes : Page) → mid ≡ old → known ≡ delta → delta.name ≡ delta_name main
    → SlotPut known.page_size k bytes (mid.files known.name) (new.files known.name) → SlotPut delta.page_size k bytes (old.files (delta_name main)) (new.files (delta_name main))
slot_puts old mid new main known delta k bytes same knows named put =
    subst (λ (n : List ℕ). SlotPut delta.page_size k bytes (old.files n) (new.files n)) named
    (subst (λ (d : Known). SlotPut d.page_size k bytes (old.files d.name) (new.files d.name)) knows (subst (λ (w : World). SlotPut known.page_size k bytes (w.files known.name) (new.files known.name)) same put))
