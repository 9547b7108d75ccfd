-- What two files stand for, and what they show, after a page of one of them was written.
use Rattle.std.proofs.Common.{◌≡◌, ◌≢◌, ◌⊎◌, inl, inr, ⊎_elim, ℕ, ◌*◌, ◌<◌, ◌≤◌, List, [], ◌∷◌, ◌++◌, length, refl, sym, ap, subst, ◌∙◌, arith, length-append, false, Option, Some, None, Ok}
use Rattle.nb_base.proofs.Common.{page_in, slot_place, table_of, stalled_state, File, bytes_of, PageLeft, HasTable, SlotStep, SlotPut, Adds, AddStep, slot_page, Page, Image, image_size, image_state, with_page, Base, Stroke, page, on_base, merged_page, entry_for, owned, owner, Trail, after_stroke, IsFirm, must_sync, StandsFirmOn, itself_firm, trail_base, IsWrite, ok_same, some_same, stroke_page, stroke-frozen}
use Rattle.nb_host.specs.Files.{with_page as with_page_at}
use Rattle.nb_base.proofs.OwnedLaws.{Holds, holds, shows, main-some, main-long, base-state, base-size, entry_shows, entry-front, entry-behind}
use Rattle.nb_base.proofs.LeftLaws.{stroke-stalled, noted-new, later_size, later_length, later_front, put_left, stay_left}
use Rattle.nb_base.proofs.StepLaws.{main-state, main-size, holds_main, left_main, holds_slots, holds_slot, none_left}

-- one table for a file
one_table : (size : ℕ) (file : File) (xs ys : List ℕ) → HasTable size file xs → HasTable size file ys → xs ≡ ys
one_table size None xs ys a b = absurd a
one_table size (Some bytes) xs ys a b = ok_same xs ys (table_of size bytes) a b

module _ (name : List ℕ) (t : Trail) (p : ℕ) (bytes : Page) (is : IsWrite t p bytes) where
  abbrev s : Stroke
  s = page p bytes

  abbrev now : Image
  now = t.base.image

  abbrev later : Trail
  later = after_stroke s t

  -- the database after the stroke has what may be left after it
  later_left : IsFirm (after_stroke s t) (on_base s t.base)
  later_left = subst (λ (x : Base). IsFirm later x) (trail_base s t) (itself_firm later)

  -- the page may be written again
  pub write_later : IsWrite (after_stroke s t) p bytes
  write_later = record {
    fits = record { low = omega (arith, later_length t p bytes is.fits); front = λ e. is.fits.front e ∙ sym (later_front t p bytes is.fits) };
    long = is.long ∙ sym (later_size t p bytes is.fits);
    below = is.below;
    other = is.other;
  }

  -- An outcome that lost a write that isn't synced stands.
  pub stands_stays : (m d : File) → must_sync now p ≡ false → StandsFirmOn name t m d → StandsFirmOn name (after_stroke s t) m d
  stands_stays m d waits o = record { base = o.base; opens = o.opens; left = stay_left t p bytes is.fits o.base o.left waits }

  -- as it stands where its files hold the same
  stands_same : (o_base : Base) → IsFirm t o_base → (m d : File) → Holds o_base m d → StandsFirmOn name t m d
  stands_same b left m d h = record { base = b; opens = shows name b m d h; left = left }

  stands_later : (b : Base) (left : IsFirm t b) → (image_state now ≡ stalled_state → ((k : ℕ) × (entry_for p b.diverted ≡ Some k)) ⊎ (b.diverted ≡ t.base.diverted)) → (m d : File) → Holds (on_base s b) m d → StandsFirmOn name (after_stroke s t) m d
  stands_later b left keeps m d h = record { base = on_base s b; opens = shows name (on_base s b) m d h; left = put_left t p bytes is.fits b left keeps }

  -- The page is written into the main file, and no entry names it.
  module _ (other : image_state now ≢ stalled_state) (none : entry_for p t.base.diverted ≡ None) (m d c : File) where
    pub stands_main : StandsFirmOn name t m d → PageLeft (p * length bytes) bytes m c → StandsFirmOn name t c d ⊎ StandsFirmOn name (after_stroke s t) c d
    stands_main o step =
        let h : Holds o.base m d = holds name o.base m d o.opens in
        ⊎_elim (λ same. inl (stands_same o.base o.left c d same)) (λ next. inr (stands_later o.base o.left (λ e. absurd (other e)) c d next))
        (left_main t p bytes is o.base o.left m d h other (none_left t p bytes is o.base o.left m d h none) c step)

    pub stands_main_put : StandsFirmOn name t m d → c ≡ with_page_at m (p * length bytes) bytes → StandsFirmOn name (after_stroke s t) c d
    stands_main_put o put =
        let h : Holds o.base m d = holds name o.base m d o.opens in
        stands_later o.base o.left (λ e. absurd (other e)) c d (holds_main t p bytes is o.base o.left m d h other (none_left t p bytes is o.base o.left m d h none) c put)

    pub shows_main_put : owner name m d ≡ Ok t.base → c ≡ with_page_at m (p * length bytes) bytes → owner name c d ≡ Ok (after_stroke s t).base
    shows_main_put o put =
        let h : Holds t.base m d = holds name t.base m d o in
        shows name (on_base s t.base) c d (holds_main t p bytes is t.base (itself_firm t) m d h other none c put) ∙ ap (λ (x : Base). Ok x) (sym (trail_base s t))

  -- With this difference file no entry is missing, whatever the main file.
  pub all_entries : 0 < image_state now → (m n d : File) (o : StandsFirmOn name t m d) → owner name n d ≡ Ok t.base → o.base.diverted ≡ t.base.diverted
  all_entries diverts m n d o seen =
      let h : Holds o.base m d = holds name o.base m d o.opens in
      let i : Holds t.base n d = holds name t.base n d seen in
      let state : image_state h.main ≡ image_state now = main-state t p bytes is o.base o.left m d h in
      let size : image_size h.main ≡ image_size now = main-size t p bytes is o.base o.left m d h in
      let table : HasTable (image_size now) d o.base.diverted = subst (λ n. HasTable n d o.base.diverted) size (h.entries.some (omega (arith, state, diverts))) in
      let all : HasTable (image_size now) d t.base.diverted = subst (λ n. HasTable n d t.base.diverted) (sym (base-size t.base n d i)) (i.entries.some (omega (arith, base-state t.base n d i, diverts))) in
      one_table (image_size now) d o.base.diverted t.base.diverted table all

  -- The slot of the page's entry is written.
  module _ (diverts : 0 < image_state now) (k : ℕ) (at : entry_for p t.base.diverted ≡ Some k) (m d c : File) where
    -- the entries of an outcome
    has_entries : (b : Base) (left : IsFirm t b) → Holds b m d → HasTable (image_size now) d b.diverted
    has_entries b left h = subst (λ n. HasTable n d b.diverted) (main-size t p bytes is b left m d h) (h.entries.some (omega (arith, main-state t p bytes is b left m d h, diverts)))

    pub stands_slot : StandsFirmOn name t m d → SlotStep (image_size now) k bytes d c → StandsFirmOn name t m c ⊎ StandsFirmOn name (after_stroke s t) m c
    stands_slot o step = by (entry_for p o.base.diverted) refl
      where
        h : Holds o.base m d
        h = holds name o.base m d o.opens

        table : HasTable (image_size now) c o.base.diverted
        table = step.table o.base.diverted (has_entries o.base o.left h)

        by : (x : Option ℕ) → entry_for p o.base.diverted ≡ x → StandsFirmOn name t m c ⊎ StandsFirmOn name (after_stroke s t) m c
        by (Some j) e =
            let same : j ≡ k = some_same {X = ℕ} _ _ (sym (entry-front p o.base.diverted o.left.rest.diverted.0 j e) ∙ ap (entry_for p) (sym o.left.rest.diverted.1) ∙ at) in
            let here : entry_for p o.base.diverted ≡ Some k = e ∙ ap (λ n. Some n) same in
            ⊎_elim
            (λ kept. inl (stands_same o.base o.left m c (holds_slots t p bytes is o.base o.left m d h diverts c table (λ i low. ⊎_elim (λ (w : i ≡ k). ap (slot_page (image_size now) c) w ∙ kept ∙ ap (slot_page (image_size now) d) (sym w)) (λ ne. step.others i ne) (Rattle.std.proofs.lemmas.Bool.cases_eq i k)))))
            (λ new. inr (stands_later o.base o.left (λ e. inl (k, here)) m c (holds_slot t p bytes is o.base o.left m d h diverts k here c table new (λ i low ne. step.others i ne))))
            step.slot
        by None e =
            let past : length o.base.diverted ≤ k = entry-behind p o.base.diverted o.left.rest.diverted.0 k e (ap (entry_for p) (sym o.left.rest.diverted.1) ∙ at) in
            inl (stands_same o.base o.left m c (holds_slots t p bytes is o.base o.left m d h diverts c table (λ i low. step.others i (λ same. absurd (omega (arith, same, low, past))))))

    put_holds : (b : Base) (left : IsFirm t b) → b.diverted ≡ t.base.diverted → Holds b m d → SlotPut (image_size now) k bytes d c → Holds (on_base s b) m c
    put_holds b left same h put =
        holds_slot t p bytes is b left m d h diverts k (ap (entry_for p) same ∙ at) c (put.table b.diverted (has_entries b left h)) put.slot (λ i low ne. put.others i ne)

    pub stands_slot_put : (o : StandsFirmOn name t m d) → o.base.diverted ≡ t.base.diverted → SlotPut (image_size now) k bytes d c → StandsFirmOn name (after_stroke s t) m c
    stands_slot_put o same put = stands_later o.base o.left (λ e. inr same) m c (put_holds o.base o.left same (holds name o.base m d o.opens) put)

    pub shows_slot_put : owner name m d ≡ Ok t.base → SlotPut (image_size now) k bytes d c → owner name m c ≡ Ok (after_stroke s t).base
    shows_slot_put o put = shows name (on_base s t.base) m c (put_holds t.base (itself_firm t) refl (holds name t.base m d o) put) ∙ ap (λ (x : Base). Ok x) (sym (trail_base s t))

  -- An entry is added. Of the main file each outcome holds the frozen image.
  module _ (stalled : image_state now ≡ stalled_state) (none : entry_for p t.base.diverted ≡ None) (seen reads : File) (shown : owner name seen reads ≡ Ok t.base) (m d c : File) where
    added_holds : StandsFirmOn name t m d → Adds (image_size now) t.base.diverted p bytes reads c → Holds (on_base s t.base) m c
    added_holds o adds =
        let h : Holds o.base m d = holds name o.base m d o.opens in
        let i : Holds t.base seen reads = holds name t.base seen reads shown in
        let state : image_state h.main ≡ stalled_state = main-state t p bytes is o.base o.left m d h ∙ stalled in
        let state_i : image_state i.main ≡ stalled_state = sym (base-state t.base seen reads i) ∙ stalled in
        let same : i.main ≡ h.main = sym (i.frozen.stalled state_i) ∙ sym o.left.rest.frozen ∙ h.frozen.stalled state in
        let size : image_size h.main ≡ image_size now = main-size t p bytes is o.base o.left m d h in
        let image : t.base.image ≡ owned (image_size h.main) h.main (bytes_of reads) t.base.diverted = i.image ∙ ap (λ (x : Image). owned (image_size x) x (bytes_of reads) t.base.diverted) same in
        let entries : (on_base s t.base).diverted ≡ t.base.diverted ++ p ∷ [] = stroke-stalled t.base p bytes stalled ∙ noted-new p t.base.diverted none in
        let low : p ≤ length (owned (image_size h.main) h.main (bytes_of reads) t.base.diverted) = omega (arith, is.fits.low, ap length image) in
        record {
          main = h.main;
          has = h.has;
          opened = h.opened;
          entries = record { none = λ e. absurd (omega (arith, e, state)); some = λ some. subst (λ n. HasTable n c (on_base s t.base).diverted) (sym size) (subst (λ (x : List ℕ). HasTable (image_size now) c x) (sym entries) adds.table) };
          image = stroke_page t.base p bytes ∙ ap (λ (x : Image). with_page p (merged_page p bytes x) x) image
              ∙ sym (entry_shows (image_size h.main) h.main (bytes_of reads) (bytes_of c) (main-some o.base m d h) (main-long o.base m d h) t.base.diverted p bytes none low
              (subst (λ n. page_in n (bytes_of c) (slot_place n (length t.base.diverted)) ≡ bytes) (sym size) adds.slot)
              (λ j below. subst (λ n. page_in n (bytes_of c) (slot_place n j) ≡ page_in n (bytes_of reads) (slot_place n j)) (sym size) (adds.others j below)))
              ∙ ap (λ (x : List ℕ). owned (image_size h.main) h.main (bytes_of c) x) (sym entries);
          frozen = record { stalled = λ e. stroke-frozen t.base p bytes ∙ sym o.left.rest.frozen ∙ h.frozen.stalled e; other = λ ne. absurd (ne state) };
        }

    pub stands_added : StandsFirmOn name t m d → Adds (image_size now) t.base.diverted p bytes reads c → StandsFirmOn name (after_stroke s t) m c
    stands_added o adds = record { base = on_base s t.base; opens = shows name (on_base s t.base) m c (added_holds o adds); left = later_left }

    pub stands_add : StandsFirmOn name t m d → AddStep (image_size now) t.base.diverted p bytes reads d c → StandsFirmOn name t m c ⊎ StandsFirmOn name (after_stroke s t) m c
    stands_add o (inl keeps) =
        let h : Holds o.base m d = holds name o.base m d o.opens in
        let few : length o.base.diverted ≤ length t.base.diverted = omega (arith, ap length o.left.rest.diverted.1, length-append o.base.diverted o.left.rest.diverted.0) in
        let diverts : 0 < image_state now = omega (arith, stalled) in
        let table : HasTable (image_size now) d o.base.diverted = subst (λ n. HasTable n d o.base.diverted) (main-size t p bytes is o.base o.left m d h) (h.entries.some (omega (arith, main-state t p bytes is o.base o.left m d h, diverts))) in
        inl (stands_same o.base o.left m c (holds_slots t p bytes is o.base o.left m d h diverts c (keeps.table o.base.diverted few table) (λ k low. keeps.slots k (omega (arith, low, few)))))
    stands_add o (inr adds) = inr (stands_added o adds)

    pub shows_added : StandsFirmOn name t m d → Adds (image_size now) t.base.diverted p bytes reads c → owner name m c ≡ Ok (after_stroke s t).base
    shows_added o adds = shows name (on_base s t.base) m c (added_holds o adds) ∙ ap (λ (x : Base). Ok x) (sym (trail_base s t))
