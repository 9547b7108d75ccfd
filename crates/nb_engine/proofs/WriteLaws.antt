-- Why a raw page isn't written, and the turn that writes it.
use Rattle.std.proofs.Common.{◌≡◌, ◌≢◌, inl, inr, ℕ, ◌<◌, List, [], ◌∷◌, ◌++◌, length, refl, sym, ap, ◌∙◌, arith, true, false, not, ◌==◌, nat_le, Some, None, Result, Ok, IfErr}
use Rattle.nb_engine.proofs.Common.{eqb-true, leb_tells, is_header, entries_in, kind_of, text_payload, inventory_kind, raw_kind, scn_kind, World, Fault, Refusal, SystemPage, Refused, Done, Page, Image, first_page, page_at, image_size, Base, Draft, drafted, put, inventory_of, Cause, first_cause, when, past_end, read_only, not_kind, not_raw, too_long, not_of_form, no_room, Seen, says, unless, write_turn, Trail, header-kind, no_first, not_when, IsNoRefusal, Held, IsOpen, Makes, Does, entry_cause, raise_strokes, raw_stroke, Stays, StopsShort, Tries, WhereMemory, refused_by, judged_by, unless_these, seeing, tries_does, tries_stops, if_ok, put_stroke-after, put_strokes, put_form, put_room, put_refused, done, first_here, first_next, no_cause, true≢false, not_false}
use Rattle.nb_alloc.proofs.PageLaws.{then_page}

-- what a taken raw page is
pub record IsRaw (image : Image) (p : ℕ) : Type 0 where
  pub low : p < length image
  pub form : not_kind image inventory_kind (inventory_of image p) ≡ None
  pub kind : kind_of (page_at image p) ≡ raw_kind
  pub plain : kind_of (page_at image p) ≢ scn_kind

pub is_raw : (image : Image) (p : ℕ) → not_raw image p ≡ None → IsRaw image p
unfolding not_raw
is_raw image p none =
    let first = no_first (past_end image p) _ none in
    let second = no_first _ _ first.1 in
    let third = no_first _ _ second.1 in
    let fourth = no_first (when (not (kind_of (page_at image p) == raw_kind)) (SystemPage p)) [] third.1 in
    record {
      low = below (not_when (nat_le (length image) p) _ first.0);
      form = second.0;
      kind = is_eight fourth.0;
      plain = λ e. absurd (omega (arith, e, is_eight fourth.0));
    }
  where
    below : nat_le (length image) p ≡ false → p < length image
    below over = elim (leb_tells (length image) p) [ inl w ↦ absurd (true≢false (sym w.0 ∙ over)) | inr w ↦ w.1 ]

    is_eight : when (not (kind_of (page_at image p) == raw_kind)) (SystemPage p) ≡ None → kind_of (page_at image p) ≡ raw_kind
    is_eight none = eqb-true (kind_of (page_at image p)) 8 (not_false (kind_of (page_at image p) == raw_kind) (not_when _ (SystemPage p) none))

-- page 0 of an open database is none, so no call goes on with it
pub no_header : (image : Image) (p : ℕ) → is_header (first_page image) ≡ true → not_raw image p ≡ None → p ≡ 0 → ⊥
no_header image p header none front =
    let kind : kind_of (page_at image 0) ≡ raw_kind = (is_raw image 0 (ap (λ (n : ℕ). not_raw image n) (sym front) ∙ none)).kind in
    absurd (omega (arith, kind, header-kind (page_at image 0) header))

-- what the short form of a page finds is whether its entry may be raised
pub put_cause : (b : Base) (p kind : ℕ) (payload : List ℕ) → first_cause (not_of_form (put p kind payload (drafted b.image)) ∷ no_room (put p kind payload (drafted b.image)) ∷ []) ≡ entry_cause b.image p
put_cause b p kind payload = by (entry_cause b.image p) refl
  where
    abbrev_draft : Draft
    abbrev_draft = put p kind payload (drafted b.image)

    by : (c : Cause) → entry_cause b.image p ≡ c → first_cause (not_of_form abbrev_draft ∷ no_room abbrev_draft ∷ []) ≡ entry_cause b.image p
    by None e = first_next (not_of_form abbrev_draft) _ (put_form b p kind payload e) ∙ first_next (no_room abbrev_draft) [] (put_room b p kind payload e) ∙ no_cause ∙ sym e
    by (Some r) e = first_here (not_of_form abbrev_draft) _ r (put_refused b p kind payload r e) ∙ sym e

-- the turn, by its causes
module _ (s : Seen) (p : ℕ) (text : List ℕ) where
  abbrev image : Image
  image = s.base.image

  abbrev draft : Draft
  draft = put p raw_kind (text_payload text) (drafted image)

  abbrev own : List Cause
  own = read_only image ∷ too_long text ∷ []

  pub write_untaken : (r : Refusal) → not_raw image p ≡ Some r → write_turn s p text ≡ says s (Refused r) []
  unfolding write_turn
  write_untaken r e = refused_by s (not_raw image p ∷ own) draft Done r (first_here (not_raw image p) own r e)

  module _ (raw : not_raw image p ≡ None) where
    pub write_checked : (r : Refusal) → first_cause own ≡ Some r → write_turn s p text ≡ says s (Refused r) []
    unfolding write_turn
    write_checked r e = refused_by s (not_raw image p ∷ own) draft Done r (first_next (not_raw image p) own raw ∙ e)

    -- then its SCN page alone refuses it
    pub write_is : first_cause own ≡ None → 0 < entries_in (image_size image) → write_turn s p text ≡ unless s (entry_cause image p) (says s Done (raise_strokes image p ++ raw_stroke image p text ∷ []))
    unfolding write_turn
    write_is free some =
        judged_by s (not_raw image p ∷ own) draft Done (first_next (not_raw image p) own raw ∙ free)
        ∙ ap (λ (c : Cause). unless s c (says s Done draft.strokes)) (put_cause s.base p 8 (text_payload text))
        ∙ unless_these s (entry_cause image p) Done draft.strokes _ (λ none. let is = is_raw image p raw in put_strokes s.base p 8 (text_payload text) is.low is.plain some none)

-- The text is written into a page that was read before its entry was raised.
pub write_tries : (result : Result (Unit {0}) Fault) (old mid new : World) (a b c : Held) (t : Trail) (p : ℕ) (text : List ℕ) (read : Page) → not_raw t.base.image p ≡ None
    → 0 < entries_in (image_size t.base.image) → Tries {T = Unit {0}} (Ok tt) old mid a b t (entry_cause t.base.image p) (raise_strokes t.base.image p)
    → read ≡ page_at t.base.image p → IfErr result IsNoRefusal → ((u : Trail) → IsOpen mid b u → read ≡ page_at u.base.image p → Makes result mid new b c u (raw_stroke u.base.image p text ∷ []))
    → ((u : Trail) → IsOpen mid b u → WhereMemory result (Stays mid new b c u)) → Tries result old new a c t (entry_cause t.base.image p) (raise_strokes t.base.image p ++ raw_stroke t.base.image p text ∷ [])
write_tries result old mid new a b c t p text read raw some first is never writes stays =
    then_page old mid a b t p (is_raw t.base.image p raw).plain some first result new c read (λ (x : Image). raw_stroke x p text) is (put_stroke-after t.base.image _ p 8 (text_payload text)) never writes stays

-- so the call does the turn, and where it answers Memory it has stopped before the last stroke
module _ (result : Result (Unit {0}) Fault) (old new : World) (a b : Held) (t : Trail) (s : Seen) (p : ℕ) (text : List ℕ) (same : t.base ≡ s.base) (raw : not_raw t.base.image p ≡ None)
    (free : first_cause (read_only t.base.image ∷ too_long text ∷ []) ≡ None) (some : 0 < entries_in (image_size t.base.image))
    (tries : Tries result old new a b t (entry_cause t.base.image p) (raise_strokes t.base.image p ++ raw_stroke t.base.image p text ∷ [])) where
  pub write_does : Does done result old new a b t (write_turn s p text)
  write_does =
      tries_does done result old new a b t s (λ (x : Seen). write_turn x p text) (entry_cause t.base.image p) Done refl (raise_strokes t.base.image p ++ raw_stroke t.base.image p text ∷ []) same
      (write_is (seeing s t.base) p text raw free some) (if_ok result (λ value. done value ≡ Done) (λ value. refl)) tries

  pub write_stops : WhereMemory result (StopsShort old new a b t (write_turn s p text).strokes)
  write_stops =
      tries_stops result old new a b t s (λ (x : Seen). write_turn x p text) (entry_cause t.base.image p) Done (raise_strokes t.base.image p ++ raw_stroke t.base.image p text ∷ []) same
      (write_is (seeing s t.base) p text raw free some) tries
