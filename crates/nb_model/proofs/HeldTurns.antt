-- A page of the history that is taken stays as it is, whatever statements on pages do.
use Rattle.std.proofs.Common.{◌≡◌, ◌≢◌, ℕ, ◌+◌, ◌/◌, ◌<◌, List, [], length, refl, sym, ap, subst, ◌∙◌, arith, true, false, Some, None}
use Rattle.nb_model.proofs.Common.{true≢false, kind_of, text_payload, bits_in, is_inventory_place, raw_kind, Statement, CreateDb, OpenDb, PageNew, Write, Free, CreateTable, DropTable, Insert, Update, Delete, Get, Scan, Forced, Access, Reclaim, ShowCache, Base, Cause, not_raw, Draft, drafted, put, give_page, new_page, Page, Image, page_at, image_size, IsNamed, Begins, Seen, Outcome, unless, changes, new_turn, write_turn, free_turn, forced_turn, access_turn, cache_turn, byte_strokes, IsSoundImage, HasHeader, Stroke, on_base, base_after, first_turn, is_on_pages}
use Rattle.nb_model.proofs.ToldTurns.{does_more, told_strokes, pages_cases}
use Rattle.nb_model.proofs.FitLaws.{IsWhole, Fits}
use Rattle.nb_model.proofs.BitSound.{give_fits}
use Rattle.nb_model.proofs.HeadSound.{byte_fits}
use Rattle.nb_model.proofs.NewSound.{new_raw_fits, empty_text}
use Rattle.nb_model.proofs.PutSound.{IsPlain, short_text, no_first, not_when, raw_facts, raw_plain, header_whole, text_fits}
use Rattle.nb_model.proofs.RoundLaws.{AnyPage, any_kinds}
use Rattle.nb_model.proofs.SoundLaws.{inventory_there, inventory_place_some}
use Rattle.nb_model.proofs.TableTurns.{create_keeps, drop_keeps, insert_keeps, update_keeps, delete_keeps, get_keeps, scan_keeps}
use Rattle.nb_model.proofs.HeldLaws.{IsHeld, IsOfHistory, held_write, held_put, held_bit, new_is_made}
use Rattle.nb_model.proofs.LeadLaws.{LeadsTo}
use Rattle.nb_model.proofs.LeakTurns.{reclaim_holds}

-- Each statement on pages keeps a page of the history that is held, and to which its links lead.
module _ (q : ℕ) (bytes : Page) (of_history : IsOfHistory bytes) where
  abbrev HoldsBehind : Base → List Stroke → Type 0
  HoldsBehind b ss = IsHeld q bytes (base_after b ss).image

  abbrev KeepsHeld : Statement → Type 0
  KeepsHeld statement = (s : Seen) (session : ℕ) → HasHeader s.base.image → IsSoundImage s.base.image → LeadsTo s.base.image q → IsHeld q bytes s.base.image → HoldsBehind s.base (first_turn s session statement).strokes

  none_behind : (b : Base) → IsHeld q bytes b.image → HoldsBehind b []
  unfolding base_after
  none_behind b held = held

  -- a turn that may be refused
  guarded : (s : Seen) (c : Cause) (o : Outcome) → IsHeld q bytes s.base.image → (c ≡ None → HoldsBehind s.base o.strokes) → HoldsBehind s.base (unless s c o).strokes
  unfolding unless
  guarded s None o held behind = behind refl
  guarded s (Some r) o held behind = none_behind s.base held

  -- a raw page isn't the one that is held
  raw_other : (image : Image) (p : ℕ) → not_raw image p ≡ None → IsHeld q bytes image → q ≢ p
  raw_other image p none held e = absurd (omega (arith, (raw_facts image p none).1, of_history.of_kind, ap kind_of (sym held.is ∙ ap (page_at image) e)))

  write_holds : (p : ℕ) (text : List ℕ) → KeepsHeld (Write p text)
  unfolding first_turn write_turn changes
  write_holds p text s session h is leads held = guarded s _ _ held (λ none.
      let raw = no_first _ _ none in
      let long = no_first _ _ (no_first _ _ raw.1).1 in
      let fits : Fits AnyPage s.base (put p raw_kind (text_payload text) (drafted s.base.image)) = text_fits AnyPage (λ page e. tt) (λ page e. tt) s.base p text h is raw.0 (short_text text long.0) in
      let plain : IsPlain s.base.image p = raw_plain s.base.image p h is raw.0 in
      subst (IsHeld q bytes) (sym fits.is.is)
      (held_put q bytes s.base.image (header_whole s.base.image h is) p 8 (text_payload text) plain.place (raw_other s.base.image p raw.0 held)
      (λ e. absurd (true≢false (sym (inventory_there (image_size s.base.image) (q / bits_in (image_size s.base.image)) (header_whole s.base.image h is).fields.size) ∙ ap (is_inventory_place (image_size s.base.image)) e ∙ plain.no_inventory))) held))

  free_holds : (p : ℕ) → KeepsHeld (Free p)
  unfolding first_turn free_turn changes
  free_holds p s session h is leads held = guarded s _ _ held (λ none.
      let raw = no_first _ _ none in
      let fits : Fits AnyPage s.base (give_page p (drafted s.base.image)) = give_fits AnyPage (λ page e. tt) (λ page e. tt) s.base p h is raw.0 in
      let plain : IsPlain s.base.image p = raw_plain s.base.image p h is raw.0 in
      let whole : IsWhole s.base.image = header_whole s.base.image h is in
      let first : p ≢ 1 = λ e. true≢false (sym (inventory_there (image_size s.base.image) 0 whole.fields.size) ∙ ap (is_inventory_place (image_size s.base.image)) (sym e) ∙ plain.no_inventory) in
      subst (IsHeld q bytes) (sym fits.is.is)
      (held_bit q bytes s.base.image whole 1 p (omega arith) (let some = plain.place.behind in omega (arith, some, first)) (raw_facts s.base.image p raw.0).0 (raw_other s.base.image p raw.0 held) held))

  new_holds : KeepsHeld PageNew
  unfolding first_turn new_turn changes
  new_holds s session h is leads held = guarded s _ _ held (λ none.
      let made : Draft × ℕ = new_page 8 (λ p. text_payload []) (drafted s.base.image) in
      let room = no_first _ _ (no_first _ _ (no_first _ _ (no_first _ _ none).1).1).1 in
      let full : made.0.full ≡ false = not_when made.0.full _ room.0 in
      let fits : Fits AnyPage s.base made.0 = new_raw_fits AnyPage any_kinds (λ page e. tt) s.base h is in
      subst (IsHeld q bytes) (sym fits.is.is)
      ((new_is_made (length s.base.image + 4) 8 (λ p. text_payload []) s.base.image (header_whole s.base.image h is) refl empty_text full).keeps q bytes held))

  byte_holds : (at value : ℕ) (b : Base) → HasHeader b.image → IsSoundImage b.image → at < 1024 → IsHeld q bytes b.image → HoldsBehind b (byte_strokes at value b.image)
  unfolding byte_strokes base_after on_base
  byte_holds at value b h is low held =
      let whole : IsWhole b.image = header_whole b.image h is in
      let fits = byte_fits AnyPage (λ page e. tt) b at value h is low in
      held_write q bytes b.image 0 _ whole fits.0.0 (λ e. absurd (let some = held.behind in omega (arith, some, e)))
      (λ e. absurd (let some = inventory_place_some (image_size b.image) (q / bits_in (image_size b.image)) whole.fields.size in omega (arith, some, e))) held

  more_holds : (statement : Statement) → does_more statement ≡ true → IsNamed (Begins statement) → KeepsHeld statement
  unfolding first_turn forced_turn access_turn cache_turn
  more_holds (CreateDb name size raw cache) on named s session h is leads held = none_behind s.base held
  more_holds (OpenDb name cache) on named s session h is leads held = none_behind s.base held
  more_holds PageNew on named s session h is leads held = new_holds s session h is leads held
  more_holds (Write p text) on named s session h is leads held = write_holds p text s session h is leads held
  more_holds (Free p) on named s session h is leads held = free_holds p s session h is leads held
  more_holds (Forced forced) on named s session h is leads held = guarded s _ _ held (λ none. byte_holds 64 _ s.base h is (omega arith) held)
  more_holds (Access closed) on named s session h is leads held = guarded s _ _ held (λ none. byte_holds 65 _ s.base h is (omega arith) held)
  more_holds Reclaim on named s session h is leads held = reclaim_holds s h is q bytes leads held
  more_holds ShowCache on named s session h is leads held = none_behind s.base held
  more_holds (CreateTable table) on named s session h is leads held = (create_keeps s h is table named).held q bytes of_history held
  more_holds (DropTable table) on named s session h is leads held = (drop_keeps s h is table).held q bytes of_history held
  more_holds (Insert table key text) on named s session h is leads held = (insert_keeps s h is table key text).held q bytes of_history held
  more_holds (Update table key text) on named s session h is leads held = (update_keeps s h is table key text).held q bytes of_history held
  more_holds (Delete table key) on named s session h is leads held = (delete_keeps s h is table key).held q bytes of_history held
  more_holds (Get table key) on named s session h is leads held = (get_keeps s h is table key).held q bytes of_history held
  more_holds (Scan table) on named s session h is leads held = (scan_keeps s h is table).held q bytes of_history held
  more_holds other on named s session h is leads held = absurd (true≢false (sym on))

  pub statement_holds : (statement : Statement) → is_on_pages statement ≡ true → IsNamed (Begins statement) → KeepsHeld statement
  statement_holds = pages_cases (λ statement. IsNamed (Begins statement) → KeepsHeld statement)
      (λ statement is named s session h sound leads held. subst (HoldsBehind s.base) (sym (told_strokes statement is s session)) (none_behind s.base held)) more_holds
