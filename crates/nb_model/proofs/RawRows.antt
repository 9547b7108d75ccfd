-- Statements on raw pages and on a byte of the header change no row of a table.
use Rattle.std.proofs.Common.{◌≡◌, ◌≢◌, ℕ, ◌+◌, ◌/◌, ◌<◌, ◌≤◌, List, [], length, refl, sym, ap, ◌∙◌, arith, Bool, Some, None}
use Rattle.nb_model.proofs.Common.{AllByRecursion, true≢false, kind_of, text_payload, bits_in, is_inventory_place, data_kind, raw_kind, PageNew, Write, Free, Forced, Access, Base, Cause, not_raw, History, found_pages, Draft, drafted, put, new_page, Page, Image, page_at, image_size, Seen, Outcome, unless, changes, new_turn, write_turn, free_turn, forced_turn, access_turn, byte_strokes, KeepsRows, chains, pages_of_all, rows, IsNeat, HasHeader, IsSoundImage, Stroke, on_base, first_turn, all_go}
use Rattle.nb_model.proofs.Along.{Along, along_front, along_more}
use Rattle.nb_model.proofs.FitLaws.{IsWhole, AreFitting}
use Rattle.nb_model.proofs.HeadSound.{byte_fits}
use Rattle.nb_model.proofs.HeldAlong.{put_held_along, bit_held_along, new_held_along, these_along, longer_along, both_along}
use Rattle.nb_model.proofs.HeldChains.{IsHeldIn, chains_held, chain_each, these_stay}
use Rattle.nb_model.proofs.HeldLaws.{IsHeld, held_write}
use Rattle.nb_model.proofs.NeatLaws.{stays_neat, other_rows, no_catalogue_history}
use Rattle.nb_model.proofs.NewSound.{empty_text}
use Rattle.nb_model.proofs.NoRows.{HasNoRows}
use Rattle.nb_model.proofs.PagesFit.{pages_fit}
use Rattle.nb_model.proofs.PutSound.{IsPlain, header_whole, no_first, not_when, raw_facts, raw_plain}
use Rattle.nb_model.proofs.RoomLaws.{in_chain}
use Rattle.nb_model.proofs.RoundLaws.{AnyPage}
use Rattle.nb_model.proofs.SoundLaws.{inventory_there, inventory_place_some}

module _ (s : Seen) (header : HasHeader s.base.image) (is : IsSoundImage s.base.image) (neat : IsNeat s.base.image) where
  abbrev b : Base
  b = s.base

  abbrev x : Image
  x = s.base.image

  whole : IsWhole x
  whole = header_whole x header is

  -- a data page
  abbrev IsData : ℕ → Type 0
  IsData q = kind_of (page_at x q) ≡ data_kind

  all_data : AllByRecursion IsData (pages_of_all x (chains x))
  all_data = chain_each x IsData (chains x)
      (all_go (λ c. AllByRecursion (IsHeldIn c x) (found_pages c x)) (λ c. AllByRecursion IsData (found_pages c x)) (chains x) (λ c held. all_go (IsHeldIn c x) IsData (found_pages c x) (λ q at. (in_chain c x q at.in_it).1) held) (chains_held x header is neat))

  -- strokes along which each data page that is held stays
  KeepsData : List Stroke → Type 0
  KeepsData ss = (q : ℕ) (bytes : Page) → IsData q → IsHeld q bytes x → Along (IsHeld q bytes) b ss

  data_rows : (K : Page → Type 0) (ss : List Stroke) → AreFitting K b ss → KeepsData ss → KeepsRows b ss
  unfolding KeepsData
  data_rows K ss fits keeps = record { neat = λ k. (along_front (λ z. IsNeat z × ((table : List ℕ) → rows z table ≡ rows x table)) b ss all k).0; rows = λ k table. (along_front (λ z. IsNeat z × ((table : List ℕ) → rows z table ≡ rows x table)) b ss all k).1 table }
    where
      good : (z : Image) → ((q : ℕ) (bytes : Page) → IsData q → IsHeld q bytes x → IsHeld q bytes z) → length x ≤ length z → IsNeat z × ((table : List ℕ) → rows z table ≡ rows x table)
      good z held longer =
          let still = these_stay x header is neat z longer IsData all_data held in
          (stays_neat x z neat History no_catalogue_history still (λ first e. cc), λ table. other_rows x z neat History no_catalogue_history still table (λ u found e. cc))

      all : Along (λ z. IsNeat z × ((table : List ℕ) → rows z table ≡ rows x table)) b ss
      all = along_more (λ z. ((q : ℕ) (bytes : Page) → IsData q → IsHeld q bytes x → IsHeld q bytes z) × (length x ≤ length z)) (λ z. IsNeat z × ((table : List ℕ) → rows z table ≡ rows x table)) b ss (λ z facts. good z facts.0 facts.1)
          (both_along _ _ b ss (these_along IsData x b ss keeps) (longer_along K (length x) b ss fits whole (omega arith)))

  none_data : KeepsData []
  unfolding KeepsData
  none_data q bytes five held = held

  guarded_data : (c : Cause) (o : Outcome) → (c ≡ None → KeepsData o.strokes) → KeepsData (unless s c o).strokes
  unfolding unless
  guarded_data None o keeps = keeps refl
  guarded_data (Some r) o keeps = none_data

  -- a raw page is no data page
  raw_other : (p q : ℕ) → not_raw x p ≡ None → IsData q → q ≢ p
  raw_other p q none five e = absurd (omega (arith, (raw_facts x p none).1, five, ap (λ (n : ℕ). kind_of (page_at x n)) e))

  raw_put : (p : ℕ) (text : List ℕ) → not_raw x p ≡ None → KeepsData (put p raw_kind (text_payload text) (drafted x)).strokes
  unfolding KeepsData
  raw_put p text raw q bytes five held =
      let plain : IsPlain x p = raw_plain x p header is raw in
      put_held_along q bytes b x whole p 8 (text_payload text) refl plain.place (raw_other p q raw five)
      (λ e. absurd (true≢false (sym (inventory_there (image_size x) (q / bits_in (image_size x)) whole.fields.size) ∙ ap (is_inventory_place (image_size x)) e ∙ plain.no_inventory))) held

  write_data : (session p : ℕ) (text : List ℕ) → KeepsData (first_turn s session (Write p text)).strokes
  unfolding first_turn write_turn changes
  write_data session p text = guarded_data _ _ (λ none. raw_put p text (no_first _ _ none).0)

  free_data : (session p : ℕ) → KeepsData (first_turn s session (Free p)).strokes
  unfolding first_turn free_turn changes KeepsData
  free_data session p = guarded_data _ _ (λ none q bytes five held.
      let raw = (no_first _ _ none).0 in
      let plain : IsPlain x p = raw_plain x p header is raw in
      let first : p ≢ 1 = λ e. true≢false (sym (inventory_there (image_size x) 0 whole.fields.size) ∙ ap (is_inventory_place (image_size x)) (sym e) ∙ plain.no_inventory) in
      bit_held_along q bytes b x whole 1 p refl (omega arith) (let some = plain.place.behind in omega (arith, some, first)) (raw_facts x p raw).0 (raw_other p q raw five) held)

  new_data : (session : ℕ) → KeepsData (first_turn s session PageNew).strokes
  unfolding first_turn new_turn changes KeepsData
  new_data session = guarded_data _ _ (λ none q bytes five held.
      let made : Draft × ℕ = new_page 8 (λ p. text_payload []) (drafted x) in
      let room = no_first _ _ (no_first _ _ (no_first _ _ (no_first _ _ none).1).1).1 in
      new_held_along q bytes (length x + 4) 8 (λ p. text_payload []) b x refl whole refl empty_text (not_when made.0.full _ room.0) held)

  byte_data : (at value : ℕ) → at < 1024 → KeepsData (byte_strokes at value x)
  unfolding byte_strokes on_base KeepsData
  byte_data at value low q bytes five held =
      let fits = byte_fits AnyPage (λ page e. tt) b at value header is low in (
        held,
        held_write q bytes x 0 _ whole fits.0.0 (λ e. absurd (let some = held.behind in omega (arith, some, e)))
            (λ e. absurd (let some = inventory_place_some (image_size x) (q / bits_in (image_size x)) whole.fields.size in omega (arith, some, e))) held,
      )

  forced_data : (session : ℕ) (on : Bool) → KeepsData (first_turn s session (Forced on)).strokes
  unfolding first_turn forced_turn
  forced_data session on = guarded_data _ _ (λ none. byte_data 64 _ (omega arith))

  access_data : (session : ℕ) (closed : Bool) → KeepsData (first_turn s session (Access closed)).strokes
  unfolding first_turn access_turn
  access_data session closed = guarded_data _ _ (λ none. byte_data 65 _ (omega arith))

  pub new_rows : (session : ℕ) → KeepsRows b (first_turn s session PageNew).strokes
  new_rows session = data_rows HasNoRows _ (pages_fit PageNew refl tt s session header is) (new_data session)

  pub write_rows : (session p : ℕ) (text : List ℕ) → KeepsRows b (first_turn s session (Write p text)).strokes
  write_rows session p text = data_rows HasNoRows _ (pages_fit (Write p text) refl tt s session header is) (write_data session p text)

  pub free_rows : (session p : ℕ) → KeepsRows b (first_turn s session (Free p)).strokes
  free_rows session p = data_rows HasNoRows _ (pages_fit (Free p) refl tt s session header is) (free_data session p)

  pub forced_rows : (session : ℕ) (on : Bool) → KeepsRows b (first_turn s session (Forced on)).strokes
  forced_rows session on = data_rows HasNoRows _ (pages_fit (Forced on) refl tt s session header is) (forced_data session on)

  pub access_rows : (session : ℕ) (closed : Bool) → KeepsRows b (first_turn s session (Access closed)).strokes
  access_rows session closed = data_rows HasNoRows _ (pages_fit (Access closed) refl tt s session header is) (access_data session closed)
