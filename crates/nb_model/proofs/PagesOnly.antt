-- Strokes that write pages and do nothing else: what they leave as it was, whatever stands in the image and in the pages.
use Rattle.std.proofs.Common.{◌≡◌, ◌≢◌, inl, inr, ℕ, zero, suc, ◌+◌, ◌<◌, ◌≤◌, List, [], ◌∷◌, ◌++◌, length, take, drop, refl, sym, ap, subst, ◌∙◌, arith, length-append, length-set, get_or-set_other, true, Option, Some, None}
use Rattle.nb_model.proofs.Common.{AllByRecursion, true≢false, leb_tells, get_or_append_left, take_at, length-take-le, number_in, is_header, is_header-take, number_in-take, Refusal, Reply, Statement, CreateDb, OpenDb, PageNew, Write, Free, Reclaim, CreateTable, DropTable, Insert, Update, Delete, Get, Scan, Forced, Access, ShowCache, Base, close_backup, Cause, Chain, Slot, Spot, Draft, drafted, wrote, written, Page, Image, page_at, first_page, image_size, image_state, image_scn, with_page, Backing, Seen, Outcome, unless, changes, new_turn, write_turn, free_turn, forced_turn, access_turn, byte_strokes, cache_turn, HasHeader, Stroke, page, merged_page, on_base, base_after, with_spot, in_table, in_row, create_turn, drop_turn, insert_turn, update_turn, delete_turn, get_turn, scan_turn, reclaim_turn, leaked, first_turn, is_on_pages}
use Rattle.nb_model.proofs.ToldTurns.{does_more, told_strokes, pages_cases}
use Rattle.nb_model.proofs.DraftLaws.{IsKept, put_keeps, set_bit_keeps, new_keeps, slot_keeps, at_keeps, place_keeps, given_keeps}
use Rattle.nb_model.proofs.FitLaws.{Stays, stays_still, stays_both}
use Rattle.nb_model.proofs.HeaderLaws.{header-long}
use Rattle.nb_model.proofs.MainLaws.{some_page}
use Rattle.nb_model.proofs.StrokeLaws.{with_page_same}

-- the stroke writes a page
abbrev pub IsPageStroke : Stroke → Type 0
IsPageStroke (page p bytes) = Unit {0}
IsPageStroke other = ⊥

abbrev pub ArePages : List Stroke → Type 0
ArePages ss = AllByRecursion IsPageStroke ss

pages_append : (xs ys : List Stroke) → ArePages xs → ArePages ys → ArePages (xs ++ ys)
pages_append [] ys a b = b
pages_append (x ∷ xs) ys a b = (a.0, pages_append xs ys a.1 b)

-- a page below the length stays where another is written, and the image gets no shorter
pub low_stays : (p q : ℕ) (bytes : Page) (image : Image) → q < length image → q ≢ p → page_at (with_page p bytes image) q ≡ page_at image q
unfolding with_page
low_stays p q bytes image low ne = elim (leb_tells (suc p) (length image)) [
  | inl w ↦ rw (w.0, with_page) (get_or-set_other image p q bytes [] ne)
  | inr w ↦ rw (w.0, with_page) (get_or_append_left image (bytes ∷ []) [] q low)
]

pub with_page_longer : (p : ℕ) (bytes : Page) (image : Image) → length image ≤ length (with_page p bytes image)
unfolding with_page
with_page_longer p bytes image = elim (leb_tells (suc p) (length image)) [
  | inl w ↦ rw (w.0, with_page) (omega (arith, length-set image p bytes))
  | inr w ↦ rw (w.0, with_page) (omega (arith, length-append image (bytes ∷ [])))
]

-- page 0 keeps its first 64 bytes, whichever page is written
pub front_stays : (image : Image) (p : ℕ) (bytes : Page) → is_header (first_page image) ≡ true → take 64 (first_page (with_page p (merged_page p bytes image) image)) ≡ take 64 (first_page image)
unfolding merged_page
front_stays image zero bytes header =
    let long : 64 ≤ length (first_page image) = header-long (first_page image) header in
    ap (take 64) (with_page_same 0 (take 64 (first_page image) ++ drop 64 bytes) image (omega arith))
    ∙ take_at (take 64 (first_page image)) (drop 64 bytes) 64 (length-take-le 64 (first_page image) long)
front_stays image (suc p) bytes header =
    let some : 1 ≤ length image = some_page image header in
    ap (take 64) (low_stays (suc p) 0 bytes image (omega (arith, some)) (omega arith))

-- what the first 64 bytes tell
module _ (a b : Page) (same : take 64 a ≡ take 64 b) where
  pub header_alike : is_header a ≡ is_header b
  header_alike = sym (is_header-take a) ∙ ap is_header same ∙ is_header-take b

  pub number_alike : (at w : ℕ) → at + w ≤ 64 → number_in at w a ≡ number_in at w b
  number_alike at w inside = sym (number_in-take 64 at w a inside) ∙ ap (number_in at w) same ∙ number_in-take 64 at w b inside

-- so they keep the header, the size of pages, the state and the SCN
module _ (image : Image) (p : ℕ) (bytes : Page) (h : HasHeader image) where
  abbrev new : Image
  new = with_page p (merged_page p bytes image) image

  number_stays : (at w : ℕ) → at + w ≤ 64 → number_in at w (first_page new) ≡ number_in at w (first_page image)
  number_stays = number_alike (first_page new) (first_page image) (front_stays image p bytes h.header)

  pub size_kept : image_size new ≡ image_size image
  size_kept = number_stays 24 4 (omega arith)

  pub state_kept : image_state new ≡ image_state image
  state_kept = number_stays 22 2 (omega arith)

  pub scn_kept : image_scn new ≡ image_scn image
  scn_kept = number_stays 28 4 (omega arith)

  pub header_kept : HasHeader new
  header_kept = record {
    header = header_alike (first_page new) (first_page image) (front_stays image p bytes h.header) ∙ h.header;
    scn = subst (λ (k : ℕ). k < 4294967296) (sym scn_kept) h.scn;
  }

-- What page strokes leave of a database as it was.
pub record StaysHeaded (old new : Base) : Type 0 where
  pub header : HasHeader new.image
  pub stays : Stays old new

one_stays : (b : Base) (p : ℕ) (bytes : Page) → HasHeader b.image → StaysHeaded b (on_base (page p bytes) b)
unfolding on_base
one_stays b p bytes h = record {
  header = header_kept b.image p bytes h;
  stays = record {
    size = size_kept b.image p bytes h;
    longer = with_page_longer p (merged_page p bytes b.image) b.image;
    state = state_kept b.image p bytes h;
    scn = scn_kept b.image p bytes h;
    frozen = refl;
  };
}

pub pages_stay : (ss : List Stroke) (b : Base) → ArePages ss → HasHeader b.image → StaysHeaded b (base_after b ss)
unfolding base_after
pages_stay [] b all h = record { header = h; stays = stays_still b }
pages_stay (page p bytes ∷ ss) b all h =
    let here : StaysHeaded b (on_base (page p bytes) b) = one_stays b p bytes h in
    let rest : StaysHeaded (on_base (page p bytes) b) (base_after (on_base (page p bytes) b) ss) = pages_stay ss (on_base (page p bytes) b) all.1 here.header in
    record { header = rest.header; stays = stays_both b (on_base (page p bytes) b) (base_after (on_base (page p bytes) b) ss) here.stays rest.stays }
pages_stay (other ∷ ss) b all h = absurd all.0

-- The forms write pages alone.
abbrev pub WritesPages : Draft → Type 0
WritesPages d = ArePages d.strokes

wrote_pages : (p : ℕ) (bytes : Page) (d : Draft) → WritesPages d → WritesPages (wrote p bytes d)
unfolding wrote
wrote_pages p bytes d h = pages_append d.strokes (page p bytes ∷ []) h (tt, tt)

written_pages : (p kind : ℕ) (payload : List ℕ) (d : Draft) → WritesPages d → WritesPages (written p kind payload d)
unfolding written
written_pages p kind payload d h = wrote_pages p _ d h

pub drafts_write_pages : IsKept WritesPages
drafts_write_pages = record { writes = written_pages; reads = λ broken d h. h; fills = λ d h. h }

-- So do the first turns of statements on pages.
abbrev Pages : Outcome → Type 0
Pages o = ArePages o.strokes

unless_pages : (s : Seen) (c : Cause) (o : Outcome) → Pages o → Pages (unless s c o)
unfolding unless
unless_pages s None o h = h
unless_pages s (Some r) o h = tt

changes_pages : (s : Seen) (cs : List Cause) (d : Draft) (reply : Reply) → WritesPages d → Pages (changes s cs d reply)
unfolding changes
changes_pages s cs d reply h = unless_pages s _ _ h

spot_pages : (s : Seen) (o : Option Spot) (r : Refusal) (go : Spot → Outcome) → ((spot : Spot) → Pages (go spot)) → Pages (with_spot s o r go)
unfolding with_spot
spot_pages s None r go h = tt
spot_pages s (Some spot) r go h = h spot

table_pages : (s : Seen) (before : Cause) (table : List ℕ) (behind : Cause) (go : Spot → Chain → Outcome) → ((spot : Spot) (chain : Chain) → Pages (go spot chain)) → Pages (in_table s before table behind go)
unfolding in_table
table_pages s before table behind go h = unless_pages s _ _ (spot_pages s _ _ _ (λ spot. unless_pages s _ _ (h spot _)))

row_pages : (s : Seen) (chain : Chain) (key : ℕ) (bytes : Slot) → Pages (in_row s chain key bytes)
unfolding in_row
row_pages s chain key bytes = spot_pages s _ _ _ (λ row. changes_pages s _ _ _ (slot_keeps WritesPages drafts_write_pages row.page row.slot bytes (drafted s.base.image) tt))

byte_pages : (at value : ℕ) (image : Image) → ArePages (byte_strokes at value image)
unfolding byte_strokes
byte_pages at value image = (tt, tt)

more_pages : (statement : Statement) → does_more statement ≡ true → (s : Seen) (session : ℕ) → ArePages (first_turn s session statement).strokes
unfolding first_turn reclaim_turn new_turn write_turn free_turn forced_turn access_turn cache_turn create_turn drop_turn insert_turn update_turn delete_turn get_turn scan_turn
more_pages (CreateDb name size raw cache) on s session = tt
more_pages (OpenDb name cache) on s session = tt
more_pages PageNew on s session = changes_pages s _ _ _ (new_keeps WritesPages drafts_write_pages _ 8 _ (drafted s.base.image) tt)
more_pages (Write p text) on s session = changes_pages s _ _ _ (put_keeps WritesPages drafts_write_pages p 8 _ (drafted s.base.image) tt)
more_pages (Free p) on s session = changes_pages s _ _ _ (set_bit_keeps WritesPages drafts_write_pages 1 p (drafted s.base.image) tt)
more_pages (Forced forced) on s session = unless_pages s _ _ (byte_pages 64 _ s.base.image)
more_pages (Access closed) on s session = unless_pages s _ _ (byte_pages 65 _ s.base.image)
more_pages ShowCache on s session = tt
more_pages Reclaim on s session = unless_pages s _ _ (given_keeps WritesPages drafts_write_pages (leaked s.base.image) (drafted s.base.image) tt)
more_pages (CreateTable table) on s session = changes_pages s _ _ _
    (at_keeps WritesPages drafts_write_pages _ _ _ _ _ (new_keeps WritesPages drafts_write_pages _ 5 _ (drafted s.base.image) tt))
more_pages (DropTable table) on s session = table_pages s _ table _ _ (λ spot chain. changes_pages s _ _ _
    (given_keeps WritesPages drafts_write_pages _ _ (slot_keeps WritesPages drafts_write_pages spot.page spot.slot _ (drafted s.base.image) tt)))
more_pages (Insert table key text) on s session = table_pages s _ table _ _ (λ spot chain. changes_pages s _ _ _ (place_keeps WritesPages drafts_write_pages chain _ _ (drafted s.base.image) tt))
more_pages (Update table key text) on s session = table_pages s _ table _ _ (λ spot chain. row_pages s chain key _)
more_pages (Delete table key) on s session = table_pages s _ table _ _ (λ spot chain. row_pages s chain key _)
more_pages (Get table key) on s session = table_pages s _ table _ _ (λ spot chain. spot_pages s _ _ _ (λ row. tt))
more_pages (Scan table) on s session = table_pages s _ table _ _ (λ spot chain. tt)
more_pages other on s session = absurd (true≢false (sym on))

pub pages_only : (statement : Statement) → is_on_pages statement ≡ true → (s : Seen) (session : ℕ) → ArePages (first_turn s session statement).strokes
pages_only = pages_cases (λ statement. (s : Seen) (session : ℕ) → ArePages (first_turn s session statement).strokes) (λ statement is s session. subst ArePages (sym (told_strokes statement is s session)) tt) more_pages

-- and the close of a backup
pub close_pages : (s : Seen) (b : Backing) → ArePages (close_backup s b).strokes
unfolding close_backup
close_pages s b = slot_keeps WritesPages drafts_write_pages b.page b.slot _ (drafted s.base.image) tt
