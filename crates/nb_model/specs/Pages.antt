-- Statements on raw pages, on the header, and on the backup state.
use Rattle.std.specs.Prelude.{ℕ, ◌+◌, Bool, List, [], ◌∷◌, ◌++◌, length, replicate, Some, None, true, false, ◌==◌}
use Rattle.std.specs.List.{flat_map}
use Rattle.sha2.specs.Sha256.{sha256}
use Rattle.nb_fields.specs.Bytes.{with_part}
use Rattle.nb_fields.specs.Payloads.{text_payload, text_of}
use Rattle.nb_fields.specs.States.{normal_state, stalled_state}
use Rattle.nb_fields.specs.Kinds.{raw_kind}
use Rattle.nb_host.specs.declared.refusals.Refusal.TheVariants.{WrongState}
use Rattle.nb_model.specs.declared.reply.Reply.{Reply}
use Rattle.nb_model.specs.declared.reply.Reply.TheVariants.{Done, PageMade, Value, Scn, Activated, HeaderShown, ImageShown, CacheShown}
use Rattle.nb_model.specs.Image.{Image, first_page, page_at, image_size, image_state, image_scn, image_guid, is_forced, is_read_only}
use Rattle.nb_model.specs.Account.{Base}
use Rattle.nb_model.specs.Strokes.{Stroke, page, begin, ends}
use Rattle.nb_model.specs.Lines.{flag}
use Rattle.nb_model.specs.Forms.{Draft, drafted, put, give_page, new_page}
use Rattle.nb_model.specs.Causes.{first_cause, when, read_only, not_state, no_scn, not_raw, no_text, too_long, too_short, runs_other}
use Rattle.nb_model.specs.Outcomes.{Merges, Finishes, Seen, Outcome, next_guid, next_hold, without_guid, without_hold, says, unless, changes}

-- `page new`: a raw page with the empty text
unfoldable pub new_turn : Seen → Outcome
new_turn s =
    let made : Draft × ℕ = new_page 8 (λ p. text_payload []) (drafted s.base.image) in
    changes s (read_only s.base.image ∷ too_short s.base.image ∷ []) made.0 (PageMade made.1)

-- `write N 'TEXT'`
unfoldable pub write_turn : Seen → ℕ → List ℕ → Outcome
write_turn s p text =
    changes s (not_raw s.base.image p ∷ read_only s.base.image ∷ too_long text ∷ []) (put p raw_kind (text_payload text) (drafted s.base.image)) Done

-- `read N`
unfoldable pub read_turn : Seen → ℕ → Outcome
read_turn s p =
    unless s (first_cause (not_raw s.base.image p ∷ no_text s.base.image p ∷ []))
    (says s (Value (text_of (page_at s.base.image p))) [])

-- `free N`: its bit says free, and the page stays as it is
unfoldable pub free_turn : Seen → ℕ → Outcome
free_turn s p = changes s (not_raw s.base.image p ∷ read_only s.base.image ∷ []) (give_page p (drafted s.base.image)) Done

-- `alter database begin backup`
unfoldable pub begin_turn : Seen → Outcome
begin_turn s =
    unless s (first_cause (read_only s.base.image ∷ not_state normal_state s.base.image ∷ no_scn s.base.image ∷ []))
    (record {
      strokes = begin (next_guid s.given) None ∷ [];
      reply = Some (Scn (image_scn s.base.image + 1));
      next = [];
      running = s.running;
      made = None;
      given = without_guid s.given;
    })

-- the stroke that ends the stalled state; a merge that was stopped goes on without one
unfoldable pub end_strokes : Image → List Stroke
end_strokes image = elim (image_state image == stalled_state) [ true ↦ ends ∷ [] | false ↦ [] ]

-- the SCN after it
unfoldable pub end_scn : Image → ℕ
end_scn image = elim (image_state image == stalled_state) [ true ↦ image_scn image + 1 | false ↦ image_scn image ]

-- The stalled state ends, and a turn is left for each page that was diverted, and one to finish. All of them are this session's.
unfoldable pub ends_by : Seen → (session : ℕ) → Reply → Outcome
ends_by s session reply = record {
  strokes = end_strokes s.base.image;
  reply = None;
  next = replicate (length s.base.diverted) Merges ++ Finishes reply ∷ [];
  running = Some session;
  made = None;
  given = s.given;
}

-- `alter database end backup`
unfoldable pub end_turn : Seen → (session : ℕ) → Outcome
end_turn s session =
    unless s (first_cause (when (image_state s.base.image == normal_state) (WrongState 0) ∷ runs_other s.running session ∷ []))
    (ends_by s session (Scn (end_scn s.base.image)))

-- how the database stands once its backup has ended
unfoldable pub activated : Base → Reply
activated b = Activated (length b.image) (end_scn b.image)

-- `activate`: a backup that is under way is ended, and where none is nothing is done
unfoldable pub activate_turn : Seen → (session : ℕ) → Outcome
activate_turn s session = elim (image_state s.base.image == normal_state) [
  | true ↦ says s (activated s.base) []
  | false ↦ unless s (runs_other s.running session) (ends_by s session (activated s.base))
]

-- page 0 with one byte changed
unfoldable pub byte_strokes : (at value : ℕ) → Image → List Stroke
byte_strokes at value image = page 0 (with_part at (value ∷ []) (first_page image)) ∷ []

-- `forced writes on`, `forced writes off`
unfoldable pub forced_turn : Seen → (on : Bool) → Outcome
forced_turn s on = unless s (read_only s.base.image) (says s Done (byte_strokes 64 (flag on) s.base.image))

-- `access read_only`, `access read_write`
unfoldable pub access_turn : Seen → (closed : Bool) → Outcome
access_turn s closed = unless s (not_state normal_state s.base.image) (says s Done (byte_strokes 65 (flag closed) s.base.image))

-- how many entries the difference file has
unfoldable pub delta_count : Base → ℕ
delta_count b = elim (image_state b.image == normal_state) [ true ↦ 0 | false ↦ length b.diverted ]

-- `show header`
unfoldable pub header_turn : Seen → Outcome
header_turn s =
    let image : Image = s.base.image in
    says s (HeaderShown (image_size image) (length image) (image_state image) (image_scn image) (image_guid image) (is_forced image) (flag (is_read_only image)) (delta_count s.base)) []

-- `show image`: the digest of all pages in order
unfoldable pub image_turn : Seen → Outcome
image_turn s = says s (ImageShown (length s.base.image) (sha256 (flat_map (λ p. p) s.base.image))) []

-- `show cache`
unfoldable pub cache_turn : Seen → Outcome
cache_turn s = record {
  strokes = [];
  reply = Some (CacheShown s.cache (next_hold s.given));
  next = [];
  running = s.running;
  made = None;
  given = without_hold s.given;
}
