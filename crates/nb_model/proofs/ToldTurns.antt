-- Statements that only tell something of the database: what the first turn of each is, told once for all laws over statements.
use Rattle.std.proofs.Common.{◌≡◌, ℕ, [], refl, sym, ap, ◌∙◌, Bool, true, false, not, ◌&&◌, Some, None}
use Rattle.nb_model.proofs.Common.{true≢false, Reply, Statement, Read, Sync, Check, ShowHeader, ShowPages, ShowImage, Cause, Seen, Outcome, says, unless, read_turn, header_turn, image_turn, all_needed, pages_turn, check_turn, first_turn, is_on_pages}
use Rattle.nb_model.proofs.StatusLaws.{is_refusal}
use Rattle.nb_model.proofs.UsageCauses.{IsOther, none_other, other_first, other_when, other_broken, other_raw, other_check}

-- It says something and makes no stroke, or is refused where there is a cause, and not as words that name no job.
pub record Tells (s : Seen) (o : Outcome) : Type 0 where
  pub cause : Cause
  pub reply : Reply
  pub is : o ≡ unless s cause (says s reply [])
  pub other : IsOther cause
  pub told : is_refusal reply ≡ false

tells_unless : (s : Seen) (cause : Cause) (reply : Reply) → IsOther cause → is_refusal reply ≡ false → Tells s (unless s cause (says s reply []))
tells_unless s cause reply other told = record { cause = cause; reply = reply; is = refl; other = other; told = told }

tells_always : (s : Seen) (reply : Reply) → is_refusal reply ≡ false → Tells s (says s reply [])
unfolding unless
tells_always s reply told = record { cause = None; reply = reply; is = refl; other = none_other; told = told }

-- the statements that do
abbrev pub is_told : Statement → Bool
is_told (Read p) = true
is_told Sync = true
is_told Check = true
is_told ShowHeader = true
is_told ShowPages = true
is_told ShowImage = true
is_told other = false

pub told_turn : (statement : Statement) → is_told statement ≡ true → (s : Seen) (session : ℕ) → Tells s (first_turn s session statement)
unfolding first_turn read_turn check_turn header_turn pages_turn image_turn
told_turn (Read p) is s session = tells_unless s _ _ (other_first _ (other_raw s.base.image p, (other_when _ _ (λ e. cc), tt))) refl
told_turn Sync is s session = tells_always s _ refl
told_turn Check is s session = tells_unless s _ _ (other_check s.base.image) refl
told_turn ShowHeader is s session = tells_always s _ refl
told_turn ShowPages is s session = tells_unless s _ _ (other_broken (all_needed s.base.image).broken) refl
told_turn ShowImage is s session = tells_always s _ refl
told_turn other is s session = absurd (true≢false (sym is))

no_strokes : (s : Seen) (cause : Cause) (reply : Reply) → (unless s cause (says s reply [])).strokes ≡ []
unfolding unless
no_strokes s None reply = refl
no_strokes s (Some refusal) reply = refl

-- none of them makes a stroke
pub told_strokes : (statement : Statement) → is_told statement ≡ true → (s : Seen) (session : ℕ) → (first_turn s session statement).strokes ≡ []
told_strokes statement is s session =
    let tells = told_turn statement is s session in
    ap (λ (o : Outcome). o.strokes) tells.is ∙ no_strokes s tells.cause tells.reply

-- a statement on pages that does more
abbrev pub does_more : Statement → Bool
does_more statement = is_on_pages statement && not (is_told statement)

-- So what holds of a statement on pages is proved of those that do more, and once of all others.
pub pages_cases : (P : Statement → Type 0) → ((statement : Statement) → is_told statement ≡ true → P statement) → ((statement : Statement) → does_more statement ≡ true → P statement)
    → (statement : Statement) → is_on_pages statement ≡ true → P statement
pages_cases P told more statement on = by (is_told statement) refl
  where
    by : (b : Bool) → is_told statement ≡ b → P statement
    by true is = told statement is
    by false is = more statement (ap (λ (x : Bool). x && not (is_told statement)) on ∙ ap not is)
