-- What `clap` finds in the words, and what it refuses, is what the definition reads.
use Rattle.std.proofs.Common.{map, string_bytes, String, nat_lt, ◌≡◌, ◌∙◌, ◌<◌, ◌≤◌, ℕ, ◌==◌, Bool, true, false, List, [], ◌∷◌, length, fold, Option, Some, None, is_some, IsUtf8, refl, ap, sym, subst, inl, inr, codes, append-nil, arith}
use Rattle.nb_words.proofs.Common.{IsUtf8-string_bytes, list_all, AllByRecursion, or_cases, eqb-true, and_parts, ltb-true, usize_max, App, Row, Text, Kinds, built, fault_of, matches_of, or_else, HasKind, IsAmong, rows_of, found_of, Error, ArgMatches, length-map, Shape, names_of, entered, argument_words, Walk, walk_from, nothing_held, settled, finished, with_default, rows_after, built_fault, entered_fault, walk_fault, settle_fault, defaults_fault, check_fault, clap_on_literals, Read, read_words, line, words_in, Shows, Holds}
use Rattle.clap.specs.Values.{kind_of}
use Rattle.clap.specs.declared.error.kind.ErrorKind.TheVariants as kind
use Rattle.nb_words.proofs.Rules.{rules_for, is_in}
use Rattle.nb_words.proofs.UseLaws.{Seen, held, after_waiting, settled_is, seen_settled, waiting_pass, no_else}
use Rattle.nb_words.proofs.Steps.{stand, shape}
use Rattle.nb_words.proofs.Looks.{all_in}
use Rattle.nb_words.proofs.Walks.{Walked, Refuses, Comes, walk_comes, waiting_fits}
use Rattle.nb_words.proofs.Defined.{AtMost, no_more}
use Rattle.nb_words.proofs.Ends.{counts_kept, all_words_kept, defaults_pass, check_passes}

-- ---- the command line, built

abbrev pub letters : List ℕ
letters = codes "BRLSNFI"

-- a command of these flags without subcommands
abbrev pub app : List ℕ → Shape → App
app ls s = record { top = shape ls s; subs = [] }

abbrev pub top : Shape
top = (built line).top

line_built : built line ≡ app letters top
unfolding line clap_on_literals
line_built = refl

all_are_words : (words : List Text) → argument_words line words ≡ words
unfolding line clap_on_literals
all_are_words words = refl

asks_for_nothing : (top.arg_required_else_help ≡ false) × (top.subcommand_required ≡ false)
unfolding line clap_on_literals
asks_for_nothing = (refl, refl)

pub fault_is : (words : List Text) → fault_of line words ≡ built_fault (app letters top) nothing_held words
fault_is words = ap (λ (a : App). built_fault a nothing_held (argument_words line words)) line_built ∙ ap (λ (ws : List Text). built_fault (app letters top) nothing_held ws) (all_are_words words)

pub matches_are : (words : List Text) → matches_of line words ≡ rows_after (rules_for letters) [] words
matches_are words = ap (λ (a : App). rows_after a.top.rules (names_of a) (argument_words line words)) line_built ∙ ap (λ (ws : List Text). rows_after (rules_for letters) [] ws) (all_are_words words)

-- ---- after the walk

-- what may still be refused where the walk has ended
abbrev pub rest_fault : List ℕ → Shape → Walk → Kinds
rest_fault ls s w = or_else (entered_fault (app ls s) w.stopped) (or_else (settle_fault (rules_for ls) s.args_override_self w.held)
    (or_else (defaults_fault (settled (rules_for ls) w.held).rows (rules_for ls)) (check_fault (shape ls s) (finished (rules_for ls) w.held) (is_some (entered (app ls s) w.stopped)))))

walk_refused : (ls : List ℕ) (s : Shape) (words : List Text) → Refuses ls s (stand false false [] None) words → built_fault (app ls s) nothing_held words ≡ [] → ⊥
walk_refused ls s words refuses h = refuses (first_free (walk_fault (shape ls s) [] (walk_from nothing_held) words) _ h) where
  first_free : (a b : Kinds) → or_else a b ≡ [] → a ≡ []
  first_free [] b e = refl
  first_free (k ∷ ks) b e = e

module _ (ls : List ℕ) (s : Shape) (help : s.arg_required_else_help ≡ false) (sub : s.subcommand_required ≡ false) where
  rest_passes : (is_trailing late : Bool) (rows : List Row) (waiting : Option (List Text)) (flags : List ℕ) (plain : List Text) → Seen rows waiting flags plain → length plain ≤ usize_max → rest_fault ls s (stand is_trailing late rows waiting) ≡ []
  rest_passes is_trailing late rows waiting flags plain seen le =
      no_else (settle_fault (rules_for ls) s.args_override_self (held rows waiting)) _ (waiting_pass ls s.args_override_self waiting rows (waiting_fits rows waiting flags plain 0 seen (omega (arith, le))))
      (no_else (defaults_fault (settled (rules_for ls) (held rows waiting)).rows (rules_for ls)) _ (defaults_pass ls (settled (rules_for ls) (held rows waiting)).rows)
      (check_passes ls s (finished (rules_for ls) (held rows waiting)) help sub))

  walk_taken : (words : List Text) (flags : List ℕ) (plain : List Text) → Walked ls s (stand false false [] None) words flags plain → length plain ≤ usize_max → built_fault (app ls s) nothing_held words ≡ []
  walk_taken words flags plain w le =
      no_else (walk_fault (shape ls s) [] (walk_from nothing_held) words) _ w.fault
      (ap (rest_fault ls s) w.end ∙ rest_passes w.is_trailing w.late w.rows w.waiting flags plain w.seen le)

shows_at : (ls : List ℕ) (rows : List Row) (read : Read) → Seen rows None read.flags read.plain → Shows (fold with_default rows (rules_for ls)) read
shows_at ls rows read seen = record {
  flags = λ x. counts_kept ls x rows ∙ seen.counts x;
  plain = all_words_kept ls rows ∙ sym (append-nil (words_in rows)) ∙ seen.words;
}

walk_shows : (ls : List ℕ) (s : Shape) (words : List Text) (read : Read) → Walked ls s (stand false false [] None) words read.flags read.plain → Shows (rows_after (rules_for ls) [] words) read
walk_shows ls s words read w =
    subst (λ (r : List Row). Shows r read) (sym (ap (λ (u : Walk). finished (rules_for ls) u.held) w.end ∙ ap (λ (r : List Row). fold with_default r (rules_for ls)) (settled_is ls w.waiting w.rows)))
    (shows_at ls (after_waiting w.waiting w.rows) read (seen_settled w.waiting w.rows read.flags read.plain w.seen))

-- ---- the whole

nothing_seen : Seen [] None [] []
nothing_seen = record { counts = λ x. refl; words = refl }

is_ascii : (ls : List ℕ) → list_all (λ y. nat_lt y 128) ls ≡ true → (x : ℕ) → is_in x ls ≡ true → x < 128
is_ascii [] all x h = absurd (cc)
is_ascii (y ∷ ys) all x h =
    let parts = and_parts (nat_lt y 128) (list_all (λ z. nat_lt z 128) ys) all in
    elim (or_cases (y == x) (is_in x ys) h) [
      | inl e ↦ subst (λ (n : ℕ). n < 128) (eqb-true y x e) (ltb-true y 128 parts.0)
      | inr f ↦ is_ascii ys parts.1 x f
    ]

comes : (words : List Text) → AllByRecursion IsUtf8 words → length words ≤ usize_max → Comes letters top (stand false false [] None) words [] [] (read_words words)
comes words texts le = walk_comes letters top (is_ascii letters refl) refl all_in words false [] None [] [] texts nothing_seen (omega (arith, le))

-- where the definition reads nothing, `clap` refuses; where it reads flags and plain words, `clap` takes the words and finds them
abbrev pub Agrees : List Text → Option Read → Type 0
Agrees words None = fault_of line words ≡ [] → ⊥
Agrees words (Some read) = (fault_of line words ≡ []) × Shows (matches_of line words) read

agrees_by : (words : List Text) (o : Option Read) → ((r : Read) → o ≡ Some r → length r.plain ≤ usize_max) → Comes letters top (stand false false [] None) words [] [] o → Agrees words o
agrees_by words None le c = λ h. walk_refused letters top words c (sym (fault_is words) ∙ h)
agrees_by words (Some r) le c = (
  fault_is words ∙ walk_taken letters top asks_for_nothing.0 asks_for_nothing.1 words r.flags r.plain c (le r refl),
  subst (λ (rows : List Row). Shows rows r) (sym (matches_are words)) (walk_shows letters top words r c),
)

at_some : (n : ℕ) (o : Option Read) (r : Read) → o ≡ Some r → AtMost n o → length r.plain ≤ n
at_some n o r e few = subst (AtMost n) e few

pub agrees : (words : List Text) → AllByRecursion IsUtf8 words → length words ≤ usize_max → Agrees words (read_words words)
agrees words texts le = agrees_by words (read_words words) (λ r e. let few = at_some (length words) (read_words words) r e (no_more words) in omega (arith, few, le)) (comes words texts le)

-- ---- of what a call of `clap` answers

pub all_texts : {Z : Type 0} (words : List (String Z)) → AllByRecursion IsUtf8 (map string_bytes words)
all_texts [] = tt
all_texts (w ∷ ws) = (IsUtf8-string_bytes w, all_texts ws)

holds_by : (words : List Text) (m : ArgMatches) (o : Option Read) → read_words words ≡ o → Agrees words o → fault_of line words ≡ [] → rows_of (found_of m) ≡ matches_of line words → Holds words m
holds_by words m None e agreed free same = absurd (agreed free)
holds_by words m (Some r) e agreed free same = record { read = r; gives = e; shows = subst (λ (rows : List Row). Shows rows r) (sym same) agreed.1 }

-- at Ok
pub holds : {Z : Type 0} (words : List (String Z)) (m : ArgMatches) → length words ≤ usize_max → fault_of line (map string_bytes words) ≡ [] → rows_of (found_of m) ≡ matches_of line (map string_bytes words) → Holds (map string_bytes words) m
holds words m le free same =
    let count = length-map words string_bytes in
    let texts = map string_bytes words in
    holds_by texts m (read_words texts) refl (agrees texts (all_texts words) (omega (arith, count, le))) free same

none_by : (words : List Text) (e : Error) (o : Option Read) → read_words words ≡ o → Agrees words o → HasKind (fault_of line words) e → (kind_of e ≡ kind.OutOfMemory → ⊥) → read_words words ≡ None
none_by words e None is agreed has other = is
none_by words e (Some r) is agreed has other = elim has [
  | inl memory ↦ absurd (other memory)
  | inr among ↦ absurd (subst (λ (k : Kinds). IsAmong (kind_of e) k) agreed.0 among)
]

-- at Err, where it isn't for want of memory
pub none : {Z : Type 0} (words : List (String Z)) (e : Error) → length words ≤ usize_max → HasKind (fault_of line (map string_bytes words)) e → (kind_of e ≡ kind.OutOfMemory → ⊥) → read_words (map string_bytes words) ≡ None
none words e le has other =
    let count = length-map words string_bytes in
    let texts = map string_bytes words in
    none_by texts e (read_words texts) refl (agrees texts (all_texts words) (omega (arith, count, le))) has other
