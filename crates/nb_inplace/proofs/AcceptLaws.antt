-- What the tests of a standby and of a level file say of their merge, one after another.
use Rattle.std.proofs.Common.{◌≡◌, ℕ, ◌-◌, List, [], ◌∷◌, drop, refl, sym, ap, ◌∙◌, Bool, true, false, not, ◌||◌, ◌==◌, IsTrue, Some, None, Ok, Err}
use Rattle.nb_inplace.proofs.Common.{eqb-true, state_of, applying_state, File, Files, same_name, Fault, Refused, Device, Memory, Refusal, NoFile, BadLevel, Unfinished, ChainGuid, ChainSize, ChainScn, Access, header_in, Header, Cause, first_cause, when, Page, image_in, is_read_only, written_since, other_pages, not_next, not_finishing, not_mergeable, not_standby, in_place, Contents, with_head, read_level, StartSays, head_of, Reading, still_to_come, LevelHead, with_head-is, TestedByReads, AcceptSays, IsReaderOf, IsStandby, not_the_same, not_behind, head_cause, stamp_cause, Standby, some_none, some_same}
use Rattle.nb_chain.specs.Level.{WholeSays, LevelRefused}
use Rattle.nb_inplace.proofs.StandbyLaws.{not_there}
use Rattle.nb_inplace.proofs.VerdictLaws.{by_state, mergeable_by, unfit, no_level, bad_level, answered, verdict_by}

-- four tests, and a fifth after them
abbrev firsts : (a b c d : Cause) → Cause
firsts a b c d = first_cause (a ∷ b ∷ c ∷ d ∷ [])

abbrev all_tests : (a b c d e : Cause) → Cause
all_tests a b c d e = first_cause (a ∷ b ∷ c ∷ d ∷ e ∷ [])

first_of : (a b c d e : Cause) (r : Refusal) → firsts a b c d ≡ Some r → all_tests a b c d e ≡ Some r
unfolding first_cause
first_of (Some x) b c d e r h = h
first_of None (Some x) c d e r h = h
first_of None None (Some x) d e r h = h
first_of None None None (Some x) e r h = h
first_of None None None None e r h = absurd (some_none r (sym h))

last_of : (a b c d e : Cause) → firsts a b c d ≡ None → all_tests a b c d e ≡ e
unfolding first_cause
last_of (Some x) b c d e h = absurd (some_none x h)
last_of None (Some x) c d e h = absurd (some_none x h)
last_of None None (Some x) d e h = absurd (some_none x h)
last_of None None None (Some x) e h = absurd (some_none x h)
last_of None None None None (Some x) h = refl
last_of None None None None None h = refl

module _ (name : List ℕ) (c : Contents) where
  abbrev size_cause : (size : ℕ) → Cause
  size_cause size = when (not (c.head.size == size)) (ChainSize name c.head.size size)

  abbrev finish_cause : Header → Cause
  finish_cause h = first_cause (when (not (same_name h.pending c.head.guid) || not (same_name h.guid c.head.previous)) Unfinished ∷ size_cause h.page_size ∷ [])

  abbrev next_cause : Header → (read_only : Bool) → Cause
  next_cause h read_only =
      firsts (when (not (same_name c.head.previous h.guid)) (ChainGuid name c.head.previous h.guid)) (size_cause h.page_size)
      (when (not (c.head.previous_scn == h.scn - 1)) (ChainScn name c.head.previous_scn (h.scn - 1))) (when (not read_only) (Access 0))

  module _ (bytes : List ℕ) where
    -- in the applying state
    applying_cause : state_of bytes ≡ applying_state → not_mergeable bytes name c ≡ finish_cause (header_in bytes)
    unfolding header_in not_finishing
    applying_cause is = mergeable_by bytes name c ∙ ap (λ (n : ℕ). by_state (n == 3) bytes name c) is

    -- and in another
    abbrev written : Cause
    written = written_since name c.head.previous_scn (other_pages (image_in bytes))

    abbrev behind_cause : Header → (read_only : Bool) → Cause
    behind_cause h read_only =
        all_tests (when (not (same_name c.head.previous h.guid)) (ChainGuid name c.head.previous h.guid)) (size_cause h.page_size)
        (when (not (c.head.previous_scn == h.scn - 1)) (ChainScn name c.head.previous_scn (h.scn - 1))) (when (not read_only) (Access 0)) written

    normal_cause : (state_of bytes == applying_state) ≡ false → not_mergeable bytes name c ≡ behind_cause (header_in bytes) (is_read_only (image_in bytes))
    unfolding header_in not_next
    normal_cause is = mergeable_by bytes name c ∙ ap (λ (t : Bool). by_state t bytes name c) is

    module _ (s : Standby) (is : IsStandby bytes s) where
      abbrev by_begun : Bool → Cause
      by_begun begun = elim begun [ true ↦ not_the_same s name c | false ↦ not_behind s name c ]

      its_same : not_the_same s name c ≡ finish_cause (header_in bytes)
      its_same = ap finish_cause is.header

      its_behind : not_behind s name c ≡ next_cause (header_in bytes) (is_read_only (image_in bytes))
      its_behind = ap (λ (h : Header). next_cause h s.is_read_only) is.header ∙ ap (next_cause (header_in bytes)) is.read_only

      -- what the head says against the merge is against it
      pub head_refuses : (r : Refusal) → head_cause s name c ≡ Some r → not_mergeable bytes name c ≡ Some r
      head_refuses r = by s.is_begun (sym is.begun)
        where
          by : (begun : Bool) → (state_of bytes == applying_state) ≡ begun → by_begun begun ≡ Some r → not_mergeable bytes name c ≡ Some r
          by true three h = applying_cause (eqb-true (state_of bytes) 3 three) ∙ sym its_same ∙ h
          by false other h = normal_cause other ∙ first_of _ _ _ _ written r (sym its_behind ∙ h)

      -- and where it says nothing the stamps decide
      pub head_clears : (ps : List Page) → written_since name c.head.previous_scn (drop 1 ps) ≡ written → head_cause s name c ≡ None → not_mergeable bytes name c ≡ stamp_cause s name c.head.previous_scn ps
      head_clears ps same = by s.is_begun (sym is.begun)
        where
          by : (begun : Bool) → (state_of bytes == applying_state) ≡ begun → by_begun begun ≡ None → not_mergeable bytes name c ≡ elim begun as (λ t. Cause) [ true ↦ None | false ↦ written_since name c.head.previous_scn (drop 1 ps) ]
          by true three h = applying_cause (eqb-true (state_of bytes) 3 three) ∙ sym its_same ∙ h
          by false other h = normal_cause other ∙ last_of _ _ _ _ written (sym its_behind ∙ h) ∙ sym same

-- The tests of the files, one after another: of the standby,
pub standby_fails : (files : Files) (standby name : List ℕ) (fault : Fault) → TestedByReads {T = Standby} (Err fault) (not_standby standby (files standby)) → AcceptSays files standby name (Err fault)
standby_fails files standby name (Refused r) says = unfit files standby name r says
standby_fails files standby name Device says = tt
standby_fails files standby name Memory says = absurd says

-- which is there,
pub standby_there : (files : Files) (standby : List ℕ) → not_standby standby (files standby) ≡ None → (bytes : List ℕ) × (files standby ≡ Some bytes)
standby_there files standby fit = by (files standby) refl
  where
    by : (file : File) → files standby ≡ file → (bytes : List ℕ) × (files standby ≡ Some bytes)
    by None is = absurd (some_none (NoFile standby) (sym (not_there standby None None refl refl) ∙ ap (not_standby standby) (sym is) ∙ fit))
    by (Some bytes) is = (bytes, is)

-- of the level file,
module _ (files now : Files) (standby name : List ℕ) (fit : not_standby standby (files standby) ≡ None) (same : now name ≡ files name) where
  pub reader_fails : (tells : Bool) → IsTrue tells → (fault : Fault) → StartSays tells (now name) name (Err fault) → AcceptSays files standby name (Err fault)
  reader_fails tells told (Refused (BadLevel broken at)) says =
      let found = says.1 told in
      bad_level files standby name found.0 at fit (sym same ∙ found.1) found.2 ∙ ap (λ (n : List ℕ). Err (BadLevel n at)) (sym says.0)
  reader_fails tells told (Refused (NoFile missing)) says = no_level files standby name fit (sym same ∙ says.1 told) ∙ ap (λ (n : List ℕ). Err (NoFile n)) (sym says.0)
  reader_fails tells told (Refused other) says = absurd says
  reader_fails tells told Device says = tt
  reader_fails tells told Memory says = tt

  pub level_fails : (before after : ℕ) (fault : Fault) → WholeSays (now name) name before after (Err fault) → AcceptSays files standby name (Err fault)
  level_fails before after (Refused r) says = by (now name) refl says
    where
      by : (file : File) → now name ≡ file → LevelRefused file name r → in_place files standby name ≡ Err r
      by None is refused = no_level files standby name fit (sym same ∙ is) ∙ ap (λ (x : Refusal). Err x) (sym refused)
      by (Some bytes) is refused = bad_level files standby name bytes refused.0 fit (sym same ∙ is) refused.1 ∙ ap (λ (x : Refusal). Err x) (sym refused.2)
  level_fails before after Device says = tt
  level_fails before after Memory says = tt

  -- which is read to its end,
  pub reader_of : (tells : Bool) → IsTrue tells → (before after : ℕ) (reader : Reading) (head : LevelHead) (first : File) → first ≡ files name → StartSays tells first name (Ok reader) → (w : WholeSays (now name) name before after (Ok head)) → IsReaderOf files name w.contents reader
  reader_of tells told before after reader head first first_is says whole =
      let found = says.1 told in
      let bytes_same : found.0 ≡ whole.bytes = some_same found.0 whole.bytes (sym found.1 ∙ first_is ∙ sym same ∙ whole.there) in
      let read : with_head reader.version (head_of reader.head) (still_to_come found.0 reader) ≡ Ok whole.contents = sym found.2 ∙ ap read_level bytes_same ∙ whole.read in
      let is = with_head-is reader.version (head_of reader.head) (still_to_come found.0 reader) whole.contents read in
      record {
        bytes = whole.bytes;
        there = sym same ∙ whole.there;
        read = whole.read;
        named = says.0;
        head = sym is.1;
        coming = ap (λ (x : List ℕ). still_to_come x reader) (sym bytes_same) ∙ is.0;
      }

-- and of its head.
pub head_fails : (files : Files) (standby name bytes : List ℕ) (s : Standby) (c : Contents) (reader : Reading) (T : Type 0) (fault : Fault) → files standby ≡ Some bytes → not_standby standby (Some bytes) ≡ None → IsStandby bytes s → IsReaderOf files name c reader
    → TestedByReads {T = T} (Err fault) (head_cause s name c) → AcceptSays files standby name (Err fault)
head_fails files standby name bytes s c reader T (Refused r) here stands is level says = verdict_by files standby name bytes level.bytes c here stands level.there level.read ∙ ap (answered c) (head_refuses name c bytes s is r says)
head_fails files standby name bytes s c reader T Device here stands is level says = tt
head_fails files standby name bytes s c reader T Memory here stands is level says = absurd says
