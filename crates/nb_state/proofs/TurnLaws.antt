-- What is open after the turns of a backup.
use Rattle.std.proofs.Common.{◌≡◌, ◌≢◌, ◌⊎◌, inl, ⊎_elim, ℕ, ◌+◌, ◌<◌, ◌≤◌, List, [], ◌∷◌, ◌++◌, length, drop, refl, sym, ap, subst, ◌∙◌, arith, length-append, drop_at, Bool, true, false, Option, Some, None, Result, Ok, Err}
use Rattle.nb_state.proofs.Common.{eq-eqb, ne_eqb, is_header, state_of, normal_state, stalled_state, merge_state, World, IsStill, Fault, Refused, Device, Memory, Refusal, weaker_has, strokes_composed, reached_front, Image, first_page, image_state, image_scn, image_guid, trimmed, Ask, Base, Cause, Stroke, begin, ends, finish, with_control, Trail, StandsIn, after_stroke, control_state, header-long, header-room, some_page, trail_base, OfFiles, AreMerged, FileIs, GrowsWithin, HasAfterFirst, KeepsFile, Strikes, StrikesOn, with_control-first, Quiet, GaveNothing, after_strokes, but_drafts, Held, AgreesWith, IsOpen, name_of, Tested, unless_by, begin_cause, end_cause, Begins, Ends, Merges, begun_image, ended_image}
use Rattle.nb_host.specs.Moments.{IsTimely, Passes}
use Rattle.nb_host.specs.declared.faults.HostFault.{HostFault}
use Rattle.nb_change.proofs.CallLaws.{still_alone}
use Rattle.nb_model.specs.Pages.{end_strokes, end_scn}
use Rattle.nb_model.proofs.TrimLaws.{trimmed_front, finish_base}
use Rattle.nb_owner.specs.Open.{IsOpen as PairOpen}
use Rattle.nb_state.specs.declared.turns.Progress.{Progress}
use Rattle.nb_state.proofs.AgreeLaws.{agrees_front, agrees_control}
use Rattle.nb_state.proofs.MakesLaws.{none_yet, gave_none}
use Rattle.nb_change.specs.Changes.{Only}
use Rattle.nb_base.proofs.StaysLaws.{grows_not, quiet_keeps, grows_joined, call_keeps, still_is}
use Rattle.nb_base.proofs.TouchLaws.{strikes_more}
use Rattle.nb_host.proofs.PlainLaws.{none_there}

-- calls that change no file, and then strokes
pub still_struck : (old mid new : World) (held : Held) (t : Trail) (xs : List Stroke) → IsOpen old held t → IsTimely old → IsStill old mid → mid.said ≡ old.said → Passes old mid → Strikes mid new (name_of held) t xs → Strikes old new (name_of held) t xs
still_struck old mid new held t xs is timely still silent time struck =
    strokes_composed after_stroke (StandsIn (name_of held)) (OfFiles (name_of held)) old mid new t [] xs
    (still_alone old mid (OfFiles (name_of held)) (StandsIn (name_of held) t) timely still silent time is.files.left) struck

-- a front of the strokes is one of more
pub struck_front : (old new : World) (name : List ℕ) (t : Trail) (xs ys : List Stroke) → Strikes old new name t xs → Strikes old new name t (xs ++ ys)
struck_front old new name t xs ys struck = weaker_has old new (OfFiles name) _ _ struck (reached_front after_stroke (StandsIn name) t xs ys)

-- an entry more that is merged is no operation, and touches the main file alone
pub struck_more : (old new : World) (name : List ℕ) (t : Trail) → StrikesOn old new (Only name) name t [] → Strikes old new name t (finish ∷ [])
struck_more old new name t struck = struck_front old new name t [] (finish ∷ []) (strikes_more old new (Only name) (OfFiles name) name t [] struck (λ m one. inl one))

-- calls that change no file, and then the main file grows
pub still_grown : (old mid new : World) (name : List ℕ) (size : ℕ) (t : Trail) (xs : List Stroke) → IsTimely old → IsStill old mid → Passes old mid → GrowsWithin mid new name size t xs → GrowsWithin old new name size t xs
still_grown old mid new name size t xs timely still time grows =
    grows_joined old mid new name size t [] xs (λ most within is. call_keeps old mid name _ timely time is (still_is old mid name _ still is)) grows

-- the GUID that was given is the one that may have been given
first_of : List (List ℕ) → List ℕ
first_of [] = []
first_of (x ∷ xs) = x

pub given_guid : (old new : List (List ℕ)) (given guid : List ℕ) → new ≡ old ++ given ∷ [] → (new ≡ old) ⊎ (new ≡ old ++ guid ∷ []) → guid ≡ given
unfolding first_of
given_guid old new given guid is =
    ⊎_elim (λ none. absurd (omega (arith, ap length (sym none ∙ is), length-append old (given ∷ []))))
    (λ one. ap first_of (sym (drop_at old (guid ∷ []) (length old) refl) ∙ ap (drop (length old)) (sym one ∙ is) ∙ drop_at old (given ∷ []) (length old) refl))

-- the state after another control block
state_control : (before after : Base) (state scn : ℕ) (guid : List ℕ) → is_header (first_page before.image) ≡ true → length guid ≡ 16 → state < 65536 → after.image ≡ with_control state scn guid before.image → image_state after.image ≡ state
state_control before after state scn guid header sixteen low is =
    ap image_state is ∙ ap state_of (with_control-first state scn guid before.image (some_page before.image header)) ∙ control_state state scn guid (first_page before.image) (header-long (first_page before.image) header) sixteen low

module _ (old new : World) (held : Held) (t : Trail) (is : IsOpen old held t) (pair : Rattle.nb_owner.specs.Open.Held) where
  header : is_header (first_page t.base.image) ≡ true
  header = is.files.agrees.header

  -- a backup has begun
  module _ (guid : List ℕ) (ask : Option Ask) (sixteen : length guid ≡ 16) (low : held.scn < 4294967294) (opened : PairOpen new pair (after_stroke (begin guid ask) t)) where
    abbrev begun : Base
    begun = (after_stroke (begin guid ask) t).base

    begun_is : begun.image ≡ with_control stalled_state (image_scn t.base.image + 1) guid t.base.image
    begun_is = ap (λ (b : Base). b.image) (trail_base (begin guid ask) t) ∙ begun_image t.base guid ask

    stalled : pair.files.state ≡ stalled_state
    stalled = opened.agrees.state ∙ state_control t.base begun 1 (image_scn t.base.image + 1) guid header sixteen (omega arith) begun_is

    pub open_begun : IsOpen new (record held { files = pair.files; pages = pair.pages; cap = pair.cap; scn = held.scn + 1; guid = guid }) (after_stroke (begin guid ask) t)
    open_begun = record {
      files = opened;
      agrees = agrees_control held (record held { files = pair.files; pages = pair.pages; cap = pair.cap; scn = held.scn + 1; guid = guid }) t.base begun 1 (image_scn t.base.image + 1) guid is.agrees header sixteen (omega (arith, low, is.agrees.scn)) begun_is
          (ap (λ (n : ℕ). n + 1) is.agrees.scn) refl refl;
      merged = λ two. absurd (omega (arith, two, stalled));
      most = λ two. absurd (omega (arith, two, stalled));
    }

  -- the stalled state has ended
  module _ (session : ℕ) (sixteen : length held.guid ≡ 16) (stalled : held.files.state ≡ stalled_state) (opened : PairOpen new pair (after_stroke ends t)) where
    abbrev ended : Base
    ended = (after_stroke ends t).base

    -- the SCN has room
    pub end_room : held.scn < 4294967295
    end_room = omega (arith, is.agrees.scn, header-room (first_page t.base.image) header (sym is.files.agrees.state ∙ stalled))

    pub open_ended : (scn : ℕ) → scn ≡ held.scn + 1 → IsOpen new (record held { files = pair.files; pages = pair.pages; cap = pair.cap; scn = scn; running = Some session; merged = 0 }) (after_stroke ends t)
    open_ended scn next = record {
      files = opened;
      agrees = agrees_control held (record held { files = pair.files; pages = pair.pages; cap = pair.cap; scn = scn; running = Some session; merged = 0 }) t.base ended 2 (image_scn t.base.image + 1) (image_guid t.base.image) is.agrees header
          (ap length (sym is.agrees.guid) ∙ sixteen) (omega (arith, end_room, is.agrees.scn)) (ap (λ (b : Base). b.image) (trail_base ends t) ∙ ended_image t.base)
          (next ∙ ap (λ (n : ℕ). n + 1) is.agrees.scn) is.agrees.guid refl;
      merged = λ two j none inside. absurd (omega (arith, none));
      most = λ two. omega arith;
    }

  -- the merge is finished
  module _ (sixteen : length held.guid ≡ 16) (low : held.scn < 4294967296) (opened : PairOpen new pair (after_stroke finish t)) where
    abbrev finished : Base
    finished = (after_stroke finish t).base

    -- without the pages of zeros at its end
    abbrev cut : Base
    cut = record t.base { image = trimmed t.base.image }

    front : first_page (trimmed t.base.image) ≡ first_page t.base.image
    front = trimmed_front t.base.image header

    cut_header : is_header (first_page (trimmed t.base.image)) ≡ true
    cut_header = ap is_header front ∙ header

    finished_is : finished.image ≡ with_control normal_state (image_scn t.base.image) (image_guid t.base.image) (trimmed t.base.image)
    finished_is = ap (λ (b : Base). b.image) (trail_base finish t ∙ finish_base t.base)

    sixteen_there : length (image_guid t.base.image) ≡ 16
    sixteen_there = ap length (sym is.agrees.guid) ∙ sixteen

    normal : pair.files.state ≡ normal_state
    normal = opened.agrees.state ∙ state_control cut finished 0 (image_scn t.base.image) (image_guid t.base.image) cut_header sixteen_there (omega arith) finished_is

    pub open_finished : IsOpen new (record held { files = pair.files; pages = pair.pages; cap = pair.cap; running = None }) (after_stroke finish t)
    open_finished = record {
      files = opened;
      agrees = agrees_control held (record held { files = pair.files; pages = pair.pages; cap = pair.cap; running = None }) cut finished 0 (image_scn t.base.image) (image_guid t.base.image) (agrees_front held t.base cut front is.agrees) cut_header sixteen_there (omega (arith, low, is.agrees.scn)) finished_is is.agrees.scn
          is.agrees.guid refl;
      merged = λ two. absurd (omega (arith, two, normal));
      most = λ two. absurd (omega (arith, two, normal));
    }

  -- one entry more is merged
  pub open_more : PairOpen new pair t → pair.files.entries ≡ held.files.entries → held.merged < length held.files.entries → AreMerged new pair.files (held.merged + 1) → IsOpen new (record held { files = pair.files; pages = pair.pages; cap = pair.cap; merged = held.merged + 1 }) t
  open_more opened entries inside merged = record {
    files = opened;
    agrees = record { scn = is.agrees.scn; four = is.agrees.four; guid = is.agrees.guid; read_only = is.agrees.read_only };
    merged = λ two. merged;
    most = λ two. omega (arith, inside, ap length entries);
  }

-- a merge that was stopped begins again
pub open_again : (w : World) (held : Held) (t : Trail) (session : ℕ) → IsOpen w held t → IsOpen w (record held { running = Some session; merged = 0 }) t
open_again w held t session is = record {
  files = is.files;
  agrees = record { scn = is.agrees.scn; four = is.agrees.four; guid = is.agrees.guid; read_only = is.agrees.read_only };
  merged = λ two j none inside. absurd (omega (arith, none));
  most = λ two. omega arith;
}

-- and makes no stroke
pub open_struck : (w : World) (held : Held) (t : Trail) (session : ℕ) (strokes : List Stroke) → strokes ≡ [] → IsOpen w held t → IsOpen w (record held { running = Some session; merged = 0 }) (after_strokes t strokes)
open_struck w held t session strokes none is =
    subst (λ (ss : List Stroke). IsOpen w (record held { running = Some session; merged = 0 }) (after_strokes t ss)) (sym none) (open_again w held t session is)

-- all entries are merged
pub all_merged : (w : World) (held : Held) (t : Trail) → IsOpen w held t → held.files.state ≡ merge_state → length held.files.entries ≤ held.merged → AreMerged w held.files (length held.files.entries)
all_merged w held t is merges all j low inside = is.merged merges j (omega (arith, low, all)) inside

-- what waits goes out, and both files may be kept for good
pub open_out : (old new : World) (held : Held) (pair : Rattle.nb_owner.specs.Open.Held) (t u : Trail) → IsOpen old held t → u.base ≡ t.base → but_drafts pair.files ≡ but_drafts held.files → PairOpen new pair u
    → (held.files.state ≡ merge_state → AreMerged old held.files held.merged → AreMerged new pair.files held.merged) → IsOpen new (record held { files = pair.files; pages = pair.pages; cap = pair.cap }) u
open_out old new held pair t u is base same opened merged = record {
  files = opened;
  agrees = subst (λ (b : Base). AgreesWith (record held { files = pair.files; pages = pair.pages; cap = pair.cap }) b) (sym base)
      (record { scn = is.agrees.scn; four = is.agrees.four; guid = is.agrees.guid; read_only = is.agrees.read_only });
  merged = λ two. let merges = sym (ap (λ (f : Rattle.nb_base.specs.Open.Held). f.state) same) ∙ two in merged merges (is.merged merges);
  most = λ two. subst (λ (f : Rattle.nb_base.specs.Open.Held). held.merged ≤ length f.entries) (sym same) (is.most (sym (ap (λ (f : Rattle.nb_base.specs.Open.Held). f.state) same) ∙ two));
}

-- a write wanted memory
pub open_wanting : (old new : World) (held : Held) (pair : Rattle.nb_owner.specs.Open.Held) (t : Trail) → IsOpen old held t → pair.files.state ≡ held.files.state → PairOpen new pair t
    → held.files.state ≢ merge_state → IsOpen new (record held { files = pair.files; pages = pair.pages; cap = pair.cap }) t
open_wanting old new held pair t is state opened out = record {
  files = opened;
  agrees = record { scn = is.agrees.scn; four = is.agrees.four; guid = is.agrees.guid; read_only = is.agrees.read_only };
  merged = λ two. absurd (out (sym state ∙ two));
  most = λ two. absurd (out (sym state ∙ two));
}

-- the strokes of an end
pub end_stalled : (image : Image) → image_state image ≡ stalled_state → end_strokes image ≡ ends ∷ []
unfolding end_strokes
end_stalled image one = ap (λ (b : Bool). elim b as (λ z. List Stroke) [ true ↦ ends ∷ [] | false ↦ [] ]) (eq-eqb (image_state image) 1 one)

pub end_other : (image : Image) → (image_state image ≡ stalled_state → ⊥) → end_strokes image ≡ []
unfolding end_strokes
end_other image ne = ap (λ (b : Bool). elim b as (λ z. List Stroke) [ true ↦ ends ∷ [] | false ↦ [] ]) (ne_eqb (image_state image) 1 ne)

pub scn_stalled : (image : Image) → image_state image ≡ stalled_state → end_scn image ≡ image_scn image + 1
unfolding end_scn
scn_stalled image one = ap (λ (b : Bool). elim b as (λ z. ℕ) [ true ↦ image_scn image + 1 | false ↦ image_scn image ]) (eq-eqb (image_state image) 1 one)

pub scn_other : (image : Image) → (image_state image ≡ stalled_state → ⊥) → end_scn image ≡ image_scn image
unfolding end_scn
scn_other image ne = ap (λ (b : Bool). elim b as (λ z. ℕ) [ true ↦ image_scn image + 1 | false ↦ image_scn image ]) (ne_eqb (image_state image) 1 ne)

-- strokes that there is no cause against
pub unless_none : (cause : Cause) (strokes : List Stroke) → cause ≡ None → unless_by cause strokes ≡ strokes
unless_none cause strokes none = ap (λ (c : Cause). unless_by c strokes) none

-- A backup that may begin, with the GUID that was given.
module _ (old mid new : World) (before after : Held) (t : Trail) (guid : List ℕ) (ask : Option Ask) (is : IsOpen old before t) (allowed : begin_cause t.base.image ≡ None) (struck : Strikes old new (name_of before) t (begin guid ask ∷ []))
    (grown : GrowsWithin old new (name_of before) before.files.page_size t (begin guid ask ∷ []))
    (gave : mid.guids ≡ old.guids ++ guid ∷ []) (nothing : GaveNothing mid new) (times : mid.times ≡ old.times) (running : after.running ≡ before.running) (name : name_of after ≡ name_of before) where
  left : Strikes old new (name_of before) t (unless_by (begin_cause t.base.image) (begin guid ask ∷ []))
  left = subst (λ (ss : List Stroke). Strikes old new (name_of before) t ss) (sym (unless_none (begin_cause t.base.image) (begin guid ask ∷ []) allowed)) struck

  long : GrowsWithin old new (name_of before) before.files.page_size t (unless_by (begin_cause t.base.image) (begin guid ask ∷ []))
  long = subst (λ (ss : List Stroke). GrowsWithin old new (name_of before) before.files.page_size t ss) (sym (unless_none (begin_cause t.base.image) (begin guid ask ∷ []) allowed)) grown

  allows : (r : Refusal) → begin_cause t.base.image ≡ Some r → Quiet old new
  allows r some = absurd (none_there (sym allowed ∙ some))

  pub begin_failed : Begins (Err Device) old new before after t guid ask
  begin_failed = record { test = tt; left = left; long = long; frozen = tt; opened = tt; answer = tt; gave = tt; times = nothing.times ∙ times; refused = tt; idle = allows; running = running; name = name }

  pub begin_done : (scn : ℕ) → scn ≡ before.scn + 1 → IsOpen new after (after_strokes t (begin guid ask ∷ [])) → FileIs new (name_of before) (λ file. file ≡ new.files (name_of before)) → Begins (Ok scn) old new before after t guid ask
  begin_done scn next opened frozen = record {
    test = allowed;
    left = left;
    long = long;
    frozen = frozen;
    opened = opened;
    answer = next ∙ ap (λ (n : ℕ). n + 1) is.agrees.scn;
    gave = nothing.guids ∙ gave;
    times = nothing.times ∙ times;
    refused = tt;
    idle = allows;
    running = running;
    name = name;
  }

-- A begin that is refused changes nothing.
pub begin_refused : (w : World) (held : Held) (t : Trail) (guid : List ℕ) (ask : Option Ask) (fault : Fault) → IsOpen w held t → Quiet w w → Tested {T = Unit {0}} (Err fault) (begin_cause t.base.image) → Begins (Err fault) w w held held t guid ask
begin_refused w held t guid ask (Refused r) is quiet test = record {
  test = test;
  left = none_yet w w held t _ quiet is;
  long = grows_not w w (name_of held) held.files.page_size t _ quiet;
  frozen = tt;
  opened = tt;
  answer = tt;
  gave = tt;
  times = refl;
  refused = (refl, quiet);
  idle = λ r some. quiet;
  running = refl;
  name = refl;
}
begin_refused w held t guid ask Device is quiet test = record { test = tt; left = none_yet w w held t _ quiet is; long = grows_not w w (name_of held) held.files.page_size t _ quiet; frozen = tt; opened = tt; answer = tt; gave = tt; times = refl; refused = tt; idle = λ r some. quiet; running = refl; name = refl }
begin_refused w held t guid ask Memory is quiet test = record { test = tt; left = none_yet w w held t _ quiet is; long = grows_not w w (name_of held) held.files.page_size t _ quiet; frozen = tt; opened = tt; answer = tt; gave = tt; times = refl; refused = tt; idle = λ r some. quiet; running = refl; name = refl }

-- A begin for which no GUID was given.
pub begin_unasked : (old new : World) (held : Held) (t : Trail) (guid : List ℕ) (ask : Option Ask) → IsOpen old held t → begin_cause t.base.image ≡ None → Quiet old new → Begins (Err Device) old new held held t guid ask
begin_unasked old new held t guid ask is allowed quiet = record {
  test = tt;
  left = none_yet old new held t _ quiet is;
  long = grows_not old new (name_of held) held.files.page_size t _ quiet;
  frozen = tt;
  opened = tt;
  answer = tt;
  gave = tt;
  times = quiet.times;
  refused = tt;
  idle = λ r some. quiet;
  running = refl;
  name = refl;
}

-- An end that is refused changes nothing.
pub end_refused : (w : World) (held : Held) (t : Trail) (session : ℕ) (fault : Fault) → IsOpen w held t → Quiet w w → Tested {T = Unit {0}} (Err fault) (end_cause t.base.image held.running session) → Ends (Err fault) w w held held t session
end_refused w held t session (Refused r) is quiet test = record {
  test = test;
  left = none_yet w w held t _ quiet is;
  long = grows_not w w (name_of held) held.files.page_size t _ quiet;
  rest = λ bytes. quiet_keeps w w (name_of held) _ quiet;
  opened = tt;
  answer = tt;
  begins = tt;
  gave = gave_none w w quiet;
  refused = (refl, quiet);
  idle = λ r some. quiet;
  name = refl;
}
end_refused w held t session Device is quiet test = record { test = tt; left = none_yet w w held t _ quiet is; long = grows_not w w (name_of held) held.files.page_size t _ quiet; rest = λ bytes. quiet_keeps w w (name_of held) _ quiet; opened = tt; answer = tt; begins = tt; gave = gave_none w w quiet; refused = tt; idle = λ r some. quiet; name = refl }
end_refused w held t session Memory is quiet test = record { test = tt; left = none_yet w w held t _ quiet is; long = grows_not w w (name_of held) held.files.page_size t _ quiet; rest = λ bytes. quiet_keeps w w (name_of held) _ quiet; opened = tt; answer = tt; begins = tt; gave = gave_none w w quiet; refused = tt; idle = λ r some. quiet; name = refl }

-- An end that may be.
module _ (old new : World) (before after : Held) (t : Trail) (session : ℕ) (allowed : end_cause t.base.image before.running session ≡ None) (struck : Strikes old new (name_of before) t (end_strokes t.base.image))
    (grown : GrowsWithin old new (name_of before) before.files.page_size t (end_strokes t.base.image)) (rest : (bytes : List ℕ) → KeepsFile old new (name_of before) (HasAfterFirst before.files.page_size bytes)) (gave : GaveNothing old new)
    (name : name_of after ≡ name_of before) where
  end_left : Strikes old new (name_of before) t (unless_by (end_cause t.base.image before.running session) (end_strokes t.base.image))
  end_left = subst (λ (ss : List Stroke). Strikes old new (name_of before) t ss) (sym (unless_none (end_cause t.base.image before.running session) (end_strokes t.base.image) allowed)) struck

  end_long : GrowsWithin old new (name_of before) before.files.page_size t (unless_by (end_cause t.base.image before.running session) (end_strokes t.base.image))
  end_long = subst (λ (ss : List Stroke). GrowsWithin old new (name_of before) before.files.page_size t ss) (sym (unless_none (end_cause t.base.image before.running session) (end_strokes t.base.image) allowed)) grown

  end_allows : (r : Refusal) → end_cause t.base.image before.running session ≡ Some r → Quiet old new
  end_allows r some = absurd (none_there (sym allowed ∙ some))

  pub end_failed : Ends (Err Device) old new before after t session
  end_failed = record { test = tt; left = end_left; long = end_long; rest = rest; opened = tt; answer = tt; begins = tt; gave = gave; refused = tt; idle = end_allows; name = name }

  pub end_done : (scn : ℕ) → scn ≡ end_scn t.base.image → IsOpen new after (after_strokes t (end_strokes t.base.image)) → after.running ≡ Some session → after.merged ≡ 0 → Ends (Ok scn) old new before after t session
  end_done scn is opened running merged = record { test = allowed; left = end_left; long = end_long; rest = rest; opened = opened; answer = is; begins = (running, merged); gave = gave; refused = tt; idle = end_allows; name = name }

-- A turn of a merge that failed.
pub merge_failed : (old new : World) (before after : Held) (t : Trail) (result : Result Progress HostFault) (fault : HostFault) → result ≡ Err fault → Strikes old new (name_of before) t (finish ∷ []) → GrowsWithin old new (name_of before) before.files.page_size t (finish ∷ [])
    → (before.merged < length t.base.diverted → StrikesOn old new (Only (name_of before)) (name_of before) t [])
    → GaveNothing old new → name_of after ≡ name_of before → Merges result old new before after t
merge_failed old new before after t result fault failed left long more gave name =
    subst (λ (r : Result Progress HostFault). Merges r old new before after t) (sym failed) (record { left = left; long = long; more = more; puts = tt; on = tt; gave = gave; name = name })
