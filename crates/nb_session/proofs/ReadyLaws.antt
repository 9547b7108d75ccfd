-- After a turn the database is ready for the next one.
use Rattle.std.proofs.Common.{◌≡◌, ◌≢◌, ◌⊎◌, inl, inr, ℕ, zero, suc, ◌-◌, List, [], ◌∷◌, ◌++◌, length, Bool, true, false, arith, refl, sym, ap, subst, ◌∙◌, Contains, Option, Some, None, is_some, not, nat_le, ◌&&◌}
use Rattle.nb_session.proofs.Common.{true≢false, Contains-append_cases, slice_index_or, is_free_file, File, Files, is_delta, World, is_free_name, has_delta, decide, Base, Plain, IsBase, is_free_entry, IsMaking, MadeFile, IsNoneOf, making, under_way, Turn, Outcome, delta_name, Now, Event, Played, base_now, with_made, account_after, outcome, event_of, stands_then, take_turn, one_turn, files_made, steps_in, after_steps, base_in, base_after, Trail, made_used, strokes_one, entry_same, base_in_base, delta_named, delta_same, entry_other, steps_one, steps_seen, OfFiles, Held, IsOpen, name_of, not_free, Touched, AreKept, IsReady, IsApart, begun_in, touching}
use Rattle.nb_page.proofs.FreeLaws.{is_free_name-false}
use Rattle.nb_change.specs.Changes.{Other}
use Rattle.nb_model.proofs.OpenedLaws.{HasMain, has_main}
use Rattle.nb_session.proofs.MakesLaws.{makes_none, none_before, none_here}
use Rattle.nb_session.proofs.TouchingLaws.{begun_among}

-- a difference file is none of these
apart_delta : (held : Held) (name m : List ℕ) → IsApart held name → delta_name m ≢ name
apart_delta held name m apart same = true≢false (sym (delta_named m) ∙ ap is_delta same ∙ apart.plain)

-- nor is one of these one of the database's two files
pub apart_files : (held : Held) (name : List ℕ) → IsApart held name → OfFiles (name_of held) name → ⊥
apart_files held name apart (inl same) = apart.other same
apart_files held name apart (inr same) = apart_delta held name (name_of held) apart (sym same)

-- a database that is open is there
is_there : (w : World) (held : Held) (t : Trail) → IsOpen w held t → (bytes : List ℕ) × (w.files (name_of held) ≡ Some bytes)
is_there w held t opened = let main : HasMain opened.files.sees.base (w.files (name_of held)) = has_main (name_of held) opened.files.sees.base (w.files (name_of held)) (w.files (delta_name (name_of held))) opened.files.files.shows in (main.bytes, main.there)

-- Of a difference file beside a name that isn't the database's it stays whether it is there.
module _ (old new : World) (before after : Held) (t u : Trail) (was : IsOpen old before t) (is : IsOpen new after u) (same : name_of after ≡ name_of before) where
  pub beside_other : (m : List ℕ) → (delta_name m ≢ name_of before → new.files (delta_name m) ≡ old.files (delta_name m)) → is_some (new.files (delta_name m)) ≡ is_some (old.files (delta_name m))
  beside_other m read = elim (decide (delta_name m) (name_of before)) [
    | inl own ↦
        ap (λ (n : List ℕ). is_some (new.files n)) (own ∙ sym same) ∙ ap is_some (is_there new after u is).1
        ∙ sym (ap (λ (n : List ℕ). is_some (old.files n)) own ∙ ap is_some (is_there old before t was).1)
    | inr off ↦ ap is_some (read off)
  ]

pub own_entry : (b : Base) → is_free_entry (IsBase b) ≡ false
unfolding is_free_entry
own_entry b = refl

plain_entry : (bytes : List ℕ) → is_free_entry (Plain bytes None) ≡ false → is_free_file (Some bytes) ≡ false
unfolding is_free_entry
plain_entry bytes used = used

-- a name that is free isn't that of the database
pub not_own : (w : World) (held : Held) (t : Trail) (now : Now) (name : List ℕ) → IsReady w held t now → is_free_entry (now.account.entry name) ≡ true → name ≢ name_of held
not_own w held t now name ready free same =
    true≢false (sym free ∙ ap (λ (n : List ℕ). is_free_entry (now.account.entry n)) (same ∙ ready.named) ∙ ap is_free_entry ready.there ∙ own_entry (base_now now))

-- whether a name is free, by its two files
pub free_same : (one two : Files) (m : List ℕ) → two m ≡ one m → is_some (two (delta_name m)) ≡ is_some (one (delta_name m)) → is_free_name two m ≡ is_free_name one m
unfolding is_free_name has_delta
free_same one two m main beside = ap (λ (f : File). is_free_file f && not (nat_le (length m) 94 && is_some (two (delta_name m)))) main ∙ ap (λ (d : Bool). is_free_file (one m) && not (nat_le (length m) 94 && d)) beside

-- the files that an event made
pub made_one : (e : Event) (name bytes : List ℕ) → Contains (files_made (e ∷ [])) (name, bytes) → e.made ≡ Some (name, bytes)
unfolding files_made
made_one e name bytes there = by e.made there
  where
    alone : (f : MadeFile) → Contains (f ∷ []) (name, bytes) → f ≡ (name, bytes)
    alone f (zero, low, is) = is
    alone f (suc i, low, is) = absurd (omega (arith, low))

    by : (made : Option MadeFile) → Contains (elim made as (λ z. List MadeFile) [ Some file ↦ file ∷ [] | None ↦ [] ]) (name, bytes) → made ≡ Some (name, bytes)
    by None is = absurd (omega (arith, is.1))
    by (Some file) is = ap Some (alone file is)

-- it is decided which
made_or_not : (e : Event) (name : List ℕ) → ((bytes : List ℕ) × Contains (files_made (e ∷ [])) (name, bytes)) ⊎ IsNoneOf (files_made (e ∷ [])) name
unfolding files_made
made_or_not e name = by e.made
  where
    alone : (f : MadeFile) (bytes : List ℕ) → Contains (f ∷ []) (name, bytes) → f.0 ≡ name
    alone f bytes (zero, low, is) = ap (λ (x : MadeFile). x.0) is
    alone f bytes (suc i, low, is) = absurd (omega (arith, low))

    by : (made : Option MadeFile) → ((bytes : List ℕ) × Contains (elim made as (λ z. List MadeFile) [ Some file ↦ file ∷ [] | None ↦ [] ]) (name, bytes)) ⊎ IsNoneOf (elim made as (λ z. List MadeFile) [ Some file ↦ file ∷ [] | None ↦ [] ]) name
    by None = inr (λ bytes there. omega (arith, there.1))
    by (Some file) = elim (decide file.0 name) [
      | inl same ↦ inl (file.1, (0, omega arith, ap (λ (n : List ℕ). (n, file.1)) same))
      | inr other ↦ inr (λ bytes there. other (alone file bytes there))
    ]

-- The entries after a turn.
module _ (session : ℕ) (rest : List Turn) (o : Outcome) (now : Now) where
  abbrev then : Now
  then = stands_then session rest o now

  own_then : then.account.entry now.name ≡ IsBase (base_after (base_now now) o.strokes)
  unfolding stands_then account_after
  own_then = entry_same now.name (IsBase (base_after (base_now now) o.strokes)) (with_made o.made now.account)

  kept_then : (m : List ℕ) → m ≢ now.name → then.account.entry m ≡ (with_made o.made now.account).entry m
  unfolding stands_then account_after
  kept_then m other = entry_other now.name m (IsBase (base_after (base_now now) o.strokes)) (with_made o.made now.account) other

  made_then : (m bytes : List ℕ) → m ≢ now.name → o.made ≡ Some (m, bytes) → then.account.entry m ≡ Plain bytes None
  unfolding with_made
  made_then m bytes other made = kept_then m other ∙ ap (λ (x : Option MadeFile). (with_made x now.account).entry m) made ∙ entry_same m (Plain bytes None) now.account

  other_then : (m : List ℕ) → m ≢ now.name → ((bytes : List ℕ) → o.made ≡ Some (m, bytes) → ⊥) → then.account.entry m ≡ now.account.entry m
  unfolding with_made
  other_then m other none = kept_then m other ∙ by o.made none
    where
      by : (made : Option MadeFile) → ((bytes : List ℕ) → made ≡ Some (m, bytes) → ⊥) → (with_made made now.account).entry m ≡ now.account.entry m
      by None off = refl
      by (Some file) off = entry_other file.0 m (Plain file.1 None) now.account (λ same. off file.1 (ap (λ (n : List ℕ). Some (n, file.1)) (sym same)))

  name_then : then.name ≡ now.name
  unfolding stands_then
  name_then = refl

  cache_then : then.cache ≡ now.cache
  unfolding stands_then
  cache_then = refl

  running_then : then.running ≡ o.running
  unfolding stands_then
  running_then = refl

-- After a turn of a database that was ready, which made its files whole.
module _ (old w : World) (e0 e1 : Held) (t : Trail) (now : Now) (session : ℕ) (u : Turn) (tail more : List Turn) (ready : IsReady old e0 t now)
    (here : slice_index_or now.todo (session - 1) [] ≡ u ∷ (tail ++ more)) where
  abbrev o : Outcome
  o = outcome session u now

  abbrev event : Event
  event = event_of session u o

  abbrev pub made : List MadeFile
  made = touching session u tail now

  abbrev later : Now
  later = stands_then session (tail ++ more) o now

  abbrev seen : Trail
  seen = after_steps t (steps_in event)

  module _ (opened : IsOpen w e1 seen) (same : name_of e1 ≡ name_of e0) (cap : e1.cap ≡ e0.cap) (runs : e1.running ≡ o.running) (kept : AreKept w (files_made (event ∷ [])))
      (read : (m : List ℕ) → Other (Touched (name_of e0) made) m → w.files m ≡ old.files m)
      (apart : (name bytes : List ℕ) → Contains made (name, bytes) → IsApart e0 name) (makes : IsMaking now) where
    one_is : one_turn session now ≡ (event ∷ [], later)
    unfolding one_turn take_turn
    one_is = ap (λ (ts : List Turn). take_turn session ts now) here

    -- the name of a file that was made isn't free
    used : (m bytes : List ℕ) → Contains (files_made (event ∷ [])) (m, bytes) → is_free_entry (later.account.entry m) ≡ false
    used m bytes there =
        ap (λ (p : Played). is_free_entry (p.1.account.entry m)) (sym one_is) ∙ made_used session now makes (m, bytes) (subst (λ (p : Played). Contains (files_made p.0) (m, bytes)) (sym one_is) there)

    beside : (m : List ℕ) → m ≢ name_of e0 → is_some (w.files (delta_name m)) ≡ is_some (old.files (delta_name m))
    beside m other = beside_other old w e0 e1 t seen ready.opened opened same m (λ off. read (delta_name m) (λ touched. elim touched [
      | inl file ↦ elim file [ inl e ↦ off e | inr e ↦ other (delta_same m (name_of e0) e) ]
      | inr (bytes, there) ↦ apart_delta e0 (delta_name m) m (apart (delta_name m) bytes there) refl
    ]))

    there_is : (m bytes : List ℕ) → o.made ≡ Some (m, bytes) → Contains (files_made (event ∷ [])) (m, bytes)
    unfolding files_made
    there_is m bytes is = subst (λ (x : Option MadeFile). Contains (elim x as (λ z. List MadeFile) [ Some file ↦ file ∷ [] | None ↦ [] ]) (m, bytes)) (sym is) (0, omega arith, refl)

    known_other : (m : List ℕ) → is_delta m ≡ false → m ≢ now.name → IsNoneOf (files_made (event ∷ [])) m → IsNoneOf (under_way later) m → is_free_name w.files m ≡ is_free_entry (later.account.entry m)
    known_other m plain other unmade none =
        let before : IsNoneOf (under_way now) m = none_before now session u (tail ++ more) here m o (makes_none session u now m unmade) none in
        let off : m ≢ name_of e0 = λ e. other (e ∙ ready.named) in
        let main : w.files m ≡ old.files m = read m (λ touched. elim touched [
          | inl file ↦ elim file [ inl e ↦ off e | inr e ↦ true≢false (sym (delta_named (name_of e0)) ∙ ap is_delta (sym e) ∙ plain) ]
          | inr (bytes, there) ↦ elim (Contains-append_cases (begun_in session u now) (making (base_now now).frozen (u ∷ tail)) (m, bytes) there) [
            | inl begun ↦ none bytes (begun_among session u (tail ++ more) now here (m, bytes) begun)
            | inr made_here ↦ none_here now session u (tail ++ more) here m (base_now now).frozen tail more refl before bytes made_here
          ]
        ]) in
        free_same old.files w.files m main (beside m off) ∙ ready.known m plain before ∙ ap is_free_entry (sym (other_then session (tail ++ more) o now m other (λ bytes is. unmade bytes (there_is m bytes is))))

    known_made : (m bytes : List ℕ) → m ≢ now.name → Contains (files_made (event ∷ [])) (m, bytes) → is_free_name w.files m ≡ is_free_entry (later.account.entry m)
    known_made m bytes other there =
        let entry : later.account.entry m ≡ Plain bytes None = made_then session (tail ++ more) o now m bytes other (made_one event m bytes there) in
        is_free_name-false w.files m (ap is_free_file (kept m bytes there).reads ∙ plain_entry bytes (ap is_free_entry (sym entry) ∙ used m bytes there)) ∙ sym (used m bytes there)

    known_own : (m : List ℕ) → m ≡ now.name → is_free_name w.files m ≡ is_free_entry (later.account.entry m)
    known_own m own =
        ap (is_free_name w.files) (own ∙ sym ready.named ∙ sym same) ∙ not_free w e1 seen opened
        ∙ sym (ap (λ (n : List ℕ). is_free_entry (later.account.entry n)) own ∙ ap is_free_entry (own_then session (tail ++ more) o now) ∙ own_entry (base_after (base_now now) o.strokes))

    known_then : (m : List ℕ) → is_delta m ≡ false → IsNoneOf (under_way later) m → is_free_name w.files m ≡ is_free_entry (later.account.entry m)
    known_then m plain none = elim (decide m now.name) [
      | inl own ↦ known_own m own
      | inr other ↦ elim (made_or_not event m) [ inl some ↦ known_made m some.0 other some.1 | inr unmade ↦ known_other m plain other unmade none ]
    ]

    base_later : base_now later ≡ base_after (base_now now) o.strokes
    base_later = ap base_in (ap later.account.entry (name_then session (tail ++ more) o now) ∙ own_then session (tail ++ more) o now) ∙ base_in_base (base_after (base_now now) o.strokes)

    seen_base : seen.base ≡ base_now later
    seen_base = ap (λ (u : Trail). u.base) (ap (after_steps t) (sym (steps_one event))) ∙ steps_seen t (event ∷ []) ∙ ap (λ ss. base_after t.base ss) (strokes_one event) ∙ ap (λ (b : Base). base_after b o.strokes) ready.base ∙ sym base_later

    pub ready_then : IsReady w e1 seen later
    ready_then = record {
      opened = opened;
      base = seen_base;
      there = ap later.account.entry (name_then session (tail ++ more) o now) ∙ own_then session (tail ++ more) o now ∙ ap IsBase (sym base_later);
      named = same ∙ ready.named ∙ sym (name_then session (tail ++ more) o now);
      running = runs ∙ sym (running_then session (tail ++ more) o now);
      cache = cap ∙ ready.cache ∙ sym (cache_then session (tail ++ more) o now);
      known = known_then;
    }
