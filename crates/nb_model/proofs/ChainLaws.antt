-- The files of kept backups that go on from one another are accepted as a chain.
use Rattle.std.proofs.Common.{◌≡◌, inl, inr, ℕ, suc, ◌+◌, ◌<◌, ◌≤◌, List, [], ◌∷◌, length, refl, sym, ap, subst, ◌∙◌, arith, Bool, true, false, not, ◌||◌, ◌==◌, Some, None, Ok}
use Rattle.nb_model.proofs.Common.{leb_tells, eqb_tells, stamp_of, most_pages, Files, same_name, Refusal, Page, Image, Numbered, image_size, first_page, Ask, Kept, Cause, first_cause, when, Head, IsHead, IsLevel, Contents, AreRising, AreOfSize, taken_from, taken, changed, head_for, file_for, file_of, level_bytes, begins_level, read_level, is_first_page, Link, level_link, not_behind, next_link, next_links, IsOfSize, IsSoundImage, IsBegun, IsLine, IsKeptNext, HoldsNext, HoldLine, next_files, same_self, and_from}
use Rattle.nb_model.specs.Restoring.{linked}
use Rattle.nb_model.proofs.ChangedLaws.{sound_changed}
use Rattle.nb_model.proofs.ReadLaws.{eq_yes}
use Rattle.nb_model.proofs.LevelLaws.{level_read, begins_there}

pub weaker : (n : ℕ) (rs : List Numbered) → AreRising (n + 1) rs → AreRising n rs
weaker n [] h = tt
weaker n (r ∷ rs) h = (omega (arith, h.0), h.1, h.2)

-- the pages that are taken rise, and are of one size
pub taken_rise : (n s : ℕ) (ps : Image) → n + length ps ≤ most_pages → AreRising n (taken_from n s ps)
unfolding taken_from
taken_rise n s [] h = tt
taken_rise n s (p ∷ ps) h = elim (leb_tells (suc s) (stamp_of p)) [
  | inl w ↦ rw (w.0, taken_from) (omega arith, omega arith, taken_rise (n + 1) s ps (omega arith))
  | inr w ↦ rw (w.0, taken_from) (weaker n (taken_from (n + 1) s ps) (taken_rise (n + 1) s ps (omega arith)))
]

taken_sizes : (size n s : ℕ) (ps : Image) → IsOfSize size ps → AreOfSize size (taken_from n s ps)
unfolding taken_from
taken_sizes size n s [] h = tt
taken_sizes size n s (p ∷ ps) h = elim (leb_tells (suc s) (stamp_of p)) [
  | inl w ↦ rw (w.0, taken_from) (h.0, taken_sizes size (n + 1) s ps h.1)
  | inr w ↦ rw (w.0, taken_from) (taken_sizes size (n + 1) s ps h.1)
]

taken_first : (s : ℕ) (p : Page) (ps : Image) → s < stamp_of p → taken s (p ∷ ps) ≡ (0, p) ∷ taken_from 1 s ps
unfolding taken_from
taken_first s p ps h = elim (leb_tells (suc s) (stamp_of p)) [ inl w ↦ rw (w.0, taken_from) refl | inr w ↦ absurd (omega arith) ]

-- an image of at least one page
record Begins (image : Image) : Type 0 where
  pub first : Page
  pub rest : Image
  pub is : image ≡ first ∷ rest

begins : (image : Image) → 1 ≤ length image → Begins image
begins [] h = absurd (omega arith)
begins (p ∷ ps) h = record { first = p; rest = ps; is = refl }

file_is : (version : ℕ) (q : Kept) (ask : Ask) → q.ask ≡ Some ask → (ask.level == 0) ≡ false → IsSoundImage q.image → file_of version q ≡ level_bytes version (head_for q ask) (taken ask.previous_scn q.image)
unfolding file_of file_for
file_is version q ask asked level whole =
    let spelled : file_of version q ≡ level_bytes version (head_for q ask) (changed ask.previous_scn q.image) = rw (asked, file_for) (rw (level, file_for) refl) in
    spelled ∙ ap (level_bytes version (head_for q ask)) (sound_changed ask.previous_scn q.image whole)

-- page 0 of an image that a begin left
first_is : (q : Kept) (ask : Ask) → IsBegun q → is_first_page (head_for q ask) (first_page q.image) ≡ true
unfolding is_first_page
first_is q ask begun =
    and_from _ _ begun.header (and_from _ _ (eq_yes _ _ begun.state) (and_from _ _ (eq_yes _ _ refl)
    (and_from _ _ (ap (λ (g : List ℕ). same_name g q.guid) begun.guid ∙ same_self q.guid) (eq_yes _ _ begun.scn))))

-- the file is in the grammar
file_in_grammar : (version : ℕ) (q : Kept) (ask : Ask) (p : Page) (ps : Image) → q.image ≡ p ∷ ps → (version == 101 || version == 102) ≡ true → IsHead (head_for q ask)
    → IsSoundImage q.image → IsBegun q → ask.previous_scn < q.scn
    → IsLevel (level_bytes version (head_for q ask) ((0, p) ∷ taken_from 1 ask.previous_scn ps)) version (head_for q ask) (0, p) (taken_from 1 ask.previous_scn ps)
file_in_grammar version q ask p ps is known head whole begun later =
    let sizes : IsOfSize (image_size q.image) (p ∷ ps) = subst (λ (x : Image). IsOfSize (image_size q.image) x) is whole.sizes in
    let most : length (p ∷ ps) ≤ most_pages = subst (λ (x : Image). length x ≤ most_pages) is whole.most in
    record {
      spelled = refl;
      known = known;
      head = head;
      first = refl;
      header = ap (λ (x : Image). is_first_page (head_for q ask) (first_page x)) (sym is) ∙ first_is q ask begun;
      rising = taken_rise 1 ask.previous_scn ps (omega (arith, most));
      sizes = (sizes.0, taken_sizes (image_size q.image) 1 ask.previous_scn ps sizes.1);
    }

pub when_not : (t : Bool) (r : Refusal) → t ≡ true → when (not t) r ≡ None
when_not t r e = rw e refl

-- four tests that don't apply
pub four_none : (a b c d : Cause) → a ≡ None → b ≡ None → c ≡ None → d ≡ None → first_cause (a ∷ b ∷ c ∷ d ∷ []) ≡ None
unfolding first_cause
four_none a b c d ea eb ec ed = rw (ea, first_cause) (rw (eb, first_cause) (rw (ec, first_cause) (rw (ed, first_cause) refl)))

-- a level file that goes on from the file before is accepted
pub accepts : (k : ℕ) (last : Link) (name bytes : List ℕ) (c : Contents) → begins_level bytes ≡ true → read_level bytes ≡ Ok c → not_behind k last name c ≡ None → next_link k last name bytes ≡ Ok (level_link c)
unfolding next_link
accepts k last name bytes c begins read behind = rw (begins, next_link) (rw (read, next_link) (rw (behind, next_link) refl))

is_behind : (k : ℕ) (last : Link) (name : List ℕ) (c : Contents) → c.head.level ≡ k → c.head.previous ≡ last.guid → c.head.size ≡ last.size → c.head.previous_scn ≡ last.scn → not_behind k last name c ≡ None
unfolding not_behind
is_behind k last name c level guid size scn =
    four_none _ _ _ _ (when_not _ _ (eq_yes _ _ level)) (when_not _ _ (ap (λ (g : List ℕ). same_name g last.guid) guid ∙ same_self last.guid))
    (when_not _ _ (eq_yes _ _ size)) (when_not _ _ (eq_yes _ _ scn))

begins_bytes : (version : ℕ) (h : Head) (rs : List Numbered) → begins_level (level_bytes version h rs) ≡ true
unfolding level_bytes
begins_bytes version h rs = begins_there version h _

-- the file of a kept backup is accepted after the one that it goes on from
pub kept_accepted : (k version : ℕ) (r : Kept) (last : Link) (name : List ℕ) (q : Kept) (ask : Ask) → last.guid ≡ r.guid → last.scn ≡ r.scn → last.size ≡ image_size r.image → IsKeptNext k version r q ask
    → next_link k last name (file_of version q) ≡ Ok (record { guid = q.guid; scn = q.scn; size = image_size q.image; pages = taken r.scn q.image })
kept_accepted k version r last name q ask eg es ez next =
    let b : Begins q.image = begins q.image (omega (arith, next.whole.least)) in
    let h : Head = head_for q ask in
    let rs : List Numbered = taken_from 1 ask.previous_scn b.rest in
    let later : ask.previous_scn < q.scn = omega (arith, next.scn, next.later) in
    let high : ask.previous_scn < stamp_of b.first =
    subst (λ (x : Image). ask.previous_scn < stamp_of (first_page x)) b.is (omega (arith, next.whole.sound.stamps.head, next.begun.scn, next.scn, next.later)) in
    let all : taken ask.previous_scn q.image ≡ (0, b.first) ∷ rs = ap (taken ask.previous_scn) b.is ∙ taken_first ask.previous_scn b.first b.rest high in
    let level : (ask.level == 0) ≡ false = elim (eqb_tells ask.level 0) [ inl w ↦ absurd (omega (arith, w.1, next.some, next.level)) | inr w ↦ w.0 ] in
    let file : file_of version q ≡ level_bytes version h ((0, b.first) ∷ rs) = file_is version q ask next.asked level next.whole ∙ ap (level_bytes version h) all in
    let spelled = level_read _ version h (0, b.first) rs (file_in_grammar version q ask b.first b.rest b.is next.known next.head next.whole next.begun later) in
    ap (next_link k last name) file
    ∙ accepts k last name (level_bytes version h ((0, b.first) ∷ rs)) _ (begins_bytes version h ((0, b.first) ∷ rs)) spelled
    (is_behind k last name _ next.level (next.guid ∙ sym eg) (next.follows.size ∙ sym ez) (next.scn ∙ sym es))
    ∙ ap (λ (ps : List Numbered). Ok (record { guid = q.guid; scn = q.scn; size = image_size q.image; pages = ps })) (sym all ∙ ap (λ (s : ℕ). taken s q.image) next.scn)

-- one file more is read
pub step_there : (files : Files) (k : ℕ) (last : Link) (name : List ℕ) (names : List (List ℕ)) (bytes : List ℕ) (l : Link) → files name ≡ Some bytes → next_link k last name bytes ≡ Ok l
    → next_links files k last (name ∷ names) ≡ linked l (next_links files (k + 1) l names)
unfolding next_links
step_there files k last name names bytes l is link = rw (is, next_links) (rw (link, next_links) refl)

pub none_left : (files : Files) (k : ℕ) (last : Link) → next_links files k last [] ≡ Ok []
unfolding next_links
none_left files k last = refl

next_none : (r : Kept) → next_files r [] ≡ []
unfolding next_files
next_none r = refl

next_some : (r q : Kept) (qs : List Kept) → next_files r (q ∷ qs) ≡ record { guid = q.guid; scn = q.scn; size = image_size q.image; pages = taken r.scn q.image } ∷ next_files q qs
unfolding next_files
next_some r q qs = refl

-- the files of a line are accepted
pub line_accepted : (files : Files) (k : ℕ) (r : Kept) (last : Link) (names : List (List ℕ)) (qs : List Kept) → last.guid ≡ r.guid → last.scn ≡ r.scn → last.size ≡ image_size r.image → HoldLine files k r names qs
    → next_links files k last names ≡ Ok (next_files r qs)
line_accepted files k r last [] [] eg es ez line = none_left files k last ∙ ap (λ (ls : List Link). Ok ls) (sym (next_none r))
line_accepted files k r last (name ∷ names) [] eg es ez line = absurd line
line_accepted files k r last [] (q ∷ qs) eg es ez line = absurd line
line_accepted files k r last (name ∷ names) (q ∷ qs) eg es ez line =
    let here : HoldsNext files k r name q = line.0 in
    let l : Link = record { guid = q.guid; scn = q.scn; size = image_size q.image; pages = taken r.scn q.image } in
    step_there files k last name names (file_of here.version q) l here.is (kept_accepted k here.version r last name q here.ask eg es ez here.next)
    ∙ ap (linked l) (line_accepted files (k + 1) q l names qs refl refl refl line.1)
    ∙ ap (λ (ls : List Link). Ok ls) (sym (next_some r q qs))

-- and they go on from one another
pub held_line : (files : Files) (k : ℕ) (r : Kept) (names : List (List ℕ)) (qs : List Kept) → HoldLine files k r names qs → IsLine r qs
held_line files k r [] [] line = tt
held_line files k r (name ∷ names) [] line = absurd line
held_line files k r [] (q ∷ qs) line = absurd line
held_line files k r (name ∷ names) (q ∷ qs) line =
    (record { ask = line.0.ask; is = line.0.next.asked; guid = line.0.next.guid; scn = line.0.next.scn; follows = line.0.next.follows }, held_line files (k + 1) q names qs line.1)
