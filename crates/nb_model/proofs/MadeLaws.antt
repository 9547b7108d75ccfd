-- The files go on to stand for the account where a backup or a copy makes files.
use Rattle.std.proofs.Common.{◌≡◌, ◌≢◌, ◌≤◌, ◌⊎◌, inl, inr, ℕ, zero, suc, List, [], ◌∷◌, length, take, refl, sym, ap, subst, ◌∙◌, arith, Bool, true, false, if◌then◌else◌, ◌==◌, Option, Some, None, Result, Ok, Err, IsTrue, Contains}
use Rattle.nb_model.proofs.Common.{told_text, true≢false, and_parts, eqb_tells, append-nil, take_at, bytes_of, number_in, part, is_free_file, is_header, state_of, guid_of, number_of-bytes_of, part-take, length-part, stalled_state, applying_state, File, Files, with_file, same_name, is_delta, Refusal, NoFile, Image, Numbered, first_page, Ask, Kept, Base, Entry, Plain, IsBase, Account, with_entry, Cause, not_database, Head, Contents, first_fault, head_for, head_in, head_then, joined, changed, level_bytes, file_for, file_of, read_level, read_pages, with_head, MadeFile, IsNoneOf, IsOfKept, its_file, its_pages, IsNoBackup, delta_name, owner, owner_with, entry_in, entry_of_files, IsKeptAs, IsBegun, IsFileOf, IsCopyOf, IsSpan, HoldsItsRecord, is_applying, Stands, decide, same_self, some_same, err_not_ok, err_ok}
use Rattle.nb_model.specs.Owner.{owner_in}
use Rattle.nb_model.proofs.FreeLaws.{closed_under, free_under, stands_files}
use Rattle.nb_model.proofs.FrontLaws.{owner_of_entry}
use Rattle.nb_model.proofs.HeaderLaws.{header-long, same-header, same-number}
use Rattle.nb_model.proofs.LevelLaws.{begins_there}
use Rattle.nb_model.proofs.MainLaws.{owner-formed, owner-refused, owner-none}
use Rattle.nb_model.proofs.OpenedLaws.{joined_front, has_main}
use Rattle.nb_model.proofs.SoundLaws.{kind_of_header}
use Rattle.nb_model.proofs.StandsLaws.{delta_named, no_main, StandsUnder, formed_header, no_level_begins, header_no_level, state_of_applying, stands_with_both}

-- Whole, the file holds the record that it names, isn't opened without a difference file, and waits for no merge.
pub record IsWholeFile (kept : List Kept) (bytes : List ℕ) : Type 0 where
  pub holds : HoldsItsRecord kept bytes
  pub closed : (name : List ℕ) (b : Base) → owner name (Some bytes) None ≡ Ok b → ⊥
  pub rests : IsTrue (is_applying bytes) → ⊥

-- A file that is made: its name is free still, it is unfinished, or it is whole.
pub data IsInMaking (kept : List Kept) (file : File) : Type 0 where
  is_free : is_free_file file ≡ true → IsInMaking kept file
  unfinished : ((bytes : List ℕ) → file ≡ Some bytes → IsNoBackup bytes) → IsInMaking kept file
  whole : (bytes : List ℕ) → file ≡ Some bytes → IsWholeFile kept bytes → IsInMaking kept file

-- bytes that are opened have a header
opened_header : (name bytes : List ℕ) (delta : File) (b : Base) → owner name (Some bytes) delta ≡ Ok b → is_header bytes ≡ true
opened_header name bytes delta b opens =
    let main = has_main name b (Some bytes) delta opens in
    ap is_header (some_same bytes main.bytes main.there) ∙ formed_header main.bytes main.formed

-- the file of a record is the pages of its image, or a level
file_cases : (version : ℕ) (r : Kept) → (file_of version r ≡ joined r.image) ⊎ ((ask : Ask) × (file_of version r ≡ level_bytes version (head_for r ask) (changed ask.previous_scn r.image)))
unfolding file_of file_for
file_cases version r = by r.ask
  where
    by : (asked : Option Ask) → (file_for version r asked ≡ joined r.image) ⊎ ((ask : Ask) × (file_for version r asked ≡ level_bytes version (head_for r ask) (changed ask.previous_scn r.image)))
    by None = inl refl
    by (Some ask) = elim (eqb_tells ask.level 0) [ inl w ↦ inl (rw (w.0, file_for) refl) | inr w ↦ inr (ask, rw (w.0, file_for) refl) ]

-- a level file that is read has the version and the head that its bytes spell
read_head : (bytes : List ℕ) (c : Contents) → read_level bytes ≡ Ok c → (c.version ≡ number_in 4 2 bytes) × (c.head ≡ head_in bytes)
unfolding read_level
read_head bytes c reads = by (first_fault _) reads
  where
    of_pages : (pages : Result (List Numbered) ℕ) → with_head (number_in 4 2 bytes) (head_in bytes) pages ≡ Ok c → (c.version ≡ number_in 4 2 bytes) × (c.head ≡ head_in bytes)
    of_pages (Err at) e = absurd (err_ok at c e)
    of_pages (Ok rs) e = let same : record { version = number_in 4 2 bytes; head = head_in bytes; pages = rs } ≡ c = cc in (ap (λ (x : Contents). x.version) (sym same), ap (λ (x : Contents). x.head) (sym same))

    by : (fault : Option ℕ) → elim fault as (λ z. Result Contents ℕ) [ Some place ↦ Err place | None ↦ with_head (number_in 4 2 bytes) (head_in bytes) (read_pages (number_in 4 2 bytes) (head_in bytes) bytes) ] ≡ Ok c
        → (c.version ≡ number_in 4 2 bytes) × (c.head ≡ head_in bytes)
    by (Some place) e = absurd (err_ok place c e)
    by None e = of_pages (read_pages (number_in 4 2 bytes) (head_in bytes) bytes) e

-- the bytes of a level begin with no header, and spell the version and the GUID
level_no_header : (version : ℕ) (h : Head) (rs : List Numbered) → is_header (level_bytes version h rs) ≡ true → ⊥
unfolding level_bytes
level_no_header version h rs header = true≢false (sym (begins_there version h _) ∙ no_level_begins _ (kind_of_header _ header))

level_version : (h : Head) (rs : List Numbered) → number_in 4 2 (level_bytes 102 h rs) ≡ 102
unfolding level_bytes head_then number_in bytes_of
level_version h rs = number_of-bytes_of 2 102 (omega arith)

level_guid : (h : Head) (rs : List Numbered) → length h.guid ≡ 16 → (head_in (level_bytes 102 h rs)).guid ≡ h.guid
unfolding level_bytes head_in head_then bytes_of
level_guid h rs sixteen = take_at h.guid _ 16 sixteen

none_opened : (name : List ℕ) (b : Base) → owner name None None ≡ Ok b → ⊥
none_opened name b opens = err_not_ok (NoFile name) b (owner name None None) (owner-none name None) opens

-- in the stalled state a file isn't opened without a difference file
stalled_alone : (name bytes : List ℕ) → owner_in 1 name bytes None ≡ Err (NoFile (delta_name name))
unfolding owner_in owner_with
stalled_alone name bytes = refl

-- The file of a record among these is whole where only some of them are kept: it names no other.
module _ (all kept : List Kept) (among : (r : Kept) → Contains kept r → Contains all r) (distinct : (r q : Kept) → Contains all r → Contains all q → r.guid ≡ q.guid → r ≡ q)
    (begun : (r : Kept) → Contains all r → IsBegun r) where
  -- the record that is meant
  meant : (r q : Kept) (guid : List ℕ) → Contains all r → guid ≡ r.guid → IsKeptAs kept guid q → r ≡ q
  meant r q guid there is named = distinct r q there (among q named.there) (sym is ∙ sym named.named)

  pages_whole : (r : Kept) → Contains all r → IsWholeFile kept (joined r.image)
  pages_whole r there =
      let one : IsBegun r = begun r there in
      let front : take 64 (joined r.image) ≡ take 64 (first_page r.image) = ap (λ (x : Image). take 64 (joined x)) (sym (append-nil r.image)) ∙ joined_front r.image [] one.header in
      let header : is_header (joined r.image) ≡ true = same-header (joined r.image) (first_page r.image) front ∙ one.header in
      let stalled : state_of (joined r.image) ≡ stalled_state = same-number (joined r.image) (first_page r.image) front 22 2 (omega arith) ∙ one.state in
      let guid : guid_of (joined r.image) ≡ r.guid = sym (part-take 64 32 16 (joined r.image) (omega arith)) ∙ ap (part 32 16) front ∙ part-take 64 32 16 (first_page r.image) (omega arith) ∙ one.guid in
      record {
        holds = record {
          level = λ c q reads named. absurd (header_no_level (joined r.image) c header reads);
          copy = λ q is_header is_stalled whole named. subst (λ (x : Kept). IsCopyOf x (joined r.image)) (meant r q (guid_of (joined r.image)) there guid named) (record { zeros = []; are_zeros = tt; is = ap joined (sym (append-nil r.image)) });
        };
        closed = λ name b opens. alone name b (not_database (joined r.image)) refl stalled opens;
        rests = λ applying. absurd (omega (arith, stalled, state_of_applying (joined r.image) applying));
      }
    where
      alone : (name : List ℕ) (b : Base) (c : Cause) → not_database (joined r.image) ≡ c → state_of (joined r.image) ≡ stalled_state → owner name (Some (joined r.image)) None ≡ Ok b → ⊥
      alone name b (Some x) is stalled opens = err_not_ok x b _ (owner-refused name (joined r.image) None x is) opens
      alone name b None is stalled opens =
          err_not_ok (NoFile (delta_name name)) b _ (owner-formed name (joined r.image) None is ∙ ap (λ (n : ℕ). owner_in n name (joined r.image) None) stalled ∙ stalled_alone name (joined r.image)) opens

  -- the bytes of a level of a record, where they are its file or that of a span of it
  spelled_whole : (r : Kept) (ask : Ask) (bytes : List ℕ) → Contains all r → bytes ≡ level_bytes 102 (head_for r ask) (changed ask.previous_scn r.image) → IsFileOf kept 102 r bytes → IsWholeFile kept bytes
  spelled_whole r ask bytes there is file =
      let one : IsBegun r = begun r there in
      let sixteen : length r.guid ≡ 16 = ap length (sym one.guid) ∙ length-part 32 16 (first_page r.image) (omega (arith, header-long (first_page r.image) one.header)) in
      let plain : is_header bytes ≡ true → ⊥ = λ header. level_no_header 102 (head_for r ask) (changed ask.previous_scn r.image) (ap is_header (sym is) ∙ header) in
      record {
        holds = record {
          level = λ c q reads named.
              let spelled = read_head bytes c reads in
              let guid : c.head.guid ≡ r.guid = ap (λ (h : Head). h.guid) spelled.1 ∙ ap (λ (x : List ℕ). (head_in x).guid) is ∙ level_guid (head_for r ask) (changed ask.previous_scn r.image) sixteen in
              let version : c.version ≡ 102 = spelled.0 ∙ ap (number_in 4 2) is ∙ level_version (head_for r ask) (changed ask.previous_scn r.image) in
              subst (λ (x : Kept). IsFileOf kept c.version x bytes) (meant r q c.head.guid there guid named) (subst (λ (v : ℕ). IsFileOf kept v r bytes) (sym version) file);
          copy = λ q header stalled whole named. absurd (plain header);
        };
        closed = λ name b opens. plain (opened_header name bytes None b opens);
        rests = λ applying. plain (and_parts (is_header bytes) (state_of bytes == applying_state) applying).0;
      }

  level_whole : (r : Kept) (ask : Ask) → Contains all r → file_of 102 r ≡ level_bytes 102 (head_for r ask) (changed ask.previous_scn r.image) → IsWholeFile kept (file_of 102 r)
  level_whole r ask there is = spelled_whole r ask (file_of 102 r) there is (inl refl)

  whole_file : (bytes : List ℕ) → IsOfKept all bytes → IsWholeFile kept bytes
  whole_file bytes (its_pages r there is) = subst (IsWholeFile kept) (sym is) (pages_whole r there)
  whole_file bytes (its_file r there is) = subst (IsWholeFile kept) (sym is) (elim (file_cases 102 r) [
    | inl pages ↦ subst (IsWholeFile kept) (sym pages) (pages_whole r there)
    | inr level ↦ level_whole r level.0 there level.1
  ])

-- So is one of an account for which files stand, where some of its records are kept, or all.
pub whole_among : (files : Files) (account : Account) → Stands files account → (kept : List Kept) → ((r : Kept) → Contains kept r → Contains account.kept r) → (bytes : List ℕ) → IsOfKept account.kept bytes → IsWholeFile kept bytes
whole_among files account stands kept among = whole_file account.kept kept among stands.kept_records.distinct stands.sound_images.records

its_whole : (files : Files) (account : Account) → Stands files account → (bytes : List ℕ) → IsOfKept account.kept bytes → IsWholeFile account.kept bytes
its_whole files account stands = whole_among files account stands account.kept (λ r there. there)

-- a level of a record with an ask of level 1 or more
pub span_bytes : (r : Kept) (ask : Ask) → 1 ≤ ask.level → file_for 102 r (Some ask) ≡ level_bytes 102 (head_for r ask) (changed ask.previous_scn r.image)
unfolding file_for
span_bytes r ask some = elim (eqb_tells ask.level 0) [ inl w ↦ absurd (omega (arith, some, w.1)) | inr w ↦ rw (w.0, file_for) refl ]

-- So is the file of a span of one of its records.
pub span_whole : (files : Files) (account : Account) → Stands files account → (r : Kept) (ask : Ask) → Contains account.kept r → 1 ≤ ask.level → IsSpan account.kept r ask → IsWholeFile account.kept (file_for 102 r (Some ask))
span_whole files account stands r ask there some span =
    spelled_whole account.kept account.kept (λ q kept. kept) stands.kept_records.distinct stands.sound_images.records r ask (file_for 102 r (Some ask)) there (span_bytes r ask some) (inr (ask, span, refl))

-- what the entry of a file is, that has these bytes and isn't opened
closed_entry : (name bytes : List ℕ) (file delta : File) → file ≡ Some bytes → delta ≡ None → ((b : Base) → owner name (Some bytes) None ≡ Ok b → ⊥) → entry_of_files name file delta ≡ Plain bytes None
unfolding entry_of_files
closed_entry name bytes file delta there alone closed =
    ap (λ (f : File). entry_of_files name f delta) there ∙ ap (λ (d : File). entry_of_files name (Some bytes) d) alone ∙ by (owner name (Some bytes) None) refl
  where
    by : (answer : Result Base Refusal) → owner name (Some bytes) None ≡ answer → elim answer as (λ z. Entry) [ Err refusal ↦ Plain bytes None | Ok base ↦ IsBase base ] ≡ Plain bytes None
    by (Err r) is = refl
    by (Ok b) is = absurd (closed b is)

-- The files of one name change, where no difference file stands beside it.
module _ (old new : Files) (account : Account) (name : List ℕ) (stands : Stands old account) (plain : is_delta name ≡ false) (others : (m : List ℕ) → m ≢ name → m ≢ delta_name name → new m ≡ old m)
    (alone : new (delta_name name) ≡ None) where
  of_entry : (b : Base) → entry_in new name ≡ IsBase b → owner name (new name) None ≡ Ok b
  of_entry b e = ap (λ (d : File). owner name (new name) d) (sym alone) ∙ owner_of_entry name (new name) (new (delta_name name)) b e

  unfinished_under : ((bytes : List ℕ) → new name ≡ Some bytes → IsNoBackup bytes) → StandsUnder new account.kept name (entry_in new name)
  unfinished_under none = closed_under new account.kept name alone (λ b e. closed (new name) none b (of_entry b e))
      (λ bytes there. record {
        level = λ c r reads named. absurd ((none bytes there).no_level c reads);
        copy = λ r header stalled whole named. absurd (true≢false (sym header ∙ (none bytes there).no_header));
      })
      (λ bytes r there applying named. true≢false (sym (and_parts (is_header bytes) (state_of bytes == applying_state) applying).0 ∙ (none bytes there).no_header))
    where
      closed : (file : File) → ((bytes : List ℕ) → file ≡ Some bytes → IsNoBackup bytes) → (b : Base) → owner name file None ≡ Ok b → ⊥
      closed None is b opens = none_opened name b opens
      closed (Some bytes) is b opens = true≢false (sym (opened_header name bytes None b opens) ∙ (is bytes refl).no_header)

  whole_under : (bytes : List ℕ) → new name ≡ Some bytes → IsWholeFile account.kept bytes → StandsUnder new account.kept name (entry_in new name)
  whole_under bytes there one =
      closed_under new account.kept name alone (λ b e. one.closed name b (ap (λ (f : File). owner name f None) (sym there) ∙ of_entry b e))
      (λ other here. subst (HoldsItsRecord account.kept) (some_same bytes other (sym there ∙ here)) one.holds)
      (λ other r here applying named. one.rests (subst (λ (x : List ℕ). IsTrue (is_applying x)) (sym (some_same bytes other (sym there ∙ here))) applying))

  making_under : IsInMaking account.kept (new name) → StandsUnder new account.kept name (entry_in new name)
  making_under (is_free free) = free_under new account.kept name stands.kept_records.not_nil free alone
  making_under (unfinished none) = unfinished_under none
  making_under (whole bytes there is) = whole_under bytes there is

  -- The files stand for the account with what they give under a name where a file is made.
  pub stands_making : IsInMaking account.kept (new name) → Stands new (with_entry name (entry_in new name) account)
  stands_making is = stands_with_both old new account name (entry_in new name) stands plain others (making_under is)

  -- Where it is whole, they stand for it with that file: it is no database, and has no difference file beside it.
  pub stands_closed : (bytes : List ℕ) → new name ≡ Some bytes → IsWholeFile account.kept bytes → Stands new (with_entry name (Plain bytes None) account)
  stands_closed bytes there is =
      subst (λ (e : Entry). Stands new (with_entry name e account)) (closed_entry name bytes (new name) (new (delta_name name)) there alone (is.closed name)) (stands_making (whole bytes there is))

  -- Whole, the file is neither a database nor has it a difference file beside it.
  pub whole_entry : (bytes : List ℕ) → new name ≡ Some bytes → IsOfKept account.kept bytes → entry_in new name ≡ Plain bytes None
  whole_entry bytes there is = closed_entry name bytes (new name) (new (delta_name name)) there alone ((its_whole old account stands bytes is).closed name)

  -- Where it is whole, they stand for it with that file.
  pub stands_whole : (bytes : List ℕ) → new name ≡ Some bytes → IsOfKept account.kept bytes → Stands new (with_entry name (Plain bytes None) account)
  stands_whole bytes there is = subst (λ (e : Entry). Stands new (with_entry name e account)) (whole_entry bytes there is) (stands_making (whole bytes there (its_whole old account stands bytes is)))

file_same : (files : Files) (n : List ℕ) (file : File) → with_file files n file n ≡ file
unfolding with_file
file_same files n file = ap (λ (t : Bool). if t then file else files n) (same_self n)

file_other : (files : Files) (n m : List ℕ) (file : File) → m ≢ n → with_file files n file m ≡ files m
unfolding with_file
file_other files n m file other = by (same_name m n) refl
  where
    by : (t : Bool) → t ≡ same_name m n → (if same_name m n then file else files m) ≡ files m
    by true is = absurd (other (told_text m n true is))
    by false is = ap (λ (t : Bool). if t then file else files m) (sym is)

-- Of files that are made each has a name of its own kind, and no difference file stood beside it.
pub record IsMadeFile (old new : Files) (kept : List Kept) (file : MadeFile) : Type 0 where
  pub plain : is_delta file.0 ≡ false
  pub alone : old (delta_name file.0) ≡ None
  pub is : IsInMaking kept (new file.0)

-- the account with what the files give under these names
abbrev pub with_those : Files → List MadeFile → Account → Account
with_those files [] account = account
with_those files (f ∷ fs) account = with_those files fs (with_entry f.0 (entry_in files f.0) account)

pub those_kept : (files : Files) (made : List MadeFile) (account : Account) → (with_those files made account).kept ≡ account.kept
unfolding with_entry
those_kept files [] account = refl
those_kept files (f ∷ fs) account = those_kept files fs (with_entry f.0 (entry_in files f.0) account)

-- no difference file is made
no_delta : (old new : Files) (rs : List Kept) (made : List MadeFile) → ((f : MadeFile) → Contains made f → IsMadeFile old new rs f) → (n : List ℕ) → IsNoneOf made (delta_name n)
no_delta old new rs made each n bytes there = true≢false (sym (delta_named n) ∙ (each (delta_name n, bytes) there).plain)

-- The files stand for the account with what they give under the names of several files that are made.
pub stands_those : (new : Files) (made : List MadeFile) (old : Files) (account : Account) → Stands old account → ((f : MadeFile) → Contains made f → IsMadeFile old new account.kept f)
    → ((m : List ℕ) → IsNoneOf made m → new m ≡ old m) → Stands new (with_those new made account)
unfolding with_entry
stands_those new [] old account stands each others = stands_files old new account stands (λ m. others m (λ bytes there. none_there (m, bytes) there))
  where
    none_there : (f : MadeFile) → Contains [] f → ⊥
    none_there f there = absurd (omega (arith, there.1))
stands_those new (f ∷ fs) old account stands each others =
    stands_those new fs mid (with_entry f.0 (entry_in new f.0) account) (subst (λ (e : Entry). Stands mid (with_entry f.0 e account)) same_entry mid_stands)
    (λ g there. let one = each g (later g there) in record { plain = one.plain; alone = mid_delta g.0 ∙ one.alone; is = one.is }) rest
  where
    first : IsMadeFile old new account.kept f
    first = each f (0, omega arith, refl)

    later : (g : MadeFile) → Contains fs g → Contains (f ∷ fs) g
    later g there = (suc there.0, omega (arith, there.1), there.2)

    mid : Files
    mid = with_file old f.0 (new f.0)

    mid_delta : (n : List ℕ) → mid (delta_name n) ≡ old (delta_name n)
    mid_delta n = file_other old f.0 (delta_name n) (new f.0) (no_main n f.0 first.plain)

    mid_stands : Stands mid (with_entry f.0 (entry_in mid f.0) account)
    mid_stands =
        stands_making old mid account f.0 stands first.plain (λ m off beside. file_other old f.0 m (new f.0) off) (mid_delta f.0 ∙ first.alone)
        (subst (IsInMaking account.kept) (sym (file_same old f.0 (new f.0))) first.is)

    same_entry : entry_in mid f.0 ≡ entry_in new f.0
    same_entry =
        ap (λ (x : File). entry_of_files f.0 x (mid (delta_name f.0))) (file_same old f.0 (new f.0))
        ∙ ap (λ (x : File). entry_of_files f.0 (new f.0) x) (mid_delta f.0 ∙ sym (others (delta_name f.0) (no_delta old new account.kept (f ∷ fs) each f.0)))

    rest : (m : List ℕ) → IsNoneOf fs m → new m ≡ mid m
    rest m none = elim (decide m f.0) [
      | inl same ↦ ap new same ∙ sym (ap mid same ∙ file_same old f.0 (new f.0))
      | inr off ↦ others m (none_then off) ∙ sym (file_other old f.0 m (new f.0) off)
    ]
      where
        none_then : m ≢ f.0 → IsNoneOf (f ∷ fs) m
        none_then off bytes (zero, low, is) = off (sym (ap (λ (g : MadeFile). g.0) is))
        none_then off bytes (suc k, low, is) = none bytes (k, omega (arith, low), is)
