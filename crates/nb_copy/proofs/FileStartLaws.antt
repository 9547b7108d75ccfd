-- The file of a backup that has begun: whole it will be that of what the begin has kept.
use Rattle.std.proofs.Common.{◌≡◌, ◌≢◌, ℕ, zero, suc, ◌<◌, ◌≤◌, List, length, refl, sym, ap, subst, ◌∙◌, arith, Bool, true, false, IsTrue, Some}
use Rattle.nb_copy.proofs.Common.{ne_eqb, is_page_size, World, LevelHead, head_of, Image, image_size, joined, level_bytes, changed, file_for, file_of, count_in, Backing, IsOfSize, FileCopy, Pages, Copying, LevelCopying, IsHeaded, IsMade, IsNewFile, IsStartedFile, file_count, file_next, Backed, IsBackingUp, ask_by}
use Rattle.nb_copy.specs.declared.file_copy.FileCopy.TheVariants.{Level}
use Rattle.nb_copy.proofs.CopyLaws.{begun_made}
use Rattle.nb_copy.proofs.FileCopyLaws.{IsFrozenOf}

-- it was never dealt with, and knows how many pages are frozen
pub file_first : (name : List ℕ) (bare head : LevelHead) (count : ℕ) (f g : FileCopy) → IsNewFile name bare f → IsStartedFile f g head count → (file_count g ≡ count) × (file_next g ≡ 0)
file_first name bare head count (Pages f) (Pages g) new started = (ap (λ (c : Copying). c.count) started, ap (λ (c : Copying). c.next) started ∙ new.2)
file_first name bare head count (Level f) (Level g) new started = (ap (λ (c : LevelCopying). c.count) started, ap (λ (c : LevelCopying). c.next) started ∙ new.2)
file_first name bare head count (Pages f) (Level g) new started = absurd started
file_first name bare head count (Level f) (Pages g) new started = absurd started

-- the file of a level 0, and of a further level
pages_file : (level scn previous_scn : ℕ) (guid previous : List ℕ) (frozen : Image) → level ≡ 0
    → joined frozen ≡ file_of 102 (record { guid = guid; scn = scn; ask = Some (record { level = level; previous = previous; previous_scn = previous_scn }); image = frozen })
unfolding file_of file_for
pages_file zero scn previous_scn guid previous frozen e = refl
pages_file (suc level) scn previous_scn guid previous frozen e = absurd (omega (arith, e))

not_zero : (level : ℕ) → 1 ≤ level → level ≢ 0
not_zero level some e = absurd (omega (arith, some, e))

level_file : (level scn previous_scn size : ℕ) (guid previous : List ℕ) (frozen : Image) → 1 ≤ level → size ≡ image_size frozen
    → level_bytes 102 (record { level = level; guid = guid; previous = previous; size = size; scn = scn; previous_scn = previous_scn }) (changed previous_scn frozen)
    ≡ file_of 102 (record { guid = guid; scn = scn; ask = Some (record { level = level; previous = previous; previous_scn = previous_scn }); image = frozen })
unfolding file_of file_for
level_file level scn previous_scn size guid previous frozen some e =
    ap (λ (n : ℕ). level_bytes 102 (record { level = level; guid = guid; previous = previous; size = n; scn = scn; previous_scn = previous_scn }) (changed previous_scn frozen)) e
    ∙ ap
    (λ (t : Bool). elim t as (λ z. List ℕ) [
      | true ↦ joined frozen
      | false ↦ level_bytes 102 (record { level = level; guid = guid; previous = previous; size = image_size frozen; scn = scn; previous_scn = previous_scn }) (changed previous_scn frozen)
    ])
    (sym (ne_eqb level 0 (not_zero level some)))

pages_count : (level scn previous_scn : ℕ) (guid previous : List ℕ) (frozen : Image) → level ≡ 0
    → length frozen ≡ count_in (record { guid = guid; scn = scn; ask = Some (record { level = level; previous = previous; previous_scn = previous_scn }); image = frozen }) (record { level = level; previous = previous; previous_scn = previous_scn })
unfolding count_in
pages_count zero scn previous_scn guid previous frozen e = refl
pages_count (suc level) scn previous_scn guid previous frozen e = absurd (omega (arith, e))

level_count : (level scn previous_scn : ℕ) (guid previous : List ℕ) (frozen : Image) → 1 ≤ level
    → length (changed previous_scn frozen)
    ≡ count_in (record { guid = guid; scn = scn; ask = Some (record { level = level; previous = previous; previous_scn = previous_scn }); image = frozen }) (record { level = level; previous = previous; previous_scn = previous_scn })
unfolding count_in
level_count level scn previous_scn guid previous frozen some =
    ap (λ (t : Bool). elim t as (λ z. ℕ) [ true ↦ length frozen | false ↦ length (changed previous_scn frozen) ]) (sym (ne_eqb level 0 (not_zero level some)))

module _ (w : World) (name : List ℕ) (bare head : LevelHead) (guid : List ℕ) (scn count : ℕ) (frozen : Image) (page slot : ℕ) (head_is : head ≡ record bare { guid = guid; scn = scn }) (nine : bare.level ≤ 9) (sixteen : length guid ≡ 16) (previous : length bare.previous ≡ 16)
    (four : scn < 4294967296) (wide : IsTrue (is_page_size bare.page_size)) (size : bare.page_size ≡ image_size frozen) (counted : count ≡ length frozen) (is : IsFrozenOf (image_size frozen) frozen) (five : 5 ≤ length frozen) (made : IsMade w name) where
  abbrev backing : Backing
  backing = record { name = name; ask = ask_by head; scn = head.scn; guid = head.guid; page = page; slot = slot }

  abbrev copier : FileCopy → Backed
  copier g = record { backing = backing; page_size = head.page_size; file = g }

  level_is : head.level ≡ bare.level
  level_is = ap (λ (h : LevelHead). h.level) head_is

  formed : IsHeaded (head_of head)
  formed = record {
    guid = ap (λ (h : LevelHead). length h.guid) head_is ∙ sixteen;
    previous = ap (λ (h : LevelHead). length h.previous) head_is ∙ previous;
    size = subst (λ (h : LevelHead). IsTrue (is_page_size h.page_size)) (sym head_is) wide;
  }

  pages_start : (f g : Copying) → IsNewFile name bare (Pages f) → IsStartedFile (Pages f) (Pages g) head count → IsBackingUp w (copier (Pages g)) frozen
  pages_start f g new started =
      let next : g.next ≡ 0 = ap (λ (c : Copying). c.next) started ∙ new.2 in
      let sized : image_size frozen ≡ g.size = sym (ap (λ (c : Copying). c.size) started ∙ new.1 ∙ size) in
      record {
        name = ap (λ (c : Copying). c.name) started ∙ new.0;
        whole = pages_file head.level head.scn head.previous_scn head.guid head.previous frozen (level_is ∙ new.3);
        count = pages_count head.level head.scn head.previous_scn head.guid head.previous frozen (level_is ∙ new.3);
        goes = record {
          of = record {
            long = sym (ap (λ (c : Copying). c.count) started ∙ counted);
            least = is.least;
            most = is.most;
            sizes = subst (λ (n : ℕ). IsOfSize n frozen) sized is.sizes;
          };
          begun = begun_made w g frozen next (subst (IsMade w) (sym (ap (λ (c : Copying). c.name) started ∙ new.0)) made);
        };
      }

  level_start : (f g : LevelCopying) → IsNewFile name bare (Level f) → IsStartedFile (Level f) (Level g) head count → IsBackingUp w (copier (Level g)) frozen
  level_start f g new started =
      let next : g.next ≡ 0 = ap (λ (c : LevelCopying). c.next) started ∙ new.2 in
      let headed : g.file.head ≡ head =
      ap (λ (c : LevelCopying). c.file.head) started ∙ ap (λ (h : LevelHead). record h { guid = head.guid; scn = head.scn }) new.1
      ∙ ap (λ (h : LevelHead). record bare { guid = h.guid; scn = h.scn }) head_is ∙ sym head_is in
      let some : 1 ≤ bare.level = new.4 in
      let sized : head.page_size ≡ image_size frozen = ap (λ (h : LevelHead). h.page_size) head_is ∙ size in
      record {
        name = ap (λ (c : LevelCopying). c.file.name) started ∙ new.0;
        whole = ap (λ (h : LevelHead). level_bytes 102 (head_of h) (changed h.previous_scn frozen)) headed
            ∙ level_file head.level head.scn head.previous_scn head.page_size head.guid head.previous frozen (omega (arith, some, level_is)) sized;
        count = ap (λ (h : LevelHead). length (changed h.previous_scn frozen)) headed ∙ level_count head.level head.scn head.previous_scn head.guid head.previous frozen (omega (arith, some, level_is));
        goes = record {
          of = record {
            long = sym (ap (λ (c : LevelCopying). c.count) started ∙ counted);
            least = five;
            most = is.most;
            sizes = is.sizes;
            size = ap (λ (h : LevelHead). h.page_size) headed ∙ sized;
            formed = subst (λ (h : LevelHead). IsHeaded (head_of h)) (sym headed) formed;
          };
          fresh = λ none. record {
            no_run = ap (λ (c : LevelCopying). c.file.run.count) started ∙ new.3.no_run;
            no_page = ap (λ (c : LevelCopying). c.file.written) started ∙ new.3.no_page;
          };
          made = λ none. subst (IsMade w) (sym (ap (λ (c : LevelCopying). c.file.name) started ∙ new.0)) made;
          begun = λ one. absurd (omega (arith, one, next));
        };
      }

  pub file_starts : (f g : FileCopy) → IsNewFile name bare f → IsStartedFile f g head count → IsBackingUp w (copier g) frozen
  file_starts (Pages f) (Pages g) new started = pages_start f g new started
  file_starts (Level f) (Level g) new started = level_start f g new started
  file_starts (Pages f) (Level g) new started = absurd started
  file_starts (Level f) (Pages g) new started = absurd started
