-- Why no backup may begin, test by test.
use Rattle.std.proofs.Common.{◌≡◌, ◌+◌, ℕ, zero, suc, List, [], ◌∷◌, replicate, refl, sym, ap, subst, ◌∙◌, arith, Bool, true, false, min, Option, Some, None, is_none, not, nat_eq}
use Rattle.nb_copy.proofs.Common.{normal_state, Refusal, Access, FileExists, NoHistory, Ask, Image, is_read_only, ask_of, level_behind, Cause, first_cause, when, read_only, not_state, not_free, is_free_entry, broken_at, History, Spot, pages_of, backup_spot, level_in, guid_in, Seen, HistoryRow, ask_in, earlier_row, row_cause, earlier_cause, file_cause, Level, first_here, first_next, no_cause, one_cause}
use Rattle.nb_host.specs.Names.{same_name}
use Rattle.nb_engine.specs.History.{row_at}
use Rattle.nb_engine.proofs.FreeLaws.{closed_cause, open_cause}

-- the tests of the database and of the file's name
module _ (s : Seen) (name : List ℕ) where
  abbrev image : Image
  image = s.base.image

  pub closed : is_read_only image ≡ true → file_cause s name ≡ Some (Access 1)
  closed e = first_here (read_only image) (not_state normal_state image ∷ not_free name (s.entry name) ∷ []) (Access 1) (closed_cause image e)

  module _ (may : is_read_only image ≡ false) where
    opened : file_cause s name ≡ first_cause (not_state normal_state image ∷ not_free name (s.entry name) ∷ [])
    opened = first_next (read_only image) (not_state normal_state image ∷ not_free name (s.entry name) ∷ []) (open_cause image may)

    pub busy : (r : Refusal) → not_state normal_state image ≡ Some r → file_cause s name ≡ Some r
    busy r e = opened ∙ first_here (not_state normal_state image) (not_free name (s.entry name) ∷ []) r e

    module _ (normal : not_state normal_state image ≡ None) where
      left : file_cause s name ≡ first_cause (not_free name (s.entry name) ∷ [])
      left = opened ∙ first_next (not_state normal_state image) (not_free name (s.entry name) ∷ []) normal

      pub there : is_free_entry (s.entry name) ≡ false → file_cause s name ≡ Some (FileExists name)
      there e = left ∙ first_here (not_free name (s.entry name)) [] (FileExists name) (ap (λ (b : Bool). when (not b) (FileExists name)) e)

      pub allowed : is_free_entry (s.entry name) ≡ true → file_cause s name ≡ None
      allowed e = left ∙ first_next (not_free name (s.entry name)) [] (ap (λ (b : Bool). when (not b) (FileExists name)) e) ∙ no_cause

-- level 0 goes on from no backup
pub none_asked : (level : ℕ) (image : Image) → level ≡ 0 → ◌≡◌ {A = Ask} (record { level = level; previous = replicate 16 0; previous_scn = 0 }) (ask_in (Level level) image)
unfolding ask_of
none_asked zero image e = refl
none_asked (suc level) image e = absurd (omega (arith, e))

-- the others go on from a row of the history
module _ (image : Image) (row : Option Spot) (missing : Refusal) where
  pub chain_broken : (r : Refusal) → broken_at (pages_of History image) ≡ Some r → row_cause image row missing ≡ Some r
  chain_broken r broken = first_here (broken_at (pages_of History image)) (when (is_none row) missing ∷ []) r broken

  module _ (linked : broken_at (pages_of History image) ≡ None) where
    found : (t : Bool) → is_none row ≡ t → row_cause image row missing ≡ first_cause (when t missing ∷ [])
    found t is = first_next (broken_at (pages_of History image)) (when (is_none row) missing ∷ []) linked ∙ ap (λ (b : Bool). first_cause (when b missing ∷ [])) is

    pub none_found : (o : Option HistoryRow) → o ≡ None → o ≡ row_at row → row_cause image row missing ≡ Some missing
    none_found o none is = found true (by row (sym none ∙ is)) ∙ first_here (Some missing) [] missing refl
      where
        by : (x : Option Spot) → None ≡ row_at x → is_none x ≡ true
        by None d = refl
        by (Some spot) d = cc

    pub one_found : (o : Option HistoryRow) (it : HistoryRow) → o ≡ Some it → o ≡ row_at row → row_cause image row missing ≡ None
    one_found o it some is = found false (by row (sym some ∙ is)) ∙ first_next None [] refl ∙ no_cause
      where
        by : (x : Option Spot) → Some it ≡ row_at x → is_none x ≡ false
        by None d = cc
        by (Some spot) d = refl

-- what is asked of its copy
module _ (row : Option Spot) (o : Option HistoryRow) (it : HistoryRow) (some : o ≡ Some it) (is : o ≡ row_at row) where
  abbrev the_row : Option HistoryRow → HistoryRow
  the_row None = it
  the_row (Some r) = r

  pub row_asked : (level : ℕ) → ◌≡◌ {A = Ask} (record { level = level; previous = it.guid; previous_scn = it.scn }) (ask_of level row)
  unfolding ask_of
  row_asked level = by row (sym some ∙ is)
    where
      by : (x : Option Spot) → Some it ≡ row_at x → ◌≡◌ {A = Ask} (record { level = level; previous = it.guid; previous_scn = it.scn }) (ask_of level x)
      by None d = cc
      by (Some spot) d = ap (λ (x : Option HistoryRow). record { level = level; previous = (the_row x).guid; previous_scn = (the_row x).scn }) d

  pub row_level : level_behind row ≡ min (it.level + 1) 9
  unfolding level_behind
  row_level = by row (sym some ∙ is)
    where
      by : (x : Option Spot) → Some it ≡ row_at x → level_behind x ≡ min (it.level + 1) 9
      by None d = cc
      by (Some spot) d = ap (λ (x : Option HistoryRow). min ((the_row x).level + 1) 9) (sym d)

-- one level more, and 9 at most
pub level_more : (n : ℕ) → min n 8 + 1 ≡ min (n + 1) 9
level_more n = omega arith

-- a level goes on from the latest one of the level below
abbrev pub row_below : (below : ℕ) → Image → Option Spot
row_below below image = backup_spot (λ row. nat_eq (level_in row) below) image

module _ (level below : ℕ) (image : Image) (e : level ≡ suc below) where
  pub level_cause : earlier_cause (Level level) image ≡ row_cause image (row_below below image) (NoHistory below)
  level_cause = ap (λ (n : ℕ). earlier_cause (Level n) image) e

  pub level_asked : ask_of level (row_below below image) ≡ ask_in (Level level) image
  level_asked = subst (λ (n : ℕ). ask_of level (row_below below image) ≡ ask_of level (earlier_row (Level n) image)) (sym e) refl

-- a backup since a GUID from the latest one of it
abbrev pub row_of_guid : (guid : List ℕ) → Image → Option Spot
row_of_guid guid image = backup_spot (λ row. same_name (guid_in row) guid) image

pub after_none : (c d : Cause) → c ≡ None → d ≡ first_cause (c ∷ d ∷ [])
after_none c d none = sym (first_next c (d ∷ []) none ∙ one_cause d)
