-- While no SCN page waits, what the two files hold is what may be left of what was seen.
use Rattle.std.proofs.Common.{◌≡◌, ℕ, List, Ok}
use Rattle.nb_base.proofs.Common.{File, Files, World, weaker_has, reached_weaker, Base, delta_name, owner, Stroke, Trail, settled, StandsOn, StandsIn, ShowsIn, after_stroke, itself_firm, StandsFirmOn, StandsFirm, OfFiles, StrikesFirm, Strikes}
use Rattle.nb_model.proofs.CoveredLaws.{firm_left}

-- at a settled point they hold the database
pub shows_firm : (name : List ℕ) (b : Base) (m d : File) → owner name m d ≡ Ok b → StandsFirmOn name (settled b) m d
shows_firm name b m d opens = record { base = b; opens = opens; left = itself_firm (settled b) }

-- and they may hold what was seen last
pub last_firm : (name : List ℕ) (t : Trail) (files : Files) → ShowsIn name t.base files → StandsFirm name t files
last_firm name t files shows = record { base = t.base; opens = shows; left = itself_firm t }

pub stands_left : (name : List ℕ) (t : Trail) (m d : File) → StandsFirmOn name t m d → StandsOn name t m d
stands_left name t m d s = record { base = s.base; opens = s.opens; left = firm_left t s.base s.left }

pub strikes_left : (old new : World) (name : List ℕ) (t : Trail) (ss : List Stroke) → StrikesFirm old new name t ss → Strikes old new name t ss
strikes_left old new name t ss is = weaker_has old new (OfFiles name) _ _ is
    (λ files. reached_weaker after_stroke (StandsFirm name) (StandsIn name) t ss files (λ u. stands_left name u (files name) (files (delta_name name))))
