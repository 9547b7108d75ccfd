use Rattle.std.proofs.Common.{inl}
use Rattle.nb_copy.proofs.Common.{remade_weaker, joined, IsBlank, IsFreeOr, quiet_alone, touches_quiet, blank_free}
use Rattle.nb_copy.proofs.page_copy.PageCopy.turn.Goals as goal

pub returns-in_err-take_first-clause-left : goal.returns-in_err-take_first-clause-left
returns-in_err-take_first-clause-left g c t tells open_ stalled copying = quiet_alone _ (IsFreeOr (joined t.base.frozen)) _ _ c.in_err-take_first.ensures.quiet

pub returns-in_err-copy_page-clause-left : goal.returns-in_err-copy_page-clause-left
returns-in_err-copy_page-clause-left g c t tells open_ stalled copying = remade_weaker _ _ _ _ IsBlank (IsFreeOr (joined t.base.frozen)) (c.copy_page.ensures.left t.base.frozen tells copying.begun) (λ f blank. inl (blank_free f blank))

pub returns-in_ok-take_first-clause-left : goal.returns-in_ok-take_first-clause-left
returns-in_ok-take_first-clause-left g c t tells open_ stalled copying = quiet_alone _ (IsFreeOr (joined t.base.frozen)) _ _ c.in_ok-take_first.ensures.quiet

pub returns-in_ok-copy_page-clause-left : goal.returns-in_ok-copy_page-clause-left
returns-in_ok-copy_page-clause-left g c t tells open_ stalled copying = remade_weaker _ _ _ _ IsBlank (IsFreeOr (joined t.base.frozen)) (c.in_ok-copy_page.ensures.left t.base.frozen tells copying.begun) (λ f blank. inl (blank_free f blank))

pub returns-in_err-take_first-clause-touches : goal.returns-in_err-take_first-clause-touches
returns-in_err-take_first-clause-touches g c tells = touches_quiet _ _ _ c.in_err-take_first.ensures.quiet

pub returns-in_ok-take_first-clause-touches : goal.returns-in_ok-take_first-clause-touches
returns-in_ok-take_first-clause-touches g c tells = touches_quiet _ _ _ c.in_ok-take_first.ensures.quiet
