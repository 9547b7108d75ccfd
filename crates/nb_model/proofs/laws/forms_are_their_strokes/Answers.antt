use Rattle.nb_model.proofs.Common.{drafted}
use Rattle.nb_model.proofs.DraftLaws.{IsOf, drafted_is, drafts_are, put_keeps, set_bit_keeps, new_keeps}
use Rattle.nb_model.proofs.laws.forms_are_their_strokes.Goals as goal

pub returns-clause-put : goal.returns-clause-put
returns-clause-put c = λ b p kind payload. (put_keeps (IsOf b) (drafts_are b) p kind payload (drafted b.image) (drafted_is b)).is

pub returns-clause-take : goal.returns-clause-take
returns-clause-take c = λ b p. (set_bit_keeps (IsOf b) (drafts_are b) 0 p (drafted b.image) (drafted_is b)).is

pub returns-clause-give : goal.returns-clause-give
returns-clause-give c = λ b p. (set_bit_keeps (IsOf b) (drafts_are b) 1 p (drafted b.image) (drafted_is b)).is

pub returns-clause-new : goal.returns-clause-new
returns-clause-new c = λ b kind payload. (new_keeps (IsOf b) (drafts_are b) _ kind payload (drafted b.image) (drafted_is b)).is
