-- Statements that are done in one turn, and the begin of a backup among them.
use Rattle.std.proofs.Common.{◌≡◌, ℕ, ◌+◌, refl, sym, Some, None}
use Rattle.nb_session.proofs.Common.{Refusal, Scn, Statement, image_scn, Seen, without_guid, begin_turn, IsSingle, begin_single, statement_cases, pages_once, begin_either, IsOneTurn}
use Rattle.nb_model.specs.declared.reply.Reply.TheVariants.{Refused}

-- such a statement leaves nothing to do
pub one_single : (statement : Statement) → IsOneTurn statement → IsSingle statement
one_single =
    statement_cases (λ x. IsOneTurn x → IsSingle x) (λ x on once s session. (pages_once x on s session).next) (λ once. begin_single) (λ once. absurd once) (λ once. absurd once) (λ level name once. absurd once) (λ guid name once. absurd once) (λ name once. absurd once)

-- What is given for the begin of a backup: a GUID, unless it is refused.
module _ (s : Seen) where
  refused_scn : (r : Refusal) (scn : ℕ) → Some (Refused r) ≡ Some (Scn scn) → ⊥
  refused_scn r scn e = cc

  pub begin_gives : (scn : ℕ) → (begin_turn s).reply ≡ Some (Scn scn) → (begin_turn s).given ≡ without_guid s.given
  begin_gives scn = begin_either (λ o. o.reply ≡ Some (Scn scn) → o.given ≡ without_guid s.given) s (λ r is. absurd (refused_scn r scn is)) (λ may is. refl)

  pub begin_refused : (refusal : Refusal) → (begin_turn s).reply ≡ Some (Refused refusal) → (begin_turn s).given ≡ s.given
  begin_refused refusal = begin_either (λ o. o.reply ≡ Some (Refused refusal) → o.given ≡ s.given) s (λ r is. refl) (λ may is. absurd (refused_scn refusal (image_scn s.base.image + 1) (sym is)))

  pub begin_running : (begin_turn s).running ≡ s.running
  begin_running = begin_either (λ o. o.running ≡ s.running) s (λ r. refl) (λ may. refl)

  pub begin_made : (begin_turn s).made ≡ None
  begin_made = begin_either (λ o. o.made ≡ None) s (λ r. refl) (λ may. refl)
