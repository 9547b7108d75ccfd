use Rattle.std.proofs.Common.{◌≡◌, ℕ, ◌+◌, [], ◌∷◌, ◌++◌, drop, get_or, refl, ap, ◌∙◌, append_assoc, arith}
use Rattle.nb_script.proofs.Common.{decimal, Bytes, spaced_sessions}
use Rattle.nb_script.proofs.Prints.{next_written, all_written, no_sessions, first_session}
use Rattle.nb_script.proofs.printing.put_sessions.Goals as goal

pub loop-session-preserved : goal.loop-session-preserved
loop-session-preserved c =
    let l = c.loop-session in
    let i = l.session-index in
    let ss = c.args.sessions.now in
    let s : ℕ = get_or ss i 0 in
    let written : c.put_number.new.out.items ≡ l.out.items ++ (32 ∷ decimal s) =
    c.in_ok-put_number.ensures ∙ ap (λ n. c.extend_from_slice.new.self.items ++ decimal n) c.from.ensures ∙ ap (λ (t : Bytes). t ++ decimal s) c.in_ok-extend_from_slice.ensures.items ∙ append_assoc l.out.items (32 ∷ []) (decimal s) in
    ap (λ (t : Bytes). t ++ spaced_sessions (drop (i + 1) ss)) written
    ∙ next_written spaced_sessions l.out.items (32 ∷ decimal s) ss i 0 s (omega arith) refl (first_session s (drop (i + 1) ss)) ∙ l.invariant

pub returns : goal.returns
returns c = all_written spaced_sessions c.loop-session.out.items c.args.sessions.now c.loop-session.session-index (omega arith) no_sessions ∙ c.loop-session.invariant
