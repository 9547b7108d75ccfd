use Rattle.std.proofs.Common.{map, string_bytes}
use Rattle.nb_words.proofs.Common.{app_of, fault_of, line}
use Rattle.nb_words.proofs.LineLaws.{matches_as, fails_as, line_is_simple, line_is_free, fault_at_err, no_fault_at_ok}
use Rattle.nb_words.proofs.line.parsed.Goals as goal

pub returns-clause-matches : goal.returns-clause-matches
returns-clause-matches c =
    matches_as (app_of c.in_ok-command.command) line (map string_bytes c.args.words.now) c.try_get_matches_from.result c.in_ok-command.ensures line_is_simple c.try_get_matches_from.ensures.matches

pub returns-clause-fault : goal.returns-clause-fault
returns-clause-fault c =
    let words = map string_bytes c.args.words.now in
    fault_at_err (fault_of line words) c.try_get_matches_from.result (fails_as (app_of c.in_ok-command.command) line words c.try_get_matches_from.result c.in_ok-command.ensures line_is_free c.try_get_matches_from.ensures.kinds)

pub returns-clause-no_fault : goal.returns-clause-no_fault
returns-clause-no_fault c =
    let words = map string_bytes c.args.words.now in
    no_fault_at_ok (fault_of line words) c.try_get_matches_from.result (fails_as (app_of c.in_ok-command.command) line words c.try_get_matches_from.result c.in_ok-command.ensures line_is_free c.try_get_matches_from.ensures.kinds)
