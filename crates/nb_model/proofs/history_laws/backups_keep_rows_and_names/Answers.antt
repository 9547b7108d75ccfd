use Rattle.nb_model.proofs.HistoryTurns.{rows_along, names_along, start_along, start_place, backup_along, backup_named, begin_along, ends_along, finish_along}
use Rattle.nb_model.proofs.history_laws.backups_keep_rows_and_names.Goals as goal

pub returns-clause-starts : goal.returns-clause-starts
returns-clause-starts c = λ b guid ask header is neat full low sixteen. (
  rows_along b _ (start_along b header is neat full guid ask low sixteen),
  names_along b _ (start_along b header is neat full guid ask low sixteen),
)

pub returns-clause-place : goal.returns-clause-place
returns-clause-place c = λ b guid ask header is neat full low sixteen. start_place b header is neat full guid ask low sixteen

pub returns-clause-row : goal.returns-clause-row
returns-clause-row c = λ b page slot level scn time guid name header is neat place sixteen named. (
  rows_along b _ (backup_along b header is neat page slot place level scn time guid name sixteen named),
  names_along b _ (backup_along b header is neat page slot place level scn time guid name sixteen named),
)

pub returns-clause-named : goal.returns-clause-named
returns-clause-named c = λ b page slot level scn time guid name header is neat place sixteen named. backup_named b header is neat page slot place level scn time guid name sixteen named

pub returns-clause-begins : goal.returns-clause-begins
returns-clause-begins c = λ b guid ask header is neat scn sixteen. names_along b _ (begin_along b header is neat guid ask scn sixteen)

pub returns-clause-ends : goal.returns-clause-ends
returns-clause-ends c = λ b header is neat stalled. names_along b _ (ends_along b header is neat stalled)

pub returns-clause-finishes : goal.returns-clause-finishes
returns-clause-finishes c = λ b header is neat. names_along b _ (finish_along b header is neat)
