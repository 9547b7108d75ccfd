use Rattle.nb_model.proofs.RawRows.{new_rows, write_rows, free_rows, forced_rows, access_rows}
use Rattle.nb_model.proofs.table_laws.raw_pages_keep_rows.Goals as goal

pub returns-clause-new : goal.returns-clause-new
returns-clause-new c = λ s session header is neat. new_rows s header is neat session

pub returns-clause-write : goal.returns-clause-write
returns-clause-write c = λ s session p text header is neat. write_rows s header is neat session p text

pub returns-clause-free : goal.returns-clause-free
returns-clause-free c = λ s session p header is neat. free_rows s header is neat session p

pub returns-clause-forced : goal.returns-clause-forced
returns-clause-forced c = λ s session on header is neat. forced_rows s header is neat session on

pub returns-clause-access : goal.returns-clause-access
returns-clause-access c = λ s session closed header is neat. access_rows s header is neat session closed
