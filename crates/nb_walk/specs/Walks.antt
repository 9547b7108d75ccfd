-- A walk over a chain.
use Rattle.std.specs.Prelude.{ℕ, not}
use Rattle.nb_host.specs.declared.refusals.Refusal.TheVariants.{NotDatabase}
use Rattle.nb_model.specs.Image.{Image}
use Rattle.nb_model.specs.Causes.{Cause, when}
use Rattle.nb_model.specs.Chains.{Chain, Catalogue, History, RowsFrom, is_in_chain}
use Rattle.nb_walk.specs.declared.chain.Chain as chain
use Rattle.nb_walk.specs.declared.chain.Chain.TheVariants.{Tables, Backups, Rows}

-- the chain of the model
abbrev pub chain_by : chain.Chain → Chain
chain_by Tables = Catalogue
chain_by Backups = History
chain_by (Rows first) = RowsFrom first

-- the page isn't one of the chain
abbrev pub not_linked : Chain → Image → ℕ → Cause
not_linked chain image p = when (not (is_in_chain chain image p)) (NotDatabase p)
