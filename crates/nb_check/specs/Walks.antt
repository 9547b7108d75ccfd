-- What a walk over the catalogue comes by.
use Rattle.std.specs.Prelude.{List}
use Rattle.nb_model.specs.Image.{Page}
use Rattle.nb_model.specs.Chains.{Chain, slots_in, spots_on}
use Rattle.nb_model.specs.Rows.{used, table_chains}

-- the chains of the tables that a page of the catalogue names
abbrev pub chains_on : Page → List Chain
chains_on page = table_chains (used (spots_on 0 0 (slots_in page)))
