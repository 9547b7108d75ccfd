-- The definitions that the proofs of this crate speak in, and the laws of other crates that they cite, passed on from one place. Declares nothing.
pub use Rattle.nb_alloc.specs.Data.{is_data, not_data}
unfoldable pub use Rattle.nb_fields.specs.Bytes.{number_in, number_of}
pub use Rattle.nb_fields.specs.Bytes.{part}
pub use Rattle.nb_fields.specs.Kinds.{data_kind}
pub use Rattle.nb_host.proofs.PlainLaws.{none_some, some_none}
pub use Rattle.nb_host.specs.declared.refusals.Refusal.{Refusal}
pub use Rattle.nb_host.specs.declared.refusals.Refusal.TheVariants.{NotDatabase}
pub use Rattle.nb_model.proofs.ReadLaws.{eq_no, eq_yes}
pub use Rattle.nb_model.proofs.TurnCases.{is_so}
pub use Rattle.nb_model.specs.Causes.{broken_at, not_kind, when}
unfoldable pub use Rattle.nb_model.specs.Chains.{first_such, found_pages, free_spot, is_in_chain, is_slot, pages_of, row_spot, slots_from, slots_in, spots, spots_of, spots_on, walk}
pub use Rattle.nb_model.specs.Chains.{Chain, Slot, Spot, first_of, is_filled, is_used, last_of, linked, next_in, owner_in, owner_of}
pub use Rattle.nb_model.specs.Image.{Image, Page, page_at}
pub use Rattle.nb_walk.specs.Walks.{chain_by, not_linked}
pub use Rattle.std.proofs.lemmas.Bool.{and_right}
pub use Rattle.std.specs.List.{list_all}
