-- The definitions that the proofs of this crate speak in, and the laws of other crates that they cite, passed on from one place. Declares nothing.
pub use Rattle.nb_alloc.proofs.DoesLaws.{seeing, tested_does, tested_on, valued_does}
pub use Rattle.nb_alloc.proofs.TestLaws.{kind_is, kind_other, kind_past, kind_read}
pub use Rattle.nb_fields.proofs.PlaceLaws.{bits-least}
pub use Rattle.nb_fields.specs.Kinds.{inventory_kind}
pub use Rattle.nb_fields.specs.Page.{kind_of}
pub use Rattle.nb_fields.specs.Places.{bits_in, inventory_place, is_page_size}
pub use Rattle.nb_host.proofs.PlainLaws.{first_twice}
pub use Rattle.nb_host.specs.declared.refusals.Refusal.{Refusal}
unfoldable pub use Rattle.nb_model.specs.Backups.{all_needed, count_from, pages_turn, taken_of}
pub use Rattle.nb_model.specs.Backups.{is_other}
unfoldable pub use Rattle.nb_model.specs.Causes.{lowest_broken}
pub use Rattle.nb_model.specs.Causes.{Cause, not_kind, not_of_form, when}
unfoldable pub use Rattle.nb_model.specs.Forms.{is_free_page, is_kind, needs, needs_inventories}
pub use Rattle.nb_model.specs.Forms.{Draft, drafted}
pub use Rattle.nb_model.specs.Image.{Image, Page, image_size, page_at}
unfoldable pub use Rattle.nb_model.specs.Pages.{image_turn}
pub use Rattle.nb_model.specs.Trail.{Trail}
pub use Rattle.nb_shown.specs.Counts.{counts_below, inventories_below, is_taken_of, one_if, sum_of, with_page}
pub use Rattle.nb_shown.specs.Replies.{bytes_of_image, image_shown, pages_shown}
pub use Rattle.nb_shown.specs.declared.counts.PageCounts.{PageCounts}
pub use Rattle.nb_state.proofs.LooksLaws.{looks_begun, looks_then}
pub use Rattle.nb_state.proofs.MakesLaws.{goes_nowhere}
pub use Rattle.nb_state.specs.Looks.{Looks}
pub use Rattle.nb_state.specs.Open.{Held, IsOpen}
pub use Rattle.sha2.specs.Hashers.{Holds256}
pub use Rattle.std.proofs.Math.Nat.{le-div_iff_mul-le}
