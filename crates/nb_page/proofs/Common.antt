-- The definitions that the proofs of this crate speak in, and the laws of other crates that they cite, passed on from one place. Declares nothing.
pub use Rattle.nb_fields.proofs.HeaderLaws.{is_free_file-none, is_free_file-take, is_header-long, is_header-short}
pub use Rattle.nb_fields.proofs.LengthLaws.{fresh_count-is, fresh_count-most, length_after-more, length_after-none}
pub use Rattle.nb_fields.proofs.NumberLaws.{length-bytes_of, number_of-bytes_of}
pub use Rattle.nb_fields.proofs.PageLaws.{drop-page_of, drop-page_of-none, filled, generation_of-page_of, head_written, kind_of-page_of, number_of_page-page_of, padded-append, padded-append-zeros, padded_whole, part-append, stamp_of-page_of, stamped-rest, stamped-zeros, text_of-with_payload, with_part-padded, with_part-padded_next, with_payload-page_of, written_next}
pub use Rattle.nb_fields.proofs.PartLaws.{length-part, length-with_part, number_in-take, part-with_part_before, put_mid-with_part, take-with_part}
pub use Rattle.nb_fields.proofs.SizeLaws.{size_facts}
unfoldable pub use Rattle.nb_fields.specs.Bytes.{bytes_of, number_in, number_of, padded}
pub use Rattle.nb_fields.specs.Bytes.{is_zeros, part, with_part}
unfoldable pub use Rattle.nb_fields.specs.Free.{is_free_file}
pub use Rattle.nb_fields.specs.Free.{is_unfinished}
unfoldable pub use Rattle.nb_fields.specs.Fresh.{fresh_count, fresh_kind, fresh_page, fresh_payload, length_after}
pub use Rattle.nb_fields.specs.Fresh.{ShowsFresh}
unfoldable pub use Rattle.nb_fields.specs.Header.{is_header, is_marked}
pub use Rattle.nb_fields.specs.Header.{is_sound, pending_of, signature, state_of}
unfoldable pub use Rattle.nb_fields.specs.Page.{head_of, page_of, stamped, with_payload}
pub use Rattle.nb_fields.specs.Page.{generation_of}
unfoldable pub use Rattle.nb_fields.specs.Payloads.{control_block, data_payload, header_payload, inventory_payload, same_entries, scn_payload, taken_bits, text_payload}
pub use Rattle.nb_fields.specs.Payloads.{text_of}
unfoldable pub use Rattle.nb_fields.specs.Places.{is_system_place, plain_places}
pub use Rattle.nb_fields.specs.Places.{bits_in, entries_in, is_page_size}
pub use Rattle.nb_fields.specs.States.{applying_state, stalled_state}
pub use Rattle.nb_host.specs.Files.{File, Files}
unfoldable pub use Rattle.nb_page.specs.Free.{has_delta, is_free_name}
unfoldable pub use Rattle.nb_page.specs.Header.{header_in}
pub use Rattle.nb_page.specs.Header.{HasForm}
pub use Rattle.nb_page.specs.declared.header.Header.{Header}
pub use Rattle.std.proofs.lemmas.Bool.{and_from, and_left, and_right, cases_eq, eq-eqb, le-leb, lt-ltb, ne_eqb, not_from_false, or_left, or_right}
pub use Rattle.std.proofs.lemmas.List.{append-nil, drop-append-le, drop-drop, drop_all, drop_at, length-replicate, length-set, length-take-le, replicate-append-replicate, take-append-drop, take-append-le, take-replicate, take_all, take_at, take_more_set}
pub use borrow.Rule.Slice.PartMut.{put_mid}
