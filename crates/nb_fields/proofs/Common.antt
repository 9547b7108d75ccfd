-- The definitions that the proofs of this crate speak in, and the laws of other crates that they cite, passed on from one place. Declares nothing.
unfoldable pub use Rattle.nb_fields.specs.Bytes.{bytes_of, number_in, number_of, padded}
pub use Rattle.nb_fields.specs.Bytes.{AreApart, is_zeros, part, with_part}
unfoldable pub use Rattle.nb_fields.specs.Free.{is_free_file}
pub use Rattle.nb_fields.specs.Free.{is_unfinished}
unfoldable pub use Rattle.nb_fields.specs.Fresh.{fresh, fresh_count, fresh_kind, fresh_page, fresh_payload, length_after, next_plain}
pub use Rattle.nb_fields.specs.Fresh.{ShowsFresh}
unfoldable pub use Rattle.nb_fields.specs.Header.{is_header, is_marked}
pub use Rattle.nb_fields.specs.Header.{is_sound, pending_of, scn_of, size_of, state_of}
pub use Rattle.nb_fields.specs.Kinds.{code_of, raw_kind}
unfoldable pub use Rattle.nb_fields.specs.Page.{head_of, page_of, stamped, with_payload}
pub use Rattle.nb_fields.specs.Page.{generation_of}
unfoldable pub use Rattle.nb_fields.specs.Payloads.{inventory_payload, same_entries, scn_payload, taken_bits, text_payload}
pub use Rattle.nb_fields.specs.Payloads.{bit_of, entry_of, text_of}
unfoldable pub use Rattle.nb_fields.specs.Places.{is_inventory_place, is_scn_place, is_system_place, plain_places}
pub use Rattle.nb_fields.specs.Places.{bits_in, entries_in, inventory_place, is_page_size, scn_place, slots_in}
pub use Rattle.std.proofs.Math.Nat.{div-div-eq-div-mul, div-eq_of_lt, mod-eq_of_lt, mul-add-mod_self_right, mul-div_cancel, mul-mod_left, pow-suc}
pub use Rattle.std.proofs.lemmas.Bool.{and_from, and_parts, cases_Bool, cases_lt, cond-false, cond-true, cond_both, eq-eqb, eqb-true, false_from_ne_true, le-leb, lt-leb, lt-ltb, ne_eqb, or_cases, or_from, or_left, or_right}
pub use Rattle.std.proofs.lemmas.List.{append-nil, drop-append-le, drop-drop, drop-replicate, drop-take, drop_all, drop_at, get_or-append_right, get_or-drop, get_or-replicate, get_or-take, get_or_append_left, get_or_at, length-replicate, length-take-le, replicate-append-replicate, take-append-le, take-replicate, take-take, take_all, take_at}
pub use Rattle.std.specs.Int.{bit_at, from_le_bytes, to_le_bytes, w64}
pub use borrow.Rule.Slice.PartMut.{put_mid}
