-- Every definition, opened: what computes a page by `refl` says `unfolding opened`.
use Rattle.std.specs.Prelude.{ℕ}
use Rattle.nb_fields.specs.Bytes.{number_of, bytes_of, number_in, padded}
use Rattle.nb_fields.specs.Places.{is_inventory_place, is_scn_place, is_system_place, plain_places}
use Rattle.nb_fields.specs.Page.{head_of, page_of, with_payload, stamped}
use Rattle.nb_fields.specs.Header.{is_marked, is_header}
use Rattle.nb_fields.specs.Payloads.{control_block, header_payload, taken_bits, inventory_payload, same_entries, scn_payload, data_payload, text_payload}
use Rattle.nb_fields.specs.Fresh.{next_plain, length_after, fresh_count, fresh_kind, fresh_payload, fresh_page, fresh}
use Rattle.nb_fields.specs.Free.{is_free_file}
use Rattle.nb_fields.specs.Table.{page_in, slot_place, alloc_place, entries_from, groups_from, table_of}

unfoldable pub opened : ℕ
unfolding number_of bytes_of number_in padded is_inventory_place is_scn_place is_system_place plain_places head_of page_of with_payload stamped is_marked is_header control_block header_payload taken_bits inventory_payload same_entries scn_payload data_payload text_payload next_plain length_after fresh_count fresh_kind fresh_payload fresh_page fresh is_free_file page_in slot_place alloc_place entries_from groups_from table_of
opened = 0
