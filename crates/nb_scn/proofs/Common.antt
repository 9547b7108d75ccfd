-- The definitions that the proofs of this crate speak in, and the laws of other crates that they cite, passed on from one place. Declares nothing.
pub use Rattle.nb_fields.proofs.PartLaws.{length-part, length-with_part, put_mid-with_part, take-with_part}
pub use Rattle.nb_fields.proofs.SizeLaws.{size_facts}
unfoldable pub use Rattle.nb_fields.specs.Bytes.{bytes_of}
pub use Rattle.nb_fields.specs.Bytes.{AreApart, with_part}
unfoldable pub use Rattle.nb_fields.specs.Payloads.{same_entries, scn_payload}
pub use Rattle.nb_fields.specs.Payloads.{entry_of}
unfoldable pub use Rattle.nb_fields.specs.Places.{is_scn_place}
pub use Rattle.nb_fields.specs.Places.{entries_in, scn_place}
unfoldable pub use Rattle.nb_scn.specs.Entries.{entries}
pub use Rattle.nb_scn.specs.Entries.{entry_place}
pub use Rattle.std.proofs.Math.ListN.{set}
pub use Rattle.std.proofs.lemmas.Bool.{and_from, and_parts, cases_eq, cases_lt, eq-eqb, eqb-true, lt-ltb, ltb-true, or_cases, or_left, or_right}
pub use Rattle.std.proofs.lemmas.List.{append-nil, get_or-replicate, get_or-set_other, length-replicate, length-set, take_all}
