-- The definitions that the proofs of this crate speak in, and the laws of other crates that they cite, passed on from one place. Declares nothing.
pub use Rattle.nb_fields.proofs.NumberLaws.{bit_at-most}
pub use Rattle.nb_fields.proofs.SizeLaws.{size_facts}
unfoldable pub use Rattle.nb_fields.specs.Bytes.{bytes_of}
pub use Rattle.nb_fields.specs.Bytes.{with_part}
unfoldable pub use Rattle.nb_fields.specs.Payloads.{inventory_payload, taken_bits}
pub use Rattle.nb_fields.specs.Payloads.{bit_of}
unfoldable pub use Rattle.nb_fields.specs.Places.{is_inventory_place}
pub use Rattle.nb_fields.specs.Places.{bits_in, inventory_place}
unfoldable pub use Rattle.nb_pip.specs.Bits.{bits}
pub use Rattle.nb_pip.specs.Bits.{AreUsed, IsLowestFree, byte_of}
pub use Rattle.std.proofs.Math.ListN.{set}
pub use Rattle.std.proofs.Math.Nat.{div-div-eq-div-mul, div-le_self, le-mul_of_pos_right, mul-mod_left, pow-suc}
pub use Rattle.std.proofs.lemmas.Bool.{cases_eq, cases_lt, eq-eqb, eqb-true, or_cases, or_left, or_right}
pub use Rattle.std.proofs.lemmas.List.{append-nil, drop_all, get_or-set_other, get_or-set_same, length-replicate, length-set, take-replicate}
pub use Rattle.std.proofs.lemmas.Nat.{or_lt, pow-add}
pub use Rattle.std.proofs.lemmas.Nat.Bits.{bit_at-suc, bit_at-trailing_zeros, bit_at-zero, bit_at_above, bit_at_clear_other, bit_at_clear_same, bit_at_lowest, bit_at_set_other, bit_at_set_same, same_from_bits_below, shr_and_one}
pub use Rattle.std.specs.Int.{bit_at, trailing_zeros}
