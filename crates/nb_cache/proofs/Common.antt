-- The definitions that the proofs of this crate speak in, and the laws of other crates that they cite, passed on from one place. Declares nothing.
pub use Rattle.lru.proofs.Splits.{Contains-cons, Contains-head, Contains-middle, Contains-nil, Contains-tail, Contains-with, Contains-without, all_at, all_from}
pub use Rattle.lru.specs.LruCache.{LruCache, demoted, last_entry, lru_cache, promoted, put_entries}
pub use Rattle.nb_cache.specs.Frames.{FoundAt, Frames, IsCache, IsLast, NoneHolds, Split, shown, slot_in}
pub use Rattle.nb_cache.specs.Held.{GoesFirst, Held, IsNext, IsNoLater, NoneWaits, Slot, rank_of, slot_of, with_rank}
pub use Rattle.nb_cache.specs.Index.{Finds, IsIndexed, holder, left_in, places, room_of}
pub use Rattle.nb_cache.specs.declared.frames.Frame.{Frame}
pub use Rattle.nb_cache.specs.declared.index.Index.{Index}
pub use Rattle.nb_host.proofs.PlainLaws.{all_append, all_parts, some_same}
pub use Rattle.std.proofs.Math.Seq.{take-append-add}
pub use Rattle.std.proofs.lemmas.Bool.{cases_eq, cases_lt, eq-eqb, eqb-false, ne_eqb}
pub use Rattle.std.proofs.lemmas.List.{append-nil, length-take-le, map-append, take-append-drop, take-append-le, take-map, take-take, take_all}
pub use Rattle.std.proofs.lemmas.List.Elements.{Contains-append_cases, Contains-append_left, Contains-append_right}
pub use Rattle.std.proofs.lemmas.Map.Keys.{IsDistinct-head, IsDistinct-tail}
unfoldable pub use Rattle.std.specs.List.{IsDistinct}
pub use Rattle.std.specs.List.{AllByRecursion, slice_get}
pub use Rattle.std.specs.Map.{keys_of, lookup, lookup_entry, remove_entry, set_value}
pub use Rattle.std.specs.Option.{option_and_then, option_copied_mut, option_map, option_map_or}
