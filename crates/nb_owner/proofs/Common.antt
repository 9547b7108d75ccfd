-- The definitions that the proofs of this crate speak in, and the laws of other crates that they cite, passed on from one place. Declares nothing.
pub use Rattle.lru.proofs.CallerLemmas.{Contains-lookup_entry}
pub use Rattle.lru.proofs.Pairs.{lookup-lookup_entry}
pub use Rattle.lru.specs.LruCache.{lru_cache, promoted, put_entries}
pub use Rattle.nb_base.proofs.FirmLaws.{strikes_left}
pub use Rattle.nb_base.proofs.LeftLaws.{merged_fits, noted-new, noted-there, stroke-stalled}
pub use Rattle.nb_base.proofs.OwnedLaws.{Holds, base-sizes, entry-added, entry-front, entry-later, entry_at, holds, later}
pub use Rattle.nb_base.proofs.TouchLaws.{delta_in, main_in, none_touched, quiet_touched, touched, touched_joined}
pub use Rattle.nb_base.proofs.WriteLaws.{not_done}
pub use Rattle.nb_base.specs.Firm.{StandsFirm}
pub use Rattle.nb_base.specs.Going.{Drafts, GoesIn, MaySlot, StandsAs}
pub use Rattle.nb_base.specs.Open.{Agrees, AreMerged, Fits, OfFiles}
pub use Rattle.nb_base.specs.Put.{MayPut, PutLeft}
pub use Rattle.nb_base.specs.Takes.{Strikes}
pub use Rattle.nb_base.specs.Touches.{WritesIn}
pub use Rattle.nb_cache.specs.Held.{GoesFirst, IsNoLater, NoneWaits, Slot, dropped, rank_of, slot_of, with_rank}
pub use Rattle.nb_change.proofs.ChangesLaws.{begun, composed, rested, weakened, weaker_has}
pub use Rattle.nb_change.proofs.ReachedLaws.{strokes_composed}
pub use Rattle.nb_change.specs.Changes.{Changes, Names, Only, Reached}
unfoldable pub use Rattle.nb_fields.specs.Header.{is_header}
pub use Rattle.nb_fields.specs.Header.{size_of, state_of}
unfoldable pub use Rattle.nb_fields.specs.Places.{is_scn_place}
pub use Rattle.nb_fields.specs.Places.{most_pages}
pub use Rattle.nb_fields.specs.States.{normal_state, stalled_state}
pub use Rattle.nb_host.proofs.PlainLaws.{both_true, eq_other, eq_self, none_some, none_there, not_there, not_true, on_ok, some_same}
pub use Rattle.nb_host.specs.Files.{Files}
pub use Rattle.nb_host.specs.Moments.{IsTimely}
pub use Rattle.nb_host.specs.World.{World}
pub use Rattle.nb_model.proofs.MainLaws.{some_page}
pub use Rattle.nb_model.proofs.BehindLaws.{behind_firm, behind_left, way_left}
pub use Rattle.nb_model.proofs.StrokeLaws.{begun_image, ended_image, stroke-frozen, stroke-diverted, stroke_page}
pub use Rattle.nb_model.proofs.TrailLaws.{trail_base}
pub use Rattle.nb_model.proofs.WayLaws.{behind_itself, firm_put, put_first, put_long, put_longer, put_other, put_same, read_done, read_firm, read_put, read_start, same_pages, wait_behind, wait_unsettled, way_put, way_start}
pub use Rattle.nb_model.specs.Account.{Ask, Base}
pub use Rattle.nb_model.specs.Behind.{IsOnTheWay, IsRead}
unfoldable pub use Rattle.nb_model.specs.Image.{overwritten, trimmed, with_page, written_at}
pub use Rattle.nb_model.specs.Image.{Image, Numbered, Page, first_page, image_guid, image_scn, image_size, image_state, is_forced, page_at}
unfoldable pub use Rattle.nb_model.specs.Owner.{entry_for}
pub use Rattle.nb_model.specs.Owner.{delta_name}
unfoldable pub use Rattle.nb_model.specs.Strokes.{on_base, with_control}
pub use Rattle.nb_model.specs.Strokes.{begin, ends, finish, page}
unfoldable pub use Rattle.nb_model.specs.Trail.{after_stroke}
pub use Rattle.nb_model.specs.Trail.{IsFirm, IsLeft, ShowsIn, StandsIn, Trail, settled}
pub use Rattle.nb_owner.specs.Open.{AreDrafted, AreOf, GoesOut, GoesSlot, HasBlock, Held, IsOpen, IsValid, IsWaiting, NoScnWaits, Pages, Waits, bare, behind_first, but_below, cache_of, may_wait, rank_in, used, waits}
pub use Rattle.nb_owner.specs.contracts.pair.Pair.{the_view}
pub use Rattle.std.proofs.lemmas.Bool.{eqb-false, eqb-true, true≢false}
pub use Rattle.std.proofs.lemmas.Bool.Decides.{eqb_tells, leb_tells}
pub use Rattle.std.proofs.lemmas.List.{append-nil, take_at}
pub use Rattle.std.proofs.lemmas.Map.Keys.{IsDistinct-cons, IsDistinct-head, IsDistinct-tail}
pub use Rattle.std.proofs.lemmas.Result.{on_err_weaker, on_ok_weaker}
unfoldable pub use Rattle.std.specs.List.{IsDistinct}
pub use Rattle.std.specs.List.{AllByRecursion}
pub use Rattle.std.specs.Map.{keys_of, lookup, lookup_entry, remove_entry}
pub use Rattle.std.specs.Option.{option_and_then, option_map, option_map_or}
