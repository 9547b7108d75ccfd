-- The definitions that the proofs of this crate speak in, and the laws of other crates that they cite, passed on from one place. Declares nothing.
pub use Rattle.nb_file.specs.Gathered.{IsFreeFor, IsNext, is_owner, seen}
pub use Rattle.nb_file.specs.Resized.{IsBegun, IsSameUpTo, resized}
pub use Rattle.nb_file.specs.Whole.{IsWhole}
pub use Rattle.nb_host.proofs.FileLaws.{length-front, padded-short}
pub use Rattle.nb_host.proofs.PlainLaws.{on_ok}
unfoldable pub use Rattle.nb_host.specs.Files.{padded, put_at}
pub use Rattle.std.proofs.lemmas.Bool.{cases_lt, false≢true}
pub use Rattle.std.proofs.lemmas.List.{append-nil, drop-drop, drop-take, drop_all, drop_at, length-replicate, replicate-append-replicate, take-append-le, take-take, take_all, take_at, take_min}
