-- The definitions that the proofs of this crate speak in, and the laws of other crates that they cite, passed on from one place. Declares nothing.
pub use Rattle.nb_change.specs.Changes.{Changes, Moved, Names, NoNames, Only, Other, Reached, Remade, after_all}
pub use Rattle.nb_host.proofs.FileLaws.{device_memory}
pub use Rattle.nb_host.specs.Calls.{AppendsBytes, IsSilent, IsStill, Remakes, Steps, Syncs, WholeOrNot, WritesPage}
pub use Rattle.nb_host.specs.Crash.{AppendLeft, IsDurable, Leaves, LeavesAll, PageLeft, Untouched}
unfoldable pub use Rattle.nb_host.specs.Files.{with_file}
pub use Rattle.nb_host.specs.Files.{File, Files, bytes_of}
pub use Rattle.nb_host.specs.Moments.{AtEachMoment, Elapses, IsNow, IsTimely, Passes}
pub use Rattle.nb_host.specs.World.{World}
