-- The definitions that the proofs of this crate speak in, and the laws of other crates that they cite, passed on from one place. Declares nothing.
pub use Rattle.nb_cli.specs.Ended.{AreWordsOf, Arguments, BeginsRun, EndsRun, ExitsAs, IsAskedIn, IsAskedOf, IsReadOf, IsWithoutMemory, Words, texts_of}
pub use Rattle.nb_host.proofs.FileLaws.{device_memory}
pub use Rattle.nb_top.specs.Requests.{Asked, IsAskedBy, IsReadJob}
