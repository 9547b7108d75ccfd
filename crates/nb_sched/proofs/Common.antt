-- The definitions that the proofs of this crate speak in, and the laws of other crates that they cite, passed on from one place. Declares nothing.
pub use Rattle.nb_host.specs.declared.faults.RunError.{RunError}
unfoldable pub use Rattle.nb_model.specs.Run.{rounds}
pub use Rattle.nb_model.specs.Run.{all_sessions}
pub use Rattle.nb_sched.specs.Turns.{EndsWith, IsLower, IsReady, Kind, Moves, Rests, Scene, TakesTurns, agent_of, kind, scene, total}
pub use Rattle.std.specs.List.{AllByRecursion, range_with_len}
