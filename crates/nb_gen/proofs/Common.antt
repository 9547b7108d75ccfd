-- The definitions that the proofs of this crate speak in, and the laws of other crates that they cite, passed on from one place. Declares nothing.
pub use Rattle.nb_gather.proofs.QuietLaws.{unfinished_empty}
pub use Rattle.nb_gather.specs.Making.{IsNoBackup, IsUnfinished, IsUnfinishedOr}
pub use Rattle.nb_gen.specs.Texts.{IsScriptText, generated_first}
pub use Rattle.nb_host.proofs.PlainLaws.{err_ok, ok_equal}
unfoldable pub use Rattle.nb_model.specs.Generated.{backup_line, generated, line_of, lines_from}
pub use Rattle.nb_model.specs.Generated.{ended}
pub use Rattle.std.proofs.lemmas.Bool.{and_right}
pub use Rattle.std.specs.Fmt.{decimal}
