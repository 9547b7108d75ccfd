-- The definitions that the proofs of this crate speak in, and the laws of other crates that they cite, passed on from one place. Declares nothing.
pub use Rattle.nb_catalog.specs.Answers.{Says, with_first}
pub use Rattle.nb_catalog.specs.Chained.{IsChained, IsSafe, KeepsChains, KeepsFiles, names_at}
unfoldable pub use Rattle.nb_catalog.specs.Heads.{read_file, read_files}
pub use Rattle.nb_catalog.specs.Heads.{level_head, whole_head}
unfoldable pub use Rattle.nb_catalog.specs.Lines.{line_at}
pub use Rattle.nb_catalog.specs.Lines.{is_among, is_parent, parent, parents_of}
unfoldable pub use Rattle.nb_catalog.specs.NameLists.{list_of, names_on, some_names_on}
pub use Rattle.nb_catalog.specs.NameLists.{AreDistinct, is_listed, is_next}
unfoldable pub use Rattle.nb_catalog.specs.Plans.{entries_from}
pub use Rattle.nb_catalog.specs.Plans.{ArePlaces, IsWithin, Retention, dropped, entries_of, is_in_line, is_in_lines, is_needed, is_newer, is_point, kept, line, line_by, newest, places, plan_of, points}
unfoldable pub use Rattle.nb_catalog.specs.Reads.{reads_of}
pub use Rattle.nb_catalog.specs.Reads.{all_reads, file_most, files_most}
unfoldable pub use Rattle.nb_catalog.specs.Turns.{planned}
pub use Rattle.nb_catalog.specs.Turns.{names_in}
pub use Rattle.nb_catalog.specs.declared.entry.Entry.{Entry}
pub use Rattle.nb_chain.specs.Level.{IsWhole, WholeSays}
pub use Rattle.nb_host.proofs.FileLaws.{passed}
pub use Rattle.nb_host.proofs.PlainLaws.{err_not_ok, err_ok, not_true, ok_equal, or_false, or_true, some_same}
pub use Rattle.nb_host.specs.Files.{File, Files, bytes_of}
pub use Rattle.nb_host.specs.Names.{same_name}
pub use Rattle.nb_host.specs.declared.faults.Fault.{Fault}
pub use Rattle.nb_host.specs.declared.faults.Fault.TheVariants.{Device, Memory, Refused}
pub use Rattle.nb_host.specs.declared.refusals.Refusal.{Refusal}
pub use Rattle.nb_host.specs.declared.refusals.Refusal.TheVariants.{BadLevel, BadScript, ChainLevel, NoFile, ScriptLong}
pub use Rattle.nb_level.specs.declared.head.LevelHead.{LevelHead}
unfoldable pub use Rattle.nb_model.specs.Causes.{first_cause}
pub use Rattle.nb_model.specs.Causes.{Cause}
unfoldable pub use Rattle.nb_model.specs.Levels.{begins_level, read_level}
pub use Rattle.nb_model.specs.Levels.{Contents, Head, level_signature}
unfoldable pub use Rattle.nb_model.specs.Restoring.{first_link, next_link, next_links, not_behind, not_whole, verdict}
pub use Rattle.nb_model.specs.Restoring.{Link, level_link, linked, whole_link}
unfoldable pub use Rattle.nb_script.specs.Lines.{lines_of}
pub use Rattle.nb_script.specs.Lines.{left}
pub use Rattle.nb_script.specs.Scripts.{Numbered}
pub use Rattle.nb_script.specs.Words.{Bytes}
pub use Rattle.std.proofs.lemmas.Bool.{and_parts, cases_Bool, cases_lt, cond-false, cond-true, eqb-true, leb-true, true≢false}
pub use Rattle.std.proofs.lemmas.List.{append-nil, at_drop_all, at_drop_more, get_or-map, get_or_append_left, length-map, map-append, take-take}
pub use Rattle.std.proofs.lemmas.List.Quantifiers.{position-Some}
pub use Rattle.std.proofs.lemmas.List.Sums.{sum_by-cons, sum_by-drop_more}
pub use Rattle.std.specs.List.{AllByRecursion, list_any, slice_index_or}
pub use Rattle.std.specs.Prelude.{unwrap_or}
