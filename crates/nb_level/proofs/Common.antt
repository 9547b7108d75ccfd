-- The definitions that the proofs of this crate speak in, and the laws of other crates that they cite, passed on from one place. Declares nothing.
pub use Rattle.nb_fields.proofs.PartLaws.{length-part, number_in-take, part-take, take-with_part}
pub use Rattle.nb_fields.proofs.SizeLaws.{size_facts}
unfoldable pub use Rattle.nb_fields.specs.Bytes.{number_in}
pub use Rattle.nb_fields.specs.Bytes.{part, with_part}
pub use Rattle.nb_fields.specs.Places.{is_page_size, most_pages}
pub use Rattle.nb_host.proofs.PlainLaws.{err_not_ok, err_ok, ok_same}
unfoldable pub use Rattle.nb_host.specs.Files.{with_file}
pub use Rattle.nb_host.specs.Files.{File, Files, bytes_of, with_bytes}
pub use Rattle.nb_level.specs.Heads.{head_of}
unfoldable pub use Rattle.nb_level.specs.Reading.{end_step, head_fault, read_rest, run_step, single_step, still_to_come}
pub use Rattle.nb_level.specs.Reading.{IsBegun, Reading, StandsFirst, Step}
pub use Rattle.nb_model.proofs.LevelWalk.{FirstIsZero, good, none_clear, not_long, not_same, runs_are, singles_are, zero_tells}
pub use Rattle.nb_model.proofs.ReadLaws.{AreClear, end_tests, lt_no, lt_yes, run_tests, single_tests}
pub use Rattle.nb_model.proofs.SpelledLaws.{rise_lower}
pub use Rattle.nb_model.specs.Image.{Numbered}
unfoldable pub use Rattle.nb_model.specs.Levels.{begins_level, first_fault, head_in, head_then, is_first_page, pages_in, read_end, read_level, read_pages, read_runs, read_singles}
pub use Rattle.nb_model.specs.Levels.{AreOfSize, AreRising, Contents, Head, barred_after, behind, end_mark, ends_before, is_bad_number, level_signature, with_head}
pub use Rattle.std.proofs.lemmas.Bool.{and_right, cases_lt, or_parts}
pub use Rattle.std.proofs.lemmas.List.{append-nil, drop-drop, length-take-le, take-append-le, take-take, take_all, take_at}
pub use Rattle.std.specs.Cmp.Lexicographic.{pointwise}
