-- The definitions that the proofs of this crate speak in, and the laws of other crates that they cite, passed on from one place. Declares nothing.
pub use Rattle.nb_chain.specs.Chain.{CheckSays, IsChain, IsFirstOf, IsLast, level_reads}
pub use Rattle.nb_chain.specs.First.{FirstRefused, FirstSays, IsFirst, IsRefused, is_bad_count}
pub use Rattle.nb_chain.specs.Level.{IsRead, LevelRefused, LevelSays, WholeSays}
pub use Rattle.nb_chain.specs.Most.{ReadsRoom, RefusedReads, chain_most, check_most, end_most, first_most, level_most, level_room, levels_most}
pub use Rattle.nb_chain.specs.Next.{AreNext, IsNext, LevelsSay, NextRefused, NextSays, header_link, last_of, tip_link}
unfoldable pub use Rattle.nb_chain.specs.Overlay.{all_noted, is_blank, links_noted, mark_of, noted, without_blank}
pub use Rattle.nb_chain.specs.Overlay.{grown, is_blank_by}
pub use Rattle.nb_chain.specs.declared.checking.Chain.{Chain}
pub use Rattle.nb_chain.specs.declared.first_file.First.{First}
pub use Rattle.nb_chain.specs.declared.overlay.Mark.{Mark}
pub use Rattle.nb_chain.specs.declared.tip.Tip.{Tip}
pub use Rattle.nb_fields.proofs.HeaderLaws.{is_header-short, is_header-take}
unfoldable pub use Rattle.nb_fields.specs.Bytes.{number_in, number_of}
pub use Rattle.nb_fields.specs.Bytes.{is_zeros, part}
unfoldable pub use Rattle.nb_fields.specs.Header.{is_header}
pub use Rattle.nb_fields.specs.Header.{guid_of, scn_of, signature, size_of, state_of}
pub use Rattle.nb_fields.specs.Places.{is_page_size, most_pages}
pub use Rattle.nb_host.proofs.FileLaws.{passed}
pub use Rattle.nb_host.specs.Files.{File, Files, bytes_of}
pub use Rattle.nb_host.specs.declared.faults.Fault.{Fault}
pub use Rattle.nb_host.specs.declared.faults.Fault.TheVariants.{Device, Memory, Refused}
pub use Rattle.nb_host.specs.declared.refusals.Refusal.{Refusal}
pub use Rattle.nb_host.specs.declared.refusals.Refusal.TheVariants.{BadLevel, ChainLevel, NoFile}
unfoldable pub use Rattle.nb_level.specs.Reading.{still_to_come}
pub use Rattle.nb_level.specs.Reading.{Reading}
pub use Rattle.nb_model.proofs.ImageLaws.{Pages, cut-joined, page-joined, pages_of, trimmed-none, zeros-are}
pub use Rattle.nb_model.proofs.ReadLaws.{eq_no, eq_yes, le_no, lt_no, lt_yes}
pub use Rattle.nb_model.specs.Causes.{TestedAlone}
unfoldable pub use Rattle.nb_model.specs.Image.{cut, overwritten, trimmed, written_at}
pub use Rattle.nb_model.specs.Image.{Image, Numbered, Page, page_at}
unfoldable pub use Rattle.nb_model.specs.Levels.{begins_level, read_level}
pub use Rattle.nb_model.specs.Levels.{Contents, Head, behind, level_signature}
unfoldable pub use Rattle.nb_model.specs.Restoring.{all_over, applied, first_link, next_link, next_links, not_behind, not_whole, verdict}
pub use Rattle.nb_model.specs.Restoring.{Link, is_bad_length, level_link, linked, whole_link}
pub use Rattle.nb_page.proofs.QuietLaws.{quiet_begun, quiet_call, quiet_joined}
unfoldable pub use Rattle.nb_page.specs.Header.{header_in}
pub use Rattle.nb_page.specs.Header.{HasForm}
pub use Rattle.nb_page.specs.Quiet.{Quiet}
pub use Rattle.std.proofs.lemmas.Bool.{cases_Bool, cases_eq, cases_lt}
pub use Rattle.std.proofs.lemmas.List.{append-nil, drop_all, get_or-append_right, get_or-drop, get_or-set_same, get_or_append_left, get_or_past, take-take, take_all}
