-- The definitions that the proofs of this crate speak in, and the laws of other crates that they cite, passed on from one place. Declares nothing.
pub use Rattle.nb_host.proofs.PlainLaws.{not_true}
pub use Rattle.nb_host.specs.Files.{is_page_size}
pub use Rattle.nb_host.specs.Names.{is_name, is_name_byte}
pub use Rattle.nb_host.specs.declared.refusals.Refusal.TheVariants.{BadScript, ScriptLong}
unfoldable pub use Rattle.nb_model.specs.Seeds.{seeded, session_of, stepped}
pub use Rattle.nb_model.specs.TableNames.{is_table_byte, is_table_name}
pub use Rattle.nb_model.specs.declared.statement.Statement.{Statement}
pub use Rattle.nb_model.specs.declared.statement.Statement.TheVariants.{Access, Backup, BackupSince, BeginBackup, Check, CopyTo, CreateDb, CreateTable, Delete, DropTable, EndBackup, Activate, Forced, Free, Get, Insert, OpenDb, PageNew, Read, Reclaim, Scan, ShowCache, ShowHeader, ShowImage, ShowPages, Sync, Update, Write}
pub use Rattle.nb_script.specs.Asked.{IsAskable, IsFirst, IsFurther, IsFurtherLine, IsSpelled, opens, statement_count}
unfoldable pub use Rattle.nb_script.specs.FirstLine.{cache_at, create_at, database_at, first_at, open_at, page_size_at, sizes_at}
pub use Rattle.nb_script.specs.Fits.{Fits, FitsAsked, FitsFirst, FitsOrder, IsBase, IsFile, IsSession, IsTable, IsText}
unfoldable pub use Rattle.nb_script.specs.Lines.{lines_of, numbered}
pub use Rattle.nb_script.specs.Lines.{first_len, is_skipped, left, onto_first}
unfoldable pub use Rattle.nb_script.specs.Order.{order_at, seed_at, sessions_at, spaced_session}
unfoldable pub use Rattle.nb_script.specs.Scripts.{of_lines, order_in, script_of, with_lines, with_order}
pub use Rattle.nb_script.specs.Scripts.{IsAnswer, Numbered, Plan, or_bad, started, statements_of, with_statement}
unfoldable pub use Rattle.nb_script.specs.Spelling.{line_text, schedule_text, script_text, sessions_text, spaced_sessions, statements_text}
pub use Rattle.nb_script.specs.Spelling.{cache_text, command_text, quoted, row_text_of, sizes_text}
unfoldable pub use Rattle.nb_script.specs.Statements.{backup_at, command_at, fixed, last_name, last_page, last_row, last_table, of_file, of_page, of_row, of_table, page_text, row_at, row_text, scan_at, session_line, statement_at, without_text}
pub use Rattle.nb_script.specs.Statements.{or_else, or_next}
unfoldable pub use Rattle.nb_script.specs.Words.{after, closed, name_at, named, number_at, table_at, within}
pub use Rattle.nb_script.specs.Words.{Bytes, alone, digit_count, is_digit, is_given, is_plain, is_text_byte, name_len, page_at, session_at, text_at, value_of, ◌>>=◌}
pub use Rattle.std.proofs.lemmas.Bool.{and_from, and_parts, cases_Bool, cases_lt, cond-false, cond-true, eq-eqb, eqb-true, le-leb, le-ltb, leb-true, lt-ltb, ltb-true, ne_eqb, not_from_false, not_from_true, or_cases, or_left, or_right}
pub use Rattle.std.proofs.lemmas.Fmt.{decimal_nonempty}
pub use Rattle.std.proofs.lemmas.List.{append-nil, drop-drop, drop_all, drop_at, drop_more, get_or-map, get_or_at, length-set, length_push, map-set, set_at, take_at}
pub use Rattle.std.specs.Char.{digit_value}
pub use Rattle.std.specs.Fmt.{decimal}
pub use Rattle.std.specs.Global.{Vec}
pub use Rattle.std.specs.List.{AllByRecursion, list_all, prefix_len}
pub use Rattle.std.specs.Str.Parse.{AllDigits, digits_value, digits_value_after}
