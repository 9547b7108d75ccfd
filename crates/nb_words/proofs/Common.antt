-- The definitions that the proofs of this crate speak in, and the laws of other crates that they cite, passed on from one place. Declares nothing.
unfoldable pub use Rattle.clap.proofs.OnLiterals.{clap_on_literals}
unfoldable pub use Rattle.clap.specs.Faults.{defaults_fault, flags_fault, walk_fault}
pub use Rattle.clap.specs.Faults.{built_fault, bundle_fault, bundle_step_fault, check_fault, default_fault, entered_fault, flag_word_fault, given_default_fault, long_fault, positional_fault, react_fault, settle_fault, short_fault, step_fault, stray_fault, turn_fault, use_fault, word_fault}
pub use Rattle.clap.specs.Kinds.{FailsBy, HasKind, IsAmong, check_kinds, or_else, range_kinds, values_kinds}
pub use Rattle.clap.specs.Lexer.{long_of, long_of_rest, name_and_value, short_of, short_of_rest, strip_byte, usize_max}
pub use Rattle.clap.specs.Matches.{count_text}
pub use Rattle.clap.specs.Simple.{Shape, argument_words, entered, filled, names_of, with_index}
unfoldable pub use Rattle.clap.specs.Walk.{bundle_met, walked}
pub use Rattle.clap.specs.Walk.{Held, Outcome, Step, Waiting, Walk, after_flag, after_step, all_of, arg_by_id, arg_by_index, arg_by_long, arg_by_short, at_row, bundle_step, count_of, done, finished, first_as_count, has_row, idle, long_or_other, more_values, new_count, next, nothing_held, plain_word, positional, reacted, reading_by, rows_after, settled, settled_rows, short_met, short_or_plain, stronger, to_positional, trailing, used, used_by_id, value, values_or_missing, walk_from, with_count, with_default, with_values, without, word_met}
pub use Rattle.clap.specs.Words.{App, HasMatchesOf, Kinds, Row, Rule, Text, app_of, built, fault_of, found_of, is_simple, is_simple_and_free, matches_of, rows_of, with_rule}
pub use Rattle.clap.specs.declared.error.Error.{Error}
pub use Rattle.clap.specs.declared.parser.matches.ArgMatches.{ArgMatches}
pub use Rattle.clap.specs.declared.parser.matches.ValueSource.TheVariants.{CommandLine, DefaultValue}
pub use Rattle.nb_host.proofs.PlainLaws.{some_same}
pub use Rattle.nb_host.specs.Names.{same_name}
unfoldable pub use Rattle.nb_model.specs.Words.{job_of, job_of_flags, job_read, number_in_word, read_words}
pub use Rattle.nb_model.specs.Words.{Read, Word, apply_job, are_flags, ask_job, asks_one, backup_job, fixup_job, fold_job, is_database, is_file, is_flag, is_flags, job_if, named_job, plain_job, restore_job, with_flags, with_word}
pub use Rattle.nb_model.specs.declared.job.Ask.TheVariants.{Backup, BackupSince, Lock, LockWithSize, Unlock}
pub use Rattle.nb_model.specs.declared.job.Deed.TheVariants.{Fold, Restore}
pub use Rattle.nb_model.specs.declared.job.Job.{Job}
pub use Rattle.nb_model.specs.declared.job.Job.TheVariants.{Attach, Run, Turn}
pub use Rattle.nb_words.specs.Choice.{IsTheChoice, choices, column_of, job_in, row_at, row_of}
unfoldable pub use Rattle.nb_words.specs.Line.{line}
pub use Rattle.nb_words.specs.Line.{flag, plain, words_id, words_in}
pub use Rattle.nb_words.specs.Parts.{is_level, is_plain_number, named}
pub use Rattle.nb_words.specs.Read.{Holds, IsJobOf, Shows, counts_of, times, words_of}
pub use Rattle.std.proofs.lemmas.Bool.{agree_below_at, and_cases, and_from, and_left, and_parts, and_right, both_ways, cases_Bool, cond-false, cond-true, eq-eqb, eqb-false, eqb-true, false≢true, le-leb, le-ltb, leb-true, lt-leb, lt-ltb, ltb-true, ne_eqb, or_cases, or_from, or_left, or_parts, or_right, true≢false}
pub use Rattle.std.proofs.lemmas.List.{get_or_default, length-append, length-map, map-append, take_all, take_more}
pub use Rattle.std.proofs.lemmas.Result.{IfOk-weaker}
pub use Rattle.std.proofs.lemmas.Slice.Eq.{bytes_eq-Decides}
pub use Rattle.std.proofs.lemmas.Str.{IsUtf8-past_char, IsUtf8-string_bytes, byte_from_char, chars-encodes, digit_value_digit, encode_ascii}
pub use Rattle.std.specs.List.{AllByRecursion, list_all, list_any, position_or_len, slice_index_or}
pub use Rattle.std.specs.Option.{option_map_or}
unfoldable pub use Rattle.std.specs.Str.{chars}
pub use Rattle.std.specs.Str.{bytes_eq, chars_after, continuation_len, lead_bits}
pub use Rattle.uuid.specs.Text.{parsed, parsed_hyphenated}
