-- The definitions that the proofs of this crate speak in, and the laws of other crates that they cite, passed on from one place. Declares nothing.
pub use Rattle.nb_lines.specs.Words.{named, seen}
unfoldable pub use Rattle.nb_model.specs.Lines.{line_text, spaced, word_text}
pub use Rattle.nb_model.specs.Lines.{Word, is, name_words, number, page_words, quoted, refusal_words, reply_words, row_words}
pub use Rattle.std.proofs.lemmas.List.{append-nil, flat_map_more, map-append, take-append-drop, take_more}
