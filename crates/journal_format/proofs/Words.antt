-- The words that most proofs of this crate cite, passed on from one place. Declares nothing.
pub use Rattle.bib_spec.specs.Bytes.{line_feed, space}
pub use Rattle.bib_spec.specs.Pieces.{AscendFrom, Piece, end_of}
pub use Rattle.bib_spec.specs.Text.{Text}
pub use Rattle.hex.specs.Hex.{IsBytes, encode_lower}
pub use Rattle.history_spec.specs.Steps.{HasSmallNumbers, IsLabel, Step, change_limit, number_limit, piece_text}
unfoldable pub use Rattle.history_spec.specs.Steps.{pieces_text, step_text, step_text_len}
pub use Rattle.journal_format.specs.Contents.{IsDigest, is_hex_digit}
unfoldable pub use Rattle.journal_format.specs.Contents.{digest_of}
pub use Rattle.journal_format.specs.Faults.{StopsWhere}
pub use Rattle.journal_format.specs.JournalText.{AreFew, AreNumbers, Counts, IsKnown, IsSmall, IsStepIn, Numbers, counts, counts_line, numbers_line, numbers_of, step_text_in, steps_limit}
unfoldable pub use Rattle.journal_format.specs.JournalText.{text_in, version_line}
pub use Rattle.journal_format.specs.Wrong.{AreWrongPieces, AreWrongSteps, BeginsWith, BeginsWithPiece, BeginsWithPieces, BeginsWithStep, HasWrongBytes, HasWrongPieces, IsCut, IsFreeOf, IsLineOf, IsWrongFrom, IsWrongFromCounts, IsWrongFromDigest, IsWrongJournal, IsWrongPiece, IsWrongStep}
pub use Rattle.journal_format.specs.Wrong.{IsWrongTail}
pub use Rattle.journal_format.specs.declared.version.Version.{Version}
pub use Rattle.journal_format.specs.declared.version.Version.TheVariants.{First, Second}
pub use Rattle.std.proofs.Common.{List, Ok, Result, [], ap, arith, decimal, drop, get_or, inl, inr, length, length-append, lit<, min, not, refl, reverse, rules, subst, suc, sum_by, sym, take, true, zero, ℕ, ◌%◌, ◌++◌, ◌+◌, ◌-◌, ◌/◌, ◌<◌, ◌==◌, ◌^◌, ◌∙◌, ◌∷◌, ◌≡◌, ◌≤◌}
pub use Rattle.std.proofs.lemmas.Bool.{and_parts}
pub use Rattle.std.proofs.lemmas.Bool.Decides.{eqb_tells, not_from_Decides}
pub use Rattle.std.proofs.lemmas.Fmt.{decimal_injective}
pub use Rattle.std.proofs.lemmas.List.{append-nil, append_assoc, flat_map_more, length_push, take-append-drop, take_all, take_more}
pub use Rattle.std.proofs.lemmas.Result.{IfOk-weaker, err_from_is_err_and}
pub use Rattle.std.proofs.lemmas.Slice.Eq.{bytes_eq-Decides}
pub use Rattle.std.specs.List.{AllByRecursion, flat_map, list_all}
pub use Rattle.std.specs.Str.{IsUtf8}
