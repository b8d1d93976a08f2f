-- `extract`: the part of a file that keys need. (dialect)
use Rattle.std.specs.Prelude.{ℕ, ◌≡◌, List, [], ◌∷◌, length, nat_lt, if◌then◌else◌, slice_index_or}
use Rattle.bib_spec.specs.Bytes.{file_limit}
use Rattle.bib_spec.specs.Text.{Text}
use Rattle.bib_spec.specs.Reading.{Reading, bytes_of}
use Rattle.bib_spec.specs.Records.{entries_of, unknown}
use Rattle.extract_spec.specs.Extract.{extract_of}
use Rattle.bib_extract.specs.declared.fault.ExtractFault.{ExtractFault}
use Rattle.bib_extract.specs.declared.fault.ExtractFault.TheVariants.{FileTooLong, Memory, NoSuchEntry}
use Rattle.bib_answers.specs.declared.answers.Answer.{Answer}
use Rattle.bib_answers.specs.Messages.{no_such_entry_in, too_long_line}
use Rattle.bib_answers.specs.Outcome.{answer_of}

-- the text, unless it is longer than a file may be
abbrev pub answer_within : Text → Answer
answer_within text = if nat_lt file_limit (length text) then answer_of [] too_long_line 1 else answer_of text [] 0

-- the text; or, if keys find no entry, which key is the first of them, by their positions
abbrev pub answer_unless : List ℕ → List Text → Text → Answer
answer_unless [] keys text = answer_within text
answer_unless (position ∷ more) keys text = answer_of [] (no_such_entry_in (slice_index_or keys position [])) 1

-- `extract F KEY..`: the extract of the file for these keys
abbrev pub extract_answer : List Text → Reading → Answer
extract_answer keys db = answer_unless (unknown (entries_of db) keys) keys (bytes_of (extract_of db keys))

-- the answer says why there is no extract, and not for want of memory
abbrev pub IsExtractRefusal : List Text → ExtractFault → Answer → Type 0
IsExtractRefusal keys (NoSuchEntry position) answer = answer ≡ answer_of [] (no_such_entry_in (slice_index_or keys position [])) 1
IsExtractRefusal keys FileTooLong answer = answer ≡ answer_of [] too_long_line 1
IsExtractRefusal keys Memory answer = ⊥
