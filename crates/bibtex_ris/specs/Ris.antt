-- `ris --bibtex`: the records that BibTeX lists, for other programs.
use Rattle.std.specs.Prelude.{Bool, List, [], map, if◌then◌else◌}
use Rattle.std.specs.List.{flat_map}
use Rattle.bib_spec.specs.Text.{Text}
use Rattle.bib_spec.specs.Reading.{Reading}
use Rattle.bib_spec.specs.Records.{Record}
use Rattle.bibtex_spec.specs.ListLaws.{bare}
use Rattle.ris_text.specs.Writing.{ris_text}
use Rattle.ris_format.specs.Mapping.{ris}
use Rattle.bib_ris.specs.Dropped.{dropped_lines}
use Rattle.bib_ris.specs.Plain.{in_plain}
use Rattle.bib_answers.specs.declared.answers.Answer.{Answer}
use Rattle.bib_answers.specs.Outcome.{answer_of}
use Rattle.bibtex_answers.specs.Records.{records_answer}

-- the RIS text of records, with texts as they are or plain
abbrev pub ris_texts : Bool → List Record → Text
ris_texts plain records = if plain then ris_text (map in_plain (map ris records)) else ris_text (map ris records)

-- the RIS text of records, or what it leaves out
abbrev pub ris_told : Bool → Bool → List Record → Text
ris_told dropped plain records = if dropped then flat_map dropped_lines records else ris_texts plain records

-- `ris F KEY.. --bibtex`: the RIS text of the records, with `--plain` with plain texts; or with `--dropped` what it leaves out
-- (dialect)
abbrev pub ris_answer : Bool → Bool → List Text → Reading → Answer
ris_answer dropped plain = records_answer (λ list. answer_of (ris_told dropped plain (map bare list)) [] 0)
