-- `ris`: entries for other programs. (dialect)
use Rattle.std.specs.Prelude.{ℕ, Bool, List, if◌then◌else◌}
use Rattle.bib_spec.specs.Text.{Text}
use Rattle.bib_spec.specs.Reading.{Reading}
use Rattle.bib_spec.specs.Records.{EntryTexts}
use Rattle.bib_ris.specs.Dropped.{entries_dropped}
use Rattle.bib_ris.specs.Export.{entries_ris}
use Rattle.bib_ris.specs.Plain.{entries_plain}
use Rattle.bib_answers.specs.declared.answers.Answer.{Answer}
use Rattle.bib_answers.specs.Cited.{cited_answer}

-- the RIS text of entries at this depth, with texts as they are or plain
abbrev pub ris_texts : Bool → ℕ → List EntryTexts → List ℕ → Text
ris_texts plain depth entries list = if plain then entries_plain depth entries list else entries_ris depth entries list

-- the RIS text of entries at this depth, or what it leaves out
abbrev pub ris_told : Bool → Bool → ℕ → List EntryTexts → List ℕ → Text
ris_told dropped plain depth entries list = if dropped then entries_dropped depth entries list else ris_texts plain depth entries list

-- `ris F KEY..`: the RIS text of the entries that the keys cite, at this depth, with `--plain` with plain texts; or with `--dropped`
-- what it leaves out
abbrev pub ris_answer : Bool → Bool → ℕ → List Text → Reading → Answer
ris_answer dropped plain depth = cited_answer (ris_told dropped plain depth)
