-- What is answered to listed entries.
use Rattle.std.proofs.Common.{◌≡◌, ◌∙◌, ℕ, ◌==◌, Bool, true, false, List, [], ◌∷◌, length, map, arith, refl, sym, ap}
use Rattle.std.proofs.lemmas.Bool.{eqb-true}
use Rattle.bib_spec.specs.Text.{Text}
use Rattle.bib_spec.specs.Reading.{Reading}
use Rattle.bib_spec.specs.Records.{Record, entries_of}
use Rattle.bibtex_spec.specs.Listed.{ListedRecord, listed_as_bibtex}
use Rattle.bibtex_spec.specs.ListLaws.{bare}
use Rattle.bibtex_places.specs.Lists.{is_too_deep, unknown_places}
use Rattle.bibtex_places.specs.declared.lists.BibtexEntry.{BibtexEntry}
use Rattle.bibtex_lists.specs.Records.{record_as_listed}
use Rattle.bib_answers.specs.declared.answers.Answer.{Answer}
use Rattle.bib_answers.specs.Cited.{default_min}
use Rattle.bib_answers.specs.Outcome.{answer_of}
use Rattle.bibtex_answers.specs.Entries.{HaveRecords}
use Rattle.bibtex_answers.proofs.ListedRecords.{records_made}
use Rattle.bibtex_answers.specs.Records.{unless_unknown, records_answer}
use Rattle.bibtex_answers.proofs.ListAnswers.{list_answered}
use Rattle.bibtex_ris.specs.Ris.{ris_told, ris_answer}

pub none_unknown : (places : List ℕ) → (length places == 0) ≡ true → places ≡ []
none_unknown [] e = refl
none_unknown (place ∷ places) e = let none = eqb-true (length (place ∷ places)) 0 e in absurd (omega (arith, none))

-- records are answered if no key is unknown
records_answered : (told : List ListedRecord → Answer) (keys : List Text) (db : Reading) → is_too_deep (entries_of db) keys default_min ≡ false → unknown_places (entries_of db) keys ≡ []
    → records_answer told keys db ≡ told (listed_as_bibtex (entries_of db) keys default_min)
records_answered told keys db short none =
    list_answered (unless_unknown told (unknown_places (entries_of db) keys)) (entries_of db) keys default_min short
    ∙ ap (λ (places : List ℕ). unless_unknown told places (listed_as_bibtex (entries_of db) keys default_min)) none

-- the text of the listed entries is that of their records
pub ris_so : (dropped plain : Bool) (keys : List Text) (db : Reading) (list : List BibtexEntry) (answer : Answer) → HaveRecords (entries_of db) list (listed_as_bibtex (entries_of db) keys default_min)
    → is_too_deep (entries_of db) keys default_min ≡ false → unknown_places (entries_of db) keys ≡ [] → answer ≡ answer_of (ris_told dropped plain (map (record_as_listed (entries_of db)) list)) [] 0
    → answer ≡ ris_answer dropped plain keys db
ris_so dropped plain keys db list answer have short none is =
    is
    ∙ ap (λ (records : List Record). answer_of (ris_told dropped plain records) [] 0) (records_made (entries_of db) list (listed_as_bibtex (entries_of db) keys default_min) have)
    ∙ sym (records_answered (λ (records : List ListedRecord). answer_of (ris_told dropped plain (map bare records)) [] 0) keys db short none)
