-- What is answered to a list.
use Rattle.std.proofs.Common.{◌≡◌, ◌∙◌, ℕ, Bool, false, List, [], ◌∷◌, ◌++◌, map, Some, slice_get, sym, ap, ap₂, subst}
use Rattle.std.specs.List.{flat_map}
use Rattle.std.proofs.lemmas.Bool.{cond-false}
use Rattle.std.proofs.lemmas.Option.{none-some, same_Some}
use Rattle.bib_spec.specs.Text.{Text}
use Rattle.bib_spec.specs.Reading.{Reading}
use Rattle.bib_spec.specs.Records.{EntryTexts, entries_of}
use Rattle.bibtex_spec.specs.Listed.{ListedRecord, listed_as_bibtex}
use Rattle.bibtex_places.specs.Lists.{record_of_listed, is_too_deep, unknown_places}
use Rattle.bibtex_places.specs.declared.lists.BibtexEntry.{BibtexEntry}
use Rattle.bib_answers.specs.declared.answers.Answer.{Answer}
use Rattle.bib_answers.specs.Cite.{unknown_line, cite_status}
use Rattle.bib_answers.specs.Outcome.{answer_of}
use Rattle.bibtex_answers.specs.Cite.{listed_lines, cite_answer}
use Rattle.bibtex_answers.specs.Entries.{HaveRecords, HasRecord, entry_line}
use Rattle.bibtex_answers.specs.Listed.{listed_answer}
use Rattle.bibtex_answers.specs.Messages.{too_deep_line}
use Rattle.bibtex_answers.specs.Show.{shown_record, first_shown}
use Rattle.bibtex_answers.proofs.ListedRecords.{same_head, cons_nil, lines_are}

-- a list that is not too deep is answered
pub list_answered : (told : List ListedRecord → Answer) (entries : List EntryTexts) (keys : List Text) (least : ℕ) → is_too_deep entries keys least ≡ false
    → listed_answer told entries keys least ≡ told (listed_as_bibtex entries keys least)
list_answered told entries keys least short = cond-false (is_too_deep entries keys least) (answer_of [] too_deep_line 1) (told (listed_as_bibtex entries keys least)) short

-- the first listed entry is shown as its record
pub shown_first : (entries : List EntryTexts) (list : List BibtexEntry) (records : List ListedRecord) (entry : BibtexEntry) (text : Text) (answer : Answer) → HaveRecords entries list records → Some entry ≡ slice_get list 0
    → ((listed : ListedRecord) → HasRecord entries entry listed → text ≡ shown_record listed) → answer ≡ answer_of text [] 0 → answer ≡ first_shown records
shown_first entries [] records entry text answer have at told is = absurd (none-some entry (sym at))
shown_first entries (first ∷ list) [] entry text answer have at told is = absurd (cons_nil (record_of_listed entries first) (map (record_of_listed entries) list) have)
shown_first entries (first ∷ list) (listed ∷ records) entry text answer have at told is =
    is
    ∙ ap (λ (t : Text). answer_of t [] 0)
    (told listed
    (subst (λ (e : BibtexEntry). HasRecord entries e listed) (sym (same_Some entry first at))
    (same_head (record_of_listed entries first) (Some listed) (map (record_of_listed entries) list) (map Some records) have)))

abbrev cited_answer : Bool → List Text → Text → List ℕ → Answer
cited_answer strict keys lines unknown = answer_of (lines ++ flat_map (unknown_line keys) unknown) [] (cite_status strict unknown)

-- the lines of the listed entries are those of their records
pub cited_so : (strict : Bool) (keys : List Text) (least : ℕ) (db : Reading) (list : List BibtexEntry) (unknown : List ℕ) (answer : Answer) → HaveRecords (entries_of db) list (listed_as_bibtex (entries_of db) keys least)
    → unknown ≡ unknown_places (entries_of db) keys → is_too_deep (entries_of db) keys least ≡ false → answer ≡ cited_answer strict keys (flat_map entry_line list) unknown → answer ≡ cite_answer strict keys least db
cited_so strict keys least db list unknown answer have those short is =
    is
    ∙ ap₂ (cited_answer strict keys) (lines_are (entries_of db) list (listed_as_bibtex (entries_of db) keys least) have) those
    ∙ sym (list_answered (λ (records : List ListedRecord). answer_of (listed_lines keys (unknown_places (entries_of db) keys) records) [] (cite_status strict (unknown_places (entries_of db) keys))) (entries_of db) keys least short)
