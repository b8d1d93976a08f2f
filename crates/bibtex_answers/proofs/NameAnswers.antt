-- The lines of names, and what is answered to the first record of a list.
use Rattle.std.proofs.Common.{◌≡◌, ◌∙◌, ℕ, ◌+◌, ◌<◌, List, [], ◌∷◌, ◌++◌, length, drop, get_or, map, Some, slice_get, Result, Ok, Err, refl, sym, ap, subst, append_assoc}
use Rattle.std.proofs.lemmas.List.{drop_more}
use Rattle.std.proofs.lemmas.Option.{none-some, same_Some}
use Rattle.bib_spec.specs.Text.{Text}
use Rattle.bib_spec.specs.Records.{EntryTexts}
use Rattle.bib_names.specs.declared.fault.NameFault.{NameFault}
use Rattle.bibtex_names.specs.Template.{Pattern}
use Rattle.bibtex_names.specs.NamesInLists.{printed_as_bibtex, template_in}
use Rattle.bibtex_spec.specs.Listed.{ListedRecord}
use Rattle.bibtex_places.specs.Lists.{record_of_listed}
use Rattle.bibtex_places.specs.declared.lists.BibtexEntry.{BibtexEntry}
use Rattle.bib_answers.specs.declared.answers.Answer.{Answer}
use Rattle.bib_answers.specs.Names.{before_lines, joined_lines, lines_answer}
use Rattle.bibtex_answers.specs.Entries.{HaveRecords, HasRecord}
use Rattle.bibtex_answers.specs.Names.{line_of, name_lines, lines_by, first_names}
use Rattle.bibtex_answers.proofs.ListedRecords.{same_head, cons_nil}

-- ---- lines one after another

-- the lines of the names from one on
lines_from : (t : Pattern) (names : List Text) (n : ℕ) (name : Text) → n < length names → name ≡ get_or names n name
    → name_lines t (drop n names) ≡ joined_lines (line_of (printed_as_bibtex t name)) (name_lines t (drop (n + 1) names))
lines_from t names n name within is =
    ap (name_lines t) (drop_more names n name within) ∙ ap (λ (x : Text). joined_lines (line_of (printed_as_bibtex t x)) (name_lines t (drop (n + 1) names))) (sym is)

before-before : (one two : Text) (lines : Result Text NameFault) → before_lines one (before_lines two lines) ≡ before_lines (one ++ two) lines
before-before one two (Ok lines) = ap (λ (text : Text). Ok text) (sym (append_assoc one two lines))
before-before one two (Err f) = refl

-- one more line
pub name_more : (t : Pattern) (names : List Text) (n : ℕ) (name out line : Text) → n < length names → name ≡ get_or names n name
    → name_lines t names ≡ before_lines out (name_lines t (drop n names)) → line_of (printed_as_bibtex t name) ≡ Ok line
    → name_lines t names ≡ before_lines (out ++ line) (name_lines t (drop (n + 1) names))
name_more t names n name out line within is far e =
    far ∙ ap (before_lines out) (lines_from t names n name within is ∙ ap (λ l. joined_lines l (name_lines t (drop (n + 1) names))) e)
    ∙ before-before out line (name_lines t (drop (n + 1) names))

-- the first name that is refused
pub name_stops : (t : Pattern) (names : List Text) (n : ℕ) (name out : Text) (f : NameFault) → n < length names → name ≡ get_or names n name
    → name_lines t names ≡ before_lines out (name_lines t (drop n names)) → line_of (printed_as_bibtex t name) ≡ Err f → name_lines t names ≡ Err f
name_stops t names n name out f within is far e =
    far ∙ ap (before_lines out) (lines_from t names n name within is ∙ ap (λ l. joined_lines l (name_lines t (drop (n + 1) names))) e)

-- ---- the first record

-- the names of the first listed entry are those of its record
pub names_first : (template : Text) (entries : List EntryTexts) (list : List BibtexEntry) (records : List ListedRecord) (entry : BibtexEntry) (answer : Answer) → HaveRecords entries list records → Some entry ≡ slice_get list 0
    → ((listed : ListedRecord) → HasRecord entries entry listed → answer ≡ lines_answer (lines_by (template_in template) listed.fields)) → answer ≡ first_names template records
names_first template entries [] records entry answer have at told = absurd (none-some entry (sym at))
names_first template entries (first ∷ list) [] entry answer have at told = absurd (cons_nil (record_of_listed entries first) (map (record_of_listed entries) list) have)
names_first template entries (first ∷ list) (listed ∷ records) entry answer have at told =
    told listed
    (subst (λ (e : BibtexEntry). HasRecord entries e listed) (sym (same_Some entry first at))
    (same_head (record_of_listed entries first) (Some listed) (map (record_of_listed entries) list) (map Some records) have))
