-- The lines of listed entries as JSON, one after another.
use Rattle.std.proofs.Common.{◌≡◌, ◌∙◌, ℕ, ◌+◌, ◌<◌, ◌≤◌, true, false, Bool, not, List, [], ◌∷◌, ◌++◌, length, take, drop, get_or, map, find, filter_map, option_map, Option, None, Some, refl, sym, ap, ap₂, if◌then◌else◌}
use Rattle.std.specs.List.{flat_map, cons_option}
use Rattle.std.specs.Option.{option_map_or, option_or}
use Rattle.std.proofs.lemmas.List.{flat_map_more, take-append-drop, take_all, take_more}
use Rattle.std.proofs.lemmas.List.Elements.{filter_map-append}
use Rattle.std.proofs.lemmas.List.Folds.{find-append}
use Rattle.bib_spec.specs.Text.{Text}
use Rattle.bib_spec.specs.Records.{EntryTexts}
use Rattle.bibtex_spec.specs.Listed.{ListedRecord}
use Rattle.bibtex_places.specs.Lists.{record_of_listed}
use Rattle.bibtex_places.specs.declared.lists.BibtexEntry.{BibtexEntry}
use Rattle.bib_answers.specs.declared.answers.Answer.{Answer}
use Rattle.bib_answers.specs.Json.{ToldIn, told_key, told_line, is_told_in_utf8, told_answer, not_utf8_line}
use Rattle.bib_answers.specs.Outcome.{answer_of}
use Rattle.bibtex_answers.specs.Entries.{HaveRecords, HasRecord}
use Rattle.bibtex_answers.specs.Records.{told_record}
use Rattle.bibtex_answers.proofs.ListedRecords.{same_head, same_tail, nil_cons, cons_nil, record_has}

-- what is told of a listed entry, if it has a record
abbrev pub tell : List EntryTexts → BibtexEntry → Option ToldIn
tell entries entry = option_map told_record (record_of_listed entries entry)

-- a text is not UTF-8
abbrev is_unsaid : ToldIn → Bool
is_unsaid one = not (is_told_in_utf8 one)

-- all texts of the first i listed entries are UTF-8, and `lines` has their lines
pub record AreTold (entries : List EntryTexts) (list : List BibtexEntry) (i : ℕ) (lines : Text) : Type 0 where
  pub said : find (λ one. not (is_told_in_utf8 one)) (filter_map (tell entries) (take i list)) ≡ None
  pub lines_are : lines ≡ flat_map told_line (filter_map (tell entries) (take i list))

-- the records are told
tells : (entries : List EntryTexts) (list : List BibtexEntry) (records : List ListedRecord) → HaveRecords entries list records → filter_map (tell entries) list ≡ map told_record records
tells entries [] [] have = refl
tells entries [] (listed ∷ records) have = absurd (nil_cons (Some listed) (map Some records) have)
tells entries (entry ∷ list) [] have = absurd (cons_nil (record_of_listed entries entry) (map (record_of_listed entries) list) have)
tells entries (entry ∷ list) (listed ∷ records) have =
    ap₂ (λ (o : Option ListedRecord) (rest : List ToldIn). cons_option (option_map told_record o) rest)
    (same_head (record_of_listed entries entry) (Some listed) (map (record_of_listed entries) list) (map Some records) have)
    (tells entries list records (same_tail (record_of_listed entries entry) (Some listed) (map (record_of_listed entries) list) (map Some records) have))

module _ (entries : List EntryTexts) (list : List BibtexEntry) where
  pub told_none : (lines : Text) → lines ≡ [] → AreTold entries list 0 lines
  told_none lines none = record { said = refl; lines_are = none }

  pub told_all : (records : List ListedRecord) (i : ℕ) (lines : Text) (answer : Answer) → HaveRecords entries list records → length list ≤ i → AreTold entries list i lines → answer ≡ answer_of lines [] 0
      → answer ≡ told_answer (map told_record records)
  told_all records i lines answer have end told is =
      is
      ∙ ap (λ (t : Text). answer_of t [] 0) (told.lines_are ∙ ap (flat_map told_line) of_all)
      ∙ sym (ap (λ (o : Option ToldIn). option_map_or (λ one. answer_of [] (not_utf8_line (told_key one)) 1) o (answer_of (flat_map told_line (map told_record records)) [] 0)) none)
    where
      of_all : filter_map (tell entries) (take i list) ≡ map told_record records
      of_all = ap (filter_map (tell entries)) (take_all i list end) ∙ tells entries list records have

      none : find is_unsaid (map told_record records) ≡ None
      none = ap (find is_unsaid) (sym of_all) ∙ told.said

module _ (entries : List EntryTexts) (list : List BibtexEntry) (i : ℕ) (d : BibtexEntry) (within : i < length list) (listed : ListedRecord) (has : HasRecord entries (get_or list i d) listed) where
  abbrev told : ToldIn
  told = told_record listed

  next : filter_map (tell entries) (take (i + 1) list) ≡ filter_map (tell entries) (take i list) ++ told ∷ []
  next =
      ap (filter_map (tell entries)) (take_more list i d within)
      ∙ filter_map-append (tell entries) (take i list) (get_or list i d ∷ [])
      ∙ ap (λ (o : Option ListedRecord). filter_map (tell entries) (take i list) ++ cons_option (option_map told_record o) []) has

  pub told_more : (lines more : Text) → is_told_in_utf8 told ≡ true → more ≡ lines ++ told_line told → AreTold entries list i lines → AreTold entries list (i + 1) more
  told_more lines more utf8 made to = record {
    said =
        ap (find is_unsaid) next ∙ find-append is_unsaid (filter_map (tell entries) (take i list)) (told ∷ [])
        ∙ ap (λ (o : Option ToldIn). option_or o (find is_unsaid (told ∷ []))) to.said
        ∙ ap (λ b. if not b then Some told else None) utf8;
    lines_are =
        made ∙ ap (λ (t : Text). t ++ told_line told) to.lines_are
        ∙ flat_map_more told_line [] (filter_map (tell entries) (take i list)) told
        ∙ sym (ap (flat_map told_line) next);
  }

  -- one that is not UTF-8 is the first
  pub told_stops : (lines : Text) (records : List ListedRecord) → is_told_in_utf8 told ≡ false → HaveRecords entries list records → AreTold entries list i lines
      → answer_of [] (not_utf8_line (get_or list i d).key) 1 ≡ told_answer (map told_record records)
  told_stops lines records utf8 have to =
      ap (λ (k : Text). answer_of [] (not_utf8_line k) 1) (sym (record_has entries (get_or list i d) listed has).0)
      ∙ sym (ap (λ (o : Option ToldIn). option_map_or (λ one. answer_of [] (not_utf8_line (told_key one)) 1) o (answer_of (flat_map told_line (map told_record records)) [] 0)) first)
    where
      split : filter_map (tell entries) list ≡ (filter_map (tell entries) (take i list) ++ told ∷ []) ++ filter_map (tell entries) (drop (i + 1) list)
      split =
          ap (filter_map (tell entries)) (sym (take-append-drop (i + 1) list))
          ∙ filter_map-append (tell entries) (take (i + 1) list) (drop (i + 1) list)
          ∙ ap (λ (ts : List ToldIn). ts ++ filter_map (tell entries) (drop (i + 1) list)) next

      here : find is_unsaid (filter_map (tell entries) (take i list) ++ told ∷ []) ≡ Some told
      here =
          find-append is_unsaid (filter_map (tell entries) (take i list)) (told ∷ [])
          ∙ ap (λ (o : Option ToldIn). option_or o (find is_unsaid (told ∷ []))) to.said
          ∙ ap (λ b. if not b then Some told else None) utf8

      first : find is_unsaid (map told_record records) ≡ Some told
      first =
          ap (find is_unsaid) (sym (tells entries list records have) ∙ split)
          ∙ find-append is_unsaid (filter_map (tell entries) (take i list) ++ told ∷ []) (filter_map (tell entries) (drop (i + 1) list))
          ∙ ap (λ (o : Option ToldIn). option_or o (find is_unsaid (filter_map (tell entries) (drop (i + 1) list)))) here
