-- What is left of a file after some of its records.
use Rattle.ris_text.proofs.Words.{◌≡◌, ◌+◌, [], ◌∷◌, ◌++◌, length, refl, sym, ap, ◌∙◌, append_assoc, Ok, Err, Text, RisRecord, Line, lines_of, Outcome, told, ris_file, with_record, with_front, rest_of, IsLeft}
use Rattle.std.proofs.Common.{List}
use Rattle.ris_text.specs.Rest.{Rest}
use Rattle.ris_text.proofs.MeaningLemmas.{with_front-none}
use Rattle.ris_text.proofs.MeaningLaws.{reads_if_told, fault_if_told}

front-more : (records : List RisRecord) (r : RisRecord) (outcome : Outcome) → with_front (records ++ r ∷ []) 0 outcome ≡ with_front records 0 (with_record r outcome)
front-more records r (Ok file) = ap (λ (rs : List RisRecord). Ok (ris_file rs (0 + file.skipped))) (append_assoc records (r ∷ []) file.records)
front-more records r (Err fault) = refl

-- where all of the file is left
pub all-left : (file : Text) (lines : List Line) → lines ≡ lines_of file → IsLeft file [] (rest_of (length file) 0 lines)
all-left file lines is = record {
  reads = λ said says. reads_if_told file lines said is (sym (with_front-none outcome) ∙ sym (with_front-none (with_front [] 0 outcome)) ∙ says);
  wrong = λ fault says. fault_if_told file lines fault is (sym (with_front-none outcome) ∙ says);
}
  where
    outcome : Outcome
    outcome = (told (length file) lines).outside

-- after one more record
pub left-more : (file : Text) (records : List RisRecord) (r : RisRecord) (rest after : Rest) → IsLeft file records rest → rest.says ≡ with_record r after.says → IsLeft file (records ++ r ∷ []) after
left-more file records r rest after left is = record {
  reads = λ said says. left.reads said (ap (with_front records 0) is ∙ sym (front-more records r after.says) ∙ says);
  wrong = λ fault says. left.wrong fault (is ∙ ap (with_record r) says);
}
