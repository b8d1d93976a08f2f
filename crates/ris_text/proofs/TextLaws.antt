-- The text of well-formed records says them.
use Rattle.ris_text.proofs.Words.{◌≡◌, ℕ, suc, ◌+◌, Bool, true, false, [], ◌∷◌, ◌++◌, length, drop, map, refl, sym, ap, ◌∙◌, arith, append_assoc, inl, inr, Ok, list_all, list_any, flat_map, prefix_len, and_parts, not-true, bytes_eq-Decides, flat_map-append, space, line_feed, Text, is_space}
use Rattle.ris_text.proofs.Words.{is_empty, onto_first, Class, Begin, End, Known, RisLine, RisRecord, before_run, trimmed, begin_tag, end_tag, is_known, is_tag, has_tag, tag_class, Line, line_at, line_texts, lines_from, lines_of, mark_len, is_untagged, joined, written, ended, record_text, ris_text}
use Rattle.ris_text.proofs.Words.{ends_line, fits_line, just, continuation, Outcome, Inside, inside, Told, told, told_inner, with_skipped, with_record, whole_record, ris_line}
use Rattle.std.proofs.Common.{List}
use Rattle.std.specs.Prelude.{◌&&◌, not, ◌==◌, bytes_eq}
use Rattle.std.proofs.lemmas.Bool.{or_parts, or_cases}
use Rattle.ris_text.specs.Tags.{known_tags}
use Rattle.ris_text.specs.Writing.{written_lines, is_well_formed_line, is_well_formed, AreWellFormed}
use Rattle.ris_text.specs.Laws.{TextSaysRecords, TextSaysNothingElse, TextIsNotWrong}
use Rattle.ris_text.proofs.JoinLemmas.{joined-none}
use Rattle.ris_text.proofs.ToldLemmas.{told-class}
use Rattle.ris_text.proofs.MeaningLemmas.{tagged_stops}
use Rattle.ris_text.proofs.MeaningLaws.{reads_if_told, says_one, wrong_says_nothing}

-- ---- tags

-- two bytes that are a tag, neither that of a TY line nor that of an ER line, and no line ends in them
abbrev is_plain_tag : Text → Bool
is_plain_tag [] = false
is_plain_tag (a ∷ []) = false
is_plain_tag (a ∷ b ∷ []) =
    is_tag a b && ((not (bytes_eq (a ∷ b ∷ []) begin_tag) && not (bytes_eq (a ∷ b ∷ []) end_tag)) && (not (a == line_feed) && not (b == line_feed)))
is_plain_tag (a ∷ b ∷ c ∷ t) = false

all_plain : list_all is_plain_tag known_tags ≡ true
unfolding known_tags
all_plain = refl

one_of_plain : (tag : Text) (tags : List Text) → list_any (λ known. bytes_eq known tag) tags ≡ true → list_all is_plain_tag tags ≡ true → is_plain_tag tag ≡ true
one_of_plain tag [] is are = absurd (cc)
one_of_plain tag (t ∷ tags) is are =
    let parts = and_parts (is_plain_tag t) (list_all is_plain_tag tags) are in
    elim (or_cases (bytes_eq t tag) (list_any (λ known. bytes_eq known tag) tags) is) [
      | inl same ↦ ap is_plain_tag (sym ((bytes_eq-Decides t tag).0 same)) ∙ parts.0
      | inr later ↦ one_of_plain tag tags later parts.1
    ]

known_is_plain : (tag : Text) → is_known tag ≡ true → is_plain_tag tag ≡ true
unfolding is_known
known_is_plain tag is = one_of_plain tag known_tags is all_plain

known_class : (tag : Text) → is_known tag ≡ true → bytes_eq tag begin_tag ≡ false → bytes_eq tag end_tag ≡ false → tag_class tag ≡ Known tag
unfolding tag_class
known_class tag known not_begin not_end = rw (not_begin, not_end, known) refl

-- ---- values

space_dropped : (value : Text) → trimmed (space ∷ value) ≡ trimmed value
unfolding is_space
space_dropped value =
    let one : 1 + prefix_len is_space value ≡ suc (prefix_len is_space value) = omega arith in
    ap (λ n. before_run is_space (drop n (space ∷ value))) one

fits_trimmed : (value : Text) → fits_line value ≡ true → trimmed value ≡ value
unfolding fits_line
fits_trimmed value fits = (bytes_eq-Decides (trimmed value) value).0 (and_parts (not (list_any ends_line value)) (bytes_eq (trimmed value) value) fits).1

-- the text has no line feed
abbrev LacksFeed : Text → Type 0
LacksFeed text = list_any (λ b. b == line_feed) text ≡ false

lacks : (text : Text) → list_any ends_line text ≡ false → LacksFeed text
lacks [] none = refl
lacks (b ∷ text) none =
    let parts = or_parts (ends_line b) (list_any ends_line text) none in
    let here : (b == line_feed) ≡ false = (or_parts (b == line_feed) _ parts.0).0 in
    rw here (lacks text parts.1)

fits_lacks : (value : Text) → fits_line value ≡ true → LacksFeed value
unfolding fits_line
fits_lacks value fits = lacks value (not-true (list_any ends_line value) (and_parts (not (list_any ends_line value)) (bytes_eq (trimmed value) value) fits).0)

-- ---- lines

-- a line with a tag, as it is read
abbrev seen_as : ℕ → Class → Text → Line
seen_as place class text = record { place = place; class = class; text = text }

written_line : (place a b : ℕ) (value : Text) → is_tag a b ≡ true → line_at place (written (a ∷ b ∷ []) value) ≡ seen_as place (tag_class (a ∷ b ∷ [])) (trimmed (space ∷ value))
unfolding line_at has_tag
written_line place a b value is = rw is refl

-- what is_plain_tag says of two bytes
record IsPlain (a b : ℕ) : Type 0 where
  tag : is_tag a b ≡ true
  not_begin : bytes_eq (a ∷ b ∷ []) begin_tag ≡ false
  not_end : bytes_eq (a ∷ b ∷ []) end_tag ≡ false
  first : (a == line_feed) ≡ false
  second : (b == line_feed) ≡ false

plain_parts : (a b : ℕ) → is_plain_tag (a ∷ b ∷ []) ≡ true → IsPlain a b
plain_parts a b is =
    let parts = and_parts (is_tag a b) _ is in
    let others = and_parts (not (bytes_eq (a ∷ b ∷ []) begin_tag) && not (bytes_eq (a ∷ b ∷ []) end_tag)) (not (a == line_feed) && not (b == line_feed)) parts.1 in
    let ends = and_parts (not (bytes_eq (a ∷ b ∷ []) begin_tag)) (not (bytes_eq (a ∷ b ∷ []) end_tag)) others.0 in
    let feeds = and_parts (not (a == line_feed)) (not (b == line_feed)) others.1 in
    record {
      tag = parts.0;
      not_begin = not-true _ ends.0;
      not_end = not-true _ ends.1;
      first = not-true _ feeds.0;
      second = not-true _ feeds.1;
    }

-- a kept line is read as it was written
kept_seen : (place : ℕ) (tag value : Text) → is_known tag ≡ true → fits_line value ≡ true → line_at place (written tag value) ≡ seen_as place (Known tag) value
kept_seen place [] value known fits = let plain = known_is_plain [] known in absurd (cc)
kept_seen place (a ∷ []) value known fits = let plain = known_is_plain (a ∷ []) known in absurd (cc)
kept_seen place (a ∷ b ∷ c ∷ t) value known fits = let plain = known_is_plain (a ∷ b ∷ c ∷ t) known in absurd (cc)
kept_seen place (a ∷ b ∷ []) value known fits =
    let plain : IsPlain a b = plain_parts a b (known_is_plain (a ∷ b ∷ []) known) in
    written_line place a b value plain.tag
    ∙ ap (λ (k : Class). seen_as place k (trimmed (space ∷ value))) (known_class (a ∷ b ∷ []) known plain.not_begin plain.not_end)
    ∙ ap (seen_as place (Known (a ∷ b ∷ []))) (space_dropped value ∙ fits_trimmed value fits)

begin_seen : (place : ℕ) (value : Text) → fits_line value ≡ true → line_at place (written begin_tag value) ≡ seen_as place Begin value
unfolding tag_class
begin_seen place value fits =
    written_line place 84 89 value refl ∙ ap (seen_as place Begin) (space_dropped value ∙ fits_trimmed value fits)

end_class : (place : ℕ) → (line_at place (written end_tag [])).class ≡ End
unfolding tag_class
end_class place = ap (λ (l : Line). l.class) (written_line place 69 82 [] refl)

kept_lacks : (tag value : Text) → is_known tag ≡ true → fits_line value ≡ true → LacksFeed (written tag value)
kept_lacks [] value known fits = let plain = known_is_plain [] known in absurd (cc)
kept_lacks (a ∷ []) value known fits = let plain = known_is_plain (a ∷ []) known in absurd (cc)
kept_lacks (a ∷ b ∷ c ∷ t) value known fits = let plain = known_is_plain (a ∷ b ∷ c ∷ t) known in absurd (cc)
kept_lacks (a ∷ b ∷ []) value known fits =
    let plain : IsPlain a b = plain_parts a b (known_is_plain (a ∷ b ∷ []) known) in
    rw (plain.first, plain.second) (fits_lacks value fits)

-- ---- the lines of a text

line_text-ended : (line t : Text) → LacksFeed line → line_texts (ended line ++ t) ≡ line ∷ line_texts t
line_text-ended [] t lacking = refl
line_text-ended (b ∷ line) t lacking =
    let parts = or_parts (b == line_feed) (list_any (λ c. c == line_feed) line) lacking in
    rw parts.0 (ap (onto_first b) (line_text-ended line t parts.1))

data AllLack : List Text → Type 0 where
  none : AllLack []
  more : {line : Text} {lines : List Text} → LacksFeed line → AllLack lines → AllLack (line ∷ lines)

AllLack-append : (xs ys : List Text) → AllLack xs → AllLack ys → AllLack (xs ++ ys)
AllLack-append [] ys none are = are
AllLack-append (x ∷ xs) ys (more is are) others = more is (AllLack-append xs ys are others)

-- lines that are written one after another are read again
line_texts-ended : (lines : List Text) → AllLack lines → line_texts (flat_map ended lines) ≡ lines
line_texts-ended [] none = refl
line_texts-ended (line ∷ lines) (more is are) = line_text-ended line (flat_map ended lines) is ∙ ap (λ (ls : List Text). line ∷ ls) (line_texts-ended lines are)

-- ---- records

abbrev kept_lines : List RisLine → List Text
kept_lines lines = map (λ line. written line.tag line.value) lines

lines_lack : (lines : List RisLine) → list_all is_well_formed_line lines ≡ true → AllLack (kept_lines lines)
lines_lack [] are = none
lines_lack (line ∷ lines) are =
    let parts = and_parts (is_well_formed_line line) (list_all is_well_formed_line lines) are in
    let own = and_parts (is_known line.tag) (fits_line line.value) parts.0 in
    more (kept_lacks line.tag line.value own.0 own.1) (lines_lack lines parts.1)

-- what a well-formed record is
record IsFormed (r : RisRecord) : Type 0 where
  typed : is_empty r.kind_name ≡ false
  fits : fits_line r.kind_name ≡ true
  lines : list_all is_well_formed_line r.lines ≡ true

formed_parts : (r : RisRecord) → is_well_formed r ≡ true → IsFormed r
unfolding is_well_formed
formed_parts r is =
    let parts = and_parts (not (is_empty r.kind_name) && fits_line r.kind_name) (list_all is_well_formed_line r.lines) is in
    let own = and_parts (not (is_empty r.kind_name)) (fits_line r.kind_name) parts.0 in
    record { typed = not-true _ own.0; fits = own.1; lines = parts.1 }

record_lacks : (r : RisRecord) → is_well_formed r ≡ true → AllLack (written_lines r)
record_lacks r is =
    let formed : IsFormed r = formed_parts r is in
    more (fits_lacks r.kind_name formed.fits) (AllLack-append (kept_lines r.lines) (written end_tag [] ∷ []) (lines_lack r.lines formed.lines) (more refl none))

abbrev all_written : List RisRecord → List Text
all_written records = flat_map written_lines records

records_lack : (records : List RisRecord) → AreWellFormed records → AllLack (all_written records)
records_lack [] are = none
records_lack (r ∷ records) are =
    let parts = and_parts (is_well_formed r) (list_all is_well_formed records) are in
    AllLack-append (written_lines r) (all_written records) (record_lacks r parts.0) (records_lack records parts.1)

text_of_lines : (records : List RisRecord) → ris_text records ≡ flat_map ended (all_written records)
text_of_lines [] = refl
text_of_lines (r ∷ records) =
    ap (λ (t : Text). record_text r ++ t) (text_of_lines records) ∙ sym (flat_map-append ended (written_lines r) (all_written records))

no_mark : (records : List RisRecord) → mark_len (ris_text records) ≡ 0
unfolding mark_len
no_mark [] = refl
no_mark (r ∷ records) = refl

-- the lines of the text are those that were written
text_lines : (records : List RisRecord) → AreWellFormed records → lines_of (ris_text records) ≡ lines_from 0 (all_written records)
text_lines records are =
    ap (λ n. lines_from n (line_texts (drop n (ris_text records)))) (no_mark records)
    ∙ ap (lines_from 0) (ap line_texts (text_of_lines records) ∙ line_texts-ended (all_written records) (records_lack records are))

-- ---- what they say

-- the lines of a record after its TY line continue nothing
kept_stop : (place : ℕ) (lines : List RisLine) (rest : List Text) → list_all is_well_formed_line lines ≡ true
    → continuation (lines_from place (kept_lines lines ++ written end_tag [] ∷ rest)) ≡ []
kept_stop place [] rest are = tagged_stops (line_at place (written end_tag [])) _ (ap is_untagged (end_class place))
kept_stop place (line ∷ lines) rest are =
    let parts = and_parts (is_well_formed_line line) (list_all is_well_formed_line lines) are in
    let own = and_parts (is_known line.tag) (fits_line line.value) parts.0 in
    tagged_stops (line_at place (written line.tag line.value)) _ (ap (λ (l : Line). is_untagged l.class) (kept_seen place line.tag line.value own.0 own.1))

-- inside the record they are kept, where what is after says the same from each place on
kept_told : (end place : ℕ) (lines : List RisLine) (rest : List Text) (outcome : Outcome) → list_all is_well_formed_line lines ≡ true
    → ((at : ℕ) → (told end (lines_from at rest)).outside ≡ outcome) → told_inner end (lines_from place (kept_lines lines ++ written end_tag [] ∷ rest)) ≡ inside lines 0 (Ok outcome)
kept_told end place [] rest outcome are after =
    let last : Text = written end_tag [] in
    let others : List Line = lines_from (place + length last + 1) rest in
    ap (λ (t : Told). t.inside) (told-class end (line_at place last) others End (end_class place))
    ∙ ap (λ (o : Outcome). inside [] 0 (Ok o)) (after (place + length last + 1))
kept_told end place (line ∷ lines) rest outcome are after =
    let parts = and_parts (is_well_formed_line line) (list_all is_well_formed_line lines) are in
    let own = and_parts (is_known line.tag) (fits_line line.value) parts.0 in
    let at : ℕ = place + length (written line.tag line.value) + 1 in
    let others : List Line = lines_from at (kept_lines lines ++ written end_tag [] ∷ rest) in
    ap (λ (l : Line). told_inner end (l ∷ others)) (kept_seen place line.tag line.value own.0 own.1)
    ∙ ap (λ (ts : List Text). inside (ris_line line.tag (joined line.value ts) ∷ (told_inner end others).kept) (told_inner end others).skipped (told_inner end others).after)
    (kept_stop at lines rest parts.1)
    ∙ ap (λ (i : Inside). inside (ris_line line.tag (joined line.value []) ∷ i.kept) i.skipped i.after) (kept_told end at lines rest outcome parts.1 after)
    ∙ ap (λ (v : Text). inside (ris_line line.tag v ∷ lines) 0 (Ok outcome)) (joined-none line.value)

-- a record before others
record_told_back : (end place : ℕ) (r : RisRecord) (rest : List Text) (outcome : Outcome) → is_well_formed r ≡ true
    → ((at : ℕ) → (told end (lines_from at rest)).outside ≡ outcome) → (told end (lines_from place (written_lines r ++ rest))).outside ≡ with_record r (with_skipped 0 outcome)
record_told_back end place r rest outcome is after =
    let formed : IsFormed r = formed_parts r is in
    let at : ℕ = place + length (written begin_tag r.kind_name) + 1 in
    let texts : List Text = kept_lines r.lines ++ written end_tag [] ∷ rest in
    let others : List Line = lines_from at texts in
    let split : (kept_lines r.lines ++ written end_tag [] ∷ []) ++ rest ≡ texts = append_assoc (kept_lines r.lines) (written end_tag [] ∷ []) rest in
    ap (λ (ts : List Text). (told end (line_at place (written begin_tag r.kind_name) ∷ lines_from at ts)).outside) split
    ∙ ap (λ (l : Line). (told end (l ∷ others)).outside) (begin_seen place r.kind_name formed.fits)
    ∙ ap (λ (ts : List Text). whole_record place (joined r.kind_name ts) (told_inner end others) (told_inner end others).after) (kept_stop at r.lines rest formed.lines)
    ∙ ap (λ (i : Inside). whole_record place (joined r.kind_name []) i i.after) (kept_told end at r.lines rest outcome formed.lines after)
    ∙ ap (λ (t : Text). whole_record place t (inside r.lines 0 (Ok outcome)) (Ok outcome)) (joined-none r.kind_name)
    ∙ rw formed.typed refl

text_told : (end place : ℕ) (records : List RisRecord) → AreWellFormed records → (told end (lines_from place (all_written records))).outside ≡ Ok (just records)
text_told end place [] are = refl
text_told end place (r ∷ records) are =
    let parts = and_parts (is_well_formed r) (list_all is_well_formed records) are in
    record_told_back end place r (all_written records) (Ok (just records)) parts.0 (λ at. text_told end at records parts.1)

pub text_says_records : TextSaysRecords
text_says_records records are =
    reads_if_told (ris_text records) (lines_from 0 (all_written records)) (just records) (sym (text_lines records are))
    (text_told (length (ris_text records)) 0 records are)

pub text_says_nothing_else : TextSaysNothingElse
text_says_nothing_else records file are reads = says_one (lines_of (ris_text records)) file (just records) reads (text_says_records records are)

pub text_is_not_wrong : TextIsNotWrong
text_is_not_wrong records fault are wrong =
    wrong_says_nothing (length (ris_text records)) (lines_of (ris_text records)) (just records) fault (text_says_records records are) wrong
