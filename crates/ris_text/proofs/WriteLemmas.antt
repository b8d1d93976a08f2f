-- The text of lines, one after another.
use Rattle.ris_text.proofs.Words.{◌≡◌, ℕ, ◌+◌, ◌≤◌, ◌<◌, [], ◌∷◌, ◌++◌, length, take, get_or, map, refl, sym, ap, ◌∙◌, arith, append-nil, append_assoc, flat_map, flat_map-append, Text, RisLine, RisRecord, begin_tag, end_tag, written, ended, record_text}
use Rattle.std.proofs.Common.{List, length-append}
use Rattle.std.proofs.lemmas.List.{take_more, flat_map_more, take-take, take_at}
use Rattle.std.proofs.lemmas.List.Folds.{flat_map-map}

-- a text at the front of a longer one is at the front of each text that begins with the longer one
pub front_stands : (text now more new : Text) → now ≡ text ++ more → take (length now) new ≡ now → take (length text) new ≡ text
front_stands text now more new grown stands =
    let within : length text ≤ length now = omega (arith, ap (length {A = ℕ}) grown, length-append text more) in
    sym (take-take (length text) (length now) new within) ∙ ap (take (length text)) (stands ∙ grown) ∙ take_at text more (length text) refl

-- one member more is written
pub written_more : {A : Type 0} (f : A → Text) (before so_far longer : Text) (xs : List A) (i : ℕ) (d : A) → so_far ≡ before ++ flat_map f (take i xs) → i < length xs
    → longer ≡ so_far ++ f (get_or xs i d) → longer ≡ before ++ flat_map f (take (i + 1) xs)
written_more f before so_far longer xs i d is within more =
    more ∙ ap (λ (t : Text). t ++ f (get_or xs i d)) is ∙ flat_map_more f before (take i xs) (get_or xs i d)
    ∙ ap (λ ys. before ++ flat_map f ys) (sym (take_more xs i d within))

-- the lines of a record that are neither its first nor its last
abbrev pub kept_text : List RisLine → Text
kept_text lines = flat_map (λ line. ended (written line.tag line.value)) lines

-- the text of a record: its TY line, its lines, its ER line
pub record_in_parts : (r : RisRecord) → ended (written begin_tag r.kind_name) ++ (kept_text r.lines ++ ended (written end_tag [])) ≡ record_text r
record_in_parts r =
    let lines : List Text = map (λ line. written line.tag line.value) r.lines in
    let last : Text = written end_tag [] in
    ap (λ (t : Text). ended (written begin_tag r.kind_name) ++ t)
    (ap (λ (t : Text). t ++ ended last) (sym (flat_map-map ended (λ (line : RisLine). written line.tag line.value) r.lines))
    ∙ ap (λ (t : Text). flat_map ended lines ++ t) (sym (append-nil (ended last)))
    ∙ sym (flat_map-append ended lines (last ∷ [])))

-- and after other text
pub record_after : (r : RisRecord) (text first others all : Text) → first ≡ text ++ ended (written begin_tag r.kind_name) → others ≡ first ++ kept_text r.lines
    → all ≡ others ++ ended (written end_tag []) → all ≡ text ++ record_text r
record_after r text first others all is_first is_others is_all =
    let head : Text = ended (written begin_tag r.kind_name) in
    is_all ∙ ap (λ (t : Text). t ++ ended (written end_tag [])) (is_others ∙ ap (λ (t : Text). t ++ kept_text r.lines) is_first)
    ∙ append_assoc (text ++ head) (kept_text r.lines) (ended (written end_tag [])) ∙ append_assoc text head (kept_text r.lines ++ ended (written end_tag []))
    ∙ ap (λ (t : Text). text ++ t) (record_in_parts r)
