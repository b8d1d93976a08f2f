-- Pieces of texts, and what is inside of special characters.
use Rattle.std.proofs.Common.{◌≡◌, ◌∙◌, ℕ, zero, suc, ◌+◌, ◌-◌, ◌<◌, ◌≤◌, Bool, true, false, List, [], ◌∷◌, ◌++◌, length, map, cond, take, drop, get_or, filter, refl, sym, ap, subst, arith, length-append, append_assoc, append-nil, add-one, drop-cons, take-append-drop}
use Rattle.std.specs.Prelude.{if◌then◌else◌, ◌==◌, ◌&&◌, ◌||◌, not, slice_index}
use Rattle.std.specs.List.{prefix_len}
use Rattle.std.proofs.lemmas.List.{drop_all}
use Rattle.std.proofs.lemmas.Bool.{cond-true, cond-false}
use Rattle.bib_spec.specs.Bytes.{open_brace, close_brace}
use Rattle.bib_spec.specs.Text.{Text}
use Rattle.bib_names.specs.Template.{is_no_brace}
use Rattle.bibtex_labels.specs.Pieces.{depth_after, depth_from, inside_len, begins_special, pieces_from, pieces, single, backslash, joined, is_character, front_pieces}

-- ---- what is inside

-- one more byte is inside
pub inside_more : (depth len all : ℕ) (text : Text) → 0 < depth → len < length text → len + inside_len depth (drop len text) ≡ all
    → (len + 1) + inside_len (depth_after depth (get_or text len 0)) (drop (len + 1) text) ≡ all
inside_more zero len all text some within told = absurd (omega arith)
inside_more (suc depth) len all text some within told =
    let byte = get_or text len 0 in
    let rest = inside_len (depth_after (suc depth) byte) (drop (suc len) text) in
    let on : inside_len (suc depth) (drop len text) ≡ suc rest = ap (inside_len (suc depth)) (drop-cons text len 0 within) in
    let here : inside_len (depth_after (suc depth) byte) (drop (len + 1) text) ≡ rest = ap (λ k. inside_len (depth_after (suc depth) byte) (drop k text)) (add-one len) in
    omega (arith, on, here, told)

-- no brace is open any more
pub inside_closed : (depth len all : ℕ) (text : Text) → depth ≡ 0 → len + inside_len depth text ≡ all → len ≡ all
inside_closed depth len all text none told = let end : inside_len depth text ≡ 0 = ap (λ d. inside_len d text) none in omega (arith, end, told)

inside-none : (depth : ℕ) → inside_len depth [] ≡ 0
inside-none zero = refl
inside-none (suc depth) = refl

-- the text ends
pub inside_all : (depth len all : ℕ) (text : Text) → length text ≤ len → len + inside_len depth (drop len text) ≡ all → len ≡ all
inside_all depth len all text end told =
    let none : inside_len depth (drop len text) ≡ 0 = ap (inside_len depth) (drop_all len text end) ∙ inside-none depth in
    omega (arith, none, told)

inside_le : (depth : ℕ) (text : Text) → inside_len depth text ≤ length text
inside_le zero text = omega arith
inside_le (suc depth) [] = omega arith
inside_le (suc depth) (byte ∷ text) = omega (arith, inside_le (depth_after (suc depth) byte) text)

-- ---- pieces

-- bytes that are passed give no piece
pub pieces_passed : (depth passed : ℕ) (text : Text) → pieces_from depth passed text ≡ pieces_from depth 0 (drop passed text)
pieces_passed depth zero text = refl
pieces_passed depth (suc passed) [] = refl
pieces_passed depth (suc passed) (byte ∷ text) = pieces_passed depth passed text

-- a special character is the first piece
pub special_first : (depth byte len : ℕ) (text after : Text) → text ≡ byte ∷ after → len ≡ inside_len 1 after → begins_special depth byte after ≡ true
    → pieces_from depth 0 text ≡ take (1 + len) text ∷ pieces_from 0 0 (drop (1 + len) text)
special_first depth byte len text after is inside special =
    let one : 1 + len ≡ suc len = omega arith in
    let whole : pieces_from depth 0 (byte ∷ after) ≡ (byte ∷ take (inside_len 1 after) after) ∷ pieces_from 0 (inside_len 1 after) after = cond-true (begins_special depth byte after) _ _ special in
    subst (λ t. pieces_from depth 0 t ≡ take (1 + len) t ∷ pieces_from 0 0 (drop (1 + len) t)) (sym is)
    (whole ∙ ap (λ rest. (byte ∷ take (inside_len 1 after) after) ∷ rest) (pieces_passed 0 (inside_len 1 after) after)
    ∙ ap (λ n. (byte ∷ take n after) ∷ pieces_from 0 0 (drop n after)) (sym inside)
    ∙ ap (λ n. take n (byte ∷ after) ∷ pieces_from 0 0 (drop n (byte ∷ after))) (sym one))

-- another byte is the first piece
pub byte_first : (depth byte : ℕ) (text after : Text) → text ≡ byte ∷ after → begins_special depth byte after ≡ false
    → pieces_from depth 0 text ≡ take 1 text ∷ pieces_from (depth_after depth byte) 0 (drop 1 text)
byte_first depth byte text after is plain =
    subst (λ t. pieces_from depth 0 t ≡ take 1 t ∷ pieces_from (depth_after depth byte) 0 (drop 1 t)) (sym is) (cond-false (begins_special depth byte after) _ _ plain)

-- bytes before a brace are pieces one by one
pub plain_first : (depth len : ℕ) (text : Text) → len ≡ prefix_len is_no_brace text → pieces_from depth 0 text ≡ map single (take len text) ++ pieces_from depth 0 (drop len text)
plain_first depth len text is = by text ∙ ap (λ n. map single (take n text) ++ pieces_from depth 0 (drop n text)) (sym is)
  where
    by : (text : Text) → pieces_from depth 0 text ≡ map single (take (prefix_len is_no_brace text) text) ++ pieces_from depth 0 (drop (prefix_len is_no_brace text) text)
    by [] = refl
    by (byte ∷ text) = at (byte == open_brace) (byte == close_brace) refl refl (by text)
      where
        run : ℕ
        run = prefix_len is_no_brace text

        -- the byte is no brace, and opens nothing
        plain : byte == open_brace ≡ false → byte == close_brace ≡ false → pieces_from depth 0 (byte ∷ text) ≡ (byte ∷ []) ∷ pieces_from depth 0 text
        plain opens closes =
            cond-false (begins_special depth byte text) _ _ (ap (λ b. depth == 0 && b && slice_index text 0 == backslash) opens ∙ none (depth == 0))
            ∙ ap (λ d. (byte ∷ []) ∷ pieces_from d 0 text) (cond-false (byte == open_brace) (depth + 1) (cond (byte == close_brace) (depth - 1) depth) opens ∙ cond-false (byte == close_brace) (depth - 1) depth closes)
          where
            none : (b : Bool) → (b && false && slice_index text 0 == backslash) ≡ false
            none true = refl
            none false = refl

        stops : is_no_brace byte ≡ false → pieces_from depth 0 (byte ∷ text) ≡ map single (take (prefix_len is_no_brace (byte ∷ text)) (byte ∷ text)) ++ pieces_from depth 0 (drop (prefix_len is_no_brace (byte ∷ text)) (byte ∷ text))
        stops brace = ap (λ (n : ℕ). map single (take n (byte ∷ text)) ++ pieces_from depth 0 (drop n (byte ∷ text))) (sym (cond-false (is_no_brace byte) (1 + run) 0 brace))

        goes : is_no_brace byte ≡ true → pieces_from depth 0 (byte ∷ text) ≡ (byte ∷ []) ∷ pieces_from depth 0 text → pieces_from depth 0 text ≡ map single (take run text) ++ pieces_from depth 0 (drop run text)
            → pieces_from depth 0 (byte ∷ text) ≡ map single (take (prefix_len is_no_brace (byte ∷ text)) (byte ∷ text)) ++ pieces_from depth 0 (drop (prefix_len is_no_brace (byte ∷ text)) (byte ∷ text))
        goes other first later =
            let one : 1 + run ≡ suc run = omega arith in
            first ∙ ap (λ (l : List Text). (byte ∷ []) ∷ l) later
            ∙ ap (λ (n : ℕ). map single (take n (byte ∷ text)) ++ pieces_from depth 0 (drop n (byte ∷ text))) (sym (cond-true (is_no_brace byte) (1 + run) 0 other ∙ one))

        at : (opens closes : Bool) → byte == open_brace ≡ opens → byte == close_brace ≡ closes → pieces_from depth 0 text ≡ map single (take run text) ++ pieces_from depth 0 (drop run text)
            → pieces_from depth 0 (byte ∷ text) ≡ map single (take (prefix_len is_no_brace (byte ∷ text)) (byte ∷ text)) ++ pieces_from depth 0 (drop (prefix_len is_no_brace (byte ∷ text)) (byte ∷ text))
        at true closes opens_is closes_is later = stops (ap (λ b. not (b || byte == close_brace)) opens_is)
        at false true opens_is closes_is later = stops (ap (λ b. not (b || byte == close_brace)) opens_is ∙ ap not closes_is)
        at false false opens_is closes_is later = goes (ap (λ b. not (b || byte == close_brace)) opens_is ∙ ap not closes_is) (plain opens_is closes_is) later

-- there are no more pieces after them than with them
pub plain_fewer : (bytes : Text) (pieces rest : List Text) → pieces ≡ map single bytes ++ rest → length rest ≤ length pieces
plain_fewer bytes pieces rest is = let all : length pieces ≡ length (map single bytes) + length rest = ap length is ∙ length-append (map single bytes) rest in omega (arith, all)

-- ---- the pieces are the text

joined_from : (depth passed : ℕ) (text : Text) → joined (pieces_from depth passed text) ≡ drop passed text
joined_from depth zero [] = refl
joined_from depth (suc passed) [] = refl
joined_from depth (suc passed) (byte ∷ text) = joined_from depth passed text
joined_from depth zero (byte ∷ text) = by (joined_from 0 (inside_len 1 text) text) (joined_from (depth_after depth byte) 0 text) (begins_special depth byte text)
  where
    inside : ℕ
    inside = inside_len 1 text

    by : joined (pieces_from 0 inside text) ≡ drop inside text → joined (pieces_from (depth_after depth byte) 0 text) ≡ text → (b : Bool) → joined (if b then (byte ∷ take inside text) ∷ pieces_from 0 inside text else (byte ∷ []) ∷ pieces_from (depth_after depth byte) 0 text) ≡ byte ∷ text
    by special plain true = ap (λ rest. byte ∷ (take inside text ++ rest)) special ∙ ap (λ t. byte ∷ t) (take-append-drop inside text)
    by special plain false = ap (λ t. byte ∷ t) plain

pub pieces_join : (text : Text) → joined (pieces text) ≡ text
pieces_join text = joined_from 0 0 text

-- ---- depth

pub depth_more : (depth n all : ℕ) (text : Text) → n < length text → depth_from depth (drop n text) ≡ all → depth_from (depth_after depth (get_or text n 0)) (drop (n + 1) text) ≡ all
depth_more depth n all text within told =
    ap (λ k. depth_from (depth_after depth (get_or text n 0)) (drop k text)) (add-one n) ∙ sym (ap (depth_from depth) (drop-cons text n 0 within)) ∙ told

pub depth_all : (depth n all : ℕ) (text : Text) → length text ≤ n → depth_from depth (drop n text) ≡ all → depth ≡ all
depth_all depth n all text end told = sym (ap (depth_from depth) (drop_all n text end)) ∙ told

-- ---- text characters

-- how many of these pieces are text characters
abbrev pub characters : List Text → ℕ
characters list = length (filter is_character list)

pub characters_more : (count all : ℕ) (left rest : List Text) (piece : Text) → left ≡ piece ∷ rest → is_character piece ≡ true → count + characters left ≡ all → (count + 1) + characters rest ≡ all
characters_more count all left rest piece is counts told =
    let one : characters left ≡ suc (characters rest) = ap characters is ∙ ap length (cond-true (is_character piece) (piece ∷ filter is_character rest) (filter is_character rest) counts) in
    omega (arith, one, told)

pub characters_same : (count all : ℕ) (left rest : List Text) (piece : Text) → left ≡ piece ∷ rest → is_character piece ≡ false → count + characters left ≡ all → count + characters rest ≡ all
characters_same count all left rest piece is brace told =
    let same : characters left ≡ characters rest = ap characters is ∙ ap length (cond-false (is_character piece) (piece ∷ filter is_character rest) (filter is_character rest) brace) in
    omega (arith, same, told)

pub characters_none : (count all : ℕ) (left : List Text) → left ≡ [] → count + characters left ≡ all → count ≡ all
characters_none count all left is told = let none : characters left ≡ 0 = ap characters is in omega (arith, none, told)

-- one more piece is at the front
pub front_more : (n : ℕ) (left rest : List Text) (piece out all : Text) → 0 < n → left ≡ piece ∷ rest → out ++ joined (front_pieces n left) ≡ all
    → (out ++ piece) ++ joined (front_pieces (if is_character piece then n - 1 else n) rest) ≡ all
front_more zero left rest piece out all some is told = absurd (omega arith)
front_more (suc n) left rest piece out all some is told =
    let less : suc n - 1 ≡ n = omega arith in
    ap (λ m. (out ++ piece) ++ joined (front_pieces (if is_character piece then m else suc n) rest)) less
    ∙ append_assoc out piece (joined (front_pieces (if is_character piece then n else suc n) rest))
    ∙ ap (λ l. out ++ joined (front_pieces (suc n) l)) (sym is) ∙ told

front-nil : (n : ℕ) → front_pieces n [] ≡ []
front-nil zero = refl
front-nil (suc n) = refl

pub front_few : (n : ℕ) (left : List Text) (out all : Text) → left ≡ [] → out ++ joined (front_pieces n left) ≡ all → out ≡ all
front_few n left out all is told = sym (append-nil out) ∙ ap (λ l. out ++ joined l) (sym (ap (front_pieces n) is ∙ front-nil n)) ∙ told

pub front_all : (n : ℕ) (left : List Text) (out all : Text) → n ≡ 0 → out ++ joined (front_pieces n left) ≡ all → out ≡ all
front_all n left out all is told = sym (append-nil out) ∙ ap (λ m. out ++ joined (front_pieces m left)) (sym is) ∙ told
