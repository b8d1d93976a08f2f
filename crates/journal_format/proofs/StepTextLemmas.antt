-- The length of a step as text.
use Rattle.journal_format.proofs.Words.{◌≡◌, ℕ, ◌+◌, ◌/◌, ◌%◌, ◌^◌, ◌≤◌, ◌<◌, suc, zero, List, [], ◌∷◌, ◌++◌, length, take, get_or, sym, ◌∙◌, ap, arith, rules, decimal, length-append, lit<, length_push, take_more, take_all, flat_map_more, flat_map, Piece, line_feed, Step, piece_text, pieces_text}
use Rattle.journal_format.proofs.Words.{step_text, step_text_len}
use Rattle.std.proofs.Common.{cond, nat_lt}
use Rattle.std.proofs.lemmas.Fmt.{AppendsLastDigit, decimal_from_appends, length-decimal-le}

-- the last k digits
abbrev pub shown : ℕ → ℕ → List ℕ
shown zero n = []
shown (suc k) n = cond (nat_lt n 10) ((48 + n) ∷ []) (shown k (n / 10) ++ (48 + n % 10) ∷ [])

appends : AppendsLastDigit shown
appends = search rules

pub length-decimal-digit : (n : ℕ) → n < 10 → length (decimal n) ≡ 1
length-decimal-digit n h =
    let small : n < 2 ^ 64 = omega arith in
    ap length (sym (decimal_from_appends shown appends 20 n small (length-decimal-le 20 n (lit< tt) (omega arith) small)) ∙ appends.one 19 n h)

pub length-decimal-more : (n : ℕ) → 10 ≤ n → n < 2 ^ 64 → length (decimal n) ≡ length (decimal (n / 10)) + 1
length-decimal-more n h small =
    let less : n / 10 < 10 ^ 19 = omega arith in
    let front : n / 10 < 2 ^ 64 = omega arith in
    ap length (sym (decimal_from_appends shown appends 20 n small (length-decimal-le 20 n (lit< tt) (omega arith) small)) ∙ appends.more 19 n h)
    ∙ length_push (shown 19 (n / 10)) (48 + n % 10)
    ∙ ap (λ (ds : List ℕ). length ds + 1) (decimal_from_appends shown appends 19 (n / 10) front (length-decimal-le 19 (n / 10) (lit< tt) less front))

pub length-decimal-small : (n : ℕ) → n < 2 ^ 64 → length (decimal n) ≤ 20
length-decimal-small n small = length-decimal-le 20 n (lit< tt) (omega arith) small

-- the length of the first pieces' texts
abbrev pub len_so_far : List Piece → ℕ → ℕ
len_so_far pieces i = length (flat_map piece_text (take i pieces))

pub len_more : (pieces : List Piece) (i : ℕ) (p : Piece) → i < length pieces → p ≡ get_or pieces i p → len_so_far pieces (i + 1) ≡ len_so_far pieces i + length (piece_text p)
len_more pieces i p h e =
    let next : take (i + 1) pieces ≡ take i pieces ++ p ∷ [] = take_more pieces i p h ∙ ap (λ (q : Piece). take i pieces ++ q ∷ []) (sym e) in
    let texts : flat_map piece_text (take (i + 1) pieces) ≡ flat_map piece_text (take i pieces) ++ piece_text p =
    ap (flat_map piece_text) next ∙ sym (flat_map_more piece_text [] (take i pieces) p) in
    omega (arith, ap length texts, length-append (flat_map piece_text (take i pieces)) (piece_text p))

pub len_all : (pieces : List Piece) (i : ℕ) → length pieces ≤ i → len_so_far pieces i ≡ length (flat_map piece_text pieces)
len_all pieces i h = ap (λ (ps : List Piece). length (flat_map piece_text ps)) (take_all i pieces h)

-- the number of the pieces in a line, and their texts
pub pieces_len : (pieces : List Piece) → length (pieces_text pieces) ≡ length (flat_map piece_text pieces) + (length (decimal (length pieces)) + 1)
unfolding pieces_text
pieces_len pieces = omega (arith, length-append (decimal (length pieces)) (line_feed ∷ flat_map piece_text pieces))

-- the label's line, and the pieces
pub step_len : (step : Step) → step_text_len step ≡ length (pieces_text step.pieces) + (length step.label + 1)
unfolding step_text_len step_text
step_len step = omega (arith, length-append step.label (line_feed ∷ pieces_text step.pieces))
