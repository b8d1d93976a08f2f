-- How long the text of a step is after an edit joins it.
use Rattle.bib_journal.proofs.Words.{zero, suc, ◌≡◌, ℕ, ◌+◌, ◌-◌, ◌^◌, ◌≤◌, min, get_or, List, [], ◌∷◌, ◌++◌, length, take, drop, decimal, refl, sym, ◌∙◌, ap, arith, length-append, flat_map, line_feed, Text, Piece, Replacement, replaced, piece_text, pieces_text, step_text_len, HasSpot, edited_at}
use Rattle.std.proofs.Common.{length-drop}
use Rattle.std.proofs.lemmas.List.{length-take-le, drop-take, take-take}
use Rattle.std.proofs.lemmas.Grind.{flat_map-append}
use Rattle.bib_spec.specs.Bytes.{space}
use Rattle.journal_format.proofs.StepTextLemmas.{step_len, pieces_len}
use Rattle.bib_steps.specs.Amending.{edited}
use Rattle.bib_steps.proofs.Positions.{in_three, front_kept}

-- the texts of pieces, together
abbrev pub texts_of : List Piece → Text
texts_of ps = flat_map piece_text ps

-- the pieces that a replacement takes away
abbrev pub taken : Replacement → List Piece → List Piece
taken r ps = take (r.to - r.from) (drop r.from ps)

length-texts : (front middle back : List Piece) → length (texts_of (front ++ (middle ++ back))) ≡ length (texts_of front) + (length (texts_of middle) + length (texts_of back))
length-texts front middle back =
    ap length (flat_map-append piece_text front (middle ++ back) ∙ ap (λ t. texts_of front ++ t) (flat_map-append piece_text middle back))
    ∙ length-append (texts_of front) (texts_of middle ++ texts_of back)
    ∙ ap (λ n. length (texts_of front) + n) (length-append (texts_of middle) (texts_of back))

pub texts_replaced : (r : Replacement) (ps : List Piece) → r.from ≤ r.to → length (texts_of (replaced r ps)) + length (texts_of (taken r ps)) ≡ length (texts_of ps) + length (texts_of r.pieces)
texts_replaced r ps h =
    omega (arith, length-texts (take r.from ps) r.pieces (drop r.to ps), length-texts (take r.from ps) (taken r ps) (drop r.to ps), ap (λ qs. length (texts_of qs)) (in_three ps r.from r.to h))

pub count_replaced : (r : Replacement) (ps : List Piece) → r.from ≤ r.to → r.to ≤ length ps → length (replaced r ps) ≡ length ps - (r.to - r.from) + length r.pieces
count_replaced r ps h k =
    omega (arith, h, k, length-append (take r.from ps) (r.pieces ++ drop r.to ps), length-append r.pieces (drop r.to ps), length-take-le r.from ps (omega (arith, h, k)), length-drop r.to ps)

pub taken_before : (first last : Replacement) (ps : List Piece) → first.from ≤ first.to → first.to ≤ last.from → last.from ≤ length ps → taken first (replaced last ps) ≡ taken first ps
taken_before first last ps h k inside =
    let whole : first.from + (first.to - first.from) ≡ first.to = omega arith in
    sym (drop-take first.from (first.to - first.from) (replaced last ps))
    ∙ ap (λ n. drop first.from (take n (replaced last ps))) whole
    ∙ ap (drop first.from) (front_kept last ps first.to k inside)
    ∙ sym (ap (λ n. drop first.from (take n ps)) whole)
    ∙ drop-take first.from (first.to - first.from) ps

pub taken_short : (r : Replacement) (ps : List Piece) → r.from ≤ r.to → length (texts_of (taken r ps)) ≤ length (texts_of ps)
taken_short r ps h = omega (arith, length-texts (take r.from ps) (taken r ps) (drop r.to ps), ap (λ qs. length (texts_of qs)) (in_three ps r.from r.to h))

-- what two replacements take away is not more than there is
pub both_taken_short : (first last : Replacement) (ps : List Piece) → first.from ≤ first.to → first.to ≤ last.from → last.from ≤ last.to
    → length (texts_of (taken last ps)) + length (texts_of (taken first ps)) ≤ length (texts_of ps)
both_taken_short first last ps h k m =
    let whole : first.from + (first.to - first.from) ≡ first.to = omega arith in
    let front : taken first (take last.from ps) ≡ taken first ps
    = sym (drop-take first.from (first.to - first.from) (take last.from ps))
    ∙ ap (λ n. drop first.from (take n (take last.from ps))) whole
    ∙ ap (drop first.from) (take-take first.to last.from ps k)
    ∙ sym (ap (λ n. drop first.from (take n ps)) whole)
    ∙ drop-take first.from (first.to - first.from) ps in
    let less : length (texts_of (taken first ps)) ≤ length (texts_of (take last.from ps)) = omega (arith, taken_short first (take last.from ps) h, ap (λ qs. length (texts_of qs)) front) in
    omega (arith, less, length-texts (take last.from ps) (taken last ps) (drop last.to ps), ap (λ qs. length (texts_of qs)) (in_three ps last.from last.to m))

-- the text with other pieces
pub changed : (len gone come before now result gone_len come_len : ℕ) (label : Text) (old new : List Piece)
    → step_text_len (record { label = label; pieces = old }) ≤ len → len ≤ 67174399
    → gone_len ≤ length (texts_of old) → gone ≡ min gone_len (2 ^ 64 - 1) → come ≡ min come_len (2 ^ 64 - 1) → length (texts_of new) + gone_len ≡ length (texts_of old) + come_len
    → before ≡ length old → now ≡ length new
    → result ≡ min (min (len - min (gone + length (decimal before)) (2 ^ 64 - 1) + come) (2 ^ 64 - 1) + length (decimal now)) (2 ^ 64 - 1)
    → result ≡ min (len - step_text_len (record { label = label; pieces = old }) + step_text_len (record { label = label; pieces = new })) (2 ^ 64 - 1)
changed len gone come before now result gone_len come_len label old new short limit part gone_is come_is texts before_is now_is result_is =
    let digits_before : length (decimal before) ≡ length (decimal (length old)) = ap (λ n. length (decimal n)) before_is in
    let digits_now : length (decimal now) ≡ length (decimal (length new)) = ap (λ n. length (decimal n)) now_is in
    let old_len : step_text_len (record { label = label; pieces = old }) ≡ length (pieces_text old) + (length label + 1) = step_len (record { label = label; pieces = old }) in
    let new_len : step_text_len (record { label = label; pieces = new }) ≡ length (pieces_text new) + (length label + 1) = step_len (record { label = label; pieces = new }) in
    omega (arith, short, limit, part, gone_is, come_is, texts, result_is, digits_before, digits_now, old_len, new_len, pieces_len old, pieces_len new)

-- each piece has a text
count_short : (ps : List Piece) → length ps ≤ length (texts_of ps)
count_short [] = omega arith
count_short (p ∷ ps) =
    omega (
      arith,
      count_short ps,
      length-append (piece_text p) (texts_of ps),
      length-append (decimal p.place) (space ∷ decimal (length p.old) ++ (space ∷ decimal (length p.new) ++ (line_feed ∷ p.old ++ (p.new ++ line_feed ∷ [])))),
    )

pub few_pieces : (label : Text) (ps : List Piece) (len : ℕ) → step_text_len (record { label = label; pieces = ps }) ≤ len → length ps ≤ len
few_pieces label ps len h =
    let all : step_text_len (record { label = label; pieces = ps }) ≡ length (pieces_text ps) + (length label + 1) = step_len (record { label = label; pieces = ps }) in
    omega (arith, h, count_short ps, all, pieces_len ps)

-- the texts and the number of the pieces after two replacements
pub amended_texts : (first last : Replacement) (ps : List Piece) → first.from ≤ first.to → first.to ≤ last.from → last.from ≤ last.to → last.to ≤ length ps
    → length (texts_of (replaced first (replaced last ps))) + (length (texts_of (taken last ps)) + length (texts_of (taken first ps)))
    ≡ length (texts_of ps) + (length (texts_of last.pieces) + length (texts_of first.pieces))
amended_texts first last ps h k m inside =
    let same : length (texts_of (taken first (replaced last ps))) ≡ length (texts_of (taken first ps)) = ap (λ qs. length (texts_of qs)) (taken_before first last ps h k (omega (arith, m, inside))) in
    omega (arith, same, texts_replaced first (replaced last ps) h, texts_replaced last ps m)

pub amended_count : (first last : Replacement) (ps : List Piece) → first.from ≤ first.to → first.to ≤ last.from → last.from ≤ last.to → last.to ≤ length ps
    → length (replaced first (replaced last ps)) ≡ length ps - (last.to - last.from) + length last.pieces - (first.to - first.from) + length first.pieces
amended_count first last ps h k m inside =
    let once : length (replaced last ps) ≡ length ps - (last.to - last.from) + length last.pieces = count_replaced last ps m inside in
    omega (arith, once, count_replaced first (replaced last ps) h (omega (arith, h, k, m, inside, once)))

-- ---- a piece that is edited

-- the length of a piece's text
piece_len : (p : Piece) → length (piece_text p) ≡ length (decimal p.place) + (length (decimal (length p.old)) + length (decimal (length p.new))) + (length p.old + length p.new) + 4
piece_len p =
    omega (
      arith,
      length-append (decimal p.place) (space ∷ decimal (length p.old) ++ (space ∷ decimal (length p.new) ++ (line_feed ∷ p.old ++ (p.new ++ line_feed ∷ [])))),
      length-append (decimal (length p.old)) (space ∷ decimal (length p.new) ++ (line_feed ∷ p.old ++ (p.new ++ line_feed ∷ []))),
      length-append (decimal (length p.new)) (line_feed ∷ p.old ++ (p.new ++ line_feed ∷ [])),
      length-append p.old (p.new ++ line_feed ∷ []),
      length-append p.new (line_feed ∷ []),
    )

-- the texts of the pieces before and after one of them is edited, by its text and a rest
texts_around : (n k : ℕ) (q : Piece) (ps : List Piece) (p : Piece) → HasSpot n k ps → p ≡ get_or ps n p
    → (rest : ℕ) × (length (texts_of ps) ≡ rest + length (piece_text p)) × (length (texts_of (edited_at n k q ps)) ≡ rest + length (piece_text (edited k q p)))
texts_around n k q [] p h e = absurd h
texts_around zero k q (r ∷ ps) p h e = (
  length (texts_of ps),
  omega (arith, length-append (piece_text r) (texts_of ps), ap (λ (s : Piece). length (piece_text s)) e),
  omega (arith, length-append (piece_text (edited k q r)) (texts_of ps), ap (λ (s : Piece). length (piece_text (edited k q s))) e),
)
texts_around (suc n) k q (r ∷ ps) p h e =
    let more = texts_around n k q ps p h e in (
      length (piece_text r) + more.0,
      omega (arith, length-append (piece_text r) (texts_of ps), more.1),
      omega (arith, length-append (piece_text r) (texts_of (edited_at n k q ps)), more.2),
    )

length-edited_at : (n k : ℕ) (q : Piece) (ps : List Piece) → length (edited_at n k q ps) ≡ length ps
length-edited_at n k q [] = refl
length-edited_at zero k q (p ∷ ps) = refl
length-edited_at (suc n) k q (p ∷ ps) = omega (arith, length-edited_at n k q ps)

-- how long the texts of an edited piece are
pub length-edited_old : (k : ℕ) (q p : Piece) → length (edited k q p).old ≡ length p.old + (length q.old - (length p.new - k))
length-edited_old k q p = omega (arith, length-append p.old (drop (length p.new - k) q.old), length-drop (length p.new - k) q.old)

pub length-edited_new : (k : ℕ) (q p : Piece) → k ≤ length p.new → length (edited k q p).new ≡ k + length q.new + (length p.new - (k + length q.old))
length-edited_new k q p h =
    omega (
      arith,
      length-append (take k p.new) (q.new ++ drop (k + length q.old) p.new),
      length-append q.new (drop (k + length q.old) p.new),
      length-drop (k + length q.old) p.new,
      length-take-le k p.new h,
    )

-- the length of a piece's texts and of their lengths in digits
abbrev pub written : Piece → ℕ
written p = length p.old + length p.new + (length (decimal (length p.old)) + length (decimal (length p.new)))

-- the text of a step with an edited piece
pub edited_text : (len result n k : ℕ) (label : Text) (ps : List Piece) (p q : Piece) → HasSpot n k ps → p ≡ get_or ps n p
    → step_text_len (record { label = label; pieces = ps }) ≤ len → len ≤ 67174399
    → result ≡ min (len - min (written p) (2 ^ 64 - 1) + min (written (edited k q p)) (2 ^ 64 - 1)) (2 ^ 64 - 1)
    → result ≡ min (len - step_text_len (record { label = label; pieces = ps }) + step_text_len (record { label = label; pieces = edited_at n k q ps })) (2 ^ 64 - 1)
edited_text len result n k label ps p q h e short limit result_is =
    let around = texts_around n k q ps p h e in
    let old_len : step_text_len (record { label = label; pieces = ps }) ≡ length (pieces_text ps) + (length label + 1) = step_len (record { label = label; pieces = ps }) in
    let new_len : step_text_len (record { label = label; pieces = edited_at n k q ps }) ≡ length (pieces_text (edited_at n k q ps)) + (length label + 1) = step_len (record { label = label; pieces = edited_at n k q ps }) in
    let many : length (decimal (length (edited_at n k q ps))) ≡ length (decimal (length ps)) = ap (λ n. length (decimal n)) (length-edited_at n k q ps) in
    omega (
      arith,
      short,
      limit,
      result_is,
      around.1,
      around.2,
      old_len,
      new_len,
      many,
      pieces_len ps,
      pieces_len (edited_at n k q ps),
      piece_len p,
      piece_len (edited k q p),
    )
