-- How a text is cut by its pieces.
use Rattle.std.proofs.Common.{◌≡◌, ℕ, ◌+◌, ◌-◌, ◌≤◌, List, [], ◌∷◌, ◌++◌, length, take, drop, refl, sym, ◌∙◌, ap, arith, append_assoc, length-drop, length-append, take-append-drop}
use Rattle.std.proofs.lemmas.List.{take_at, drop_at, drop-drop, take-take, drop-take, length-take-le}
use Rattle.std.specs.List.{between}
use Rattle.std.proofs.Math.Seq.{take-add}
use Rattle.bib_spec.specs.Text.{Text}
use Rattle.bib_spec.specs.Pieces.{Piece, end_of, Stands, AscendFrom, applied_from, applied, EndBy, BeginFrom, kept_between}

-- the text from one place on is the bytes up to another place, and then the text from that place on
pub drop_to : (at place : ℕ) (text : Text) → at ≤ place → drop at text ≡ between at place text ++ drop place text
drop_to at place text h =
    let whole : at + (place - at) ≡ place = omega arith in
    sym (take-append-drop (place - at) (drop at text))
    ∙ ap (λ rest. between at place text ++ rest) (drop-drop (place - at) at text ∙ ap (λ n. drop n text) whole)

pub length-between : (at place : ℕ) (text : Text) → at ≤ place → place ≤ length text → length (between at place text) ≡ place - at
length-between at place text h inside = length-take-le (place - at) (drop at text) (omega (arith, length-drop at text))

-- at a piece's place the next bytes of the text are its old bytes
pub drop-place : (text : Text) (p : Piece) → Stands text p → drop p.place text ≡ p.old ++ drop (end_of p) text
drop-place text p s =
    sym (take-append-drop (length p.old) (drop p.place text))
    ∙ ap (λ front. front ++ drop (length p.old) (drop p.place text)) s.there
    ∙ ap (λ rest. p.old ++ rest) (drop-drop (length p.old) p.place text)

-- a piece fits a text whose front is as long as the piece's place, and has the piece's old bytes next
pub stands_after : (front rest : Text) (p : Piece) → length front ≡ p.place → Stands (front ++ (p.old ++ rest)) p
stands_after front rest p h = record {
  inside = omega (arith, length-append front (p.old ++ rest), length-append p.old rest);
  there = ap (take (length p.old)) (drop_at front (p.old ++ rest) p.place h) ∙ take_at p.old rest (length p.old) refl;
}

-- if the next bytes are the piece's old bytes, the piece fits there
pub stands_before : (text rest : Text) (p : Piece) → p.place ≤ length text → drop p.place text ≡ p.old ++ rest → Stands text p
stands_before text rest p h e = record {
  inside = omega (arith, ap length e, length-drop p.place text, length-append p.old rest);
  there = ap (take (length p.old)) e ∙ take_at p.old rest (length p.old) refl;
}

-- the bytes between two places are the bytes up to a place between them, and the bytes from there on
pub between-split : (at mid to : ℕ) (text : Text) → at ≤ mid → mid ≤ to → between at mid text ++ between mid to text ≡ between at to text
between-split at mid to text h k =
    let whole : mid - at + (to - mid) ≡ to - at = omega arith in
    let same : at + (mid - at) ≡ mid = omega arith in
    ap (λ l. between at mid text ++ take (to - mid) l) (sym (drop-drop (mid - at) at text ∙ ap (λ n. drop n text) same))
    ∙ sym (take-add (mid - at) (to - mid) (drop at text))
    ∙ ap (λ n. take n (drop at text)) whole

-- the text after a front
pub between-front : (front text rest : Text) → between (length front) (length front + length text) (front ++ (text ++ rest)) ≡ text
between-front front text rest =
    let long : length front + length text - length front ≡ length text = omega arith in
    ap (λ n. take n (drop (length front) (front ++ (text ++ rest)))) long
    ∙ ap (take (length text)) (drop_at front (text ++ rest) (length front) refl)
    ∙ take_at text rest (length text) refl

-- the text before the first piece is unchanged
pub applied_from-begin : (at mid : ℕ) (ps : List Piece) (text : Text) → at ≤ mid → BeginFrom mid ps → applied_from at ps text ≡ between at mid text ++ applied_from mid ps text
applied_from-begin at mid [] text h b = drop_to at mid text h
applied_from-begin at mid (p ∷ ps) text h b =
    ap (λ l. l ++ p.new ++ applied_from (end_of p) ps text) (sym (between-split at mid p.place text h b.0))
    ∙ simp append_assoc

-- if a text is cut at a place, the rest from an earlier place is the bytes between the two places
pub drop-take_to : (at mid : ℕ) (text : Text) → at ≤ mid → drop at (take mid text) ≡ between at mid text
drop-take_to at mid text h =
    let whole : at + (mid - at) ≡ mid = omega arith in
    ap (λ n. drop at (take n text)) (sym whole) ∙ drop-take at (mid - at) text

pub between-take : (at place mid : ℕ) (text : Text) → at ≤ place → place ≤ mid → between at place (take mid text) ≡ between at place text
between-take at place mid text h k =
    ap (take (place - at)) (drop-take_to at mid text (omega arith))
    ∙ take-take (place - at) (mid - at) (drop at text) (omega arith)

pub begin_earlier : (from to : ℕ) (ps : List Piece) → from ≤ to → BeginFrom to ps → BeginFrom from ps
begin_earlier from to [] h b = tt
begin_earlier from to (p ∷ ps) h b = (omega (arith, h, b.0), begin_earlier from to ps h b.1)

-- a text can be cut in two at a place that no piece reaches over
pub applied_from-append : (at mid : ℕ) (earlier later : List Piece) (text : Text) → at ≤ mid → AscendFrom at earlier → EndBy mid earlier → BeginFrom mid later
    → applied_from at (earlier ++ later) text ≡ applied_from at earlier (take mid text) ++ applied_from mid later text
applied_from-append at mid [] later text h a e b =
    applied_from-begin at mid later text h b ∙ ap (λ l. l ++ applied_from mid later text) (sym (drop-take_to at mid text h))
applied_from-append at mid (p ∷ earlier) later text h a e b =
    let below : at ≤ p.place = a.0 in
    let ends : end_of p ≤ mid = e.0 in
    let after : Text = applied_from (end_of p) earlier (take mid text) in
    ap (λ l. between at p.place text ++ p.new ++ l) (applied_from-append (end_of p) mid earlier later text ends a.1 e.1 b)
    ∙ sym (append_assoc (between at p.place text ++ p.new) after (applied_from mid later text))
    ∙ ap (λ l. (l ++ p.new ++ after) ++ applied_from mid later text) (sym (between-take at p.place mid text below (omega arith)))

pub kept-between : kept_between
kept-between earlier later text from to a e b h =
    applied_from-append 0 from earlier later text (omega arith) a e (begin_earlier from to later h b)
    ∙ ap (λ l. applied earlier (take from text) ++ l) (applied_from-begin from to later text h b)
    ∙ sym (append_assoc (applied earlier (take from text)) (between from to text) (applied_from to later text))
