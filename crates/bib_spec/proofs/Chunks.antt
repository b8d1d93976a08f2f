-- The replaced chunks of a text lead, as pieces, from the text before to the text afterwards.
use Rattle.std.proofs.Common.{◌≡◌, ℕ, ◌+◌, ◌-◌, ◌≤◌, List, [], ◌∷◌, ◌++◌, length, take, drop, refl, sym, ◌∙◌, ap, subst, arith, append_assoc, append-nil, length-append}
use Rattle.std.proofs.lemmas.List.{drop_at}
use Rattle.std.specs.List.{AllByRecursion, between}
use Rattle.bib_spec.specs.Text.{Text}
use Rattle.bib_spec.specs.Pieces.{Piece, end_of, Stands, AscendFrom, applied_from, Chunk, Kept, Replaced, old_of, new_of, pieces_from, chunks_fit, chunks_lead, pieces_are_chunks, BeginFrom}
use Rattle.bib_spec.proofs.PieceLemmas.{begin_earlier, applied_from-begin, between-front, drop-place, drop_to, length-between, stands_after}

-- ---- the pieces of chunks

begin_at : (at : ℕ) (chunks : List Chunk) → BeginFrom at (pieces_from at chunks)
begin_at at [] = tt
begin_at at (Kept text ∷ chunks) = begin_earlier at (at + length text) (pieces_from (at + length text) chunks) (omega arith) (begin_at (at + length text) chunks)
begin_at at (Replaced old new ∷ chunks) = (omega arith, begin_earlier at (at + length old) (pieces_from (at + length old) chunks) (omega arith) (begin_at (at + length old) chunks))

ascend_more : (at more : ℕ) (ps : List Piece) → at ≤ more → AscendFrom more ps → AscendFrom at ps
ascend_more at more [] h a = tt
ascend_more at more (p ∷ ps) h a = (omega (arith, h, a.0), a.1)

ascend_chunks : (at : ℕ) (chunks : List Chunk) → AscendFrom at (pieces_from at chunks)
ascend_chunks at [] = tt
ascend_chunks at (Kept text ∷ chunks) = ascend_more at (at + length text) (pieces_from (at + length text) chunks) (omega arith) (ascend_chunks (at + length text) chunks)
ascend_chunks at (Replaced old new ∷ chunks) = (omega arith, ascend_chunks (at + length old) chunks)

-- the pieces of chunks stand after what comes before the chunks
stand_chunks : (front : Text) (chunks : List Chunk) → AllByRecursion (Stands (front ++ old_of chunks)) (pieces_from (length front) chunks)
stand_chunks front [] = tt
stand_chunks front (Kept text ∷ chunks) =
    subst (λ (t : Text). AllByRecursion (Stands t) (pieces_from (length front + length text) chunks)) (append_assoc front text (old_of chunks))
    (subst (λ (n : ℕ). AllByRecursion (Stands ((front ++ text) ++ old_of chunks)) (pieces_from n chunks)) (length-append front text)
    (stand_chunks (front ++ text) chunks))
stand_chunks front (Replaced old new ∷ chunks) = (
  stands_after front (old_of chunks) (record { place = length front; old = old; new = new }) refl,
  subst (λ (t : Text). AllByRecursion (Stands t) (pieces_from (length front + length old) chunks)) (append_assoc front old (old_of chunks))
      (subst (λ (n : ℕ). AllByRecursion (Stands ((front ++ old) ++ old_of chunks)) (pieces_from n chunks)) (length-append front old)
      (stand_chunks (front ++ old) chunks)),
)

pub chunks-fit : chunks_fit
chunks-fit chunks = record { ascending = ascend_chunks 0 chunks; standing = stand_chunks [] chunks }

-- from the first chunk on, the pieces make the text afterwards
lead_chunks : (front : Text) (chunks : List Chunk) → applied_from (length front) (pieces_from (length front) chunks) (front ++ old_of chunks) ≡ new_of chunks
lead_chunks front [] = drop_at front [] (length front) refl
lead_chunks front (Kept text ∷ chunks) =
    let after : ℕ = length front + length text in
    let long : length (front ++ text) ≡ after = length-append front text in
    applied_from-begin (length front) after (pieces_from after chunks) (front ++ (text ++ old_of chunks)) (omega arith) (begin_at after chunks)
    ∙ ap (λ t. t ++ applied_from after (pieces_from after chunks) (front ++ (text ++ old_of chunks))) (between-front front text (old_of chunks))
    ∙ ap (λ t. text ++ applied_from after (pieces_from after chunks) t) (sym (append_assoc front text (old_of chunks)))
    ∙ ap (λ l. text ++ l) (subst (λ (n : ℕ). applied_from n (pieces_from n chunks) ((front ++ text) ++ old_of chunks) ≡ new_of chunks) long (lead_chunks (front ++ text) chunks))
lead_chunks front (Replaced old new ∷ chunks) =
    let after : ℕ = length front + length old in
    let long : length (front ++ old) ≡ after = length-append front old in
    let none : length front - length front ≡ 0 = omega arith in
    ap (λ n. take n (drop (length front) (front ++ (old ++ old_of chunks))) ++ new ++ applied_from after (pieces_from after chunks) (front ++ (old ++ old_of chunks))) none
    ∙ ap (λ t. new ++ applied_from after (pieces_from after chunks) t) (sym (append_assoc front old (old_of chunks)))
    ∙ ap (λ l. new ++ l) (subst (λ (n : ℕ). applied_from n (pieces_from n chunks) ((front ++ old) ++ old_of chunks) ≡ new_of chunks) long (lead_chunks (front ++ old) chunks))

pub chunks-lead : chunks_lead
chunks-lead chunks = lead_chunks [] chunks

-- ---- the chunks of a text and its pieces

-- the bytes between the pieces are kept
abbrev chunks_from : ℕ → List Piece → Text → List Chunk
chunks_from at [] text = Kept (drop at text) ∷ []
chunks_from at (p ∷ ps) text = Kept (between at p.place text) ∷ Replaced p.old p.new ∷ chunks_from (end_of p) ps text

before_from : (at : ℕ) (ps : List Piece) (text : Text) → AscendFrom at ps → AllByRecursion (Stands text) ps → old_of (chunks_from at ps text) ≡ drop at text
before_from at [] text a s = append-nil (drop at text)
before_from at (p ∷ ps) text a s =
    ap (λ l. between at p.place text ++ (p.old ++ l)) (before_from (end_of p) ps text a.1 s.1)
    ∙ ap (λ l. between at p.place text ++ l) (sym (drop-place text p s.0))
    ∙ sym (drop_to at p.place text a.0)

afterwards_from : (at : ℕ) (ps : List Piece) (text : Text) → new_of (chunks_from at ps text) ≡ applied_from at ps text
afterwards_from at [] text = append-nil (drop at text)
afterwards_from at (p ∷ ps) text =
    ap (λ l. between at p.place text ++ (p.new ++ l)) (afterwards_from (end_of p) ps text)
    ∙ sym (append_assoc (between at p.place text) p.new (applied_from (end_of p) ps text))

replaced_from : (at : ℕ) (ps : List Piece) (text : Text) → AscendFrom at ps → AllByRecursion (Stands text) ps → pieces_from at (chunks_from at ps text) ≡ ps
replaced_from at [] text a s = refl
replaced_from at (p ∷ ps) text a s =
    let below : at ≤ p.place = a.0 in
    let inside : end_of p ≤ length text = s.0.inside in
    let here : at + length (between at p.place text) ≡ p.place = omega (arith, length-between at p.place text below (omega arith)) in
    ap (λ n. record { place = n; old = p.old; new = p.new } ∷ pieces_from (n + length p.old) (chunks_from (end_of p) ps text)) here
    ∙ ap (λ qs. p ∷ qs) (replaced_from (end_of p) ps text a.1 s.1)

pub pieces-are-chunks : pieces_are_chunks
pieces-are-chunks ps text f = (
  chunks_from 0 ps text,
  record {
    before = before_from 0 ps text f.ascending f.standing;
    afterwards = afterwards_from 0 ps text;
    replaced = replaced_from 0 ps text f.ascending f.standing;
  },
)
