use Rattle.ris_format.proofs.Words.{◌∙◌, ◌++◌, Bor, refl, sym, ap, cond-true, cond-false, map-append, Text, has_bytes, made_all}
use Rattle.std.proofs.Common.{map, List}
use Rattle.std.specs.Prelude.{filter}
use Rattle.ris_format.proofs.LoopSteps.{kept_more, passed}
use Rattle.ris_format.proofs.keywords.filled.Goals as goal
use Rattle.ris_format.proofs.keywords.filled.Goals.{then-has_bytes+in_ok-push, else-has_bytes}

abbrev texts : List (Bor Text) → List Text
texts pieces = map (λ (p : Bor Text). p.now) pieces

abbrev on : List (Bor Text) → List Text
on pieces = filter has_bytes (texts pieces)

pub loop-piece-preserved : goal.loop-piece-preserved
loop-piece-preserved c =
    let words = texts c.loop-piece.words.items in
    elim c.if-has_bytes.branch [
      | then-has_bytes+in_ok-push w ↦
          rw (w.words-is, w.in_ok-push.ensures.items, map-append)
          (kept_more on c.args.pieces.now c.loop-piece.piece-index _ _ words _ (λ rest. cond-true _ _ _ (sym c.has_bytes.ensures ∙ w.if-has_bytes.true)) c.loop-piece-test.true c.loop-piece.invariant)
      | else-has_bytes w ↦
          rw w.words-is
          (passed (λ pieces. words ++ on pieces) c.args.pieces.now c.loop-piece.piece-index _ _ (λ rest. ap (λ kept. words ++ kept) (cond-false _ _ _ (sym c.has_bytes.ensures ∙ w.if-has_bytes.false))) c.loop-piece-test.true c.loop-piece.invariant)
    ]

pub returns : goal.returns
returns c = made_all on _ c.loop-piece.piece-index (texts c.loop-piece.words.items) _ refl c.loop-piece-test.false c.loop-piece.invariant
