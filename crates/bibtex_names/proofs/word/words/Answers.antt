use Rattle.bib_names.proofs.Words.{refl, sym, ◌∙◌, arith}
use Rattle.bib_names.proofs.BraceLemmas.{more_braces}
use Rattle.bibtex_names.proofs.WordLemmas.{words_on, words_gap, words_end, words_last, words_none}
use Rattle.bibtex_names.proofs.word.words.Goals as goal
use Rattle.bibtex_names.proofs.word.words.Goals.{then-is_gap, then-start-place+in_ok-push, else-start-place, else-is_gap, then-start-piece+in_ok-push-2, else-start-piece}

pub loop-place-preserved : goal.loop-place-preserved
loop-place-preserved c =
    let text = c.args.piece.now in
    let place = c.loop-place.place in
    let far = c.loop-place.invariant.words in
    record {
      braces = more_braces text place _ _ _ _ _ (omega arith) c.loop-place.invariant.braces refl c.and-braces.ensures.opened c.and-braces.ensures.closed;
      words = elim c.if-is_gap.branch [
        | then-is_gap w ↦ elim w.if-start-place.branch [
          | then-start-place+in_ok-push v ↦
              rw (w.start-is, w.words-is, v.words-is, w.sep-is, v.sep-is, v.in_ok-push.ensures.items, v.kept_separator-sep.ensures)
              (words_end text _ _ _ place (omega arith) far v.if-start-place.true (sym c.is_gap.ensures ∙ w.if-is_gap.true))
          | else-start-place v ↦
              rw (w.start-is, w.words-is, v.words-is, w.sep-is, v.sep-is)
              (words_gap text _ c.loop-place.start _ place (omega arith) far (omega (arith, far.within)) (sym c.is_gap.ensures ∙ w.if-is_gap.true))
        ]
        | else-is_gap w ↦ rw (w.start-is, w.words-is, w.sep-is) (words_on text _ _ _ place far (sym c.is_gap.ensures ∙ w.if-is_gap.false))
      ];
    }

pub returns : goal.returns
returns c =
    let text = c.args.piece.now in
    let place = c.loop-place.place in
    let far = c.loop-place.invariant.words in
    elim c.if-start-piece.branch [
      | then-start-piece+in_ok-push-2 w ↦ rw (w.words-is, w.in_ok-push-2.ensures.items) (words_last text _ _ _ place (omega arith) far (omega (arith, w.if-start-piece.true)))
      | else-start-piece w ↦ rw w.words-is (words_none text _ c.loop-place.start _ place (omega arith) far (omega arith))
    ]
