use Rattle.ris_format.proofs.Words.{sym, ◌∙◌, arith}
use Rattle.ris_format.proofs.PieceSteps.{commas_none, commas_cut, commas_on, commas_all}
use Rattle.ris_format.proofs.judging.comma_count.Goals as goal
use Rattle.ris_format.proofs.judging.comma_count.Goals.{then-is_cut, else-is_cut}

pub loop-byte-init : goal.loop-byte-init
loop-byte-init c = rw (c.none-braces.ensures.opened, c.none-braces.ensures.closed) (record { told = commas_none c.args.text.now })

pub loop-byte-preserved : goal.loop-byte-preserved
loop-byte-preserved c =
    let text = c.args.text.now in
    let far = c.loop-byte.invariant.told in
    record {
      told = elim c.if-is_cut.branch [
        | then-is_cut w ↦
            rw w.count-is (commas_cut text _ c.loop-byte.byte-index _ _ _ _ (omega arith) far (sym c.is_cut.ensures ∙ w.if-is_cut.true) c.and-braces.ensures.opened c.and-braces.ensures.closed)
        | else-is_cut w ↦
            rw w.count-is (commas_on text _ c.loop-byte.byte-index _ _ _ _ (omega arith) far (sym c.is_cut.ensures ∙ w.if-is_cut.false) c.and-braces.ensures.opened c.and-braces.ensures.closed)
      ];
    }

pub returns : goal.returns
returns c = commas_all c.args.text.now c.loop-byte.count c.loop-byte.byte-index _ _ c.loop-byte-test.false c.loop-byte.invariant.told
