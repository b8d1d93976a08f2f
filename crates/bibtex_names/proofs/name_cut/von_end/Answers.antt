use Rattle.bib_names.proofs.Words.{◌-◌, sym, ap, ◌∙◌, arith, IsTrimming-less, IsTrimming-done}
use Rattle.bibtex_names.specs.Name.{is_von}
use Rattle.bibtex_names.proofs.name_cut.von_end.Goals as goal

pub loop-end-preserved : goal.loop-end-preserved
loop-end-preserved c =
    IsTrimming-less is_von c.args.words.now _ c.loop-end.end _ c.index-words-end.result (omega arith) c.loop-end.invariant (ap is_von (sym c.index-words-end.is) ∙ sym c.is_von.ensures ∙ c.if-not-is_von.true)

pub returns-else-not-is_von-clause-end : goal.returns-else-not-is_von-clause-end
returns-else-not-is_von-clause-end c =
    IsTrimming-done is_von c.args.words.now _ c.loop-end.end (c.loop-end.end - 1) c.index-words-end.result (omega arith) c.loop-end.invariant (ap is_von (sym c.index-words-end.is) ∙ sym c.is_von.ensures ∙ c.if-not-is_von.false)
