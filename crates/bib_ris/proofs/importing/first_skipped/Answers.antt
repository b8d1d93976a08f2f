use Rattle.bib_ris.proofs.Words.{◌∙◌, ◌∷◌, List, sym, ap}
use Rattle.ris_text.specs.Skipped.{Standing}
use Rattle.bib_ris.specs.declared.fault.ImportFault.TheVariants.{SkippedLine}
use Rattle.bib_ris.proofs.SkippedImports.{some_found, first_place}
use Rattle.bib_ris.proofs.importing.first_skipped.Goals as goal

pub unreachable-requires : goal.unreachable-requires
unreachable-requires c = some_found c.args.text.now c.of.result c.requires c.of.ensures c.in-None.ensures.none

pub returns : goal.returns
returns c =
    λ first others are.
    ap (λ (lines : List Standing). SkippedLine (first_place lines)) (sym c.in-Some.ensures.some ∙ c.of.ensures (first ∷ others) are)
