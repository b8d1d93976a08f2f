use Rattle.bib_scan.proofs.Words.{◌∙◌, sym, eqb-true, eq-eqb}
use Rattle.bib_scan.proofs.OpeningLemmas.{clean_len, len_clean}
use Rattle.bib_scan.proofs.opening.is_clean.Goals as goal

pub returns : goal.returns
returns c = (
  λ is. len_clean c.args.text.now (sym c.next_command.ensures.read ∙ eqb-true _ _ is),
  λ clean. eq-eqb _ _ (c.next_command.ensures.read ∙ clean_len c.args.text.now clean),
)
