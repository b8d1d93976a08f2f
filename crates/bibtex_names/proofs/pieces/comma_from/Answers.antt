use Rattle.bib_names.proofs.Words.{sym, ◌∙◌, arith, refl}
use Rattle.bib_names.proofs.BraceLemmas.{more_braces_from}
use Rattle.bib_names.proofs.CommaLemmas.{comma_found, comma_on}
use Rattle.bibtex_names.proofs.pieces.comma_from.Goals as goal

pub returns-then-is_comma-clause-found : goal.returns-then-is_comma-clause-found
returns-then-is_comma-clause-found c =
    comma_found c.args.text.now c.args.start c.loop-place.place c.loop-place.auto.place c.loop-place-test.true c.loop-place.invariant.commas (sym c.is_comma.ensures ∙ c.if-is_comma.true)

pub loop-place-preserved : goal.loop-place-preserved
loop-place-preserved c = record {
  braces = more_braces_from c.args.text.now c.args.start c.loop-place.place _ _ _ _ _ (omega arith) c.loop-place.invariant.braces refl c.and-braces.ensures.opened c.and-braces.ensures.closed;
  commas = comma_on c.args.text.now c.args.start c.loop-place.place (omega arith) c.loop-place.invariant.commas (sym c.is_comma.ensures ∙ c.if-is_comma.false);
}
