use Rattle.bib_names.proofs.Words.{sym, ◌∙◌, arith, refl}
use Rattle.bib_names.proofs.BraceLemmas.{more_braces_from}
use Rattle.bibtex_names.proofs.LetterLemmas.{letter_found, letter_on}
use Rattle.bibtex_names.proofs.template_reading.letter_from.Goals as goal

pub returns-then-is_letter_at-clause-found : goal.returns-then-is_letter_at-clause-found
returns-then-is_letter_at-clause-found c =
    letter_found c.args.inside.now c.args.start c.loop-place.place c.loop-place.auto.place c.loop-place-test.true c.loop-place.invariant.letters (sym c.is_letter_at.ensures ∙ c.if-is_letter_at.true)

pub loop-place-preserved : goal.loop-place-preserved
loop-place-preserved c = record {
  braces = more_braces_from c.args.inside.now c.args.start c.loop-place.place _ _ _ _ _ (omega arith) c.loop-place.invariant.braces refl c.and-braces.ensures.opened c.and-braces.ensures.closed;
  letters = letter_on c.args.inside.now c.args.start c.loop-place.place (omega arith) c.loop-place.invariant.letters (sym c.is_letter_at.ensures ∙ c.if-is_letter_at.false);
}
