use Rattle.bib_names.proofs.Words.{sym, ◌∙◌, arith, refl}
use Rattle.bib_names.proofs.BraceLemmas.{more_braces}
use Rattle.bibtex_names.proofs.CaseLemmas.{lower_special, lower_letter, decides_on}
use Rattle.bibtex_names.proofs.case.is_lower.Goals as goal

pub returns-in-Some : goal.returns-in-Some
returns-in-Some c = c.is_lower_special.ensures ∙ lower_special c.args.word.now c.loop-place.place c.in-Some.end (omega arith) c.loop-place.invariant.rest c.in-Some.ensures.found

pub returns-then-is_outer_letter : goal.returns-then-is_outer_letter
returns-then-is_outer_letter c =
    c.is_ascii_lowercase.ensures.value ∙ lower_letter c.args.word.now c.loop-place.place (omega arith) c.loop-place.invariant.rest c.in_default.ensures.none (sym c.is_outer_letter.ensures ∙ c.if-is_outer_letter.true)

pub loop-place-preserved : goal.loop-place-preserved
loop-place-preserved c = record {
  braces = more_braces c.args.word.now c.loop-place.place _ _ _ _ _ (omega arith) c.loop-place.invariant.braces refl c.and-braces.ensures.opened c.and-braces.ensures.closed;
  rest = decides_on c.args.word.now c.loop-place.place (omega arith) c.loop-place.invariant.rest c.in_default.ensures.none (sym c.is_outer_letter.ensures ∙ c.if-is_outer_letter.false);
}
