use Rattle.bib_names.proofs.Words.{sym, ◌∙◌, arith, refl}
use Rattle.bib_names.proofs.BraceLemmas.{more_braces}
use Rattle.bib_names.proofs.CharLemmas.{brace_past, char_passed, braces_over, chars_next, chars_past}
use Rattle.bib_names.proofs.special.Chars.next.Goals as goal

pub invariant_of-rest : goal.invariant_of-rest
invariant_of-rest c =
    let text = c.self.inside.text.now in
    let here = c.loop-place.invariant.here in
    let char = c.in-Some.ensures.found in
    record {
      within = char.within;
      braces = braces_over text c.loop-place.place c.in-Some.end _ _ _ _ (omega (arith, char.after)) char.within here.braces c.over.ensures.opened c.over.ensures.closed;
      fresh = (char_passed text c.loop-place.place c.in-Some.end here.fresh char).fresh;
    }

pub returns-in-Some-clause-some : goal.returns-in-Some-clause-some
returns-in-Some-clause-some c =
    sym c.self.view_is ∙ sym c.loop-place.invariant.told
    ∙ chars_next c.self.inside.text.now c.loop-place.place c.in-Some.end c.loop-place-test.true c.loop-place.invariant.here.fresh c.in-Some.ensures.found

pub loop-place-preserved : goal.loop-place-preserved
loop-place-preserved c =
    let text = c.self.inside.text.now in
    let here = c.loop-place.invariant.here in
    let brace = c.in_default.ensures.none in
    record {
      here = record {
        within = omega (arith, c.loop-place-test.true);
        braces = more_braces text c.loop-place.place _ _ _ _ _ (omega arith) here.braces refl c.and-braces.ensures.opened c.and-braces.ensures.closed;
        fresh = (brace_past text c.loop-place.place here.fresh brace).1;
      };
      told = sym (chars_past text c.loop-place.place c.loop-place-test.true here.fresh brace) ∙ c.loop-place.invariant.told;
    }
