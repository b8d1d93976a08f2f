use Rattle.bib_names.proofs.Words.{◌+◌, sym, ◌∙◌, arith, refl}
use Rattle.bib_names.proofs.BraceLemmas.{more_braces_from, level_from}
use Rattle.bib_names.proofs.SpecialLemmas.{group_found, none_more}
use Rattle.bibtex_names.proofs.special.group_end.Goals as goal

pub returns-then-are_level-clause-found : goal.returns-then-are_level-clause-found
returns-then-are_level-clause-found c =
    let text = c.args.text.now in
    let place = c.args.place in
    let last = c.loop-last.last in
    let braces = more_braces_from text place last _ _ _ _ _ (omega arith) c.loop-last.invariant.braces refl c.and-braces.ensures.opened c.and-braces.ensures.closed in
    group_found text place last c.loop-last.auto.last (omega arith) c.loop-last.invariant.none
    (sym (level_from text place (last + 1) _ _ c.requires.level braces) ∙ sym c.are_level.ensures ∙ c.if-are_level.true)

pub loop-last-preserved : goal.loop-last-preserved
loop-last-preserved c =
    let text = c.args.text.now in
    let place = c.args.place in
    let last = c.loop-last.last in
    let braces = more_braces_from text place last _ _ _ _ _ (omega arith) c.loop-last.invariant.braces refl c.and-braces.ensures.opened c.and-braces.ensures.closed in
    record {
      braces = braces;
      none = none_more text place last c.loop-last.invariant.none (sym (level_from text place (last + 1) _ _ c.requires.level braces) ∙ sym c.are_level.ensures ∙ c.if-are_level.false);
    }
