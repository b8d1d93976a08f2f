use Rattle.bib_names.proofs.Words.{◌+◌, sym, ◌∙◌, arith, refl}
use Rattle.bib_names.proofs.BraceLemmas.{more_braces, level_is}
use Rattle.bib_names.proofs.SpecialLemmas.{none_more}
use Rattle.bibtex_names.proofs.GroupLemmas.{group_closed, group_open}
use Rattle.bibtex_names.proofs.letters.group_len.Goals as goal

pub returns-then-are_level-clause-len : goal.returns-then-are_level-clause-len
returns-then-are_level-clause-len c =
    let text = c.args.text.now in
    let last = c.loop-last.last in
    let braces = more_braces text last _ _ _ _ _ (omega arith) c.loop-last.invariant.braces refl c.and-braces.ensures.opened c.and-braces.ensures.closed in
    group_closed text last (omega arith) c.loop-last.invariant.none (sym (level_is text (last + 1) _ _ braces) ∙ sym c.are_level.ensures ∙ c.if-are_level.true)

pub loop-last-preserved : goal.loop-last-preserved
loop-last-preserved c =
    let text = c.args.text.now in
    let last = c.loop-last.last in
    let braces = more_braces text last _ _ _ _ _ (omega arith) c.loop-last.invariant.braces refl c.and-braces.ensures.opened c.and-braces.ensures.closed in
    record {
      braces = braces;
      none = none_more text 0 last c.loop-last.invariant.none (sym (level_is text (last + 1) _ _ braces) ∙ sym c.are_level.ensures ∙ c.if-are_level.false);
    }

pub returns-clause-len : goal.returns-clause-len
returns-clause-len c = group_open c.args.text.now c.loop-last.last c.requires (omega arith) c.loop-last.invariant.none
