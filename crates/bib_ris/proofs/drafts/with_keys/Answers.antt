use Rattle.bib_ris.proofs.Words.{◌∙◌, reverse, sym, arith}
use Rattle.bib_ris.proofs.GivenKeys.{keys_given}
use Rattle.bib_ris.proofs.drafts.with_keys.Goals as goal

pub returns : goal.returns
returns c =
    let test = c.entries-test.false in
    let all = c.entries.invariant.all in
    c.from_vec.ensures ∙ sym (keys_given c.entries.entries.items c.entries.n (reverse c.entries.left.items) (omega (arith, test, all))) ∙ c.entries.invariant.given
