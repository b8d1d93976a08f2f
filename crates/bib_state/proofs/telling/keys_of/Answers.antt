use Rattle.bib_answers.proofs.Words.{◌∙◌, ◌++◌, ◌<◌, length, ap, Text, entries_of}
use Rattle.std.proofs.Common.{arith}
use Rattle.bib_answers.proofs.EntryNumbers.{entry_key}
use Rattle.bib_state.specs.Telling.{key_line}
use Rattle.bib_state.proofs.KeyLines.{keys_more, keys_all}
use Rattle.bib_state.proofs.telling.keys_of.Goals as goal

pub line-preserved : goal.line-preserved
line-preserved c r reads =
    let count = c.entry_count-n-end.ensures r reads in
    let within : c.line.n < length (entries_of r) = omega (arith, c.line-test.true, count) in
    c.in_ok-add_key.ensures
    ∙ ap (λ (t : Text). t ++ key_line c.key.result.now) (c.line.invariant r reads)
    ∙ keys_more (entries_of r) c.line.n c.key.result.now within (c.key.ensures ∙ entry_key r c.line.n c.entry.result within (c.entry.ensures r reads))

pub returns : goal.returns
returns c r reads =
    let count = c.entry_count-n-end.ensures r reads in
    c.from_vec.ensures ∙ c.line.invariant r reads ∙ keys_all (entries_of r) c.line.n (omega (arith, c.line-test.false, count))
