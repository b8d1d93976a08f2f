use Rattle.bib_answers.proofs.Words.{rules, ◌≡◌, ◌∙◌, ◌++◌, ◌<◌, length, ap, Text, entries_of, new_key_line}
use Rattle.std.proofs.Common.{arith}
use Rattle.bib_answers.proofs.EntryNumbers.{entry_key}
use Rattle.bib_answers.proofs.NewKeyLines.{new_keys_more, new_keys_all}
use Rattle.bib_answers.proofs.newkeys.lines_of.Goals as goal

pub line-preserved : goal.line-preserved
line-preserved c r reads =
    let count = c.entry_count.ensures r reads in
    let within : c.line.n < length (entries_of r) = omega (arith, c.line-test.true, c.min-n-end.ensures, count) in
    let new : c.as_slice.result.now ≡ c.index-keys-n.result = search rules in
    c.in_ok-add_new_key.ensures
    ∙ ap (λ (k : Text). c.line.out.items ++ new_key_line (c.key.result.now, k)) new
    ∙ ap (λ (t : Text). t ++ new_key_line (c.key.result.now, c.index-keys-n.result)) (c.line.invariant r reads)
    ∙ new_keys_more (entries_of r) c.args.keys.now c.line.n c.key.result.now c.index-keys-n.result
    (omega (arith, c.line-test.true, c.min-n-end.ensures, count))
    (c.key.ensures ∙ entry_key r c.line.n c.entry.result within (c.entry.ensures r reads)) c.index-keys-n.is

pub returns : goal.returns
returns c r reads =
    let count = c.entry_count.ensures r reads in
    c.from_vec.ensures ∙ c.line.invariant r reads
    ∙ new_keys_all (entries_of r) c.args.keys.now c.line.n (omega (arith, c.line-test.false, c.min-n-end.ensures, count))
