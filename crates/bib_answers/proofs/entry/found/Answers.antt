use Rattle.bib_answers.proofs.Words.{◌≡◌, ◌∙◌, ◌++◌, [], rules, ap, List, ℕ, cons_option, Text, entries_of, entry_named}
use Rattle.bib_answers.proofs.StandingEntries.{found_next}
use Rattle.bib_answers.proofs.entry.found.Goals as goal

pub keys-preserved : goal.keys-preserved
keys-preserved c r reads =
    let key : c.as_slice.result.now ≡ c.key-item.result = search rules in
    c.in_ok-push_named.ensures r reads
    ∙ ap (λ (k : Text). c.keys.list.items ++ cons_option (entry_named (entries_of r) k) []) key
    ∙ ap (λ (l : List ℕ). l ++ cons_option (entry_named (entries_of r) c.key-item.result) []) (c.keys.invariant r reads)
    ∙ found_next (entries_of r) c.args.keys.now c.keys.key-index c.key-item.result c.keys-test.true c.key-item.is
