use Rattle.bib_answers.proofs.Words.{◌≡◌, ◌∙◌, ◌<◌, [], Option, Some, length, slice_get, sym, ap, option_map_or, EntryTexts, entries_of}
use Rattle.std.proofs.Common.{arith}
use Rattle.bib_spec.specs.Texts.{is_empty}
use Rattle.bib_answers.specs.Lint.{has_no_key}
use Rattle.bib_answers.proofs.AnyOf.{any_found, any_passed}
use Rattle.bib_answers.proofs.EntryNumbers.{entry_key}
use Rattle.bib_answers.proofs.empty_parents.has_no_key.Goals as goal

pub returns-then-is_empty : goal.returns-then-is_empty
returns-then-is_empty c = λ r reads.
    let within : c.entries.n < length (entries_of r) = omega (arith, c.entries-test.true, c.entry_count-n-end.ensures r reads) in
    let tells : (e : EntryTexts) → slice_get (entries_of r) c.entries.n ≡ Some e → c.is_empty.result ≡ has_no_key e =
    λ e at. c.is_empty.ensures ∙ ap is_empty (c.key.ensures ∙ entry_key r c.entries.n c.entry.result within (c.entry.ensures r reads) ∙ ap (λ (o : Option EntryTexts). option_map_or (λ (entry : EntryTexts). entry.key) o []) at) in
    sym (any_found has_no_key (entries_of r) c.entries.n c.is_empty.result within tells (c.entries.invariant r reads) c.if-is_empty.true)

pub entries-preserved : goal.entries-preserved
entries-preserved c = λ r reads.
    let within : c.entries.n < length (entries_of r) = omega (arith, c.entries-test.true, c.entry_count-n-end.ensures r reads) in
    let tells : (e : EntryTexts) → slice_get (entries_of r) c.entries.n ≡ Some e → c.is_empty.result ≡ has_no_key e =
    λ e at. c.is_empty.ensures ∙ ap is_empty (c.key.ensures ∙ entry_key r c.entries.n c.entry.result within (c.entry.ensures r reads) ∙ ap (λ (o : Option EntryTexts). option_map_or (λ (entry : EntryTexts). entry.key) o []) at) in
    any_passed has_no_key (entries_of r) c.entries.n c.is_empty.result within tells (c.entries.invariant r reads) c.if-is_empty.false
