use Rattle.bib_answers.proofs.Words.{◌≡◌, ◌∙◌, ◌<◌, false, Option, Some, length, slice_get, sym, ap, option_map_or, Text, EntryTexts, entries_of}
use Rattle.std.proofs.Common.{option_and_then, arith}
use Rattle.bib_spec.specs.Texts.{is_empty}
use Rattle.bib_spec.specs.Records.{crossref_text}
use Rattle.bib_answers.specs.Lint.{has_empty_crossref}
use Rattle.bib_answers.proofs.AnyOf.{any_found, any_passed}
use Rattle.bib_answers.proofs.empty_parents.has_empty_crossref.Goals as goal

pub returns-then-is_empty : goal.returns-then-is_empty
returns-then-is_empty c = λ r reads.
    let within : c.entries.n < length (entries_of r) = omega (arith, c.entries-test.true, c.entry_count-n-end.ensures r reads) in
    let tells : (e : EntryTexts) → slice_get (entries_of r) c.entries.n ≡ Some e → c.is_empty.result ≡ has_empty_crossref e =
    λ e at. c.is_empty.ensures ∙ ap (λ (o : Option Text). option_map_or is_empty o false) (c.crossref_text.ensures r reads ∙ ap (option_and_then crossref_text) at) in
    sym (any_found has_empty_crossref (entries_of r) c.entries.n c.is_empty.result within tells (c.entries.invariant r reads) c.if-is_empty.true)

pub entries-preserved : goal.entries-preserved
entries-preserved c = λ r reads.
    let within : c.entries.n < length (entries_of r) = omega (arith, c.entries-test.true, c.entry_count-n-end.ensures r reads) in
    let tells : (e : EntryTexts) → slice_get (entries_of r) c.entries.n ≡ Some e → c.is_empty.result ≡ has_empty_crossref e =
    λ e at. c.is_empty.ensures ∙ ap (λ (o : Option Text). option_map_or is_empty o false) (c.crossref_text.ensures r reads ∙ ap (option_and_then crossref_text) at) in
    any_passed has_empty_crossref (entries_of r) c.entries.n c.is_empty.result within tells (c.entries.invariant r reads) c.if-is_empty.false
