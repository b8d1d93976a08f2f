use Rattle.std.proofs.Common.{◌∙◌, ap, sym, option_and_then, slice_get}
use Rattle.std.specs.Option.{option_copied}
use Rattle.bib_spec.specs.Records.{crossref_text}
use Rattle.bibtex_places.proofs.Entries.{crossref_some, crossref_none}
use Rattle.bibtex_places.proofs.parents.crossref_of.Goals as goal

pub returns-in_err-given_at : goal.returns-in_err-given_at
returns-in_err-given_at c texts are =
    ap option_copied c.from_residual-in_err-given_at.ensures
    ∙ crossref_none c.args.entries.now texts c.in_ok-held.field-0 (sym c.given_at.ensures ∙ c.in_err-given_at.was) are
    ∙ ap (λ o. option_and_then crossref_text (option_and_then (slice_get texts) o)) (sym c.in_ok-held.was)

pub returns : goal.returns
returns c texts are =
    crossref_some c.args.entries.now texts c.in_ok-held.field-0 c.in_ok-given_at.field-0 (sym c.given_at.ensures ∙ c.in_ok-given_at.was) are
    ∙ ap (λ o. option_and_then crossref_text (option_and_then (slice_get texts) o)) (sym c.in_ok-held.was)
