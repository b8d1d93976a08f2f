use Rattle.std.proofs.Common.{◌∙◌, ap, sym, option_and_then}
use Rattle.std.specs.Option.{option_copied}
use Rattle.bibtex_spec.specs.Listed.{place_named}
use Rattle.bibtex_places.proofs.parents.parent_of.Goals as goal

pub returns-in_default : goal.returns-in_default
returns-in_default c entries keys finds all cited = ap (λ o. option_and_then (place_named entries keys c.args.places.now) (option_copied o)) (sym c.in_default.is)

pub returns : goal.returns
returns c entries keys finds all cited =
    c.in_ok-named.ensures entries keys finds all cited ∙ ap (λ o. option_and_then (place_named entries keys c.args.places.now) (option_copied o)) (sym c.in-Some.is)
