use Rattle.std.proofs.Common.{◌∙◌, List, sym, subst}
use Rattle.std.specs.Option.{IfSome}
use Rattle.bib_spec.specs.Text.{Text}
use Rattle.bib_spec.specs.Records.{EntryTexts}
use Rattle.bibtex_spec.specs.Places.{Place}
use Rattle.bibtex_places.specs.Lists.{AreKeysOf, ArePlacesOfEach}
use Rattle.bibtex_places.proofs.EachPlace.{alone}
use Rattle.bibtex_places.proofs.listing.each_place.Goals as goal

pub returns : goal.returns
returns c =
    subst (λ (keys : List Text). IfSome c.in_ok-places.places (λ (places : List Place). (texts : List EntryTexts) → AreKeysOf c.args.entries.now texts → ArePlacesOfEach texts keys places))
    (alone c.args.keys.now (sym c.is_star_alone.ensures ∙ c.if-not-is_star_alone.false)) c.in_ok-places.ensures
