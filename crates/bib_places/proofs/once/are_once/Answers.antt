use Rattle.std.proofs.Common.{Bool, List, sym, ◌∙◌, ap}
use Rattle.std.specs.List.{list_all}
use Rattle.bib_places.specs.PlacesSeen.{number_in}
use Rattle.bib_places.proofs.Marks.{marked-all}
use Rattle.bib_places.proofs.once.are_once.Goals as goal

pub returns : goal.returns
returns c all =
    marked-all (number_in c.args.file) c.args.places.now c.args.count c.places.k c.places.marks.items c.places-test.false c.places.invariant
    (sym (c.are_marked.ensures ∙ ap (λ (marks : List Bool). list_all (λ mark. mark) marks) c.as_slice-2.ensures.value) ∙ all)
