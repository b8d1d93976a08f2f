use Rattle.bib_definitions.proofs.Words.{◌≡◌, ◌<◌, ◌∙◌, ℕ, Some, length, slice_get, sym, ap, subst, List, Definition, Known, AreDefinitionsOf}
use Rattle.bib_definitions.proofs.FirstDefinitions.{first-within, first-some, first-none}
use Rattle.bib_definitions.proofs.definitions.Definitions.first.Goals as goal

pub get-requires : goal.get-requires
get-requires c =
    let known : Known = record { numbers = c.self.inside.numbers; labels = c.self.inside.labels; defined = c.self.inside.by_name; longest = c.self.inside.longest } in
    subst (λ (k : ℕ). k < length c.self.inside.numbers) (sym c.rank.ensures)
    (first-within c.args.name.now known c.requires.0 c.in-Some.definition.now (subst (AreDefinitionsOf c.requires.0) (sym c.self.view_is) c.requires.1)
    (c.in-Some.ensures.value ∙ ap (λ (ds : List Definition). slice_get ds 0) c.of.ensures.is))

pub returns-in-Some : goal.returns-in-Some
returns-in-Some c items are =
    let known : Known = record { numbers = c.self.inside.numbers; labels = c.self.inside.labels; defined = c.self.inside.by_name; longest = c.self.inside.longest } in
    first-some c.args.name.now known items c.in-Some.definition.now c.get.result (subst (AreDefinitionsOf items) (sym c.self.view_is) are)
    (c.in-Some.ensures.value ∙ ap (λ (ds : List Definition). slice_get ds 0) c.of.ensures.is) (subst (λ (k : ℕ). slice_get c.self.inside.numbers k ≡ Some c.get.result) c.rank.ensures c.get.ensures)

pub returns-in-None : goal.returns-in-None
returns-in-None c items are =
    let known : Known = record { numbers = c.self.inside.numbers; labels = c.self.inside.labels; defined = c.self.inside.by_name; longest = c.self.inside.longest } in
    first-none c.args.name.now known items (subst (AreDefinitionsOf items) (sym c.self.view_is) are) (c.in-None.ensures.value ∙ ap (λ (ds : List Definition). slice_get ds 0) c.of.ensures.is)
