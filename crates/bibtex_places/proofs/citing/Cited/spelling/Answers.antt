use Rattle.std.proofs.Common.{◌≡◌, ◌∙◌, ap, sym, refl, arith, List, length, Some, slice_get}
use Rattle.std.proofs.lemmas.Option.{slice_get_read}
use Rattle.bib_spec.specs.Text.{Text}
use Rattle.bibtex_spec.specs.Listed.{first_same}
use Rattle.bibtex_places.specs.Steps.{spelled_as}
use Rattle.bibtex_places.proofs.Keys.{first_within, spelled_some, spelled_none}
use Rattle.bibtex_places.proofs.citing.Cited.spelling.Goals as goal

pub index-requires : goal.index-requires
index-requires c =
    let lt = first_within c.args.key.now c.self.inside.keys.items c.in-Some.n (ap (first_same c.args.key.now) c.self.view_is ∙ sym c.in_ok-n.ensures ∙ c.in-Some.is) in
    omega (arith, lt)

pub returns : goal.returns
returns c =
    let keys : List Text = c.self.inside.keys.items in
    let found : first_same c.args.key.now keys ≡ Some c.in-Some.n = ap (first_same c.args.key.now) c.self.view_is ∙ sym c.in_ok-n.ensures ∙ c.in-Some.is in
    let lt = first_within c.args.key.now keys c.in-Some.n found in
    let at : slice_get keys c.in-Some.n ≡ Some c.index.result.now = slice_get_read keys (length keys) c.in-Some.n c.index.result.now refl lt c.index.ensures in
    c.in_ok-cited.ensures
    ∙ c.as_slice.ensures
    ∙ spelled_some keys c.args.key.now c.args.other.now c.index.result.now c.in-Some.n found at
    ∙ ap (λ (l : List Text). spelled_as l c.args.key.now c.args.other.now) c.self.view_is

pub returns-in_default : goal.returns-in_default
returns-in_default c = c.in_ok-text.ensures ∙ spelled_none c.args.self.now c.args.key.now c.args.other.now (sym c.in_ok-n.ensures ∙ c.in_default.is)
