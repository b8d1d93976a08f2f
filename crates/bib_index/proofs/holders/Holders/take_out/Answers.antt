use Rattle.std.proofs.Common.{rules, sym, ◌∙◌, ap}
use Rattle.std.proofs.lemmas.Fn.{filter_same}
use Rattle.bib_index.specs.Held.{ids_of}
use Rattle.bib_index.specs.KeyIndex.{without}
use Rattle.bib_index.proofs.holders.Holders.take_out.Goals as goal

pub returns-in-Many : goal.returns-in-Many
returns-in-Many c =
    filter_same _ _ _ (λ x b f k. search rules) _ _ c.retain.ensures.filtered
    ∙ ap (without c.args.id) (ap (λ v. v.items) c.deref_mut.ensures.value ∙ ap ids_of (sym c.in-Many.is) ∙ c.self.view_is)
