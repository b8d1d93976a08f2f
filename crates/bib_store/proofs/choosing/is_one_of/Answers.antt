use Rattle.bib_store.proofs.Words.{rules, tests, ◌∙◌, ℕ, List, Bor, YieldsList-from_slice, any_from_yields_List, same}
use Rattle.bib_store.proofs.ChosenFields.{any_mapped}
use Rattle.bib_store.proofs.choosing.is_one_of.Goals as goal

pub returns : goal.returns
returns c =
    any_from_yields_List (λ (n : Bor (List ℕ)). same c.args.name.now n.now) _ _ _ c.any.ensures.ran (YieldsList-from_slice c.args.names.now cc) (λ x b q k. search (rules, tests))
    ∙ any_mapped (same c.args.name.now) (λ (n : Bor (List ℕ)). n.now) c.args.names.now
