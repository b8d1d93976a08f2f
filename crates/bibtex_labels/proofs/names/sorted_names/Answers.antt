use Rattle.std.proofs.Common.{◌∙◌, ◌++◌, true, sym, ap, arith}
use Rattle.bibtex_labels.specs.Label.{sorted_name, sorted_names}
use Rattle.bibtex_labels.proofs.NameLemmas.{front_names, front_all, sorted_snoc}
use Rattle.bibtex_labels.proofs.names.sorted_names.Goals as goal

pub returns : goal.returns
returns c =
    let front = c.in-Some.front.now in
    c.in_ok-push_sorted_name-2.ensures
    ∙ ap (λ t. t ++ sorted_name true c.in-Some.last.now)
    (front_all front c.names.name-index c.names.out.items (front_names front) (let end = c.names-test.false in omega (arith, end)) c.names.invariant)
    ∙ sym (ap sorted_names c.in-Some.ensures.cases.0 ∙ sorted_snoc front c.in-Some.last.now)
