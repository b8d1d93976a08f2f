use Rattle.std.proofs.Common.{rules}
use Rattle.std.proofs.lemmas.Cmp.{nat_list_cmp_total}
use Rattle.std.proofs.lemmas.List.Sorted.{answers_always, ranks_by}
use Rattle.std.specs.Cmp.{IsStrictWeakOrder}
use Rattle.bibtex_labels.proofs.OrderLemmas.{is_sorted_by}
use Rattle.bibtex_labels.specs.Order.{is_below}
use Rattle.bibtex_labels.specs.declared.ordering.Labelled.{Labelled}
use Rattle.bibtex_labels.proofs.ordering.in_order.Goals as goal

pub returns : goal.returns
returns c =
    let order : IsStrictWeakOrder is_below = ranks_by nat_list_cmp_total (λ (entry : Labelled). entry.sort_key) in
    is_sorted_by is_below order _ _
    (c.in_ok-sort_by.ensures.sorted is_below order (answers_always _ _ _ (λ f a r g h. search rules)))
    (c.sort_by.ensures.stable is_below order (answers_always _ _ _ (λ f a r g h. search rules)))
