use Rattle.std.proofs.lemmas.Cmp.{nat_list_cmp_total}
use Rattle.std.proofs.lemmas.List.Sorted.{ranks_by}
use Rattle.std.specs.Cmp.{IsStrictWeakOrder}
use Rattle.bibtex_labels.proofs.OrderLemmas.{is_sorted_by, same_sorted, sorted_of_up, stable_sorted, up_sorted}
use Rattle.bibtex_labels.specs.Order.{is_below}
use Rattle.bibtex_labels.specs.declared.ordering.Labelled.{Labelled}
use Rattle.bibtex_labels.proofs.laws.one_order.Goals as goal

pub returns : goal.returns
returns c entries =
    let order : IsStrictWeakOrder is_below = ranks_by nat_list_cmp_total (λ (entry : Labelled). entry.sort_key) in
    record {
      is = record {
        same = same_sorted is_below order entries;
        rising = sorted_of_up is_below order _ (up_sorted is_below order entries);
        stable = stable_sorted is_below order entries;
      };
      one = λ ordered o. is_sorted_by is_below order entries ordered o.rising o.stable;
    }
