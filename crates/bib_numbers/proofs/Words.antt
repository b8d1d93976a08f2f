-- The words that most proofs of this crate cite, passed on from one place. Declares nothing.
pub use Rattle.bib_numbers.specs.Labels.{AreLabels}
pub use Rattle.bib_numbers.specs.Moves.{AreFilled, ends_below, moved_from, plus, shifted, starts}
pub use Rattle.bib_numbers.specs.Numbers.{Ascend, HasParts, HaveNext, PartAt, rank_in}
pub use Rattle.bib_pages.proofs.Paging.{all_append, all_back, insert_at, joined-past, settled}
pub use Rattle.bib_pages.specs.Pages.{IsGap, IsOnWay, IsPlace, joined, page_at}
pub use Rattle.std.proofs.Common.{List, Some, [], ap, append_assoc, ap₂, arith, drop, get_or, insert, length, length-append, map, refl, remove, rules, set, slice_index_or, subst, suc, sym, take, zero, zero-add, ℕ, ◌%◌, ◌++◌, ◌+◌, ◌-◌, ◌<◌, ◌^◌, ◌∙◌, ◌∷◌, ◌≡◌, ◌≤◌}
pub use Rattle.std.proofs.lemmas.Bool.{lt-ltb, ltb-true}
pub use Rattle.std.proofs.lemmas.List.{get_or_default, get_or_read, length-map, length-set}
pub use Rattle.std.proofs.lemmas.List.Sorted.{IsPartitionPoint-from_clause}
pub use Rattle.std.proofs.lemmas.Option.{get_or_from_slice_get, slice_get_within}
pub use Rattle.std.proofs.lemmas.Result.{on_err_weaker, on_ok_weaker}
pub use Rattle.std.specs.List.{AllByRecursion, take-map}
pub use Rattle.std.specs.List.Sorted.{IsPartitionPoint, IsPartitionedBy}
pub use Rattle.std.specs.Option.{option_copied}
