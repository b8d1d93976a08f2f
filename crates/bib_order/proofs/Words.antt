-- The words that most proofs of this crate cite, passed on from one place. Declares nothing.
pub use Rattle.bib_order.specs.Holders.{before, holders}
pub use Rattle.bib_order.specs.Ids.{AreKept, ids_of}
pub use Rattle.bib_order.specs.Orders.{Ascend, IsDistinct, IsOrdered, IsTold, Lacks, is_among}
pub use Rattle.bib_pages.proofs.Paging.{all_append, all_back, all_front, length-joined-more, read_at}
pub use Rattle.bib_pages.specs.Pages.{IsGap, IsPlace, joined, page_at}
pub use Rattle.std.proofs.Common.{Bool, List, Some, [], ap, ap₂, arith, drop, false, get_or, insert, length, length-append, refl, remove, rules, set, subst, suc, sym, take, take-append-drop, true, zero, ℕ, ⊎_elim, ◌++◌, ◌+◌, ◌-◌, ◌<◌, ◌^◌, ◌∙◌, ◌∷◌, ◌≡◌, ◌≢◌, ◌≤◌}
pub use Rattle.std.proofs.lemmas.Bool.{cases_Bool, cases_lt, cond-false, cond-true}
pub use Rattle.std.proofs.lemmas.List.{get_or-append_right, get_or_append_left, get_or_read}
pub use Rattle.std.proofs.lemmas.List.Sums.{length-filter}
pub use Rattle.std.proofs.lemmas.Option.{get_or_from_slice_get, none-some, slice_get-get_or}
pub use Rattle.std.specs.List.{AllByRecursion, slice_get}
pub use Rattle.std.specs.Option.{IfNone}
pub use Rattle.std.specs.Prelude.{Err, Ok, Result}
