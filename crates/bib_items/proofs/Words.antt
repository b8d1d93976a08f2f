-- The words that most proofs of this crate cite, passed on from one place. Declares nothing.
pub use Rattle.bib_items.specs.Glancing.{head_of}
pub use Rattle.bib_items.specs.Items.{all_stored, item, item_at, kept_bytes, stored, without_range}
pub use Rattle.bib_items.specs.PageOwn.{PageOwn}
pub use Rattle.bib_items.specs.Pages.{ArePages, IsPage, IsRoom, IsSeam, page_limit}
pub use Rattle.bib_items.specs.PartMarks.{AreCovered, HasItemMarks, IsCovered, KeepsMarks, mark_len, mixed_all, name_mark, sought_mark}
pub use Rattle.bib_items.specs.Seeking.{LackPart, LacksPart, test_of}
pub use Rattle.bib_items.specs.Slots.{AreMarks}
pub use Rattle.bib_items.specs.Spans.{AreLaid, Extends, LieInEither, LiesInEither, item_in, items_in, span_end, total}
pub use Rattle.bib_items.specs.Starts.{AreStarts, HaveSameBefore, weight}
pub use Rattle.bib_items.specs.declared.list.Item.{Item}
pub use Rattle.bib_items.specs.declared.seeking.Sought.{Sought}
pub use Rattle.bib_items.specs.declared.span.Span.{Span}
pub use Rattle.bib_pages.proofs.Paging.{all_append, all_back, all_front, are_parted, joined-append, joined-parted, joined-past, length-joined-more, length-joined-take}
pub use Rattle.bib_pages.proofs.Ways.{on_way_end, on_way_more}
pub use Rattle.bib_pages.specs.Pages.{IsGap, IsOnWay, IsPlace, joined, page_at, parted_at}
pub use Rattle.bib_scan.specs.Layout.{IsLayoutOf, Places, start_of}
pub use Rattle.bib_spec.proofs.Names.{eq-true}
pub use Rattle.bib_spec.proofs.Results.{err_always}
pub use Rattle.bib_spec.specs.Bytes.{name_limit}
pub use Rattle.bib_spec.specs.Reading.{Reading, Reads}
pub use Rattle.bib_spec.specs.Text.{Text, folded, same}
pub use Rattle.bib_spec.specs.Texts.{parts_of, values_of}
pub use Rattle.bib_spec.specs.Tree.{Braced, CommentTree, DefinitionTree, Digits, EntryTree, Macro, Part, PreambleTree, Quoted, Row, Tree, Value, opening_bytes, row_bytes, tree_bytes, value_bytes}
pub use Rattle.std.proofs.Common.{All, Bool, List, None, Option, Some, [], ap, append_assoc, ap₂, arith, drop, get_or, inl, insert, length, map, refl, remove, set, subst, subst₂, suc, sym, take, take-append-drop, zero, ℕ, ⊎_elim, ◌++◌, ◌+◌, ◌-◌, ◌<◌, ◌∙◌, ◌∷◌, ◌≡◌, ◌≢◌, ◌≤◌}
pub use Rattle.std.proofs.Math.Seq.{take-add}
pub use Rattle.std.proofs.lemmas.Bool.{cases_Bool, cases_lt}
pub use Rattle.std.proofs.lemmas.List.{drop-append-le, drop-drop, drop_at, drop_more, get_or-drop, get_or_append_left, get_or_read, length-map, length-take-le, map-append, take-append-le, take-map, take-take, take_all, take_at, take_more}
pub use Rattle.std.proofs.lemmas.List.Concat.{flat_map-append}
pub use Rattle.std.proofs.lemmas.List.Elements.{All-append, All-cons, All-drop, All-head, All-nil, All-push, All-set, All-tail, All-take, All-weaker}
pub use Rattle.std.proofs.lemmas.Option.{same_Some, slice_get-get_or}
pub use Rattle.std.proofs.lemmas.Result.{on_ok_weaker}
pub use Rattle.std.specs.List.{AllByRecursion, between, flat_map, list_any}
pub use Rattle.std.specs.List.Sorted.{IsBinarySearchResult}
pub use Rattle.std.specs.Ordering.{nat_cmp}
pub use Rattle.std.specs.Prelude.{Contains, Err}
pub use Rattle.std.specs.Str.{bytes_eq}
