-- The words that most proofs of this crate cite, passed on from one place. Declares nothing.
pub use Rattle.bib_spec.proofs.PieceLemmas.{applied_from-begin, length-between}
pub use Rattle.bib_spec.proofs.WayBack.{applied-reversed, fit_back}
pub use Rattle.bib_spec.specs.Pieces.{AscendFrom, BeginFrom, EndBy, Fit, IsAscending, Piece, Stands, applied, applied_from, end_of, reversed, reversed_from}
pub use Rattle.bib_spec.specs.Text.{Text}
pub use Rattle.history_spec.specs.Composing.{ApartFrom, AreApart, Back, BeginsAfter, Group, LiesBetween, Member, On, StandApart, alone, back_is_first, begun_at, composed, composed_after, composed_at, composed_from, covered_with, group_end, group_new, group_old, groups, groups_from, in_order}
pub use Rattle.history_spec.specs.Composing.{new_end, old_end, piece_of, with_member}
pub use Rattle.history_spec.specs.Shifting.{FitAfter, all_moved_back, moved_back}
pub use Rattle.std.proofs.Common.{List, [], ap, append-nil, append_assoc, ap₂, arith, drop, false, get_or, inl, inr, length, length-append, length-drop, map, nat_le, refl, subst, suc, sym, take, true, zero, ℕ, ⊎_elim, ◌++◌, ◌+◌, ◌-◌, ◌<◌, ◌∙◌, ◌∷◌, ◌≡◌, ◌≤◌}
pub use Rattle.std.proofs.lemmas.Bool.{cases_Bool, cond-false, cond-true, leb-false, leb-true, lt-leb}
pub use Rattle.std.proofs.lemmas.List.{drop-drop, drop_all, drop_at, length_push, take_at}
pub use Rattle.std.specs.List.{AllByRecursion, between, flat_map}
