-- The words that most proofs of this crate cite, passed on from one place. Declares nothing.
pub use Rattle.bib_spec.specs.Bytes.{file_limit}
pub use Rattle.bib_spec.specs.Pieces.{EndBy, Piece, end_of, reversed, reversed_from}
pub use Rattle.bib_steps.specs.Amending.{AreSomeEnds, BeginAfter, IsNear, end_at, ends_from, moved}
pub use Rattle.history_spec.proofs.Around.{reversed_append}
pub use Rattle.history_spec.proofs.Near.{length-ends}
pub use Rattle.history_spec.specs.Composing.{IsComposable, IsComposableAt, Replacement, StandApart, composed, composed_after, composed_at, ends_of, new_end, old_end}
pub use Rattle.std.proofs.Common.{List, Some, [], ap, append-nil, append_assoc, ap₂, arith, drop, get_or, length, length-append, length-drop, map, refl, rules, set, subst, suc, sym, take, take-append-drop, true, zero, ℕ, ◌++◌, ◌+◌, ◌-◌, ◌<◌, ◌∙◌, ◌∷◌, ◌≡◌, ◌≤◌}
pub use Rattle.std.proofs.lemmas.Grind.{get_or_default_zero}
pub use Rattle.std.proofs.lemmas.List.{drop-drop, drop_all, drop_at, length-take-le, map-append, set_split, take-append-le, take-take, take_at}
pub use Rattle.std.specs.List.{slice_get}
