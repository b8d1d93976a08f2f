-- Inlining a macro keeps all raw texts, so that none becomes too long.
use Rattle.bib_edit.proofs.Words.{◌≡◌, false, List, [], ◌∷◌, ⊎_elim, refl, sym, ◌∙◌, ap, cases_Bool, or_parts, or_from, Text, Item, Macros, macros_after, leaving, defines, use_inlined, count-no}
use Rattle.edit_spec.proofs.InlineMacro.{IsOther, IsAny, Agree, gives, stays, begins, count, uncounted, rest_uncounted, IsHeld, held_here, left, left-defined, left-other}
use Rattle.bib_edit.proofs.LongTexts.{any_long}
use Rattle.bib_edit.proofs.PlacedTexts.{is_long_in}
use Rattle.bib_edit.proofs.MacroTexts.{any-same}

pub long-inlined : (name held : Text) (m : Macros) (front : Text) (items : List Item) → count name held items ≡ 1 → IsHeld name held m items → any_long m items ≡ false
    → any_long m (left name held front items).items ≡ false
long-inlined name held m front [] h is short = refl
long-inlined name held m front (item ∷ items) h is short =
    let both = or_parts (is_long_in m item.tree) (any_long (macros_after m item.tree) items) short in
    ⊎_elim
    (λ e. ap (any_long m) (left-defined name held front item items e)
    ∙ any-same leaving (use_inlined name held) (IsAny name held) (IsOther name held) (Agree name held) (gives name held) (stays name held) (macros_after m item.tree) m
    (begins name held m item.tree e (held_here name held m item items h is e)) items (uncounted name held items (rest_uncounted name held item items h e))
    ∙ both.1)
    (λ e. ap (any_long m) (left-other name held front item items e)
    ∙ or_from (is_long_in m item.tree) (any_long (macros_after m item.tree) (left name held item.trail items).items) both.0
    (long-inlined name held (macros_after m item.tree) item.trail items (sym (count-no (λ item. defines name item.tree) item items e) ∙ h) is both.1))
    (cases_Bool (defines name item.tree))
