-- What an edit keeps of the items that it does not touch, of the files of a session.
use Rattle.bib_journal.proofs.Words.{◌≡◌, sym, subst, Reading, IsAccepted, Edit, made_base, OfEdit}
use Rattle.edit_spec.specs.Edits.{edited}
use Rattle.edit_spec.specs.OtherLaws.{is_gone, is_changed, new_number, new_trail, KeepsItems}
use Rattle.edit_spec.proofs.UntouchedItems.{untouched_items-stay}
use Rattle.bib_journal.specs.UntouchedItems.{KeepsUntouched, items_are_kept}
use Rattle.bib_journal.proofs.MadeFiles.{of-made}

made-items : (edit : Edit) (db db' : Reading) → OfEdit edit (IsAccepted made_base db) → OfEdit edit (λ e. db' ≡ edited made_base db e) → KeepsUntouched edit db db'
made-items edit db db' allowed is e asks =
    subst (KeepsItems (is_gone db e) (is_changed made_base db e) (new_number db e) (new_trail db e) db) (sym (is e asks)) (untouched_items-stay made_base db e (allowed e asks))

pub items-are-kept : items_are_kept
items-are-kept = of-made KeepsUntouched made-items
