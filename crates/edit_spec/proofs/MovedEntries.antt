-- RemoveEntry and MoveEntry: what stays is a database that reads, since the joined texts are clean.
use Rattle.edit_spec.proofs.Words.{ℕ, Option, find, ⊎_elim, sym, ap, subst, option_map_or, name_limit, Text, IsTree, Item, Reading, bytes_of, Reads, Record, RemoveEntry, MoveEntry, WouldMerge, is_entry, in_line, with_item, remove_entry, IsAccepted, option_cases}
use Rattle.edit_spec.specs.Edits.{move_entry}
use Rattle.edit_spec.proofs.Unrefuted.{unrefuted_texts}
use Rattle.edit_spec.proofs.EditedItems.{AreTrees, made_reads, trees_of, clean_reads, in_line-is, insert-are, found-is, without_first-are}

trees_without : (file : Text) (db : Reading) (key : Text) → Reads file db → AreTrees (remove_entry key db).items
trees_without file db key reads = without_first-are (is_entry key) db.front db.items (trees_of db.items reads.items)

pub remove_entry-reads : (key_base : Record → Text) (file : Text) (db : Reading) (key : Text) → Reads file db → IsAccepted key_base db (RemoveEntry key) →
    Reads (bytes_of (remove_entry key db)) (remove_entry key db)
remove_entry-reads key_base file db key reads accepted =
    clean_reads (remove_entry key db) (trees_without file db key reads) (unrefuted_texts (remove_entry key db) (accepted WouldMerge))

abbrev moved_to : Text → ℕ → Reading → Option Item → Reading
moved_to key place db found = option_map_or (λ item. with_item place (in_line item.tree) (remove_entry key db)) found db

pub move_entry-reads : (key_base : Record → Text) (file : Text) (db : Reading) (key : Text) (place : ℕ) → Reads file db → IsAccepted key_base db (MoveEntry key place) →
    Reads (bytes_of (move_entry key place db)) (move_entry key place db)
move_entry-reads key_base file db key place reads accepted = ⊎_elim
    (λ none. subst (λ (new : Reading). Reads (bytes_of new) new) (sym (ap (moved_to key place db) none)) (made_reads db reads.front reads.items))
    (λ some. subst (λ (new : Reading). Reads (bytes_of new) new) (sym (ap (moved_to key place db) some.1))
    (made_reads (with_item place (in_line some.0.tree) (remove_entry key db)) rest.front
    (insert-are (remove_entry key db).items place (in_line some.0.tree) rest.items
    (in_line-is some.0.tree (found-is (λ (item : Item). IsTree name_limit item.tree) (λ item. is_entry key item.tree) db.items some.0 some.1 (trees_of db.items reads.items))))))
    (option_cases (find (λ item. is_entry key item.tree) db.items))
  where
    rest : Reads (bytes_of (remove_entry key db)) (remove_entry key db)
    rest = clean_reads (remove_entry key db) (trees_without file db key reads) (unrefuted_texts (remove_entry key db) (accepted WouldMerge))
