-- Files with readings make a shelf with a reading.
use Rattle.std.proofs.Common.{◌≡◌, zero, suc, true, [], ◌∷◌, ◌++◌, codes, refl, sym, ◌∙◌, ap, ap₂, append_assoc, not-suc-le-zero}
use Rattle.std.specs.List.{flat_map}
use Rattle.std.proofs.lemmas.List.Concat.{flat_map-append}
use Rattle.std.proofs.lemmas.List.Elements.{All-append, All-cons}
use Rattle.bib_spec.specs.Bytes.{name_limit}
use Rattle.bib_spec.specs.Text.{Text, is_type_byte, does_not_begin_with}
unfoldable use Rattle.bib_spec.specs.Text.{is_name_byte, is_name_within, is_space}
use Rattle.bib_spec.specs.Clean.{IsClean}
unfoldable use Rattle.bib_spec.specs.Clean.{begins_command}
use Rattle.bib_spec.specs.Tree.{IsComment}
use Rattle.bib_spec.specs.Reading.{Reading, Reads, IsItem, item_bytes, bytes_of}
use Rattle.shelf_spec.specs.Shelf.{seam, seam_head, seam_item, shelf_text, with_seam, on_shelf}
use Rattle.shelf_spec.specs.Laws.{shelf_reads}

-- no command begins in the seam's end, whatever clean text follows
seam_clean : (front : Text) → IsClean front → IsClean (codes " %\n" ++ front)
unfolding begins_command
seam_clean front clean zero = refl
seam_clean front clean (suc zero) = refl
seam_clean front clean (suc (suc zero)) = refl
seam_clean front clean (suc (suc (suc p))) = clean p

pub seam_ends : (front : Text) → does_not_begin_with is_type_byte (codes " %\n" ++ front) ≡ true
unfolding is_name_byte
seam_ends front = refl

pub seam_is_comment : IsComment seam_head
unfolding is_name_byte is_name_within
seam_is_comment = record { head = record { space_before_type = λ k d lt. absurd (not-suc-le-zero lt); type_name = refl }; type_name = refl }

seam_item-is : (front : Text) → IsClean front → IsItem name_limit (seam_item front)
seam_item-is front clean = record { tree = seam_is_comment; trail = record { clean = seam_clean front clean; ends_name = λ e. seam_ends front } }

-- the bytes of two readings with a seam between them
pub bytes_of-with_seam : (db rest : Reading) → bytes_of (with_seam db rest) ≡ bytes_of db ++ (seam ++ bytes_of rest)
bytes_of-with_seam db rest =
    ap (λ l. db.front ++ l) (flat_map-append item_bytes db.items (seam_item rest.front ∷ rest.items))
    ∙ sym (append_assoc db.front (flat_map item_bytes db.items) (seam ++ bytes_of rest))

with_seam-reads : (file more : Text) (db rest : Reading) → Reads file db → Reads more rest → Reads (file ++ (seam ++ more)) (with_seam db rest)
with_seam-reads file more db rest reads after = record {
  bytes = bytes_of-with_seam db rest ∙ ap₂ (λ a b. a ++ (seam ++ b)) reads.bytes after.bytes;
  front = reads.front;
  items = All-append (IsItem name_limit) db.items (seam_item rest.front ∷ rest.items) reads.items
      (All-cons (IsItem name_limit) (seam_item rest.front) rest.items (seam_item-is rest.front after.front) after.items);
}

pub shelf-reads : shelf_reads
shelf-reads file db [] [] reads all = reads
shelf-reads file db [] (next ∷ dbs) reads all = absurd all
shelf-reads file db (next ∷ files) [] reads all = absurd all
shelf-reads file db (next ∷ files) (other ∷ dbs) reads all =
    with_seam-reads file (shelf_text next files) db (on_shelf other dbs) reads (shelf-reads next other files dbs all.0 all.1)
