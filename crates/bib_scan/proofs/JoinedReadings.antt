-- Readings that are joined.
use Rattle.bib_scan.proofs.Words.{◌≡◌, [], ◌++◌, sym, ◌∙◌, ap, ap₂, append_assoc, flat_map, name_limit, Reading, IsItem, item_bytes, bytes_of}
use Rattle.std.proofs.lemmas.List.Concat.{flat_map-append}
use Rattle.std.proofs.lemmas.List.Elements.{All-append}
use Rattle.bib_scan.specs.Laws.{both, JoinedReadings}

bytes_of_both : (db next : Reading) → next.front ≡ [] → bytes_of (both db next) ≡ bytes_of db ++ bytes_of next
bytes_of_both db next none =
    ap (λ l. db.front ++ l) (flat_map-append item_bytes db.items next.items)
    ∙ sym (append_assoc db.front (flat_map item_bytes db.items) (flat_map item_bytes next.items))
    ∙ ap (λ front. bytes_of db ++ (front ++ flat_map item_bytes next.items)) (sym none)

pub joined_readings : JoinedReadings
joined_readings file more db next reads after none = record {
  bytes = bytes_of_both db next none ∙ ap₂ ◌++◌ reads.bytes after.bytes;
  front = reads.front;
  items = All-append (IsItem name_limit) db.items next.items reads.items after.items;
}
