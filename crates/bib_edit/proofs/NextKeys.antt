-- The keys of a text, one after another.
use Rattle.bib_edit.proofs.Words.{◌≡◌, ℕ, ◌+◌, ◌<◌, Some, ◌∷◌, slice_get, drop, length, sym, ◌∙◌, ap, arith, length-map, same_Some, Text, Item, Reading, entries_of, keys_of, View, view_of, entry_items, entry_at, key_at_entry}
use Rattle.bib_store.proofs.EntryItems.{key_seen}
use Rattle.bib_keys.proofs.Walks.{next-of}

-- the key that is seen of entry n is the next one
pub next-key : (db : Reading) (n : ℕ) → n < length (entries_of db) → (key : Text) (seen : View) → key ≡ seen.key → ((i : Item) → slice_get (entry_items db.items) n ≡ Some i → seen ≡ view_of i) →
    drop n (keys_of (entries_of db)) ≡ key ∷ drop (n + 1) (keys_of (entries_of db))
next-key db n lt key seen its sees =
    let keys = length-map (entries_of db) (λ entry. entry.key) in
    let next = next-of (keys_of (entries_of db)) n (omega (arith, lt, keys)) in
    let entry = entry_at db n lt in
    let is : key ≡ next.0 =
    key_seen db n entry.0 entry.1 key seen its (sees entry.0 entry.1.listed) ∙ same_Some entry.1.entry.key next.0 (sym (key_at_entry db n entry.0 entry.1) ∙ next.1) in
    next.2 ∙ ap (λ k. k ∷ drop (n + 1) (keys_of (entries_of db))) (sym is)
