-- A whole text: the commands that are read are the items of a reading.
use Rattle.bib_scan.proofs.Words.{◌≡◌, ℕ, zero, suc, ◌+◌, ◌-◌, ◌<◌, ◌≤◌, Bool, true, List, [], ◌∷◌, ◌++◌, length, take, drop, map, refl, sym, ap, ◌∙◌, arith, append_assoc, inl, inr, Result, Ok, length-append, length-drop, take-append-drop, length-take-le, drop_at, drop-drop, All-nil, All-cons}
use Rattle.bib_scan.proofs.Words.{All-head, All-tail, cases_Bool, not_from_false, flat_map, enumerate_from, All, Text, is_type_byte, does_not_begin_with, begins_command, Tree, CommentTree, DefinitionTree, PreambleTree, EntryTree, tree_bytes, Item, Reading, item_bytes, bytes_of, IsItem, ReadsWithin}
use Rattle.bib_scan.proofs.Words.{Span, start_of, span_of, places_of, Halt, span, read_command, next_command, read_commands, read_all_commands, ◌>>=◌, Next}
use Rattle.std.proofs.lemmas.Grind.{flat_map-append}
use Rattle.bib_scan.proofs.BraceLemmas.{take-more}
use Rattle.bib_scan.proofs.CommandLemmas.{next_here, next_none}
use Rattle.bib_scan.proofs.RunLaws.{bind_ok, ok_same}
use Rattle.bib_scan.proofs.CommandLaws.{EndsName, IsTreeOf, command_ok}
use Rattle.bib_scan.proofs.CleanLaws.{next_found, next_again, begins_sign, at_no_type}
use Rattle.bib_scan.proofs.TreeAgainLaws.{tree_again}

-- ---- what every tree has

stops_take : (test : ℕ → Bool) (n : ℕ) (t : Text) → does_not_begin_with test t ≡ true → does_not_begin_with test (take n t) ≡ true
stops_take test zero t is = refl
stops_take test (suc n) [] is = refl
stops_take test (suc n) (b ∷ t) is = is

-- the trail of a tree ends the tree's type name if the whole text after the tree does
pub ends_take : (tree : Tree) (n : ℕ) (rest : Text) → EndsName tree rest → EndsName tree (take n rest)
ends_take tree n rest is = λ e. stops_take is_type_byte n rest (is e)

pub some_bytes : (tree : Tree) → 0 < length (tree_bytes tree)
some_bytes (CommentTree h) = omega arith
some_bytes (DefinitionTree d) = omega arith
some_bytes (PreambleTree p) = omega arith
some_bytes (EntryTree e) = omega arith

-- ---- items

-- where the bodies of these items lie, if the first one begins at `at`
abbrev pub spans_from : ℕ → List Item → List Span
spans_from at [] = []
spans_from at (i ∷ items) = span at (at + length (tree_bytes i.tree)) ∷ spans_from (at + length (item_bytes i)) items

-- the next item begins after this one
pub start_more : (db : Reading) (n : ℕ) (i : Item) (items : List Item) → drop n db.items ≡ i ∷ items → start_of db (n + 1) ≡ start_of db n + length (item_bytes i)
start_more db n i items is =
    let one : take (n + 1) db.items ≡ take n db.items ++ i ∷ [] = sym (take-more n 1 db.items) ∙ ap (λ (u : List Item). take n db.items ++ take 1 u) is in
    let bytes = ap (λ (u : List Item). length (flat_map item_bytes u)) one ∙ ap (length {A = ℕ}) (flat_map-append item_bytes (take n db.items) (i ∷ [])) in
    omega (arith, bytes, length-append (flat_map item_bytes (take n db.items)) (item_bytes i ++ []), length-append (item_bytes i) [])

spans_numbered : (db : Reading) (n : ℕ) (items : List Item) → drop n db.items ≡ items → spans_from (start_of db n) items ≡ map (span_of db) (enumerate_from n items)
spans_numbered db n [] is = refl
spans_numbered db n (i ∷ items) is =
    let more : drop (n + 1) db.items ≡ items = sym (drop-drop 1 n db.items) ∙ ap (drop 1) is in
    ap (λ (m : ℕ). span_of db (n, i) ∷ spans_from m items) (sym (start_more db n i items is)) ∙ ap (λ (ss : List Span). span_of db (n, i) ∷ ss) (spans_numbered db (n + 1) items more)

-- the spans of a whole file
pub spans_all : (db : Reading) → spans_from (length db.front) db.items ≡ (places_of db).items
spans_all db = ap (λ (m : ℕ). spans_from m db.items) (omega arith) ∙ spans_numbered db 0 db.items refl

-- `t` is the bytes of these items, and the spans are those of the items
pub record AreItems (limit : ℕ) (total : ℕ) (t : Text) (spans : List Span) : Type 0 where
  pub items : List Item
  pub are_items : All (IsItem limit) items
  pub split : t ≡ flat_map item_bytes items
  pub spans_are : spans ≡ spans_from (total - length t) items

items_nil : (limit total : ℕ) (spans : List Span) → [] ≡ spans → AreItems limit total [] spans
items_nil limit total spans is = record { items = []; are_items = All-nil (IsItem limit); split = refl; spans_are = sym is }

pub not_here : begins_command [] ≡ true → ⊥
unfolding begins_command
not_here e = cc

items_cons : (limit total : ℕ) (t rest : Text) (spans later : List Span) → length t ≤ total → IsTreeOf limit t rest → span (total - length t) (total - length rest) ∷ later ≡ spans → AreItems limit total (drop (next_command rest) rest) later → AreItems limit total t spans
items_cons limit total t rest spans later fits tree is ok =
    let found = next_found rest in
    let trail = take (next_command rest) rest in
    let i : Item = record { tree = tree.0; trail = trail } in
    let good : IsItem limit i = record { tree = tree.1; trail = record { clean = found.clean; ends_name = ends_take tree.0 (next_command rest) rest tree.3 } } in
    let split : t ≡ item_bytes i ++ flat_map item_bytes ok.items =
    tree.2 ∙ ap (λ (u : Text). tree_bytes tree.0 ++ u) (sym (take-append-drop (next_command rest) rest) ∙ ap (λ (u : Text). trail ++ u) ok.split) ∙ sym (append_assoc (tree_bytes tree.0) trail _) in
    let l1 = ap (length {A = ℕ}) split in
    let l2 = length-append (item_bytes i) (flat_map item_bytes ok.items) in
    let l3 = length-append (tree_bytes tree.0) trail in
    let l4 = ap (length {A = ℕ}) tree.2 in
    let l5 = length-append (tree_bytes tree.0) rest in
    let l6 = ap (length {A = ℕ}) ok.split in
    let end : total - length rest ≡ (total - length t) + length (tree_bytes tree.0) = omega arith in
    let next_place : total - length (drop (next_command rest) rest) ≡ (total - length t) + length (item_bytes i) = omega arith in
    record {
      items = i ∷ ok.items;
      are_items = All-cons (IsItem limit) i ok.items good ok.are_items;
      split = split;
      spans_are = sym is ∙ ap (λ (n : ℕ). span (total - length t) n ∷ later) end
          ∙ ap (λ (ss : List Span). span (total - length t) ((total - length t) + length (tree_bytes tree.0)) ∷ ss) (ok.spans_are ∙ ap (λ (n : ℕ). spans_from n ok.items) next_place);
    }

commands_ok : (limit total n : ℕ) (t : Text) (spans : List Span) → length t < n → length t ≤ total → Next t → read_commands limit total n t ≡ Ok spans → AreItems limit total t spans
unfolding read_commands
commands_ok limit total zero t spans room fits next is = absurd (omega arith)
commands_ok limit total (suc n) [] spans room fits next is = items_nil limit total spans (ok_same [] spans _ refl is)
commands_ok limit total (suc n) (b ∷ t) spans room fits next is =
    let x = bind_ok (read_command limit (b ∷ t)) _ spans is in
    let y = bind_ok (read_commands limit total n (drop (next_command x.0) x.0)) _ spans x.2 in
    let here : begins_command (b ∷ t) ≡ true = elim next [ inl none ↦ absurd (omega (arith, ap (length {A = ℕ}) none)) | inr it ↦ it ] in
    let tree = command_ok limit (b ∷ t) x.0 here x.1 in
    let l1 = ap (length {A = ℕ}) tree.2 in
    let l2 = length-append (tree_bytes tree.0) x.0 in
    let l3 = length-drop (next_command x.0) x.0 in
    let some : 0 < length (tree_bytes tree.0) = some_bytes tree.0 in
    items_cons limit total (b ∷ t) x.0 spans y.0 fits tree (ok_same _ spans _ refl y.2) (commands_ok limit total n (drop (next_command x.0) x.0) y.0 (omega arith) (omega arith) (next_found x.0).next y.1)

next_within : (t : Text) → next_command t ≤ length t
unfolding next_command
next_within [] = omega arith
next_within (b ∷ t) = elim (cases_Bool (begins_command (b ∷ t))) [ inl here ↦ omega (arith, next_here (b ∷ t) here) | inr none ↦ omega (arith, next_none b t none, next_within t) ]

-- a text that is read has a reading
pub reading_of : (limit : ℕ) (t : Text) (spans : List Span) → read_all_commands limit t ≡ Ok spans → (db : Reading) × ReadsWithin limit t db × (next_command t ≡ length db.front) × (spans ≡ (places_of db).items)
reading_of limit t spans is =
    let front = take (next_command t) t in
    let rest = drop (next_command t) t in
    let found = next_found t in
    let l = length-drop (next_command t) t in
    let ok = commands_ok limit (length t) (length t + 1) rest spans (omega arith) (omega arith) found.next is in
    let db : Reading = record { front = front; items = ok.items } in
    let whole : bytes_of db ≡ t = ap (λ (u : Text). front ++ u) (sym ok.split) ∙ take-append-drop (next_command t) t in
    let good : ReadsWithin limit t db = record { bytes = whole; front = found.clean; items = ok.are_items } in
    let within : next_command t ≤ length t = next_within t in
    let len : length front ≡ next_command t = length-take-le (next_command t) t within in
    let place : length t - length rest ≡ length front = omega arith in
    (db, good, sym len, ok.spans_are ∙ ap (λ (n : ℕ). spans_from n ok.items) place ∙ spans_all db)

-- ---- what has a reading is read

-- the trail of a comment, with the text after it
pub ends_more : (tree : Tree) (trail r : Text) → EndsName tree trail → Next r → EndsName tree (trail ++ r)
ends_more tree [] r is next comment = elim next [
  | inl none ↦ ap (does_not_begin_with is_type_byte) none
  | inr here ↦ let s = begins_sign r here in ap (does_not_begin_with is_type_byte) s.1 ∙ not_from_false _ at_no_type
]
ends_more tree (b ∷ trail) r is next comment = is comment

-- the text after an item's tree: its trail, and then nothing or a command
pub items_next : (limit : ℕ) (items : List Item) → All (IsItem limit) items → Next (flat_map item_bytes items)
items_next limit [] all = inl refl
items_next limit (i ∷ items) all =
    let ok = All-head (IsItem limit) i items all in
    let shape = append_assoc (tree_bytes i.tree) i.trail (flat_map item_bytes items) in
    let ends = ends_more i.tree i.trail (flat_map item_bytes items) ok.trail.ends_name (items_next limit items (All-tail (IsItem limit) i items all)) in
    inr (ap begins_command shape ∙ (tree_again limit i.tree (i.trail ++ flat_map item_bytes items) ok.tree ends).begins)

pub one_turn : (limit total n : ℕ) (t rest : Text) → 0 < length t → read_command limit t ≡ Ok rest → read_commands limit total (suc n) t ≡ (read_commands limit total n (drop (next_command rest) rest) >>= λ later. Ok (span (total - length t) (total - length rest) ∷ later))
unfolding read_commands
one_turn limit total n [] rest some is = absurd (omega arith)
one_turn limit total n (b ∷ t) rest some is = rw is refl

commands_again : (limit total n : ℕ) (items : List Item) → All (IsItem limit) items → length (flat_map item_bytes items) ≤ total → length (flat_map item_bytes items) < n → read_commands limit total n (flat_map item_bytes items) ≡ Ok (spans_from (total - length (flat_map item_bytes items)) items)
unfolding read_commands
commands_again limit total zero items all fits room = absurd (omega arith)
commands_again limit total (suc n) [] all fits room = refl
commands_again limit total (suc n) (i ∷ items) all fits room =
    let ok = All-head (IsItem limit) i items all in
    let later : Text = flat_map item_bytes items in
    let rest : Text = i.trail ++ later in
    let next = items_next limit items (All-tail (IsItem limit) i items all) in
    let shape : flat_map item_bytes (i ∷ items) ≡ tree_bytes i.tree ++ rest = append_assoc (tree_bytes i.tree) i.trail later in
    let again = tree_again limit i.tree rest ok.tree (ends_more i.tree i.trail later ok.trail.ends_name next) in
    let trail_len : next_command rest ≡ length i.trail = next_again i.trail later ok.trail.clean next in
    let dropped : drop (next_command rest) rest ≡ later = drop_at i.trail later _ (sym trail_len) in
    let l1 = length-append (tree_bytes i.tree) rest in
    let l2 = length-append i.trail later in
    let l3 = length-append (tree_bytes i.tree) i.trail in
    let l4 = ap (length {A = ℕ}) shape in
    let some = some_bytes i.tree in
    let at : ℕ = total - length (flat_map item_bytes (i ∷ items)) in
    let same_end : total - length rest ≡ at + length (tree_bytes i.tree) = omega arith in
    let same_at : total - length (tree_bytes i.tree ++ rest) ≡ at = omega arith in
    let same_next : total - length later ≡ at + length (item_bytes i) = omega arith in
    let turn : read_commands limit total (suc n) (tree_bytes i.tree ++ rest) ≡ (read_commands limit total n (drop (next_command rest) rest) >>= λ later_spans. Ok (span (total - length (tree_bytes i.tree ++ rest)) (total - length rest) ∷ later_spans)) = one_turn limit total n (tree_bytes i.tree ++ rest) rest (omega arith) again.command in
    let inner = commands_again limit total n items (All-tail (IsItem limit) i items all) (omega arith) (omega arith) in
    ap (read_commands limit total (suc n)) shape ∙ turn
    ∙ ap (λ (u : Text). read_commands limit total n u >>= λ later_spans. Ok (span (total - length (tree_bytes i.tree ++ rest)) (total - length rest) ∷ later_spans)) dropped
    ∙ ap (λ (m : Result (List Span) Halt). m >>= λ later_spans. Ok (span (total - length (tree_bytes i.tree ++ rest)) (total - length rest) ∷ later_spans)) inner
    ∙ ap (λ (p : Span). Ok (p ∷ spans_from (total - length later) items)) (λ j. span (same_at j) (same_end j))
    ∙ ap (λ (m : ℕ). Ok (span at (at + length (tree_bytes i.tree)) ∷ spans_from m items)) same_next

-- a text with a reading is read, with the layout of the reading
pub reading_again : (limit : ℕ) (t : Text) (db : Reading) → ReadsWithin limit t db → (read_all_commands limit t ≡ Ok (places_of db).items) × (next_command t ≡ length db.front)
reading_again limit t db r =
    let later : Text = flat_map item_bytes db.items in
    let next = items_next limit db.items r.items in
    let front : next_command (bytes_of db) ≡ length db.front = next_again db.front later r.front next in
    let dropped : drop (next_command (bytes_of db)) (bytes_of db) ≡ later = drop_at db.front later _ (sym front) in
    let l = length-append db.front later in
    let inner = commands_again limit (length (bytes_of db)) (length (bytes_of db) + 1) db.items r.items (omega arith) (omega arith) in
    let place : length (bytes_of db) - length later ≡ length db.front = omega arith in
    let read : read_all_commands limit (bytes_of db) ≡ Ok (places_of db).items =
    ap (read_commands limit (length (bytes_of db)) (length (bytes_of db) + 1)) dropped ∙ inner ∙ ap (λ (n : ℕ). Ok (spans_from n db.items)) place ∙ ap Ok (spans_all db) in
    (ap (read_all_commands limit) (sym r.bytes) ∙ read, ap next_command (sym r.bytes) ∙ front)
