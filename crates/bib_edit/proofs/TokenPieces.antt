-- The pieces of a change of parts are its tokens, with the new bytes for each.
use Rattle.bib_edit.proofs.Words.{◌≡◌, ℕ, suc, ◌+◌, Bool, List, [], ◌∷◌, ◌++◌, Option, Some, None, option_map, if◌then◌else◌, length, map, drop, ⊎_elim, refl, sym, ◌∙◌, ap, ap₂, subst, arith, zero-add, append_assoc, append-nil, length-append, flat_map, cases_Bool, cond-true, cond-false, map-append}
use Rattle.bib_edit.proofs.Words.{hash, comma, equals_sign, Text, Part, Link, Value, Assignment, Row, Tree, CommentTree, DefinitionTree, PreambleTree, EntryTree, part_bytes, link_bytes, value_bytes, assignment_bytes, row_bytes, opening_bytes, close_byte, last_comma_bytes, tree_bytes, Item, Reading}
use Rattle.bib_edit.proofs.Words.{item_bytes, row_start, bytes_before_value, Piece, Chunk, Kept, pieces_from, pieces_of_chunks, leaving, token, part_token, link_chunks, value_chunks, assignment_chunks, row_chunks, after_rows, tree_chunks, item_chunks, items_chunks, chunks_from_first, kept_items}
use Rattle.bib_edit.proofs.Words.{start_of, links_placed, value_placed, rows_placed, tree_placed, items_placed, tokens_of, replaced_by, tokens-append}
use Rattle.bib_tokens.proofs.PlacedValues.{tokens-met, tokens-unmet}
use Rattle.bib_edit.proofs.PieceLists.{pieces-after_items}
use Rattle.bib_edit.proofs.FirstItems.{IsFirstItem, chunks-first, start-first}

module _ (test : Part → Bool) (parts : Part → Option Part) (new : Text) where
  -- the parts that pass the test become the new bytes, and the others stay
  abbrev pub Becomes : Type 0
  Becomes = (p : Part) → option_map part_bytes (parts p) ≡ (if test p then Some new else None)

  -- chunks that begin at this place have this length, and their pieces are the tokens of these parts
  abbrev pub HasTokens : ℕ → List Chunk → List (ℕ × Part) → ℕ → Type 0
  HasTokens at chunks placed len = (rest : List Chunk) → pieces_from at (chunks ++ rest) ≡ map (replaced_by new) (tokens_of test placed) ++ pieces_from (at + len) rest

  has-none : (at : ℕ) → HasTokens at [] [] 0
  has-none at rest = ap (λ k. pieces_from k rest) (omega arith)

  has-len : (at : ℕ) (chunks : List Chunk) (placed : List (ℕ × Part)) (m n : ℕ) → m ≡ n → HasTokens at chunks placed m → HasTokens at chunks placed n
  has-len at chunks placed m n e h = subst (HasTokens at chunks placed) e h

  has-both : (at : ℕ) (xs ys : List Chunk) (ps qs : List (ℕ × Part)) (m n : ℕ) → HasTokens at xs ps m → HasTokens (at + m) ys qs n → HasTokens at (xs ++ ys) (ps ++ qs) (m + n)
  has-both at xs ys ps qs m n h k rest =
      ap (pieces_from at) (append_assoc xs ys rest) ∙ h (ys ++ rest)
      ∙ ap (λ l. map (replaced_by new) (tokens_of test ps) ++ l) (k rest)
      ∙ sym (append_assoc (map (replaced_by new) (tokens_of test ps)) (map (replaced_by new) (tokens_of test qs)) (pieces_from (at + m + n) rest))
      ∙ ap₂ (λ (l : List Piece) (j : ℕ). l ++ pieces_from j rest)
      (sym (ap (map (replaced_by new)) (tokens-append test ps qs) ∙ map-append (replaced_by new) (tokens_of test ps) (tokens_of test qs))) (omega arith)

  has-before : (at : ℕ) (t : Text) (xs : List Chunk) (ps : List (ℕ × Part)) (m : ℕ) → HasTokens (at + length t) xs ps m → HasTokens at (Kept t ∷ xs) ps (length t + m)
  has-before at t xs ps m h rest = h rest ∙ ap (λ j. map (replaced_by new) (tokens_of test ps) ++ pieces_from j rest) (omega arith)

  has-after : (at : ℕ) (xs : List Chunk) (t : Text) (ps : List (ℕ × Part)) (m : ℕ) → HasTokens at xs ps m → HasTokens at (xs ++ Kept t ∷ []) ps (m + length t)
  has-after at xs t ps m h rest =
      ap (pieces_from at) (append_assoc xs (Kept t ∷ []) rest) ∙ h (Kept t ∷ rest) ∙ ap (λ j. map (replaced_by new) (tokens_of test ps) ++ pieces_from j rest) (omega arith)

  module _ (becomes : Becomes) where
    has-part : (at : ℕ) (p : Part) → HasTokens at (part_token parts p ∷ []) ((at, p) ∷ []) (length (part_bytes p))
    has-part at p rest = ⊎_elim
        (λ t. ap (λ o. pieces_from at (token (part_bytes p) o ∷ rest)) (becomes p ∙ cond-true (test p) (Some new) None t)
        ∙ sym (ap (λ l. map (replaced_by new) l ++ pieces_from (at + length (part_bytes p)) rest) (tokens-met test (at, p) [] t)))
        (λ t. ap (λ o. pieces_from at (token (part_bytes p) o ∷ rest)) (becomes p ∙ cond-false (test p) (Some new) None t)
        ∙ sym (ap (λ l. map (replaced_by new) l ++ pieces_from (at + length (part_bytes p)) rest) (tokens-unmet test (at, p) [] t)))
        (cases_Bool (test p))

    has-link : (at : ℕ) (l : Link) → HasTokens at (link_chunks parts l) ((at + length (l.space_before_hash ++ hash ∷ l.space_after_hash), l.part) ∷ []) (length (link_bytes l))
    has-link at l =
        let s : Text = l.space_before_hash ++ hash ∷ l.space_after_hash in
        has-len at (link_chunks parts l) ((at + length s, l.part) ∷ []) (length s + length (part_bytes l.part)) (length (link_bytes l)) (sym (length-append s (part_bytes l.part)))
        (has-before at s (part_token parts l.part ∷ []) ((at + length s, l.part) ∷ []) (length (part_bytes l.part)) (has-part (at + length s) l.part))

    has-links : (at : ℕ) (ls : List Link) → HasTokens at (flat_map (link_chunks parts) ls) (links_placed at ls) (length (flat_map link_bytes ls))
    has-links at [] = has-none at
    has-links at (l ∷ ls) =
        let s : Text = l.space_before_hash ++ hash ∷ l.space_after_hash in
        has-len at (flat_map (link_chunks parts) (l ∷ ls)) (links_placed at (l ∷ ls)) (length (link_bytes l) + length (flat_map link_bytes ls)) (length (flat_map link_bytes (l ∷ ls))) (sym (length-append (link_bytes l) (flat_map link_bytes ls)))
        (has-both at (link_chunks parts l) (flat_map (link_chunks parts) ls) ((at + length s, l.part) ∷ []) (links_placed (at + length (link_bytes l)) ls) (length (link_bytes l)) (length (flat_map link_bytes ls))
        (has-link at l) (has-links (at + length (link_bytes l)) ls))

    has-value : (at place : ℕ) (v : Value) → at ≡ place → HasTokens at (value_chunks parts v) (value_placed place v) (length (value_bytes v))
    has-value at place v e =
        subst (λ (k : ℕ). HasTokens at (value_chunks parts v) (value_placed k v) (length (value_bytes v))) e
        (has-len at (value_chunks parts v) (value_placed at v) (length (part_bytes v.first) + length (flat_map link_bytes v.links)) (length (value_bytes v)) (sym (length-append (part_bytes v.first) (flat_map link_bytes v.links)))
        (has-both at (part_token parts v.first ∷ []) (flat_map (link_chunks parts) v.links) ((at, v.first) ∷ []) (links_placed (at + length (part_bytes v.first)) v.links) (length (part_bytes v.first)) (length (flat_map link_bytes v.links))
        (has-part at v.first) (has-links (at + length (part_bytes v.first)) v.links)))

    has-assignment : (at place : ℕ) (a : Assignment) → at + length (bytes_before_value a) ≡ place → HasTokens at (assignment_chunks leaving parts a) (value_placed place a.value) (length (assignment_bytes a))
    has-assignment at place a e =
        let n : Text = a.name in
        let x : Text = a.space_before_equals ++ equals_sign ∷ a.space_before_value in
        let v : Text = value_bytes a.value in
        let b : Text = a.space_after in
        has-len at (assignment_chunks leaving parts a) (value_placed place a.value) (length n + (length x + (length v + length b))) (length (assignment_bytes a))
        (sym (ap (length {A = ℕ}) (assignment_parts n a.space_before_equals (equals_sign ∷ a.space_before_value) v b) ∙ length_four n x v b))
        (has-before at n (Kept x ∷ (value_chunks parts a.value ++ Kept b ∷ [])) (value_placed place a.value) (length x + (length v + length b))
        (has-before (at + length n) x (value_chunks parts a.value ++ Kept b ∷ []) (value_placed place a.value) (length v + length b)
        (has-after (at + length n + length x) (value_chunks parts a.value) b (value_placed place a.value) (length v)
        (has-value (at + length n + length x) place a.value (let l = length-append n x in omega (arith, e, l))))))
      where
        assignment_parts : (n s e v b : Text) → (((n ++ s) ++ e) ++ v) ++ b ≡ n ++ ((s ++ e) ++ (v ++ b))
        assignment_parts n s e v b = simp append_assoc

        length_four : (n x v b : Text) → length (n ++ (x ++ (v ++ b))) ≡ length n + (length x + (length v + length b))
        length_four n x v b = omega (arith, length-append n (x ++ (v ++ b)), length-append x (v ++ b), length-append v b)

    has-row : (at : ℕ) (row : Row) → HasTokens at (row_chunks parts row) (value_placed (at + length (row_start row)) row.assignment.value) (length (row_bytes row))
    has-row at row =
        let c : Text = comma ∷ row.space_before_name in
        has-len at (row_chunks parts row) (value_placed (at + length (row_start row)) row.assignment.value) (length c + length (assignment_bytes row.assignment)) (length (row_bytes row)) (sym (length-append c (assignment_bytes row.assignment)))
        (has-before at c (assignment_chunks leaving parts row.assignment) (value_placed (at + length (row_start row)) row.assignment.value) (length (assignment_bytes row.assignment))
        (has-assignment (at + length c) (at + length (row_start row)) row.assignment (let l = length-append c (bytes_before_value row.assignment) in omega (arith, l))))

    has-rows : (at : ℕ) (rows : List Row) → HasTokens at (flat_map (row_chunks parts) rows) (rows_placed at rows) (length (flat_map row_bytes rows))
    has-rows at [] = has-none at
    has-rows at (row ∷ rows) =
        has-len at (flat_map (row_chunks parts) (row ∷ rows)) (rows_placed at (row ∷ rows)) (length (row_bytes row) + length (flat_map row_bytes rows)) (length (flat_map row_bytes (row ∷ rows))) (sym (length-append (row_bytes row) (flat_map row_bytes rows)))
        (has-both at (row_chunks parts row) (flat_map (row_chunks parts) rows) (value_placed (at + length (row_start row)) row.assignment.value) (rows_placed (at + length (row_bytes row)) rows) (length (row_bytes row)) (length (flat_map row_bytes rows))
        (has-row at row) (has-rows (at + length (row_bytes row)) rows))

    has-tree : (at : ℕ) (tree : Tree) → HasTokens at (tree_chunks leaving parts tree) (tree_placed at tree) (length (tree_bytes tree))
    has-tree at (CommentTree h) = λ rest. refl
    has-tree at (DefinitionTree d) =
        let o : Text = opening_bytes d.opening in
        let a : Text = assignment_bytes d.assignment in
        let c : Text = close_byte d.opening.delimiter ∷ [] in
        let place : ℕ = at + length (o ++ bytes_before_value d.assignment) in
        has-len at (tree_chunks leaving parts (DefinitionTree d)) (value_placed place d.assignment.value) (length o + (length a + length c)) (length (tree_bytes (DefinitionTree d)))
        (let l = length-append (o ++ a) c in let m = length-append o a in omega (arith, l, m))
        (has-before at o (assignment_chunks leaving parts d.assignment ++ Kept c ∷ []) (value_placed place d.assignment.value) (length a + length c)
        (has-after (at + length o) (assignment_chunks leaving parts d.assignment) c (value_placed place d.assignment.value) (length a)
        (has-assignment (at + length o) place d.assignment (let l = length-append o (bytes_before_value d.assignment) in omega (arith, l)))))
    has-tree at (PreambleTree p) =
        let o : Text = opening_bytes p.opening in
        let v : Text = value_bytes p.value in
        let c : Text = p.space_after ++ close_byte p.opening.delimiter ∷ [] in
        has-len at (tree_chunks leaving parts (PreambleTree p)) (value_placed (at + length o) p.value) (length o + (length v + length c)) (length (tree_bytes (PreambleTree p)))
        (let l = length-append ((o ++ v) ++ p.space_after) (close_byte p.opening.delimiter ∷ []) in let m = length-append (o ++ v) p.space_after in let n = length-append o v in let k = length-append p.space_after (close_byte p.opening.delimiter ∷ []) in omega (arith, l, m, n, k))
        (has-before at o (value_chunks parts p.value ++ Kept c ∷ []) (value_placed (at + length o) p.value) (length v + length c)
        (has-after (at + length o) (value_chunks parts p.value) c (value_placed (at + length o) p.value) (length v) (has-value (at + length o) (at + length o) p.value refl)))
    has-tree at (EntryTree e) =
        let o : Text = opening_bytes e.opening in
        let s : Text = e.space_after_key in
        let r : Text = flat_map row_bytes e.rows in
        let c : Text = after_rows e in
        let place : ℕ = at + length (o ++ (e.key ++ s)) in
        let lo = length-append o (e.key ++ s) in
        let lk = length-append e.key s in
        has-len at (tree_chunks leaving parts (EntryTree e)) (rows_placed place e.rows) (length o + (length e.key + (length s + length r + length c))) (length (tree_bytes (EntryTree e)))
        (sym (ap (length {A = ℕ}) (entry_parts o e.key s r (last_comma_bytes e.last_comma) (close_byte e.opening.delimiter ∷ [])) ∙ entry_length o e.key s r c))
        (has-before at o (Kept e.key ∷ ((Kept s ∷ flat_map (row_chunks parts) e.rows) ++ Kept c ∷ [])) (rows_placed place e.rows) (length e.key + (length s + length r + length c))
        (has-before (at + length o) e.key ((Kept s ∷ flat_map (row_chunks parts) e.rows) ++ Kept c ∷ []) (rows_placed place e.rows) (length s + length r + length c)
        (has-after (at + length o + length e.key) (Kept s ∷ flat_map (row_chunks parts) e.rows) c (rows_placed place e.rows) (length s + length r)
        (has-before (at + length o + length e.key) s (flat_map (row_chunks parts) e.rows) (rows_placed place e.rows) (length r)
        (subst (λ (k : ℕ). HasTokens k (flat_map (row_chunks parts) e.rows) (rows_placed place e.rows) (length r)) (omega (arith, lo, lk)) (has-rows place e.rows))))))
      where
        entry_parts : (o k s r l c : Text) → (o ++ k) ++ (((s ++ r) ++ l) ++ c) ≡ o ++ (k ++ ((s ++ r) ++ (l ++ c)))
        entry_parts o k s r l c = simp append_assoc

        entry_length : (o k s r c : Text) → length (o ++ (k ++ ((s ++ r) ++ c))) ≡ length o + (length k + (length s + length r + length c))
        entry_length o k s r c = omega (arith, length-append o (k ++ ((s ++ r) ++ c)), length-append k ((s ++ r) ++ c), length-append (s ++ r) c, length-append s r)

    has-items : (at : ℕ) (items : List Item) → HasTokens at (items_chunks leaving parts items) (items_placed at items) (length (flat_map item_bytes items))
    has-items at [] = has-none at
    has-items at (item ∷ items) =
        has-len at (items_chunks leaving parts (item ∷ items)) (items_placed at (item ∷ items)) (length (item_bytes item) + length (flat_map item_bytes items)) (length (flat_map item_bytes (item ∷ items))) (sym (length-append (item_bytes item) (flat_map item_bytes items)))
        (has-both at (item_chunks leaving parts item) (items_chunks leaving parts items) (tree_placed at item.tree) (items_placed (at + length (item_bytes item)) items) (length (item_bytes item)) (length (flat_map item_bytes items))
        (has-len at (item_chunks leaving parts item) (tree_placed at item.tree) (length (tree_bytes item.tree) + length item.trail) (length (item_bytes item)) (sym (length-append (tree_bytes item.tree) item.trail))
        (has-after at (tree_chunks leaving parts item.tree) item.trail (tree_placed at item.tree) (length (tree_bytes item.tree)) (has-tree at item.tree)))
        (has-items (at + length (item_bytes item)) items))

    -- the pieces of items that begin at this place
    pub pieces-items : (at : ℕ) (items : List Item) → pieces_from at (items_chunks leaving parts items) ≡ map (replaced_by new) (tokens_of test (items_placed at items))
    pieces-items at items = ap (pieces_from at) (sym (append-nil (items_chunks leaving parts items))) ∙ has-items at items [] ∙ append-nil (map (replaced_by new) (tokens_of test (items_placed at items)))

-- ---- from the first item that passes a test on

beyond_at : (before : List Item) (item : Item) (after : List Item) → drop (length before) (before ++ item ∷ after) ≡ item ∷ after
beyond_at [] item after = refl
beyond_at (x ∷ before) item after = beyond_at before item after

past_at : (before : List Item) (item : Item) (after : List Item) → drop (suc (length before)) (before ++ item ∷ after) ≡ after
past_at [] item after = refl
past_at (x ∷ before) item after = past_at before item after

module _ (test : Tree → Bool) (db : Reading) (n : ℕ) (first : IsFirstItem test db.items n) where
  pub from-first : drop n db.items ≡ first.item ∷ first.after
  from-first = ap₂ drop (sym first.number) first.is ∙ beyond_at first.before first.item first.after

  pub pieces-first : (change : Item → List Item → List Chunk) → pieces_of_chunks (Kept db.front ∷ chunks_from_first test change db.items) ≡ pieces_from (start_of db n) (change first.item first.after)
  pieces-first change =
      ap (λ l. pieces_from (0 + length db.front) l) (chunks-first test change db.items n first)
      ∙ ap (λ k. pieces_from k (kept_items first.before ++ change first.item first.after)) (zero-add (length db.front))
      ∙ pieces-after_items (length db.front) first.before (change first.item first.after)
      ∙ ap (λ k. pieces_from k (change first.item first.after)) (sym (start-first test db n first))

  pub after-first : drop (n + 1) db.items ≡ first.after
  after-first = let number = first.number in let next : n + 1 ≡ suc (length first.before) = omega (arith, number) in ap₂ drop next first.is ∙ past_at first.before first.item first.after
