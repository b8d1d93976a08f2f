-- The pieces of edits of macros are tokens with the new bytes, and maybe a removal or an insertion.
use Rattle.bib_edit.proofs.Words.{◌≡◌, ℕ, ◌+◌, ◌*◌, Bool, true, false, List, [], ◌∷◌, ◌++◌, Option, Some, None, option_map, if◌then◌else◌, codes, length, map, drop, count_by, refl, sym, ◌∙◌, ap, ap₂, arith, append_assoc, append-nil, length-append, AllByRecursion, cond-true, cond-false}
use Rattle.bib_edit.proofs.Words.{false_from_ne_true, same_Some, equals_sign, Text, same, Part, Braced, Quoted, Digits, Macro, Definition, Tree, CommentTree, DefinitionTree, PreambleTree, EntryTree, part_bytes, opening_bytes, close_byte, tree_bytes, Item, Reading, item_bytes, Record, Piece, Chunk}
use Rattle.bib_edit.proofs.Words.{Kept, Replaced, pieces_from, RenameMacro, InlineMacro, IntroduceMacro, leaving, defines, uses, holds, any_part, name_renamed, use_renamed, use_inlined, part_introduced, text_of_macro, definition_of, in_line, definitions, token, value_chunks, tree_chunks}
use Rattle.bib_edit.proofs.Words.{item_chunks, items_chunks, pieces_of, inserted, count-yes, count-no, start_of, option_map_or, first_item, IsDefinitionAt, name_token, braced, definition_text, items_placed, tokens_of, replaced_by, covered, removal_of, insertion_of, olds_len, news_len}
use Rattle.bib_scan.proofs.ReadingLaws.{start_more}
use Rattle.bib_edit.proofs.FirstItems.{IsFirstItem, found_first, item-first}
use Rattle.bib_edit.proofs.TokenPieces.{pieces-items, from-first, after-first, pieces-first}
use Rattle.bib_edit.proofs.DefinedNames.{definition_item}

-- ---- what becomes of parts

map_if : (b : Bool) (q : Part) → option_map part_bytes (if b then Some q else None) ≡ (if b then Some (part_bytes q) else None)
map_if true q = refl
map_if false q = refl

renamed-becomes : (from to : Text) (p : Part) → option_map part_bytes (use_renamed from to p) ≡ (if uses from p then Some to else None)
renamed-becomes from to (Macro name) = map_if (same name from) (Macro to)
renamed-becomes from to (Braced t) = refl
renamed-becomes from to (Quoted t) = refl
renamed-becomes from to (Digits t) = refl

inlined-becomes : (name text : Text) (p : Part) → option_map part_bytes (use_inlined name text p) ≡ (if uses name p then Some (braced text) else None)
inlined-becomes name text (Macro used) = map_if (same used name) (Braced text)
inlined-becomes name text (Braced t) = refl
inlined-becomes name text (Quoted t) = refl
inlined-becomes name text (Digits t) = refl

introduced-becomes : (name text : Text) (p : Part) → option_map part_bytes (part_introduced name text p) ≡ (if holds text p then Some name else None)
introduced-becomes name text p = map_if (holds text p) (Macro name)

-- ---- a macro renamed

module _ (from to : Text) where
  abbrev names : Text → Option Text
  names = name_renamed from to

  abbrev parts : Part → Option Part
  parts = use_renamed from to

  abbrev with_name : Definition → Option Text → List Chunk
  with_name d o =
      Kept (opening_bytes d.opening)
      ∷ ((token d.assignment.name o ∷ Kept (d.assignment.space_before_equals ++ equals_sign ∷ d.assignment.space_before_value) ∷ (value_chunks parts d.assignment.value ++ Kept d.assignment.space_after ∷ []))
      ++ Kept (close_byte d.opening.delimiter ∷ []) ∷ [])

  tree_left : (tree : Tree) → defines from tree ≡ false → tree_chunks names parts tree ≡ tree_chunks leaving parts tree
  tree_left (CommentTree h) none = refl
  tree_left (PreambleTree p) none = refl
  tree_left (EntryTree e) none = refl
  tree_left (DefinitionTree d) none = ap (with_name d) (cond-false (same d.assignment.name from) (Some to) None none)

  abbrev count : List Item → ℕ
  count items = count_by (λ item. defines from item.tree) items

  undefined : (item : Item) (items : List Item) → count (item ∷ items) ≡ 0 → defines from item.tree ≡ false
  undefined item items none = false_from_ne_true (defines from item.tree) (λ e. let c = count-yes (λ item. defines from item.tree) item items e in absurd (omega (arith, c, none)))

  items_left : (items : List Item) → count items ≡ 0 → items_chunks names parts items ≡ items_chunks leaving parts items
  items_left [] none = refl
  items_left (item ∷ items) none =
      let this = undefined item items none in
      ap₂ (λ (l m : List Chunk). (l ++ Kept item.trail ∷ []) ++ m) (tree_left item.tree this) (items_left items (sym (count-no (λ item. defines from item.tree) item items this) ∙ none))

  none_beyond : (before : List Item) (item : Item) (after : List Item) → AllByRecursion (λ i. defines from i.tree ≡ false) before → defines from item.tree ≡ true → count (before ++ item ∷ after) ≡ 1 → count after ≡ 0
  none_beyond [] item after none passes once = let c = count-yes (λ item. defines from item.tree) item after passes in omega (arith, c, once)
  none_beyond (x ∷ before) item after none passes once =
      none_beyond before item after none.1 passes (sym (count-no (λ item. defines from item.tree) x (before ++ item ∷ after) none.0) ∙ once)

  defined_piece : (at : ℕ) (d : Definition) (rest : List Chunk) → same d.assignment.name from ≡ true →
      pieces_from at (tree_chunks names parts (DefinitionTree d) ++ rest) ≡ replaced_by to (name_token at d) ∷ pieces_from at (tree_chunks leaving parts (DefinitionTree d) ++ rest)
  defined_piece at d rest e = ap (λ o. pieces_from at (with_name d o ++ rest)) (cond-true (same d.assignment.name from) (Some to) None e)

  item_piece : (at : ℕ) (d : Definition) (trail : Text) (rest : List Chunk) → same d.assignment.name from ≡ true →
      pieces_from at (item_chunks names parts (definition_item d trail) ++ rest) ≡ replaced_by to (name_token at d) ∷ pieces_from at (item_chunks leaving parts (definition_item d trail) ++ rest)
  item_piece at d trail rest e =
      ap (pieces_from at) (append_assoc (tree_chunks names parts (DefinitionTree d)) (Kept trail ∷ []) rest)
      ∙ defined_piece at d (Kept trail ∷ rest) e
      ∙ ap (λ l. replaced_by to (name_token at d) ∷ pieces_from at l) (sym (append_assoc (tree_chunks leaving parts (DefinitionTree d)) (Kept trail ∷ []) rest))

  -- the name in the definition, and the uses from there on
  pub renamed-pieces : (base : Record → Text) (db : Reading) (n : ℕ) → first_item (defines from) db.items ≡ Some n → definitions from db ≡ 1 → (d : Definition) → IsDefinitionAt db.items n d → same d.assignment.name from ≡ true →
      pieces_of base db (RenameMacro from to) ≡ map (replaced_by to) (name_token (start_of db n) d ∷ tokens_of (uses from) (items_placed (start_of db n) (drop n db.items)))
  renamed-pieces base db n found once d at e =
      let first : IsFirstItem (defines from) db.items n = found_first (defines from) db.items n found in
      let start : ℕ = start_of db n in
      let it : first.item ≡ definition_item d at.0 = same_Some first.item (definition_item d at.0) (sym (item-first (defines from) db.items n first) ∙ at.1) in
      let none : count first.after ≡ 0 = none_beyond first.before first.item first.after first.none first.passes (sym (ap count first.is) ∙ once) in
      pieces-first (defines from) db n first (λ item items. items_chunks names parts (item ∷ items))
      ∙ ap₂ (λ (i : Item) (l : List Chunk). pieces_from start (item_chunks names parts i ++ l)) it (items_left first.after none)
      ∙ item_piece start d at.0 (items_chunks leaving parts first.after) e
      ∙ ap (λ l. replaced_by to (name_token start d) ∷ l)
      (ap (λ (i : Item). pieces_from start (items_chunks leaving parts (i ∷ first.after))) (sym it)
      ∙ pieces-items (uses from) parts to (renamed-becomes from to) start (first.item ∷ first.after)
      ∙ ap (λ l. map (replaced_by to) (tokens_of (uses from) (items_placed start l))) (sym (from-first (defines from) db n first)))

-- ---- lengths

pub olds-tokens : (new : Text) (tokens : List (ℕ × Text)) → olds_len (map (replaced_by new) tokens) ≡ covered tokens
olds-tokens new [] = refl
olds-tokens new (t ∷ tokens) = ap (λ n. length t.1 + n) (olds-tokens new tokens)

pub news-tokens : (new : Text) (tokens : List (ℕ × Text)) → news_len (map (replaced_by new) tokens) ≡ length tokens * length new
news-tokens new [] = omega arith
news-tokens new (t ∷ tokens) = let rest = news-tokens new tokens in omega (arith, rest)

-- ---- a macro inlined

-- the definition goes, and its text in braces stands for each use after it
pub inlined-pieces : (base : Record → Text) (db : Reading) (name : Text) (n : ℕ) → first_item (defines name) db.items ≡ Some n →
    pieces_of base db (InlineMacro name) ≡ removal_of db n ∷ map (replaced_by (braced (text_of_macro name db))) (tokens_of (uses name) (items_placed (start_of db (n + 1)) (drop (n + 1) db.items)))
inlined-pieces base db name n found =
    let first : IsFirstItem (defines name) db.items n = found_first (defines name) db.items n found in
    let text : Text = text_of_macro name db in
    let start : ℕ = start_of db n in
    let at = item-first (defines name) db.items n first in
    let rest : drop (n + 1) db.items ≡ first.after = after-first (defines name) db n first in
    let next : start + length (tree_bytes first.item.tree) + length first.item.trail ≡ start_of db (n + 1) =
    (let further = start_more db n first.item first.after (from-first (defines name) db n first) in omega (arith, further, length-append (tree_bytes first.item.tree) first.item.trail)) in
    pieces-first (defines name) db n first (λ item items. Replaced (tree_bytes item.tree) [] ∷ Kept item.trail ∷ items_chunks leaving (use_inlined name text) items)
    ∙ ap₂ (λ (body : Text) (l : List Piece). record { place = start; old = body; new = [] } ∷ l)
    (sym (ap (λ o. option_map_or (λ item. tree_bytes item.tree) o []) at))
    (pieces-items (uses name) (use_inlined name text) (braced text) (inlined-becomes name text) (start + length (tree_bytes first.item.tree) + length first.item.trail) first.after
    ∙ ap₂ (λ (k : ℕ) (l : List Item). map (replaced_by (braced text)) (tokens_of (uses name) (items_placed k l))) next (sym rest))

-- ---- a macro introduced

line_parts : (p n a b v c d : Text) → ((p ++ (((n ++ a) ++ b) ++ v)) ++ c) ++ d ≡ (((p ++ n) ++ (a ++ b)) ++ v) ++ (c ++ d)
line_parts p n a b v c d = simp append_assoc

definition_line : (name text : Text) → item_bytes (in_line (DefinitionTree (definition_of name text))) ≡ definition_text name text
definition_line name text =
    ap (λ (v : Text). ((codes "@string{" ++ ((((name ++ codes " ") ++ codes "= ") ++ v) ++ [])) ++ codes "}") ++ codes "\n") (append-nil (braced text))
    ∙ ap (λ (t : Text). ((codes "@string{" ++ t) ++ codes "}") ++ codes "\n") (append-nil (((name ++ codes " ") ++ codes "= ") ++ braced text))
    ∙ line_parts (codes "@string{") name (codes " ") (codes "= ") (braced text) (codes "}") (codes "\n")

-- the definition is put before the first item that has the text, and its name stands for the text from there on
pub introduced-pieces : (base : Record → Text) (db : Reading) (name text : Text) (n : ℕ) → first_item (any_part (holds text)) db.items ≡ Some n →
    pieces_of base db (IntroduceMacro name text) ≡ insertion_of db n (definition_text name text) ∷ map (replaced_by name) (tokens_of (holds text) (items_placed (start_of db n) (drop n db.items)))
introduced-pieces base db name text n found =
    let first : IsFirstItem (any_part (holds text)) db.items n = found_first (any_part (holds text)) db.items n found in
    let start : ℕ = start_of db n in
    pieces-first (any_part (holds text)) db n first (λ item items. inserted (in_line (DefinitionTree (definition_of name text))) ++ items_chunks leaving (part_introduced name text) (item ∷ items))
    ∙ ap₂ (λ (line : Text) (l : List Piece). record { place = start; old = []; new = line } ∷ l)
    (definition_line name text)
    (ap (λ k. pieces_from k (items_chunks leaving (part_introduced name text) (first.item ∷ first.after))) (omega arith)
    ∙ pieces-items (holds text) (part_introduced name text) name (introduced-becomes name text) start (first.item ∷ first.after)
    ∙ ap (λ l. map (replaced_by name) (tokens_of (holds text) (items_placed start l))) (sym (from-first (any_part (holds text)) db n first)))
