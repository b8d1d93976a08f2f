-- Why giving one definition of a macro among several a value is refused, and that it is not; and the one piece that it is.
use Rattle.std.proofs.Common.{false}
use Rattle.bib_edit.proofs.Words.{◌≡◌, ℕ, zero, suc, ◌≤◌, true, List, [], ◌∷◌, Some, None, is_some, slice_get, length, take, drop, sym, ◌∙◌, ap, subst, zero-add, true≢false, option_map_or, none-some, same_Some, or_parts, or_from, All-nil, All-cons, All-head, All-tail, name_limit, Text, is_name, Value, Definition, DefinitionTree, value_bytes, IsValue, IsValueWithin, Item, IsItem, Reading, Reads, bytes_of, IsOpenable}
use Rattle.bib_edit.proofs.Words.{Macros, months, macros_at, macros_after, too_long_at, have_part, uses, defines, BadKey, BadName, BadValue, BadPosition, NotFound, Ambiguous, KeyInUse, NameInUse, Referred, WouldMerge, Fit, file_limit, olds_len, Edit, IsFirstRefusal, pieces_of, Spells, Piece, Chunk, Kept, pieces_from, pieces_of_chunks, kept_items, start_of}
use Rattle.bib_edit.proofs.Words.{OfReading, made_base, IsDefinitionAt}
use Rattle.edit_spec.specs.Edits.{ChangeDefinition, SetsValue, definition_meant, definition_changed, change_definition, definition_to, with_tree_at}
use Rattle.edit_spec.specs.EditChunks.{body_and_rest, chunks_from, definition_chunks, definition_chunked}
use Rattle.edit_spec.proofs.EditedItems.{AreItems, made_reads, item_as}
use Rattle.edit_spec.proofs.SetMacro.{definition_to-is, comment-definition_to}
use Rattle.bib_spec.specs.Pieces.{applied}
use Rattle.bib_value.specs.Raw.{OfValue}
use Rattle.bib_edit.specs.MacroValues.{value_piece, MakeShortFile, StaysShort, MakeOpenFile, IsLengthFault, long_file, long_text, no_memory}
use Rattle.bib_edit.specs.OneOfSeveral.{ArePiecesFor, IsAllowedFor, IsRefusalFor, OfSpelled}
use Rattle.bib_edit.specs.declared.fault.EditFault.{EditFault as Fault}
use Rattle.bib_edit.specs.declared.fault.EditFault.TheVariants as fault
use Rattle.bib_edit.proofs.PieceLists.{pieces-after_items, pieces-before_items}
use Rattle.bib_edit.proofs.LongTexts.{is_long, any_long, too_long-any}
use Rattle.bib_edit.proofs.PlacedTexts.{is_long_in}
use Rattle.bib_edit.proofs.UnusedValues.{said, valued-short}
use Rattle.bib_edit.proofs.MeantItems.{item_at, chunks-at}
use Rattle.bib_edit.proofs.MeantDefinitions.{meant-definition, definitions-few, definitions-many}
use Rattle.bib_edit.proofs.TriedPieces.{tried-fit, tried-goes, tried-opens, tried-refused, tried-accepted}
use Rattle.bib_edit.proofs.OpenFiles.{none-long}
use Rattle.bib_edit.proofs.AskedEdits.{some_value}
use Rattle.bib_edit.proofs.GivenNames.{and_name}
use Rattle.bib_edit.proofs.Ranks.{Passes, no_reason, more, is_first}

-- ---- the definition has the value

module _ (v : Value) where
  abbrev set_at : ℕ → List Item → List Item
  set_at n items = with_tree_at n (definition_to v) items

  set-are : IsValue name_limit v → (n : ℕ) (items : List Item) → AreItems items → AreItems (set_at n items)
  set-are valued n [] are = All-nil (IsItem name_limit)
  set-are valued zero (item ∷ items) are =
      let is = All-head (IsItem name_limit) item items are in
      All-cons (IsItem name_limit) (record item { tree = definition_to v item.tree }) items
      (item_as item (definition_to v item.tree) is (definition_to-is v valued item.tree is.tree) (comment-definition_to v item.tree))
      (All-tail (IsItem name_limit) item items are)
  set-are valued (suc n) (item ∷ items) are =
      All-cons (IsItem name_limit) item (set_at n items) (All-head (IsItem name_limit) item items are) (set-are valued n items (All-tail (IsItem name_limit) item items are))

  -- no raw text becomes too long, if that of the value is short and no later item uses the macro
  set-short_at : (name : Text) (m : Macros) (n : ℕ) (items : List Item) (item : Item) → slice_get items n ≡ Some item → defines name item.tree ≡ true → have_part (uses name) (drop (suc n) items) ≡ false →
      is_long (said name v (macros_at m items n)) ≡ false → any_long m items ≡ false → any_long m (set_at n items) ≡ false
  set-short_at name m n [] item at e none short all = absurd (none-some item at)
  set-short_at name m zero (first ∷ items) item at e none short all =
      valued-short name v m first.tree items (ap (λ (i : Item). defines name i.tree) (same_Some first item at) ∙ e) none short
      (or_parts (is_long_in m first.tree) (any_long (macros_after m first.tree) items) all).1
  set-short_at name m (suc n) (first ∷ items) item at e none short all =
      let both = or_parts (is_long_in m first.tree) (any_long (macros_after m first.tree) items) all in
      or_from (is_long_in m first.tree) (any_long (macros_after m first.tree) (set_at n items)) both.0 (set-short_at name (macros_after m first.tree) n items item at e none short both.1)

-- ---- the definition that is meant

module _ (name : Text) (k : ℕ) (v : Value) (db : Reading) where
  abbrev setting : Edit
  setting = ChangeDefinition name k (SetsValue v)

  module _ (n : ℕ) (found : definition_meant name k db.items ≡ Some n) where
    abbrev new : Reading
    new = record db { items = set_at v n db.items }

    made : change_definition name k (SetsValue v) db ≡ new
    made = ap (λ o. option_map_or (λ n. definition_changed (SetsValue v) n db) o db) found

    set-reads : (file : Text) → Reads file db → IsValue name_limit v → Reads (bytes_of (change_definition name k (SetsValue v) db)) (change_definition name k (SetsValue v) db)
    set-reads file reads valued = subst (λ (r : Reading). Reads (bytes_of r) r) (sym made) (made_reads new reads.front (set-are v valued n db.items reads.items))

    set-short : have_part (uses name) (drop (suc n) db.items) ≡ false → is_long (said name v (macros_at months db.items n)) ≡ false → any_long months db.items ≡ false →
        is_some (too_long_at (change_definition name k (SetsValue v) db)) ≡ false
    set-short none short all =
        let it = meant-definition name k db n found in
        ap (λ (r : Reading). is_some (too_long_at r)) made
        ∙ too_long-any new
        ∙ set-short_at v name months n db.items (item_at (DefinitionTree it.definition) it.trail) it.at it.named none short all

    abbrev change : Item → List Item → List Chunk
    change item items = body_and_rest (definition_chunks v item.tree) item items

    set-piece : (d : Definition) → IsDefinitionAt db.items n d → pieces_of made_base db setting ≡ value_piece (start_of db n) d (value_bytes v) ∷ []
    set-piece d at =
        let after = drop (suc n) db.items in
        let item : Item = item_at (DefinitionTree d) at.0 in
        ap (λ o. pieces_of_chunks (Kept db.front ∷ option_map_or (λ n. definition_chunked (SetsValue v) n db.items) o (kept_items db.items))) found
        ∙ ap (λ k. pieces_from k (chunks_from n change db.items)) (zero-add (length db.front))
        ∙ ap (pieces_from (length db.front)) (chunks-at change n db.items item at.1)
        ∙ pieces-after_items (length db.front) (take n db.items) (change item after)
        ∙ pieces-before_items (start_of db n) (definition_chunks v (DefinitionTree d)) at.0 after

    -- the definition is there, so this is its piece
    set-pieces : (value : Text) → Spells value v → (p : Piece) → ((d : Definition) → IsDefinitionAt db.items n d → p ≡ value_piece (start_of db n) d value) → p ∷ [] ≡ pieces_of made_base db setting
    set-pieces value s p is =
        let it = meant-definition name k db n found in
        ap (λ q. q ∷ []) (is it.definition (it.trail, it.at) ∙ ap (value_piece (start_of db n) it.definition) (sym s.bytes)) ∙ sym (set-piece it.definition (it.trail, it.at))

  -- ---- the reasons in their order

  unnamed : is_name name ≡ false → IsFirstRefusal made_base db setting BadName
  unnamed none = is_first BadName (sym (and_name (is_name name)) ∙ none) (more BadKey (λ h. true≢false h) no_reason)

  module _ (named : is_name name ≡ true) where
    passes_name : Passes made_base db setting 2
    passes_name = more BadName (λ h. true≢false (sym named ∙ and_name (is_name name) ∙ h)) (more BadKey (λ h. true≢false h) no_reason)

    module _ (valued : IsValue name_limit v) where
      passes_given : Passes made_base db setting 4
      passes_given = more BadPosition (λ h. h) (more BadValue (λ h. h (All-cons (IsValue name_limit) v [] valued (All-nil (IsValue name_limit)))) passes_name)

      passes_found : (n : ℕ) → definition_meant name k db.items ≡ Some n → Passes made_base db setting 10
      passes_found n found =
          more WouldMerge (λ h. h)
          (more Referred (λ h. h)
          (more NameInUse (λ h. h)
          (more KeyInUse (λ h. h)
          (more Ambiguous (λ h. h) (more NotFound (definitions-many name k db n found) passes_given)))))

-- ---- as it is planned

module _ (file name value : Text) (k : ℕ) where
  abbrev IsRefused : Fault → Type 0
  IsRefused fault = OfSpelled value (λ v. IsRefusalFor (ChangeDefinition name k (SetsValue v)) file fault)

  pub refused-name : is_name name ≡ false → IsRefused fault.BadName
  refused-name none v s db reads = unnamed name k v db none

  module _ (named : is_name name ≡ true) where
    pub refused-value : (IsValueWithin name_limit value → ⊥) → IsRefused fault.BadValue
    refused-value none v s db reads = is_first BadValue (λ all. none (v, All-head (IsValue name_limit) v [] all, s.bytes)) (passes_name name k v db named)

    module _ (valued : IsValueWithin name_limit value) where
      pub refused-missing : OfReading file (λ db. definition_meant name k db.items ≡ None) → IsRefused fault.NotFound
      refused-missing none v s db reads = is_first NotFound (definitions-few name k db (none db reads)) (passes_given name k v db named (s.value valued))

      module _ (n : ℕ) (found : OfReading file (λ db. definition_meant name k db.items ≡ Some n)) (p : Piece) (is : OfReading file (λ db. (d : Definition) → IsDefinitionAt db.items n d → p ≡ value_piece (start_of db n) d value))
          (ps : List Piece) (one : ps ≡ p ∷ [])
        where
          are : (v : Value) → Spells value v → (db : Reading) → Reads file db → ps ≡ pieces_of made_base db (ChangeDefinition name k (SetsValue v))
          are v s db reads = one ∙ set-pieces name k v db n (found db reads) value s p (is db reads)

          reading : (v : Value) → Spells value v → (db : Reading) → Reads file db → Reads (bytes_of (change_definition name k (SetsValue v) db)) (change_definition name k (SetsValue v) db)
          reading v s db reads = set-reads name k v db n (found db reads) file reads (s.value valued)

          pub pieces-set_one : OfSpelled value (λ v. ArePiecesFor (ChangeDefinition name k (SetsValue v)) file ps)
          pieces-set_one v s db reads = are v s db reads

          -- whatever value the bytes spell
          spelled : (v : Value) × Spells value v
          spelled = some_value value

          abbrev edit : Edit
          edit = ChangeDefinition name k (SetsValue spelled.0)

          pub fit-set_one : IsOpenable file → Fit ps file
          fit-set_one opens = tried-fit edit file opens.0 opens.1.reads (reading spelled.0 spelled.1 opens.0 opens.1.reads) ps (are spelled.0 spelled.1 opens.0 opens.1.reads)

          pub goes-set_one : IsOpenable file → olds_len ps ≤ file_limit
          goes-set_one opens = tried-goes edit file opens.0 opens.1.reads (reading spelled.0 spelled.1 opens.0 opens.1.reads) ps (are spelled.0 spelled.1 opens.0 opens.1.reads) opens.1.short

          pub opens-set_one : IsOpenable file → (after : ℕ) → after ≡ suc n → OfReading file (λ db. OfValue value (λ v. StaysShort name v n after db)) →
              MakeShortFile ps file → IsOpenable (applied ps file)
          opens-set_one opens after next stays short =
              let db : Reading = opens.0 in
              let reads = opens.1.reads in
              let v : Value = spelled.0 in
              let s = spelled.1 in
              let stay = subst (λ (j : ℕ). StaysShort name v n j db) next (stays db reads v (s.value valued) s.bytes) in
              tried-opens edit file db reads (reading v s db reads) ps (are v s db reads) (set-short name k v db n (found db reads) stay.unused stay.text (none-long file db opens.1)) short

          pub refused-lengths : (reason : Fault) → IsLengthFault ps file reason → IsRefused reason
          refused-lengths reason (long_file over) = λ v s db reads.
              tried-refused (ChangeDefinition name k (SetsValue v)) file db reads (reading v s db reads) ps (are v s db reads) (passes_found name k v db named (s.value valued) n (found db reads)) fault.FileTooLong (long_file over)
          refused-lengths reason (long_text short not) = λ v s db reads.
              tried-refused (ChangeDefinition name k (SetsValue v)) file db reads (reading v s db reads) ps (are v s db reads) (passes_found name k v db named (s.value valued) n (found db reads)) fault.TextTooLong (long_text short not)
          refused-lengths reason no_memory = λ v s. tt

          pub allowed-set_one : MakeOpenFile ps file → OfSpelled value (λ v. IsAllowedFor (ChangeDefinition name k (SetsValue v)) file)
          allowed-set_one opens v s db reads =
              tried-accepted (ChangeDefinition name k (SetsValue v)) file db reads (reading v s db reads) ps (are v s db reads) (passes_found name k v db named (s.value valued) n (found db reads)) opens
