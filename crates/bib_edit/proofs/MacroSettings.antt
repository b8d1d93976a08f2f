-- Why giving a macro a value is refused, and that it is not; and the one piece that it is.
use Rattle.std.proofs.Common.{false}
use Rattle.bib_edit.proofs.Words.{◌≡◌, ℕ, suc, ◌+◌, ◌≤◌, true, List, [], ◌∷◌, length, sym, ◌∙◌, ap, arith, true≢false, All-nil, All-cons, All-head, name_limit, Text, is_name, Value, Definition, DefinitionTree, value_bytes, IsValue, IsValueWithin, Item, Reading, Reads, bytes_of, IsOpenable}
use Rattle.bib_edit.proofs.Words.{BadKey, BadName, BadValue, BadPosition, NotFound, Ambiguous, KeyInUse, NameInUse, Referred, WouldMerge, FileTooLong, TextTooLong, Fit, file_limit, olds_len, definitions, defines, IsAccepted, IsFirstRefusal, pieces_of, Spells, Piece, Chunk, pieces_from, chunks_from_first, start_of}
use Rattle.bib_edit.proofs.Words.{OfReading, made_base, months, subst, same_Some, IsDefinedAt, IsDefinitionAt, IsDefinitionNumber, IsDefinitionFault, none_defines, many_define, IsAllowedEdit, ArePiecesOf, IsRefusal}
use Rattle.edit_spec.specs.Edits.{SetMacro, set_macro}
use Rattle.edit_spec.specs.EditChunks.{body_and_rest, definition_chunks}
use Rattle.edit_spec.proofs.SetMacro.{set_macro-reads}
use Rattle.bib_data.specs.declared.edit.Edit.TheVariants as asked
use Rattle.bib_spec.specs.Pieces.{applied}
use Rattle.bib_value.specs.Raw.{OfValue}
use Rattle.bib_edit.specs.MacroValues.{value_piece, MakeShortFile, StaysShort, MakeOpenFile, IsLengthFault, long_file, long_text, no_memory}
use Rattle.bib_edit.specs.declared.fault.EditFault.{EditFault as Fault}
use Rattle.bib_edit.specs.declared.fault.EditFault.TheVariants as fault
use Rattle.bib_edit.proofs.FirstItems.{IsFirstItem, found_first, chunks-first, item-first, start-first}
use Rattle.bib_edit.proofs.PieceLists.{pieces-after_items, pieces-before_items}
use Rattle.bib_edit.proofs.DefinedNames.{definition_item, first-definition}
use Rattle.bib_edit.proofs.TriedPieces.{tried-fit, tried-goes, tried-opens, tried-refused, tried-accepted}
use Rattle.bib_edit.proofs.UnusedValues.{set-short}
use Rattle.bib_edit.proofs.FoundItems.{defined-at, defined-within}
use Rattle.bib_edit.proofs.LongTexts.{too_long-any}
use Rattle.bib_edit.proofs.OpenFiles.{none-long}
use Rattle.bib_edit.specs.Numbers.{is_numbered}
use Rattle.bib_edit.proofs.AskedEdits.{some_value, of-set_macro}
use Rattle.bib_edit.proofs.GivenNames.{and_name}
use Rattle.bib_edit.proofs.Ranks.{Passes, no_reason, more, is_first}

-- ---- the piece

module _ (name : Text) (v : Value) (db : Reading) (n : ℕ) (lone : IsDefinedAt name db n) where
  abbrev change : Item → List Item → List Chunk
  change item items = body_and_rest (definition_chunks v item.tree) item items

  set-piece : (d : Definition) → IsDefinitionAt db.items n d → pieces_of made_base db (SetMacro name v) ≡ value_piece (start_of db n) d (value_bytes v) ∷ []
  set-piece d at =
      let first : IsFirstItem (defines name) db.items n = found_first (defines name) db.items n lone.item in
      let it : definition_item d at.0 ≡ first.item = same_Some (definition_item d at.0) first.item (sym at.1 ∙ item-first (defines name) db.items n first) in
      let zero_add : 0 + length db.front ≡ length db.front = omega arith in
      ap (λ k. pieces_from k (chunks_from_first (defines name) change db.items)) zero_add
      ∙ ap (pieces_from (length db.front)) (chunks-first (defines name) change db.items n first)
      ∙ pieces-after_items (length db.front) first.before (change first.item first.after)
      ∙ ap (λ k. pieces_from k (change first.item first.after)) (sym (start-first (defines name) db n first))
      ∙ sym (ap (λ (i : Item). pieces_from (start_of db n) (change i first.after)) it)
      ∙ pieces-before_items (start_of db n) (definition_chunks v (DefinitionTree d)) at.0 first.after

  -- one definition is there, so this is its piece
  pub set-pieces : (value : Text) → Spells value v → (p : Piece) → ((d : Definition) → IsDefinitionAt db.items n d → p ≡ value_piece (start_of db n) d value) → p ∷ [] ≡ pieces_of made_base db (SetMacro name v)
  set-pieces value s p made =
      let d = first-definition name db n lone.item in
      ap (λ q. q ∷ []) (made d.0 d.1 ∙ ap (value_piece (start_of db n) d.0) (sym s.bytes)) ∙ sym (set-piece d.0 d.1)

-- ---- the reasons in their order

module _ (db : Reading) (name : Text) (v : Value) (named : is_name name ≡ true) where
  passes_name : Passes made_base db (SetMacro name v) 2
  passes_name = more BadName (λ h. true≢false (sym named ∙ and_name (is_name name) ∙ h)) (more BadKey (λ h. true≢false h) no_reason)

  module _ (valued : IsValue name_limit v) where
    passes_given : Passes made_base db (SetMacro name v) 4
    passes_given = more BadPosition (λ h. h) (more BadValue (λ h. h (All-cons (IsValue name_limit) v [] valued (All-nil (IsValue name_limit)))) passes_name)

    passes_there : (definitions name db ≡ 0 → ⊥) → Passes made_base db (SetMacro name v) 5
    passes_there some = more NotFound some passes_given

    passes_found : definitions name db ≡ 1 → Passes made_base db (SetMacro name v) 10
    passes_found once =
        more WouldMerge (λ h. h)
        (more Referred (λ h. h)
        (more NameInUse (λ h. h)
        (more KeyInUse (λ h. h)
        (more Ambiguous (λ many. omega (arith, many, once)) (passes_there (λ none. omega (arith, none, once)))))))

-- ---- as it is asked for

pub refused-name : (file name value : Text) → is_numbered name ≡ false → is_name name ≡ false → IsRefusal file (asked.SetMacro name value) fault.BadName
refused-name file name value plain none db reads = of-set_macro name value plain (λ e. IsFirstRefusal made_base db e BadName)
    (λ v s. is_first BadName (sym (and_name (is_name name)) ∙ none) (more BadKey (λ h. true≢false h) no_reason))

module _ (file name value : Text) (plain : is_numbered name ≡ false) (named : is_name name ≡ true) where
  pub refused-value : (IsValueWithin name_limit value → ⊥) → IsRefusal file (asked.SetMacro name value) fault.BadValue
  refused-value none db reads = of-set_macro name value plain (λ e. IsFirstRefusal made_base db e BadValue)
      (λ v s. is_first BadValue (λ all. none (v, All-head (IsValue name_limit) v [] all, s.bytes)) (passes_name db name v named))

  module _ (valued : IsValueWithin name_limit value) where
    pub refused-definition : (reason : Fault) → IsDefinitionFault file name reason → IsRefusal file (asked.SetMacro name value) reason
    refused-definition reason (none_defines none) = λ db reads. of-set_macro name value plain (λ e. IsFirstRefusal made_base db e NotFound)
        (λ v s. is_first NotFound (none db reads) (passes_given db name v named (s.value valued)))
    refused-definition reason (many_define many) = λ db reads. of-set_macro name value plain (λ e. IsFirstRefusal made_base db e Ambiguous)
        (λ v s. let some = many db reads in is_first Ambiguous some (passes_there db name v named (s.value valued) (λ none. omega (arith, none, some))))

    module _ (n : ℕ) (lone : OfReading file (λ db. IsDefinedAt name db n)) where
      -- there is a place after it
      pub definition-within : OfReading file (λ db. suc n ≤ length db.items)
      definition-within db reads = defined-within name db n (lone db reads)

      pub definition-number : IsDefinitionNumber file n
      definition-number db reads = let d = first-definition name db n (lone db reads).item in (d.0, d.1)

      module _ (p : Piece) (made : OfReading file (λ db. (d : Definition) → IsDefinitionAt db.items n d → p ≡ value_piece (start_of db n) d value)) (ps : List Piece) (one : ps ≡ p ∷ []) where
        are : (db : Reading) → Reads file db → (v : Value) → Spells value v → ps ≡ pieces_of made_base db (SetMacro name v)
        are db reads v s = one ∙ set-pieces name v db n (lone db reads) value s p (made db reads)

        reading : (db : Reading) → Reads file db → (v : Value) → Spells value v → Reads (bytes_of (set_macro name v db)) (set_macro name v db)
        reading db reads v s = set_macro-reads file db name v reads (s.value valued)

        pub pieces-set_macro : ArePiecesOf file (asked.SetMacro name value) ps
        pieces-set_macro db reads = of-set_macro name value plain (λ e. ps ≡ pieces_of made_base db e) (are db reads)

        -- whatever value the bytes spell
        spelled : (v : Value) × Spells value v
        spelled = some_value value

        pub fit-set_macro : IsOpenable file → Fit ps file
        fit-set_macro is = tried-fit (SetMacro name spelled.0) file is.0 is.1.reads (reading is.0 is.1.reads spelled.0 spelled.1) ps (are is.0 is.1.reads spelled.0 spelled.1)

        pub goes-set_macro : IsOpenable file → olds_len ps ≤ file_limit
        goes-set_macro is = tried-goes (SetMacro name spelled.0) file is.0 is.1.reads (reading is.0 is.1.reads spelled.0 spelled.1) ps (are is.0 is.1.reads spelled.0 spelled.1) is.1.short

        pub opens-set_macro : IsOpenable file → (after : ℕ) → after ≡ suc n → OfReading file (λ db. OfValue value (λ v. StaysShort name v n after db)) →
            MakeShortFile ps file → IsOpenable (applied ps file)
        opens-set_macro is after next stays short =
            let db : Reading = is.0 in
            let reads = is.1.reads in
            let v : Value = spelled.0 in
            let s = spelled.1 in
            let stay = subst (λ (k : ℕ). StaysShort name v n k db) next (stays db reads v (s.value valued) s.bytes) in
            tried-opens (SetMacro name v) file db reads (reading db reads v s) ps (are db reads v s)
            (too_long-any (set_macro name v db) ∙ set-short name v months db.items n (defined-at name db n (lone db reads)) stay.unused stay.text (none-long file db is.1)) short

        pub refused-lengths : (reason : Fault) → IsLengthFault ps file reason → IsRefusal file (asked.SetMacro name value) reason
        refused-lengths reason (long_file over) = λ db reads. of-set_macro name value plain (λ e. IsFirstRefusal made_base db e FileTooLong)
            (λ v s. tried-refused (SetMacro name v) file db reads (reading db reads v s) ps (are db reads v s) (passes_found db name v named (s.value valued) (lone db reads).once) fault.FileTooLong (long_file over))
        refused-lengths reason (long_text short not) = λ db reads. of-set_macro name value plain (λ e. IsFirstRefusal made_base db e TextTooLong)
            (λ v s. tried-refused (SetMacro name v) file db reads (reading db reads v s) ps (are db reads v s) (passes_found db name v named (s.value valued) (lone db reads).once) fault.TextTooLong (long_text short not))
        refused-lengths reason no_memory = tt

        pub allowed-set_macro : MakeOpenFile ps file → IsAllowedEdit file (asked.SetMacro name value)
        allowed-set_macro made_file db reads = of-set_macro name value plain (λ e. IsAccepted made_base db e)
            (λ v s. tried-accepted (SetMacro name v) file db reads (reading db reads v s) ps (are db reads v s) (passes_found db name v named (s.value valued) (lone db reads).once) made_file)
