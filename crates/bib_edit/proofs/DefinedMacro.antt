-- Why defining a macro is refused, and that it is not; and the one piece that it is.
use Rattle.bib_edit.proofs.Words.{◌≡◌, ℕ, zero, suc, ◌+◌, ◌<◌, ◌≤◌, true, false, List, [], ◌∷◌, ◌++◌, codes, length, take, drop, refl, sym, ◌∙◌, ap, subst, arith, append_assoc, append-nil, zero-add, le_of_suc-le-suc, not-suc-le-zero, true≢false, All-nil, All-cons, All-head, name_limit, equals_sign, Text, is_name, Value, Tree, DefinitionTree}
use Rattle.bib_edit.proofs.Words.{tree_bytes, value_bytes, IsValue, IsValueWithin, Item, Reading, Reads, bytes_of, item_bytes, IsOpenable, BadKey, BadName, BadValue, BadPosition, NotFound, Ambiguous, KeyInUse, NameInUse, Referred, WouldMerge, FileTooLong, TextTooLong, Fit, file_limit, olds_len, definitions, in_line, IsAccepted, IsFirstRefusal, pieces_of, Spells}
use Rattle.bib_edit.proofs.Words.{Piece, Kept, Replaced, pieces_from, pieces_of_chunks, kept_item, kept_items, start_of, body_at, trail_at, OfReading, made_base, months, IsAllowedEdit, ArePiecesOf, IsRefusal}
use Rattle.edit_spec.specs.Edits.{DefineMacro, line_end, definition_as, definitions_end, define_macro}
use Rattle.edit_spec.specs.EditChunks.{chunks_after}
use Rattle.edit_spec.proofs.DefineMacro.{define_macro-reads, end-within}
use Rattle.bib_data.specs.declared.edit.Edit.TheVariants as asked
use Rattle.bib_spec.specs.Pieces.{applied}
use Rattle.bib_value.specs.Raw.{OfValue}
use Rattle.bib_edit.specs.MacroValues.{definition_line, defining_piece, MakeShortFile, MakeOpenFile, IsLengthFault, long_file, long_text, no_memory, StaysShort}
use Rattle.bib_edit.specs.declared.fault.EditFault.{EditFault as Fault}
use Rattle.bib_edit.specs.declared.fault.EditFault.TheVariants as fault
use Rattle.bib_edit.proofs.PieceLists.{pieces-after_items, pieces-kept_items}
use Rattle.bib_edit.proofs.PiecePlaces.{insertion-pieces}
use Rattle.bib_edit.proofs.TriedPieces.{tried-fit, tried-goes, tried-opens, tried-refused, tried-accepted}
use Rattle.bib_edit.proofs.UnusedValues.{put-short}
use Rattle.bib_edit.proofs.LongTexts.{too_long-any}
use Rattle.bib_edit.proofs.OpenFiles.{none-long}
use Rattle.bib_edit.proofs.AskedEdits.{some_value, of-define_macro}
use Rattle.bib_edit.proofs.GivenNames.{and_name}
use Rattle.bib_edit.proofs.Ranks.{Passes, no_reason, more, is_first}

-- ---- the piece

line_regroup : (b o n s e v c a : Text) → b ++ ((o ++ (n ++ s ++ e ++ v) ++ c) ++ a) ≡ b ++ o ++ n ++ (s ++ e) ++ v ++ c ++ a
line_regroup b o n s e v c a = simp append_assoc

-- a definition as it is written is that of its tree
pub written : (before name : Text) (v : Value) (after : Text) → before ++ (tree_bytes (DefinitionTree (definition_as name v)) ++ after) ≡ definition_line before name (value_bytes v) after
written before name v after =
    ap (λ t. before ++ ((codes "@string{" ++ t ++ codes "}") ++ after)) (append-nil (name ++ codes " " ++ (equals_sign ∷ codes " ") ++ value_bytes v))
    ∙ line_regroup before (codes "@string{") name (codes " ") (equals_sign ∷ codes " ") (value_bytes v) (codes "}") after

behind_chunks : (tree : Tree) (k : ℕ) (items : List Item) → k < length items →
    chunks_after (suc k) tree items ≡ kept_items (take k items) ++ (Kept (body_at items k) ∷ Replaced [] (line_end ++ tree_bytes tree) ∷ Kept (trail_at items k) ∷ kept_items (drop (suc k) items))
behind_chunks tree k [] h = absurd (not-suc-le-zero h)
behind_chunks tree zero (item ∷ items) h = refl
behind_chunks tree (suc k) (item ∷ items) h = ap (λ l. kept_item item ∷ l) (behind_chunks tree k items (le_of_suc-le-suc h))

module _ (name : Text) (v : Value) (db : Reading) where
  abbrev tree : Tree
  tree = DefinitionTree (definition_as name v)

  placed : (n : ℕ) → n ≤ length db.items → pieces_of_chunks (Kept db.front ∷ chunks_after n tree db.items) ≡ defining_piece db n name (value_bytes v) ∷ []
  placed zero h =
      insertion-pieces (item_bytes (in_line tree)) db 0
      ∙ ap (λ t. record { place = start_of db 0; old = []; new = t } ∷ []) (written [] name v (codes "\n"))
  placed (suc k) h =
      let body : ℕ = length (body_at db.items k) in
      let rest = Kept (body_at db.items k) ∷ Replaced [] (line_end ++ tree_bytes tree) ∷ Kept (trail_at db.items k) ∷ kept_items (drop (suc k) db.items) in
      ap (λ l. pieces_from (0 + length db.front) l) (behind_chunks tree k db.items h)
      ∙ ap (λ n. pieces_from n (kept_items (take k db.items) ++ rest)) (zero-add (length db.front))
      ∙ pieces-after_items (length db.front) (take k db.items) rest
      ∙ ap (λ l. record { place = start_of db k + body; old = []; new = line_end ++ tree_bytes tree } ∷ l) (pieces-kept_items (start_of db k + body + 0 + length (trail_at db.items k)) (drop (suc k) db.items))
      ∙ ap (λ t. record { place = start_of db k + body; old = []; new = t } ∷ []) (ap (λ t. line_end ++ t) (sym (append-nil (tree_bytes tree))) ∙ written (codes "\n") name v [])

  pub define-pieces : pieces_of made_base db (DefineMacro name v) ≡ defining_piece db (definitions_end db.items) name (value_bytes v) ∷ []
  define-pieces = placed (definitions_end db.items) (end-within db.items)

-- ---- the reasons in their order

module _ (db : Reading) (name : Text) (v : Value) (named : is_name name ≡ true) where
  passes_name : Passes made_base db (DefineMacro name v) 2
  passes_name = more BadName (λ h. true≢false (sym named ∙ and_name (is_name name) ∙ h)) (more BadKey (λ h. true≢false h) no_reason)

  module _ (valued : IsValue name_limit v) where
    passes_given : Passes made_base db (DefineMacro name v) 7
    passes_given =
        more KeyInUse (λ h. h)
        (more Ambiguous (λ h. h)
        (more NotFound (λ h. h)
        (more BadPosition (λ h. h) (more BadValue (λ h. h (All-cons (IsValue name_limit) v [] valued (All-nil (IsValue name_limit)))) passes_name))))

    passes_free : definitions name db ≡ 0 → Passes made_base db (DefineMacro name v) 10
    passes_free none = more WouldMerge (λ h. h) (more Referred (λ h. h) (more NameInUse (λ some. omega (arith, some, none)) passes_given))

-- ---- as it is asked for

module _ (file name value : Text) where
  pub refused-name : is_name name ≡ false → IsRefusal file (asked.DefineMacro name value) fault.BadName
  refused-name none db reads = of-define_macro name value (λ e. IsFirstRefusal made_base db e BadName)
      (λ v s. is_first BadName (sym (and_name (is_name name)) ∙ none) (more BadKey (λ h. true≢false h) no_reason))

  module _ (named : is_name name ≡ true) where
    pub refused-value : (IsValueWithin name_limit value → ⊥) → IsRefusal file (asked.DefineMacro name value) fault.BadValue
    refused-value none db reads = of-define_macro name value (λ e. IsFirstRefusal made_base db e BadValue)
        (λ v s. is_first BadValue (λ all. none (v, All-head (IsValue name_limit) v [] all, s.bytes)) (passes_name db name v named))

    module _ (valued : IsValueWithin name_limit value) where
      pub refused-defined : OfReading file (λ db. 0 < definitions name db) → IsRefusal file (asked.DefineMacro name value) fault.NameInUse
      refused-defined some db reads = of-define_macro name value (λ e. IsFirstRefusal made_base db e NameInUse)
          (λ v s. is_first NameInUse (some db reads) (passes_given db name v named (s.value valued)))

      module _ (none : OfReading file (λ db. definitions name db ≡ 0)) (ps : List Piece)
          (made : OfReading file (λ db. ps ≡ defining_piece db (definitions_end db.items) name value ∷ [])) where
        are : (db : Reading) → Reads file db → (v : Value) → Spells value v → ps ≡ pieces_of made_base db (DefineMacro name v)
        are db reads v s = made db reads ∙ ap (λ t. defining_piece db (definitions_end db.items) name t ∷ []) (sym s.bytes) ∙ sym (define-pieces name v db)

        reading : (db : Reading) → Reads file db → (v : Value) → Spells value v → Reads (bytes_of (define_macro name v db)) (define_macro name v db)
        reading db reads v s = define_macro-reads file db name v reads named (s.value valued)

        pub pieces-define_macro : ArePiecesOf file (asked.DefineMacro name value) ps
        pieces-define_macro db reads = of-define_macro name value (λ e. ps ≡ pieces_of made_base db e) (are db reads)

        -- whatever value the bytes spell
        spelled : (v : Value) × Spells value v
        spelled = some_value value

        pub fit-define_macro : IsOpenable file → Fit ps file
        fit-define_macro is =
            tried-fit (DefineMacro name spelled.0) file is.0 is.1.reads (reading is.0 is.1.reads spelled.0 spelled.1) ps (are is.0 is.1.reads spelled.0 spelled.1)

        pub goes-define_macro : IsOpenable file → olds_len ps ≤ file_limit
        goes-define_macro is =
            tried-goes (DefineMacro name spelled.0) file is.0 is.1.reads (reading is.0 is.1.reads spelled.0 spelled.1) ps (are is.0 is.1.reads spelled.0 spelled.1) is.1.short

        pub opens-define_macro : IsOpenable file → (n : ℕ) → OfReading file (λ db. n ≡ definitions_end db.items) → OfReading file (λ db. OfValue value (λ v. StaysShort name v n n db)) →
            MakeShortFile ps file → IsOpenable (applied ps file)
        opens-define_macro is n end stays short =
            let db : Reading = is.0 in
            let reads = is.1.reads in
            let v : Value = spelled.0 in
            let s = spelled.1 in
            let stay = subst (λ (k : ℕ). StaysShort name v k k db) (end db reads) (stays db reads v (s.value valued) s.bytes) in
            tried-opens (DefineMacro name v) file db reads (reading db reads v s) ps (are db reads v s)
            (too_long-any (define_macro name v db) ∙ put-short name v months (definitions_end db.items) db.items stay.unused stay.text (none-long file db is.1)) short

        pub refused-lengths : (reason : Fault) → IsLengthFault ps file reason → IsRefusal file (asked.DefineMacro name value) reason
        refused-lengths reason (long_file over) = λ db reads. of-define_macro name value (λ e. IsFirstRefusal made_base db e FileTooLong)
            (λ v s. tried-refused (DefineMacro name v) file db reads (reading db reads v s) ps (are db reads v s) (passes_free db name v named (s.value valued) (none db reads)) fault.FileTooLong (long_file over))
        refused-lengths reason (long_text short not) = λ db reads. of-define_macro name value (λ e. IsFirstRefusal made_base db e TextTooLong)
            (λ v s. tried-refused (DefineMacro name v) file db reads (reading db reads v s) ps (are db reads v s) (passes_free db name v named (s.value valued) (none db reads)) fault.TextTooLong (long_text short not))
        refused-lengths reason no_memory = tt

        pub allowed-define_macro : MakeOpenFile ps file → IsAllowedEdit file (asked.DefineMacro name value)
        allowed-define_macro made_file db reads = of-define_macro name value (λ e. IsAccepted made_base db e)
            (λ v s. tried-accepted (DefineMacro name v) file db reads (reading db reads v s) ps (are db reads v s) (passes_free db name v named (s.value valued) (none db reads)) made_file)
