-- When setting a field is refused, and for which reason.
use Rattle.std.proofs.Common.{◌||◌}
use Rattle.bib_edit.proofs.Words.{◌≡◌, ℕ, ◌+◌, ◌<◌, ◌≤◌, ◌&&◌, nat_lt, Bool, true, false, List, [], ◌∷◌, is_some, length, count_by, ◌⊎◌, inl, inr, ⊎_elim, true≢false, sym, ◌∙◌, ap, subst, arith, false≢true, All-nil, All-cons, All-head, name_limit, file_limit, Text, is_name, Value, EntryTree}
use Rattle.bib_edit.proofs.Words.{IsValue, Item, Reading, Reads, IsValueWithin, months, macros_at, raw_text, raw_limit, too_long_at, Opens, IsOpenable, Piece, Spells, holders, fields_named, entry_with_field, IsAccepted, IsFirstRefusal, pieces_of, view_of, start_of, IsPartsOf, OfReading}
use Rattle.bib_edit.proofs.Words.{SetField, Memory, made_base, one_reading, IsAllowedEdit, ArePiecesOf, IsRefusal, IsHeldAt, IsHolderFault, none_holds, many_hold, is_field, olds_len, news_len, set_piece, OfItem}
use Rattle.edit_spec.specs.Edits as edits
use Rattle.bib_scan.specs.declared.parts.PartSpan.{PartSpan}
use Rattle.bib_value.specs.Raw.{OfValue}
use Rattle.bib_data.specs.declared.edit.Edit.{Edit}
use Rattle.bib_edit.specs.declared.fault.EditFault.{EditFault}
use Rattle.bib_edit.specs.declared.fault.EditFault.TheVariants.{BadName, BadValue, Ambiguous, FileTooLong, TextTooLong}
use Rattle.bib_edit.proofs.Ranks.{Passes, no_reason, more, is_first, all_clear}
use Rattle.bib_edit.proofs.NamedEntries.{named-entry}
use Rattle.bib_edit.proofs.PieceLengths.{makes-long, makes-short}
use Rattle.bib_edit.proofs.SettingPieces.{item_at, set-one_piece, fields-seen}
use Rattle.bib_edit.proofs.LongTexts.{too_long-changed, short-entry, long-set}
use Rattle.bib_edit.proofs.OpenFiles.{opens-as}
use Rattle.bib_edit.specs.Numbers.{is_numbered}
use Rattle.bib_edit.proofs.AskedEdits.{of-set_field}

-- ---- the reasons in their order

module _ (db : Reading) (key name : Text) (v : Value) where
  abbrev set : edits.Edit
  set = edits.SetField key name v

  clear_name : Passes made_base db set 1
  clear_name = more edits.BadKey (λ h. true≢false h) no_reason

  clear_value : is_name name ≡ true → Passes made_base db set 2
  clear_value n = more edits.BadName (λ h. true≢false (sym (ap (λ b. (b && true) && true) n) ∙ h)) clear_name

  clear_key : is_name name ≡ true → IsValue name_limit v → Passes made_base db set 4
  clear_key n is =
      more edits.BadPosition (λ h. h)
      (more edits.BadValue (λ h. h (All-cons (IsValue name_limit) v [] is (All-nil (IsValue name_limit)))) (clear_value n))

  clear_ambiguous : is_name name ≡ true → IsValue name_limit v → (holders key db ≡ 0 → ⊥) → Passes made_base db set 5
  clear_ambiguous n is found = more edits.NotFound found (clear_key n is)

  clear_long : is_name name ≡ true → IsValue name_limit v → holders key db ≡ 1 → fields_named key name db ≤ 1 → Passes made_base db set 10
  clear_long n is once few =
      more edits.WouldMerge (λ h. h)
      (more edits.Referred (λ h. h)
      (more edits.NameInUse (λ h. h)
      (more edits.KeyInUse (λ h. h)
      (more edits.Ambiguous (λ h. ⊎_elim (λ many. omega (arith, many, once)) (λ many. omega (arith, many, few)) h)
      (clear_ambiguous n is (λ none. omega (arith, none, once)))))))

-- ---- refusals

module _ (file key name value : Text) (plain : (is_numbered key || is_numbered name) ≡ false) where
  abbrev asked : Edit
  asked = SetField key name value

  pub refused-name : is_name name ≡ false → IsRefusal file asked BadName
  refused-name none db reads = of-set_field key name value plain (λ e. IsFirstRefusal made_base db e edits.BadName)
      (λ v s. is_first edits.BadName (ap (λ b. (b && true) && true) none) (clear_name db key name v))

  -- what is known once the name is one
  module _ (named : is_name name ≡ true) where
    pub refused-value : (IsValueWithin name_limit value → ⊥) → IsRefusal file asked BadValue
    refused-value none db reads = of-set_field key name value plain (λ e. IsFirstRefusal made_base db e edits.BadValue)
        (λ v s. is_first edits.BadValue (λ all. none (v, All-head (IsValue name_limit) v [] all, s.bytes)) (clear_value db key name v named))

    -- and that the value is one
    module _ (spans : List PartSpan) (said : IsPartsOf value spans) where
      valued : IsValueWithin name_limit value
      valued = (said.0, said.1, said.2)

      pub refused-key : (fault : EditFault) → IsHolderFault file key fault → IsRefusal file asked fault
      refused-key fault (none_holds none) = λ db reads. of-set_field key name value plain (λ e. IsFirstRefusal made_base db e edits.NotFound)
          (λ v s. is_first edits.NotFound (none db reads) (clear_key db key name v named (s.value valued)))
      refused-key fault (many_hold many) = λ db reads. of-set_field key name value plain (λ e. IsFirstRefusal made_base db e edits.Ambiguous)
          (λ v s. let some = many db reads in is_first edits.Ambiguous (inl some) (clear_ambiguous db key name v named (s.value valued) (λ none. omega (arith, none, some))))

      -- and that the key is one entry's
      module _ (n : ℕ) (held : OfReading file (λ db. IsHeldAt key db n)) where
        -- what holds of how many of its fields are seen to have the name
        of_count : (P : ℕ → Type 0) → OfItem file n (λ start view. P (count_by (is_field name) view.fields)) → (db : Reading) → Reads file db → P (fields_named key name db)
        of_count P of db reads =
            let lone = held db reads in
            let entry = named-entry key db n lone.item in
            let item : Item = item_at (EntryTree entry.entry) entry.trail in
            subst P (sym (fields-seen db key name n item lone.item entry.at)) (of db reads item entry.at)

        refused-twice : OfItem file n (λ start view. 1 < count_by (is_field name) view.fields) → IsRefusal file asked Ambiguous
        refused-twice twice db reads = of-set_field key name value plain (λ e. IsFirstRefusal made_base db e edits.Ambiguous)
            (λ v s. let many = of_count (λ k. 1 < k) twice db reads in let once = (held db reads).once in
            is_first edits.Ambiguous (inr many)
            (clear_ambiguous db key name v named (s.value valued) (λ none. omega (arith, none, once))))

        pub refused-piece : (fault : EditFault) → (fault ≡ Ambiguous → OfItem file n (λ start view. 1 < count_by (is_field name) view.fields)) → (fault ≡ Ambiguous) ⊎ (fault ≡ Memory) → IsRefusal file asked fault
        refused-piece fault twice only = ⊎_elim
            (λ is. subst (IsRefusal file asked) (sym is) (refused-twice (twice is)))
            (λ is. subst (IsRefusal file asked) (sym is) tt)
            only

        -- and that it has one such field at most, and this list is the piece alone
        module _ (once : OfItem file n (λ start view. count_by (is_field name) view.fields ≤ 1)) (p : Piece) (made : OfItem file n (λ start view. p ≡ set_piece start view name value)) (ps : List Piece) (one : ps ≡ p ∷ []) where
          module _ (db : Reading) (reads : Reads file db) (v : Value) (s : Spells value v) where
            are : ps ≡ pieces_of made_base db (set db key name v)
            are =
                let lone = held db reads in
                let entry = named-entry key db n lone.item in
                let item : Item = item_at (EntryTree entry.entry) entry.trail in
                one ∙ ap (λ q. q ∷ []) (made db reads item entry.at ∙ ap (λ t. set_piece (start_of db n) (view_of item) name t) (sym s.bytes))
                ∙ sym (set-one_piece made_base db key name v n entry.entry entry.trail lone.item entry.at)

            clear_file : Passes made_base db (set db key name v) 10
            clear_file = clear_long db key name v named (s.value valued) (held db reads).once (of_count (λ k. k ≤ 1) once db reads)

          pub pieces-set_field : ArePiecesOf file asked ps
          pieces-set_field db reads = of-set_field key name value plain (λ e. ps ≡ pieces_of made_base db e) (are db reads)

          pub refused-file : file_limit + olds_len ps < length file + news_len ps → IsRefusal file asked FileTooLong
          refused-file over db reads = of-set_field key name value plain (λ e. IsFirstRefusal made_base db e edits.FileTooLong) (λ v s.
              is_first edits.FileTooLong (makes-long (set db key name v) file db reads ps (are db reads v s) over) (clear_file db reads v s))

          -- and that the file is short enough
          module _ (short : length file + news_len ps ≤ file_limit + olds_len ps) (is : IsOpenable file) (long : Bool) (told : OfReading file (λ db. OfValue value (λ v. long ≡ nat_lt raw_limit (length (raw_text (macros_at months db.items n) v))))) where
            clear_raw : (db : Reading) → Reads file db → (v : Value) → Spells value v → Passes made_base db (set db key name v) 11
            clear_raw db reads v s = more edits.FileTooLong (makes-short (set db key name v) file db reads ps (are db reads v s) short) (clear_file db reads v s)

            raw : (db : Reading) → Opens file db → (v : Value) → Spells value v → is_some (too_long_at (edits.edited made_base db (set db key name v))) ≡ long
            raw db opens v s =
                let lone = held db opens.reads in
                let entry = named-entry key db n lone.item in
                too_long-changed key (entry_with_field name v) db n entry.entry entry.trail lone.item entry.at opens.texts
                ∙ long-set (macros_at months db.items n) name v entry.entry (short-entry db n entry.entry entry.trail entry.at opens.texts)
                ∙ sym (told db opens.reads v (s.value valued) s.bytes)

            pub refused-text : long ≡ true → IsRefusal file asked TextTooLong
            refused-text yes_long db reads = of-set_field key name value plain (λ e. IsFirstRefusal made_base db e edits.TextTooLong) (λ v s.
                is_first edits.TextTooLong (raw db (opens-as file db (one_reading name_limit) is reads) v s ∙ yes_long) (clear_raw db reads v s))

            pub allowed-set_field : long ≡ false → IsAllowedEdit file asked
            allowed-set_field no_long db reads = of-set_field key name value plain (λ e. IsAccepted made_base db e) (λ v s.
                all_clear (more edits.TextTooLong (λ h. false≢true (sym (raw db (opens-as file db (one_reading name_limit) is reads) v s ∙ no_long) ∙ h)) (clear_raw db reads v s)))
