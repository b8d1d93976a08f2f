-- The edits of the examples are accepted: no reason refuses them.
use Rattle.edit_spec.proofs.Words.{◌≡◌, ℕ, zero, suc, ◌≤◌, List, ◌∷◌, None, Some, All, codes, ⊎_elim, refl, sym, arith, not-suc-le-zero, le_of_suc-le-suc, AllPass, is_ascii_digit, false≢true, none-some, name_limit, is_space, is_name_byte, is_new_key_byte, is_name_within, is_new_key, opened_before}
use Rattle.edit_spec.proofs.Words.{closed_before, begins_command, IsClean, IsCleanTrail, Digits, is_comment, IsValue, Item, months, field_text, SetField, DropField, AddEntry, RemoveEntry, MoveEntry, RenameKey, RenameMacro, InlineMacro, IntroduceMacro, RegenerateKeys, AddMany, DefineMacro, SetMacro, BadKey, BadName}
use Rattle.edit_spec.proofs.Words.{BadValue, BadPosition, NotFound, Ambiguous, KeyInUse, NameInUse, Referred, WouldMerge, FileTooLong, TextTooLong, in_braces, remove_entry, inline_macro, IsAccepted, entries_of, parent, one_field, author_year}
use Rattle.std.proofs.Common.{[]}
use Rattle.edit_spec.specs.Edits.{SetType, UndefineMacro, RenameField, ChangeEntry, ChangeDefinition, SetsType, SetsValue, undefine_macro}
use Rattle.edit_spec.specs.Examples.{only, waiting, z, two_lines, named_by_macro, overridden_month, quoting, same_text_twice, swapped, family, with_remark, undefined_use, inlined_twice}

-- an edit without values has no bad one
no_values : All (IsValue name_limit) []
no_values k d lt = absurd (not-suc-le-zero lt)

one_digit : All (IsValue name_limit) (only (Digits (codes "2")) ∷ [])
one_digit zero d lt = record { first = (omega arith, digits); links = λ k d lt. absurd (not-suc-le-zero lt) }
  where
    digits : AllPass is_ascii_digit (codes "2")
    digits zero d lt = refl
    digits (suc k) d lt = absurd (not-suc-le-zero (le_of_suc-le-suc lt))
one_digit (suc k) d lt = absurd (not-suc-le-zero (le_of_suc-le-suc lt))

one_letter : All (IsValue name_limit) (in_braces (codes "x") ∷ [])
one_letter zero d lt = record { first = record { never_negative = never; all_closed = refl }; links = λ k d lt. absurd (not-suc-le-zero lt) }
  where
    never : (n : ℕ) → closed_before (codes "x") n ≤ opened_before (codes "x") n
    never zero = omega arith
    never (suc zero) = omega arith
    never (suc (suc n)) = omega arith
one_letter (suc k) d lt = absurd (not-suc-le-zero (le_of_suc-le-suc lt))

-- the empty text and the end of a line are clean
nothing_clean : IsClean []
unfolding begins_command
nothing_clean zero = refl
nothing_clean (suc p) = refl

pub line_clean : IsClean (codes "\n")
unfolding begins_command
line_clean zero = refl
line_clean (suc zero) = refl
line_clean (suc (suc p)) = refl

-- the trails of the items that are left are clean
abbrev AreClean : List Item → Type 0
AreClean items = All (λ item. IsCleanTrail (is_comment item.tree) item.trail) items

waiting_clean : AreClean (remove_entry (codes "a") waiting).items
waiting_clean zero d lt = record { clean = nothing_clean; ends_name = λ e. absurd (false≢true e) }
waiting_clean (suc k) d lt = absurd (not-suc-le-zero (le_of_suc-le-suc lt))

quoting_clean : AreClean (inline_macro (codes "m") quoting).items
quoting_clean zero d lt = record { clean = nothing_clean; ends_name = λ e. absurd (false≢true e) }
quoting_clean (suc k) d lt = absurd (not-suc-le-zero (le_of_suc-le-suc lt))

lines_clean : AreClean (remove_entry (codes "a") two_lines).items
lines_clean zero d lt = record { clean = line_clean; ends_name = λ e. absurd (false≢true e) }
lines_clean (suc k) d lt = absurd (not-suc-le-zero (le_of_suc-le-suc lt))

undefined_clean : AreClean (undefine_macro (codes "m") undefined_use).items
undefined_clean zero d lt = record { clean = nothing_clean; ends_name = λ e. absurd (false≢true e) }
undefined_clean (suc k) d lt = absurd (not-suc-le-zero (le_of_suc-le-suc lt))

-- the crossref that waits has no target
no_parent : (n m : ℕ) → parent (entries_of waiting) n ≡ Some m → ⊥
unfolding months field_text is_space
no_parent zero m e = none-some m e
no_parent (suc zero) m e = none-some m e
no_parent (suc (suc n)) m e = none-some m e

pub is_set : IsAccepted author_year one_field (SetField (codes "a") (codes "y") (only (Digits (codes "2"))))
unfolding months field_text is_space is_name_byte is_new_key_byte is_name_within is_new_key
is_set BadKey h = false≢true (sym h)
is_set BadName h = false≢true (sym h)
is_set BadValue h = h one_digit
is_set BadPosition h = absurd h
is_set NotFound h = omega (arith, h)
is_set Ambiguous h = ⊎_elim (λ m. omega (arith, m)) (λ m. omega (arith, m)) h
is_set KeyInUse h = absurd h
is_set NameInUse h = absurd h
is_set Referred h = absurd h
is_set WouldMerge h = absurd h
is_set FileTooLong h = omega (arith, h)
is_set TextTooLong h = false≢true h

pub is_dropped : IsAccepted author_year one_field (DropField (codes "a") (codes "T"))
unfolding months field_text is_space is_name_byte is_new_key_byte is_name_within is_new_key
is_dropped BadKey h = false≢true (sym h)
is_dropped BadName h = false≢true (sym h)
is_dropped BadValue h = h no_values
is_dropped BadPosition h = absurd h
is_dropped NotFound h = omega (arith, h)
is_dropped Ambiguous h = ⊎_elim (λ m. omega (arith, m)) (λ m. omega (arith, m)) h
is_dropped KeyInUse h = absurd h
is_dropped NameInUse h = absurd h
is_dropped Referred h = absurd h
is_dropped WouldMerge h = false≢true h
is_dropped FileTooLong h = omega (arith, h)
is_dropped TextTooLong h = false≢true h

pub is_added : IsAccepted author_year waiting (AddEntry 0 z)
unfolding months field_text is_space is_name_byte is_new_key_byte is_name_within is_new_key
is_added BadKey h = false≢true (sym h)
is_added BadName h = false≢true (sym h)
is_added BadValue h = h no_values
is_added BadPosition h = omega (arith, h)
is_added NotFound h = absurd h
is_added Ambiguous h = false≢true h
is_added KeyInUse h = false≢true h
is_added NameInUse h = absurd h
is_added Referred h = absurd h
is_added WouldMerge h = absurd h
is_added FileTooLong h = omega (arith, h)
is_added TextTooLong h = false≢true h

pub is_removed : IsAccepted author_year waiting (RemoveEntry (codes "a"))
unfolding months field_text is_space is_name_byte is_new_key_byte is_name_within is_new_key
is_removed BadKey h = false≢true (sym h)
is_removed BadName h = false≢true (sym h)
is_removed BadValue h = h no_values
is_removed BadPosition h = absurd h
is_removed NotFound h = omega (arith, h)
is_removed Ambiguous h = omega (arith, h)
is_removed KeyInUse h = absurd h
is_removed NameInUse h = absurd h
is_removed Referred h = no_parent h.0 h.1 h.3
is_removed WouldMerge h = h (record { front = nothing_clean; trails = waiting_clean })
is_removed FileTooLong h = omega (arith, h)
is_removed TextTooLong h = false≢true h

pub is_moved : IsAccepted author_year two_lines (MoveEntry (codes "a") 1)
unfolding months field_text is_space is_name_byte is_new_key_byte is_name_within is_new_key
is_moved BadKey h = false≢true (sym h)
is_moved BadName h = false≢true (sym h)
is_moved BadValue h = h no_values
is_moved BadPosition h = omega (arith, h)
is_moved NotFound h = omega (arith, h)
is_moved Ambiguous h = omega (arith, h)
is_moved KeyInUse h = absurd h
is_moved NameInUse h = absurd h
is_moved Referred h = absurd h
is_moved WouldMerge h = h (record { front = line_clean; trails = lines_clean })
is_moved FileTooLong h = omega (arith, h)
is_moved TextTooLong h = false≢true h

pub is_key_renamed : IsAccepted author_year named_by_macro (RenameKey (codes "conf95") (codes "icc"))
unfolding months field_text is_space is_name_byte is_new_key_byte is_name_within is_new_key
is_key_renamed BadKey h = false≢true (sym h)
is_key_renamed BadName h = false≢true (sym h)
is_key_renamed BadValue h = h no_values
is_key_renamed BadPosition h = absurd h
is_key_renamed NotFound h = omega (arith, h)
is_key_renamed Ambiguous h = omega (arith, h)
is_key_renamed KeyInUse h = false≢true h
is_key_renamed NameInUse h = absurd h
is_key_renamed Referred h = absurd h
is_key_renamed WouldMerge h = absurd h
is_key_renamed FileTooLong h = omega (arith, h)
is_key_renamed TextTooLong h = false≢true h

pub is_macro_renamed : IsAccepted author_year overridden_month (RenameMacro (codes "jan") (codes "j"))
unfolding months field_text is_space is_name_byte is_new_key_byte is_name_within is_new_key
is_macro_renamed BadKey h = false≢true (sym h)
is_macro_renamed BadName h = false≢true (sym h)
is_macro_renamed BadValue h = h no_values
is_macro_renamed BadPosition h = absurd h
is_macro_renamed NotFound h = omega (arith, h)
is_macro_renamed Ambiguous h = omega (arith, h)
is_macro_renamed KeyInUse h = absurd h
is_macro_renamed NameInUse h = false≢true h
is_macro_renamed Referred h = absurd h
is_macro_renamed WouldMerge h = absurd h
is_macro_renamed FileTooLong h = omega (arith, h)
is_macro_renamed TextTooLong h = false≢true h

pub is_macro_respelled : IsAccepted author_year overridden_month (RenameMacro (codes "jan") (codes "JAN"))
unfolding months field_text is_space is_name_byte is_new_key_byte is_name_within is_new_key
is_macro_respelled BadKey h = false≢true (sym h)
is_macro_respelled BadName h = false≢true (sym h)
is_macro_respelled BadValue h = h no_values
is_macro_respelled BadPosition h = absurd h
is_macro_respelled NotFound h = omega (arith, h)
is_macro_respelled Ambiguous h = omega (arith, h)
is_macro_respelled KeyInUse h = absurd h
is_macro_respelled NameInUse h = false≢true h
is_macro_respelled Referred h = absurd h
is_macro_respelled WouldMerge h = absurd h
is_macro_respelled FileTooLong h = omega (arith, h)
is_macro_respelled TextTooLong h = false≢true h

pub is_macro_inlined : IsAccepted author_year quoting (InlineMacro (codes "m"))
unfolding months field_text is_space is_name_byte is_new_key_byte is_name_within is_new_key
is_macro_inlined BadKey h = false≢true (sym h)
is_macro_inlined BadName h = false≢true (sym h)
is_macro_inlined BadValue h = h no_values
is_macro_inlined BadPosition h = absurd h
is_macro_inlined NotFound h = omega (arith, h)
is_macro_inlined Ambiguous h = omega (arith, h)
is_macro_inlined KeyInUse h = absurd h
is_macro_inlined NameInUse h = absurd h
is_macro_inlined Referred h = absurd h
is_macro_inlined WouldMerge h = h (record { front = nothing_clean; trails = quoting_clean })
is_macro_inlined FileTooLong h = omega (arith, h)
is_macro_inlined TextTooLong h = false≢true h

pub is_macro_introduced : IsAccepted author_year same_text_twice (IntroduceMacro (codes "m") (codes "x"))
unfolding months field_text is_space is_name_byte is_new_key_byte is_name_within is_new_key
is_macro_introduced BadKey h = false≢true (sym h)
is_macro_introduced BadName h = false≢true (sym h)
is_macro_introduced BadValue h = h one_letter
is_macro_introduced BadPosition h = absurd h
is_macro_introduced NotFound h = false≢true (sym h)
is_macro_introduced Ambiguous h = absurd h
is_macro_introduced KeyInUse h = absurd h
is_macro_introduced NameInUse h = false≢true h
is_macro_introduced Referred h = absurd h
is_macro_introduced WouldMerge h = absurd h
is_macro_introduced FileTooLong h = omega (arith, h)
is_macro_introduced TextTooLong h = false≢true h

pub is_keys_made : IsAccepted author_year swapped (RegenerateKeys 1)
unfolding months field_text is_space is_name_byte is_new_key_byte is_name_within is_new_key
is_keys_made BadKey h = false≢true (sym h)
is_keys_made BadName h = false≢true (sym h)
is_keys_made BadValue h = h no_values
is_keys_made BadPosition h = absurd h
is_keys_made NotFound h = absurd h
is_keys_made Ambiguous h = absurd h
is_keys_made KeyInUse h = absurd h
is_keys_made NameInUse h = absurd h
is_keys_made Referred h = absurd h
is_keys_made WouldMerge h = absurd h
is_keys_made FileTooLong h = omega (arith, h)
is_keys_made TextTooLong h = false≢true h

pub is_many_added : IsAccepted author_year family (AddMany (z ∷ []))
unfolding months field_text is_space is_name_byte is_new_key_byte is_name_within is_new_key
is_many_added BadKey h = false≢true (sym h)
is_many_added BadName h = false≢true (sym h)
is_many_added BadValue h = h no_values
is_many_added BadPosition h = absurd h
is_many_added NotFound h = absurd h
is_many_added Ambiguous h = false≢true h
is_many_added KeyInUse h = false≢true h
is_many_added NameInUse h = absurd h
is_many_added Referred h = absurd h
is_many_added WouldMerge h = absurd h
is_many_added FileTooLong h = omega (arith, h)
is_many_added TextTooLong h = false≢true h

pub is_macro_defined : IsAccepted author_year one_field (DefineMacro (codes "m") (only (Digits (codes "2"))))
unfolding months field_text is_space is_name_byte is_new_key_byte is_name_within is_new_key
is_macro_defined BadKey h = false≢true (sym h)
is_macro_defined BadName h = false≢true (sym h)
is_macro_defined BadValue h = h one_digit
is_macro_defined BadPosition h = absurd h
is_macro_defined NotFound h = absurd h
is_macro_defined Ambiguous h = absurd h
is_macro_defined KeyInUse h = absurd h
is_macro_defined NameInUse h = omega (arith, h)
is_macro_defined Referred h = absurd h
is_macro_defined WouldMerge h = absurd h
is_macro_defined FileTooLong h = omega (arith, h)
is_macro_defined TextTooLong h = false≢true h

pub is_macro_set : IsAccepted author_year with_remark (SetMacro (codes "a") (only (Digits (codes "2"))))
unfolding months field_text is_space is_name_byte is_new_key_byte is_name_within is_new_key
is_macro_set BadKey h = false≢true (sym h)
is_macro_set BadName h = false≢true (sym h)
is_macro_set BadValue h = h one_digit
is_macro_set BadPosition h = absurd h
is_macro_set NotFound h = omega (arith, h)
is_macro_set Ambiguous h = omega (arith, h)
is_macro_set KeyInUse h = absurd h
is_macro_set NameInUse h = absurd h
is_macro_set Referred h = absurd h
is_macro_set WouldMerge h = absurd h
is_macro_set FileTooLong h = omega (arith, h)
is_macro_set TextTooLong h = false≢true h

pub is_type_set : IsAccepted author_year one_field (SetType (codes "a") (codes "book"))
unfolding months field_text is_space is_name_byte is_new_key_byte is_name_within is_new_key
is_type_set BadKey h = false≢true (sym h)
is_type_set BadName h = false≢true (sym h)
is_type_set BadValue h = h no_values
is_type_set BadPosition h = absurd h
is_type_set NotFound h = omega (arith, h)
is_type_set Ambiguous h = omega (arith, h)
is_type_set KeyInUse h = absurd h
is_type_set NameInUse h = absurd h
is_type_set Referred h = absurd h
is_type_set WouldMerge h = absurd h
is_type_set FileTooLong h = omega (arith, h)
is_type_set TextTooLong h = false≢true h

pub is_macro_undefined : IsAccepted author_year undefined_use (UndefineMacro (codes "m"))
unfolding months field_text is_space is_name_byte is_new_key_byte is_name_within is_new_key
is_macro_undefined BadKey h = false≢true (sym h)
is_macro_undefined BadName h = false≢true (sym h)
is_macro_undefined BadValue h = h no_values
is_macro_undefined BadPosition h = absurd h
is_macro_undefined NotFound h = omega (arith, h)
is_macro_undefined Ambiguous h = omega (arith, h)
is_macro_undefined KeyInUse h = absurd h
is_macro_undefined NameInUse h = absurd h
is_macro_undefined Referred h = false≢true h
is_macro_undefined WouldMerge h = h (record { front = nothing_clean; trails = undefined_clean })
is_macro_undefined FileTooLong h = omega (arith, h)
is_macro_undefined TextTooLong h = false≢true h

pub is_field_renamed : IsAccepted author_year one_field (RenameField (codes "t") (codes "u") None)
unfolding months field_text is_space is_name_byte is_new_key_byte is_name_within is_new_key
is_field_renamed BadKey h = false≢true (sym h)
is_field_renamed BadName h = false≢true (sym h)
is_field_renamed BadValue h = h no_values
is_field_renamed BadPosition h = absurd h
is_field_renamed NotFound h = false≢true (sym h)
is_field_renamed Ambiguous h = false≢true h
is_field_renamed KeyInUse h = absurd h
is_field_renamed NameInUse h = absurd h
is_field_renamed Referred h = absurd h
is_field_renamed WouldMerge h = absurd h
is_field_renamed FileTooLong h = omega (arith, h)
is_field_renamed TextTooLong h = false≢true h

pub is_one_entry_changed : IsAccepted author_year one_field (ChangeEntry (record { name = codes "a"; number = Some 0 }) (SetsType (codes "book")))
unfolding months field_text is_space is_name_byte is_new_key_byte is_name_within is_new_key
is_one_entry_changed BadKey h = false≢true (sym h)
is_one_entry_changed BadName h = false≢true (sym h)
is_one_entry_changed BadValue h = h no_values
is_one_entry_changed BadPosition h = absurd h
is_one_entry_changed NotFound h = false≢true h
is_one_entry_changed Ambiguous h = false≢true h
is_one_entry_changed KeyInUse h = absurd h
is_one_entry_changed NameInUse h = absurd h
is_one_entry_changed Referred h = absurd h
is_one_entry_changed WouldMerge h = absurd h
is_one_entry_changed FileTooLong h = omega (arith, h)
is_one_entry_changed TextTooLong h = false≢true h

pub is_one_definition_changed : IsAccepted author_year inlined_twice (ChangeDefinition (codes "m") 1 (SetsValue (only (Digits (codes "2")))))
unfolding months field_text is_space is_name_byte is_new_key_byte is_name_within is_new_key
is_one_definition_changed BadKey h = false≢true (sym h)
is_one_definition_changed BadName h = false≢true (sym h)
is_one_definition_changed BadValue h = h one_digit
is_one_definition_changed BadPosition h = absurd h
is_one_definition_changed NotFound h = omega (arith, h)
is_one_definition_changed Ambiguous h = absurd h
is_one_definition_changed KeyInUse h = absurd h
is_one_definition_changed NameInUse h = absurd h
is_one_definition_changed Referred h = absurd h
is_one_definition_changed WouldMerge h = absurd h
is_one_definition_changed FileTooLong h = omega (arith, h)
is_one_definition_changed TextTooLong h = false≢true h
