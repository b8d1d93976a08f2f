-- Why removing one definition of a macro among several is refused, and that it is not; and the one piece that it is.
use Rattle.bib_edit.proofs.Words.{◌≡◌, ℕ, suc, ◌+◌, true, false, [], ◌∷◌, Some, None, is_some, drop, refl, sym, ◌∙◌, ap, subst, add-one, true≢false, both_ways, All-nil, option_map_or, name_limit, Text, is_name, DefinitionTree, IsValue, Item, Reading, months, too_long_at, Opens, Kept, pieces_of_chunks, kept_items, HasCleanTexts}
use Rattle.bib_edit.proofs.Words.{BadKey, BadName, BadValue, BadPosition, NotFound, Ambiguous, KeyInUse, NameInUse, Referred, WouldMerge, FileTooLong, TextTooLong, Edit, IsAccepted, IsFirstRefusal, pieces_of, made_base, JoinsCleanly, removal_of}
use Rattle.edit_spec.specs.Edits.{ChangeDefinition, Undefines, definition_meant, definition_changed, change_definition, without_item, is_used_before_next, is_seen_from}
use Rattle.edit_spec.specs.EditChunks.{definition_chunked}
use Rattle.bib_edit.proofs.PieceLengths.{makes-no-longer}
use Rattle.bib_edit.proofs.OpenFiles.{none-long}
use Rattle.bib_edit.proofs.LongTexts.{any_long, too_long-any}
use Rattle.bib_edit.proofs.MeantItems.{item_at, removal-pieces_at, joins-clean_at, clean-joins_at}
use Rattle.bib_edit.proofs.MeantDefinitions.{IsMeantDefinition, meant-definition, definitions-few, definitions-many}
use Rattle.bib_edit.proofs.UnusedDefinitions.{undefined-short}
use Rattle.bib_edit.proofs.GivenNames.{and_name}
use Rattle.bib_edit.proofs.Ranks.{Passes, no_reason, more, is_first, all_clear}

module _ (name : Text) (k : ℕ) (db : Reading) where
  abbrev removal : Edit
  removal = ChangeDefinition name k Undefines

  pub undefine-one-unnamed : is_name name ≡ false → IsFirstRefusal made_base db removal BadName
  undefine-one-unnamed none = is_first BadName (sym (and_name (is_name name)) ∙ none) (more BadKey (λ h. true≢false h) no_reason)

  module _ (named : is_name name ≡ true) where
    passes_given : Passes made_base db removal 4
    passes_given = more BadPosition (λ h. h) (more BadValue (λ h. h (All-nil (IsValue name_limit)))
        (more BadName (λ h. true≢false (sym named ∙ and_name (is_name name) ∙ h)) (more BadKey (λ h. true≢false h) no_reason)))

    pub undefine-one-missing : definition_meant name k db.items ≡ None → IsFirstRefusal made_base db removal NotFound
    undefine-one-missing none = is_first NotFound (definitions-few name k db none) passes_given

    module _ (n : ℕ) (found : definition_meant name k db.items ≡ Some n) where
      it : IsMeantDefinition name db n
      it = meant-definition name k db n found

      abbrev item : Item
      item = item_at (DefinitionTree it.definition) it.trail

      passes_found : Passes made_base db removal 8
      passes_found = more NameInUse (λ h. h) (more KeyInUse (λ h. h) (more Ambiguous (λ h. h) (more NotFound (definitions-many name k db n found) passes_given)))

      abbrev new : Reading
      new = without_item n db.front db.items

      made : change_definition name k Undefines db ≡ new
      made = ap (λ o. option_map_or (λ n. definition_changed Undefines n db) o db) found

      next_is : is_used_before_next name (drop (suc n) db.items) ≡ is_used_before_next name (drop (n + 1) db.items)
      next_is = ap (λ j. is_used_before_next name (drop j db.items)) (sym (add-one n))

      seen_is : option_map_or (λ n. is_seen_from name n db.items) (definition_meant name k db.items) false ≡ is_used_before_next name (drop (n + 1) db.items)
      seen_is = ap (λ o. option_map_or (λ n. is_seen_from name n db.items) o false) found ∙ next_is

      pub undefine-one-pieces : pieces_of made_base db removal ≡ removal_of db n ∷ []
      undefine-one-pieces = ap (λ o. pieces_of_chunks (Kept db.front ∷ option_map_or (λ n. definition_chunked Undefines n db.items) o (kept_items db.items))) found
          ∙ removal-pieces_at db n item it.at

      pub undefine-one-seen : is_used_before_next name (drop (n + 1) db.items) ≡ true → IsFirstRefusal made_base db removal Referred
      undefine-one-seen seen = is_first Referred (seen_is ∙ seen) passes_found

      module _ (unseen : is_used_before_next name (drop (n + 1) db.items) ≡ false) where
        passes_unseen : Passes made_base db removal 9
        passes_unseen = more Referred (λ seen. true≢false (sym seen ∙ seen_is ∙ unseen)) passes_found

        pub undefine-one-merges : (JoinsCleanly db n → ⊥) → IsFirstRefusal made_base db removal WouldMerge
        undefine-one-merges unclean = is_first WouldMerge (λ clean. unclean (clean-joins_at db n item it.at (subst HasCleanTexts made clean))) passes_unseen

        pub undefine-one-accepted : (file : Text) → Opens file db → JoinsCleanly db n → IsAccepted made_base db removal
        undefine-one-accepted file opens joins = all_clear
            (more TextTooLong (λ long. both_ways (any_long months new.items)
            (undefined-short name months n db.front db.items item it.at it.named (next_is ∙ unseen) (none-long file db opens)) (sym (too_long-any new) ∙ sym (ap (λ (r : Reading). is_some (too_long_at r)) made) ∙ long))
            (more FileTooLong (makes-no-longer removal file db opens.reads _ (sym undefine-one-pieces) refl opens.short)
            (more WouldMerge (λ merges. merges (subst HasCleanTexts (sym made) (joins-clean_at db n item it.at file opens.reads joins))) passes_unseen)))
