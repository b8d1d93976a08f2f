-- Why removing the definition of a macro is refused, and that it is not; and the one piece that it is.
use Rattle.bib_edit.proofs.Words.{◌≡◌, ℕ, zero, suc, ◌<◌, true, false, List, [], ◌∷◌, drop, refl, sym, ◌∙◌, ap, arith, true≢false, both_ways, All-nil, cond-true, cond-false, name_limit, Text, is_name, IsValue, Item, Reading, months, Opens, BadKey, BadName, BadValue, BadPosition, NotFound}
use Rattle.bib_edit.proofs.Words.{Ambiguous, KeyInUse, NameInUse, Referred, WouldMerge, FileTooLong, TextTooLong, definitions, defines, uses, have_part, text_of_macro, without_first, IsAccepted, IsFirstRefusal, pieces_of, made_base, IsRefusal, IsDefinedAt, IsDefinitionFault, none_defines, many_define, IsFirstAt, JoinsCleanly, removal_of}
use Rattle.edit_spec.specs.Edits.{UndefineMacro, is_seen, undefine_macro}
use Rattle.edit_spec.proofs.UndefineMacro.{unseen-left}
use Rattle.bib_data.specs.declared.edit.Edit.TheVariants as asked
use Rattle.bib_edit.specs.declared.fault.EditFault.{EditFault as Fault}
use Rattle.bib_edit.specs.declared.fault.EditFault.TheVariants.{BadName as BadNameFault}
use Rattle.bib_edit.proofs.PiecePlaces.{removal-pieces}
use Rattle.bib_edit.proofs.FoundItems.{defined-at}
use Rattle.bib_edit.proofs.PieceLengths.{makes-no-longer}
use Rattle.bib_edit.proofs.OpenFiles.{none-long}
use Rattle.bib_edit.proofs.JoinedTexts.{joins-clean, clean-joins}
use Rattle.bib_edit.proofs.LongTexts.{any_long, too_long-any}
use Rattle.bib_edit.proofs.InlinedTexts.{long-inlined}
use Rattle.bib_edit.specs.Numbers.{is_numbered}
use Rattle.bib_edit.proofs.AskedEdits.{of-undefine_macro}
use Rattle.bib_edit.proofs.GivenNames.{and_name}
use Rattle.bib_edit.proofs.Ranks.{Passes, no_reason, more, is_first, all_clear}

-- a use sees the definition where an item after it has the name
seen-first : (name : Text) (items : List Item) (n : ℕ) → IsFirstAt (defines name) items n → is_seen name items ≡ have_part (uses name) (drop (suc n) items)
seen-first name [] n f = absurd f
seen-first name (item ∷ items) zero f = cond-true (defines name item.tree) (have_part (uses name) items) (is_seen name items) f
seen-first name (item ∷ items) (suc n) f = cond-false (defines name item.tree) (have_part (uses name) items) (is_seen name items) f.0 ∙ seen-first name items n f.1

pub seen-after : (name : Text) (db : Reading) (n m : ℕ) → IsDefinedAt name db n → m ≡ suc n → is_seen name db.items ≡ have_part (uses name) (drop m db.items)
seen-after name db n m lone is = seen-first name db.items n (defined-at name db n lone) ∙ ap (λ k. have_part (uses name) (drop k db.items)) (sym is)

module _ (name : Text) (db : Reading) (named : is_name name ≡ true) where
  passes_given : Passes made_base db (UndefineMacro name) 4
  passes_given = more BadPosition (λ h. h) (more BadValue (λ h. h (All-nil (IsValue name_limit)))
      (more BadName (λ h. true≢false (sym named ∙ and_name (is_name name) ∙ h)) (more BadKey (λ h. true≢false h) no_reason)))

  undefine-missing : definitions name db ≡ 0 → IsFirstRefusal made_base db (UndefineMacro name) NotFound
  undefine-missing none = is_first NotFound none passes_given

  undefine-ambiguous : 1 < definitions name db → IsFirstRefusal made_base db (UndefineMacro name) Ambiguous
  undefine-ambiguous twice = is_first Ambiguous twice (more NotFound (λ none. omega (arith, none, twice)) passes_given)

  module _ (n : ℕ) (lone : IsDefinedAt name db n) where
    passes_found : Passes made_base db (UndefineMacro name) 8
    passes_found =
        let once = lone.once in
        more NameInUse (λ h. h) (more KeyInUse (λ h. h) (more Ambiguous (λ twice. omega (arith, twice, once)) (more NotFound (λ none. omega (arith, none, once)) passes_given)))

    pub undefine-pieces : pieces_of made_base db (UndefineMacro name) ≡ removal_of db n ∷ []
    undefine-pieces = removal-pieces (defines name) db n (defined-at name db n lone)

    pub undefine-seen : is_seen name db.items ≡ true → IsFirstRefusal made_base db (UndefineMacro name) Referred
    undefine-seen seen = is_first Referred seen passes_found

    module _ (unseen : is_seen name db.items ≡ false) where
      passes_unseen : Passes made_base db (UndefineMacro name) 9
      passes_unseen = more Referred (λ h. both_ways (is_seen name db.items) unseen h) passes_found

      pub undefine-merges : (JoinsCleanly db n → ⊥) → IsFirstRefusal made_base db (UndefineMacro name) WouldMerge
      undefine-merges unclean = is_first WouldMerge (λ clean. unclean (clean-joins (defines name) db n (defined-at name db n lone) clean)) passes_unseen

      -- all that stays says what it said
      undefined-short : (file : Text) → Opens file db → any_long months (undefine_macro name db).items ≡ false
      undefined-short file opens =
          ap (λ (items : List Item). any_long months (without_first (defines name) db.front items).items) (sym (unseen-left name (text_of_macro name db) db.items unseen))
          ∙ long-inlined name (text_of_macro name db) months db.front db.items lone.once refl (none-long file db opens)

      pub undefine-accepted : (file : Text) → Opens file db → JoinsCleanly db n → IsAccepted made_base db (UndefineMacro name)
      undefine-accepted file opens joins = all_clear
          (more TextTooLong (λ long. both_ways (any_long months (undefine_macro name db).items) (undefined-short file opens) (sym (too_long-any (undefine_macro name db)) ∙ long))
          (more FileTooLong (makes-no-longer (UndefineMacro name) file db opens.reads _ (sym undefine-pieces) refl opens.short)
          (more WouldMerge (λ merges. merges (joins-clean (defines name) db n (defined-at name db n lone) file opens.reads joins)) passes_unseen)))

-- ---- as it is asked for

pub refused-name : (name file : Text) → is_numbered name ≡ false → is_name name ≡ false → IsRefusal file (asked.UndefineMacro name) BadNameFault
refused-name name file plain none db reads = of-undefine_macro name plain (λ e. IsFirstRefusal made_base db e BadName) (is_first BadName (sym (and_name (is_name name)) ∙ none) (more BadKey (λ h. true≢false h) no_reason))

pub refused-undefining : (name file : Text) → is_numbered name ≡ false → is_name name ≡ true → (fault : Fault) → IsDefinitionFault file name fault → IsRefusal file (asked.UndefineMacro name) fault
refused-undefining name file plain named fault (none_defines h) = λ db reads. of-undefine_macro name plain (λ e. IsFirstRefusal made_base db e NotFound) (undefine-missing name db named (h db reads))
refused-undefining name file plain named fault (many_define h) = λ db reads. of-undefine_macro name plain (λ e. IsFirstRefusal made_base db e Ambiguous) (undefine-ambiguous name db named (h db reads))
