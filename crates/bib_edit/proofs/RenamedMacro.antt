-- Why a renaming of a macro is refused, and that it is not.
use Rattle.bib_edit.proofs.Words.{◌≡◌, ℕ, ◌+◌, ◌<◌, ◌≤◌, ◌&&◌, true, false, not, List, ◌∷◌, length, drop, sym, ◌∙◌, ap, arith, true≢false, both_ways, All-nil, name_limit, file_limit, Text, same, is_name, Definition, IsValue, Reading, Reads, months, Opens, RenameMacro, BadKey, BadName, BadValue}
use Rattle.bib_edit.proofs.Words.{BadPosition, NotFound, Ambiguous, KeyInUse, NameInUse, Referred, WouldMerge, FileTooLong, TextTooLong, definitions, uses, is_in_use, rename_macro, IsAccepted, IsFirstRefusal, pieces_of, start_of, made_base, OfReading, IsRefusal, IsDefinedAt, IsDefinitionAt}
use Rattle.bib_edit.proofs.Words.{IsDefinitionFault, none_defines, many_define, name_token, items_placed, tokens_of, replaced, Piece, olds_len, news_len}
use Rattle.edit_spec.proofs.MacroLaws.{all_free}
use Rattle.bib_edit.proofs.DefinedNames.{first-definition}
use Rattle.bib_data.specs.declared.edit.Edit.TheVariants as asked
use Rattle.bib_edit.specs.declared.fault.EditFault.{EditFault as Fault}
use Rattle.bib_edit.specs.declared.fault.EditFault.TheVariants as fault
use Rattle.bib_edit.proofs.PieceLengths.{makes-long, makes-short}
use Rattle.bib_edit.proofs.MacroPieces.{renamed-pieces}
use Rattle.bib_edit.proofs.MacroTexts.{long-renamed}
use Rattle.bib_edit.proofs.OpenFiles.{none-long}
use Rattle.bib_edit.proofs.LongTexts.{any_long, too_long-any}
use Rattle.bib_edit.proofs.AskedEdits.{of-rename_macro}
use Rattle.bib_edit.proofs.GivenNames.{and_names}
use Rattle.bib_edit.proofs.Ranks.{Passes, no_reason, more, is_first, all_clear}

-- ---- the reasons in their order

module _ (from to : Text) (db : Reading) where
  passes_keys : Passes made_base db (RenameMacro from to) 1
  passes_keys = more BadKey (λ h. true≢false h) no_reason

  module _ (named : (is_name from && is_name to) ≡ true) where
    passes_given : Passes made_base db (RenameMacro from to) 4
    passes_given =
        more BadPosition (λ h. h) (more BadValue (λ h. h (All-nil (IsValue name_limit)))
        (more BadName (λ h. true≢false (sym named ∙ and_names (is_name from) (is_name to) ∙ h)) passes_keys))

    pub rename-missing : definitions from db ≡ 0 → IsFirstRefusal made_base db (RenameMacro from to) NotFound
    rename-missing none = is_first NotFound none passes_given

    pub rename-ambiguous : 1 < definitions from db → IsFirstRefusal made_base db (RenameMacro from to) Ambiguous
    rename-ambiguous twice = is_first Ambiguous twice (more NotFound (λ none. omega (arith, none, twice)) passes_given)

    module _ (once : definitions from db ≡ 1) where
      passes_found : Passes made_base db (RenameMacro from to) 7
      passes_found = more KeyInUse (λ h. h) (more Ambiguous (λ twice. omega (arith, twice, once)) (more NotFound (λ none. omega (arith, none, once)) passes_given))

      pub rename-in_use : (not (same to from) && is_in_use to db.items) ≡ true → IsFirstRefusal made_base db (RenameMacro from to) NameInUse
      rename-in_use used = is_first NameInUse used passes_found

      module _ (unused : (not (same to from) && is_in_use to db.items) ≡ false) where
        passes_unused : Passes made_base db (RenameMacro from to) 10
        passes_unused = more WouldMerge (λ h. h) (more Referred (λ h. h) (more NameInUse (λ used. both_ways (not (same to from) && is_in_use to db.items) unused used) passes_found))

        module _ (file : Text) (opens : Opens file db) (ps : List Piece) (are : ps ≡ pieces_of made_base db (RenameMacro from to)) where
          pub rename-long_file : file_limit + olds_len ps < length file + news_len ps → IsFirstRefusal made_base db (RenameMacro from to) FileTooLong
          rename-long_file over = is_first FileTooLong (makes-long (RenameMacro from to) file db opens.reads ps are over) passes_unused

          pub rename-accepted : length file + news_len ps ≤ file_limit + olds_len ps → IsAccepted made_base db (RenameMacro from to)
          rename-accepted short = all_clear
              (more TextTooLong (λ long. both_ways (any_long months (rename_macro from to db).items) (long-renamed from to months db.items (all_free from to db unused) ∙ none-long file db opens) (sym (too_long-any (rename_macro from to db)) ∙ long))
              (more FileTooLong (makes-short (RenameMacro from to) file db opens.reads ps are short) passes_unused))

-- ---- as it is asked for

pub refused-name : (from to file : Text) → (is_name from && is_name to) ≡ false → IsRefusal file (asked.RenameMacro from to) fault.BadName
refused-name from to file none db reads = of-rename_macro from to (λ e. IsFirstRefusal made_base db e BadName) (is_first BadName (sym (and_names (is_name from) (is_name to)) ∙ none) (passes_keys from to db))

pub refused-definition : (from to file : Text) → (is_name from && is_name to) ≡ true → (fault : Fault) → IsDefinitionFault file from fault → IsRefusal file (asked.RenameMacro from to) fault
refused-definition from to file named fault (none_defines h) = λ db reads. of-rename_macro from to (λ e. IsFirstRefusal made_base db e NotFound) (rename-missing from to db named (h db reads))
refused-definition from to file named fault (many_define h) = λ db reads. of-rename_macro from to (λ e. IsFirstRefusal made_base db e Ambiguous) (rename-ambiguous from to db named (h db reads))

-- what is found in the file: the one definition, and the names from there on
module _ (file from to : Text) (n : ℕ) (lone : OfReading file (λ db. IsDefinedAt from db n)) where
  pub defined-there : OfReading file (λ db. (d : Definition) × IsDefinitionAt db.items n d)
  defined-there db reads = let d = first-definition from db n (lone db reads).item in (d.0, d.1)

  module _ (tokens : List (ℕ × Text))
      (told : OfReading file (λ db. (d : Definition) → IsDefinitionAt db.items n d → tokens ≡ name_token (start_of db n) d ∷ tokens_of (uses from) (items_placed (start_of db n) (drop n db.items)))) where
    pub renaming-pieces : (db : Reading) → Reads file db → replaced to tokens ≡ pieces_of made_base db (RenameMacro from to)
    renaming-pieces db reads =
        let one = lone db reads in
        let d = first-definition from db n one.item in
        sym (renamed-pieces from to made_base db n one.item one.once d.0 d.1 d.2 ∙ ap (replaced to) (sym (told db reads d.0 d.1)))
