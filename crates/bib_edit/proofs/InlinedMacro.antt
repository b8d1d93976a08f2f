-- Why the inlining of a macro is refused, and that it is not.
use Rattle.bib_edit.proofs.Words.{◌≡◌, ℕ, ◌+◌, ◌<◌, ◌≤◌, true, false, List, ◌∷◌, length, drop, refl, sym, ◌∙◌, ap, arith, true≢false, both_ways, All-nil, name_limit, file_limit, Text, is_name, IsValue, Reading, Reads, months, Opens, InlineMacro, BadKey, BadName, BadValue, BadPosition, NotFound}
use Rattle.bib_edit.proofs.Words.{Ambiguous, KeyInUse, NameInUse, Referred, WouldMerge, FileTooLong, TextTooLong, definitions, uses, text_of_macro, inline_macro, IsAccepted, IsFirstRefusal, pieces_of, start_of, OfReading, made_base, IsRefusal, IsDefinedAt, IsDefinitionFault, none_defines}
use Rattle.bib_edit.proofs.Words.{many_define, braced, items_placed, tokens_of, replaced, JoinsCleanly, removal_of, Piece, olds_len, news_len}
use Rattle.bib_data.specs.declared.edit.Edit.TheVariants as asked
use Rattle.bib_edit.specs.declared.fault.EditFault.{EditFault as Fault}
use Rattle.bib_edit.specs.declared.fault.EditFault.TheVariants as fault
use Rattle.bib_edit.proofs.PieceLengths.{makes-long, makes-short}
use Rattle.bib_edit.proofs.MacroPieces.{inlined-pieces}
use Rattle.bib_edit.proofs.InlinedTexts.{long-inlined}
use Rattle.bib_edit.proofs.FoundItems.{defined-at}
use Rattle.bib_edit.proofs.OpenFiles.{none-long}
use Rattle.bib_edit.proofs.LongTexts.{any_long, too_long-any}
use Rattle.bib_edit.proofs.AskedEdits.{of-inline_macro}
use Rattle.bib_edit.proofs.KeptTrails.{clean-inlined, inlined-clean}
use Rattle.bib_edit.proofs.GivenNames.{and_name}
use Rattle.bib_edit.proofs.Ranks.{Passes, no_reason, more, is_first, all_clear}

module _ (name : Text) (db : Reading) where
  passes_keys : Passes made_base db (InlineMacro name) 1
  passes_keys = more BadKey (λ h. true≢false h) no_reason

  module _ (named : is_name name ≡ true) where
    passes_given : Passes made_base db (InlineMacro name) 4
    passes_given = more BadPosition (λ h. h) (more BadValue (λ h. h (All-nil (IsValue name_limit))) (more BadName (λ h. true≢false (sym named ∙ and_name (is_name name) ∙ h)) passes_keys))

    pub inline-missing : definitions name db ≡ 0 → IsFirstRefusal made_base db (InlineMacro name) NotFound
    inline-missing none = is_first NotFound none passes_given

    pub inline-ambiguous : 1 < definitions name db → IsFirstRefusal made_base db (InlineMacro name) Ambiguous
    inline-ambiguous twice = is_first Ambiguous twice (more NotFound (λ none. omega (arith, none, twice)) passes_given)

    module _ (n : ℕ) (lone : IsDefinedAt name db n) where
      passes_found : Passes made_base db (InlineMacro name) 9
      passes_found =
          let once = lone.once in
          more Referred (λ h. h) (more NameInUse (λ h. h) (more KeyInUse (λ h. h) (more Ambiguous (λ twice. omega (arith, twice, once)) (more NotFound (λ none. omega (arith, none, once)) passes_given))))

      pub inline-merges : (JoinsCleanly db n → ⊥) → IsFirstRefusal made_base db (InlineMacro name) WouldMerge
      inline-merges unclean = is_first WouldMerge (λ clean. unclean (clean-inlined name (text_of_macro name db) db n (defined-at name db n lone) clean)) passes_found

      module _ (file : Text) (opens : Opens file db) (joins : JoinsCleanly db n) where
        passes_clean : Passes made_base db (InlineMacro name) 10
        passes_clean = more WouldMerge (λ merges. merges (inlined-clean name (text_of_macro name db) db n (defined-at name db n lone) file opens.reads joins)) passes_found

        module _ (ps : List Piece) (are : ps ≡ pieces_of made_base db (InlineMacro name)) where
          pub inline-long_file : file_limit + olds_len ps < length file + news_len ps → IsFirstRefusal made_base db (InlineMacro name) FileTooLong
          inline-long_file over = is_first FileTooLong (makes-long (InlineMacro name) file db opens.reads ps are over) passes_clean

          pub inline-accepted : length file + news_len ps ≤ file_limit + olds_len ps → IsAccepted made_base db (InlineMacro name)
          inline-accepted short = all_clear
              (more TextTooLong (λ long. both_ways (any_long months (inline_macro name db).items) (long-inlined name (text_of_macro name db) months db.front db.items lone.once refl (none-long file db opens)) (sym (too_long-any (inline_macro name db)) ∙ long))
              (more FileTooLong (makes-short (InlineMacro name) file db opens.reads ps are short) passes_clean))

-- ---- as it is asked for

pub refused-name : (name file : Text) → is_name name ≡ false → IsRefusal file (asked.InlineMacro name) fault.BadName
refused-name name file none db reads = of-inline_macro name (λ e. IsFirstRefusal made_base db e BadName) (is_first BadName (sym (and_name (is_name name)) ∙ none) (passes_keys name db))

pub refused-definition : (name file : Text) → is_name name ≡ true → (fault : Fault) → IsDefinitionFault file name fault → IsRefusal file (asked.InlineMacro name) fault
refused-definition name file named fault (none_defines h) = λ db reads. of-inline_macro name (λ e. IsFirstRefusal made_base db e NotFound) (inline-missing name db named (h db reads))
refused-definition name file named fault (many_define h) = λ db reads. of-inline_macro name (λ e. IsFirstRefusal made_base db e Ambiguous) (inline-ambiguous name db named (h db reads))

-- what is found in the file: the one definition, and the uses after it
module _ (file name : Text) (n : ℕ) (lone : OfReading file (λ db. IsDefinedAt name db n)) (tokens : List (ℕ × Text))
    (told : OfReading file (λ db. tokens ≡ tokens_of (uses name) (items_placed (start_of db (n + 1)) (drop (n + 1) db.items)))) where
  pub inlining-pieces : (db : Reading) → Reads file db → removal_of db n ∷ replaced (braced (text_of_macro name db)) tokens ≡ pieces_of made_base db (InlineMacro name)
  inlining-pieces db reads =
      sym (inlined-pieces made_base db name n (lone db reads).item ∙ ap (λ l. removal_of db n ∷ replaced (braced (text_of_macro name db)) l) (sym (told db reads)))
