-- Why the introducing of a macro is refused, and that it is not.
use Rattle.bib_edit.proofs.Words.{◌≡◌, ℕ, ◌+◌, ◌<◌, ◌≤◌, ◌||◌, Bool, true, false, is_some, List, [], ◌∷◌, Option, Some, None, option_map, length, take, drop, sym, ◌∙◌, ap, subst, IfSome, list_any, true≢false, both_ways, or_parts, All-nil, All-cons, All-head, name_limit, file_limit, Text, folded}
use Rattle.bib_edit.proofs.Words.{is_name, IsBalanced, IsLink, IsValue, Tree, Item, Reading, Reads, months, Opens, IntroduceMacro, BadKey, BadName, BadValue, BadPosition, NotFound, Ambiguous, KeyInUse, NameInUse, Referred, WouldMerge, FileTooLong, TextTooLong, in_braces, defines, uses, holds}
use Rattle.bib_edit.proofs.Words.{any_part, is_in_use, introduce_macro, IsAccepted, IsFirstRefusal, pieces_of, InItems, start_of, OfReading, made_base, first_item, definition_text, is_used, insertion_of, items_placed, tokens_of, replaced, Piece, olds_len, news_len, first-any}
use Rattle.edit_spec.proofs.InUse.{InItems_none}
use Rattle.edit_spec.proofs.IntroduceMacro.{IsUnused, IsOther}
use Rattle.bib_tokens.specs.declared.tokens.First.{First}
use Rattle.bib_edit.proofs.PieceLengths.{makes-long, makes-short}
use Rattle.bib_edit.proofs.MacroPieces.{introduced-pieces}
use Rattle.bib_edit.proofs.MacroTexts.{long-introduced}
use Rattle.bib_edit.proofs.OpenFiles.{none-long}
use Rattle.bib_edit.proofs.LongTexts.{any_long, too_long-any}
use Rattle.bib_edit.proofs.GivenNames.{and_name}
use Rattle.bib_edit.proofs.Ranks.{Passes, no_reason, more, is_first, all_clear}

module _ (name text : Text) (db : Reading) where
  passes_keys : Passes made_base db (IntroduceMacro name text) 1
  passes_keys = more BadKey (λ h. true≢false h) no_reason

  pub introduce-unnamed : is_name name ≡ false → IsFirstRefusal made_base db (IntroduceMacro name text) BadName
  introduce-unnamed none = is_first BadName (sym (and_name (is_name name)) ∙ none) passes_keys

  module _ (named : is_name name ≡ true) where
    passes_name : Passes made_base db (IntroduceMacro name text) 2
    passes_name = more BadName (λ h. true≢false (sym named ∙ and_name (is_name name) ∙ h)) passes_keys

    pub introduce-unbalanced : (IsBalanced text → ⊥) → IsFirstRefusal made_base db (IntroduceMacro name text) BadValue
    introduce-unbalanced bad = is_first BadValue (λ all. bad (All-head (IsValue name_limit) (in_braces text) [] all).first) passes_name

    module _ (balanced : IsBalanced text) where
      passes_given : Passes made_base db (IntroduceMacro name text) 4
      passes_given =
          more BadPosition (λ h. h)
          (more BadValue (λ h. h (All-cons (IsValue name_limit) (in_braces text) [] (record { first = balanced; links = All-nil (IsLink name_limit) }) (All-nil (IsValue name_limit)))) passes_name)

      pub introduce-missing : None ≡ first_item (any_part (holds text)) db.items → IsFirstRefusal made_base db (IntroduceMacro name text) NotFound
      introduce-missing none = is_first NotFound (sym (ap is_some none ∙ first-any (any_part (holds text)) db.items)) passes_given

      module _ (n : ℕ) (found : first_item (any_part (holds text)) db.items ≡ Some n) where
        passes_found : Passes made_base db (IntroduceMacro name text) 7
        passes_found =
            more KeyInUse (λ h. h)
            (more Ambiguous (λ h. h) (more NotFound (λ none. true≢false (ap is_some (sym found) ∙ first-any (any_part (holds text)) db.items ∙ none)) passes_given))

        pub introduce-in_use : is_in_use name db.items ≡ true → IsFirstRefusal made_base db (IntroduceMacro name text) NameInUse
        introduce-in_use used = is_first NameInUse used passes_found

        module _ (unused : is_in_use name db.items ≡ false) where
          passes_unused : Passes made_base db (IntroduceMacro name text) 10
          passes_unused = more WouldMerge (λ h. h) (more Referred (λ h. h) (more NameInUse (λ used. both_ways (is_in_use name db.items) unused used) passes_found))

          fine : InItems (IsUnused name text) (IsOther name text) db.items
          fine =
              InItems_none (IsUnused name text) (IsOther name text) (uses name) (λ _ h. h) name (λ _ h. h) db.items
              (or_parts (is_some (months (folded name))) (list_any (λ item. defines name item.tree || any_part (uses name) item.tree) db.items) unused).1

          module _ (file : Text) (opens : Opens file db) (ps : List Piece) (are : ps ≡ pieces_of made_base db (IntroduceMacro name text)) where
            pub introduce-long_file : file_limit + olds_len ps < length file + news_len ps → IsFirstRefusal made_base db (IntroduceMacro name text) FileTooLong
            introduce-long_file over = is_first FileTooLong (makes-long (IntroduceMacro name text) file db opens.reads ps are over) passes_unused

            pub introduce-accepted : length file + news_len ps ≤ file_limit + olds_len ps → IsAccepted made_base db (IntroduceMacro name text)
            introduce-accepted short = all_clear
                (more TextTooLong (λ long. both_ways (any_long months (introduce_macro name text db).items) (long-introduced name text months db.items fine (none-long file db opens)) (sym (too_long-any (introduce_macro name text db)) ∙ long))
                (more FileTooLong (makes-short (IntroduceMacro name text) file db opens.reads ps are short) passes_unused))

-- ---- what is found in the file

-- the first item that has the text, and what was met before it
pub found-first : (test : Tree → Bool) (items : List Item) (o : Option First) (first : First) → o ≡ Some first → option_map (λ (f : First). f.n) o ≡ first_item test items → Some first.n ≡ first_item test items
found-first test items o first is found = sym (ap (option_map (λ (f : First). f.n)) is) ∙ found

pub found-none : (test : Tree → Bool) (items : List Item) (o : Option First) → o ≡ None → option_map (λ (f : First). f.n) o ≡ first_item test items → None ≡ first_item test items
found-none test items o is found = sym (ap (option_map (λ (f : First). f.n)) is) ∙ found

pub met-first : (name file : Text) (o : Option First) (first : First) → o ≡ Some first → IfSome o (λ f. OfReading file (λ db. f.met ≡ is_used name (take f.n db.items))) → OfReading file (λ db. first.met ≡ is_used name (take first.n db.items))
met-first name file o first is met = subst (λ (p : Option First). IfSome p (λ f. OfReading file (λ db. f.met ≡ is_used name (take f.n db.items)))) is met

-- the first item that has the text, and the parts from there on
module _ (file name text : Text) (n : ℕ) (found : OfReading file (λ db. Some n ≡ first_item (any_part (holds text)) db.items)) (tokens : List (ℕ × Text))
    (told : OfReading file (λ db. tokens ≡ tokens_of (holds text) (items_placed (start_of db n) (drop n db.items)))) where
  pub introducing-pieces : (db : Reading) → Reads file db → insertion_of db n (definition_text name text) ∷ replaced name tokens ≡ pieces_of made_base db (IntroduceMacro name text)
  introducing-pieces db reads =
      sym (introduced-pieces made_base db name text n (sym (found db reads)) ∙ ap (λ l. insertion_of db n (definition_text name text) ∷ replaced name l) (sym (told db reads)))
