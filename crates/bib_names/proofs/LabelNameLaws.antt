-- The prints of names for labels.
use Rattle.bib_names.proofs.Words.{◌≡◌, ◌∙◌, ◌++◌, ◌∷◌, [], List, Bool, true, false, cond, refl, sym, ap, ap₂, append-nil, flat_map, option_map_or, Text, NameWord, initial, printed_words, finished, printed, balances, initials_template, print_of, first_three, letters_of_one, letters_printed, Pattern}
use Rattle.bib_names.proofs.Words.{Name, Part, Von, Last, Initials, Group}
use Rattle.std.proofs.Common.{Option, Some, None, append_assoc}
use Rattle.std.specs.Prelude.{if◌then◌else◌}
use Rattle.bib_names.specs.Name.{parts_of}
use Rattle.bib_names.specs.Printing.{printed_group}
use Rattle.bib_names.specs.Label.{group, last_template}
use Rattle.bib_names.specs.LabelNames.{read_name, initials_printed, last_printed, is_one_letter}

-- ---- groups of initials

abbrev bare : Part → Group
bare part = group part Initials (Some [])

abbrev initials_of_words : List NameWord → Text
initials_of_words words = flat_map (λ (w : NameWord). initial w.text) words

words_initials : (part : Part) (out : Text) (words : List NameWord) → printed_words (bare part) out words ≡ out ++ initials_of_words words
words_initials part out [] = sym (append-nil out)
words_initials part out (w ∷ []) = ap (λ (t : Text). out ++ t) (sym (append-nil (initial w.text)))
words_initials part out (w ∷ next ∷ more) =
    ap (λ (o : Text). printed_words (bare part) o (next ∷ more)) (append-nil (out ++ initial w.text))
    ∙ words_initials part (out ++ initial w.text) (next ∷ more)
    ∙ append_assoc out (initial w.text) (initials_of_words (next ∷ more))

pub group_initials : (part : Part) (words : List NameWord) → printed_group (bare part) words ≡ finished (initials_of_words words)
group_initials part [] = refl
group_initials part (w ∷ more) = ap finished (append-nil (printed_words (bare part) [] (w ∷ more)) ∙ words_initials part [] (w ∷ more))

-- ---- prints

printed_initials : (name : Name) → printed initials_template name ≡ initials_printed name
printed_initials name =
    ap₂ (λ (a b : Text). a ++ b) (append-nil (printed_group (bare Von) name.von))
    (append-nil (printed_group (bare Last) name.last ++ []) ∙ append-nil (printed_group (bare Last) name.last))

printed_last : (name : Name) → printed last_template name ≡ last_printed name
printed_last name = append-nil (last_printed name ++ []) ∙ append-nil (last_printed name)

-- the print of a name, by a print of its parts
by_parts : (t : Pattern) (print : Name → Text) → ((name : Name) → printed t name ≡ print name) → (name : Text) → print_of t name ≡ option_map_or print (read_name name) []
by_parts t print same name = go (balances name) (parts_of name)
  where
    go : (b : Bool) (parts : Option Name) → cond b (option_map_or (printed t) parts []) [] ≡ option_map_or print (cond b parts None) []
    go true (Some parts) = same parts
    go true None = refl
    go false parts = refl

pub print_initials : (name : Text) (found : Option Name) → found ≡ read_name name → print_of initials_template name ≡ option_map_or initials_printed found []
print_initials name found is = by_parts initials_template initials_printed printed_initials name ∙ ap (λ (o : Option Name). option_map_or initials_printed o []) (sym is)

abbrev one_by : Text → Text → Text
one_by initials last = if is_one_letter initials then first_three last else initials

-- the letters of one name, from its parts
pub letters_one : (name : Text) (found : Option Name) → found ≡ read_name name → letters_of_one name ≡ option_map_or letters_printed found []
letters_one name found is =
    ap₂ one_by (by_parts initials_template initials_printed printed_initials name) (by_parts last_template last_printed printed_last name)
    ∙ ap (λ (o : Option Name). one_by (option_map_or initials_printed o []) (option_map_or last_printed o [])) (sym is) ∙ go found
  where
    go : (found : Option Name) → one_by (option_map_or initials_printed found []) (option_map_or last_printed found []) ≡ option_map_or letters_printed found []
    go (Some parts) = refl
    go None = refl
