-- Texts that agree, field by field.
use Rattle.std.proofs.Common.{◌≡◌, Bool, true, false, cond, ◌&&◌, List, [], ◌∷◌, Option, None, Some, find, option_map, bytes_eq, refl, sym, ◌∙◌, ap, subst}
use Rattle.std.specs.Borrow.{Bor}
use Rattle.std.specs.List.{AllByRecursion}
use Rattle.std.specs.Option.{option_copied}
use Rattle.bib_spec.specs.Bytes.{name_limit}
use Rattle.bib_spec.specs.Text.{Text, folded}
use Rattle.bib_spec.specs.Tree.{Row, IsValue, value_bytes}
use Rattle.bib_spec.specs.Texts.{Macros, raw_text, field_text}
use Rattle.bib_scan.specs.View.{Field}
use Rattle.folded_map.specs.FoldedMap.{value_at}
use Rattle.merge_spec.specs.ThreeWay.{Said, is_row, said_in, alike, agree_on}
use Rattle.bib_sayings.specs.FieldTables.{names_of, IsTableOfRows, same_texts}

abbrev pub IsRowValue : Row → Type 0
IsRowValue row = IsValue name_limit row.assignment.value

-- the value of the row that is found
pub found-value : (name : Text) (rows : List Row) (row : Row) → AllByRecursion IsRowValue rows → find (is_row name) rows ≡ Some row → IsRowValue row
found-value name [] row all is = cc
found-value name (r ∷ rows) row all is = at (is_row name r) is (λ e. found-value name rows row all.1 e)
  where
    at : (b : Bool) → cond b (Some r) (find (is_row name) rows) ≡ Some row → (find (is_row name) rows ≡ Some row → IsRowValue row) → IsRowValue row
    at true e later = let same_row : r ≡ row = cc in subst IsRowValue same_row all.0
    at false e later = later e

-- a row, as what it says
abbrev pub said_of : Macros → Row → Said
said_of m row = record { bytes = value_bytes row.assignment.value; text = field_text (raw_text m row.assignment.value) }

abbrev pub value_of : Row → Text
value_of row = value_bytes row.assignment.value

-- the answer about two values is that about the rows that have them
pub texts-said : (ma mb : Macros) (ra rb : List Row) (name : Text) (x y : Option Text) (answer : Bool) → AllByRecursion IsRowValue ra → AllByRecursion IsRowValue rb →
    x ≡ option_map value_of (find (is_row name) ra) → y ≡ option_map value_of (find (is_row name) rb) → same_texts ma x mb y answer →
    answer ≡ alike (λ p q. bytes_eq p.text q.text) (said_in ma ra name) (said_in mb rb name)
texts-said ma mb ra rb name x y answer all_a all_b x_is y_is says =
    at (find (is_row name) ra) (find (is_row name) rb) (λ row is. found-value name ra row all_a is) (λ row is. found-value name rb row all_b is)
    (subst (λ o. same_texts ma (option_map value_of (find (is_row name) ra)) mb o answer) y_is (subst (λ o. same_texts ma o mb y answer) x_is says))
  where
    at : (oa ob : Option Row) → ((row : Row) → oa ≡ Some row → IsRowValue row) → ((row : Row) → ob ≡ Some row → IsRowValue row) → same_texts ma (option_map value_of oa) mb (option_map value_of ob) answer →
        answer ≡ alike (λ p q. bytes_eq p.text q.text) (option_map (said_of ma) oa) (option_map (said_of mb) ob)
    at None None va vb s = s
    at None (Some b) va vb s = s
    at (Some a) None va vb s = s
    at (Some a) (Some b) va vb s = s a.assignment.value (va a refl) refl b.assignment.value (vb b refl) refl

-- with the fields that are left, the answer is that about all
abbrev pub IsAgreedTo : Macros → Macros → List (Text × Bor Text) → List (Text × Bor Text) → List Field → List Field → Type 0
IsAgreedTo ma mb ta tb all rest = (ra rb : List Row) → IsTableOfRows ta ra → IsTableOfRows tb rb → agree_on (names_of all) ma ra mb rb ≡ agree_on (names_of rest) ma ra mb rb

module _ (ma mb : Macros) (ta tb : List (Text × Bor Text)) (all rest : List Field) (f : Field) (x y : Option (Bor Text)) (answer : Bool)
    (x_is : x ≡ value_at ta (folded f.name)) (y_is : y ≡ value_at tb (folded f.name)) (says : same_texts ma (option_copied x) mb (option_copied y) answer) where
  first : (ra rb : List Row) → IsTableOfRows ta ra → IsTableOfRows tb rb → answer ≡ alike (λ p q. bytes_eq p.text q.text) (said_in ma ra f.name) (said_in mb rb f.name)
  first ra rb a b = texts-said ma mb ra rb f.name (option_copied x) (option_copied y) answer a.values b.values (ap option_copied x_is ∙ a.named f.name) (ap option_copied y_is ∙ b.named f.name) says

  pub agreed-next : answer ≡ true → IsAgreedTo ma mb ta tb all (f ∷ rest) → IsAgreedTo ma mb ta tb all rest
  agreed-next is so_far ra rb a b = so_far ra rb a b ∙ ap (λ t. t && agree_on (names_of rest) ma ra mb rb) (sym (first ra rb a b) ∙ is)

  pub agreed-not : answer ≡ false → IsAgreedTo ma mb ta tb all (f ∷ rest) → (ra rb : List Row) → IsTableOfRows ta ra → IsTableOfRows tb rb → false ≡ agree_on (names_of all) ma ra mb rb
  agreed-not is so_far ra rb a b = sym (so_far ra rb a b ∙ ap (λ t. t && agree_on (names_of rest) ma ra mb rb) (sym (first ra rb a b) ∙ is))
