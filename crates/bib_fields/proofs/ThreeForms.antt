-- Fields of three versions, by their tables.
use Rattle.std.proofs.Common.{◌≡◌, Bool, true, false, ◌&&◌, ◌||◌, not, List, Option, None, Some, find, option_map, refl, sym, ◌∙◌, ap, ap₂, subst}
use Rattle.std.specs.Borrow.{Bor}
use Rattle.std.specs.List.{AllByRecursion}
use Rattle.std.specs.Option.{option_copied}
use Rattle.std.proofs.lemmas.Bool.{true≢false}
use Rattle.bib_spec.specs.Text.{Text, folded}
use Rattle.bib_spec.specs.Tree.{Row, Entry}
use Rattle.bib_spec.specs.Texts.{Macros}
use Rattle.folded_map.specs.FoldedMap.{value_at}
use Rattle.bib_definitions.specs.MacrosSeen.{macros_seen}
use Rattle.merge_spec.specs.ThreeWay.{is_row, said_in, alike, same_value, fields_agree}
use Rattle.bib_sayings.proofs.Agreeing.{IsRowValue, found-value, said_of, value_of}
use Rattle.bib_fields.specs.declared.version.Version.{Version}
use Rattle.bib_fields.specs.Versions.{IsVersion}
use Rattle.bib_fields.specs.Agreeing.{agree, same_bytes, value_in}

-- the answer about two values is that about the rows that have them
agree-said : (ma mb : Macros) (ra rb : List Row) (name : Text) (x y : Option Text) (answer : Bool) → AllByRecursion IsRowValue ra → AllByRecursion IsRowValue rb →
    x ≡ value_in ra name → y ≡ value_in rb name → agree ma x mb y answer → answer ≡ alike fields_agree (said_in ma ra name) (said_in mb rb name)
agree-said ma mb ra rb name x y answer all_a all_b x_is y_is says =
    at (find (is_row name) ra) (find (is_row name) rb) (λ row is. found-value name ra row all_a is) (λ row is. found-value name rb row all_b is)
    (subst (λ o. agree ma (value_in ra name) mb o answer) y_is (subst (λ o. agree ma o mb y answer) x_is says))
  where
    at : (oa ob : Option Row) → ((row : Row) → oa ≡ Some row → IsRowValue row) → ((row : Row) → ob ≡ Some row → IsRowValue row) → agree ma (option_map value_of oa) mb (option_map value_of ob) answer →
        answer ≡ alike fields_agree (option_map (said_of ma) oa) (option_map (said_of mb) ob)
    at None None va vb s = s
    at None (Some b) va vb s = s
    at (Some a) None va vb s = s
    at (Some a) (Some b) va vb s = s a.assignment.value (va a refl) refl b.assignment.value (vb b refl) refl

-- the same of two versions
pub agree-versions : (va vb : Version) (ma mb : Macros) (ea eb : Entry) (name : Text) (x y : Option (Bor Text)) (answer : Bool) → IsVersion va ma ea → IsVersion vb mb eb →
    x ≡ value_at va.table (folded name) → y ≡ value_at vb.table (folded name) → agree (macros_seen va.macros) (option_copied x) (macros_seen vb.macros) (option_copied y) answer →
    answer ≡ alike fields_agree (said_in ma ea.rows name) (said_in mb eb.rows name)
agree-versions va vb ma mb ea eb name x y answer is_a is_b x_is y_is says =
    agree-said ma mb ea.rows eb.rows name (option_copied x) (option_copied y) answer is_a.table.values is_b.table.values
    (ap option_copied x_is ∙ is_a.table.named name) (ap option_copied y_is ∙ is_b.table.named name)
    (subst (λ (m : Macros). agree m (option_copied x) mb (option_copied y) answer) is_a.macros (subst (λ (m : Macros). agree (macros_seen va.macros) (option_copied x) m (option_copied y) answer) is_b.macros says))

-- values that are the same are those of fields that are
value-said : (ma mb : Macros) (ra rb : List Row) (name : Text) → same_bytes (value_in ra name) (value_in rb name) ≡ alike same_value (said_in ma ra name) (said_in mb rb name)
value-said ma mb ra rb name = at (find (is_row name) ra) (find (is_row name) rb)
  where
    at : (oa ob : Option Row) → same_bytes (option_map value_of oa) (option_map value_of ob) ≡ alike same_value (option_map (said_of ma) oa) (option_map (said_of mb) ob)
    at None None = refl
    at None (Some b) = refl
    at (Some a) None = refl
    at (Some a) (Some b) = refl

pub value-version : (v : Version) (macros any : Macros) (e : Entry) (rows : List Row) (name : Text) (x : Option Text) (y : Option (Bor Text)) (answer : Bool) → IsVersion v macros e → x ≡ value_in rows name →
    y ≡ value_at v.table (folded name) → answer ≡ same_bytes x (option_copied y) → answer ≡ alike same_value (said_in any rows name) (said_in macros e.rows name)
value-version v macros any e rows name x y answer is x_is y_is says =
    says ∙ ap₂ same_bytes x_is (ap option_copied y_is ∙ is.table.named name) ∙ value-said any macros rows e.rows name

-- ---- answers of two steps

-- the first of two is found
pub or-first : (answer x y : Bool) → answer ≡ x → answer ≡ true → true ≡ (x || y)
or-first answer true y is yes' = refl
or-first answer false y is yes' = absurd (true≢false (sym yes' ∙ is))

pub or-second : (answer x y next : Bool) → answer ≡ x → answer ≡ false → next ≡ y → next ≡ (x || y)
or-second answer true y next is no' next_is = absurd (true≢false (sym is ∙ no'))
or-second answer false y next is no' next_is = next_is

-- the first of two is not found
pub and-first : (answer x y : Bool) → answer ≡ x → answer ≡ false → false ≡ (x && y)
and-first answer true y is no' = absurd (true≢false (sym is ∙ no'))
and-first answer false y is no' = refl

pub and-second : (answer x y next : Bool) → answer ≡ x → answer ≡ true → next ≡ y → next ≡ (x && y)
and-second answer true y next is yes' next_is = next_is
and-second answer false y next is yes' next_is = absurd (true≢false (sym yes' ∙ is))

-- a field is in conflict, or not
pub conflict-none : (answer ours bo : Bool) → answer ≡ ours → answer ≡ true → false ≡ not (ours || bo)
conflict-none answer true bo is yes' = refl
conflict-none answer false bo is yes' = absurd (true≢false (sym yes' ∙ is))

pub conflict-left : (answer ours bo left : Bool) → answer ≡ ours → answer ≡ false → left ≡ bo → not left ≡ not (ours || bo)
conflict-left answer true bo left is no' left_is = absurd (true≢false (sym is ∙ no'))
conflict-left answer false bo left is no' left_is = ap not left_is
