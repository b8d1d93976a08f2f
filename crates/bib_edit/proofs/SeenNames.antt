-- Names that are seen one after another, until one is seen a second time.
use Rattle.bib_edit.proofs.Words.{◌≡◌, ℕ, ◌+◌, ◌<◌, Bool, true, false, ◌||◌, List, [], ◌∷◌, ◌++◌, Some, is_some, get_or, length, map, take, drop, ⊎_elim, refl, sym, ◌∙◌, ap, ap₂, take-append-drop, or-false, or-true, list_any, bytes_eq, cases_Bool, cond-true, cond-false, take_more}
use Rattle.bib_edit.proofs.Words.{map-append, Text, folded, same, has_same, same_comm, value_at, IsWith, list_any-append}

pub take-read : {X : Type 0} (xs : List X) (i : ℕ) (x : X) → i < length xs → x ≡ get_or xs i x → take (i + 1) xs ≡ take i xs ++ x ∷ []
take-read xs i x lt e = take_more xs i x lt ∙ ap (λ y. take i xs ++ y ∷ []) (sym e)

regroup : (a b c d : Bool) → ((a || (b || false)) || (c || d)) ≡ ((a || c) || (b || d))
regroup true b c d = refl
regroup false true true d = refl
regroup false true false d = refl
regroup false false c d = refl

has_same-last : (names : List Text) (name : Text) → has_same (names ++ name ∷ []) ≡ (has_same names || list_any (same name) names)
has_same-last [] name = refl
has_same-last (first ∷ names) name =
    ap₂ ◌||◌ (list_any-append (same first) names (name ∷ [])) (has_same-last names name)
    ∙ regroup (list_any (same first) names) (same first name) (has_same names) (list_any (same name) names)
    ∙ ap (λ b. (list_any (same first) names || has_same names) || (b || list_any (same name) names)) (same_comm first name)

has_same-front : (names more : List Text) → has_same names ≡ true → has_same (names ++ more) ≡ true
has_same-front [] more h = cc
has_same-front (first ∷ names) more h = ⊎_elim
    (λ t. ap (λ b. b || has_same (names ++ more)) (list_any-append (same first) names more ∙ ap (λ b. b || list_any (same first) more) t))
    (λ t. ap (λ b. list_any (same first) (names ++ more) || b) (has_same-front names more (sym (ap (λ b. b || has_same names) t) ∙ h)) ∙ or-true (list_any (same first) (names ++ more)))
    (cases_Bool (list_any (same first) names))

module _ {X : Type 0} (name_of : X → Text) where
  -- the names of the first i
  abbrev pub names_to : List X → ℕ → List Text
  names_to xs i = map name_of (take i xs)

  -- none of the first i has the name of an earlier one, and the table has their names, folded
  pub record SeenTo (xs : List X) (i : ℕ) (seen : List (Text × Bool)) : Type 0 where
    pub none : has_same (names_to xs i) ≡ false
    pub table : (t : Text) → is_some (value_at seen t) ≡ list_any (λ name. bytes_eq t (folded name)) (names_to xs i)

  module _ (xs : List X) (i : ℕ) (seen : List (Text × Bool)) (x : X) (to : SeenTo xs i seen) (lt : i < length xs) (at : x ≡ get_or xs i x) where
    abbrev name : Text
    name = name_of x

    abbrev earlier : List Text
    earlier = names_to xs i

    one_more : names_to xs (i + 1) ≡ earlier ++ name ∷ []
    one_more = ap (map name_of) (take-read xs i x lt at) ∙ map-append name_of (take i xs) (x ∷ [])

    split : map name_of xs ≡ names_to xs (i + 1) ++ map name_of (drop (i + 1) xs)
    split = ap (map name_of) (sym (take-append-drop (i + 1) xs)) ∙ map-append name_of (take (i + 1) xs) (drop (i + 1) xs)

    last : has_same (names_to xs (i + 1)) ≡ (has_same earlier || list_any (same name) earlier)
    last = ap has_same one_more ∙ has_same-last earlier name

    pub seen-found : is_some (value_at seen (folded name)) ≡ true → has_same (map name_of xs) ≡ true
    seen-found found =
        ap has_same split
        ∙ has_same-front (names_to xs (i + 1)) (map name_of (drop (i + 1) xs)) (last ∙ ap (λ b. has_same earlier || b) (sym (to.table (folded name)) ∙ found) ∙ or-true (has_same earlier))

    pub seen-more : (value : Bool) (new : List (Text × Bool)) → is_some (value_at seen (folded name)) ≡ false → IsWith seen name value new → SeenTo xs (i + 1) new
    seen-more value new missing is = record {
      none = last ∙ ap₂ ◌||◌ to.none (sym (to.table (folded name)) ∙ missing);
      table = table;
    }
      where
        table : (t : Text) → is_some (value_at new t) ≡ list_any (λ name. bytes_eq t (folded name)) (names_to xs (i + 1))
        table t =
            let test : Text → Bool = λ name. bytes_eq t (folded name) in
            let after : list_any test (names_to xs (i + 1)) ≡ (list_any test earlier || (test name || false)) = ap (list_any test) one_more ∙ list_any-append test earlier (name ∷ []) in
            ap is_some (is t) ∙ ⊎_elim
            (λ e. ap is_some (cond-true (bytes_eq t (folded name)) (Some value) (value_at seen t) e) ∙ sym (after ∙ ap (λ b. list_any test earlier || (b || false)) e ∙ or-true (list_any test earlier)))
            (λ e. ap is_some (cond-false (bytes_eq t (folded name)) (Some value) (value_at seen t) e) ∙ to.table t ∙ sym (after ∙ ap (λ b. list_any test earlier || (b || false)) e ∙ or-false (list_any test earlier)))
            (cases_Bool (bytes_eq t (folded name)))
