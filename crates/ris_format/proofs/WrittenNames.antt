-- Names that are asked one after another whether they are refused, and whether one has a word.
use Rattle.ris_format.proofs.Words.{◌≡◌, ◌+◌, ◌<◌, ℕ, suc, drop, get_or, length, Bor, Bool, true, false, ◌&&◌, ◌||◌, ltb, [], ◌∷◌, refl, sym, ap, ◌∙◌, arith, ⊎_elim, Some, None, if◌then◌else◌, list_any, option_map_or, cases_Bool, cond-true, cond-false, lt-ltb, le-ltb, Text, IsBalanced, IsBalanced-from_test, balances, commas, parts_of, without_end, Name, has_bytes, Person, person}
use Rattle.ris_format.proofs.Words.{is_somebody, ris_name, is_broken, written_person}
use Rattle.std.proofs.Common.{not, map, List}
use Rattle.std.proofs.Math.Numerals.{add-one}
use Rattle.std.proofs.Math.Seq.{drop-cons}
use Rattle.std.specs.Prelude.{Option, is_none}
use Rattle.bib_names.proofs.CommaLemmas.{few_commas, many_commas}
use Rattle.ris_format.specs.Carried.{has_texts, is_written_name}
use Rattle.ris_format.proofs.NamesWithWords.{somebody-left}

-- none of the names is refused, and one has a word or one before them had
abbrev pub goes_on : Bool → List Text → Bool
goes_on b names = (b || list_any is_written_name names) && not (list_any is_broken names)

pub goes_on-none : (b : Bool) → goes_on b [] ≡ b
goes_on-none true = refl
goes_on-none false = refl

-- the next of some names
next_name : (b b' : Bool) (names : List (Bor Text)) (i : ℕ) (d : Bor Text) (all : Bool) → ((rest : List Text) → goes_on b ((get_or names i d).now ∷ rest) ≡ goes_on b' rest) → i < length names
    → goes_on b (map (λ (n : Bor Text). n.now) (drop i names)) ≡ all → goes_on b' (map (λ (n : Bor Text). n.now) (drop (i + 1) names)) ≡ all
next_name b b' names i d all step within told =
    ap (λ k. goes_on b' (map (λ (n : Bor Text). n.now) (drop k names))) (add-one i)
    ∙ sym (ap (λ (ns : List (Bor Text)). goes_on b (map (λ (n : Bor Text). n.now) ns)) (drop-cons names i d within) ∙ step (map (λ (n : Bor Text). n.now) (drop (suc i) names)))
    ∙ told

-- a refused name
name_refused : (b : Bool) (name : Text) (rest : List Text) → is_broken name ≡ true → goes_on b (name ∷ rest) ≡ false
name_refused b name rest broken = ap (λ c. (b || list_any is_written_name (name ∷ rest)) && not (c || list_any is_broken rest)) broken ∙ last (b || list_any is_written_name (name ∷ rest))
  where
    last : (c : Bool) → c && false ≡ false
    last true = refl
    last false = refl

-- a name that is not refused has a word if a byte is left of it
word_left : (name : Text) → is_broken name ≡ false → is_written_name name ≡ has_bytes (without_end name)
word_left name whole = ⊎_elim
    (λ (is : balances name ≡ true).
    let apart = cond-true (balances name) (parts_of name) None is in
    ap has_line apart ∙ of_parts (parts_of name) refl (ap is_none (sym apart) ∙ whole) (IsBalanced-from_test name is))
    (λ (not_is : balances name ≡ false). absurd (let e = sym (ap is_none (cond-false (balances name) (parts_of name) None not_is)) ∙ whole in cc))
    (cases_Bool (balances name))
  where
    has_line : Option Name → Bool
    has_line o = has_texts (option_map_or (λ (parts : Name). written_person (person name parts)) o [])

    word : (q : Person) → has_texts (written_person q) ≡ is_somebody q
    word q = go (is_somebody q)
      where
        go : (c : Bool) → has_texts (if c then ris_name q ∷ [] else []) ≡ c
        go true = refl
        go false = refl

    of_parts : (o : Option Name) → parts_of name ≡ o → is_none o ≡ false → IsBalanced name → has_line o ≡ has_bytes (without_end name)
    of_parts None e some is = absurd (cc)
    of_parts (Some parts) e some is = word (person name parts) ∙ somebody-left name parts is e

name_passed : (b : Bool) (name : Text) (rest : List Text) → is_broken name ≡ false → goes_on b (name ∷ rest) ≡ goes_on (b || has_bytes (without_end name)) rest
name_passed b name rest whole =
    ap (λ c. (b || (is_written_name name || list_any is_written_name rest)) && not (c || list_any is_broken rest)) whole
    ∙ ap (λ c. (b || (c || list_any is_written_name rest)) && not (list_any is_broken rest)) (word_left name whole)
    ∙ ap (λ c. c && not (list_any is_broken rest)) (group b (has_bytes (without_end name)) (list_any is_written_name rest))
  where
    group : (x y z : Bool) → x || (y || z) ≡ (x || y) || z
    group true y z = refl
    group false y z = refl

-- a refused name among some names
pub refused_at : (b : Bool) (names : List (Bor Text)) (i : ℕ) (d : Bor Text) (all : Bool) → is_broken (get_or names i d).now ≡ true → i < length names → goes_on b (map (λ (n : Bor Text). n.now) (drop i names)) ≡ all → false ≡ all
refused_at b names i d all broken within told =
    sym (name_refused b (get_or names i d).now (map (λ (n : Bor Text). n.now) (drop (suc i) names)) broken)
    ∙ ap (λ (ns : List (Bor Text)). goes_on b (map (λ (n : Bor Text). n.now) ns)) (sym (drop-cons names i d within))
    ∙ told

-- a name among some names that is not refused
pub passed_at : (b b' : Bool) (names : List (Bor Text)) (i : ℕ) (d : Bor Text) (all : Bool) → is_broken (get_or names i d).now ≡ false → b' ≡ b || has_bytes (without_end (get_or names i d).now) → i < length names
    → goes_on b (map (λ (n : Bor Text). n.now) (drop i names)) ≡ all → goes_on b' (map (λ (n : Bor Text). n.now) (drop (i + 1) names)) ≡ all
passed_at b b' names i d all whole is within told =
    next_name b b' names i d all (λ rest. name_passed b (get_or names i d).now rest whole ∙ ap (λ c. goes_on c rest) (sym is)) within told

-- a name whose braces match is refused if it has too many commas
pub broken-count : (name : Text) (count : ℕ) → balances name ≡ true → count ≡ length (commas (without_end name)) → ltb 2 count ≡ is_broken name
broken-count name count is same = of_parts (parts_of name) refl ∙ sym (ap is_none (cond-true (balances name) (parts_of name) None is))
  where
    of_parts : (o : Option Name) → parts_of name ≡ o → ltb 2 count ≡ is_none o
    of_parts None e = lt-ltb 2 count (omega (arith, same, many_commas (without_end name) e))
    of_parts (Some parts) e = le-ltb 2 count (omega (arith, same, few_commas (without_end name) parts e))
