-- How long the texts are that names stand for.
use Rattle.bib_definitions.proofs.Words.{◌≡◌, ℕ, ◌≤◌, nat_lt, Bool, true, false, cond, List, [], ◌∷◌, length, Option, Some, None, ⊎_elim, sym, ap, subst, ◌∙◌, arith, All, bytes_eq, AllByRecursion, cases_Bool, cond-true, cond-false, none-some, same_Some, Text, folded, Item, months, Definition}
use Rattle.bib_definitions.proofs.Words.{or_else, Defined, definitions_of, text_before, with_definition, without_label, Gives, AreAsLong, rank_in, Known, label_at, texts_at, AreDefinitionsOf, AreAtMost}
use Rattle.std.proofs.Common.{find}
use Rattle.std.specs.Option.{option_map}
use Rattle.bib_spec.specs.Texts.{month_names}
use Rattle.bib_definitions.specs.ByName.{texts_before}
use Rattle.bib_definitions.proofs.DefinedNames.{given_all}
use Rattle.bib_definitions.proofs.PlacedDefinitions.{all_by_recursion, all_by_place, all_with, all_without}

-- the first of these texts that passes is as short as all are
all_within : (n : ℕ) (test : Text × Text → Bool) (names : List (Text × Text)) → AllByRecursion (λ m. length m.1 ≤ n) names → (t : Text) → option_map (λ m. m.1) (find test names) ≡ Some t → length t ≤ n
all_within n test [] short t is = absurd (none-some t is)
all_within n test (m ∷ ms) short t is = ⊎_elim (here short.0) (later (all_within n test ms short.1 t)) (cases_Bool (test m))
  where
    here : length m.1 ≤ n → test m ≡ true → length t ≤ n
    here low h =
        let e : m.1 ≡ t = same_Some m.1 t (sym (ap (option_map (λ m. m.1)) (cond-true (test m) (Some m) (find test ms) h)) ∙ is) in
        omega (arith, low, ap (length {A = ℕ}) e)

    later : (option_map (λ m. m.1) (find test ms) ≡ Some t → length t ≤ n) → test m ≡ false → length t ≤ n
    later rest h = rest (sym (ap (option_map (λ m. m.1)) (cond-false (test m) (Some m) (find test ms) h)) ∙ is)

months_within : AreAtMost 9 months
unfolding months
months_within name t is = all_within 9 (λ m. bytes_eq m.0 name) month_names (omega arith, (omega arith, (omega arith, (omega arith, (omega arith, (omega arith, (omega arith, (omega arith, (omega arith, (omega arith, (omega arith, (omega arith, tt)))))))))))) t is

-- the text of the last of definitions that are so short
short_last : (l n : ℕ) (ds : List Definition) → AllByRecursion (λ d. length d.text ≤ n) ds → (t : Text) → text_before l ds ≡ Some t → length t ≤ n
short_last l n [] all t e = absurd (none-some t e)
short_last l n (d ∷ ds) all t e = either (text_before l ds) (short_last l n ds all.1 t) e
  where
    here : (c : Bool) → cond c (Some d.text) None ≡ Some t → length t ≤ n
    here true e = let short = all.0 in omega (arith, short, ap (length {A = ℕ}) (same_Some d.text t e))
    here false e = absurd (none-some t e)

    either : (o : Option Text) → (o ≡ Some t → length t ≤ n) → or_else o (cond (nat_lt d.label l) (Some d.text) None) ≡ Some t → length t ≤ n
    either (Some u) later e = later e
    either None later e = here (nat_lt d.label l) e

-- what names stand for is as short as the definitions are
pub at_most : (longest l : ℕ) (defined : Defined) → AreAsLong longest defined → AreAtMost longest (texts_before defined l)
at_most longest l defined long name text is =
    at (text_before l (definitions_of defined name))
    (short_last l longest (definitions_of defined name) (all_by_recursion (λ d. length d.text ≤ longest) (definitions_of defined name) (long.each name)) text) is
  where
    at : (o : Option Text) → (o ≡ Some text → length text ≤ longest) → or_else o (months name) ≡ Some text → length text ≤ longest
    at (Some t) later e = later e
    at None later e = let low = months_within name text e in let most = long.month in omega (arith, low, most)

-- so it is before any item
pub texts_within : (items : List Item) (known : Known) → AreDefinitionsOf items known → (n : ℕ) → AreAtMost known.longest (texts_at known n)
texts_within items known are n = at_most known.longest (label_at known.labels (rank_in n known.numbers)) known.defined are.longest

-- no definition has a longer text than a month
pub long_none : (defined : Defined) → ((name : Text) → definitions_of defined name ≡ []) → AreAsLong 9 defined
long_none defined none = record { each = λ name. subst (All (λ d. length d.text ≤ 9)) (sym (none name)) (λ k d lt. absurd (omega (arith, lt))); month = omega arith }

-- one more definition
pub long_with : (few many : ℕ) (old new : Defined) (name : Text) (d : Definition) → Gives old name (with_definition d (definitions_of old (folded name))) new → few ≤ many → length d.text ≤ many → AreAsLong few old → AreAsLong many new
long_with few many old new name d gives more fits long = record {
  each = given_all (All (λ e. length e.text ≤ many)) old new name (with_definition d (definitions_of old (folded name))) gives
      (all_by_place (λ e. length e.text ≤ many) (with_definition d (definitions_of old (folded name)))
      (all_with (λ e. length e.text ≤ many) d (definitions_of old (folded name)) fits (all_by_recursion (λ e. length e.text ≤ many) (definitions_of old (folded name)) (earlier (folded name)))))
      earlier;
  month = let most = long.month in omega (arith, most, more);
}
  where
    earlier : (x : Text) → All (λ e. length e.text ≤ many) (definitions_of old x)
    earlier x k e lt = let short = long.each x k e lt in omega (arith, short, more)

-- one less
pub long_without : (longest l : ℕ) (old new : Defined) (name : Text) → Gives old name (without_label l (definitions_of old (folded name))) new → AreAsLong longest old → AreAsLong longest new
long_without longest l old new name gives long = record {
  each = given_all (All (λ e. length e.text ≤ longest)) old new name (without_label l (definitions_of old (folded name))) gives
      (all_by_place (λ e. length e.text ≤ longest) (without_label l (definitions_of old (folded name)))
      (all_without (λ e. length e.text ≤ longest) l (definitions_of old (folded name)) (all_by_recursion (λ e. length e.text ≤ longest) (definitions_of old (folded name)) (long.each (folded name)))))
      long.each;
  month = long.month;
}
