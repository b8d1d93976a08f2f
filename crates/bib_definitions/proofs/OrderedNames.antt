-- All definitions in file order with their labels, those of each name, and what macros stand for before a label.
use Rattle.bib_definitions.proofs.Words.{◌≡◌, ℕ, zero, suc, ◌<◌, ◌≤◌, nat_lt, Bool, true, false, cond, List, [], ◌∷◌, ◌++◌, Option, Some, None, length, take, ⊎_elim, refl, sym, ◌∙◌, ap, ap₂, arith, bytes_eq, AllByRecursion, cases_Bool, cond-true, cond-false, lt-ltb, le-ltb, Text, Macros, eq-true}
use Rattle.bib_definitions.proofs.Words.{or_else, Rise, AreLabels, Definition, labelled, named_among, text_before, with_definition, without_label, label_at}
use Rattle.bib_numbers.specs.Labels.{label_limit}
use Rattle.bib_numbers.proofs.RisingLabels.{rise_parted}
use Rattle.bib_definitions.proofs.PlacedDefinitions.{with_parts, without_parts}

-- ---- those of a name

labelled-append : (labels more : List ℕ) (all rest : List (Text × Text)) → length labels ≡ length all → labelled (labels ++ more) (all ++ rest) ≡ labelled labels all ++ labelled more rest
labelled-append [] more [] rest e = refl
labelled-append [] more (d ∷ all) rest e = absurd (omega (arith, e))
labelled-append (l ∷ labels) more [] rest e = absurd (omega (arith, e))
labelled-append (l ∷ labels) more (d ∷ all) rest e =
    let it : Definition = record { label = l; text = d.1 } in
    ap (λ (es : List (Text × Definition)). (d.0, it) ∷ es) (labelled-append labels more all rest (omega (arith, e)))

named-append : (x : Text) (a b : List (Text × Definition)) → named_among x (a ++ b) ≡ named_among x a ++ named_among x b
named-append x [] b = refl
named-append x (d ∷ a) b = ap (λ (ds : List Definition). cond (bytes_eq x d.0) (d.1 ∷ ds) ds) (named-append x a b) ∙ along (bytes_eq x d.0) (named_among x a) (named_among x b)
  where
    along : (c : Bool) (few rest : List Definition) → cond c (d.1 ∷ (few ++ rest)) (few ++ rest) ≡ cond c (d.1 ∷ few) few ++ rest
    along true few rest = refl
    along false few rest = refl

-- what holds of the labels holds of those of a name's definitions
pub named_labels : (P : ℕ → Type 0) (x : Text) (labels : List ℕ) (all : List (Text × Text)) → AllByRecursion P labels → AllByRecursion (λ (d : Definition). P d.label) (named_among x (labelled labels all))
named_labels P x [] all are = tt
named_labels P x (l ∷ labels) [] are = tt
named_labels P x (l ∷ labels) (d ∷ all) are = either (bytes_eq x d.0) (named_labels P x labels all are.1)
  where
    it : Definition
    it = record { label = l; text = d.1 }

    either : (b : Bool) → AllByRecursion (λ (d : Definition). P d.label) (named_among x (labelled labels all)) → AllByRecursion (λ (d : Definition). P d.label) (cond b (it ∷ named_among x (labelled labels all)) (named_among x (labelled labels all)))
    either true more = (are.0, more)
    either false more = more

-- ---- one of all

module _ (few more : List ℕ) (front rest : List (Text × Text)) (l : ℕ) (name text : Text) (same : length few ≡ length front) (rise : Rise (few ++ l ∷ more)) where
  abbrev it : Definition
  it = record { label = l; text = text }

  -- the definitions without it, and with it
  abbrev others : Text → List Definition
  others x = named_among x (labelled (few ++ more) (front ++ rest))

  abbrev all : Text → List Definition
  all x = named_among x (labelled (few ++ l ∷ more) (front ++ (name, text) ∷ rest))

  others_are : (x : Text) → others x ≡ named_among x (labelled few front) ++ named_among x (labelled more rest)
  others_are x = ap (named_among x) (labelled-append few more front rest same) ∙ named-append x (labelled few front) (labelled more rest)

  all_are : (x : Text) → all x ≡ named_among x (labelled few front) ++ cond (bytes_eq x name) (it ∷ named_among x (labelled more rest)) (named_among x (labelled more rest))
  all_are x = ap (named_among x) (labelled-append few (l ∷ more) front ((name, text) ∷ rest) same) ∙ named-append x (labelled few front) (labelled (l ∷ more) ((name, text) ∷ rest))

  below : (x : Text) → AllByRecursion (λ (d : Definition). d.label < l) (named_among x (labelled few front))
  below x = named_labels (λ m. m < l) x few front (rise_parted few more l rise).0

  above : (x : Text) → AllByRecursion (λ (d : Definition). l < d.label) (named_among x (labelled more rest))
  above x = named_labels (λ m. l < m) x more rest (rise_parted few more l rise).1

  -- the definitions of each name, when it comes
  pub named_come : (x : Text) → cond (bytes_eq x name) (with_definition it (others name)) (others x) ≡ all x
  named_come x = ⊎_elim
      (λ t.
      cond-true (bytes_eq x name) (with_definition it (others name)) (others x) t
      ∙ ap (λ (y : Text). with_definition it (others y)) (sym (eq-true x name t))
      ∙ ap (with_definition it) (others_are x)
      ∙ with_parts it (named_among x (labelled few front)) (named_among x (labelled more rest)) (below x) (above x)
      ∙ ap (λ (ds : List Definition). named_among x (labelled few front) ++ ds) (sym (cond-true (bytes_eq x name) (it ∷ named_among x (labelled more rest)) (named_among x (labelled more rest)) t))
      ∙ sym (all_are x))
      (λ f.
      cond-false (bytes_eq x name) (with_definition it (others name)) (others x) f
      ∙ others_are x
      ∙ ap (λ (ds : List Definition). named_among x (labelled few front) ++ ds) (sym (cond-false (bytes_eq x name) (it ∷ named_among x (labelled more rest)) (named_among x (labelled more rest)) f))
      ∙ sym (all_are x))
      (cases_Bool (bytes_eq x name))

  -- and when it goes
  pub named_go : (x : Text) → cond (bytes_eq x name) (without_label l (all name)) (all x) ≡ others x
  named_go x = ⊎_elim
      (λ t.
      cond-true (bytes_eq x name) (without_label l (all name)) (all x) t
      ∙ ap (λ (y : Text). without_label l (all y)) (sym (eq-true x name t))
      ∙ ap (without_label l) (all_are x ∙ ap (λ (ds : List Definition). named_among x (labelled few front) ++ ds) (cond-true (bytes_eq x name) (it ∷ named_among x (labelled more rest)) (named_among x (labelled more rest)) t))
      ∙ without_parts it (named_among x (labelled few front)) (named_among x (labelled more rest)) (below x)
      ∙ sym (others_are x))
      (λ f.
      cond-false (bytes_eq x name) (without_label l (all name)) (all x) f
      ∙ all_are x
      ∙ ap (λ (ds : List Definition). named_among x (labelled few front) ++ ds) (cond-false (bytes_eq x name) (it ∷ named_among x (labelled more rest)) (named_among x (labelled more rest)) f)
      ∙ sym (others_are x))
      (cases_Bool (bytes_eq x name))

-- ---- what macros stand for after definitions

abbrev pub given_by : Macros → Text × Text → Macros
given_by m d = λ x. cond (bytes_eq x d.0) (Some d.1) (m x)

abbrev pub after_all : Macros → List (Text × Text) → Macros
after_all m [] = m
after_all m (d ∷ all) = after_all (given_by m d) all

-- no definition has a label so low
none_yet : (l : ℕ) (ds : List Definition) → AllByRecursion (λ d. l ≤ d.label) ds → text_before l ds ≡ None
none_yet l [] high = refl
none_yet l (d ∷ ds) high = ap₂ or_else (none_yet l ds high.1) (cond-false (nat_lt d.label l) (Some d.text) None (le-ltb d.label l high.0))

or_first : (o : Option Text) (t : Text) (p : Option Text) → or_else (or_else o (Some t)) p ≡ or_else o (Some t)
or_first None t p = refl
or_first (Some s) t p = refl

-- a label is below those after it, and below the limit
label_above : (l : ℕ) (labels : List ℕ) (k : ℕ) → l < label_limit → AllByRecursion (λ m. l < m) labels → l < label_at labels k
label_above l [] k fits all = fits
label_above l (m ∷ labels) zero fits all = all.0
label_above l (m ∷ labels) (suc k) fits all = label_above l labels k fits all.1

-- the last of the name among the first r, or else what the name stood for
pub texts_listed : (x : Text) (m : Macros) (r : ℕ) (labels : List ℕ) (all : List (Text × Text)) → AreLabels labels → length labels ≡ length all
    → or_else (text_before (label_at labels r) (named_among x (labelled labels all))) (m x) ≡ after_all m (take r all) x
texts_listed x m zero [] [] are same = refl
texts_listed x m (suc r) [] [] are same = refl
texts_listed x m r [] (d ∷ all) are same = absurd (omega (arith, same))
texts_listed x m r (l ∷ labels) [] are same = absurd (omega (arith, same))
texts_listed x m zero (l ∷ labels) (d ∷ all) are same =
    ap (λ (o : Option Text). or_else o (m x)) (none_yet l (named_among x (labelled (l ∷ labels) (d ∷ all))) (named_labels (λ k. l ≤ k) x (l ∷ labels) (d ∷ all) (omega arith, weaker labels are.rise.0)))
  where
    weaker : (labels : List ℕ) → AllByRecursion (λ k. l < k) labels → AllByRecursion (λ k. l ≤ k) labels
    weaker [] high = tt
    weaker (k ∷ labels) high = (let low = high.0 in omega (arith, low), weaker labels high.1)
texts_listed x m (suc r) (l ∷ labels) (d ∷ all) are same =
    let rest : List Definition = named_among x (labelled labels all) in
    let e : Definition = record { label = l; text = d.1 } in
    let k : ℕ = label_at labels r in
    let later = texts_listed x (given_by m d) r labels all (record { rise = are.rise.1; within = are.within.1 }) (omega (arith, same)) in
    ⊎_elim
    (λ t. ap (λ (ds : List Definition). or_else (text_before k ds) (m x)) (cond-true (bytes_eq x d.0) (e ∷ rest) rest t)
    ∙ ap (λ (o : Option Text). or_else (or_else (text_before k rest) o) (m x)) (cond-true (nat_lt l k) (Some d.1) None (lt-ltb l k (label_above l labels r are.within.0 are.rise.0)))
    ∙ or_first (text_before k rest) d.1 (m x)
    ∙ ap (or_else (text_before k rest)) (sym (cond-true (bytes_eq x d.0) (Some d.1) (m x) t))
    ∙ later)
    (λ t. ap (λ (ds : List Definition). or_else (text_before k ds) (m x)) (cond-false (bytes_eq x d.0) (e ∷ rest) rest t)
    ∙ ap (or_else (text_before k rest)) (sym (cond-false (bytes_eq x d.0) (Some d.1) (m x) t))
    ∙ later)
    (cases_Bool (bytes_eq x d.0))
