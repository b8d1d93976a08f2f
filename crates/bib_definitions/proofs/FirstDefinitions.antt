-- How many items define a name, and which is the first, as the table of definitions has them.
use Rattle.bib_definitions.proofs.Words.{◌≡◌, ℕ, suc, ◌+◌, ◌<◌, Bool, true, false, cond, List, [], ◌∷◌, ◌++◌, Option, Some, None, slice_get, length, map, ⊎_elim, refl, sym, ◌∙◌, ap, ap₂, subst, arith, length-append, append_assoc, AllByRecursion, bytes_eq, cases_Bool, cond-true, cond-false}
use Rattle.bib_definitions.proofs.Words.{both_ways, none-some, same_Some, Text, folded, Tree, CommentTree, DefinitionTree, PreambleTree, EntryTree, Item, Macros, months, macros_after, gathered, eq-true, true-eq, Rise, rank_in, numbered, numbers, Definition, definitions_of, labelled, named_among}
use Rattle.bib_definitions.proofs.Words.{Known, is_definition_tree, is_definition_of, defined_by, AreDefinitionsOf}
use Rattle.std.proofs.Common.{option_map}
use Rattle.bib_spec.proofs.Counts.{count-yes, count-no}
use Rattle.bib_numbers.proofs.RisingLabels.{rank_rising}
use Rattle.bib_definitions.specs.Definitions.{definition_count, first_definition}
use Rattle.bib_definitions.proofs.DefinitionTables.{counted}
use Rattle.bib_definitions.proofs.OrderedNames.{named_labels}

eq-swap : (a b : Text) → bytes_eq a b ≡ bytes_eq b a
eq-swap a b = ⊎_elim
    (λ t. t ∙ sym (true-eq b a (sym (eq-true a b t))))
    (λ f. f ∙ ⊎_elim (λ t. absurd (both_ways (bytes_eq a b) f (true-eq a b (sym (eq-true b a t))))) (λ g. sym g) (cases_Bool (bytes_eq b a)))
    (cases_Bool (bytes_eq a b))

stands-after : {X : Type 0} (before : List X) (x : X) (xs : List X) → slice_get (before ++ x ∷ xs) (length before) ≡ Some x
stands-after [] x xs = refl
stands-after (b ∷ before) x xs = stands-after before x xs

first_number : (k : ℕ) (x : Item) (xs : List Item) → numbers is_definition_tree k (x ∷ xs) ≡ cond (is_definition_tree x.tree) (k ∷ numbers is_definition_tree (k + 1) xs) (numbers is_definition_tree (k + 1) xs)
first_number k x xs = along (is_definition_tree x.tree)
  where
    along : (b : Bool) → map (λ (p : ℕ × Item). p.0) (cond b ((k, x) ∷ numbered is_definition_tree (k + 1) xs) (numbered is_definition_tree (k + 1) xs))
        ≡ cond b (k ∷ numbers is_definition_tree (k + 1) xs) (numbers is_definition_tree (k + 1) xs)
    along true = refl
    along false = refl

module _ (name : Text) where
  -- those of the name
  abbrev named : List ℕ → List (Text × Text) → List Definition
  named labels all = named_among (folded name) (labelled labels all)

  -- ---- one item

  -- an item that defines the name is the next of the definitions, and the next of the name
  met : (tree : Tree) (m : Macros) (l : ℕ) (labels : List ℕ) (more : List (Text × Text)) → is_definition_of name tree ≡ true →
      (is_definition_tree tree ≡ true) × ((text : Text) × (named (l ∷ labels) (defined_by m tree ++ more) ≡ (record { label = l; text = text }) ∷ named labels more))
  met (DefinitionTree d) m l labels more t = (refl, (_, cond-true (bytes_eq (folded name) (folded d.assignment.name)) _ _ (eq-swap (folded name) (folded d.assignment.name) ∙ t)))
  met (CommentTree h) m l labels more t = absurd (both_ways false refl t)
  met (PreambleTree p) m l labels more t = absurd (both_ways false refl t)
  met (EntryTree e) m l labels more t = absurd (both_ways false refl t)

  -- a definition of another name is the next of the definitions alone
  unmet : (tree : Tree) (m : Macros) (l : ℕ) (labels : List ℕ) (more : List (Text × Text)) → is_definition_tree tree ≡ true → is_definition_of name tree ≡ false →
      named (l ∷ labels) (defined_by m tree ++ more) ≡ named labels more
  unmet (DefinitionTree d) m l labels more is f = cond-false (bytes_eq (folded name) (folded d.assignment.name)) _ _ (eq-swap (folded name) (folded d.assignment.name) ∙ f)
  unmet (CommentTree h) m l labels more is f = absurd (both_ways false refl is)
  unmet (PreambleTree p) m l labels more is f = absurd (both_ways false refl is)
  unmet (EntryTree e) m l labels more is f = absurd (both_ways false refl is)

  -- another item is none
  other : (tree : Tree) (m : Macros) (more : List (Text × Text)) → is_definition_tree tree ≡ false → (is_definition_of name tree ≡ false) × (defined_by m tree ++ more ≡ more)
  other (DefinitionTree d) m more no_one = absurd (both_ways true no_one refl)
  other (CommentTree h) m more no_one = (refl, refl)
  other (PreambleTree p) m more no_one = (refl, refl)
  other (EntryTree e) m more no_one = (refl, refl)

  one_more : (tree : Tree) (m : Macros) (more : List (Text × Text)) → is_definition_tree tree ≡ true → length (defined_by m tree ++ more) ≡ suc (length more)
  one_more (DefinitionTree d) m more is = refl
  one_more (CommentTree h) m more is = absurd (both_ways false refl is)
  one_more (PreambleTree p) m more is = absurd (both_ways false refl is)
  one_more (EntryTree e) m more is = absurd (both_ways false refl is)

  -- ---- how many

  length-named : (m : Macros) (labels : List ℕ) (items : List Item) → length labels ≡ length (gathered defined_by m items) → length (named labels (gathered defined_by m items)) ≡ definition_count name items
  length-named m [] [] long = refl
  length-named m (l ∷ labels) [] long = refl
  length-named m labels (item ∷ items) long =
      let rest : Rest = λ labels long. length-named (macros_after m item.tree) labels items long in
      ⊎_elim (defines rest labels long) (λ f. ⊎_elim (defined rest labels long f) (skipped rest f) (cases_Bool (is_definition_tree item.tree))) (cases_Bool (is_definition_of name item.tree))
    where
      more : List (Text × Text)
      more = gathered defined_by (macros_after m item.tree) items

      -- how many of the later items define it
      Rest : Type 0
      Rest = (labels : List ℕ) → length labels ≡ length more → length (named labels more) ≡ definition_count name items

      defines : Rest → (labels : List ℕ) → length labels ≡ length (defined_by m item.tree ++ more) → is_definition_of name item.tree ≡ true → length (named labels (defined_by m item.tree ++ more)) ≡ definition_count name (item ∷ items)
      defines later [] long t = let some = one_more item.tree m more (met item.tree m 0 [] more t).0 in absurd (omega (arith, long, some))
      defines later (l ∷ labels) long t =
          let it = met item.tree m l labels more t in
          let here = ap (length {A = Definition}) it.1.1 in
          let some = one_more item.tree m more it.0 in
          let rest = later labels (omega (arith, long, some)) in
          let more_one = count-yes (λ (i : Item). is_definition_of name i.tree) item items t in omega (arith, here, rest, more_one)

      defined : Rest → (labels : List ℕ) → length labels ≡ length (defined_by m item.tree ++ more) → is_definition_of name item.tree ≡ false → is_definition_tree item.tree ≡ true
          → length (named labels (defined_by m item.tree ++ more)) ≡ definition_count name (item ∷ items)
      defined later [] long f is = let some = one_more item.tree m more is in absurd (omega (arith, long, some))
      defined later (l ∷ labels) long f is =
          let some = one_more item.tree m more is in
          ap (length {A = Definition}) (unmet item.tree m l labels more is f) ∙ later labels (omega (arith, long, some)) ∙ sym (count-no (λ (i : Item). is_definition_of name i.tree) item items f)

      skipped : Rest → is_definition_of name item.tree ≡ false → is_definition_tree item.tree ≡ false → length (named labels (defined_by m item.tree ++ more)) ≡ definition_count name (item ∷ items)
      skipped later f no_one =
          let none = (other item.tree m more no_one).1 in
          ap (λ (all : List (Text × Text)). length (named labels all)) none
          ∙ later labels (long ∙ ap (length {A = Text × Text}) none) ∙ sym (count-no (λ (i : Item). is_definition_of name i.tree) item items f)

  -- as many items define the name as it has definitions
  pub counted-named : (known : Known) (items : List Item) → AreDefinitionsOf items known → length (definitions_of known.defined (folded name)) ≡ definition_count name items
  counted-named known items are = ap (length {A = Definition}) (are.named (folded name)) ∙ length-named months known.labels items are.counted

  -- ---- the first

  -- the number of the first of these definitions
  abbrev first_among : List ℕ → List ℕ → List Definition → Option ℕ
  first_among labels ns [] = None
  first_among labels ns (d ∷ ds) = slice_get ns (rank_in d.label labels)

  one_later : (k : ℕ) (o : Option ℕ) → option_map (λ (n : ℕ). k + 1 + n) o ≡ option_map (λ (n : ℕ). k + n) (option_map suc o)
  one_later k None = refl
  one_later k (Some n) = ap (λ (j : ℕ). Some j) (omega arith)

  from_zero : (o : Option ℕ) → option_map (λ (n : ℕ). 0 + n) o ≡ o
  from_zero None = refl
  from_zero (Some n) = ap (λ (j : ℕ). Some j) (omega arith)

  -- with the numbers and labels of the definitions before them
  first-named : (m : Macros) (k : ℕ) (front few labels : List ℕ) (items : List Item) → length few ≡ length front → length labels ≡ length (gathered defined_by m items) → Rise (few ++ labels) →
      first_among (few ++ labels) (front ++ numbers is_definition_tree k items) (named labels (gathered defined_by m items)) ≡ option_map (λ (n : ℕ). k + n) (first_definition name items)
  first-named m k front few [] [] same long rise = refl
  first-named m k front few (l ∷ labels) [] same long rise = refl
  first-named m k front few labels (item ∷ items) same long rise =
      let rest : First = λ front few labels same long rise. first-named (macros_after m item.tree) (k + 1) front few labels items same long rise in
      ⊎_elim (defines labels long rise) (λ f. ⊎_elim (defined rest labels long rise f) (skipped rest f) (cases_Bool (is_definition_tree item.tree)) ∙ later f) (cases_Bool (is_definition_of name item.tree))
    where
      more : List (Text × Text)
      more = gathered defined_by (macros_after m item.tree) items

      rest : List ℕ
      rest = numbers is_definition_tree (k + 1) items

      -- the first of the later items that defines it
      First : Type 0
      First = (front few labels : List ℕ) → length few ≡ length front → length labels ≡ length more → Rise (few ++ labels) →
          first_among (few ++ labels) (front ++ rest) (named labels more) ≡ option_map (λ (n : ℕ). k + 1 + n) (first_definition name items)

      next : is_definition_tree item.tree ≡ true → numbers is_definition_tree k (item ∷ items) ≡ k ∷ rest
      next is = first_number k item items ∙ cond-true (is_definition_tree item.tree) (k ∷ rest) rest is

      later : is_definition_of name item.tree ≡ false → option_map (λ (n : ℕ). k + 1 + n) (first_definition name items) ≡ option_map (λ (n : ℕ). k + n) (first_definition name (item ∷ items))
      later f = one_later k (first_definition name items) ∙ sym (ap (option_map (λ (n : ℕ). k + n)) (cond-false (is_definition_of name item.tree) (Some 0) (option_map suc (first_definition name items)) f))

      defines : (labels : List ℕ) → length labels ≡ length (defined_by m item.tree ++ more) → Rise (few ++ labels) → is_definition_of name item.tree ≡ true →
          first_among (few ++ labels) (front ++ numbers is_definition_tree k (item ∷ items)) (named labels (defined_by m item.tree ++ more)) ≡ option_map (λ (n : ℕ). k + n) (first_definition name (item ∷ items))
      defines [] long rise t = let some = one_more item.tree m more (met item.tree m 0 [] more t).0 in absurd (omega (arith, long, some))
      defines (l ∷ labels) long rise t =
          let it = met item.tree m l labels more t in
          let here : k ≡ k + 0 = omega arith in
          ap₂ (λ (ns : List ℕ) (ds : List Definition). first_among (few ++ l ∷ labels) (front ++ ns) ds) (next it.0) it.1.1
          ∙ ap (slice_get (front ++ k ∷ rest)) (rank_rising few labels l rise ∙ same)
          ∙ stands-after front k rest ∙ ap (λ (j : ℕ). Some j) here
          ∙ sym (ap (option_map (λ (n : ℕ). k + n)) (cond-true (is_definition_of name item.tree) (Some 0) (option_map suc (first_definition name items)) t))

      defined : First → (labels : List ℕ) → length labels ≡ length (defined_by m item.tree ++ more) → Rise (few ++ labels) → is_definition_of name item.tree ≡ false → is_definition_tree item.tree ≡ true →
          first_among (few ++ labels) (front ++ numbers is_definition_tree k (item ∷ items)) (named labels (defined_by m item.tree ++ more)) ≡ option_map (λ (n : ℕ). k + 1 + n) (first_definition name items)
      defined first [] long rise f is = let some = one_more item.tree m more is in absurd (omega (arith, long, some))
      defined first (l ∷ labels) long rise f is =
          let some = one_more item.tree m more is in
          let one = length-append few (l ∷ []) in
          let two = length-append front (k ∷ []) in
          ap₂ (λ (ns : List ℕ) (ds : List Definition). first_among (few ++ l ∷ labels) (front ++ ns) ds) (next is) (unmet item.tree m l labels more is f)
          ∙ ap₂ (λ (ls ns : List ℕ). first_among ls ns (named labels more)) (sym (append_assoc few (l ∷ []) labels)) (sym (append_assoc front (k ∷ []) rest))
          ∙ first (front ++ k ∷ []) (few ++ l ∷ []) labels (omega (arith, one, two, same)) (omega (arith, long, some)) (subst Rise (sym (append_assoc few (l ∷ []) labels)) rise)

      skipped : First → is_definition_of name item.tree ≡ false → is_definition_tree item.tree ≡ false →
          first_among (few ++ labels) (front ++ numbers is_definition_tree k (item ∷ items)) (named labels (defined_by m item.tree ++ more)) ≡ option_map (λ (n : ℕ). k + 1 + n) (first_definition name items)
      skipped first f no_one =
          let none = (other item.tree m more no_one).1 in
          ap₂ (λ (ns : List ℕ) (all : List (Text × Text)). first_among (few ++ labels) (front ++ ns) (named labels all))
          (first_number k item items ∙ cond-false (is_definition_tree item.tree) (k ∷ rest) rest no_one) none
          ∙ first front few labels same (long ∙ ap (length {A = Text × Text}) none) rise

  -- the first of the definitions of a name is the first item that defines it
  first-of : (known : Known) (items : List Item) → AreDefinitionsOf items known → first_among known.labels known.numbers (definitions_of known.defined (folded name)) ≡ first_definition name items
  first-of known items are =
      ap₂ (first_among known.labels) are.numbers (are.named (folded name)) ∙ first-named months 0 [] [] known.labels items refl are.counted are.labels.rise ∙ from_zero (first_definition name items)

  -- ---- each has a number

  -- fewer labels are below a label than there are
  ranks_within : (few labels : List ℕ) → Rise (few ++ labels) → AllByRecursion (λ l. rank_in l (few ++ labels) < length (few ++ labels)) labels
  ranks_within few [] rise = tt
  ranks_within few (l ∷ labels) rise = (
    let here = rank_rising few labels l rise in
        let long = length-append few (l ∷ labels) in
        omega (arith, here, long),
    let same = append_assoc few (l ∷ []) labels in
        subst (λ (ls : List ℕ). AllByRecursion (λ (j : ℕ). rank_in j ls < length ls) labels) same (ranks_within (few ++ l ∷ []) labels (subst Rise (sym same) rise)),
  )

  head_in : (P : Definition → Type 0) (ds : List Definition) (d : Definition) → Some d ≡ slice_get ds 0 → AllByRecursion P ds → P d
  head_in P [] d is all = absurd (none-some d (sym is))
  head_in P (e ∷ ds) d is all = subst P (same_Some e d (sym is)) all.0

  pub first-within : (known : Known) (items : List Item) (d : Definition) → AreDefinitionsOf items known → Some d ≡ slice_get (definitions_of known.defined (folded name)) 0 → rank_in d.label known.labels < length known.numbers
  first-within known items d are is =
      let low = head_in (λ (e : Definition). rank_in e.label known.labels < length known.labels) (definitions_of known.defined (folded name)) d is
      (subst (AllByRecursion (λ (e : Definition). rank_in e.label known.labels < length known.labels)) (sym (are.named (folded name)))
      (named_labels (λ l. rank_in l known.labels < length known.labels) (folded name) known.labels (gathered defined_by months items) (ranks_within [] known.labels are.labels.rise))) in
      let many = ap (length {A = ℕ}) are.numbers in
      let same = counted 0 months items in
      let all = are.counted in
      omega (arith, low, many, same, all)

  -- its number is that of the first item that defines the name
  pub first-some : (known : Known) (items : List Item) (d : Definition) (n : ℕ) → AreDefinitionsOf items known → Some d ≡ slice_get (definitions_of known.defined (folded name)) 0
      → slice_get known.numbers (rank_in d.label known.labels) ≡ Some n → Some n ≡ first_definition name items
  first-some known items d n are is at = sym (among (definitions_of known.defined (folded name)) is ∙ at) ∙ first-of known items are
    where
      among : (ds : List Definition) → Some d ≡ slice_get ds 0 → first_among known.labels known.numbers ds ≡ slice_get known.numbers (rank_in d.label known.labels)
      among [] is = absurd (none-some d (sym is))
      among (e ∷ ds) is = ap (λ (e : Definition). slice_get known.numbers (rank_in e.label known.labels)) (same_Some e d (sym is))

  pub first-none : (known : Known) (items : List Item) → AreDefinitionsOf items known → None ≡ slice_get (definitions_of known.defined (folded name)) 0 → None ≡ first_definition name items
  first-none known items are is = among (definitions_of known.defined (folded name)) is ∙ first-of known items are
    where
      among : (ds : List Definition) → None ≡ slice_get ds 0 → None ≡ first_among known.labels known.numbers ds
      among [] is = refl
      among (e ∷ ds) is = absurd (none-some e is)
