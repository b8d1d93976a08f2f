-- The table of definitions, when definitions and other items come and go.
use Rattle.bib_definitions.proofs.Words.{◌≡◌, ℕ, zero, suc, ◌+◌, ◌<◌, ◌≤◌, true, false, cond, List, [], ◌∷◌, ◌++◌, Some, length, map, take, insert, remove, slice_get, ⊎_elim, refl, sym, ◌∙◌, ap, ap₂, subst, arith, length-append, bytes_eq, AllByRecursion, cases_lt, both_ways, none-some, same_Some}
use Rattle.bib_definitions.proofs.Words.{Text, folded, Tree, CommentTree, DefinitionTree, PreambleTree, EntryTree, Item, Macros, months, macros_at, macros_after, gathered, eq-true, or_else, Rise, AreLabels, rank_in, numbered, numbers, Definition, definitions_of, text_before, labelled, named_among}
use Rattle.bib_definitions.proofs.Words.{with_definition, without_label, Gives, AreAsLong, Known, label_at, texts_at, is_definition_of, is_definition_tree, definition_numbers, defined_by, definitions_in, AreDefinitionsOf}
use Rattle.std.proofs.Common.{◌≢◌, ◌^◌, drop, take-append-drop}
use Rattle.std.proofs.lemmas.Option.{slice_get_within}
use Rattle.std.proofs.lemmas.List.{take_all, take_at, length-take-le}
use Rattle.bib_numbers.specs.Numbers.{PartAt, HaveNext}
use Rattle.bib_numbers.proofs.MovedNumbers.{rank_all, rank_of, taken_number}
use Rattle.bib_numbers.proofs.ItemNumbers.{front_numbers, rest_numbers, parts_at, numbers-below, numbers-parts, numbers-with, put_numbers, moved_numbers, taken_numbers, closed_numbers}
use Rattle.bib_definitions.specs.Definitions.{Defines, AreSettled}
use Rattle.bib_definitions.proofs.MacrosAfter.{after_other, gathered-append}
use Rattle.bib_definitions.proofs.OrderedNames.{after_all, texts_listed, named_come, named_go}

-- a label with those before it and after it
label_parts : (labels : List ℕ) (k l : ℕ) → slice_get labels k ≡ Some l → labels ≡ take k labels ++ l ∷ drop (suc k) labels
label_parts [] k l is = absurd (none-some l is)
label_parts (m ∷ labels) zero l is = ap (λ (j : ℕ). j ∷ labels) (same_Some m l is)
label_parts (m ∷ labels) (suc k) l is = ap (λ (ls : List ℕ). m ∷ ls) (label_parts labels k l is)

-- a label that comes and goes leaves what was there
pub label_back : (labels put back : List ℕ) (k l : ℕ) → k ≤ length labels → put ≡ insert labels k l → back ≡ remove put k → back ≡ labels
label_back labels put back k l le come go = go ∙ taken_number l k (take k labels) (drop k labels) put come (sym (length-take-le k labels le)) ∙ take-append-drop k labels

-- ---- as many definitions as numbers

counted_step : (tree : Tree) (k : ℕ) (item : Item) (rest : List (ℕ × Item)) (m : Macros) (more : List (Text × Text)) → length (map (λ (p : ℕ × Item). p.0) rest) ≡ length more
    → length (map (λ (p : ℕ × Item). p.0) (cond (is_definition_tree tree) ((k, item) ∷ rest) rest)) ≡ length (defined_by m tree ++ more)
counted_step (DefinitionTree d) k item rest m more h = ap suc h
counted_step (CommentTree c) k item rest m more h = h
counted_step (EntryTree e) k item rest m more h = h
counted_step (PreambleTree p) k item rest m more h = h

pub counted : (k : ℕ) (m : Macros) (items : List Item) → length (numbers is_definition_tree k items) ≡ length (gathered defined_by m items)
counted k m [] = refl
counted k m (item ∷ items) =
    counted_step item.tree k item (numbered is_definition_tree (k + 1) items) m (gathered defined_by (macros_at m (item ∷ items) 1) items) (counted (k + 1) (macros_at m (item ∷ items) 1) items)

-- ---- what macros stand for

one_after : (m : Macros) (tree : Tree) (more : List (Text × Text)) → after_all m (defined_by m tree ++ more) ≡ after_all (macros_after m tree) more
one_after m (DefinitionTree d) more = refl
one_after m (CommentTree h) more = refl
one_after m (EntryTree e) more = refl
one_after m (PreambleTree p) more = refl

-- before an item they stand for what they do after the definitions before it
macros_defined : (m : Macros) (items : List Item) (n : ℕ) → macros_at m items n ≡ after_all m (gathered defined_by m (take n items))
macros_defined m items zero = refl
macros_defined m [] (suc n) = refl
macros_defined m (i ∷ items) (suc n) =
    macros_defined (macros_after m i.tree) items n ∙ sym (one_after m i.tree (gathered defined_by (macros_after m i.tree) (take n items)))

-- the definitions before an item are the first of all
first_defined : (items : List Item) (n : ℕ) → take (length (gathered defined_by months (take n items))) (definitions_in items) ≡ gathered defined_by months (take n items)
first_defined items n =
    let front : List (Text × Text) = gathered defined_by months (take n items) in
    ap (λ (l : List Item). take (length front) (definitions_in l)) (sym (take-append-drop n items))
    ∙ ap (take (length front)) (gathered-append defined_by months (take n items) (drop n items))
    ∙ take_at front (gathered defined_by (macros_at months (take n items) (length (take n items))) (drop n items)) (length front) refl

below_more : (k n : ℕ) (ns : List ℕ) → k ≤ n → AllByRecursion (λ m. m < k) ns → AllByRecursion (λ m. m < n) ns
below_more k n [] le all = tt
below_more k n (m ∷ ns) le all = (let low = all.0 in omega (arith, low, le), below_more k n ns le all.1)

-- as many numbers of definitions are below n as definitions are among the first n items
rank_defined : (items : List Item) (n : ℕ) → rank_in n (definition_numbers items) ≡ length (gathered defined_by months (take n items))
rank_defined items n = ⊎_elim
    (λ (past : length items < n).
    let all = below_more (0 + length items) n (definition_numbers items) (omega (arith, past)) (numbers-below is_definition_tree 0 items) in
    rank_all n (definition_numbers items) all ∙ counted 0 months items ∙ ap (λ (l : List Item). length (gathered defined_by months l)) (sym (take_all n items (omega (arith, past)))))
    (λ (within : n ≤ length items).
    let before = take n items in
    let after = drop n items in
    let whole : definition_numbers items ≡ front_numbers is_definition_tree before ++ rest_numbers is_definition_tree before after
    = ap definition_numbers (sym (take-append-drop n items)) ∙ numbers-parts is_definition_tree before after in
    rank_of n (front_numbers is_definition_tree before) (rest_numbers is_definition_tree before after) (definition_numbers items)
    (parts_at is_definition_tree n before after (definition_numbers items) (length-take-le n items within) whole)
    ∙ counted 0 months before)
    (cases_lt (length items) n)

-- labelled definitions in file order say what macros stand for before each item
pub of_listed : (items : List Item) (known : Known) → known.numbers ≡ definition_numbers items → AreLabels known.labels → length known.labels ≡ length (definitions_in items)
    → ((name : Text) → definitions_of known.defined name ≡ named_among name (labelled known.labels (definitions_in items))) → AreAsLong known.longest known.defined → AreDefinitionsOf items known
of_listed items known numbers_are labels_are same named_are long = record {
  numbers = numbers_are;
  labels = labels_are;
  counted = same;
  named = named_are;
  longest = long;
  texts = λ n i x. at n x i;
}
  where
    at : (n : ℕ) (x : Text) → texts_at known n x ≡ macros_at months items n x
    at n x =
        ap (λ (ds : List Definition). or_else (text_before (label_at known.labels (rank_in n known.numbers)) ds) (months x)) (named_are x)
        ∙ texts_listed x months (rank_in n known.numbers) known.labels (definitions_in items) labels_are same
        ∙ ap (λ (l : List (Text × Text)). after_all months l x)
        (ap (λ (ns : List ℕ). take (rank_in n ns) (definitions_in items)) numbers_are ∙ ap (λ (k : ℕ). take k (definitions_in items)) (rank_defined items n) ∙ first_defined items n)
        ∙ ap (λ (m : Macros). m x) (sym (macros_defined months items n))

-- of no items, none is a definition
pub none_listed : (known : Known) → known.numbers ≡ [] → known.labels ≡ [] → AreLabels known.labels → ((name : Text) → definitions_of known.defined name ≡ []) → AreAsLong known.longest known.defined → AreDefinitionsOf [] known
none_listed known numbers_are none labels_are named_are long =
    of_listed [] known numbers_are labels_are (ap (length {A = ℕ}) none) (λ name. named_are name ∙ sym (ap (λ (ls : List ℕ). named_among name (labelled ls [])) none)) long

-- ---- another item comes, or goes

module _ (before after : List Item) (item : Item) (n : ℕ) (count : length before ≡ n) (fits : n + length after < 2 ^ 64) (other : is_definition_tree item.tree ≡ false) (old : Known) (now : List ℕ) where
  silent : (m : Macros) (tree : Tree) → is_definition_tree tree ≡ false → defined_by m tree ≡ []
  silent m (CommentTree h) e = refl
  silent m (PreambleTree p) e = refl
  silent m (EntryTree t) e = refl
  silent m (DefinitionTree d) e = absurd (both_ways true e refl)

  same : definitions_in (before ++ item ∷ after) ≡ definitions_in (before ++ after)
  same =
      let here = macros_at months before (length before) in
      gathered-append defined_by months before (item ∷ after)
      ∙ ap₂ (λ (l : List (Text × Text)) (m : Macros). definitions_in before ++ (l ++ gathered defined_by m after)) (silent here item.tree other) (after_other here item.tree other)
      ∙ sym (gathered-append defined_by months before after)

  abbrev moved_to : Known
  moved_to = record { numbers = now; labels = old.labels; defined = old.defined; longest = old.longest }

  moved_table : (few many : List Item) → now ≡ definition_numbers many → definitions_in few ≡ definitions_in many → AreDefinitionsOf few old → AreDefinitionsOf many moved_to
  moved_table few many is same are =
      of_listed many moved_to is are.labels (are.counted ∙ ap (length {A = Text × Text}) same)
      (λ x. are.named x ∙ ap (λ (all : List (Text × Text)). named_among x (labelled old.labels all)) same) are.longest

  pub definitions_come : ((front rest : List ℕ) → PartAt n front rest old.numbers → HaveNext rest → now ≡ front ++ map suc rest) → AreDefinitionsOf (before ++ after) old → AreDefinitionsOf (before ++ item ∷ after) moved_to
  definitions_come moved are =
      moved_table (before ++ after) (before ++ item ∷ after) (moved_numbers is_definition_tree before after item n count fits old.numbers now other moved are.numbers) (sym same) are

  pub definitions_go : ((front rest : List ℕ) → PartAt n front rest (front ++ rest) → HaveNext rest → old.numbers ≡ front ++ map suc rest → now ≡ front ++ rest)
      → AreDefinitionsOf (before ++ item ∷ after) old → AreDefinitionsOf (before ++ after) moved_to
  definitions_go moved are =
      moved_table (before ++ item ∷ after) (before ++ after) (closed_numbers is_definition_tree before after item n count fits old.numbers now other moved are.numbers) same are

-- ---- a definition comes, or goes

one_defined : (m : Macros) (tree : Tree) → is_definition_tree tree ≡ true → (d : Text × Text) × (defined_by m tree ≡ d ∷ [])
one_defined m (DefinitionTree d) is = (_, refl)
one_defined m (CommentTree h) is = absurd (both_ways false refl is)
one_defined m (PreambleTree p) is = absurd (both_ways false refl is)
one_defined m (EntryTree e) is = absurd (both_ways false refl is)

-- the name that it defines
name_defined : (m : Macros) (tree : Tree) (name : Text) (d : Text × Text) → is_definition_of name tree ≡ true → defined_by m tree ≡ d ∷ [] → d.0 ≡ folded name
name_defined m (DefinitionTree t) name d is says = sym (ap (λ (l : List (Text × Text)). first_name l) says) ∙ eq-true (folded t.assignment.name) (folded name) is
  where
    first_name : List (Text × Text) → Text
    first_name [] = []
    first_name (e ∷ es) = e.0
name_defined m (CommentTree h) name d is says = absurd (both_ways false refl is)
name_defined m (PreambleTree p) name d is says = absurd (both_ways false refl is)
name_defined m (EntryTree e) name d is says = absurd (both_ways false refl is)

definition_of : (tree : Tree) (name : Text) → is_definition_of name tree ≡ true → is_definition_tree tree ≡ true
definition_of (DefinitionTree t) name is = refl
definition_of (CommentTree h) name is = absurd (both_ways false refl is)
definition_of (PreambleTree p) name is = absurd (both_ways false refl is)
definition_of (EntryTree e) name is = absurd (both_ways false refl is)

-- as many numbers are below that of an item as definitions come before it
rank_front : (n : ℕ) (before after : List Item) (ns : List ℕ) → length before ≡ n → ns ≡ definition_numbers (before ++ after) → rank_in n ns ≡ length (definitions_in before)
rank_front n before after ns count is =
    rank_of n (front_numbers is_definition_tree before) (rest_numbers is_definition_tree before after) ns (parts_at is_definition_tree n before after ns count (is ∙ numbers-parts is_definition_tree before after))
    ∙ counted 0 months before

-- the definitions with one of them
abbrev rest_defined : List Item → List Item → List (Text × Text)
rest_defined before after = gathered defined_by (macros_at months before (length before)) after

all_defined : (before after : List Item) (item : Item) (d : Text × Text) → defined_by (macros_at months before (length before)) item.tree ≡ d ∷ [] → AreSettled after
    → definitions_in (before ++ item ∷ after) ≡ definitions_in before ++ d ∷ rest_defined before after
all_defined before after item d says settled =
    let here = macros_at months before (length before) in
    gathered-append defined_by months before (item ∷ after)
    ∙ ap₂ (λ (l r : List (Text × Text)). definitions_in before ++ (l ++ r)) says (settled (macros_after here item.tree) here)

module _ (before after : List Item) (item : Item) (n : ℕ) (count : length before ≡ n) (fits : n + length after < 2 ^ 64) (settled : AreSettled after) (old new : Known) where
  abbrev front : List (Text × Text)
  front = definitions_in before

  abbrev rest : List (Text × Text)
  rest = rest_defined before after

  others : definitions_in (before ++ after) ≡ front ++ rest
  others = gathered-append defined_by months before after

  -- a definition of `name` comes, with label l as label k
  pub definition_comes : (k l : ℕ) (name text : Text) → is_definition_tree item.tree ≡ true → Defines (macros_at months before n) item.tree name text → (rank_in n old.numbers ≤ length old.labels → k ≡ rank_in n old.numbers)
      → ((front rest : List ℕ) → PartAt n front rest old.numbers → HaveNext rest → new.numbers ≡ front ++ n ∷ map suc rest) → AreLabels new.labels → new.labels ≡ insert old.labels k l
      → Gives old.defined name (with_definition (record { label = l; text = text }) (definitions_of old.defined (folded name))) new.defined → AreAsLong new.longest new.defined
      → AreDefinitionsOf (before ++ after) old → AreDefinitionsOf (before ++ item ∷ after) new
  definition_comes k l name text is says place numbers_are labels_are put gives long are =
      let rank = rank_front n before after old.numbers count are.numbers in
      let many = are.counted ∙ ap (length {A = Text × Text}) others ∙ length-append front rest in
      let at = place (omega (arith, rank, many)) in
      let few = take k old.labels in
      let more = drop k old.labels in
      let short : length few ≡ length front = length-take-le k old.labels (omega (arith, at, rank, many)) ∙ at ∙ rank in
      let whole : few ++ more ≡ old.labels = take-append-drop k old.labels in
      let rise : Rise (few ++ l ∷ more) = subst Rise put labels_are.rise in
      let now : definitions_in (before ++ item ∷ after) ≡ front ++ (folded name, text) ∷ rest
      = all_defined before after item (folded name, text) (ap (λ (j : ℕ). defined_by (macros_at months before j) item.tree) count ∙ says) settled in
      let was : (x : Text) → definitions_of old.defined x ≡ named_among x (labelled (few ++ more) (front ++ rest))
      = λ x. are.named x ∙ ap₂ (λ (ls : List ℕ) (all : List (Text × Text)). named_among x (labelled ls all)) (sym whole) others in
      let d : Definition = record { label = l; text = text } in
      of_listed (before ++ item ∷ after) new
      (put_numbers is_definition_tree before after item n count fits old.numbers new.numbers is numbers_are are.numbers)
      labels_are
      (let one = ap (length {A = ℕ}) put ∙ length-append few (l ∷ more) in let all = ap (length {A = Text × Text}) now ∙ length-append front ((folded name, text) ∷ rest) in
      let both = ap (length {A = ℕ}) whole in let sum = length-append few more in omega (arith, one, all, both, sum, many))
      (λ x.
      gives x
      ∙ ap₂ (λ (mine theirs : List Definition). cond (bytes_eq x (folded name)) (with_definition d mine) theirs) (was (folded name)) (was x)
      ∙ named_come few more front rest l (folded name) text short rise x
      ∙ ap₂ (λ (ls : List ℕ) (all : List (Text × Text)). named_among x (labelled ls all)) (sym put) (sym now))
      long

  -- the definition of `name` goes, whose label is label k
  pub definition_goes : (k l : ℕ) (name : Text) → is_definition_of name item.tree ≡ true → k ≡ rank_in n old.numbers → slice_get old.labels k ≡ Some l
      → ((front rest : List ℕ) → PartAt n front rest (front ++ rest) → HaveNext rest → old.numbers ≡ front ++ n ∷ map suc rest → new.numbers ≡ front ++ rest) → AreLabels new.labels → new.labels ≡ remove old.labels k
      → Gives old.defined name (without_label l (definitions_of old.defined (folded name))) new.defined → AreAsLong new.longest new.defined
      → AreDefinitionsOf (before ++ item ∷ after) old → AreDefinitionsOf (before ++ after) new
  definition_goes k l name is place there numbers_are labels_are gone gives long are =
      let here = macros_at months before (length before) in
      let is_one = definition_of item.tree name is in
      let it = one_defined here item.tree is_one in
      let text : Text = it.0.1 in
      let says : defined_by here item.tree ≡ (folded name, text) ∷ [] = it.1 ∙ ap (λ (y : Text). (y, text) ∷ []) (name_defined here item.tree name it.0 is it.1) in
      let rank = rank_front n before (item ∷ after) old.numbers count are.numbers in
      let few = take k old.labels in
      let more = drop (suc k) old.labels in
      let inside = slice_get_within old.labels k l there in
      let short : length few ≡ length front = length-take-le k old.labels (omega (arith, inside)) ∙ place ∙ rank in
      let whole : old.labels ≡ few ++ l ∷ more = label_parts old.labels k l there in
      let rise : Rise (few ++ l ∷ more) = subst Rise whole are.labels.rise in
      let was : definitions_in (before ++ item ∷ after) ≡ front ++ (folded name, text) ∷ rest = all_defined before after item (folded name, text) says settled in
      let named_was : (x : Text) → definitions_of old.defined x ≡ named_among x (labelled (few ++ l ∷ more) (front ++ (folded name, text) ∷ rest))
      = λ x. are.named x ∙ ap₂ (λ (ls : List ℕ) (all : List (Text × Text)). named_among x (labelled ls all)) whole was in
      let now : new.labels ≡ few ++ more = gone ∙ taken_number l k few more old.labels whole (sym (length-take-le k old.labels (omega (arith, inside)))) in
      of_listed (before ++ after) new
      (taken_numbers is_definition_tree before after item n count fits old.numbers new.numbers is_one numbers_are are.numbers)
      labels_are
      (let one = ap (length {A = ℕ}) now ∙ length-append few more in let all = ap (length {A = Text × Text}) was ∙ length-append front ((folded name, text) ∷ rest) in
      let both = ap (length {A = ℕ}) whole ∙ length-append few (l ∷ more) in let sum = ap (length {A = Text × Text}) others ∙ length-append front rest in let same = are.counted in omega (arith, one, all, both, sum, same))
      (λ x.
      gives x
      ∙ ap₂ (λ (mine theirs : List Definition). cond (bytes_eq x (folded name)) (without_label l mine) theirs) (named_was (folded name)) (named_was x)
      ∙ named_go few more front rest l (folded name) text short rise x
      ∙ ap₂ (λ (ls : List ℕ) (all : List (Text × Text)). named_among x (labelled ls all)) (sym now) (sym others))
      long

  -- a definition has a number, and a label
  pub definition_numbered : (name : Text) → is_definition_of name item.tree ≡ true → AreDefinitionsOf (before ++ item ∷ after) old → AllByRecursion (λ m. m ≢ n) old.numbers → ⊥
  definition_numbered name is are absent =
      there (front_numbers is_definition_tree before) (map suc (rest_numbers is_definition_tree before after))
      (subst (AllByRecursion (λ m. m ≢ n)) (are.numbers ∙ numbers-with is_definition_tree before after item (definition_of item.tree name is)) absent)
    where
      there : (few more : List ℕ) → AllByRecursion (λ m. m ≢ n) (few ++ length before ∷ more) → ⊥
      there [] more all = all.0 count
      there (m ∷ few) more all = there few more all.1

  pub definition_labelled : (name : Text) (k : ℕ) → is_definition_of name item.tree ≡ true → AreDefinitionsOf (before ++ item ∷ after) old → k ≡ rank_in n old.numbers → k < length old.labels
  definition_labelled name k is are place =
      let here = macros_at months before (length before) in
      let it = one_defined here item.tree (definition_of item.tree name is) in
      let rank = rank_front n before (item ∷ after) old.numbers count are.numbers in
      let all = ap (length {A = Text × Text}) (all_defined before after item it.0 it.1 settled) ∙ length-append front (it.0 ∷ rest) in
      let same = are.counted in
      omega (arith, place, rank, all, same)
