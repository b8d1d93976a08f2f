-- The extract of a file is a file, and the extract of an extract is that extract.
use Rattle.std.proofs.Common.{◌≡◌, ℕ, zero, suc, Bool, true, false, ◌==◌, cond, List, [], ◌∷◌, All, map, ⊎_elim, refl, sym, ◌∙◌, ap, subst}
use Rattle.std.specs.List.{take_while, list_any}
use Rattle.std.proofs.lemmas.Bool.{cases_Bool, cond-true, cond-false, eqb-true, false≢true}
use Rattle.std.proofs.lemmas.List.Elements.{All-nil, All-cons, All-head, All-tail}
use Rattle.std.proofs.lemmas.List.Sums.{take_while-cons}
use Rattle.bib_spec.specs.Bytes.{name_limit, line_feed}
use Rattle.bib_spec.specs.Text.{Text}
unfoldable use Rattle.bib_spec.specs.Text.{is_space}
use Rattle.bib_spec.specs.Clean.{IsClean}
unfoldable use Rattle.bib_spec.specs.Clean.{begins_command}
use Rattle.bib_spec.specs.Tree.{Tree, CommentTree, DefinitionTree, PreambleTree, EntryTree, is_comment}
use Rattle.bib_spec.specs.Reading.{Item, IsItem}
use Rattle.extract_spec.specs.Extract.{number_after, stays, names_before, awaited, kept_from, space_of, on_its_line, marked, extract_from, keeps_for, kept}
use Rattle.extract_spec.specs.Laws.{trees_are_kept, extract_reads, extract_is_closed}

-- ---- trees

trees_on_lines : (items : List Item) → map (λ item. item.tree) (map on_its_line items) ≡ map (λ item. item.tree) items
trees_on_lines [] = refl
trees_on_lines (item ∷ items) = ap (λ l. item.tree ∷ l) (trees_on_lines items)

pub trees-kept : trees_are_kept
trees-kept db keys = trees_on_lines (marked (kept db keys) db.items)

-- ---- white space

at_no_space : is_space 64 ≡ false
unfolding is_space
at_no_space = refl

space_begins_none : (b : ℕ) (t : Text) → is_space b ≡ true → begins_command (b ∷ t) ≡ false
unfolding begins_command
space_begins_none b t e = ⊎_elim
    (λ s. absurd (false≢true (sym at_no_space ∙ subst (λ c. is_space c ≡ true) (eqb-true b 64 s) e)))
    (λ n. rw n refl)
    (cases_Bool (b == 64))

nothing_clean : IsClean []
unfolding begins_command
nothing_clean zero = refl
nothing_clean (suc p) = refl

space_clean : (b : ℕ) (t : Text) → is_space b ≡ true → IsClean t → IsClean (b ∷ t)
space_clean b t e clean zero = space_begins_none b t e
space_clean b t e clean (suc p) = clean p

spaces_clean : (t : Text) → IsClean (take_while is_space t)
spaces_clean [] = nothing_clean
spaces_clean (b ∷ t) = ⊎_elim
    (λ e. subst IsClean (sym (take_while-cons is_space b t ∙ cond-true (is_space b) (b ∷ take_while is_space t) [] e)) (space_clean b (take_while is_space t) e (spaces_clean t)))
    (λ e. subst IsClean (sym (take_while-cons is_space b t ∙ cond-false (is_space b) (b ∷ take_while is_space t) [] e)) nothing_clean)
    (cases_Bool (is_space b))

line_is_space : is_space 10 ≡ true
unfolding is_space
line_is_space = refl

space_of-clean : (t : Text) → IsClean (space_of t)
space_of-clean t =
    let has = list_any (λ b. b == line_feed) (take_while is_space t) in ⊎_elim
    (λ e. subst IsClean (sym (cond-true has (take_while is_space t) (line_feed ∷ []) e)) (spaces_clean t))
    (λ e. subst IsClean (sym (cond-false has (take_while is_space t) (line_feed ∷ []) e)) (space_clean 10 [] line_is_space nothing_clean))
    (cases_Bool has)

-- ---- items

kept_no_comment : (keeps : ℕ → Bool) (n : ℕ) (names : List Text) (tree : Tree) → stays keeps n names tree ≡ true → is_comment tree ≡ false
kept_no_comment keeps n names (CommentTree h) e = absurd (false≢true e)
kept_no_comment keeps n names (DefinitionTree d) e = refl
kept_no_comment keeps n names (PreambleTree p) e = refl
kept_no_comment keeps n names (EntryTree e) s = refl

line-is : (item : Item) → is_comment item.tree ≡ false → IsItem name_limit item → IsItem name_limit (on_its_line item)
line-is item plain is = record { tree = is.tree; trail = record { clean = space_of-clean item.trail; ends_name = λ e. absurd (false≢true (sym plain ∙ e)) } }

module _ (keeps : ℕ → Bool) (n : ℕ) (item : Item) (items : List Item) where
  abbrev pub stays_here : Bool
  stays_here = stays keeps n (awaited keeps (number_after n item.tree) items) item.tree

  pub extract_from-kept : stays_here ≡ true → extract_from keeps n (item ∷ items) ≡ on_its_line item ∷ extract_from keeps (number_after n item.tree) items
  extract_from-kept e =
      ap (λ l. map on_its_line l)
      (cond-true stays_here (item ∷ marked (kept_from keeps (number_after n item.tree) items) items) (marked (kept_from keeps (number_after n item.tree) items) items) e)

  pub extract_from-left : stays_here ≡ false → extract_from keeps n (item ∷ items) ≡ extract_from keeps (number_after n item.tree) items
  extract_from-left e =
      ap (λ l. map on_its_line l)
      (cond-false stays_here (item ∷ marked (kept_from keeps (number_after n item.tree) items) items) (marked (kept_from keeps (number_after n item.tree) items) items) e)

extract_from-are : (keeps : ℕ → Bool) (n : ℕ) (items : List Item) → All (IsItem name_limit) items → All (IsItem name_limit) (extract_from keeps n items)
extract_from-are keeps n [] are = All-nil (IsItem name_limit)
extract_from-are keeps n (item ∷ items) are =
    let names = awaited keeps (number_after n item.tree) items in
    let rest = extract_from-are keeps (number_after n item.tree) items (All-tail (IsItem name_limit) item items are) in ⊎_elim
    (λ e. subst (All (IsItem name_limit)) (sym (extract_from-kept keeps n item items e))
    (All-cons (IsItem name_limit) (on_its_line item) (extract_from keeps (number_after n item.tree) items)
    (line-is item (kept_no_comment keeps n names item.tree e) (All-head (IsItem name_limit) item items are)) rest))
    (λ e. subst (All (IsItem name_limit)) (sym (extract_from-left keeps n item items e)) rest)
    (cases_Bool (stays keeps n names item.tree))

pub extract-reads : extract_reads
extract-reads file db keys reads = record { bytes = refl; front = nothing_clean; items = extract_from-are (keeps_for db keys) 0 db.items reads.items }

-- ---- the extract of an extract

spaces_twice : (t : Text) → take_while is_space (take_while is_space t) ≡ take_while is_space t
spaces_twice [] = refl
spaces_twice (b ∷ t) = ⊎_elim
    (λ e. let is = take_while-cons is_space b t ∙ cond-true (is_space b) (b ∷ take_while is_space t) [] e in
    ap (take_while is_space) is ∙ take_while-cons is_space b (take_while is_space t) ∙ cond-true (is_space b) (b ∷ take_while is_space (take_while is_space t)) [] e
    ∙ ap (λ l. b ∷ l) (spaces_twice t) ∙ sym is)
    (λ e. let is = take_while-cons is_space b t ∙ cond-false (is_space b) (b ∷ take_while is_space t) [] e in ap (take_while is_space) is ∙ sym is)
    (cases_Bool (is_space b))

line_of_line : space_of (line_feed ∷ []) ≡ line_feed ∷ []
unfolding is_space
line_of_line = refl

space_of-twice : (t : Text) → space_of (space_of t) ≡ space_of t
space_of-twice t =
    let s = take_while is_space t in
    let F : Text → Text = λ u. cond (list_any (λ b. b == line_feed) u) u (line_feed ∷ []) in ⊎_elim
    (λ e. let is = cond-true (list_any (λ b. b == line_feed) s) s (line_feed ∷ []) e in ap space_of is ∙ ap F (spaces_twice t))
    (λ e. let is = cond-false (list_any (λ b. b == line_feed) s) s (line_feed ∷ []) e in ap space_of is ∙ line_of_line ∙ sym is)
    (cases_Bool (list_any (λ b. b == line_feed) s))

on_its_line-twice : (item : Item) → on_its_line (on_its_line item) ≡ on_its_line item
on_its_line-twice item = ap (λ t. let it : Item = record { tree = item.tree; trail = t } in it) (space_of-twice item.trail)

stays_again : (keeps : ℕ → Bool) (n m : ℕ) (names : List Text) (tree : Tree) → stays keeps n names tree ≡ true → stays (λ k. true) m names tree ≡ true
stays_again keeps n m names (CommentTree h) e = e
stays_again keeps n m names (DefinitionTree d) e = e
stays_again keeps n m names (PreambleTree p) e = e
stays_again keeps n m names (EntryTree e) s = refl

awaited_again : (keeps : ℕ → Bool) (n m : ℕ) (items : List Item) → awaited (λ k. true) m (extract_from keeps n items) ≡ awaited keeps n items
awaited_again keeps n m [] = refl
awaited_again keeps n m (item ∷ items) =
    let names = awaited keeps (number_after n item.tree) items in
    let later = extract_from keeps (number_after n item.tree) items in
    let G : List Text → List Text = λ names. names_before (stays (λ k. true) m names item.tree) item.tree names in ⊎_elim
    (λ e. ap (awaited (λ k. true) m) (extract_from-kept keeps n item items e)
    ∙ ap G (awaited_again keeps (number_after n item.tree) (number_after m item.tree) items)
    ∙ ap (λ b. names_before b item.tree names) (stays_again keeps n m names item.tree e ∙ sym e))
    (λ e. ap (awaited (λ k. true) m) (extract_from-left keeps n item items e)
    ∙ awaited_again keeps (number_after n item.tree) m items
    ∙ ap (λ b. names_before b item.tree names) (sym e))
    (cases_Bool (stays keeps n names item.tree))

pub extract-closed : extract_is_closed
extract-closed keeps n m [] = refl
extract-closed keeps n m (item ∷ items) =
    let names = awaited keeps (number_after n item.tree) items in
    let later = extract_from keeps (number_after n item.tree) items in ⊎_elim
    (λ e. ap (extract_from (λ k. true) m) (extract_from-kept keeps n item items e)
    ∙ extract_from-kept (λ k. true) m (on_its_line item) later
    (ap (λ names. stays (λ k. true) m names item.tree) (awaited_again keeps (number_after n item.tree) (number_after m item.tree) items) ∙ stays_again keeps n m names item.tree e)
    ∙ ap (λ i. i ∷ extract_from (λ k. true) (number_after m item.tree) later) (on_its_line-twice item)
    ∙ ap (λ l. on_its_line item ∷ l) (extract-closed keeps (number_after n item.tree) (number_after m item.tree) items)
    ∙ sym (extract_from-kept keeps n item items e))
    (λ e. ap (extract_from (λ k. true) m) (extract_from-left keeps n item items e)
    ∙ extract-closed keeps (number_after n item.tree) m items
    ∙ sym (extract_from-left keeps n item items e))
    (cases_Bool (stays keeps n names item.tree))
