-- Lineages, even if the parents form a ring, and what a greater depth adds.
use Rattle.std.proofs.Common.{◌≡◌, ◌∙◌, ℕ, zero, suc, ◌+◌, ◌-◌, ◌<◌, ◌≤◌, ◌==◌, Bool, true, false, cond, ◌||◌, List, [], ◌∷◌, ◌++◌, length, take, take_at, append_assoc, Option, Some, None, option_and_then, refl, sym, ap, subst, arith, append-nil, add-one, eqb-true, eq-eqb, ne_eqb, ⊎_elim}
use Rattle.std.specs.List.{list_any}
use Rattle.std.specs.Option.{option_map_or}
use Rattle.std.proofs.lemmas.Bool.{cases_Bool, cond-true, cond-false, true≢false, false≢true, eqb-false}
use Rattle.std.proofs.lemmas.Option.{none-some, same_Some, option_and_then_some}
use Rattle.bib_spec.specs.Records.{EntryTexts, RecordField, target, other_than, parent, missing, unvisited, ancestors_from, ancestors, own_fields, fields_at, with_inherited}
use Rattle.bib_spec.specs.Lineages.{lineage, rings_give_nothing_more, parent_alone_at_depth_1, deeper_records_only_gain}
use Rattle.bib_spec.proofs.Missing.{bears, are_borne, bears_with, missing_none, borne_more, borne_by, or_first, or_later}

-- ---- one after another

-- after k steps the lineage continues with the parent of n, and has one step less to go
pub lineage_more : (parents : ℕ → Option ℕ) (depth k n m : ℕ) → k < depth → parents n ≡ Some m → lineage parents (depth - k) n ≡ m ∷ lineage parents (depth - (k + 1)) m
lineage_more parents depth k n m lt is =
    let one : depth - k ≡ depth - (k + 1) + 1 = omega (arith, lt) in
    ap (λ (d : ℕ). lineage parents d n) (one ∙ add-one (depth - (k + 1)))
    ∙ ap (λ (o : Option ℕ). option_map_or (λ p. p ∷ lineage parents (depth - (k + 1)) p) o []) is

-- without a parent there is no more
pub lineage_none : (parents : ℕ → Option ℕ) (depth n : ℕ) → parents n ≡ None → lineage parents depth n ≡ []
lineage_none parents zero n none = refl
lineage_none parents (suc depth) n none = ap (λ (o : Option ℕ). option_map_or (λ p. p ∷ lineage parents depth p) o []) none

-- at the requested depth there is no more either
pub lineage_done : (parents : ℕ → Option ℕ) (depth k n : ℕ) → depth ≤ k → lineage parents (depth - k) n ≡ []
lineage_done parents depth k n le =
    let none : depth - k ≡ 0 = omega (arith, le) in ap (λ (d : ℕ). lineage parents d n) none

-- ---- rings

-- entry m was visited
abbrev is_visited : List ℕ → ℕ → Bool
is_visited visited m = list_any (λ v. v == m) visited

other_way : (n m : ℕ) → (n == m) ≡ false → (m == n) ≡ false
other_way n m other = ne_eqb m n (λ is. eqb-false n m other (sym is))

module _ (entries : List EntryTexts) where
  -- the fields of all visited entries are there
  abbrev AreGiven : List RecordField → List ℕ → Type 0
  AreGiven own visited = (m : ℕ) → is_visited visited m ≡ true → are_borne own (fields_at entries m) ≡ true

  -- the parents of visited entries were visited
  abbrev IsClosed : List ℕ → Type 0
  IsClosed visited = (m p : ℕ) → is_visited visited m ≡ true → parent entries m ≡ Some p → is_visited visited p ≡ true

  -- the parents of visited entries were visited, except perhaps the parent of n
  abbrev IsClosedBut : ℕ → List ℕ → Type 0
  IsClosedBut n visited = (m p : ℕ) → (m == n) ≡ false → is_visited visited m ≡ true → parent entries m ≡ Some p → is_visited visited p ≡ true

  -- if the parents of all visited entries were visited, a lineage adds nothing
  nothing_more : (visited : List ℕ) (own : List RecordField) → AreGiven own visited → IsClosed visited → (depth n : ℕ) → is_visited visited n ≡ true
      → with_inherited entries own (lineage (parent entries) depth n) ≡ own
  nothing_more visited own given closed zero n there = refl
  nothing_more visited own given closed (suc depth) n there = at (parent entries n) refl (λ m. nothing_more visited own given closed depth m)
    where
      at : (o : Option ℕ) → parent entries n ≡ o
          → ((m : ℕ) → is_visited visited m ≡ true → with_inherited entries own (lineage (parent entries) depth m) ≡ own)
          → with_inherited entries own (option_map_or (λ m. m ∷ lineage (parent entries) depth m) o []) ≡ own
      at None is later = refl
      at (Some m) is later =
          let next = closed n m there is in
          ap (λ (fields : List RecordField). with_inherited entries (own ++ fields) (lineage (parent entries) depth m)) (missing_none own (fields_at entries m) (given m next))
          ∙ ap (λ (fields : List RecordField). with_inherited entries fields (lineage (parent entries) depth m)) (append-nil own)
          ∙ later m next

  -- once the parent of n was visited too, all parents of visited entries were
  closed_now : (n p : ℕ) (visited : List ℕ) → IsClosedBut n visited → parent entries n ≡ Some p → is_visited visited p ≡ true → IsClosed visited
  closed_now n p visited closed is there m q visits has = ⊎_elim
      (λ same.
      let here : p ≡ q = same_Some p q (sym is ∙ sym (ap (parent entries) (eqb-true m n same)) ∙ has) in
      subst (λ (k : ℕ). is_visited visited k ≡ true) here there)
      (λ other. closed m q other visits has)
      (cases_Bool (m == n))

  -- with the parent of n visited, only the parent of that parent may be missing
  closed_further : (n p : ℕ) (visited : List ℕ) → IsClosedBut n visited → parent entries n ≡ Some p → IsClosedBut p (p ∷ visited)
  closed_further n p visited closed is m q other visits has =
      let before : is_visited visited m ≡ true = ap (λ b. b || is_visited visited m) (sym (other_way m p other)) ∙ visits in
      ⊎_elim
      (λ same.
      let here : p ≡ q = same_Some p q (sym is ∙ sym (ap (parent entries) (eqb-true m n same)) ∙ has) in
      or_first (p == q) (is_visited visited q) (eq-eqb p q here))
      (λ apart. or_later (p == q) (is_visited visited q) (closed m q apart before has))
      (cases_Bool (m == n))

  -- with what p adds, the fields of all visited entries, p too, are there
  given_further : (own : List RecordField) (p : ℕ) (visited : List ℕ) → AreGiven own visited → AreGiven (own ++ missing own (fields_at entries p)) (p ∷ visited)
  given_further own p visited given m visits = ⊎_elim
      (λ same. subst (λ (k : ℕ). are_borne wider (fields_at entries k) ≡ true) (eqb-true p m same)
      (borne_by its wider (λ name has. bears_with own its name ∙ or_later (bears own name) (bears its name) has)))
      (λ other. borne_more own wider (fields_at entries m)
      (λ name has. bears_with own its name ∙ or_first (bears own name) (bears its name) has)
      (given m (ap (λ b. b || is_visited visited m) (sym other) ∙ visits)))
      (cases_Bool (p == m))
    where
      its : List RecordField
      its = fields_at entries p

      wider : List RecordField
      wider = own ++ missing own its

  -- the fields, with what the ancestors from the entry `o` on add, if there is one
  abbrev with_ancestors : ℕ → List ℕ → List RecordField → Option ℕ → List RecordField
  with_ancestors depth visited own o = with_inherited entries own (option_map_or (λ m. m ∷ ancestors_from (parent entries) depth (m ∷ visited) m) o [])

  -- from m on the lineage gives what the ancestors give, if only the parent of m may not have been visited
  abbrev GivesAlike : ℕ → List ℕ → List RecordField → ℕ → Type 0
  GivesAlike depth visited own m = is_visited visited m ≡ true → AreGiven own visited → IsClosedBut m visited
      → with_inherited entries own (lineage (parent entries) depth m) ≡ with_inherited entries own (ancestors_from (parent entries) depth visited m)

  -- the next entry may have been visited
  next_alike : (depth : ℕ) (visited : List ℕ) (n : ℕ) (own : List RecordField) → AreGiven own visited → IsClosedBut n visited → (m : ℕ) → parent entries n ≡ Some m
      → GivesAlike depth (m ∷ visited) (own ++ missing own (fields_at entries m)) m
      → with_inherited entries own (m ∷ lineage (parent entries) depth m) ≡ with_ancestors depth visited own (unvisited visited m)
  next_alike depth visited n own given closed m is further = at (is_visited visited m) refl
    where
      at : (b : Bool) → is_visited visited m ≡ b → with_inherited entries own (m ∷ lineage (parent entries) depth m) ≡ with_ancestors depth visited own (cond b None (Some m))
      at true seen =
          ap (λ (fields : List RecordField). with_inherited entries (own ++ fields) (lineage (parent entries) depth m)) (missing_none own (fields_at entries m) (given m seen))
          ∙ ap (λ (fields : List RecordField). with_inherited entries fields (lineage (parent entries) depth m)) (append-nil own)
          ∙ nothing_more visited own given (closed_now n m visited closed is seen) depth m seen
      at false seen =
          further (or_first (m == m) (is_visited visited m) (eq-eqb m m refl)) (given_further own m visited given) (closed_further n m visited closed is)

  lineage_alike : (depth : ℕ) (visited : List ℕ) (n : ℕ) (own : List RecordField) → GivesAlike depth visited own n
  lineage_alike zero visited n own there given closed = refl
  lineage_alike (suc depth) visited n own there given closed = at (parent entries n) refl (λ m. lineage_alike depth (m ∷ visited) m (own ++ missing own (fields_at entries m)))
    where
      at : (o : Option ℕ) → parent entries n ≡ o → ((m : ℕ) → GivesAlike depth (m ∷ visited) (own ++ missing own (fields_at entries m)) m)
          → with_inherited entries own (option_map_or (λ m. m ∷ lineage (parent entries) depth m) o []) ≡ with_ancestors depth visited own (option_and_then (unvisited visited) o)
      at None is further = refl
      at (Some m) is further = next_alike depth visited n own given closed m is (further m)

-- only n was visited
alone : (n m : ℕ) → ((n == m) || false) ≡ true → n ≡ m
alone n m visits = ⊎_elim
    (λ same. eqb-true n m same)
    (λ other. absurd (false≢true (ap (λ b. b || false) (sym other) ∙ visits)))
    (cases_Bool (n == m))

pub rings-give-nothing-more : rings_give_nothing_more
rings-give-nothing-more entries depth n =
    lineage_alike entries depth (n ∷ []) n (fields_at entries n)
    (or_first (n == n) false (eq-eqb n n refl))
    (λ m visits. subst (λ (k : ℕ). are_borne (fields_at entries n) (fields_at entries k) ≡ true) (alone n m visits) (borne_by (fields_at entries n) (fields_at entries n) (λ name has. has)))
    (λ m p other visits has. absurd (true≢false (sym (eq-eqb m n (sym (alone n m visits))) ∙ other)))

-- ---- depth 1

-- the parent is another entry
parent_other : (entries : List EntryTexts) (n m : ℕ) → parent entries n ≡ Some m → (n == m) ≡ false
parent_other entries n m e =
    option_and_then_some (other_than n) (target entries n) m e (λ k found other.
    ⊎_elim
    (λ t. absurd (none-some m (sym (cond-true (k == n) None (Some k) t) ∙ other)))
    (λ f. ap (λ (j : ℕ). n == j) (sym (same_Some k m (sym (cond-false (k == n) None (Some k) f) ∙ other))) ∙ other_way k n f)
    (cases_Bool (k == n)))

pub parent-alone-at-depth-1 : parent_alone_at_depth_1
parent-alone-at-depth-1 entries n = at (parent entries n) refl
  where
    at : (o : Option ℕ) → parent entries n ≡ o → option_map_or (λ m. m ∷ []) (option_and_then (unvisited (n ∷ [])) o) [] ≡ option_map_or (λ m. m ∷ []) o []
    at None is = refl
    at (Some m) is = ap (λ b. option_map_or (λ k. k ∷ []) (cond (b || false) None (Some m)) []) (parent_other entries n m is)

-- ---- greater depths

-- the old fields are the first of the new ones
abbrev Begins : List RecordField → List RecordField → Type 0
Begins old new = (more : List RecordField) × (new ≡ old ++ more)

module _ (entries : List EntryTexts) where
  -- the fields, with what the ancestors of n add at this depth
  abbrev at_depth : ℕ → List ℕ → ℕ → List RecordField → List RecordField
  at_depth depth visited n own = with_inherited entries own (ancestors_from (parent entries) depth visited n)

  -- what is inherited comes after the fields that are there
  inherited-after : (own : List RecordField) (ns : List ℕ) → Begins own (with_inherited entries own ns)
  inherited-after own [] = ([], sym (append-nil own))
  inherited-after own (n ∷ ns) =
      let its : List RecordField = missing own (fields_at entries n) in
      let later = inherited-after (own ++ its) ns in
      (its ++ later.0, later.1 ∙ append_assoc own its later.0)

  deeper-after : (depth deeper : ℕ) → depth ≤ deeper → (visited : List ℕ) (n : ℕ) (own : List RecordField) → Begins (at_depth depth visited n own) (at_depth deeper visited n own)
  deeper-after zero deeper le visited n own = inherited-after own (ancestors_from (parent entries) deeper visited n)
  deeper-after (suc depth) zero le visited n own = absurd (omega (arith, le))
  deeper-after (suc depth) (suc deeper) le visited n own =
      at (option_and_then (unvisited visited) (parent entries n)) (λ m. deeper-after depth deeper (omega (arith, le)) (m ∷ visited) m (own ++ missing own (fields_at entries m)))
    where
      at : (o : Option ℕ)
          → ((m : ℕ) → let wider : List RecordField = own ++ missing own (fields_at entries m) in Begins (at_depth depth (m ∷ visited) m wider) (at_depth deeper (m ∷ visited) m wider))
          → Begins (with_ancestors entries depth visited own o) (with_ancestors entries deeper visited own o)
      at None further = ([], sym (append-nil own))
      at (Some m) further = further m

pub deeper-records-only-gain : deeper_records_only_gain
deeper-records-only-gain entries depth deeper n entry le =
    let after = deeper-after entries depth deeper le (n ∷ []) n (own_fields entry) in
    let old : List RecordField = with_inherited entries (own_fields entry) (ancestors entries depth n) in
    record { kind_name = refl; key = refl; first = ap (take (length old)) after.1 ∙ take_at old after.0 (length old) refl }
