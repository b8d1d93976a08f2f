-- Units that are put at places one after another make a merge.
use Rattle.std.proofs.Common.{◌≡◌, ℕ, zero, suc, ◌+◌, ◌<◌, ◌≤◌, ◌==◌, ◌||◌, Bool, true, false, cond, List, [], ◌∷◌, ◌++◌, Option, None, Some, length, map, slice_get, get_or, take, drop, append-nil, count_by, refl, sym, ◌∙◌, ap, ap₂, subst, arith, ⊎_elim}
use Rattle.std.specs.Prelude.{⊤, nat_le, is_some}
use Rattle.std.specs.List.{list_all, range_with_len, cons_option}
use Rattle.std.specs.Option.{option_map_or}
use Rattle.std.proofs.lemmas.Bool.{cases_Bool, cases_order, and_from, or_left, or_right, le-leb, eqb-true, eq-eqb, true≢false, false≢true}
use Rattle.std.proofs.lemmas.Option.{same_Some}
use Rattle.std.proofs.lemmas.List.{take_more, take_all, drop_all}
use Rattle.std.proofs.lemmas.List.FromFn.{length-range_with_len, get_or-range_with_len}
use Rattle.std.proofs.lemmas.List.Sums.{sum_by-append}
use Rattle.std.proofs.lemmas.List.Folds.{list_all-append}
use Rattle.std.proofs.lemmas.List.Elements.{filter_map-append}
use Rattle.bib_spec.specs.Text.{is_space}
use Rattle.bib_spec.proofs.Names.{eq-true}
use Rattle.merge_spec.specs.Units.{Unit, Label, EntryLabel, MacroLabel, BytesLabel, label_of, same_label}
use Rattle.merge_spec.specs.ThreeWay.{Outcome, Ours, Theirs, Mixed, Gone, Both}
use Rattle.merge_spec.specs.Merged.{Place, unit_at, is_number, are_once, share_label, may_come, is_settled, label_left, labels_left, is_seldom, is_merge}
use Rattle.bib_places.specs.NumbersLeft.{has_label, Loses, Goes, IsLabelled, IsTaken, AreOnceOrLeft, AreSoFar}
use Rattle.bib_places.proofs.Counting.{count-cons}
use Rattle.bib_places.proofs.Lists.{map-map, map-snoc, drop-next}
use Rattle.bib_places.proofs.LeftOnce.{same-self}
use Rattle.bib_places.proofs.Marks.{range-all}

-- ---- labels

-- labels that are the same are equal
same-is : (a b : Label) → same_label a b ≡ true → a ≡ b
same-is (EntryLabel a) (EntryLabel b) is = ap EntryLabel (eq-true a b is)
same-is (MacroLabel a) (MacroLabel b) is = ap MacroLabel (eq-true a b is)
same-is (BytesLabel a) (BytesLabel b) is = ap BytesLabel (eq-true a b is)
same-is (EntryLabel a) (MacroLabel b) is = absurd (false≢true is)
same-is (EntryLabel a) (BytesLabel b) is = absurd (false≢true is)
same-is (MacroLabel a) (EntryLabel b) is = absurd (false≢true is)
same-is (MacroLabel a) (BytesLabel b) is = absurd (false≢true is)
same-is (BytesLabel a) (EntryLabel b) is = absurd (false≢true is)
same-is (BytesLabel a) (MacroLabel b) is = absurd (false≢true is)

-- a unit with the label of its own
pub labelled-self : (units : List Unit) (n : ℕ) (u : Unit) → slice_get units n ≡ Some u → has_label units (label_of u) n ≡ true
labelled-self units n u here = ap (λ o. option_map_or (λ v. same_label (label_of u) (label_of v)) o false) here ∙ same-self (label_of u)

-- the unit, if any, has the label
abbrev pub Has : Label → Option Unit → Type 0
Has label None = ⊤
Has label (Some u) = label_of u ≡ label

-- a number whose unit has a label is one of a unit
has-unit : (units : List Unit) (label : Label) (n : ℕ) → has_label units label n ≡ true → (u : Unit) × (slice_get units n ≡ Some u) × (label_of u ≡ label)
has-unit units label n is = at (slice_get units n) refl is
  where
    at : (o : Option Unit) → slice_get units n ≡ o → option_map_or (λ v. same_label label (label_of v)) o false ≡ true → (u : Unit) × (slice_get units n ≡ Some u) × (label_of u ≡ label)
    at None here e = absurd (false≢true e)
    at (Some u) here e = (u, here, sym (same-is label (label_of u) e))

has-at : (units : List Unit) (label : Label) (number : Option ℕ) (left : List ℕ) → IsLabelled units label number left → Has label (unit_at units number)
has-at units label None left is = tt
has-at units label (Some n) left is = let u = has-unit units label n is in subst (Has label) (sym u.1) u.2

shares : (label : Label) (a b : Option Unit) → Has label a → Has label b → share_label a b ≡ true
shares label None b has_a has_b = refl
shares label (Some a) None has_a has_b = refl
shares label (Some a) (Some b) has_a has_b = ap₂ same_label has_a has_b ∙ same-self label

-- whether a unit has another label depends on the two labels alone
other-label : (units : List Unit) (label other : Label) (n : ℕ) → has_label units label n ≡ true → has_label units other n ≡ same_label other label
other-label units label other n is =
    let u = has-unit units label n is in
    ap (λ o. option_map_or (λ v. same_label other (label_of v)) o false) u.1 ∙ ap (same_label other) u.2

-- ---- counts

one-more : {X : Type 0} (test : X → Bool) (xs : List X) (x : X) → count_by test (xs ++ x ∷ []) ≡ count_by test xs + cond (test x) 1 0
one-more test xs x =
    sum_by-append (λ y. cond (test y) 1 0) xs (x ∷ []) ∙ ap (λ k. count_by test xs + k) (count-cons test x [] ∙ add_none (cond (test x) 1 0))
  where
    add_none : (a : ℕ) → a + 0 ≡ a
    add_none a = omega arith

-- the first number of a list goes
pub first-goes : (n : ℕ) (numbers : List ℕ) → Loses n (n ∷ numbers) numbers
first-goes n numbers test = count-cons test n numbers

-- ---- what is left

-- the label of a unit that has this one
of-unit : (label : Label) (u : Option Unit) → Has label u → (l : Label) → option_map_or (λ v. Some (label_of v)) u None ≡ Some l → l ≡ label
of-unit label None has l is = absurd (cc (is))
of-unit label (Some u) has l is = sym (same_Some (label_of u) l is) ∙ has

-- what is left of units with a label has that label
left-has : (label : Label) (o t : Option Unit) (outcome : Outcome) → Has label o → Has label t → (l : Label) → label_left o t outcome ≡ Some l → l ≡ label
left-has label o t Ours has_o has_t l is = of-unit label o has_o l is
left-has label o t Theirs has_o has_t l is = of-unit label t has_t l is
left-has label o t (Mixed kind key space rows) has_o has_t l is = of-unit label o has_o l is
left-has label o t Gone has_o has_t l is = absurd (cc (is))
left-has label None t Both has_o has_t l is = of-unit label t has_t l is
left-has label (Some u) t Both has_o has_t l is = of-unit label (Some u) has_o l is

-- nothing is left of no unit
left-none : (outcome : Outcome) → label_left None None outcome ≡ None
left-none Ours = refl
left-none Theirs = refl
left-none (Mixed kind key space rows) = refl
left-none Gone = refl
left-none Both = refl

-- how often a label is left at a place
abbrev times : Label → Option Label → ℕ
times label None = 0
times label (Some l) = cond (same_label label l) 1 0

times-at-most : (label other : Label) (left : Option Label) → ((l : Label) → left ≡ Some l → l ≡ label) → times other left ≤ cond (same_label other label) 1 0
times-at-most label other None is = omega arith
times-at-most label other (Some l) is = subst (λ k. times other (Some l) ≤ cond (same_label other k) 1 0) (is l refl) (least (cond (same_label other l) 1 0))
  where
    least : (a : ℕ) → a ≤ a
    least a = omega arith

-- what is left in a merge with one more place
left-more : (ours theirs : List Unit) (places : List Place) (p : Place) (label : Label)
    → count_by (same_label label) (labels_left ours theirs (places ++ p ∷ [])) ≡ count_by (same_label label) (labels_left ours theirs places) + times label (label_left (unit_at ours p.ours) (unit_at theirs p.theirs) p.outcome)
left-more ours theirs places p label =
    ap (count_by (same_label label)) (filter_map-append (λ q. label_left (unit_at ours q.ours) (unit_at theirs q.theirs) q.outcome) places (p ∷ []))
    ∙ at (label_left (unit_at ours p.ours) (unit_at theirs p.theirs) p.outcome)
  where
    add_none : (a : ℕ) → a ≡ a + 0
    add_none a = omega arith

    at : (l : Option Label) → count_by (same_label label) (labels_left ours theirs places ++ cons_option l []) ≡ count_by (same_label label) (labels_left ours theirs places) + times label l
    at None = ap (count_by (same_label label)) (append-nil (labels_left ours theirs places)) ∙ add_none (count_by (same_label label) (labels_left ours theirs places))
    at (Some l) = one-more (same_label label) (labels_left ours theirs places) l

-- ---- one more place

-- a number that goes is put at the place
once-more : (side : Place → Option ℕ) (count : ℕ) (places : List Place) (p : Place) (old new : List ℕ) → Goes (side p) old new → AreOnceOrLeft count (map side places) old → AreOnceOrLeft count (map side (places ++ p ∷ [])) new
once-more side count places p old new goes once n lt = at (side p) refl goes
  where
    placed : (number : Option ℕ) → side p ≡ number → count_by (is_number n) (map side (places ++ p ∷ [])) ≡ count_by (is_number n) (map side places) + cond (is_number n number) 1 0
    placed number here = ap (count_by (is_number n)) (map-snoc side places p) ∙ one-more (is_number n) (map side places) (side p) ∙ ap (λ o. count_by (is_number n) (map side places) + cond (is_number n o) 1 0) here

    none : (a b c : ℕ) → a + b ≡ 1 → c ≡ a + 0 → c + b ≡ 1
    none a b c e is = omega (arith, e, is)

    some : (a b c d x : ℕ) → a + b ≡ 1 → c ≡ a + x → b ≡ x + d → c + d ≡ 1
    some a b c d x e is less = omega (arith, e, is, less)

    at : (number : Option ℕ) → side p ≡ number → Goes number old new → count_by (is_number n) (map side (places ++ p ∷ [])) + count_by (λ m. m == n) new ≡ 1
    at None here gone =
        ap (λ l. count_by (is_number n) (map side (places ++ p ∷ [])) + count_by (λ m. m == n) l) gone
        ∙ none (count_by (is_number n) (map side places)) (count_by (λ m. m == n) old) (count_by (is_number n) (map side (places ++ p ∷ []))) (once n lt) (placed None here)
    at (Some m) here gone =
        some (count_by (is_number n) (map side places)) (count_by (λ k. k == n) old) (count_by (is_number n) (map side (places ++ p ∷ []))) (count_by (λ k. k == n) new) (cond (m == n) 1 0)
        (once n lt) (placed (Some m) here) (gone (λ k. k == n))

-- how a file loses a unit of the label that is put
pub record Lost (label other : Label) (units : List Unit) (number : Option ℕ) (old new : List ℕ) : Type 0 where
  -- if a unit was put, the label is left once less; else it was not left, and the same is left of every label
  pub put : is_some number ≡ true → count_by (has_label units other) old ≡ cond (same_label other label) 1 0 + count_by (has_label units other) new
  pub not_put : is_some number ≡ false → (count_by (has_label units other) new ≡ count_by (has_label units other) old) × (count_by (has_label units label) old ≡ 0)

loses : (label other : Label) (units : List Unit) (number : Option ℕ) (old new : List ℕ) → IsTaken units label number old new → Lost label other units number old new
loses label other units None old new taken = record {
  put = λ e. absurd (false≢true e);
  not_put = λ e. (ap (count_by (has_label units other)) taken.goes, taken.labelled);
}
loses label other units (Some n) old new taken = record {
  put = λ e. taken.goes (has_label units other) ∙ ap (λ b. cond b 1 0 + count_by (has_label units other) new) (other-label units label other n taken.labelled);
  not_put = λ e. absurd (true≢false e);
}

-- With one more place no label is left too often. These are how often the label is left in the merge (before, at the place), and among the
-- numbers of this file and of the other that are left (before, after).
seldom-more : (most p x here here' there there' k : ℕ) (is_here is_there : Bool) → p + here ≤ most → p + there ≤ most → x ≤ k → k ≤ 1 → (is_here ≡ false → is_there ≡ false → x ≡ 0)
    → (is_here ≡ true → here ≡ k + here') → (is_here ≡ false → here' ≡ here) → (is_there ≡ true → there ≡ k + there') → (is_here ≡ false → k ≡ 1 → here ≡ 0) → (p + x) + here' ≤ most
seldom-more most p x here here' there there' k true is_there one other less few nothing put_here kept_here put_there gone =
    let lost = put_here refl in omega (arith, one, less, lost)
seldom-more most p x here here' there there' k false false one other less few nothing put_here kept_here put_there gone =
    let none = nothing refl refl in
    let same = kept_here refl in
    omega (arith, one, none, same)
seldom-more most p x here here' there there' zero false true one other less few nothing put_here kept_here put_there gone =
    let same = kept_here refl in omega (arith, one, less, same)
seldom-more most p x here here' there there' (suc k) false true one other less few nothing put_here kept_here put_there gone =
    let same = kept_here refl in
    let lost = put_there refl in
    let none = gone refl (only k few) in
    omega (arith, other, less, same, lost, none)
  where
    only : (a : ℕ) → suc a ≤ 1 → suc a ≡ 1
    only a le = omega (arith, le)

at-most-one : (b : Bool) → cond b 1 0 ≤ 1
at-most-one true = omega arith
at-most-one false = omega arith

one-is : (b : Bool) → cond {A = ℕ} b 1 0 ≡ 1 → b ≡ true
one-is true is = refl
one-is false is = absurd (no 0 refl is)
  where
    no : (a : ℕ) → a ≡ 0 → a ≡ 1 → ⊥
    no a e f = omega (arith, e, f)

-- where no unit of either side was put, no label is left
none-left : (ours theirs : List Unit) (label : Label) (o t : Option ℕ) (outcome : Outcome) → is_some o ≡ false → is_some t ≡ false → times label (label_left (unit_at ours o) (unit_at theirs t) outcome) ≡ 0
none-left ours theirs label None None outcome no_o no_t = ap (times label) (left-none outcome)
none-left ours theirs label (Some n) t outcome no_o no_t = absurd (true≢false no_o)
none-left ours theirs label None (Some n) outcome no_o no_t = absurd (true≢false no_t)

-- a label that is the one that was put
is-that : (label other : Label) (units : List Unit) (left : List ℕ) → count_by (has_label units label) left ≡ 0 → cond {A = ℕ} (same_label other label) 1 0 ≡ 1 → count_by (has_label units other) left ≡ 0
is-that label other units left none is = subst (λ l. count_by (has_label units l) left ≡ 0) (sym (same-is other label (one-is (same_label other label) is))) none

-- the units that meet at a place have one label, and may become what becomes of them
settled-one : (given : List Label) (base ours theirs : List Unit) (p : Place) → share_label (unit_at base p.base) (unit_at ours p.ours) ≡ true → share_label (unit_at base p.base) (unit_at theirs p.theirs) ≡ true
    → share_label (unit_at ours p.ours) (unit_at theirs p.theirs) ≡ true → may_come given (unit_at base p.base) (unit_at ours p.ours) (unit_at theirs p.theirs) p.outcome ≡ true → list_all is_space p.space ≡ true
    → is_settled given base ours theirs p ≡ true
settled-one given base ours theirs p bo bt ot may white = and_from _ _ (and_from _ _ (and_from _ _ (and_from _ _ bo bt) ot) may) white

-- a place more, at which units of this label meet
pub put-more : (given : List Label) (base ours theirs : List Unit) (places : List Place) (p : Place) (label : Label) (lb lb' lo lo' lt lt' : List ℕ)
    → Goes p.base lb lb' → Has label (unit_at base p.base) → IsTaken ours label p.ours lo lo' → IsTaken theirs label p.theirs lt lt'
    → may_come given (unit_at base p.base) (unit_at ours p.ours) (unit_at theirs p.theirs) p.outcome ≡ true → list_all is_space p.space ≡ true
    → AreSoFar given base ours theirs places lb lo lt → AreSoFar given base ours theirs (places ++ p ∷ []) lb' lo' lt'
put-more given base ours theirs places p label lb lb' lo lo' lt lt' goes has_b taken_o taken_t may white so_far =
    let has_o = has-at ours label p.ours lo taken_o.labelled in
    let has_t = has-at theirs label p.theirs lt taken_t.labelled in
    record {
      base_once = once-more (λ q. q.base) (length base) places p lb lb' goes so_far.base_once;
      ours_once = once-more (λ q. q.ours) (length ours) places p lo lo' taken_o.goes so_far.ours_once;
      theirs_once = once-more (λ q. q.theirs) (length theirs) places p lt lt' taken_t.goes so_far.theirs_once;
      settled = list_all-append (is_settled given base ours theirs) places (p ∷ [])
          ∙ and_from _ _ so_far.settled
          (and_from _ _ (settled-one given base ours theirs p (shares label _ _ has_b has_o) (shares label _ _ has_b has_t) (shares label _ _ has_o has_t) may white) refl);
      ours_seldom = λ other most in_ours in_theirs.
          let lost_o = loses label other ours p.ours lo lo' taken_o in
          let lost_t = loses label other theirs p.theirs lt lt' taken_t in
          subst (λ k. k + count_by (has_label ours other) lo' ≤ most) (sym (left-more ours theirs places p other))
          (seldom-more most (count_by (same_label other) (labels_left ours theirs places)) (times other (label_left (unit_at ours p.ours) (unit_at theirs p.theirs) p.outcome))
          (count_by (has_label ours other) lo) (count_by (has_label ours other) lo') (count_by (has_label theirs other) lt) (count_by (has_label theirs other) lt') (cond (same_label other label) 1 0)
          (is_some p.ours) (is_some p.theirs)
          (so_far.ours_seldom other most in_ours in_theirs) (so_far.theirs_seldom other most in_ours in_theirs)
          (times-at-most label other (label_left (unit_at ours p.ours) (unit_at theirs p.theirs) p.outcome) (λ l is. left-has label (unit_at ours p.ours) (unit_at theirs p.theirs) p.outcome has_o has_t l is)) (at-most-one (same_label other label))
          (λ no_o no_t. none-left ours theirs other p.ours p.theirs p.outcome no_o no_t)
          lost_o.put (λ e. (lost_o.not_put e).0) lost_t.put (λ e is. is-that label other ours lo (lost_o.not_put e).1 is));
      theirs_seldom = λ other most in_ours in_theirs.
          let lost_o = loses label other ours p.ours lo lo' taken_o in
          let lost_t = loses label other theirs p.theirs lt lt' taken_t in
          subst (λ k. k + count_by (has_label theirs other) lt' ≤ most) (sym (left-more ours theirs places p other))
          (seldom-more most (count_by (same_label other) (labels_left ours theirs places)) (times other (label_left (unit_at ours p.ours) (unit_at theirs p.theirs) p.outcome))
          (count_by (has_label theirs other) lt) (count_by (has_label theirs other) lt') (count_by (has_label ours other) lo) (count_by (has_label ours other) lo') (cond (same_label other label) 1 0)
          (is_some p.theirs) (is_some p.ours)
          (so_far.theirs_seldom other most in_ours in_theirs) (so_far.ours_seldom other most in_ours in_theirs)
          (times-at-most label other (label_left (unit_at ours p.ours) (unit_at theirs p.theirs) p.outcome) (λ l is. left-has label (unit_at ours p.ours) (unit_at theirs p.theirs) p.outcome has_o has_t l is)) (at-most-one (same_label other label))
          (λ no_t no_o. none-left ours theirs other p.ours p.theirs p.outcome no_o no_t)
          lost_t.put (λ e. (lost_t.not_put e).0) lost_o.put (λ e is. is-that label other theirs lt (lost_t.not_put e).1 is));
    }

-- ---- numbers that are those of no unit

none_more : (n : ℕ) → 0 + n ≡ n
none_more n = omega arith

past-end : {X : Type 0} (xs : List X) (n k : ℕ) → slice_get xs n ≡ None → k < length xs → (n == k) ≡ false
past-end xs n k none lt = ⊎_elim (λ e. absurd (cc (sym none ∙ ap (slice_get xs) (eqb-true n k e) ∙ (there xs k lt).1))) (λ e. e) (cases_Bool (n == k))
  where
    there : {Y : Type 0} (ys : List Y) (j : ℕ) → j < length ys → (y : Y) × (slice_get ys j ≡ Some y)
    there [] j less = absurd (no j less)
      where
        no : (a : ℕ) → a < 0 → ⊥
        no a = omega arith
    there (y ∷ ys) zero less = (y, refl)
    there (y ∷ ys) (suc j) less = there ys j (fewer j (length ys) less)
      where
        fewer : (a b : ℕ) → suc a < suc b → a < b
        fewer a b = omega arith

once-past : (units : List Unit) (placed : List (Option ℕ)) (n : ℕ) (left : List ℕ) → slice_get units n ≡ None → AreOnceOrLeft (length units) placed (n ∷ left) → AreOnceOrLeft (length units) placed left
once-past units placed n left none once k lt =
    ap (λ m. count_by (is_number k) placed + m) (sym (count-cons (λ m. m == k) n left ∙ ap (λ b. cond b 1 0 + count_by (λ m. m == k) left) (past-end units n k none lt) ∙ none_more (count_by (λ m. m == k) left))) ∙ once k lt

count-past : (units : List Unit) (label : Label) (n : ℕ) (left : List ℕ) → slice_get units n ≡ None → count_by (has_label units label) (n ∷ left) ≡ count_by (has_label units label) left
count-past units label n left none =
    count-cons (has_label units label) n left ∙ ap (λ o. cond (option_map_or (λ u. same_label label (label_of u)) o false) 1 0 + count_by (has_label units label) left) none ∙ none_more (count_by (has_label units label) left)

pub base-past : (given : List Label) (base ours theirs : List Unit) (places : List Place) (n : ℕ) (lb lo lt : List ℕ) → slice_get base n ≡ None → AreSoFar given base ours theirs places (n ∷ lb) lo lt → AreSoFar given base ours theirs places lb lo lt
base-past given base ours theirs places n lb lo lt none so_far = record {
  base_once = once-past base (map (λ p. p.base) places) n lb none so_far.base_once;
  ours_once = so_far.ours_once;
  theirs_once = so_far.theirs_once;
  settled = so_far.settled;
  ours_seldom = so_far.ours_seldom;
  theirs_seldom = so_far.theirs_seldom;
}

pub ours-past : (given : List Label) (base ours theirs : List Unit) (places : List Place) (n : ℕ) (lb lo lt : List ℕ) → slice_get ours n ≡ None → AreSoFar given base ours theirs places lb (n ∷ lo) lt → AreSoFar given base ours theirs places lb lo lt
ours-past given base ours theirs places n lb lo lt none so_far = record {
  base_once = so_far.base_once;
  ours_once = once-past ours (map (λ p. p.ours) places) n lo none so_far.ours_once;
  theirs_once = so_far.theirs_once;
  settled = so_far.settled;
  ours_seldom = λ label most in_ours in_theirs. subst (λ k. count_by (same_label label) (labels_left ours theirs places) + k ≤ most) (count-past ours label n lo none) (so_far.ours_seldom label most in_ours in_theirs);
  theirs_seldom = so_far.theirs_seldom;
}

pub theirs-past : (given : List Label) (base ours theirs : List Unit) (places : List Place) (n : ℕ) (lb lo lt : List ℕ) → slice_get theirs n ≡ None → AreSoFar given base ours theirs places lb lo (n ∷ lt) → AreSoFar given base ours theirs places lb lo lt
theirs-past given base ours theirs places n lb lo lt none so_far = record {
  base_once = so_far.base_once;
  ours_once = so_far.ours_once;
  theirs_once = once-past theirs (map (λ p. p.theirs) places) n lt none so_far.theirs_once;
  settled = so_far.settled;
  ours_seldom = so_far.ours_seldom;
  theirs_seldom = λ label most in_ours in_theirs. subst (λ k. count_by (same_label label) (labels_left ours theirs places) + k ≤ most) (count-past theirs label n lt none) (so_far.theirs_seldom label most in_ours in_theirs);
}

-- ---- before the first place

-- a number below a range is not in it, and a number of a range is in it once
below : (n from count : ℕ) → n < from → count_by (λ m. m == n) (range_with_len from count) ≡ 0
below n from zero less = refl
below n from (suc count) less =
    count-cons (λ m. m == n) from (range_with_len (from + 1) count)
    ∙ ap₂ (λ b k. cond b 1 0 + k) (other from n less) (below n (from + 1) count (more n from less))
  where
    more : (a b : ℕ) → a < b → a < b + 1
    more a b = omega arith

    other : (a b : ℕ) → b < a → (a == b) ≡ false
    other a b lt = ⊎_elim (λ e. absurd (no a b lt (eqb-true a b e))) (λ e. e) (cases_Bool (a == b))
      where
        no : (x y : ℕ) → y < x → x ≡ y → ⊥
        no x y h e = omega (arith, h, e)

within : (n from count : ℕ) → from ≤ n → n < from + count → count_by (λ m. m == n) (range_with_len from count) ≡ 1
within n from zero low high = absurd (none n from low high)
  where
    none : (a b : ℕ) → b ≤ a → a < b + 0 → ⊥
    none a b = omega arith
within n from (suc count) low high =
    count-cons (λ m. m == n) from (range_with_len (from + 1) count)
    ∙ ⊎_elim
    (λ e. ap₂ (λ b k. cond b 1 0 + k) e (below n (from + 1) count (next from n (eqb-true from n e))))
    (λ e. ap₂ (λ b k. cond b 1 0 + k) e (within n (from + 1) count (after from n low (λ same. true≢false (sym (eq-eqb from n same) ∙ e))) (shift from count n high)))
    (cases_Bool (from == n))
  where
    next : (a b : ℕ) → a ≡ b → b < a + 1
    next a b e = omega (arith, e)

    shift : (a b k : ℕ) → k < a + suc b → k < (a + 1) + b
    shift a b k = omega arith

    after : (a b : ℕ) → a ≤ b → (a ≡ b → ⊥) → a + 1 ≤ b
    after a b le ne = ⊎_elim (λ e. absurd (ne e)) (λ r. ⊎_elim (λ lt. less a b lt) (λ gt. absurd (past a b le gt)) r) (cases_order a b)
      where
        less : (x y : ℕ) → x < y → x + 1 ≤ y
        less x y = omega arith

        past : (x y : ℕ) → x ≤ y → y < x → ⊥
        past x y = omega arith

-- the elements of a list, by their numbers
each-get : {X : Type 0} (xs : List X) → map (slice_get xs) (range_with_len 0 (length xs)) ≡ map (λ x. Some x) xs
each-get [] = refl
each-get {X} (x ∷ xs) =
    ap (λ l. Some x ∷ map (slice_get (x ∷ xs)) l) (shifted 0 (length xs)) ∙ ap (λ l. Some x ∷ l) (map-map (slice_get (x ∷ xs)) suc (range_with_len 0 (length xs)) ∙ each-get xs)
  where
    shifted : (from count : ℕ) → range_with_len (from + 1) count ≡ map suc (range_with_len from count)
    shifted from zero = refl
    shifted from (suc count) = ap₂ (λ a l. a ∷ l) (next from) (shifted (from + 1) count)
      where
        next : (a : ℕ) → a + 1 ≡ suc a
        next a = omega arith

-- the unit is there and has the label
abbrev labelled : Label → Option Unit → Bool
labelled label o = option_map_or (λ u. same_label label (label_of u)) o false

-- all units with a label, by their numbers
labelled-all : (label : Label) (units : List Unit) → count_by (has_label units label) (range_with_len 0 (length units)) ≡ count_by (same_label label) (map label_of units)
labelled-all label units =
    sym (count-map (labelled label) (slice_get units) (range_with_len 0 (length units))) ∙ ap (count_by (labelled label)) (each-get units) ∙ each units
  where
    count-map : {X Y : Type 0} (of : Y → Bool) (f : X → Y) (xs : List X) → count_by of (map f xs) ≡ count_by (λ x. of (f x)) xs
    count-map of f [] = refl
    count-map of f (x ∷ xs) = count-cons of (f x) (map f xs) ∙ ap (λ k. cond (of (f x)) 1 0 + k) (count-map of f xs) ∙ sym (count-cons (λ y. of (f y)) x xs)

    each : (us : List Unit) → count_by (labelled label) (map (λ u. Some u) us) ≡ count_by (same_label label) (map label_of us)
    each [] = refl
    each (u ∷ us) = count-cons (labelled label) (Some u) (map (λ v. Some v) us) ∙ ap (λ k. cond (same_label label (label_of u)) 1 0 + k) (each us) ∙ sym (count-cons (same_label label) (label_of u) (map label_of us))

once-left : (count : ℕ) → AreOnceOrLeft count [] (range_with_len 0 count)
once-left count n lt = none_more (count_by (λ m. m == n) (range_with_len 0 count)) ∙ within n 0 count (omega arith) (shift n count lt)
  where
    shift : (a b : ℕ) → a < b → a < 0 + b
    shift a b = omega arith

-- no unit is at a place yet
pub none-put : (given : List Label) (base ours theirs : List Unit) → AreSoFar given base ours theirs [] (range_with_len 0 (length base)) (range_with_len 0 (length ours)) (range_with_len 0 (length theirs))
none-put given base ours theirs = record {
  base_once = once-left (length base);
  ours_once = once-left (length ours);
  theirs_once = once-left (length theirs);
  settled = refl;
  ours_seldom = λ label most in_ours in_theirs. all_left (count_by (has_label ours label) (range_with_len 0 (length ours))) (count_by (same_label label) (map label_of ours)) most (labelled-all label ours) in_ours;
  theirs_seldom = λ label most in_ours in_theirs. all_left (count_by (has_label theirs label) (range_with_len 0 (length theirs))) (count_by (same_label label) (map label_of theirs)) most (labelled-all label theirs) in_theirs;
}
  where
    all_left : (a b most : ℕ) → a ≡ b → b ≤ most → 0 + a ≤ most
    all_left a b most is le = omega (arith, is, le)

-- the numbers so far, and one more
pub next-number : (n count : ℕ) → n < count → take (n + 1) (range_with_len 0 count) ≡ take n (range_with_len 0 count) ++ n ∷ []
next-number n count lt =
    take_more (range_with_len 0 count) n 0 (subst (λ k. n < k) (sym (length-range_with_len 0 count)) lt)
    ∙ ap (λ k. take n (range_with_len 0 count) ++ k ∷ []) (get_or-range_with_len 0 count n 0 lt ∙ none_more n)

pub all-numbers : (n count : ℕ) → count ≤ n → take n (range_with_len 0 count) ≡ range_with_len 0 count
all-numbers n count past = take_all n (range_with_len 0 count) (subst (λ k. k ≤ n) (sym (length-range_with_len 0 count)) past)

-- ---- after the last place

all-once : (count : ℕ) (placed : List (Option ℕ)) → AreOnceOrLeft count placed [] → are_once count placed ≡ true
all-once count placed once = range-all (λ n. count_by (is_number n) placed == 1) 0 count (λ n lt. eq-eqb (count_by (is_number n) placed) 1 (add_none (count_by (is_number n) placed) (once n (within_all n count lt))))
  where
    within_all : (a b : ℕ) → a < 0 + b → a < b
    within_all a b = omega arith

    add_none : (a : ℕ) → a + 0 ≡ 1 → a ≡ 1
    add_none a e = omega (arith, e)

all-pass : {X : Type 0} (test : X → Bool) (xs : List X) → ((x : X) → test x ≡ true) → list_all test xs ≡ true
all-pass test [] each = refl
all-pass test (x ∷ xs) each = and_from _ _ (each x) (all-pass test xs each)

-- a count that no bound of two others bounds less
one-of-two : (left ours theirs : ℕ) → ((most : ℕ) → ours ≤ most → theirs ≤ most → left + 0 ≤ most) → (nat_le left ours || nat_le left theirs) ≡ true
one-of-two left ours theirs few =
    ⊎_elim (λ e. or_left _ _ (le-leb left ours (plain left ours (few ours (least ours) (equal ours theirs e)))))
    (λ r. ⊎_elim (λ lt. or_right _ _ (le-leb left theirs (plain left theirs (few theirs (less ours theirs lt) (least theirs)))))
    (λ gt. or_left _ _ (le-leb left ours (plain left ours (few ours (least ours) (less theirs ours gt))))) r)
    (cases_order ours theirs)
  where
    least : (a : ℕ) → a ≤ a
    least a = omega arith

    equal : (a b : ℕ) → a ≡ b → b ≤ a
    equal a b e = omega (arith, e)

    less : (a b : ℕ) → a < b → a ≤ b
    less a b = omega arith

    plain : (a b : ℕ) → a + 0 ≤ b → a ≤ b
    plain a b le = omega (arith, le)

-- all units are at places: they are a merge
pub all-put : (given : List Label) (base ours theirs : List Unit) (places : List Place) → AreSoFar given base ours theirs places [] [] [] → is_merge given base ours theirs places ≡ true
all-put given base ours theirs places so_far =
    and_from _ _ (and_from _ _ (and_from _ _ (and_from _ _
    (all-once (length base) (map (λ p. p.base) places) so_far.base_once)
    (all-once (length ours) (map (λ p. p.ours) places) so_far.ours_once))
    (all-once (length theirs) (map (λ p. p.theirs) places) so_far.theirs_once))
    so_far.settled)
    (all-pass (is_seldom (map label_of ours) (map label_of theirs) (labels_left ours theirs places)) (labels_left ours theirs places)
    (λ label. one-of-two (count_by (same_label label) (labels_left ours theirs places)) (count_by (same_label label) (map label_of ours)) (count_by (same_label label) (map label_of theirs))
    (λ most in_ours in_theirs. so_far.ours_seldom label most in_ours in_theirs)))

-- what is left is none
pub left-at-end : (given : List Label) (base ours theirs : List Unit) (places : List Place) (numbers : List ℕ) (k : ℕ) (lo lt : List ℕ) → length numbers ≤ k
    → AreSoFar given base ours theirs places (drop k numbers) lo lt → AreSoFar given base ours theirs places [] lo lt
left-at-end given base ours theirs places numbers k lo lt past so_far = subst (λ l. AreSoFar given base ours theirs places l lo lt) (drop_all k numbers past) so_far

pub ours-at-end : (given : List Label) (base ours theirs : List Unit) (places : List Place) (numbers : List ℕ) (k : ℕ) (lb lt : List ℕ) → length numbers ≤ k
    → AreSoFar given base ours theirs places lb (drop k numbers) lt → AreSoFar given base ours theirs places lb [] lt
ours-at-end given base ours theirs places numbers k lb lt past so_far = subst (λ l. AreSoFar given base ours theirs places lb l lt) (drop_all k numbers past) so_far

pub theirs-at-end : (given : List Label) (base ours theirs : List Unit) (places : List Place) (numbers : List ℕ) (k : ℕ) (lb lo : List ℕ) → length numbers ≤ k
    → AreSoFar given base ours theirs places lb lo (drop k numbers) → AreSoFar given base ours theirs places lb lo []
theirs-at-end given base ours theirs places numbers k lb lo past so_far = subst (λ l. AreSoFar given base ours theirs places lb lo l) (drop_all k numbers past) so_far

-- the numbers that are left, after one of them
pub next-left : (numbers : List ℕ) (k : ℕ) → k < length numbers → drop k numbers ≡ get_or numbers k 0 ∷ drop (k + 1) numbers
next-left numbers k lt = drop-next numbers k 0 lt

-- no unit is at a place yet, by the numbers of units in the code
pub begin : (given : List Label) (base ours theirs : List Unit) (places : List Place) (lb lo lt : List ℕ) (nb no_of nt : ℕ) → places ≡ [] → lb ≡ range_with_len 0 nb → lo ≡ range_with_len 0 no_of → lt ≡ range_with_len 0 nt
    → nb ≡ length base → no_of ≡ length ours → nt ≡ length theirs → AreSoFar given base ours theirs places lb lo lt
begin given base ours theirs places lb lo lt nb no_of nt none is_b is_o is_t len_b len_o len_t =
    subst (λ ps. AreSoFar given base ours theirs ps lb lo lt) (sym none)
    (subst (λ l. AreSoFar given base ours theirs [] l lo lt) (sym (is_b ∙ ap (range_with_len 0) len_b))
    (subst (λ l. AreSoFar given base ours theirs [] (range_with_len 0 (length base)) l lt) (sym (is_o ∙ ap (range_with_len 0) len_o))
    (subst (λ l. AreSoFar given base ours theirs [] (range_with_len 0 (length base)) (range_with_len 0 (length ours)) l) (sym (is_t ∙ ap (range_with_len 0) len_t)) (none-put given base ours theirs))))
