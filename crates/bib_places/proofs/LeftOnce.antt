-- What is left in a merge once is there no more often than in the file that it is from.
use Rattle.std.proofs.Common.{◌≡◌, ℕ, zero, suc, ◌+◌, ◌||◌, ◌&&◌, Bool, true, false, cond, List, [], ◌∷◌, Option, None, Some, map, filter_map, slice_get, count_by, refl, sym, ◌∙◌, ap, ap₂, subst, arith}
use Rattle.std.specs.Prelude.{nat_le}
use Rattle.std.specs.List.{list_all, cons_option}
use Rattle.std.specs.Option.{option_map_or}
use Rattle.std.proofs.lemmas.Bool.{and_from, or_left, or_right, leb-true, le-leb}
use Rattle.std.proofs.lemmas.Option.{same_Some}
use Rattle.bib_spec.specs.Text.{Text}
use Rattle.bib_spec.proofs.Names.{true-eq}
use Rattle.merge_spec.specs.Units.{Unit, Label, EntryLabel, MacroLabel, BytesLabel, label_of, same_label}
use Rattle.merge_spec.specs.ThreeWay.{Outcome, Ours, Theirs, Mixed, Gone, Both}
use Rattle.merge_spec.specs.Merged.{Place, unit_at, label_left, labels_left, is_seldom}
use Rattle.bib_places.specs.LabelCodes.{code_of}
use Rattle.bib_places.specs.Tallies.{count_of}
use Rattle.bib_places.proofs.Lists.{all-map}
use Rattle.bib_places.proofs.Counting.{count-cons, count-codes}

-- a label is the same as itself
pub same-self : (l : Label) → same_label l l ≡ true
same-self (EntryLabel a) = true-eq a a refl
same-self (MacroLabel a) = true-eq a a refl
same-self (BytesLabel a) = true-eq a a refl

-- some of the units have the label
abbrev has : List Unit → Label → Bool
has units l = nat_le 1 (count_by (same_label l) (map label_of units))

one-more : (k : ℕ) → nat_le 1 (1 + k) ≡ true
one-more k = le-leb 1 (1 + k) (omega arith)

-- the label of a unit is among the labels of the units
there-once : (units : List Unit) (n : ℕ) (u : Unit) → slice_get units n ≡ Some u → has units (label_of u) ≡ true
there-once [] n u is = absurd (cc (is))
there-once (v ∷ units) zero u is =
    ap (nat_le 1) (count-cons (same_label (label_of u)) (label_of v) (map label_of units))
    ∙ ap (λ b. nat_le 1 (cond b 1 0 + count_by (same_label (label_of u)) (map label_of units))) (ap (λ w. same_label (label_of u) (label_of w)) (same_Some v u is) ∙ same-self (label_of u))
    ∙ one-more (count_by (same_label (label_of u)) (map label_of units))
there-once (v ∷ units) (suc n) u is =
    ap (nat_le 1) (count-cons (same_label (label_of u)) (label_of v) (map label_of units))
    ∙ more (same_label (label_of u) (label_of v)) (count_by (same_label (label_of u)) (map label_of units)) (there-once units n u is)
  where
    more : (b : Bool) (k : ℕ) → nat_le 1 k ≡ true → nat_le 1 (cond b 1 0 + k) ≡ true
    more false k le = let least = leb-true 1 k le in le-leb 1 (0 + k) (omega (arith, least))
    more true k le = one-more k

-- the label of the unit with this number, if there is one
label-in : (units : List Unit) (n : Option ℕ) (l : Label) → option_map_or (λ u. Some (label_of u)) (unit_at units n) None ≡ Some l → has units l ≡ true
label-in units None l is = absurd (cc (is))
label-in units (Some n) l is = at (slice_get units n) refl is
  where
    at : (o : Option Unit) → slice_get units n ≡ o → option_map_or (λ u. Some (label_of u)) o None ≡ Some l → has units l ≡ true
    at None here e = absurd (cc (e))
    at (Some u) here e = subst (λ m. has units m ≡ true) (same_Some (label_of u) l e) (there-once units n u here)

-- the label of what is left at a place is that of a unit of one of the two files
left-there : (ours theirs : List Unit) (o t : Option ℕ) (outcome : Outcome) (l : Label) → label_left (unit_at ours o) (unit_at theirs t) outcome ≡ Some l → (has ours l || has theirs l) ≡ true
left-there ours theirs o t Ours l is = or_left _ _ (label-in ours o l is)
left-there ours theirs o t Theirs l is = or_right _ _ (label-in theirs t l is)
left-there ours theirs o t (Mixed kind key space rows) l is = or_left _ _ (label-in ours o l is)
left-there ours theirs o t Gone l is = absurd (cc (is))
left-there ours theirs o t Both l is = at (unit_at ours o) refl is
  where
    at : (x : Option Unit) → unit_at ours o ≡ x → option_map_or (λ u. Some (label_of u)) x (option_map_or (λ u. Some (label_of u)) (unit_at theirs t) None) ≡ Some l → (has ours l || has theirs l) ≡ true
    at None here e = or_right _ _ (label-in theirs t l e)
    at (Some u) here e = or_left _ _ (label-in ours o l (ap (λ y. option_map_or (λ w. Some (label_of w)) y None) here ∙ e))

-- a test that all that is gathered passes
all-gathered : {X Y : Type 0} (test : Y → Bool) (gives : X → Option Y) (xs : List X) → ((x : X) (y : Y) → gives x ≡ Some y → test y ≡ true) → list_all test (filter_map gives xs) ≡ true
all-gathered test gives [] each = refl
all-gathered {X = X} {Y = Y} test gives (x ∷ xs) each = at (gives x) refl (all-gathered test gives xs each)
  where
    at : (o : Option Y) → gives x ≡ o → list_all test (filter_map gives xs) ≡ true → list_all test (cons_option o (filter_map gives xs)) ≡ true
    at None here rest = rest
    at (Some y) here rest = and_from _ _ (each x y here) rest

all-there : (ours theirs : List Unit) (places : List Place) → list_all (λ l. has ours l || has theirs l) (labels_left ours theirs places) ≡ true
all-there ours theirs places = all-gathered _ (λ p. label_left (unit_at ours p.ours) (unit_at theirs p.theirs) p.outcome) places (λ p l is. left-there ours theirs p.ours p.theirs p.outcome l is)

-- what is there once at most is no more than one
at-most : (a b : ℕ) → nat_le a 1 ≡ true → nat_le 1 b ≡ true → nat_le a b ≡ true
at-most a b one there = let least = leb-true a 1 one in let most = leb-true 1 b there in le-leb a b (omega (arith, least, most))

-- labels that are left once are seldom
once-seldom : (merged ours theirs some : List Label) → list_all (λ l. nat_le (count_by (same_label l) merged) 1) some ≡ true →
    list_all (λ l. nat_le 1 (count_by (same_label l) ours) || nat_le 1 (count_by (same_label l) theirs)) some ≡ true → list_all (is_seldom ours theirs merged) some ≡ true
once-seldom merged ours theirs [] once there = refl
once-seldom merged ours theirs (l ∷ some) once there =
    both (nat_le (count_by (same_label l) merged) 1) (nat_le 1 (count_by (same_label l) ours)) (nat_le 1 (count_by (same_label l) theirs)) refl refl refl (λ a b. once-seldom merged ours theirs some a b) once there
  where
    both : (m o t : Bool) → nat_le (count_by (same_label l) merged) 1 ≡ m → nat_le 1 (count_by (same_label l) ours) ≡ o → nat_le 1 (count_by (same_label l) theirs) ≡ t
        → (list_all (λ k. nat_le (count_by (same_label k) merged) 1) some ≡ true → list_all (λ k. nat_le 1 (count_by (same_label k) ours) || nat_le 1 (count_by (same_label k) theirs)) some ≡ true
        → list_all (is_seldom ours theirs merged) some ≡ true)
        → (m && list_all (λ k. nat_le (count_by (same_label k) merged) 1) some) ≡ true
        → ((o || t) && list_all (λ k. nat_le 1 (count_by (same_label k) ours) || nat_le 1 (count_by (same_label k) theirs)) some) ≡ true
        → (is_seldom ours theirs merged l && list_all (is_seldom ours theirs merged) some) ≡ true
    both false o t is_m is_o is_t rest a b = absurd (cc (a))
    both true true t is_m is_o is_t rest a b = and_from _ _ (or_left _ _ (at-most (count_by (same_label l) merged) (count_by (same_label l) ours) is_m is_o)) (rest a b)
    both true false true is_m is_o is_t rest a b = and_from _ _ (or_right _ _ (at-most (count_by (same_label l) merged) (count_by (same_label l) theirs) is_m is_t)) (rest a b)
    both true false false is_m is_o is_t rest a b = absurd (cc (b))

-- codes that are there once at most are those of labels that are
once-codes : (merged some : List Label) → list_all (λ code. nat_le (count_of code (map code_of merged)) 1) (map code_of some) ≡ true → list_all (λ l. nat_le (count_by (same_label l) merged) 1) some ≡ true
once-codes merged some all = sym (each some) ∙ sym (all-map _ code_of some) ∙ all
  where
    each : (ls : List Label) → list_all (λ l. nat_le (count_of (code_of l) (map code_of merged)) 1) ls ≡ list_all (λ l. nat_le (count_by (same_label l) merged) 1) ls
    each [] = refl
    each (l ∷ ls) = ap₂ (λ a b. a && b) (ap (λ n. nat_le n 1) (count-codes l merged)) (each ls)

-- where no code of what is left is there twice, no unit is there twice because each side has added it
pub single-seldom : (ours theirs : List Unit) (places : List Place) (codes : List Text) → codes ≡ map code_of (labels_left ours theirs places) → list_all (λ code. nat_le (count_of code codes) 1) codes ≡ true →
    list_all (is_seldom (map label_of ours) (map label_of theirs) (labels_left ours theirs places)) (labels_left ours theirs places) ≡ true
single-seldom ours theirs places codes are single =
    let merged = labels_left ours theirs places in
    once-seldom merged (map label_of ours) (map label_of theirs) merged
    (once-codes merged merged (subst (λ (cs : List Text). list_all (λ code. nat_le (count_of code cs) 1) cs ≡ true) are single))
    (all-there ours theirs places)
