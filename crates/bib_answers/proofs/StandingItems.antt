-- Where items stand, one after another.
use Rattle.bib_answers.proofs.Words.{◌==◌, ◌≡◌, ◌≢◌, ◌∙◌, ℕ, zero, suc, ◌+◌, ◌<◌, ◌≤◌, Bool, false, cond, List, [], ◌∷◌, ◌++◌, length, take, get_or, map, slice_get, Some, filter, append-nil, refl, sym, ap, ⊎_elim, cases_Bool, cond-true, cond-false, false≢true, take_all, take_more, get_or_from_slice_get, range_with_len, Text, Reading}
use Rattle.std.proofs.Common.{arith, ◌-◌, min, nat_lt, if◌then◌else◌, length-append, ne_eqb}
use Rattle.std.proofs.lemmas.Bool.{eqb-true, eq-eqb, cases_lt, lt-ltb, le-ltb}
use Rattle.std.proofs.lemmas.List.FromFn.{length-map-range_with_len, get_or-map-range_with_len, length-range_with_len}
use Rattle.std.proofs.lemmas.List.Sums.{count_by-le-length, length-filter}
use Rattle.bib_scan.specs.Layout.{start_of}
use Rattle.bib_shelf.specs.Joined.{located_in}
use Rattle.bib_shelf.proofs.Searches.{begins_no_later}
use Rattle.bib_store.proofs.Citations.{filter_range_more}
use Rattle.shelf_spec.specs.Shelf.{seam}
use Rattle.shelf_spec.specs.Numbers.{located}
use Rattle.entry_json.specs.declared.raw.Standing.{Standing}
use Rattle.bib_answers.specs.Raw.{file_at, number_in_file}

-- ---- a list of standings

module _ (f : ℕ → Standing) (count : ℕ) where
  abbrev pub standings : List Standing
  standings = map f (range_with_len 0 count)

  -- one more
  pub standings_more : (m : ℕ) (s : Standing) → m < count → s ≡ f m → take m standings ++ s ∷ [] ≡ take (m + 1) standings
  standings_more m s lt is = sym (
      take_more standings m s (omega (arith, lt, length-map-range_with_len f 0 count))
      ∙ ap (λ (x : Standing). take m standings ++ x ∷ []) (get_or-map-range_with_len f 0 count m m s lt (omega arith) ∙ sym is))

  pub standings_all : (m : ℕ) → count ≤ m → take m standings ≡ standings
  standings_all m le = take_all m standings (omega (arith, le, length-map-range_with_len f 0 count))

  pub standing_within : (all : List Standing) (m : ℕ) → all ≡ standings → m < count → m < length all
  standing_within all m are lt = let long : length all ≡ count = ap (length {A = Standing}) are ∙ length-map-range_with_len f 0 count in omega (arith, lt, long)

  pub standing_among : (all : List Standing) (m : ℕ) (s : Standing) → all ≡ standings → m < count → slice_get all m ≡ Some s → s ≡ f m
  standing_among all m s are lt at =
      sym (get_or_from_slice_get all m s s at)
      ∙ ap (λ (ss : List Standing). get_or ss m s) are
      ∙ get_or-map-range_with_len f 0 count m m s lt (omega arith)

-- ---- files of places

near_is : (file next : Text) (more : List Text) (place : ℕ) → place < length file + length seam → located file (next ∷ more) place ≡ (0, min place (length file))
near_is file next more place near =
    let rest = located next more (place - (length file + length seam)) in
    cond-true (nat_lt place (length file + length seam)) (0, min place (length file)) (suc rest.0, rest.1) (lt-ltb place (length file + length seam) near)

far_is : (file next : Text) (more : List Text) (place : ℕ) → length file + length seam ≤ place
    → located file (next ∷ more) place ≡ (suc (located next more (place - (length file + length seam))).0, (located next more (place - (length file + length seam))).1)
far_is file next more place far =
    let rest = located next more (place - (length file + length seam)) in
    cond-false (nat_lt place (length file + length seam)) (0, min place (length file)) (suc rest.0, rest.1) (le-ltb place (length file + length seam) far)

located_later : (file : Text) (files : List Text) (a b : ℕ) → a ≤ b → (located file files a).0 ≤ (located file files b).0
located_later file [] a b le = omega arith
located_later file (next ∷ more) a b le = ⊎_elim
    (λ near. let first : (located file (next ∷ more) a).0 ≡ 0 = ap (λ (p : ℕ × ℕ). p.0) (near_is file next more a near) in omega (arith, first))
    (λ far.
    let before = length file + length seam in
    let far_b : before ≤ b = omega (arith, far, le) in
    let at_a : (located file (next ∷ more) a).0 ≡ suc (located next more (a - before)).0 = ap (λ (p : ℕ × ℕ). p.0) (far_is file next more a far) in
    let at_b : (located file (next ∷ more) b).0 ≡ suc (located next more (b - before)).0 = ap (λ (p : ℕ × ℕ). p.0) (far_is file next more b far_b) in
    let later = located_later next more (a - before) (b - before) (omega (arith, le)) in
    omega (arith, at_a, at_b, later))
    (cases_lt a (length file + length seam))

in_later : (files : List Text) (a b : ℕ) → a ≤ b → (located_in files a).0 ≤ (located_in files b).0
in_later [] a b le = omega arith
in_later (file ∷ files) a b le = located_later file files a b le

file_later : (files : List Text) (db : Reading) (m n : ℕ) → m ≤ n → n ≤ length db.items → file_at files db m ≤ file_at files db n
file_later files db m n le within = in_later files (start_of db m) (start_of db n) (begins_no_later db m n le within)

-- ---- numbers of items in their files

-- none of the first m numbers passes
filter_none : (p : ℕ → Bool) (m : ℕ) → ((k : ℕ) → k < m → p k ≡ false) → filter p (range_with_len 0 m) ≡ []
filter_none p zero none = refl
filter_none p (suc m) none =
    let more : suc m ≡ m + 1 = omega arith in
    ap (λ n. filter p (range_with_len 0 n)) more
    ∙ filter_range_more p m
    ∙ ap (λ b. filter p (range_with_len 0 m) ++ cond b (m ∷ []) []) (none m (omega arith))
    ∙ append-nil (filter p (range_with_len 0 m))
    ∙ filter_none p m (λ k lt. none k (omega (arith, lt)))

-- the numbers below m of the items that begin in this file
abbrev pub among_file : List Text → Reading → ℕ → ℕ → List ℕ
among_file files db file m = filter (λ k. file_at files db k == file) (range_with_len 0 m)

-- Before item m, `count` items were seen that begin in the file `now`; no item before it begins in a later file, and none from it on in an earlier one.
pub record IsCounted (files : List Text) (db : Reading) (m now count : ℕ) : Type 0 where
  pub counted : count ≡ length (among_file files db now m)
  pub before : (k : ℕ) → k < m → file_at files db k ≤ now
  pub after : (k : ℕ) → m ≤ k → k < length db.items → now ≤ file_at files db k

pub counted_none : (files : List Text) (db : Reading) → IsCounted files db 0 0 0
counted_none files db = record { counted = refl; before = λ k lt. absurd (omega (arith, lt)); after = λ k le within. omega arith }

module _ (files : List Text) (db : Reading) (m now count next item : ℕ) (same : Bool) (within : m < length db.items) (is : IsCounted files db m now count)
    (at : next ≡ file_at files db m) (alike : same ≡ (next == now)) (numbered : item ≡ (if same then count else 0)) where
  same_file : next ≡ now → count ≡ length (among_file files db next m)
  same_file e = is.counted ∙ ap (λ file. length (among_file files db file m)) (sym e)

  other_file : next ≢ now → 0 ≡ length (among_file files db next m)
  other_file differs = sym (ap (length {A = ℕ}) (filter_none (λ k. file_at files db k == next) m (λ k lt. ne_eqb (file_at files db k) next (λ e.
      let early = is.before k lt in
      let late = is.after m (omega arith) within in
      differs (omega (arith, e, early, late, at))))))

  counted_here : item ≡ length (among_file files db next m)
  counted_here = ⊎_elim
      (λ t. numbered ∙ cond-true same count 0 t ∙ same_file (eqb-true next now (sym alike ∙ t)))
      (λ f. numbered ∙ cond-false same count 0 f ∙ other_file (λ e. false≢true (sym f ∙ alike ∙ eq-eqb next now e)))
      (cases_Bool same)

  -- the number of item m in its file
  pub item_numbered : item ≡ number_in_file files db m
  item_numbered = counted_here ∙ ap (λ file. length (among_file files db file m)) at

  pub item_small : item ≤ m
  item_small =
      let most = count_by-le-length (λ k. file_at files db k == next) (range_with_len 0 m) in
      let filtered = length-filter (λ k. file_at files db k == next) (range_with_len 0 m) in
      omega (arith, counted_here, most, filtered, length-range_with_len 0 m)

  -- after item m
  pub counted_more : IsCounted files db (m + 1) next (item + 1)
  counted_more = record {
    counted =
        ap (λ n. n + 1) counted_here
        ∙ sym (length-append (among_file files db next m) (m ∷ []))
        ∙ sym (ap (length {A = ℕ}) (filter_range_more (λ k. file_at files db k == next) m
        ∙ ap (λ b. among_file files db next m ++ cond b (m ∷ []) []) (eq-eqb (file_at files db m) next (sym at))));
    before = λ k lt. ⊎_elim
        (λ less. let early = is.before k less in let late = is.after m (omega arith) within in omega (arith, early, late, at))
        (λ more. let here : k ≡ m = omega (arith, lt, more) in let e : file_at files db k ≡ next = ap (file_at files db) here ∙ sym at in omega (arith, e))
        (cases_lt k m);
    after = λ k le inside. let later = file_later files db m k (omega (arith, le)) (omega (arith, inside)) in omega (arith, later, at);
  }
