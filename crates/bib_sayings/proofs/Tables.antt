-- The table of fields, as it grows.
use Rattle.std.proofs.Common.{◌≡◌, Bool, true, false, cond, not, ◌&&◌, ◌||◌, if◌then◌else◌, List, [], ◌∷◌, ◌++◌, Option, None, Some, is_some, find, option_map, bytes_eq, refl, sym, ◌∙◌, ap, subst, append_assoc, append-nil, ⊎_elim}
use Rattle.std.specs.Borrow.{Bor}
use Rattle.std.specs.List.{list_any}
use Rattle.std.specs.Option.{option_copied, option_or}
use Rattle.std.proofs.lemmas.Bool.{cases_Bool, cond-true, cond-false, true≢false, and_parts, and_from}
use Rattle.std.proofs.lemmas.List.Folds.{find-append, list_any-append}
use Rattle.bib_spec.specs.Text.{Text, folded, same}
use Rattle.bib_spec.proofs.Names.{eq-true, same_comm}
use Rattle.bib_scan.specs.View.{Field}
use Rattle.folded_map.specs.FoldedMap.{value_at, IsWith}
use Rattle.merge_spec.specs.ThreeWay.{are_single}
use Rattle.bib_sayings.specs.FieldTables.{names_of, value_named, IsTableOf, IsTableFound}

abbrev pub Table : Type 0
Table = List (Text × Bor Text)

-- the table is that of the fields before the rest, whose names are there once each
pub record IsTabling (all rest : List Field) (table : Table) : Type 0 where
  pub done : List Field
  pub whole : all ≡ done ++ rest
  pub single : are_single (names_of done) ≡ true
  pub is : IsTableOf table done

-- ---- names

names-append : (a b : List Field) → names_of (a ++ b) ≡ names_of a ++ names_of b
names-append [] b = refl
names-append (f ∷ a) b = ap (λ l. f.name ∷ l) (names-append a b)

-- one more name that is not there yet
single-more : (names : List Text) (n : Text) → are_single names ≡ true → list_any (λ m. same m n) names ≡ false → are_single (names ++ n ∷ []) ≡ true
single-more [] n single free = refl
single-more (m ∷ names) n single free =
    let parts = and_parts _ _ single in
    and_from _ _ (ap not (list_any-append (same m) names (n ∷ [])) ∙ ap not (ap (λ b. b || (same m n || false)) (fresh parts.0)) ∙ ap (λ b. not (b || false)) (first free)) (single-more names n parts.1 (later (same m n) free))
  where
    fresh : not (list_any (same m) names) ≡ true → list_any (same m) names ≡ false
    fresh h = at (list_any (same m) names) h
      where
        at : (b : Bool) → not b ≡ true → b ≡ false
        at true e = absurd (true≢false (sym e))
        at false e = refl

    first : (same m n || list_any (λ o. same o n) names) ≡ false → same m n ≡ false
    first h = at (same m n) h
      where
        at : (b : Bool) → (b || list_any (λ o. same o n) names) ≡ false → b ≡ false
        at true e = absurd (true≢false e)
        at false e = refl

    later : (b : Bool) → (b || list_any (λ o. same o n) names) ≡ false → list_any (λ o. same o n) names ≡ false
    later true e = absurd (true≢false e)
    later false e = e

-- one more name that is there already
single-twice : (names : List Text) (n : Text) (more : List Text) → list_any (λ m. same m n) names ≡ true → are_single (names ++ n ∷ more) ≡ false
single-twice [] n more there = absurd (true≢false (sym there))
single-twice (m ∷ names) n more there =
    ⊎_elim (λ e. ap (λ b. not b && are_single (names ++ n ∷ more)) (list_any-append (same m) names (n ∷ more) ∙ ap (λ b. list_any (same m) names || (b || list_any (same m) more)) e ∙ or_true (list_any (same m) names)))
    (λ e. ap (λ b. not (list_any (same m) (names ++ n ∷ more)) && b) (single-twice names n more (later e there)) ∙ and_false (not (list_any (same m) (names ++ n ∷ more))))
    (cases_Bool (same m n))
  where
    or_true : (b : Bool) → (b || true) ≡ true
    or_true true = refl
    or_true false = refl

    and_false : (b : Bool) → (b && false) ≡ false
    and_false true = refl
    and_false false = refl

    later : same m n ≡ false → (same m n || list_any (λ o. same o n) names) ≡ true → list_any (λ o. same o n) names ≡ true
    later e h = sym (ap (λ b. b || list_any (λ o. same o n) names) e) ∙ h

-- a name has a value if it is there
named-any : (fields : List Field) (name : Text) → is_some (value_named fields name) ≡ list_any (λ m. same m name) (names_of fields)
named-any [] name = refl
named-any (f ∷ fields) name = at (same f.name name) (named-any fields name)
  where
    at : (b : Bool) → is_some (value_named fields name) ≡ list_any (λ m. same m name) (names_of fields) →
        is_some (option_map (λ field. field.value) (cond b (Some f) (find (λ field. same field.name name) fields))) ≡ (b || list_any (λ m. same m name) (names_of fields))
    at true later = refl
    at false later = later

-- names that are folded alike have one value
named-alike : (fields : List Field) (a b : Text) → folded a ≡ folded b → value_named fields a ≡ value_named fields b
named-alike fields a b e = ap (λ t. option_map (λ field. field.value) (find (λ field. bytes_eq (folded field.name) t) fields)) e

-- ---- the table

pub tabling-none : (all : List Field) (table : Table) → ((name : Text) → value_at table name ≡ None) → IsTabling all all table
tabling-none all table none = record { done = []; whole = refl; single = refl; is = λ name. ap option_copied (none (folded name)) }

is_some-copied : (o : Option (Bor Text)) → is_some (option_copied o) ≡ is_some o
is_some-copied None = refl
is_some-copied (Some b) = refl

-- whether the name of the next field is there already
there : (all rest : List Field) (table : Table) (f : Field) (old : Option (Bor Text)) (b : Bool) (t : IsTabling all (f ∷ rest) table) → old ≡ value_at table (folded f.name) → is_some old ≡ b →
    list_any (λ m. same m f.name) (names_of t.done) ≡ b
there all rest table f old b t value is = sym (named-any t.done f.name) ∙ ap is_some (sym (t.is f.name)) ∙ is_some-copied (value_at table (folded f.name)) ∙ ap is_some (sym value) ∙ is

pub tabling-twice : (all rest : List Field) (table : Table) (f : Field) (old : Option (Bor Text)) → IsTabling all (f ∷ rest) table → old ≡ value_at table (folded f.name) → is_some old ≡ true →
    are_single (names_of all) ≡ false
tabling-twice all rest table f old t value is =
    ap (λ l. are_single (names_of l)) t.whole ∙ ap are_single (names-append t.done (f ∷ rest)) ∙ single-twice (names_of t.done) f.name (names_of rest) (there all rest table f old true t value is)

pub tabling-more : (all rest : List Field) (table new : Table) (f : Field) (value : Bor Text) (old : Option (Bor Text)) → IsTabling all (f ∷ rest) table → old ≡ value_at table (folded f.name) → is_some old ≡ false →
    value.now ≡ f.value → IsWith table f.name value new → IsTabling all rest new
tabling-more all rest table new f value old t was is value_is with =
    let free = there all rest table f old false t was is in
    record {
      done = t.done ++ f ∷ [];
      whole = t.whole ∙ sym (append_assoc t.done (f ∷ []) rest);
      single = ap are_single (names-append t.done (f ∷ [])) ∙ single-more (names_of t.done) f.name t.single free;
      is = λ name. ap option_copied (with (folded name)) ∙ ⊎_elim (λ e. same_name name e) (λ e. other_name name e) (cases_Bool (bytes_eq (folded name) (folded f.name)));
    }
  where
    no_value : value_named t.done f.name ≡ None
    no_value = sym (t.is f.name) ∙ ap option_copied (sym was) ∙ none old is
      where
        none : (o : Option (Bor Text)) → is_some o ≡ false → option_copied o ≡ None
        none None e = refl
        none (Some b) e = absurd (true≢false e)

    added : (name : Text) → value_named (t.done ++ f ∷ []) name ≡ option_map (λ field. field.value) (option_or (find (λ field. same field.name name) t.done) (cond (same f.name name) (Some f) None))
    added name = ap (option_map (λ field. field.value)) (find-append (λ field. same field.name name) t.done (f ∷ []))

    from_none : (o : Option Field) (b : Bool) → option_map (λ field. field.value) o ≡ None → b ≡ true → option_map (λ field. field.value) (option_or o (cond b (Some f) None)) ≡ Some f.value
    from_none None b none e = ap (λ c. option_map (λ field. field.value) (cond c (Some f) None)) e
    from_none (Some g) b none e = cc

    from_other : (o : Option Field) (b : Bool) → b ≡ false → option_map (λ field. field.value) (option_or o (cond b (Some f) None)) ≡ option_map (λ field. field.value) o
    from_other None b e = ap (λ c. option_map (λ field. field.value) (cond c (Some f) None)) e
    from_other (Some g) b e = refl

    same_name : (name : Text) → bytes_eq (folded name) (folded f.name) ≡ true → option_copied (if bytes_eq (folded name) (folded f.name) then Some value else value_at table (folded name)) ≡ value_named (t.done ++ f ∷ []) name
    same_name name e =
        let folds : folded name ≡ folded f.name = eq-true (folded name) (folded f.name) e in
        ap option_copied (cond-true _ (Some value) (value_at table (folded name)) e)
        ∙ ap Some value_is
        ∙ sym (added name ∙ from_none (find (λ field. same field.name name) t.done) (same f.name name) (named-alike t.done name f.name folds ∙ no_value) (ap (bytes_eq (folded f.name)) folds ∙ ap (λ n. bytes_eq n (folded f.name)) (sym folds) ∙ e))

    other_name : (name : Text) → bytes_eq (folded name) (folded f.name) ≡ false → option_copied (if bytes_eq (folded name) (folded f.name) then Some value else value_at table (folded name)) ≡ value_named (t.done ++ f ∷ []) name
    other_name name e =
        ap option_copied (cond-false _ (Some value) (value_at table (folded name)) e)
        ∙ t.is name
        ∙ sym (added name ∙ from_other (find (λ field. same field.name name) t.done) (same f.name name) (same_comm f.name name ∙ e))

pub tabling-all : (all : List Field) (table : Table) → IsTabling all [] table → IsTableFound (Some table) all
tabling-all all table t =
    let is : t.done ≡ all = sym (append-nil t.done) ∙ sym t.whole in
    (subst (λ fs. are_single (names_of fs) ≡ true) is t.single, subst (λ fs. IsTableOf table fs) is t.is)
