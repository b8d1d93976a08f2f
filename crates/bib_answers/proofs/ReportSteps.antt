-- How reports are added: of a value use by use, of an item field by field, and of a file item by item.
use Rattle.bib_answers.proofs.Words.{◌≡◌, ◌∙◌, ℕ, ◌+◌, List, [], ◌∷◌, ◌++◌, length, take, Option, Some, slice_get, refl, sym, ap, subst, append-nil, append_assoc, flat_map, range_with_len, slice_get_within, get_or_from_slice_get, flat_map_more, take-length, Text, same, Part, Macros, Field, OfValue}
use Rattle.bib_answers.proofs.Words.{Assigned, use_reports, extra_report, field_reports, AreFieldsOf, AreSound}
use Rattle.bib_spec.specs.Texts.{parts_of}
use Rattle.bib_store.proofs.Citations.{range_more}
use Rattle.bib_answers.proofs.LineLists.{lines_more}

-- ---- uses

-- the reports on the first n parts are added
abbrev pub UsesTo : Text → (Part → Text) → ℕ → Text → Text → Type 0
UsesTo bytes line n start out = OfValue bytes (λ v. out ≡ start ++ flat_map line (take n (parts_of v)))

pub uses_more : (bytes : Text) (line : Part → Text) (n : ℕ) (start out added : Text)
    → OfValue bytes (λ v. (p : Part) × (slice_get (parts_of v) n ≡ Some p) × (added ≡ line p))
    → UsesTo bytes line n start out → UsesTo bytes line (n + 1) start (out ++ added)
uses_more bytes line n start out added part to v ok same =
    let at = part v ok same in
    ap (λ (t : Text). t ++ added) (to v ok same)
    ∙ append_assoc start (flat_map line (take n (parts_of v))) added
    ∙ ap (λ (t : Text). start ++ t)
    (ap (λ (t : Text). flat_map line (take n (parts_of v)) ++ t) (at.2 ∙ ap line (sym (get_or_from_slice_get (parts_of v) n at.0 at.0 at.1)))
    ∙ lines_more line (parts_of v) n at.0 (slice_get_within (parts_of v) n at.0 at.1))

pub uses_all : (bytes : Text) (line : Part → Text) (n : ℕ) (start out : Text) → OfValue bytes (λ v. n ≡ length (parts_of v))
    → UsesTo bytes line n start out → OfValue bytes (λ v. out ≡ start ++ flat_map line (parts_of v))
uses_all bytes line n start out all to v ok same =
    to v ok same ∙ ap (λ k. start ++ flat_map line (take k (parts_of v))) (all v ok same) ∙ ap (λ (ps : List Part). start ++ flat_map line ps) (take-length (parts_of v))

-- where the value has one part, its report is the value's
pub uses_alone : (bytes : Text) (line : Part → Text) (part : Part) (start : Text) → OfValue bytes (λ v. parts_of v ≡ part ∷ [])
    → OfValue bytes (λ v. start ++ line part ≡ start ++ flat_map line (parts_of v))
uses_alone bytes line part start alone v ok same =
    ap (λ (t : Text). start ++ t) (sym (append-nil (line part)) ∙ sym (ap (flat_map line) (alone v ok same)))

-- ---- fields

-- the fields left, on which nothing is reported yet, after fields whose names were seen
pub record IsLeft (own : Text → Option Text) (macros : Macros) (key whole out : Text) (seen : List Text → Type 0) (fields : List Field) : Type 0 where
  pub names : List Text
  pub values : List Assigned
  pub are : AreFieldsOf values fields
  pub has : seen names
  pub joined : out ++ field_reports own macros key names values ≡ whole

pub record IsReporting (own : Text → Option Text) (macros : Macros) (key : Text) (all : List Field) (start out : Text) (seen : List Text → Type 0) (fields : List Field) : Type 0 where
  pub sound : AreSound fields
  pub left : (values : List Assigned) → AreFieldsOf values all → IsLeft own macros key (start ++ field_reports own macros key [] values) out seen fields

pub reporting_start : (own : Text → Option Text) (macros : Macros) (key : Text) (all : List Field) (start : Text) (seen : List Text → Type 0)
    → AreSound all → seen [] → IsReporting own macros key all start start seen all
reporting_start own macros key all start seen sound none = record {
  sound = sound;
  left = λ values are. record { names = []; values = values; are = are; has = none; joined = refl };
}

left_more : (own : Text → Option Text) (macros : Macros) (key whole out out1 out2 : Text) (old new : List Text → Type 0) (field : Field) (fields : List Field)
    → ((names : List Text) → old names → out1 ≡ out ++ extra_report key names field.name)
    → OfValue field.value (λ x. out2 ≡ out1 ++ use_reports (own field.name) macros x)
    → ((names : List Text) → old names → new (field.name ∷ names))
    → IsLeft own macros key whole out old (field ∷ fields) → IsLeft own macros key whole out2 new fields
left_more own macros key whole out out1 out2 old new field fields extra uses with is = go is.names is.values is.are is.has is.joined
  where
    go : (names : List Text) (values : List Assigned) → AreFieldsOf values (field ∷ fields) → old names → out ++ field_reports own macros key names values ≡ whole
        → IsLeft own macros key whole out2 new fields
    go names [] are has joined = absurd are
    go names (a ∷ values) are has joined = record {
      names = a.0 ∷ names;
      values = values;
      are = are.1;
      has = subst (λ (n : Text). new (n ∷ names)) are.0.name (with names has);
      joined =
          ap (λ (t : Text). t ++ field_reports own macros key (a.0 ∷ names) values)
          (uses a.1 are.0.value are.0.bytes ∙ ap (λ (t : Text). t ++ use_reports (own field.name) macros a.1) (extra names has)
          ∙ ap (λ (n : Text). (out ++ extra_report key names n) ++ use_reports (own n) macros a.1) are.0.name)
          ∙ append_assoc (out ++ extra_report key names a.0) (use_reports (own a.0) macros a.1) (field_reports own macros key (a.0 ∷ names) values)
          ∙ append_assoc out (extra_report key names a.0) _
          ∙ joined;
    }

pub reporting_more : (own : Text → Option Text) (macros : Macros) (key : Text) (all : List Field) (start out out1 out2 : Text) (old new : List Text → Type 0) (field : Field) (fields : List Field)
    → ((names : List Text) → old names → out1 ≡ out ++ extra_report key names field.name)
    → OfValue field.value (λ x. out2 ≡ out1 ++ use_reports (own field.name) macros x)
    → ((names : List Text) → old names → new (field.name ∷ names))
    → IsReporting own macros key all start out old (field ∷ fields) → IsReporting own macros key all start out2 new fields
reporting_more own macros key all start out out1 out2 old new field fields extra uses with is = record {
  sound = is.sound.1;
  left = λ values are. left_more own macros key _ out out1 out2 old new field fields extra uses with (is.left values are);
}

pub reporting_all : (own : Text → Option Text) (macros : Macros) (key : Text) (all : List Field) (start out : Text) (seen : List Text → Type 0)
    → IsReporting own macros key all start out seen [] → (values : List Assigned) → AreFieldsOf values all → out ≡ start ++ field_reports own macros key [] values
reporting_all own macros key all start out seen is values are = go left.values left.are left.joined
  where
    left : IsLeft own macros key (start ++ field_reports own macros key [] values) out seen []
    left = is.left values are

    go : (rest : List Assigned) → AreFieldsOf rest [] → out ++ field_reports own macros key left.names rest ≡ start ++ field_reports own macros key [] values
        → out ≡ start ++ field_reports own macros key [] values
    go [] none joined = sym (append-nil out) ∙ joined
    go (a ∷ rest) none joined = absurd none

-- ---- items

-- one more item's reports
pub items_more : (line : ℕ → Text) (n : ℕ) (start out out1 : Text) → out ≡ start ++ flat_map line (range_with_len 0 n) → out1 ≡ out ++ line n
    → out1 ≡ start ++ flat_map line (range_with_len 0 (n + 1))
items_more line n start out out1 is more =
    more ∙ ap (λ (t : Text). t ++ line n) is
    ∙ flat_map_more line start (range_with_len 0 n) n
    ∙ sym (ap (λ (ns : List ℕ). start ++ flat_map line ns) (range_more n))
