-- How findings are added: of a value use by use, of an item field by field, and of a file item by item.
use Rattle.bib_answers.proofs.Words.{◌≡◌, ◌∙◌, ℕ, ◌+◌, ◌<◌, ◌≤◌, List, [], ◌∷◌, ◌++◌, length, map, take, Option, Some, slice_get, get_or, zip, refl, sym, ap, ap₂, append-nil, append_assoc, flat_map, slice_get_within, get_or_from_slice_get, length-map, get_or-zip, length-zip, take-length, take_all, Bor, Text, Part}
use Rattle.bib_answers.proofs.Words.{Macros, Field, OfValue, Assigned, AreFieldsOf, AreSound, Finding, value_findings, field_findings, Written, with_findings}
use Rattle.std.proofs.Common.{arith}
use Rattle.std.proofs.lemmas.Grind.{flat_map-append}
use Rattle.std.proofs.lemmas.List.Folds.{flat_map-map}
use Rattle.bib_spec.specs.Tree.{Value, Link}
use Rattle.bib_spec.specs.Texts.{parts_of}
use Rattle.bib_scan.specs.ValueParts.{IsPartsOf, spans_of, span_start}
use Rattle.bib_scan.specs.declared.parts.PartSpan.{PartSpan}
use Rattle.bib_scan.proofs.TakenApart.{one_value, length-spans_of}
use Rattle.bib_strays.specs.Strays.{Stray}
use Rattle.bib_answers.specs.declared.warnings.Warning.TheVariants.{ManyCommas}
use Rattle.bib_answers.specs.Lint.{finding_line, found, placed_parts, name_findings, stray_finding}
use Rattle.bib_answers.proofs.LineLists.{lines_more}

-- no findings add nothing
pub findings_none : (w : Written) → with_findings w [] ≡ w
findings_none w = ap (λ (t : Text). record w { text = t }) (append-nil w.text)

-- findings after others
pub findings_append : (w : Written) (xs ys : List Finding) → with_findings (with_findings w xs) ys ≡ with_findings w (xs ++ ys)
findings_append w xs ys = ap (λ (t : Text). record w { text = t })
    (append_assoc w.text (flat_map line xs) (flat_map line ys) ∙ ap (λ (t : Text). w.text ++ t) (sym (flat_map-append line xs ys)))
  where
    line : Finding → Text
    line = finding_line w.ignored w.names w.files w.start

-- ---- texts between items

-- the finding for one more line
pub gap_more : (at : ℕ) (whole out out1 : Written) (line : Stray) (lines rest : List Stray) → lines ≡ line ∷ rest → out1 ≡ with_findings out (stray_finding at line ∷ [])
    → with_findings out (map (stray_finding at) lines) ≡ whole → with_findings out1 (map (stray_finding at) rest) ≡ whole
gap_more at whole out out1 line lines rest is more before =
    ap (λ (w : Written). with_findings w (map (stray_finding at) rest)) more
    ∙ findings_append out (stray_finding at line ∷ []) (map (stray_finding at) rest)
    ∙ sym (ap (λ (ls : List Stray). with_findings out (map (stray_finding at) ls)) is)
    ∙ before

pub gap_all : (at : ℕ) (whole out : Written) (lines : List Stray) → lines ≡ [] → with_findings out (map (stray_finding at) lines) ≡ whole → out ≡ whole
gap_all at whole out lines none before =
    sym (findings_none out) ∙ sym (ap (λ (ls : List Stray). with_findings out (map (stray_finding at) ls)) none) ∙ before

-- ---- lists of names

-- the findings on names, each lent
abbrev pub refused_lent : ℕ → List (Bor Text) → List Finding
refused_lent at names = flat_map (λ (name : Bor Text). found ManyCommas at name.now) names

-- the finding on one more name
pub refused_more : (at : ℕ) (start out out1 : Written) (names : List (Bor Text)) (n : ℕ) (name d : Bor Text) → n < length names → name ≡ get_or names n d → out1 ≡ with_findings out (found ManyCommas at name.now)
    → out ≡ with_findings start (refused_lent at (take n names)) → out1 ≡ with_findings start (refused_lent at (take (n + 1) names))
refused_more at start out out1 names n name d within is more before =
    more
    ∙ ap (λ (b : Bor Text). with_findings out (found ManyCommas at b.now)) is
    ∙ ap (λ (w : Written). with_findings w (found ManyCommas at (get_or names n d).now)) before
    ∙ findings_append start (refused_lent at (take n names)) (found ManyCommas at (get_or names n d).now)
    ∙ ap (with_findings start) (lines_more (λ (b : Bor Text). found ManyCommas at b.now) names n d within)

pub refused_all : (at : ℕ) (start out : Written) (names : List (Bor Text)) (n : ℕ) (all : List Text) → length names ≤ n → map (λ (b : Bor Text). b.now) names ≡ all
    → out ≡ with_findings start (refused_lent at (take n names)) → out ≡ with_findings start (flat_map (found ManyCommas at) all)
refused_all at start out names n all ends are before =
    before
    ∙ ap (λ (ns : List (Bor Text)). with_findings start (refused_lent at ns)) (take_all n names ends)
    ∙ ap (with_findings start) (sym (flat_map-map (found ManyCommas at) (λ (b : Bor Text). b.now) names) ∙ ap (flat_map (found ManyCommas at)) are)

-- ---- uses

-- as many places as parts
length-placed : (v : Value) → length (map span_start (spans_of v)) ≡ length (parts_of v)
length-placed v = length-map (spans_of v) span_start ∙ length-spans_of v

pub length-placed_parts : (v : Value) → length (placed_parts v) ≡ length (parts_of v)
length-placed_parts v = omega (arith, length-zip (map span_start (spans_of v)) (parts_of v), length-placed v)

-- the findings on the first n parts are added
abbrev pub UsesTo : Text → (ℕ × Part → List Finding) → ℕ → Written → Written → Type 0
UsesTo bytes says n start out = OfValue bytes (λ v. out ≡ with_findings start (flat_map says (take n (placed_parts v))))

-- part n stands there
pub part_placed : (v : Value) (n place : ℕ) (p : Part) → slice_get (map span_start (spans_of v)) n ≡ Some place → slice_get (parts_of v) n ≡ Some p
    → (n < length (placed_parts v)) × (get_or (placed_parts v) n (place, p) ≡ (place, p))
part_placed v n place p at is =
    let places = slice_get_within (map span_start (spans_of v)) n place at in
    let parts = slice_get_within (parts_of v) n p is in (
      omega (arith, parts, length-placed_parts v),
      get_or-zip (map span_start (spans_of v)) (parts_of v) n (place, p) places parts
          ∙ ap₂ (λ (k : ℕ) (q : Part). (k, q)) (get_or_from_slice_get (map span_start (spans_of v)) n place place at) (get_or_from_slice_get (parts_of v) n p p is),
    )

pub uses_more : (bytes : Text) (spans : List PartSpan) (says : ℕ × Part → List Finding) (n place : ℕ) (p : Part) (start out out1 : Written)
    → IsPartsOf bytes spans → slice_get (map span_start spans) n ≡ Some place → OfValue bytes (λ v. slice_get (parts_of v) n ≡ Some p)
    → out1 ≡ with_findings out (says (place, p)) → UsesTo bytes says n start out → UsesTo bytes says (n + 1) start out1
uses_more bytes spans says n place p start out out1 is at part more to v ok same =
    let these : spans ≡ spans_of v = is.3 ∙ ap spans_of (one_value is.0 v is.1 ok (is.2 ∙ sym same)) in
    let placed = part_placed v n place p (ap (λ (s : List PartSpan). slice_get (map span_start s) n) (sym these) ∙ at) (part v ok same) in
    more
    ∙ ap (λ (w : Written). with_findings w (says (place, p))) (to v ok same)
    ∙ findings_append start (flat_map says (take n (placed_parts v))) (says (place, p))
    ∙ ap (with_findings start) (ap (λ q. flat_map says (take n (placed_parts v)) ++ says q) (sym placed.1) ∙ lines_more says (placed_parts v) n (place, p) placed.0)

pub uses_all : (bytes : Text) (says : ℕ × Part → List Finding) (n : ℕ) (start out : Written) → OfValue bytes (λ v. n ≡ length (parts_of v))
    → UsesTo bytes says n start out → OfValue bytes (λ v. out ≡ with_findings start (flat_map says (placed_parts v)))
uses_all bytes says n start out all to v ok same =
    to v ok same
    ∙ ap (λ k. with_findings start (flat_map says (take k (placed_parts v)))) (all v ok same ∙ sym (length-placed_parts v))
    ∙ ap (λ (ps : List (ℕ × Part)). with_findings start (flat_map says ps)) (take-length (placed_parts v))

-- where the value has one part, that begins the value
pub uses_alone : (bytes : Text) (says : ℕ × Part → List Finding) (p : Part) (start : Written) → OfValue bytes (λ v. parts_of v ≡ p ∷ [])
    → OfValue bytes (λ v. with_findings start (says (0, p)) ≡ with_findings start (flat_map says (placed_parts v)))
uses_alone bytes says p start alone v ok same =
    ap (with_findings start) (sym (append-nil (says (0, p)))) ∙ sym (ap (λ (ps : List (ℕ × Part)). with_findings start (flat_map says ps)) (one v (alone v ok same)))
  where
    one : (v : Value) → parts_of v ≡ p ∷ [] → placed_parts v ≡ (0, p) ∷ []
    one v is = only v.first v.links is
      where
        only : (first : Part) (links : List Link) → parts_of (record { first = first; links = links }) ≡ p ∷ [] → placed_parts (record { first = first; links = links }) ≡ (0, p) ∷ []
        only first [] is = ap (λ (ps : List Part). zip (0 ∷ []) ps) is
        only first (l ∷ links) is = absurd (let few = ap (length {A = Part}) is in omega (arith, few))

-- ---- fields

-- the fields left, in which nothing is found yet, after fields whose names were seen
pub record IsLeft (own : Text → Option Text) (macros : Macros) (firsts : Field → Value → List Finding) (whole out : Written) (seen : List Text → Type 0) (fields : List Field) : Type 0 where
  pub names : List Text
  pub values : List Assigned
  pub are : AreFieldsOf values fields
  pub has : seen names
  pub joined : with_findings out (field_findings own macros firsts names fields values) ≡ whole

pub record IsFinding (own : Text → Option Text) (macros : Macros) (firsts : Field → Value → List Finding) (all : List Field) (start out : Written) (seen : List Text → Type 0) (fields : List Field) : Type 0 where
  pub sound : AreSound fields
  pub left : (values : List Assigned) → AreFieldsOf values all → IsLeft own macros firsts (with_findings start (field_findings own macros firsts [] all values)) out seen fields

pub finding_start : (own : Text → Option Text) (macros : Macros) (firsts : Field → Value → List Finding) (all : List Field) (start : Written) (seen : List Text → Type 0)
    → AreSound all → seen [] → IsFinding own macros firsts all start start seen all
finding_start own macros firsts all start seen sound none = record {
  sound = sound;
  left = λ values are. record { names = []; values = values; are = are; has = none; joined = refl };
}

left_more : (own : Text → Option Text) (macros : Macros) (firsts : Field → Value → List Finding) (whole out out1 out2 : Written) (old new : List Text → Type 0) (field : Field) (fields : List Field)
    → ((names : List Text) → old names → OfValue field.value (λ x. out1 ≡ with_findings out (name_findings firsts names field x)))
    → OfValue field.value (λ x. out2 ≡ with_findings out1 (value_findings (own field.name) macros field.value_at x))
    → ((names : List Text) → old names → new (field.name ∷ names))
    → IsLeft own macros firsts whole out old (field ∷ fields) → IsLeft own macros firsts whole out2 new fields
left_more own macros firsts whole out out1 out2 old new field fields named uses with is = go is.names is.values is.are is.has is.joined
  where
    go : (names : List Text) (values : List Assigned) → AreFieldsOf values (field ∷ fields) → old names
        → with_findings out (field_findings own macros firsts names (field ∷ fields) values) ≡ whole → IsLeft own macros firsts whole out2 new fields
    go names [] are has joined = absurd are
    go names (a ∷ values) are has joined = record {
      names = field.name ∷ names;
      values = values;
      are = are.1;
      has = with names has;
      joined =
          let rest : List Finding = field_findings own macros firsts (field.name ∷ names) fields values in
          ap (λ (w : Written). with_findings w rest)
          (uses a.1 are.0.value are.0.bytes ∙ ap (λ (w : Written). with_findings w (value_findings (own field.name) macros field.value_at a.1)) (named names has a.1 are.0.value are.0.bytes)
          ∙ findings_append out (name_findings firsts names field a.1) (value_findings (own field.name) macros field.value_at a.1))
          ∙ findings_append out (name_findings firsts names field a.1 ++ value_findings (own field.name) macros field.value_at a.1) rest
          ∙ ap (with_findings out) (append_assoc (name_findings firsts names field a.1) (value_findings (own field.name) macros field.value_at a.1) rest)
          ∙ joined;
    }

pub finding_more : (own : Text → Option Text) (macros : Macros) (firsts : Field → Value → List Finding) (all : List Field) (start out out1 out2 : Written) (old new : List Text → Type 0) (field : Field) (fields : List Field)
    → ((names : List Text) → old names → OfValue field.value (λ x. out1 ≡ with_findings out (name_findings firsts names field x)))
    → OfValue field.value (λ x. out2 ≡ with_findings out1 (value_findings (own field.name) macros field.value_at x))
    → ((names : List Text) → old names → new (field.name ∷ names))
    → IsFinding own macros firsts all start out old (field ∷ fields) → IsFinding own macros firsts all start out2 new fields
finding_more own macros firsts all start out out1 out2 old new field fields named uses with is = record {
  sound = is.sound.1;
  left = λ values are. left_more own macros firsts _ out out1 out2 old new field fields named uses with (is.left values are);
}

pub finding_all : (own : Text → Option Text) (macros : Macros) (firsts : Field → Value → List Finding) (all : List Field) (start out : Written) (seen : List Text → Type 0)
    → IsFinding own macros firsts all start out seen [] → (values : List Assigned) → AreFieldsOf values all → out ≡ with_findings start (field_findings own macros firsts [] all values)
finding_all own macros firsts all start out seen is values are =
    let left : IsLeft own macros firsts (with_findings start (field_findings own macros firsts [] all values)) out seen [] = is.left values are in
    sym (findings_none out) ∙ left.joined
