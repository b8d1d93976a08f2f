-- What the parts of a value say, part by part.
use Rattle.std.proofs.Common.{◌≡◌, ℕ, ◌+◌, ◌-◌, ◌<◌, ◌≤◌, min, List, [], ◌∷◌, ◌++◌, length, take, refl, sym, ap, subst, ◌∙◌, arith, append-nil, length-append, Some}
use Rattle.std.proofs.lemmas.Option.{slice_get_within, get_or_from_slice_get}
use Rattle.std.proofs.lemmas.List.{take_more}
use Rattle.std.proofs.lemmas.List.Folds.{length-flat_map-take}
use Rattle.std.proofs.lemmas.Grind.{flat_map-append}
use Rattle.std.proofs.Math.Seq.{take-length}
use Rattle.std.specs.List.{flat_map, slice_get}
use Rattle.bib_spec.specs.Text.{Text}
use Rattle.bib_spec.specs.Tree.{Part, Value}
use Rattle.bib_spec.specs.Texts.{Macros, parts_of, part_text, raw_text, raw_limit}
use Rattle.bib_scan.specs.ValueParts.{IsPartsOf, spans_of}
use Rattle.bib_scan.specs.declared.parts.PartSpan.{PartSpan}
use Rattle.bib_scan.proofs.TakenApart.{one_value}
use Rattle.bib_value.specs.Raw.{OfValue}

-- what the first n parts say together
abbrev pub said : Macros → Value → ℕ → Text
said m v n = flat_map (part_text m) (take n (parts_of v))

said-more : (m : Macros) (v : Value) (n : ℕ) (p : Part) → slice_get (parts_of v) n ≡ Some p → said m v (n + 1) ≡ said m v n ++ part_text m p
said-more m v n p at =
    let inside : n < length (parts_of v) = slice_get_within (parts_of v) n p at in
    let e : take (n + 1) (parts_of v) ≡ take n (parts_of v) ++ p ∷ [] = take_more (parts_of v) n p inside ∙ ap (λ (x : Part). take n (parts_of v) ++ x ∷ []) (get_or_from_slice_get (parts_of v) n p p at) in
    ap (flat_map (part_text m)) e ∙ flat_map-append (part_text m) (take n (parts_of v)) (p ∷ []) ∙ ap (λ (t : Text). said m v n ++ t) (append-nil (part_text m p))

said-le : (m : Macros) (v : Value) (n : ℕ) (p : Part) → slice_get (parts_of v) n ≡ Some p → length (said m v n) + length (part_text m p) ≤ length (raw_text m v)
said-le m v n p at =
    subst (λ (q : Part). length (said m v n) + length (part_text m q) ≤ length (raw_text m v)) (get_or_from_slice_get (parts_of v) n p p at)
    (length-flat_map-take (part_text m) (parts_of v) n p (slice_get_within (parts_of v) n p at))

said-all : (m : Macros) (v : Value) (n : ℕ) → n ≡ length (parts_of v) → said m v n ≡ raw_text m v
said-all m v n all = ap (λ (k : ℕ). said m v k) all ∙ ap (flat_map (part_text m)) (take-length (parts_of v))

-- there are as many parts as in the value with these bytes
pub parts_counted : (bytes : Text) (spans : List PartSpan) (count : ℕ) → IsPartsOf bytes spans → ((v : Value) → spans ≡ spans_of v → count ≡ length (parts_of v)) → OfValue bytes (λ v. count ≡ length (parts_of v))
parts_counted bytes spans count is counted v ok same = counted v (is.3 ∙ ap spans_of (one_value is.0 v is.1 ok (is.2 ∙ sym same)))

-- ---- the length

-- the length of what the first n parts say, if it is not too long
pub record LenTo (bytes : Text) (m : Macros) (n len : ℕ) : Type 0 where
  pub is : OfValue bytes (λ v. len ≡ length (said m v n))
  pub short : len ≤ raw_limit

pub len_to_start : (bytes : Text) (m : Macros) → LenTo bytes m 0 0
len_to_start bytes m = record { is = λ v ok same. refl; short = omega arith }

pub len_to_more : (bytes : Text) (m : Macros) (n len : ℕ) (t : Text) → OfValue bytes (λ v. (p : Part) × (slice_get (parts_of v) n ≡ Some p) × (t ≡ part_text m p)) → length t ≤ raw_limit - len → LenTo bytes m n len → LenTo bytes m (n + 1) (len + length t)
len_to_more bytes m n len t part fits to = record {
  is = λ v ok same.
      let at = part v ok same in
      let more = ap (length {A = ℕ}) (said-more m v n at.0 at.1) in
      omega (arith, to.is v ok same, more, length-append (said m v n) (part_text m at.0), ap (length {A = ℕ}) at.2);
  short = omega (arith, fits, to.short);
}

pub len_to_over : (bytes : Text) (m : Macros) (n len : ℕ) (t : Text) → OfValue bytes (λ v. (p : Part) × (slice_get (parts_of v) n ≡ Some p) × (t ≡ part_text m p)) → raw_limit - len < length t → LenTo bytes m n len → OfValue bytes (λ v. raw_limit + 1 ≡ min (length (raw_text m v)) (raw_limit + 1))
len_to_over bytes m n len t part over to v ok same =
    let at = part v ok same in
    let le = said-le m v n at.0 at.1 in
    omega (arith, to.is v ok same, to.short, le, ap (length {A = ℕ}) at.2, over)

pub len_to_all : (bytes : Text) (m : Macros) (n len : ℕ) → OfValue bytes (λ v. n ≡ length (parts_of v)) → LenTo bytes m n len → OfValue bytes (λ v. len ≡ min (length (raw_text m v)) (raw_limit + 1))
len_to_all bytes m n len all to v ok same =
    let whole = ap (length {A = ℕ}) (said-all m v n (all v ok same)) in
    omega (arith, to.is v ok same, to.short, whole)

-- ---- the text

-- what the first n parts say
pub record SaidTo (bytes : Text) (m : Macros) (n : ℕ) (text : Text) : Type 0 where
  pub is : OfValue bytes (λ v. text ≡ said m v n)

pub said_to_start : (bytes : Text) (m : Macros) → SaidTo bytes m 0 []
said_to_start bytes m = record { is = λ v ok same. refl }

pub said_to_more : (bytes : Text) (m : Macros) (n : ℕ) (text t : Text) → OfValue bytes (λ v. (p : Part) × (slice_get (parts_of v) n ≡ Some p) × (t ≡ part_text m p)) → SaidTo bytes m n text → SaidTo bytes m (n + 1) (text ++ t)
said_to_more bytes m n text t part to = record {
  is = λ v ok same.
      let at = part v ok same in
      ap (λ (u : Text). u ++ t) (to.is v ok same) ∙ ap (λ (u : Text). said m v n ++ u) at.2 ∙ sym (said-more m v n at.0 at.1);
}

pub said_to_all : (bytes : Text) (m : Macros) (n : ℕ) (text : Text) → OfValue bytes (λ v. n ≡ length (parts_of v)) → SaidTo bytes m n text → OfValue bytes (λ v. text ≡ raw_text m v)
said_to_all bytes m n text all to v ok same = to.is v ok same ∙ said-all m v n (all v ok same)

-- a text whose measured length is within the limit is not longer than the limit
pub measured : (bytes : Text) (m : Macros) (text : Text) (len : ℕ) (spans : List PartSpan) → IsPartsOf bytes spans → OfValue bytes (λ v. len ≡ min (length (raw_text m v)) (raw_limit + 1)) → len ≤ raw_limit → OfValue bytes (λ v. text ≡ raw_text m v) → length text ≤ raw_limit
measured bytes m text len spans is len_is short text_is =
    let e = len_is is.0 is.1 is.2 in
    let f = ap (length {A = ℕ}) (text_is is.0 is.1 is.2) in
    omega (arith, e, f, short)
