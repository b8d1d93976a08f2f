-- The parts of a value, and where they lie in its bytes.
use Rattle.std.specs.Prelude.{ℕ, ◌≡◌, ◌==◌, ◌+◌, if◌then◌else◌, List, [], ◌∷◌, ◌++◌, length, map}
use Rattle.std.specs.Char.{is_ascii_digit}
use Rattle.bib_spec.specs.Bytes.{open_brace, quote, hash, name_limit}
use Rattle.bib_spec.specs.Text.{Text}
use Rattle.bib_spec.specs.Tree as tree
use Rattle.bib_spec.specs.Tree.{Link, Value, part_bytes, link_bytes, value_bytes, IsValue}
use Rattle.bib_spec.specs.Reading.{IsValueWithin, FailsAt}
use Rattle.bib_spec.specs.Fault.{ReadingFault, fault_number, IsFaultAt}
use Rattle.bib_scan.specs.declared.parts.PartKind.{PartKind}
use Rattle.bib_scan.specs.declared.parts.PartKind.TheVariants as kind
use Rattle.bib_scan.specs.declared.parts.PartSpan.{PartSpan}

-- the part of a link
abbrev pub link_part : Link → tree.Part
link_part l = l.part

-- the parts of a value in their order (btxdoc 2.1)
abbrev pub parts_of : Value → List tree.Part
parts_of v = v.first ∷ map link_part v.links

-- the kind of a part of the grammar
abbrev pub part_kind : tree.Part → PartKind
part_kind (tree.Braced t) = kind.Braced
part_kind (tree.Quoted t) = kind.Quoted
part_kind (tree.Digits t) = kind.Digits
part_kind (tree.Macro t) = kind.Macro

-- the kind of a part that begins with this byte
abbrev pub kind_begun : ℕ → PartKind
kind_begun b =
    if b == open_brace then kind.Braced
    else if b == quote then kind.Quoted
    else if is_ascii_digit b then kind.Digits
    else kind.Macro

-- where a part lies in the value, after this text
abbrev pub span_after : Text → tree.Part → PartSpan
span_after before p = record {
  kind = part_kind p;
  start = length before;
  end = length before + length (part_bytes p);
}

-- where the parts of links lie in the value, after this text
abbrev pub spans_after : Text → List Link → List PartSpan
spans_after before [] = []
spans_after before (l ∷ ls) =
    span_after (before ++ l.space_before_hash ++ hash ∷ l.space_after_hash) l.part ∷ spans_after (before ++ link_bytes l) ls

-- where the parts of a value lie
abbrev pub spans_of : Value → List PartSpan
spans_of v = span_after [] v.first ∷ spans_after (part_bytes v.first) v.links

-- the text is one value, and its parts lie at these spans
abbrev pub IsPartsOf : Text → List PartSpan → Type 0
IsPartsOf t spans = (v : Value) × IsValue name_limit v × (value_bytes v ≡ t) × (spans ≡ spans_of v)

-- where the part begins
abbrev pub span_start : PartSpan → ℕ
span_start s = s.start

-- why a text is not taken apart into parts: it is no value, or memory ran out
pub data IsValueFault (t : Text) : ℕ → ℕ → Type 0 where
  no_value : (fault : ReadingFault) → (place : ℕ) → FailsAt (IsValueWithin name_limit) t place → IsFaultAt IsValueWithin t place fault
      → IsValueFault t (fault_number fault) place
  no_memory : IsValueFault t 10 0
