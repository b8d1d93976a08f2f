-- A value whose bytes have no `#` has one part, and the first byte of a part determines its kind.
use Rattle.bib_scan.proofs.Words.{◌≡◌, ℕ, suc, ◌<◌, ◌==◌, ◌||◌, Bool, true, false, List, [], ◌∷◌, ◌++◌, length, map, Option, None, Some, slice_index, refl, sym, ◌∙◌, ap, ap₂, arith, append-nil, flat_map, is_ascii_digit, false_from_ne_true, eqb-true, or_parts, not-true, cond-true, cond-false}
use Rattle.bib_scan.proofs.Words.{none-some, same_Some, All-head, IsFirstByte, is_byte, quote, name_limit, Text, is_name_byte, Part, Braced, Quoted, Macro, Link, Value, part_bytes, link_bytes, value_bytes, IsPart, IsValue, part_kind, link_part, parts_of}
use Rattle.std.proofs.Common.{is_some, slice_get}
use Rattle.std.specs.List.{list_any}
use Rattle.std.proofs.lemmas.Bool.{false≢true}
use Rattle.std.proofs.lemmas.List.Folds.{list_any-append}
use Rattle.bib_spec.specs.Bytes.{open_brace, close_brace, hash}
use Rattle.bib_spec.specs.Tree.{Digits}
use Rattle.bib_scan.specs.ValueParts.{kind_begun}
use Rattle.bib_scan.specs.declared.parts.PartKind.TheVariants as kind
use Rattle.bib_scan.proofs.PartLaws.{name_parts}

-- ---- kinds

first_byte : (b c : ℕ) (t u : Text) → b ∷ t ≡ c ∷ u → b ≡ c
first_byte b c t u same = ap (λ (x : Text). slice_index x 0) same

-- a byte that passes a test is not a byte that fails it
differs : (test : ℕ → Bool) (b other : ℕ) → test b ≡ true → test other ≡ false → (b == other) ≡ false
differs test b other passes fails =
    false_from_ne_true (b == other) (λ e. false≢true (sym fails ∙ ap test (sym (eqb-true b other e)) ∙ passes))

digit_begins : (b : ℕ) → is_ascii_digit b ≡ true → kind.Digits ≡ kind_begun b
digit_begins b digit = sym
    (cond-false (b == open_brace) kind.Braced _ (differs is_ascii_digit b open_brace digit refl)
    ∙ cond-false (b == quote) kind.Quoted _ (differs is_ascii_digit b quote digit refl)
    ∙ cond-true (is_ascii_digit b) kind.Digits kind.Macro digit)

name_begins : (b : ℕ) → is_name_byte b ≡ true → is_ascii_digit b ≡ false → kind.Macro ≡ kind_begun b
unfolding is_name_byte
name_begins b name digit = sym
    (cond-false (b == open_brace) kind.Braced _ (differs is_name_byte b open_brace name refl)
    ∙ cond-false (b == quote) kind.Quoted _ (differs is_name_byte b quote name refl)
    ∙ cond-false (is_ascii_digit b) kind.Digits kind.Macro digit)

-- the first byte of a part determines its kind
kind_told : (p : Part) (b : ℕ) (t : Text) → IsPart name_limit p → part_bytes p ≡ b ∷ t → part_kind p ≡ kind_begun b
kind_told (Braced u) b t is same = ap kind_begun (first_byte open_brace b (u ++ close_brace ∷ []) t same)
kind_told (Quoted u) b t is same = ap kind_begun (first_byte quote b (u ++ quote ∷ []) t same)
kind_told (Digits []) b t is same = absurd (omega (arith, is.0))
kind_told (Digits (c ∷ u)) b t is same =
    digit_begins c (All-head (λ (x : ℕ). is_ascii_digit x ≡ true) c u is.1) ∙ ap kind_begun (first_byte c b u t same)
kind_told (Macro []) b t is same = absurd (let some = (name_parts name_limit [] is).some in omega (arith, some))
kind_told (Macro (c ∷ u)) b t is same =
    let name = name_parts name_limit (c ∷ u) is in
    name_begins c (All-head (λ (x : ℕ). is_name_byte x ≡ true) c u name.bytes) (not-true (is_ascii_digit c) name.first)
    ∙ ap kind_begun (first_byte c b u t same)

-- ---- parts

abbrev joins : ℕ → Bool
joins = is_byte hash

none_any : (t : Text) → ((k : ℕ) → k < length t → ¬ (joins (slice_index t k) ≡ true)) → list_any joins t ≡ false
none_any [] none = refl
none_any (b ∷ t) none =
    ap₂ ◌||◌ (false_from_ne_true (joins b) (none 0 (omega arith))) (none_any t (λ k low. none (suc k) (omega (arith, low))))

no_links : (links : List Link) → list_any joins (flat_map link_bytes links) ≡ false → links ≡ []
no_links [] none = refl
no_links (l ∷ ls) none =
    let front = l.space_before_hash in
    let rest = l.space_after_hash in
    let one = (or_parts (list_any joins (link_bytes l)) (list_any joins (flat_map link_bytes ls)) (sym (list_any-append joins (link_bytes l) (flat_map link_bytes ls)) ∙ none)).0 in
    let two = (or_parts (list_any joins (front ++ hash ∷ rest)) (list_any joins (part_bytes l.part)) (sym (list_any-append joins (front ++ hash ∷ rest) (part_bytes l.part)) ∙ one)).0 in
    let three = (or_parts (list_any joins front) (list_any joins (hash ∷ rest)) (sym (list_any-append joins front (hash ∷ rest)) ∙ two)).1 in
    absurd (false≢true (sym three))

-- a value with these bytes has one part, with the same bytes
abbrev IsAlone : Text → Value → Type 0
IsAlone bytes v = (parts_of v ≡ v.first ∷ []) × (part_bytes v.first ≡ bytes)

alone : (bytes : Text) (v : Value) → value_bytes v ≡ bytes → list_any joins bytes ≡ false → IsAlone bytes v
alone bytes v same none =
    let both = or_parts (list_any joins (part_bytes v.first)) (list_any joins (flat_map link_bytes v.links))
    (sym (list_any-append joins (part_bytes v.first) (flat_map link_bytes v.links)) ∙ ap (list_any joins) same ∙ none) in
    let links = no_links v.links both.1 in (
      ap (λ (ls : List Link). v.first ∷ map link_part ls) links,
      sym (append-nil (part_bytes v.first)) ∙ sym (ap (λ (ls : List Link). part_bytes v.first ++ flat_map link_bytes ls) links) ∙ same,
    )

-- if no `#` is found, the part of the kind that the first byte determines is the only part
pub only_one : (bytes : Text) (b : ℕ) (found : Option ℕ) (part : Part) → IsFirstByte joins bytes found → is_some found ≡ false → Some b ≡ slice_get bytes 0
    → ((p : Part) → part_kind p ≡ kind_begun b → part_bytes p ≡ bytes → part ≡ p)
    → (v : Value) → IsValue name_limit v → value_bytes v ≡ bytes → parts_of v ≡ part ∷ []
only_one [] b found part searched none first told v is same = absurd (none-some b (sym first))
only_one (c ∷ t) b (Some place) part searched none first told v is same = absurd (false≢true (sym none))
only_one (c ∷ t) b None part searched none first told v is same =
    let one = alone (c ∷ t) v same (none_any (c ∷ t) (λ k low. searched k (omega arith) low)) in
    let kind = kind_told v.first c t is.first one.1 ∙ ap kind_begun (sym (same_Some b c first)) in
    one.0 ∙ ap (λ (p : Part). p ∷ []) (sym (told v.first kind one.1))
