-- The parts of a value with their places, taken one by one.
use Rattle.bib_tokens.proofs.Words.{◌≡◌, ℕ, zero, suc, ◌+◌, ◌≤◌, Bool, true, false, List, [], ◌∷◌, ◌++◌, Some, option_map, slice_get, length, map, take, drop, refl, sym, ◌∙◌, ap, ap₂, subst, arith, append_assoc, append-nil, flat_map, cond-true, cond-false, drop_all, take_at, none-some, same_Some}
use Rattle.bib_tokens.proofs.Words.{Text, Part, Link, Value, part_bytes, link_bytes, value_bytes, OfValue, links_placed, value_placed, token_at, tokens_of}
use Rattle.std.proofs.Common.{cond, get_or, length-append}
use Rattle.std.proofs.lemmas.List.{drop_at}
use Rattle.bib_spec.specs.Bytes.{hash}
use Rattle.bib_scan.specs.ValueParts.{link_part, parts_of, spans_of, spans_after, span_start, IsPartsOf}
use Rattle.bib_scan.specs.declared.parts.PartSpan.{PartSpan}
use Rattle.bib_scan.proofs.TakenApart.{one_value}
use Rattle.bib_tokens.proofs.Elements.{drop-next}

-- ---- places

link_placed : (at : ℕ) (before : Text) (l : Link) → at + length before + length (l.space_before_hash ++ hash ∷ l.space_after_hash) ≡ at + length (before ++ l.space_before_hash ++ hash ∷ l.space_after_hash)
link_placed at before l =
    omega (arith, length-append (before ++ l.space_before_hash) (hash ∷ l.space_after_hash), length-append before l.space_before_hash, length-append l.space_before_hash (hash ∷ l.space_after_hash))

links-placed : (at : ℕ) (before : Text) (ls : List Link) (n place : ℕ) (p : Part) → slice_get (map span_start (spans_after before ls)) n ≡ Some place → slice_get (map link_part ls) n ≡ Some p →
    slice_get (links_placed (at + length before) ls) n ≡ Some (at + place, p)
links-placed at before [] n place p there is = absurd (none-some p is)
links-placed at before (l ∷ ls) zero place p there is =
    let start : length (before ++ l.space_before_hash ++ hash ∷ l.space_after_hash) ≡ place = same_Some (length (before ++ l.space_before_hash ++ hash ∷ l.space_after_hash)) place there in
    ap₂ (λ (k : ℕ) (q : Part). Some (k, q)) (link_placed at before l ∙ ap (λ k. at + k) start) (same_Some l.part p is)
links-placed at before (l ∷ ls) (suc n) place p there is =
    ap (λ k. slice_get (links_placed k ls) n) (omega (arith, length-append before (link_bytes l))) ∙ links-placed at (before ++ link_bytes l) ls n place p there is

pub value-placed : (at : ℕ) (v : Value) (n place : ℕ) (p : Part) → slice_get (map span_start (spans_of v)) n ≡ Some place → slice_get (parts_of v) n ≡ Some p →
    slice_get (value_placed at v) n ≡ Some (at + place, p)
value-placed at v zero place p there is =
    let start : 0 ≡ place = same_Some 0 place there in ap₂ (λ (k : ℕ) (q : Part). Some (k, q)) (omega (arith, start)) (same_Some v.first p is)
value-placed at v (suc n) place p there is = links-placed at (part_bytes v.first) v.links n place p there is

-- ---- bytes

-- the part stands at this place of the text
pub record StandsIn (text : Text) (place : ℕ) (p : Part) : Type 0 where
  pub before : Text
  pub after : Text
  pub split : text ≡ before ++ (part_bytes p ++ after)
  pub place_is : length before ≡ place

link_split : (b s h p r : Text) → b ++ (((s ++ h) ++ p) ++ r) ≡ ((b ++ s) ++ h) ++ (p ++ r)
link_split b s h p r = simp append_assoc

links-stand : (before : Text) (ls : List Link) (n place : ℕ) (p : Part) → slice_get (map span_start (spans_after before ls)) n ≡ Some place → slice_get (map link_part ls) n ≡ Some p →
    StandsIn (before ++ flat_map link_bytes ls) place p
links-stand before [] n place p there is = absurd (none-some p is)
links-stand before (l ∷ ls) zero place p there is = record {
  before = before ++ l.space_before_hash ++ hash ∷ l.space_after_hash;
  after = flat_map link_bytes ls;
  split = link_split before l.space_before_hash (hash ∷ l.space_after_hash) (part_bytes l.part) (flat_map link_bytes ls)
      ∙ ap (λ (q : Part). (before ++ l.space_before_hash ++ hash ∷ l.space_after_hash) ++ (part_bytes q ++ flat_map link_bytes ls)) (same_Some l.part p is);
  place_is = same_Some (length (before ++ l.space_before_hash ++ hash ∷ l.space_after_hash)) place there;
}
links-stand before (l ∷ ls) (suc n) place p there is =
    subst (λ (t : Text). StandsIn t place p) (append_assoc before (link_bytes l) (flat_map link_bytes ls)) (links-stand (before ++ link_bytes l) ls n place p there is)

pub value-stands : (v : Value) (n place : ℕ) (p : Part) → slice_get (map span_start (spans_of v)) n ≡ Some place → slice_get (parts_of v) n ≡ Some p → StandsIn (value_bytes v) place p
value-stands v zero place p there is = record {
  before = [];
  after = flat_map link_bytes v.links;
  split = ap (λ (q : Part). part_bytes q ++ flat_map link_bytes v.links) (same_Some v.first p is);
  place_is = same_Some 0 place there;
}
value-stands v (suc n) place p there is = links-stand (part_bytes v.first) v.links n place p there is

pub stands-within : (text : Text) (place : ℕ) (p : Part) → StandsIn text place p → place + length (part_bytes p) ≤ length text
stands-within text place p at =
    let whole : length text ≡ length (at.before ++ (part_bytes p ++ at.after)) = ap (length {A = ℕ}) at.split in
    let start = at.place_is in
    omega (arith, whole, start, length-append at.before (part_bytes p ++ at.after), length-append (part_bytes p) at.after)

pub stands-there : (text : Text) (place : ℕ) (p : Part) → StandsIn text place p → take (length (part_bytes p)) (drop place text) ≡ part_bytes p
stands-there text place p at =
    ap (take (length (part_bytes p))) (ap (drop place) at.split ∙ drop_at at.before (part_bytes p ++ at.after) place at.place_is)
    ∙ take_at (part_bytes p) at.after (length (part_bytes p)) refl

-- the spans that are kept are those of each value with these bytes
pub spans-are : (bytes : Text) (spans : List PartSpan) → IsPartsOf bytes spans → OfValue bytes (λ v. spans ≡ spans_of v)
spans-are bytes spans is v ok same = is.3 ∙ ap spans_of (one_value is.0 v is.1 ok (is.2 ∙ sym same))

-- ---- tokens

module _ (test : Part → Bool) where
  pub tokens-met : (placed : ℕ × Part) (others : List (ℕ × Part)) → test placed.1 ≡ true → tokens_of test (placed ∷ others) ≡ token_at placed ∷ tokens_of test others
  tokens-met placed others t = cond-true (test placed.1) (token_at placed ∷ tokens_of test others) (tokens_of test others) t

  pub tokens-unmet : (placed : ℕ × Part) (others : List (ℕ × Part)) → test placed.1 ≡ false → tokens_of test (placed ∷ others) ≡ tokens_of test others
  tokens-unmet placed others t = cond-false (test placed.1) (token_at placed ∷ tokens_of test others) (tokens_of test others) t

  -- with the tokens of the parts from number n on, the tokens so far are all
  abbrev pub AreValueTokensTo : ℕ → Text → List (ℕ × Text) → ℕ → List (ℕ × Text) → Type 0
  AreValueTokensTo at value old n tokens = OfValue value (λ v. tokens ++ tokens_of test (drop n (value_placed at v)) ≡ old ++ tokens_of test (value_placed at v))

  -- part n, with its place
  abbrev pub IsPlacedPart : ℕ → Text → ℕ → Part → Type 0
  IsPlacedPart at value n p = OfValue value (λ v. (place : ℕ) × (slice_get (value_placed at v) n ≡ Some (place, p)))

  pub placed-part : (at : ℕ) (value : Text) (spans : List PartSpan) (n place : ℕ) (p : Part) → IsPartsOf value spans → slice_get (map span_start spans) n ≡ Some place →
      OfValue value (λ v. slice_get (parts_of v) n ≡ Some p) → OfValue value (λ v. slice_get (value_placed at v) n ≡ Some (at + place, p))
  placed-part at value spans n place p parts there is v ok same =
      value-placed at v n place p (ap (λ s. slice_get (map span_start s) n) (sym (spans-are value spans parts v ok same)) ∙ there) (is v ok same)

  pub tokens-unmet_more : (at : ℕ) (value : Text) (old : List (ℕ × Text)) (n : ℕ) (tokens : List (ℕ × Text)) (p : Part) → IsPlacedPart at value n p → test p ≡ false →
      AreValueTokensTo at value old n tokens → AreValueTokensTo at value old (n + 1) tokens
  tokens-unmet_more at value old n tokens p placed t to v ok same =
      let q = placed v ok same in
      ap (λ l. tokens ++ l) (sym (ap (tokens_of test) (drop-next (value_placed at v) n (q.0, p) q.1) ∙ tokens-unmet (q.0, p) (drop (n + 1) (value_placed at v)) t)) ∙ to v ok same

  pub tokens-met_more : (at : ℕ) (value : Text) (old : List (ℕ × Text)) (n : ℕ) (tokens : List (ℕ × Text)) (p : Part) (token : ℕ × Text) → IsPlacedPart at value n p →
      OfValue value (λ v. option_map token_at (slice_get (value_placed at v) n) ≡ Some token) → test p ≡ true →
      AreValueTokensTo at value old n tokens → AreValueTokensTo at value old (n + 1) (tokens ++ token ∷ [])
  tokens-met_more at value old n tokens p token placed is t to v ok same =
      let q = placed v ok same in
      let it : token_at (q.0, p) ≡ token = same_Some (token_at (q.0, p)) token (sym (ap (option_map token_at) q.1) ∙ is v ok same) in
      append_assoc tokens (token ∷ []) (tokens_of test (drop (n + 1) (value_placed at v)))
      ∙ ap (λ l. tokens ++ l) (ap (λ k. k ∷ tokens_of test (drop (n + 1) (value_placed at v))) (sym it)
      ∙ sym (ap (tokens_of test) (drop-next (value_placed at v) n (q.0, p) q.1) ∙ tokens-met (q.0, p) (drop (n + 1) (value_placed at v)) t))
      ∙ to v ok same

  pub length-links_placed : (at : ℕ) (ls : List Link) → length (links_placed at ls) ≡ length (map link_part ls)
  length-links_placed at [] = refl
  length-links_placed at (l ∷ ls) = ap suc (length-links_placed (at + length (link_bytes l)) ls)

  pub tokens-all : (at : ℕ) (value : Text) (old : List (ℕ × Text)) (n : ℕ) (tokens : List (ℕ × Text)) → OfValue value (λ v. length (parts_of v) ≤ n) →
      AreValueTokensTo at value old n tokens → OfValue value (λ v. tokens ≡ old ++ tokens_of test (value_placed at v))
  tokens-all at value old n tokens past to v ok same =
      let count : length (value_placed at v) ≡ length (parts_of v) = ap suc (length-links_placed (at + length (part_bytes v.first)) v.links) in
      let end = past v ok same in
      let none : drop n (value_placed at v) ≡ [] = drop_all n (value_placed at v) (omega (arith, count, end)) in
      sym (append-nil tokens) ∙ ap (λ l. tokens ++ tokens_of test l) (sym none) ∙ to v ok same

-- part n of a value that is taken apart stands at its place
pub standing : (value : Text) (spans : List PartSpan) (n place : ℕ) (p : Part) → IsPartsOf value spans → slice_get (map span_start spans) n ≡ Some place → OfValue value (λ v. slice_get (parts_of v) n ≡ Some p) → StandsIn value place p
standing value spans n place p is there part =
    subst (λ (t : Text). StandsIn t place p) is.2 (value-stands is.0 n place p (ap (λ s. slice_get (map span_start s) n) (sym is.3) ∙ there) (part is.0 is.1 is.2))

-- part n of a value has a place
pub part-placed : (test : Part → Bool) (at : ℕ) (value : Text) (n : ℕ) (p : Part) → OfValue value (λ v. slice_get (parts_of v) n ≡ Some p) → IsPlacedPart test at value n p
part-placed test at value n p part v ok same = value_has at v n p (part v ok same)
  where
    links_have : (at : ℕ) (ls : List Link) (n : ℕ) (p : Part) → slice_get (map link_part ls) n ≡ Some p → (place : ℕ) × (slice_get (links_placed at ls) n ≡ Some (place, p))
    links_have at [] n p is = absurd (none-some p is)
    links_have at (l ∷ ls) zero p is = (at + length (l.space_before_hash ++ hash ∷ l.space_after_hash), ap (λ (q : Part). Some (at + length (l.space_before_hash ++ hash ∷ l.space_after_hash), q)) (same_Some l.part p is))
    links_have at (l ∷ ls) (suc n) p is = links_have (at + length (link_bytes l)) ls n p is

    value_has : (at : ℕ) (v : Value) (n : ℕ) (p : Part) → slice_get (parts_of v) n ≡ Some p → (place : ℕ) × (slice_get (value_placed at v) n ≡ Some (place, p))
    value_has at v zero p is = (at, ap (λ (q : Part). Some (at, q)) (same_Some v.first p is))
    value_has at v (suc n) p is = links_have (at + length (part_bytes v.first)) v.links n p is

-- ---- the only part of a value

only_tokens : (test : Part → Bool) (at : ℕ) (value : Text) (p : Part) → OfValue value (λ v. parts_of v ≡ p ∷ []) → OfValue value (λ v. tokens_of test (value_placed at v) ≡ cond (test p) ((at, value) ∷ []) [])
only_tokens test at value p only v ok same = go v.first v.links (only v ok same) same
  where
    go : (first : Part) (links : List Link) → first ∷ map link_part links ≡ p ∷ [] → part_bytes first ++ flat_map link_bytes links ≡ value
        → tokens_of test ((at, first) ∷ links_placed (at + length (part_bytes first)) links) ≡ cond (test p) ((at, value) ∷ []) []
    go first [] is bytes =
        ap (λ (ps : List Part). cond (test (get_or ps 0 p)) ((at, part_bytes first) ∷ []) []) is
        ∙ ap (λ (t : Text). cond (test p) ((at, t) ∷ []) []) (sym (append-nil (part_bytes first)) ∙ bytes)
    go first (l ∷ ls) is bytes = let count = ap length is in absurd (omega (arith, count))

pub only_met : (test : Part → Bool) (at : ℕ) (value : Text) (p : Part) → test p ≡ true → OfValue value (λ v. parts_of v ≡ p ∷ []) → OfValue value (λ v. tokens_of test (value_placed at v) ≡ (at, value) ∷ [])
only_met test at value p t only v ok same = only_tokens test at value p only v ok same ∙ cond-true (test p) ((at, value) ∷ []) [] t

pub only_unmet : (test : Part → Bool) (at : ℕ) (value : Text) (p : Part) → test p ≡ false → OfValue value (λ v. parts_of v ≡ p ∷ []) → OfValue value (λ v. tokens_of test (value_placed at v) ≡ [])
only_unmet test at value p t only v ok same = only_tokens test at value p only v ok same ∙ cond-false (test p) ((at, value) ∷ []) [] t
