-- Where a line ends, and whether it has a tag, told without looking for its end.
use Rattle.ris_text.proofs.Words.{◌≡◌, ℕ, suc, ◌+◌, ◌≤◌, ◌<◌, Bool, true, false, [], ◌∷◌, length, take, drop, min, get_or, refl, sym, ap, ◌∙◌, arith, inl, inr, cases_lt, eqb-true, length-take, line_feed, Text, is_empty, trimmed, Begin, End, Known, Other, Blank, Untagged, line_at, line_texts}
use Rattle.ris_text.proofs.Words.{lines_from, is_untagged, begin_tag, end_tag, is_tag, is_known, is_rule, has_tag, tag_class, continues}
use Rattle.std.proofs.Common.{zero, not, ◌&&◌, ◌==◌, cond}
use Rattle.std.specs.Str.{bytes_eq}
use Rattle.std.proofs.Math.Bool.{and-false}
use Rattle.std.proofs.lemmas.Bool.{false≢true, not-false}
use Rattle.std.proofs.lemmas.List.{get_or-take}
use Rattle.std.proofs.lemmas.List.Sums.{prefix_len_passes, prefix_len_stops, prefix_len-le-length}
use Rattle.memchr.specs.Find.{NoneBefore, Nowhere, Passes, is_byte}
use Rattle.ris_text.specs.Lines.{tag_line, plain_line}
use Rattle.ris_text.proofs.LineLemmas.{line_len, first_line}
use Rattle.ris_text.proofs.TagLemmas.{tagged_by, untagged_since}

-- ---- the first line feed

feed_at : (t : Text) → line_len t < length t → (get_or t (line_len t) 0 == line_feed) ≡ true
feed_at t lt = not-false (get_or t (line_len t) 0 == line_feed) (prefix_len_stops (λ b. not (b == line_feed)) t 0 lt)

no_feed_at : (t : Text) (k : ℕ) → k < line_len t → (get_or t k 0 == line_feed) ≡ true → ⊥
no_feed_at t k lt feed = false≢true (sym (ap not feed) ∙ prefix_len_passes (λ b. not (b == line_feed)) t k 0 lt)

pub feed_found : (t : Text) (k : ℕ) → NoneBefore (Passes (is_byte 10) t) 0 (length t) k → Passes (is_byte 10) t k → k ≡ line_len t
feed_found t k first feed =
    elim (cases_lt k (line_len t)) [
      | inl early ↦ absurd (no_feed_at t k early feed)
      | inr late ↦
          elim (cases_lt (line_len t) k) [
            | inl before ↦ let within = first.high in absurd (first.before (line_len t) (omega arith) before (feed_at t (omega (arith, before, within))))
            | inr there ↦ omega (arith, late, there)
          ]
    ]

pub no_feed : (t : Text) → Nowhere (Passes (is_byte 10) t) 0 (length t) → length t ≡ line_len t
no_feed t nowhere =
    let most = prefix_len-le-length (λ b. not (b == line_feed)) t in
    elim (cases_lt (line_len t) (length t)) [
      | inl before ↦ absurd (nowhere (line_len t) (omega arith) before (feed_at t before))
      | inr there ↦ omega (arith, most, there)
    ]

-- ---- tags

-- a line feed is no byte of a tag
no_tag_over : (t : Text) (n : ℕ) → n < 5 → get_or t n 0 ≡ 10 → is_tag (get_or t 0 0) (get_or t 1 0) && is_rule (get_or t 2 0) (get_or t 3 0) (get_or t 4 0) ≡ false
no_tag_over t zero lt feed = rw feed refl
no_tag_over t (suc zero) lt feed = rw feed (grind (arith, and-false))
no_tag_over t (suc (suc zero)) lt feed = rw feed (and-false (is_tag (get_or t 0 0) (get_or t 1 0)))
no_tag_over t (suc (suc (suc zero))) lt feed = rw feed (grind (arith, and-false))
no_tag_over t (suc (suc (suc (suc zero)))) lt feed = rw feed (grind (arith, and-false))
no_tag_over t (suc (suc (suc (suc (suc n))))) lt feed = absurd (omega (arith, lt))

same_front : (s t : Text) → 5 ≤ length s → 5 ≤ length t → ((n : ℕ) → n < 5 → get_or s n 0 ≡ get_or t n 0) → has_tag s ≡ has_tag t
same_front s t long also same =
    sym (tagged_by s long)
    ∙ (λ i. is_tag (same 0 (omega arith) i) (same 1 (omega arith) i) && is_rule (same 2 (omega arith) i) (same 3 (omega arith) i) (same 4 (omega arith) i))
    ∙ tagged_by t also

-- a text has a tag where its first line has
tag_of_line : (t : Text) → has_tag (take (line_len t) t) ≡ has_tag t
tag_of_line t =
    let len : length (take (line_len t) t) ≡ min (line_len t) (length t) = length-take (line_len t) t in
    let most = prefix_len-le-length (λ b. not (b == line_feed)) t in
    elim (cases_lt (line_len t) 5) [
      | inl short ↦
          sym (untagged_since (take (line_len t) t) (omega (arith, short, len))) ∙ elim (cases_lt (length t) 5) [
            | inl few ↦ untagged_since t few
            | inr many ↦ sym (no_tag_over t (line_len t) short (eqb-true (get_or t (line_len t) 0) 10 (feed_at t (omega (arith, short, many))))) ∙ tagged_by t many
          ]
      | inr long ↦ same_front (take (line_len t) t) t (omega (arith, long, len, most)) (omega (arith, long, most)) (λ n lt. get_or-take (line_len t) t n 0 (omega (arith, lt, long)))
    ]

-- ---- lines without a tag

tagged_class : (tag : Text) → is_untagged (tag_class tag) ≡ false
unfolding tag_class
tagged_class tag = of (bytes_eq tag begin_tag) (bytes_eq tag end_tag) (is_known tag)
  where
    of : (a b c : Bool) → is_untagged (cond a Begin (cond b End (cond c (Known tag) Other))) ≡ false
    of true b c = refl
    of false true c = refl
    of false false true = refl
    of false false false = refl

plain_class : (text : Text) → is_untagged (cond (is_empty text) Blank Untagged) ≡ true
plain_class [] = refl
plain_class (b ∷ text) = refl

untagged_at : (place : ℕ) (bytes : Text) → is_untagged (line_at place bytes).class ≡ not (has_tag bytes)
unfolding line_at
untagged_at place bytes = by (has_tag bytes)
  where
    by : (b : Bool) → is_untagged (cond b (tag_line place (take 2 bytes) (drop 5 bytes)) (plain_line place (trimmed bytes))).class ≡ not b
    by true = tagged_class (take 2 bytes)
    by false = plain_class (trimmed bytes)

-- whether a text that is not empty begins with a line that continues a value
pub continues_at : (place : ℕ) (t : Text) → 0 < length t → not (has_tag t) ≡ continues (lines_from place (line_texts t))
continues_at place t some =
    ap not (sym (tag_of_line t))
    ∙ sym (untagged_at place (take (line_len t) t))
    ∙ ap continues (sym (first_line place t (line_len t) (min (length t) (line_len t + 1)) some refl refl))
