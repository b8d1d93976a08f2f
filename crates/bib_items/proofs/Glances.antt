-- A word that is sought in an item's bytes.
use Rattle.bib_items.proofs.Words.{◌≡◌, ℕ, ◌+◌, ◌-◌, ◌<◌, ◌≤◌, Bool, List, [], ◌∷◌, ◌++◌, length, take, drop, get_or, Some, None, ⊎_elim, refl, sym, ap, subst, subst₂, ◌∙◌, arith, map, append_assoc, take-append-drop, cases_Bool, cases_lt, get_or-drop, get_or_append_left, length-map, take-map}
use Rattle.bib_items.proofs.Words.{AllByRecursion, flat_map, list_any, bytes_eq, Text, folded, same, Part, Braced, Quoted, Digits, Macro, Value, Row, Tree, CommentTree, DefinitionTree, PreambleTree, EntryTree, value_bytes, row_bytes, opening_bytes, tree_bytes, parts_of, values_of, eq-true, Sought}
use Rattle.bib_items.proofs.Words.{test_of, LacksPart, mark_len, head_of}
use Rattle.std.proofs.Common.{true, false, length-append}
use Rattle.std.specs.Char.{to_ascii_lowercase, to_ascii_uppercase}
use Rattle.std.proofs.lemmas.Bool.{or_parts, eqb-false, true≢false}
use Rattle.std.proofs.lemmas.Str.Ascii.{lowercase_is, uppercase_is}
use Rattle.std.proofs.lemmas.List.{get_or-append-add, length-drop}
use Rattle.std.proofs.Math.Seq.{drop-append_seam, take-append_seam}
use Rattle.std.proofs.Math.ListN.{get_or-map as get_or-mapped}
use Rattle.std.specs.Prelude.{◌==◌}
use Rattle.memchr.specs.Find.{IsFirstByte, is_byte2}
use Rattle.bib_spec.specs.Bytes.{comma, equals_sign, hash, open_brace, close_brace, quote}
use Rattle.bib_spec.specs.Tree.{Link, part_bytes, link_bytes, last_comma_bytes, close_byte}
use Rattle.bib_spec.proofs.Names.{same-true, true-same}
use Rattle.bib_items.specs.declared.seeking.Sought.TheVariants as sought
use Rattle.bib_items.specs.Glancing.{LacksWord}
use Rattle.bib_items.proofs.PartMarks.{none-passes}

-- ---- the byte that is looked for

-- a byte that is another one but for its case
is_either : (x w : ℕ) → to_ascii_lowercase x ≡ to_ascii_lowercase w → is_byte2 (to_ascii_lowercase w) (to_ascii_uppercase (to_ascii_lowercase w)) x ≡ true
is_either x w e = ⊎_elim (λ t. t)
    (λ f.
    let l = to_ascii_lowercase w in
    let both = or_parts (x == l) (x == to_ascii_uppercase l) f in
    let low = lowercase_is x in
    let up = uppercase_is l in
    ⊎_elim
    (λ (a : x < 65). let s = low.1 a in absurd (eqb-false x l both.0 (omega (arith, s, e))))
    (λ (a : 65 ≤ x). ⊎_elim
    (λ (b : 90 < x). let s = low.2 b in absurd (eqb-false x l both.0 (omega (arith, s, e))))
    (λ (b : x ≤ 90).
    let s = low.0 (a, b) in
    let u = up.0 (omega (arith, s, e, a), omega (arith, s, e, b)) in
    absurd (eqb-false x (to_ascii_uppercase l) both.1 (omega (arith, s, e, u))))
    (cases_lt 90 x))
    (cases_lt x 65))
    (cases_Bool (is_byte2 (to_ascii_lowercase w) (to_ascii_uppercase (to_ascii_lowercase w)) x))

word_byte : (name word : Text) (rare : ℕ) → same name word ≡ true → to_ascii_lowercase (get_or name rare 0) ≡ to_ascii_lowercase (get_or word rare 0)
word_byte name word rare is = sym (get_or-mapped to_ascii_lowercase name rare 0) ∙ ap (λ (t : Text). get_or t rare 0) (same-true name word is) ∙ get_or-mapped to_ascii_lowercase word rare 0

word_length : (name word : Text) → same name word ≡ true → length name ≡ length word
word_length name word is = sym (length-map name to_ascii_lowercase) ∙ ap (length {A = ℕ}) (same-true name word is) ∙ length-map word to_ascii_lowercase

pub begins-front : (t word name rest : Text) → t ≡ name ++ rest → same name word ≡ true → (length word ≤ length t) × (same (take (length word) t) word ≡ true)
begins-front t word name rest is h =
    let long = word_length name word h in
    let front : take (length word) t ≡ name = ap (λ (n : ℕ). take n t) (sym long) ∙ ap (take (length name)) is ∙ take-append_seam name rest in
    (omega (arith, long, ap (length {A = ℕ}) is, length-append name rest), ap (λ (u : Text). same u word) front ∙ h)

-- ---- the search

-- the word does not stand where its byte number `rare` would be before place `at`
pub record LacksBefore (t word : Text) (rare at : ℕ) : Type 0 where
  pub low : rare ≤ at
  pub within : at ≤ length t
  pub lacks : (front name rest : Text) → t ≡ front ++ (name ++ rest) → length front + rare < at → same name word ≡ false

pub lacks_start : (t word : Text) (rare : ℕ) → rare ≤ length t → LacksBefore t word rare rare
lacks_start t word rare h = record { low = omega arith; within = h; lacks = λ front name rest is early. absurd (omega (arith, early)) }

-- the text is too short
pub lacks_short : (t word : Text) (rare : ℕ) → rare < length word → length t < rare → LacksWord t word
lacks_short t word rare inside short front name rest is = ⊎_elim
    (λ h.
    let long = word_length name word h in
    absurd (omega (arith, long, inside, short, ap (length {A = ℕ}) is, length-append front (name ++ rest), length-append name rest)))
    (λ h. h)
    (cases_Bool (same name word))

module _ (t word : Text) (rare low high : ℕ) (inside : rare < length word) (low_is : low ≡ to_ascii_lowercase (get_or word rare 0)) (high_is : high ≡ to_ascii_uppercase low) where
  -- a byte of the word in any case
  seen : (x : ℕ) → to_ascii_lowercase x ≡ to_ascii_lowercase (get_or word rare 0) → is_byte2 low high x ≡ true
  seen x e = subst₂ (λ (l h : ℕ). is_byte2 l h x ≡ true) (sym low_is) (sym (high_is ∙ ap to_ascii_uppercase low_is)) (is_either x (get_or word rare 0) e)

  -- and not before there, if there is no such byte between
  lacks_between : (at upto : ℕ) → LacksBefore t word rare at → ((k : ℕ) → at ≤ k → k < upto → is_byte2 low high (get_or t k 0) ≡ true → ⊥)
      → (front name rest : Text) → t ≡ front ++ (name ++ rest) → length front + rare < upto → same name word ≡ false
  lacks_between at upto before none front name rest is early = ⊎_elim
      (λ h. ⊎_elim
      (λ (here : length front + rare < at). before.lacks front name rest is here)
      (λ (late : at ≤ length front + rare).
      let long = word_length name word h in
      let byte : get_or t (length front + rare) 0 ≡ get_or name rare 0
      = ap (λ (u : Text). get_or u (length front + rare) 0) is ∙ get_or-append-add front (name ++ rest) rare 0 ∙ get_or_append_left name rest 0 rare (omega (arith, long, inside)) in
      absurd (none (length front + rare) late early (seen (get_or t (length front + rare) 0) (ap to_ascii_lowercase byte ∙ word_byte name word rare h))))
      (cases_lt (length front + rare) at))
      (λ h. h)
      (cases_Bool (same name word))

  pub lacks_found : (hay : Text) (at found : ℕ) → LacksBefore t word rare at → hay ≡ drop at t → IsFirstByte (is_byte2 low high) hay (Some found) → (at + found < length t) × LacksBefore t word rare (at + found)
  lacks_found hay at found before is first =
      let here = subst (λ (h : Text). IsFirstByte (is_byte2 low high) h (Some found)) is first in
      let lt : found < length (drop at t) = here.0.high in
      let within : at + found < length t = omega (arith, lt, length-drop at t) in
      let from : rare ≤ at = before.low in (
        within,
        record {
          low = omega (arith, from);
          within = omega (arith, within);
          lacks = lacks_between at (at + found) before (λ k low high f.
              let j = k - at in
              here.0.before j (omega arith) (omega (arith, low, high))
              (ap (is_byte2 _ _) (get_or-drop at t j 0 ∙ ap (λ (n : ℕ). get_or t n 0) (omega (arith, low))) ∙ f));
        },
      )

  pub lacks_past : (from : Text) (place : ℕ) (result : Bool) → LacksBefore t word rare place → place < length t → from ≡ drop (place - rare) t
      → ((name rest : Text) → from ≡ name ++ rest → same name word ≡ true → result ≡ true) → result ≡ false → LacksBefore t word rare (place + 1)
  lacks_past from place result before lt is begins none =
      let first : rare ≤ place = before.low in
      record {
        low = omega (arith, first);
        within = omega (arith, lt);
        lacks = λ front name rest whole early. ⊎_elim
            (λ h. ⊎_elim
            (λ (here : length front + rare < place). before.lacks front name rest whole here)
            (λ (late : place ≤ length front + rare).
            let at : place - rare ≡ length front = omega (arith, late, early) in
            let there : from ≡ name ++ rest = is ∙ ap (λ (n : ℕ). drop n t) at ∙ ap (drop (length front)) whole ∙ drop-append_seam front (name ++ rest) in
            absurd (true≢false (sym (begins name rest there h) ∙ none)))
            (cases_lt (length front + rare) place))
            (λ h. h)
            (cases_Bool (same name word));
      }

  pub lacks_end : (hay : Text) (at : ℕ) → LacksBefore t word rare at → hay ≡ drop at t → IsFirstByte (is_byte2 low high) hay None → LacksWord t word
  lacks_end hay at before is first front name rest whole = ⊎_elim
      (λ h.
      let here = subst (λ (u : Text). IsFirstByte (is_byte2 low high) u None) is first in
      let long = word_length name word h in
      lacks_between at (length t) before (λ k low high f.
      let j = k - at in
      here j (omega arith) (omega (arith, low, high, length-drop at t))
      (ap (is_byte2 _ _) (get_or-drop at t j 0 ∙ ap (λ (n : ℕ). get_or t n 0) (omega (arith, low))) ∙ f))
      front name rest whole
      (omega (arith, long, inside, ap (length {A = ℕ}) whole, length-append front (name ++ rest), length-append name rest)))
      (λ h. h)
      (cases_Bool (same name word))

-- ---- parts among the bytes of an item

-- the one text is in the other
pub record LiesIn (part whole : Text) : Type 0 where
  pub front : Text
  pub rest : Text
  pub is : whole ≡ front ++ (part ++ rest)

regroup : (f g a r s : Text) → f ++ ((g ++ (a ++ r)) ++ s) ≡ (f ++ g) ++ (a ++ (r ++ s))
regroup f g a r s = simp append_assoc

lies-through : (a b c : Text) → LiesIn a b → LiesIn b c → LiesIn a c
lies-through a b c x y = record {
  front = y.front ++ x.front;
  rest = x.rest ++ y.rest;
  is = y.is ∙ ap (λ (t : Text). y.front ++ (t ++ y.rest)) x.is ∙ regroup y.front x.front a x.rest y.rest;
}

link_shape : (f s h p r : Text) → f ++ (((s ++ h) ++ p) ++ r) ≡ (f ++ (s ++ h)) ++ (p ++ r)
link_shape f s h p r = simp append_assoc

links-lie : (text front : Text) (ls : List Link) → text ≡ front ++ flat_map link_bytes ls → AllByRecursion (λ (p : Part). LiesIn (part_bytes p) text) (map (λ (l : Link). l.part) ls)
links-lie text front [] is = tt
links-lie text front (l ∷ ls) is = (
  record {
    front = front ++ (l.space_before_hash ++ (hash ∷ l.space_after_hash));
    rest = flat_map link_bytes ls;
    is = is ∙ link_shape front l.space_before_hash (hash ∷ l.space_after_hash) (part_bytes l.part) (flat_map link_bytes ls);
  },
  links-lie text (front ++ link_bytes l) ls (is ∙ sym (append_assoc front (link_bytes l) (flat_map link_bytes ls))),
)

parts-lie : (v : Value) → AllByRecursion (λ (p : Part). LiesIn (part_bytes p) (value_bytes v)) (parts_of v)
parts-lie v = (record { front = []; rest = flat_map link_bytes v.links; is = refl }, links-lie (value_bytes v) (part_bytes v.first) v.links refl)

row_shape : (f s n b e v a r t : Text) → f ++ (((s ++ ((((n ++ b) ++ e) ++ v) ++ a)) ++ r) ++ t) ≡ (f ++ (s ++ (n ++ (b ++ e)))) ++ (v ++ (a ++ (r ++ t)))
row_shape f s n b e v a r t = simp append_assoc

next_shape : (f x r t : Text) → f ++ ((x ++ r) ++ t) ≡ (f ++ x) ++ (r ++ t)
next_shape f x r t = simp append_assoc

rows-lie : (text front rest : Text) (rows : List Row) → text ≡ front ++ (flat_map row_bytes rows ++ rest) → AllByRecursion (λ (v : Value). LiesIn (value_bytes v) text) (map (λ (row : Row). row.assignment.value) rows)
rows-lie text front rest [] is = tt
rows-lie text front rest (row ∷ rows) is =
    let a = row.assignment in
    let others = flat_map row_bytes rows in
    let space = comma ∷ row.space_before_name in
    let equals = equals_sign ∷ a.space_before_value in (
      record {
        front = front ++ (space ++ (a.name ++ (a.space_before_equals ++ equals)));
        rest = a.space_after ++ (others ++ rest);
        is = is ∙ row_shape front space a.name a.space_before_equals equals (value_bytes a.value) a.space_after others rest;
      },
      rows-lie text (front ++ row_bytes row) rest rows (is ∙ next_shape front (row_bytes row) others rest),
    )

definition_shape : (o n b e v a c : Text) → (o ++ ((((n ++ b) ++ e) ++ v) ++ a)) ++ c ≡ (o ++ (n ++ (b ++ e))) ++ (v ++ (a ++ c))
definition_shape o n b e v a c = simp append_assoc

preamble_shape : (o v a c : Text) → ((o ++ v) ++ a) ++ c ≡ o ++ (v ++ (a ++ c))
preamble_shape o v a c = simp append_assoc

entry_shape : (o k s r l c : Text) → (o ++ k) ++ (((s ++ r) ++ l) ++ c) ≡ (o ++ (k ++ s)) ++ (r ++ (l ++ c))
entry_shape o k s r l c = simp append_assoc

values-lie : (tree : Tree) → AllByRecursion (λ (v : Value). LiesIn (value_bytes v) (tree_bytes tree)) (values_of tree)
values-lie (CommentTree h) = tt
values-lie (DefinitionTree d) =
    let a = d.assignment in
    let o = opening_bytes d.opening in
    let equals = equals_sign ∷ a.space_before_value in
    let close = close_byte d.opening.delimiter ∷ [] in (
      record {
        front = o ++ (a.name ++ (a.space_before_equals ++ equals));
        rest = a.space_after ++ close;
        is = definition_shape o a.name a.space_before_equals equals (value_bytes a.value) a.space_after close;
      },
      tt,
    )
values-lie (PreambleTree p) =
    let close = close_byte p.opening.delimiter ∷ [] in
    (record { front = opening_bytes p.opening; rest = p.space_after ++ close; is = preamble_shape (opening_bytes p.opening) (value_bytes p.value) p.space_after close }, tt)
values-lie (EntryTree e) =
    let rows = flat_map row_bytes e.rows in
    let last = last_comma_bytes e.last_comma in
    let close = close_byte e.opening.delimiter ∷ [] in
    rows-lie (tree_bytes (EntryTree e)) (opening_bytes e.opening ++ (e.key ++ e.space_after_key)) (last ++ close) e.rows (entry_shape (opening_bytes e.opening) e.key e.space_after_key rows last close)

-- ---- items that lack what is sought

-- an item has no part that is sought if no text in its bytes is one
lacks-parts : (s : Sought) (body : Text) → ((p : Part) → LiesIn (part_bytes p) body → test_of s p ≡ false) → LacksPart s body
lacks-parts s body fails tree ok same_bytes =
    none-passes (λ (v : Value). LiesIn (value_bytes v) body) (λ v. list_any (test_of s) (parts_of v))
    (λ v lies. none-passes (λ (p : Part). LiesIn (part_bytes p) (value_bytes v)) (test_of s) (λ p inner. fails p (lies-through (part_bytes p) (value_bytes v) body inner lies)) (parts_of v) (parts-lie v))
    (values_of tree)
    (subst (λ (t : Text). AllByRecursion (λ (v : Value). LiesIn (value_bytes v) t) (values_of tree)) same_bytes (values-lie tree))

-- what begins as the word does is not in the text
word-unmet : (body word name : Text) → LacksWord body (take mark_len word) → LiesIn name body → folded name ≡ folded word → ⊥
word-unmet body word name lacks lies is =
    let whole : body ≡ lies.front ++ (take mark_len name ++ (drop mark_len name ++ lies.rest))
    = lies.is ∙ ap (λ (t : Text). lies.front ++ (t ++ lies.rest)) (sym (take-append-drop mark_len name)) ∙ ap (λ (t : Text). lies.front ++ t) (append_assoc (take mark_len name) (drop mark_len name) lies.rest) in
    let heads : folded (take mark_len name) ≡ folded (take mark_len word) = sym (take-map to_ascii_lowercase mark_len name) ∙ ap (take mark_len) is ∙ take-map to_ascii_lowercase mark_len word in
    true≢false (sym (true-same (take mark_len name) (take mark_len word) heads) ∙ lacks lies.front (take mark_len name) (drop mark_len name ++ lies.rest) whole)

-- a text in delimiters
inner : (first last : ℕ) (t body : Text) → LiesIn (first ∷ t ++ last ∷ []) body → LiesIn t body
inner first last t body lies = lies-through t (first ∷ t ++ last ∷ []) body (record { front = first ∷ []; rest = last ∷ []; is = refl }) lies

text-unmet : (body text t : Text) → LacksWord body (take mark_len text) → LiesIn t body → bytes_eq t text ≡ false
text-unmet body text t lacks lies = ⊎_elim (λ e. absurd (word-unmet body text t lacks lies (ap folded (eq-true t text e)))) (λ f. f) (cases_Bool (bytes_eq t text))

part-lacking : (s : Sought) (body : Text) → LacksWord body (head_of s) → (p : Part) → LiesIn (part_bytes p) body → test_of s p ≡ false
part-lacking sought.Nothing body lacks p lies = refl
part-lacking (sought.Uses name) body lacks (Macro used) lies = ⊎_elim (λ e. absurd (word-unmet body name.now used lacks lies (same-true used name.now e))) (λ f. f) (cases_Bool (same used name.now))
part-lacking (sought.Uses name) body lacks (Braced t) lies = refl
part-lacking (sought.Uses name) body lacks (Quoted t) lies = refl
part-lacking (sought.Uses name) body lacks (Digits t) lies = refl
part-lacking (sought.Holds text) body lacks (Braced t) lies = text-unmet body text.now t lacks (inner open_brace close_brace t body lies)
part-lacking (sought.Holds text) body lacks (Quoted t) lies = text-unmet body text.now t lacks (inner quote quote t body lies)
part-lacking (sought.Holds text) body lacks (Digits t) lies = refl
part-lacking (sought.Holds text) body lacks (Macro used) lies = refl

pub word-lacks : (s : Sought) (body head : Text) → head ≡ head_of s → LacksWord body head → LacksPart s body
word-lacks s body head is lacks = lacks-parts s body (part-lacking s body (subst (LacksWord body) is lacks))

pub nothing-lacks : (s : Sought) (body : Text) → s ≡ sought.Nothing → LacksPart s body
nothing-lacks s body is = subst (λ (x : Sought). LacksPart x body) (sym is) (lacks-parts sought.Nothing body (λ p lies. refl))
