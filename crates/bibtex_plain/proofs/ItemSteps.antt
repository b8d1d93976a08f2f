-- Steps of the walk over the at-signs of one item.
use Rattle.std.proofs.Common.{◌≡◌, ◌∙◌, ℕ, ◌+◌, Bool, true, false, cond, ◌||◌, nat_le, List, ◌++◌, drop, length, Option, Some, None, Result, Ok, Err, refl, sym, ap, ap₂, subst, arith, append_assoc, length-append}
use Rattle.std.specs.List.{list_any}
use Rattle.std.proofs.lemmas.Bool.{cond-true}
use Rattle.bib_spec.specs.Text.{Text, same}
use Rattle.bib_spec.specs.Tree.{Entry, Tree, CommentTree, DefinitionTree, PreambleTree, EntryTree, opening_bytes, after_key_bytes, tree_bytes}
use Rattle.bib_spec.specs.Reading.{Item, item_bytes}
use Rattle.bib_scan.specs.View.{key_of, key_place}
use Rattle.bibtex_spec.specs.Plain.{AtSign, at_signs_in, inner_signs, item_signs, is_misnamed, is_in_last_line, first_breach}
use Rattle.bibtex_plain.specs.Walking.{IsLastFrom, IsNextSign, GoesOn, repeats, IsInnerSign}
use Rattle.bibtex_plain.proofs.SignSteps.{drop_past, last_past, passed}

-- ---- inside an entry

-- the at-signs inside a repeated entry are those of its body after the key
inside_of : (e : Entry) (keys : List Text) (from : ℕ) → from ≡ length (opening_bytes e.opening) + length e.key → true ≡ list_any (same e.key) keys → (at : ℕ) (more : Text)
    → inner_signs keys at (EntryTree e) more ≡ at_signs_in true (at + from) (drop from (tree_bytes (EntryTree e))) more
inside_of e keys from is repeated at more =
    let front : Text = opening_bytes e.opening ++ e.key in
    let len = length-append (opening_bytes e.opening) e.key in
    cond-true (list_any (same e.key) keys) _ _ (sym repeated)
    ∙ ap₂ (λ (n : ℕ) (t : Text). at_signs_in true (at + n) t more) (let it : length front ≡ from = omega (arith, len, is) in it)
    (sym (ap (λ (n : ℕ). drop n (front ++ after_key_bytes e)) (let it : from ≡ length front + 0 = omega (arith, len, is) in it) ∙ drop_past front (after_key_bytes e) 0))

pub inner_found : (tree : Tree) (keys : List Text) (body key : Text) (at : ℕ) (found : Option ℕ) → body ≡ tree_bytes tree → key ≡ key_of tree → at ≡ key_place tree → true ≡ repeats keys tree
    → IsNextSign body (at + length key) found → IsInnerSign keys tree found
inner_found (CommentTree h) keys body key at found is_body is_key is_at repeated is = cc
inner_found (DefinitionTree d) keys body key at found is_body is_key is_at repeated is = cc
inner_found (PreambleTree p) keys body key at found is_body is_key is_at repeated is = cc
inner_found (EntryTree e) keys body key at found is_body is_key is_at repeated is =
    along found (subst (λ (b : Text). IsNextSign b (at + length key) found) is_body is)
  where
    from : at + length key ≡ length (opening_bytes e.opening) + length e.key
    from = ap₂ (λ (a : ℕ) (k : Text). a + length k) is_at is_key

    along : (found : Option ℕ) → IsNextSign (tree_bytes (EntryTree e)) (at + length key) found → IsInnerSign keys (EntryTree e) found
    along None none = λ place more. inside_of e keys (at + length key) from repeated place more ∙ none true place more
    along (Some k) one = record {
      signs = λ place more. (
        record { place = place + k; after = drop (k + 1) (tree_bytes (EntryTree e)) ++ more; rest = drop (k + 1) (tree_bytes (EntryTree e)) ++ more; is_inside = true },
        at_signs_in true (place + (k + 1)) (drop (k + 1) (tree_bytes (EntryTree e))) more,
        inside_of e keys (at + length key) from repeated place more ∙ one.signs true place more,
        refl,
        refl,
      );
    }

-- ---- the walk

-- the at-signs of an item, if its own breaks no rule
past_head : (i : Item) (keys : List Text) (place : ℕ) (more : Text) (is_over : Bool) (later : List AtSign) → is_over ≡ false → false ≡ is_misnamed (drop 1 (tree_bytes i.tree) ++ (i.trail ++ more))
    → first_breach is_over (item_signs keys place i more ++ later)
    ≡ first_breach (is_in_last_line (i.trail ++ more)) ((inner_signs keys place i.tree (i.trail ++ more) ++ at_signs_in false (place + length (tree_bytes i.tree)) i.trail more) ++ later)
past_head i keys place more is_over later on named =
    passed is_over (is_misnamed (drop 1 (tree_bytes i.tree) ++ (i.trail ++ more))) place
    (first_breach (is_in_last_line (i.trail ++ more)) ((inner_signs keys place i.tree (i.trail ++ more) ++ at_signs_in false (place + length (tree_bytes i.tree)) i.trail more) ++ later))
    on (sym named)

inside_stops : (over inside misnamed : Bool) (place : ℕ) (next : Option ℕ) → inside ≡ true → cond (over || (inside || misnamed)) (Some place) next ≡ Some place
inside_stops over inside misnamed place next is = cond-true (over || (inside || misnamed)) (Some place) next (ap (λ (b : Bool). over || (b || misnamed)) is ∙ or-true over)
  where
    or-true : (b : Bool) → (b || true) ≡ true
    or-true true = refl
    or-true false = refl

-- an at-sign inside the item
pub stopped_inside : (i : Item) (keys : List Text) (place k : ℕ) (more : Text) (is_over : Bool) → is_over ≡ false → false ≡ is_misnamed (drop 1 (tree_bytes i.tree) ++ (i.trail ++ more))
    → IsInnerSign keys i.tree (Some k) → GoesOn is_over (item_signs keys place i more) (Err (place + k))
stopped_inside i keys place k more is_over on named inside later =
    let s = inside.signs place (i.trail ++ more) in
    let gap = at_signs_in false (place + length (tree_bytes i.tree)) i.trail more in
    let over = is_in_last_line (i.trail ++ more) in
    past_head i keys place more is_over later on named
    ∙ ap (λ (signs : List AtSign). first_breach over ((signs ++ gap) ++ later)) s.2
    ∙ inside_stops over (s.0).is_inside (is_misnamed (s.0).after) (s.0).place (first_breach (is_in_last_line (s.0).rest) ((s.1 ++ gap) ++ later)) s.4
    ∙ ap Some s.3

-- the walk goes on in the trail
pub past_body : (i : Item) (keys : List Text) (place last : ℕ) (body trail more : Text) (is_over : Bool) (result : Result Bool ℕ) → body ≡ tree_bytes i.tree → trail ≡ i.trail
    → is_over ≡ false → false ≡ is_misnamed (drop 1 (tree_bytes i.tree) ++ (i.trail ++ more)) → IsInnerSign keys i.tree None → IsLastFrom last place (item_bytes i ++ more)
    → (IsLastFrom last (place + length body) (trail ++ more) → GoesOn (nat_le last (place + length body)) (at_signs_in false (place + length body) trail more) result)
    → GoesOn is_over (item_signs keys place i more) result
past_body i keys place last body trail more is_over result is_body is_trail on named none lasts goes =
    along result (subst (λ (t : Text). IsLastFrom last (place + length (tree_bytes i.tree)) (t ++ more) → GoesOn (nat_le last (place + length (tree_bytes i.tree))) (at_signs_in false (place + length (tree_bytes i.tree)) t more) result) is_trail
    (subst (λ (b : Text). IsLastFrom last (place + length b) (trail ++ more) → GoesOn (nat_le last (place + length b)) (at_signs_in false (place + length b) trail more) result) is_body goes) after)
  where
    after : IsLastFrom last (place + length (tree_bytes i.tree)) (i.trail ++ more)
    after = last_past last place (tree_bytes i.tree) (i.trail ++ more) (subst (λ (t : Text). IsLastFrom last place t) (append_assoc (tree_bytes i.tree) i.trail more) lasts)

    step : (later : List AtSign) → first_breach is_over (item_signs keys place i more ++ later)
        ≡ first_breach (nat_le last (place + length (tree_bytes i.tree))) (at_signs_in false (place + length (tree_bytes i.tree)) i.trail more ++ later)
    step later =
        let gap = at_signs_in false (place + length (tree_bytes i.tree)) i.trail more in
        past_head i keys place more is_over later on named
        ∙ ap (λ (signs : List AtSign). first_breach (is_in_last_line (i.trail ++ more)) ((signs ++ gap) ++ later)) (none place (i.trail ++ more))
        ∙ ap (λ (b : Bool). first_breach b (gap ++ later)) (after 0 (omega arith) ∙ ap (nat_le last) (let it : (place + length (tree_bytes i.tree)) + 0 ≡ place + length (tree_bytes i.tree) = omega arith in it))

    along : (result : Result Bool ℕ) → GoesOn (nat_le last (place + length (tree_bytes i.tree))) (at_signs_in false (place + length (tree_bytes i.tree)) i.trail more) result → GoesOn is_over (item_signs keys place i more) result
    along (Ok over) g = λ later. step later ∙ g later
    along (Err p) g = λ later. step later ∙ g later
