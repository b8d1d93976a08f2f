-- Where the type of an entry stands, and its opening with another type.
use Rattle.std.proofs.Common.{◌≡◌, ℕ, ◌+◌, ◌==◌, ◌||◌, true, false, not, nat_le, nat_lt, [], ◌∷◌, ◌++◌, length, take, drop, refl, ◌∙◌, ap, ap₂, arith, append_assoc, ne_eqb, ⊎_elim}
use Rattle.std.specs.Prelude.{All}
use Rattle.std.specs.List.{prefix_len, list_all}
use Rattle.std.proofs.Math.Bool.{or-true}
use Rattle.std.proofs.Math.Seq.{take-append_seam, drop-append_seam, drop-append-add}
use Rattle.std.proofs.lemmas.Bool.{and_parts, both_ways, cases_Bool, leb-true, leb-false, ltb-true, or_from, not-true, false≢true}
use Rattle.std.proofs.lemmas.List.Elements.{All-nil, All-cons, All-head, All-tail}
use Rattle.bib_spec.specs.Bytes.{at_sign, space, tab, line_feed, carriage_return, name_limit}
use Rattle.bib_spec.specs.Text.{Text, is_type_byte, is_type_name, is_name, does_not_begin_with}
unfoldable use Rattle.bib_spec.specs.Text.{is_space, is_name_byte, is_name_within}
use Rattle.bib_spec.specs.Tree.{Entry, IsEntry, EntryTree, tree_bytes, opening_bytes, open_byte, after_key_bytes}
use Rattle.bib_scan.proofs.RunLaws.{run_len}
use Rattle.bib_fields.specs.Slices.{between}
use Rattle.bib_fields.specs.Openings.{stands_before_type, type_place, opening_with}

space-stands : (b : ℕ) → is_space b ≡ true → stands_before_type b ≡ true
unfolding is_space
space-stands b h = ⊎_elim
    (λ le. ap (λ x. (b == at_sign) || x) le ∙ or-true (b == at_sign))
    (λ gt.
    let lt = leb-false b space gt in
    let a : (b == space) ≡ false = ne_eqb b space (omega (arith, lt)) in
    let t : (b == tab) ≡ false = ne_eqb b tab (omega (arith, lt)) in
    let l : (b == line_feed) ≡ false = ne_eqb b line_feed (omega (arith, lt)) in
    let r : (b == carriage_return) ≡ false = ne_eqb b carriage_return (omega (arith, lt)) in
    absurd (both_ways (is_space b)
    (ap (λ x. ((x || (b == tab)) || (b == line_feed)) || (b == carriage_return)) a ∙ ap (λ x. (x || (b == line_feed)) || (b == carriage_return)) t ∙ ap (λ x. x || (b == carriage_return)) l ∙ r) h))
    (cases_Bool (nat_le b space))

type-does_not : (b : ℕ) → is_type_byte b ≡ true → stands_before_type b ≡ false
unfolding is_name_byte
type-does_not b h =
    let both = and_parts (is_name_byte b) (not (b == at_sign)) h in
    let over = (and_parts (nat_lt space b) _ both.0).0 in
    let lt = ltb-true space b over in
    or_from (b == at_sign) (nat_le b space) (not-true (b == at_sign) both.1) (⊎_elim (λ t. absurd (let le = leb-true b space t in omega (arith, le, lt))) (λ f. f) (cases_Bool (nat_le b space)))

type-ends : (t rest : Text) → is_type_name t ≡ true → does_not_begin_with stands_before_type (t ++ rest) ≡ true
unfolding is_name_within
type-ends [] rest h = absurd (false≢true h)
type-ends (b ∷ t) rest h =
    let bytes = (and_parts (is_name (b ∷ t)) (list_all is_type_byte (b ∷ t)) h).1 in
    ap not (type-does_not b (and_parts (is_type_byte b) (list_all is_type_byte t) bytes).0)

all-stand : (s : Text) → All (λ b. is_space b ≡ true) s → All (λ b. stands_before_type b ≡ true) s
all-stand [] all = All-nil (λ b. stands_before_type b ≡ true)
all-stand (b ∷ s) all =
    All-cons (λ b. stands_before_type b ≡ true) b s (space-stands b (All-head (λ b. is_space b ≡ true) b s all)) (all-stand s (All-tail (λ b. is_space b ≡ true) b s all))

-- an entry by its opening
by-type : (a s t b o k y : Text) → (((a ++ (s ++ t)) ++ b) ++ o) ++ k ++ y ≡ (a ++ s) ++ (t ++ ((b ++ o) ++ (k ++ y)))
by-type a s t b o k y = simp append_assoc

-- the type stands behind the at-sign and the white space after it
place-of_type : (e : Entry) → IsEntry name_limit e → type_place (tree_bytes (EntryTree e)) ≡ length (at_sign ∷ e.opening.head.space_before_type)
place-of_type e is =
    let head : Text = at_sign ∷ e.opening.head.space_before_type in
    let rest : Text = (e.opening.space_before_delimiter ++ (open_byte e.opening.delimiter ∷ e.opening.space_after)) ++ (e.key ++ after_key_bytes e) in
    ap (prefix_len stands_before_type)
    (by-type (at_sign ∷ []) e.opening.head.space_before_type e.opening.head.type_name e.opening.space_before_delimiter (open_byte e.opening.delimiter ∷ e.opening.space_after) e.key (after_key_bytes e))
    ∙ run_len stands_before_type head (e.opening.head.type_name ++ rest)
    (All-cons (λ b. stands_before_type b ≡ true) at_sign e.opening.head.space_before_type refl (all-stand e.opening.head.space_before_type is.opening.head.space_before_type))
    (type-ends e.opening.head.type_name rest is.opening.head.type_name)

-- the text before the second of four parts, and the third part
first-part : (a b : Text) → between (a ++ b) 0 (length a) ≡ a
first-part a b = take-append_seam a b

third-part : (a b c d : Text) → between (a ++ (b ++ (c ++ d))) (length a + length b) (length (a ++ (b ++ c))) ≡ c
third-part a b c d =
    ap (drop (length a + length b)) (ap (take (length (a ++ (b ++ c)))) (regroup a b c d) ∙ take-append_seam (a ++ (b ++ c)) d)
    ∙ drop-append-add a (b ++ c) (length b) ∙ drop-append_seam b c
  where
    regroup : (w x y z : Text) → w ++ (x ++ (y ++ z)) ≡ (w ++ (x ++ y)) ++ z
    regroup w x y z = simp append_assoc

opening-parts : (a s t b o : Text) → ((a ++ (s ++ t)) ++ b) ++ o ≡ (a ++ s) ++ (t ++ (b ++ o))
opening-parts a s t b o = simp append_assoc

-- the opening with this type, from the parts of the body around its own
pub opening-written : (e : Entry) (body type_name kind before after : Text) (key_at : ℕ) (old one two new : Text) → IsEntry name_limit e → body ≡ tree_bytes (EntryTree e) → type_name ≡ e.opening.head.type_name →
    key_at ≡ length (opening_bytes e.opening) → before ≡ between body 0 (type_place body) → after ≡ between body (type_place body + length type_name) key_at →
    one ≡ old ++ before → two ≡ one ++ kind → new ≡ two ++ after → new ≡ old ++ opening_bytes (opening_with e.opening kind)
opening-written e body type_name kind before after key_at old one two new is body_is type_is key_is before_is after_is add_one add_two add_three =
    let h : Text = at_sign ∷ e.opening.head.space_before_type in
    let t : Text = e.opening.head.type_name in
    let d : Text = e.opening.space_before_delimiter in
    let o : Text = open_byte e.opening.delimiter ∷ e.opening.space_after in
    let rest : Text = e.key ++ after_key_bytes e in
    let whole : body ≡ h ++ (t ++ ((d ++ o) ++ rest)) = body_is ∙ by-type (at_sign ∷ []) e.opening.head.space_before_type t d o e.key (after_key_bytes e) in
    let place : type_place body ≡ length h = ap type_place body_is ∙ place-of_type e is in
    let key : key_at ≡ length (h ++ (t ++ (d ++ o))) = key_is ∙ ap length (opening-parts (at_sign ∷ []) e.opening.head.space_before_type t d o) in
    let first : before ≡ h = before_is ∙ ap₂ (λ (b : Text) (n : ℕ). between b 0 n) whole place ∙ first-part h (t ++ ((d ++ o) ++ rest)) in
    let third : after ≡ d ++ o = after_is ∙ ap₂ (λ (b : Text) (n : ℕ). between b (n + length type_name) key_at) whole place
    ∙ ap₂ (λ (n : Text) (m : ℕ). between (h ++ (t ++ ((d ++ o) ++ rest))) (length h + length n) m) type_is key ∙ third-part h t (d ++ o) rest in
    add_three ∙ ap₂ (λ (x y : Text). x ++ y) (add_two ∙ ap (λ x. x ++ kind) (add_one ∙ ap (λ x. old ++ x) first)) third
    ∙ joined old (at_sign ∷ []) e.opening.head.space_before_type kind d o
  where
    joined : (w a s k x y : Text) → ((w ++ (a ++ s)) ++ k) ++ (x ++ y) ≡ w ++ (((a ++ (s ++ k)) ++ x) ++ y)
    joined w a s k x y = simp append_assoc
