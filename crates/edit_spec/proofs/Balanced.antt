-- What macros stand for balances, since the parts of a file do.
use Rattle.edit_spec.proofs.Words.{◌≡◌, ◌≤◌, ◌<◌, ℕ, zero, suc, ◌==◌, nat_le, Bool, true, false, List, ◌∷◌, Option, Some, None, unwrap_or, option_map, length, take, count_by, find, All, ⊎_elim, refl, sym, ◌∙◌, ap, subst, map, arith, suc-le-suc, zero-lt-suc, flat_map, list_any, AllByRecursion}
use Rattle.edit_spec.proofs.Words.{AllPass, bytes_eq, is_ascii_digit, cases_Bool, cond-true, cond-false, or_parts, and_parts, leb-true, none-some, same_Some, open_brace, close_brace, name_limit, Text, folded, IsBalanced, Part, Braced, Quoted, Digits, Macro, Link, Value, Tree, CommentTree}
use Rattle.edit_spec.proofs.Words.{DefinitionTree, PreambleTree, EntryTree, IsPart, IsLink, IsValue, IsTree, Item, IsItem, Macros, updated, months, part_text, raw_text, macros_in, macros_after, macros_at, option_cases, count-no}
use Rattle.std.proofs.Common.{[]}
use Rattle.std.proofs.lemmas.Bool.{ne_eqb}
use Rattle.bib_spec.specs.Texts.{month_names}
use Rattle.edit_spec.specs.Laws.{macros_balance}
use Rattle.bib_spec.proofs.Balance.{balanced-append}

-- a text without braces
no_count : (p : ℕ → Bool) (t : Text) → AllByRecursion (λ b. p b ≡ false) t → (n : ℕ) → count_by p (take n t) ≡ 0
no_count p t h zero = refl
no_count p [] h (suc n) = refl
no_count p (b ∷ t) h (suc n) = count-no p b (take n t) h.0 ∙ no_count p t h.1 n

pub unbraced_balanced : (t : Text) → AllByRecursion (λ b. (b == close_brace) ≡ false) t → AllByRecursion (λ b. (b == open_brace) ≡ false) t → IsBalanced t
unbraced_balanced t c o = record {
  never_negative = λ n. let a = no_count (λ b. b == close_brace) t c n in omega (arith, a);
  all_closed = no_count (λ b. b == close_brace) t c (length t) ∙ sym (no_count (λ b. b == open_brace) t o (length t));
}

pub empty_balanced : IsBalanced []
empty_balanced = unbraced_balanced [] tt tt

all_head : {X : Type 0} (P : X → Type 0) (x : X) (xs : List X) → All P (x ∷ xs) → P x
all_head P x xs h = h zero x (zero-lt-suc (length xs))

all_tail : {X : Type 0} (P : X → Type 0) (x : X) (xs : List X) → All P (x ∷ xs) → All P xs
all_tail P x xs h = λ k d lt. h (suc k) d (suc-le-suc lt)

digits_unbraced : (brace : ℕ) → 57 < brace → (t : Text) → AllPass is_ascii_digit t → AllByRecursion (λ b. (b == brace) ≡ false) t
digits_unbraced brace high [] h = tt
digits_unbraced brace high (b ∷ t) h = (
  ne_eqb b brace (λ e. let low = digit_low b (all_head (λ x. is_ascii_digit x ≡ true) b t h) in absurd (omega (arith, e, low, high))),
  digits_unbraced brace high t (all_tail (λ x. is_ascii_digit x ≡ true) b t h),
)
  where
    digit_low : (b : ℕ) → is_ascii_digit b ≡ true → b ≤ 57
    digit_low b h = leb-true b 57 (and_parts (nat_le 48 b) (nat_le b 57) h).1

-- each text that a table gives balances
abbrev Balance : Macros → Type 0
Balance m = (x held : Text) → m x ≡ Some held → IsBalanced held

part_balanced : (m : Macros) → Balance m → (part : Part) → IsPart name_limit part → IsBalanced (part_text m part)
part_balanced m all (Braced held) h = h
part_balanced m all (Quoted held) h = h.0
part_balanced m all (Digits held) h = unbraced_balanced held (digits_unbraced close_brace (omega arith) held h.1) (digits_unbraced open_brace (omega arith) held h.1)
part_balanced m all (Macro name) h = ⊎_elim
    (λ none. subst IsBalanced (sym (ap (λ o. unwrap_or o []) none)) empty_balanced)
    (λ some. subst IsBalanced (sym (ap (λ o. unwrap_or o []) some.1)) (all (folded name) some.0 some.1))
    (option_cases (m (folded name)))

links_balanced : (m : Macros) → Balance m → (links : List Link) → All (IsLink name_limit) links → IsBalanced (flat_map (part_text m) (map (λ l. l.part) links))
links_balanced m all [] h = empty_balanced
links_balanced m all (link ∷ links) h = balanced-append (part_text m link.part) (flat_map (part_text m) (map (λ l. l.part) links))
    (part_balanced m all link.part (all_head (IsLink name_limit) link links h).part) (links_balanced m all links (all_tail (IsLink name_limit) link links h))

pub text_balanced : (m : Macros) → Balance m → (v : Value) → IsValue name_limit v → IsBalanced (raw_text m v)
text_balanced m all v h = balanced-append (part_text m v.first) (flat_map (part_text m) (map (λ l. l.part) v.links)) (part_balanced m all v.first h.first) (links_balanced m all v.links h.links)

updated_balanced : (m : Macros) (name : Text) (o : Option Text) → Balance m → ((held : Text) → o ≡ Some held → IsBalanced held) → Balance (updated m name o)
updated_balanced m name o all new x held e = ⊎_elim
    (λ t. new held (sym (cond-true (bytes_eq x (folded name)) o (m x) t) ∙ e))
    (λ t. all x held (sym (cond-false (bytes_eq x (folded name)) o (m x) t) ∙ e))
    (cases_Bool (bytes_eq x (folded name)))

after_balanced : (m : Macros) → Balance m → (tree : Tree) → IsTree name_limit tree → Balance (macros_after m tree)
after_balanced m all (CommentTree c) h = all
after_balanced m all (PreambleTree p) h = all
after_balanced m all (EntryTree e) h = all
after_balanced m all (DefinitionTree d) h =
    let said : Text = raw_text (macros_in m (DefinitionTree d)) d.assignment.value in
    updated_balanced m d.assignment.name (Some said) all
    (λ held e. subst IsBalanced (same_Some said held e) (text_balanced (updated m d.assignment.name None) (updated_balanced m d.assignment.name None all (λ held e. absurd (none-some held e))) d.assignment.value h.assignment.value))

at_balanced : (m : Macros) → Balance m → (items : List Item) → All (IsItem name_limit) items → (n : ℕ) → Balance (macros_at m items n)
at_balanced m all items h zero = all
at_balanced m all [] h (suc n) = all
at_balanced m all (item ∷ items) h (suc n) =
    at_balanced (macros_after m item.tree) (after_balanced m all item.tree (all_head (IsItem name_limit) item items h).tree) items (all_tail (IsItem name_limit) item items h) n

unbraced : (t : Text) → list_any (λ b. b == close_brace) t ≡ false → list_any (λ b. b == open_brace) t ≡ false → IsBalanced t
unbraced t c o = unbraced_balanced t (none_pass (λ b. b == close_brace) t c) (none_pass (λ b. b == open_brace) t o)
  where
    none_pass : (p : ℕ → Bool) (t : Text) → list_any p t ≡ false → AllByRecursion (λ b. p b ≡ false) t
    none_pass p [] h = tt
    none_pass p (b ∷ t) h = let both = or_parts (p b) (list_any p t) h in (both.0, none_pass p t both.1)

meanings_balanced : (names : List (Text × Text)) → AllByRecursion (λ p. (list_any (λ b. b == close_brace) p.1 ≡ false) × (list_any (λ b. b == open_brace) p.1 ≡ false)) names →
    Balance (λ name. option_map (λ m. m.1) (find (λ m. bytes_eq m.0 name) names))
meanings_balanced [] h x held e = absurd (none-some held e)
meanings_balanced ((short, long) ∷ names) h x held e = ⊎_elim
    (λ t. subst IsBalanced (same_Some long held (sym (ap (option_map (λ m. m.1)) (cond-true (bytes_eq short x) (Some (short, long)) (find (λ m. bytes_eq m.0 x) names) t)) ∙ e)) (unbraced long h.0.0 h.0.1))
    (λ t. meanings_balanced names h.1 x held (sym (ap (option_map (λ m. m.1)) (cond-false (bytes_eq short x) (Some (short, long)) (find (λ m. bytes_eq m.0 x) names) t)) ∙ e))
    (cases_Bool (bytes_eq short x))

months_balanced : Balance months
unfolding months
months_balanced = let r : (false ≡ false) × (false ≡ false) = (refl, refl) in meanings_balanced month_names (r, (r, (r, (r, (r, (r, (r, (r, (r, (r, (r, (r, tt))))))))))))

pub macros-balance : macros_balance
macros-balance file db reads n name held e = at_balanced months months_balanced db.items reads.items n (folded name) held e
