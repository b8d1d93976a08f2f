-- The months, found among their names.
use Rattle.std.proofs.Common.{◌≡◌, ℕ, ◌≤◌, Bool, true, false, List, [], ◌∷◌, length, find, drop, map, sym, ap, ◌∙◌, arith, Option, None, Some, Bor, ⊎_elim, IfSome}
use Rattle.std.specs.Option.{option_map, option_copied}
use Rattle.std.specs.Str.{bytes_eq}
use Rattle.std.specs.List.{AllByRecursion}
use Rattle.std.proofs.lemmas.Bool.{cases_Bool, cond-true, cond-false}
use Rattle.std.proofs.lemmas.Option.{none-some, same_Some}
use Rattle.bib_spec.specs.Text.{Text}
use Rattle.bib_spec.specs.Texts.{months, month_names, raw_limit}
use Rattle.bib_value.specs.Months.{shown, text_in}

abbrev pub Names : Type 0
Names = List (Bor Text × Bor Text)

-- none of the first i names is this one
pub record NoneBefore (names : Names) (i : ℕ) (name : Text) : Type 0 where
  pub rest : text_in (map shown (drop i names)) name ≡ text_in (map shown names) name

-- the texts of months are short
all_short : (test : Text × Text → Bool) (names : List (Text × Text)) → AllByRecursion (λ m. length m.1 ≤ raw_limit) names → (t : Text) → option_map (λ m. m.1) (find test names) ≡ Some t → length t ≤ raw_limit
all_short test [] short t is = absurd (none-some t is)
all_short test (m ∷ ms) short t is = ⊎_elim (here short.0) (later (all_short test ms short.1 t)) (cases_Bool (test m))
  where
    here : length m.1 ≤ raw_limit → test m ≡ true → length t ≤ raw_limit
    here low h =
        let e : m.1 ≡ t = same_Some m.1 t (sym (ap (option_map (λ m. m.1)) (cond-true (test m) (Some m) (find test ms) h)) ∙ is) in
        omega (arith, low, ap (length {A = ℕ}) e)

    later : (option_map (λ m. m.1) (find test ms) ≡ Some t → length t ≤ raw_limit) → test m ≡ false → length t ≤ raw_limit
    later rest h = rest (sym (ap (option_map (λ m. m.1)) (cond-false (test m) (Some m) (find test ms) h)) ∙ is)

pub months_short : (name t : Text) → months name ≡ Some t → length t ≤ raw_limit
unfolding months
months_short name t is = all_short (λ m. bytes_eq m.0 name) month_names (omega arith, (omega arith, (omega arith, (omega arith, (omega arith, (omega arith, (omega arith, (omega arith, (omega arith, (omega arith, (omega arith, (omega arith, tt)))))))))))) t is

pub shown_short : (shown : Option (Bor Text)) (name : Text) → option_copied shown ≡ months name → IfSome shown (λ t. length t.now ≤ raw_limit)
shown_short None name is = tt
shown_short (Some t) name is = months_short name t.now (sym is)
