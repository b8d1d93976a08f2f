-- The names of lists, their lines, and why they are refused.
use Rattle.bib_answers.proofs.Words.{◌≡◌, ◌≢◌, ◌∙◌, ℕ, ◌+◌, ◌<◌, ◌≤◌, Bool, true, false, cond, List, ◌++◌, length, drop, get_or, Option, None, Some, Ok, refl, sym, ap, append_assoc, Text, before_lines, name_lines}
use Rattle.std.proofs.Common.{Result, Err, IfOk, IfErr, OnOk}
use Rattle.std.proofs.lemmas.List.{drop_more}
use Rattle.bib_spec.specs.Text.{IsBalanced}
use Rattle.bib_names.specs.NameList.{names_of}
use Rattle.bib_names.specs.Name.{commas, without_end, parts_of}
use Rattle.bib_names.specs.Template.{Pattern}
use Rattle.bib_names.specs.Label.{balances}
use Rattle.bib_names.specs.declared.name.Name.{Name}
use Rattle.bib_names.specs.declared.fault.NameFault.{NameFault}
use Rattle.bib_names.specs.declared.fault.NameFault.TheVariants.{Memory, TooManyCommas, UnbalancedName}
use Rattle.bib_names.proofs.BalanceLaws.{balances-yes, balances-no, IsBalanced-from_test}
use Rattle.bib_names.proofs.CommaLemmas.{few_commas, many_commas}
use Rattle.bib_answers.specs.Names.{listed_in, given_parts, parts_in, name_line, joined_lines}

-- ---- lists of names

pub listed_names : {A : Type 0} (result : Result A NameFault) (names_in : A → List Text) (text : Text) → IfOk result (λ x. names_in x ≡ names_of text) → OnOk result (IsBalanced text)
    → IfOk result (λ x. listed_in text ≡ Ok (names_in x))
listed_names (Err f) names_in text names is = tt
listed_names (Ok x) names_in text names is =
    ap (λ b. cond b (Ok (names_of text)) (Err UnbalancedName)) (balances-yes text is) ∙ ap (λ (ns : List Text). Ok ns) (sym names)

pub listed_fault : {A : Type 0} (result : Result A NameFault) (text : Text) → (IsBalanced text → IfErr result (λ f. f ≡ Memory)) → ((IsBalanced text → ⊥) → result ≡ Err UnbalancedName)
    → IfErr result (λ f. f ≢ Memory → listed_in text ≡ Err f)
listed_fault (Ok x) text memory unbalanced = tt
listed_fault (Err f) text memory unbalanced = λ other.
    let is_not : IsBalanced text → ⊥ = λ is. other (memory is) in
    let refusal = unbalanced is_not in
    let same : UnbalancedName ≡ f = cc in
    ap (λ b. cond b (Ok (names_of text)) (Err UnbalancedName)) (balances-no text is_not) ∙ ap (λ (g : NameFault). Err g) same

-- ---- the parts of a name

pub given_name : (result : Result Name NameFault) (name : Text) → IfOk result (λ parts. parts_of name ≡ Some parts) → OnOk result (IsBalanced name) → IfOk result (λ parts. parts_in name ≡ Ok parts)
given_name (Err f) name parts is = tt
given_name (Ok x) name parts is =
    ap (λ b. cond b (given_parts (parts_of name)) (Err UnbalancedName)) (balances-yes name is) ∙ ap given_parts parts

pub name_fault : {A : Type 0} (result : Result A NameFault) (name : Text)
    → (IsBalanced name → length (commas (without_end name)) ≤ 2 → IfErr result (λ f. f ≡ Memory))
    → ((IsBalanced name → ⊥) → result ≡ Err UnbalancedName)
    → ((IsBalanced name) × (2 < length (commas (without_end name))) → result ≡ Err TooManyCommas)
    → IfErr result (λ f. f ≢ Memory → parts_in name ≡ Err f)
name_fault (Ok x) name memory unbalanced many = tt
name_fault (Err f) name memory unbalanced many = λ other. by_balance other (balances name) refl
  where
    by_parts : f ≢ Memory → IsBalanced name → (o : Option Name) → parts_of name ≡ o → given_parts o ≡ Err f
    by_parts other is (Some parts) e = absurd (other (memory is (few_commas (without_end name) parts e)))
    by_parts other is None e =
        let refusal = many (is, many_commas (without_end name) e) in
        let same : TooManyCommas ≡ f = cc in
        ap (λ (g : NameFault). Err g) same

    by_balance : f ≢ Memory → (b : Bool) → balances name ≡ b → cond b (given_parts (parts_of name)) (Err UnbalancedName) ≡ Err f
    by_balance other true e = by_parts other (IsBalanced-from_test name e) (parts_of name) refl
    by_balance other false e =
        let is_not : IsBalanced name → ⊥ = λ is. (let yes_is = balances-yes name is in absurd (cc)) in
        let refusal = unbalanced is_not in
        let same : UnbalancedName ≡ f = cc in
        ap (λ (g : NameFault). Err g) same

-- ---- lines one after another

-- the lines of the names from one on
lines_from : (t : Pattern) (names : List Text) (n : ℕ) (name : Text) → n < length names → name ≡ get_or names n name
    → name_lines t (drop n names) ≡ joined_lines (name_line t name) (name_lines t (drop (n + 1) names))
lines_from t names n name within is =
    ap (name_lines t) (drop_more names n name within) ∙ ap (λ (x : Text). joined_lines (name_line t x) (name_lines t (drop (n + 1) names))) (sym is)

before-before : (one two : Text) (lines : Result Text NameFault) → before_lines one (before_lines two lines) ≡ before_lines (one ++ two) lines
before-before one two (Ok lines) = ap (λ (text : Text). Ok text) (sym (append_assoc one two lines))
before-before one two (Err f) = refl

-- one more line
pub name_more : (t : Pattern) (names : List Text) (n : ℕ) (name out line : Text) → n < length names → name ≡ get_or names n name
    → name_lines t names ≡ before_lines out (name_lines t (drop n names)) → name_line t name ≡ Ok line
    → name_lines t names ≡ before_lines (out ++ line) (name_lines t (drop (n + 1) names))
name_more t names n name out line within is far e =
    far ∙ ap (before_lines out) (lines_from t names n name within is ∙ ap (λ l. joined_lines l (name_lines t (drop (n + 1) names))) e)
    ∙ before-before out line (name_lines t (drop (n + 1) names))

-- the first name that is refused
pub name_stops : (t : Pattern) (names : List Text) (n : ℕ) (name out : Text) (f : NameFault) → n < length names → name ≡ get_or names n name
    → name_lines t names ≡ before_lines out (name_lines t (drop n names)) → name_line t name ≡ Err f → name_lines t names ≡ Err f
name_stops t names n name out f within is far e =
    far ∙ ap (before_lines out) (lines_from t names n name within is ∙ ap (λ l. joined_lines l (name_lines t (drop (n + 1) names))) e)
