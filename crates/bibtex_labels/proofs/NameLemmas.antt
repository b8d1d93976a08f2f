-- The letters of names, and names in the sort key.
use Rattle.std.proofs.Common.{◌≡◌, ◌∙◌, ℕ, ◌+◌, ◌-◌, ◌<◌, ◌≤◌, true, false, List, [], ◌∷◌, ◌++◌, length, drop, get_or, Option, Some, None, Result, Ok, Err, codes, unwrap_or, refl, sym, ap, append_assoc, append-nil}
use Rattle.std.proofs.Common.{◌≢◌, IfOk, IfErr, OnOk, cond}
use Rattle.std.proofs.lemmas.List.{drop_all, drop_more}
use Rattle.std.specs.Str.{bytes_eq}
use Rattle.bib_spec.specs.Text.{Text, IsBalanced}
use Rattle.bib_names.proofs.BalanceLaws.{balances-yes, balances-no}
use Rattle.bib_names.specs.NameList.{names_of}
use Rattle.bib_names.specs.declared.fault.NameFault.{NameFault}
use Rattle.bib_names.specs.declared.fault.NameFault.TheVariants.{Memory, UnbalancedName}
use Rattle.bibtex_names.specs.NamesInLists.{given_template, template_in}
use Rattle.bibtex_names.specs.Printing.{printed}
use Rattle.bibtex_names.specs.Template.{Pattern, template_of}
use Rattle.bibtex_names.specs.declared.name.Name.{Name}
use Rattle.bibtex_labels.specs.Fields.{names_listed}
use Rattle.bibtex_labels.specs.Label.{spelled, whole_template, others, ends_with_others, sorted_name, sorted_names}

-- a template that is read is the one that the text spells
pub read_template : (text : Text) (t : Pattern) → template_in text ≡ Ok t → t ≡ spelled text
unfolding spelled
read_template text t is = by (template_of text) is
  where
    by : (o : Option Pattern) → given_template o ≡ Ok t → t ≡ unwrap_or o (record { front = []; groups = [] })
    by (Some s) e = cc
    by None e = cc

-- ---- lists of names

pub listed_names : {A : Type 0} (result : Result A NameFault) (names : A → List Text) (text : Text) → IfOk result (λ x. names x ≡ names_of text) → OnOk result (IsBalanced text)
    → IfOk result (λ x. names_listed text ≡ Ok (names x))
listed_names (Err f) names text named is = tt
listed_names (Ok x) names text named is =
    ap (λ b. cond b (Ok (names_of text)) (Err UnbalancedName)) (balances-yes text is) ∙ ap (λ (ns : List Text). Ok ns) (sym named)

pub listed_fault : {A : Type 0} (result : Result A NameFault) (text : Text) → (IsBalanced text → IfErr result (λ f. f ≡ Memory)) → ((IsBalanced text → ⊥) → result ≡ Err UnbalancedName)
    → IfErr result (λ f. f ≢ Memory → names_listed text ≡ Err f)
listed_fault (Ok x) text memory unbalanced = tt
listed_fault (Err f) text memory unbalanced = λ other.
    let is_not : IsBalanced text → ⊥ = λ is. other (memory is) in
    let refusal = unbalanced is_not in
    let same : UnbalancedName ≡ f = cc in
    ap (λ b. cond b (Ok (names_of text)) (Err UnbalancedName)) (balances-no text is_not) ∙ ap (λ (g : NameFault). Err g) same

-- ---- names

-- the last of these names decides
pub last_is_others : (front : List Name) (last : Name) → ends_with_others (front ++ last ∷ []) ≡ bytes_eq (printed whole_template last) others
last_is_others [] last = refl
last_is_others (name ∷ []) last = refl
last_is_others (name ∷ next ∷ names) last = last_is_others (next ∷ names) last

-- names of the sort key, all of which stand before others
abbrev pub front_names : List Name → Text
front_names [] = []
front_names (name ∷ names) = sorted_name false name ++ (codes "   " ++ front_names names)

-- names in the sort key are those before the last, and the last
pub sorted_snoc : (names : List Name) (last : Name) → sorted_names (names ++ last ∷ []) ≡ front_names names ++ sorted_name true last
sorted_snoc [] last = refl
sorted_snoc (name ∷ []) last =
    sym (append_assoc (sorted_name false name) (codes "   ") (sorted_name true last)) ∙ ap (λ t. t ++ sorted_name true last) (ap (λ t. sorted_name false name ++ t) (sym (append-nil (codes "   "))))
sorted_snoc (name ∷ next ∷ names) last =
    let rest = sorted_snoc (next ∷ names) last in
    ap (λ t. sorted_name false name ++ (codes "   " ++ t)) rest
    ∙ sym (append_assoc (sorted_name false name) (codes "   " ++ front_names (next ∷ names)) (sorted_name true last))

-- one more name
pub front_more : (names : List Name) (n : ℕ) (name : Name) (out all : Text) → n < length names → name ≡ get_or names n name → out ++ front_names (drop n names) ≡ all
    → ((out ++ sorted_name false name) ++ codes "   ") ++ front_names (drop (n + 1) names) ≡ all
front_more names n name out all within is told =
    append_assoc (out ++ sorted_name false name) (codes "   ") (front_names (drop (n + 1) names))
    ∙ append_assoc out (sorted_name false name) (codes "   " ++ front_names (drop (n + 1) names))
    ∙ ap (λ t. out ++ t) (ap (λ (m : Name). sorted_name false m ++ (codes "   " ++ front_names (drop (n + 1) names))) is ∙ sym (ap front_names (drop_more names n name within)))
    ∙ told

-- all names before the last
pub front_all : (names : List Name) (n : ℕ) (out all : Text) → length names ≤ n → out ++ front_names (drop n names) ≡ all → out ≡ all
front_all names n out all end told = sym (append-nil out) ∙ ap (λ l. out ++ front_names l) (sym (drop_all n names end)) ∙ told
