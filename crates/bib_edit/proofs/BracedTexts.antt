-- A text in braces is a value.
use Rattle.bib_edit.proofs.Words.{◌≡◌, ◌∙◌, [], ◌∷◌, ◌++◌, sym, append-nil, All-nil, open_brace, close_brace, name_limit, Text, IsBalanced, Value, Braced, IsLink, IsValueWithin}

pub braced_value : (text inside : Text) → text ≡ open_brace ∷ (inside ++ close_brace ∷ []) → IsBalanced inside → IsValueWithin name_limit text
braced_value text inside is balanced =
    let value : Value = record { first = Braced inside; links = [] } in
    (value, record { first = balanced; links = All-nil (IsLink name_limit) }, append-nil (open_brace ∷ (inside ++ close_brace ∷ [])) ∙ sym is)
