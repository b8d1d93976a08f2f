-- The tokens of an entry, one after another.
use Rattle.std.proofs.Common.{◌≡◌, List, [], ◌∷◌, ◌++◌, append_assoc}

pub entry_tokens : {X : Type 0} (start parent fields rest : List X) (begin kind_name kind key_name key parent_name fields_name begin_fields : X)
    → ((((((((((start ++ begin ∷ []) ++ kind_name ∷ []) ++ kind ∷ []) ++ key_name ∷ []) ++ key ∷ []) ++ parent_name ∷ []) ++ parent) ++ fields_name ∷ []) ++ begin_fields ∷ []) ++ fields) ++ rest
    ≡ start ++ begin ∷ kind_name ∷ kind ∷ key_name ∷ key ∷ parent_name ∷ (parent ++ fields_name ∷ begin_fields ∷ (fields ++ rest))
entry_tokens start parent fields rest begin kind_name kind key_name key parent_name fields_name begin_fields = simp append_assoc

-- and of where it stands
pub standing_tokens : {X : Type 0} (start rest : List X) (item_name item line_name line column_name column : X)
    → ((((((start ++ item_name ∷ []) ++ item ∷ []) ++ line_name ∷ []) ++ line ∷ []) ++ column_name ∷ []) ++ column ∷ []) ++ rest
    ≡ start ++ item_name ∷ item ∷ line_name ∷ line ∷ column_name ∷ column ∷ rest
standing_tokens start rest item_name item line_name line column_name column = simp append_assoc
