-- What lines ask for has depths of 1 to 8.
use Rattle.std.proofs.Common.{All, ◌≡◌, ◌-◌, ◌&&◌, nat_le, Bool, true, false, cond, List, [], ◌∷◌, Option, Some, None, IfSome, option_map, option_and_then, bytes_eq, codes, refl, subst, arith}
use Rattle.std.proofs.lemmas.Bool.{and_parts, leb-true}
use Rattle.std.proofs.lemmas.List.Elements.{All-cons, All-nil}
use Rattle.bib_spec.specs.Text.{Text}
use Rattle.bib_spec.specs.Records.{IsDepth}
use Rattle.bib_data.specs.Depths.{HasDepth, AsksWithDepth}
use Rattle.bib_data.specs.declared.edit.Edit.{Edit}
use Rattle.bib_data.specs.declared.edit.NewEntry.{NewEntry}
use Rattle.bib_data.specs.declared.position.Position.{Position}
use Rattle.bib_data.specs.declared.position.Position.TheVariants.{Number, End, Before, After}
use Rattle.bib_data.specs.declared.edit.Edit.TheVariants.{RegenerateKeys}
use Rattle.bib_data.specs.declared.request.Request.{Request}
use Rattle.bib_data.specs.declared.request.Request.TheVariants as request
use Rattle.history_spec.specs.Steps.{label_of}
use Rattle.bib_script.specs.Script.{position_of, fields_of, new_entry, set_of, drop_of, adding, add_of, remove_of, moving, move_of, set_type_of, rename_key_of, rename_field_of, rename_macro_of, inline_of, introduce_of, undefine_of, define_of, set_macro_of, depth_of, regenerate_of, macro_edit_of, renaming_of, edit_of, edit_asked, group_of, end_of, request_of}
use Rattle.bib_script.specs.Words.{step_of}

-- the edit, if there is one, has a depth of 1 to 8, or none
abbrev Fits : Option Edit → Type 0
Fits edit = IfSome edit HasDepth

either : (b : Bool) (x y : Option Edit) → Fits x → Fits y → Fits (cond b x y)
either true x y first second = first
either false x y first second = second

-- ---- the words of each edit

set-fits : (words : List Text) → Fits (set_of words)
set-fits [] = tt
set-fits (a ∷ []) = tt
set-fits (a ∷ b ∷ []) = tt
set-fits (a ∷ b ∷ c ∷ []) = tt
set-fits (a ∷ b ∷ c ∷ d ∷ words) = tt

drop-fits : (words : List Text) → Fits (drop_of words)
drop-fits [] = tt
drop-fits (a ∷ []) = tt
drop-fits (a ∷ b ∷ []) = tt
drop-fits (a ∷ b ∷ c ∷ words) = tt

remove-fits : (words : List Text) → Fits (remove_of words)
remove-fits [] = tt
remove-fits (a ∷ []) = tt
remove-fits (a ∷ b ∷ words) = tt

set_type-fits : (words : List Text) → Fits (set_type_of words)
set_type-fits [] = tt
set_type-fits (a ∷ []) = tt
set_type-fits (a ∷ b ∷ []) = tt
set_type-fits (a ∷ b ∷ c ∷ words) = tt

rename_key-fits : (words : List Text) → Fits (rename_key_of words)
rename_key-fits [] = tt
rename_key-fits (a ∷ []) = tt
rename_key-fits (a ∷ b ∷ []) = tt
rename_key-fits (a ∷ b ∷ c ∷ words) = tt

rename_field-fits : (words : List Text) → Fits (rename_field_of words)
rename_field-fits [] = tt
rename_field-fits (a ∷ []) = tt
rename_field-fits (a ∷ b ∷ []) = tt
rename_field-fits (a ∷ b ∷ c ∷ []) = tt
rename_field-fits (a ∷ b ∷ c ∷ d ∷ words) = tt

rename_macro-fits : (words : List Text) → Fits (rename_macro_of words)
rename_macro-fits [] = tt
rename_macro-fits (a ∷ []) = tt
rename_macro-fits (a ∷ b ∷ []) = tt
rename_macro-fits (a ∷ b ∷ c ∷ words) = tt

inline-fits : (words : List Text) → Fits (inline_of words)
inline-fits [] = tt
inline-fits (a ∷ []) = tt
inline-fits (a ∷ b ∷ words) = tt

introduce-fits : (words : List Text) → Fits (introduce_of words)
introduce-fits [] = tt
introduce-fits (a ∷ []) = tt
introduce-fits (a ∷ b ∷ []) = tt
introduce-fits (a ∷ b ∷ c ∷ words) = tt

undefine-fits : (words : List Text) → Fits (undefine_of words)
undefine-fits [] = tt
undefine-fits (a ∷ []) = tt
undefine-fits (a ∷ b ∷ words) = tt

define-fits : (words : List Text) → Fits (define_of words)
define-fits [] = tt
define-fits (a ∷ []) = tt
define-fits (a ∷ b ∷ []) = tt
define-fits (a ∷ b ∷ c ∷ words) = tt

set_macro-fits : (words : List Text) → Fits (set_macro_of words)
set_macro-fits [] = tt
set_macro-fits (a ∷ []) = tt
set_macro-fits (a ∷ b ∷ []) = tt
set_macro-fits (a ∷ b ∷ c ∷ words) = tt

-- a digit says such a depth
digit-fits : (word : Text) → IfSome (depth_of word) IsDepth
digit-fits [] = tt
digit-fits (digit ∷ []) = at (nat_le 49 digit && nat_le digit 56) refl
  where
    at : (b : Bool) → (nat_le 49 digit && nat_le digit 56) ≡ b → IfSome (cond b (Some (digit - 48)) None) IsDepth
    at true is =
        let parts = and_parts (nat_le 49 digit) (nat_le digit 56) is in
        let low = leb-true 49 digit parts.0 in
        let high = leb-true digit 56 parts.1 in
        record { least = omega (arith, low, high); most = omega (arith, low, high) }
    at false is = tt
digit-fits (digit ∷ other ∷ word) = tt

regenerate-fits : (words : List Text) → Fits (regenerate_of words)
regenerate-fits [] = record { least = omega arith; most = omega arith }
regenerate-fits (word ∷ []) = at (depth_of word) (digit-fits word)
  where
    at : (o : Option _) → IfSome o IsDepth → Fits (option_map RegenerateKeys o)
    at None is = tt
    at (Some depth) is = is
regenerate-fits (a ∷ b ∷ words) = tt

macro_edit-fits : (verb : Text) (words : List Text) → Fits (macro_edit_of verb words)
macro_edit-fits verb words =
    either (bytes_eq verb (codes "rename-macro")) _ _ (rename_macro-fits words)
    (either (bytes_eq verb (codes "inline")) _ _ (inline-fits words)
    (either (bytes_eq verb (codes "introduce")) _ _ (introduce-fits words)
    (either (bytes_eq verb (codes "undefine")) _ _ (undefine-fits words)
    (either (bytes_eq verb (codes "define")) _ _ (define-fits words)
    (either (bytes_eq verb (codes "set-macro")) _ _ (set_macro-fits words) tt)))))

renaming-fits : (verb : Text) (words : List Text) → Fits (renaming_of verb words)
renaming-fits verb words =
    either (bytes_eq verb (codes "rename-key")) _ _ (rename_key-fits words)
    (either (bytes_eq verb (codes "rename-field")) _ _ (rename_field-fits words)
    (either (bytes_eq verb (codes "regenerate")) _ _ (regenerate-fits words) (macro_edit-fits verb words)))

edit-fits : (verb : Text) (words : List Text) → Fits (edit_of verb words)
edit-fits verb words =
    either (bytes_eq verb (codes "set")) _ _ (set-fits words)
    (either (bytes_eq verb (codes "drop")) _ _ (drop-fits words)
    (either (bytes_eq verb (codes "remove")) _ _ (remove-fits words)
    (either (bytes_eq verb (codes "set-type")) _ _ (set_type-fits words) (renaming-fits verb words))))

-- ---- the request of a line

abbrev Asks : Option Request → Type 0
Asks asked = IfSome asked AsksWithDepth

either-asks : (b : Bool) (x y : Option Request) → Asks x → Asks y → Asks (cond b x y)
either-asks true x y first second = first
either-asks false x y first second = second

one-asks : (edit : Option Edit) → Fits edit → Asks (option_map request.Edit edit)
one-asks None fits = tt
one-asks (Some edit) fits = fits

mapped : {X : Type 0} (f : X → Request) (o : Option X) → ((x : X) → AsksWithDepth (f x)) → Asks (option_map f o)
mapped f None each = tt
mapped f (Some x) each = each x

joined : {X : Type 0} (f : X → Option Request) (o : Option X) → ((x : X) → Asks (f x)) → Asks (option_and_then f o)
joined f None each = tt
joined f (Some x) each = each x

adding-asks : (position : Position) (entry : NewEntry) → AsksWithDepth (adding position entry)
adding-asks (Number n) entry = tt
adding-asks End entry = tt
adding-asks (Before key) entry = tt
adding-asks (After key) entry = tt

add-asks : (words : List Text) → Asks (add_of words)
add-asks [] = tt
add-asks (a ∷ []) = tt
add-asks (a ∷ b ∷ []) = tt
add-asks (a ∷ b ∷ c ∷ words) =
    joined (λ position. option_map (λ fields. adding position (new_entry b c fields)) (fields_of words)) (position_of a)
    (λ position. mapped (λ fields. adding position (new_entry b c fields)) (fields_of words) (λ fields. adding-asks position (new_entry b c fields)))

moving-asks : (key : Text) (position : Position) → AsksWithDepth (moving key position)
moving-asks key (Number n) = tt
moving-asks key End = tt
moving-asks key (Before other) = tt
moving-asks key (After other) = tt

move-asks : (words : List Text) → Asks (move_of words)
move-asks [] = tt
move-asks (a ∷ []) = tt
move-asks (a ∷ b ∷ []) = mapped (moving a) (position_of b) (moving-asks a)
move-asks (a ∷ b ∷ c ∷ words) = tt

-- what words ask for has a depth of 1 to 8, or none
pub edit-asks : (words : List Text) → Asks (edit_asked words)
edit-asks [] = tt
edit-asks (verb ∷ words) =
    either-asks (bytes_eq verb (codes "add")) _ _ (add-asks words)
    (either-asks (bytes_eq verb (codes "move")) _ _ (move-asks words) (one-asks (edit_of verb words) (edit-fits verb words)))

group-asks : (words : List Text) → Asks (group_of words)
group-asks [] = tt
group-asks (label ∷ []) = at (label_of label)
  where
    at : (o : Option _) → Asks (option_map request.Begin o)
    at None = tt
    at (Some label) = tt
group-asks (a ∷ b ∷ words) = tt

end-asks : (words : List Text) → Asks (end_of words)
end-asks [] = tt
end-asks (a ∷ words) = tt

request-asks : (words : List Text) → Asks (request_of words)
request-asks [] = tt
request-asks (verb ∷ words) =
    either-asks (bytes_eq verb (codes "group")) _ _ (group-asks words)
    (either-asks (bytes_eq verb (codes "end")) _ _ (end-asks words) (edit-asks (verb ∷ words)))

-- the request of a line has a depth of 1 to 8, or none
pub said-asks : (words : List Text) (asked : Request) → request_of words ≡ Some asked → AsksWithDepth asked
said-asks words asked is = subst (λ (o : Option Request). IfSome o AsksWithDepth) is (request-asks words)

-- the step of what words ask for has depths of 1 to 8
pub step-asks : (words : List Text) (label : Text) (asked : Request) → edit_asked words ≡ Some asked → All AsksWithDepth (step_of label asked)
step-asks words label asked is =
    All-cons AsksWithDepth (request.Begin label) (asked ∷ request.End ∷ []) tt
    (All-cons AsksWithDepth asked (request.End ∷ []) (subst (λ (o : Option Request). IfSome o AsksWithDepth) is (edit-asks words)) (All-cons AsksWithDepth request.End [] tt (All-nil AsksWithDepth)))
