-- The definitions that are held for each name.
use Rattle.bib_definitions.proofs.Words.{◌≡◌, Bool, true, false, cond, List, [], ◌∷◌, Option, Some, None, unwrap_or, refl, sym, ◌∙◌, ap, subst, bytes_eq, cond-true, cond-false, none-some, Text, folded, true-eq, value_at, IsWith, Definition, Held, definitions_held, definitions_of, each_held, Gives}
use Rattle.std.proofs.Common.{option_map}
use Rattle.std.specs.Prelude.{Result, Ok, Err, OnOk, OnErr}
use Rattle.std.specs.Option.{IfSome}
use Rattle.bib_definitions.specs.declared.held.Held.TheVariants.{Nothing}
use Rattle.bib_definitions.proofs.DefinedNames.{gives_with, given_all}

-- a choice of values, and of what they are seen as
along : {X Y : Type 0} (f : X → Y) (c : Bool) (x : X) (o : Option X) → cond c (Some (f x)) (option_map f o) ≡ option_map f (cond c (Some x) o)
along f true x o = refl
along f false x o = refl

-- what a name has
value_at-each : (lists : List (Text × Held)) (x : Text) → value_at (each_held lists) x ≡ option_map definitions_held (value_at lists x)
value_at-each [] x = refl
value_at-each (e ∷ es) x = ap (cond (bytes_eq x e.0) (Some (definitions_held e.1))) (value_at-each es x) ∙ along definitions_held (bytes_eq x e.0) e.1 (value_at es x)

pub of-each : (lists : List (Text × Held)) (x : Text) (held : Held) → value_at lists x ≡ Some held → definitions_of (each_held lists) x ≡ definitions_held held
of-each lists x held is = ap (λ o. unwrap_or o []) (value_at-each lists x ∙ ap (option_map definitions_held) is)

pub none-each : (lists : List (Text × Held)) (x : Text) → value_at lists x ≡ None → value_at (each_held lists) x ≡ None
none-each lists x none = value_at-each lists x ∙ ap (option_map definitions_held) none

with-each : (old new : List (Text × Held)) (name : Text) (held : Held) → IsWith old name held new → IsWith (each_held old) name (definitions_held held) (each_held new)
with-each old new name held put x =
    value_at-each new x ∙ ap (option_map definitions_held) (put x) ∙ sym (along definitions_held (bytes_eq x (folded name)) held (value_at old x))
    ∙ ap (cond (bytes_eq x (folded name)) (Some (definitions_held held))) (sym (value_at-each old x))

pub gives-each : (old new : List (Text × Held)) (name : Text) (held : Held) → IsWith old name held new → Gives (each_held old) name (definitions_held held) (each_held new)
gives-each old new name held put = gives_with (each_held old) (each_held new) name (definitions_held held) (with-each old new name held put)

-- what holds of the list, and of the definitions of each name, holds of those of each name after an attempt
pub tried-each : {T E : Type 0} (P : List Definition → Type 0) (old new : List (Text × Held)) (name : Text) (list : List Definition) (r : Result T E) → OnOk r (Gives (each_held old) name list (each_held new)) → OnErr r (new ≡ old)
    → P list → ((x : Text) → P (definitions_of (each_held old) x)) → (x : Text) → P (definitions_of (each_held new) x)
tried-each P old new name list (Ok v) gives same one all x = given_all P (each_held old) (each_held new) name list gives one all x
tried-each P old new name list (Err e) gives same one all x = subst (λ (lists : List (Text × Held)). P (definitions_of (each_held lists) x)) (sym same) (all x)

-- what holds of a value holds if there is one
has_some : {V : Type 0} (r : Option V) (v : V) (P : Type 0) → r ≡ Some v → IfSome r (λ o. P) → P
has_some (Some w) v P is holds = holds
has_some None v P is holds = absurd (none-some v is)

-- a name that was given one value, and then another
with-twice : {V : Type 0} (old mid new : List (Text × V)) (name : Text) (u v : V) (r : Option V) → IsWith old name u mid → r ≡ value_at mid (folded name) → IfSome r (λ o. IsWith mid name v new) → IsWith old name v new
with-twice old mid new name u v r first is last x = next x ∙ over (bytes_eq x (folded name)) refl
  where
    next : IsWith mid name v new
    next = has_some r u (IsWith mid name v new) (is ∙ first (folded name) ∙ cond-true (bytes_eq (folded name) (folded name)) (Some u) (value_at old (folded name)) (true-eq (folded name) (folded name) refl)) last

    over : (c : Bool) → bytes_eq x (folded name) ≡ c → cond c (Some v) (value_at mid x) ≡ cond c (Some v) (value_at old x)
    over true t = refl
    over false t = first x ∙ cond-false (bytes_eq x (folded name)) (Some u) (value_at old x) t

-- a name whose definitions were taken out, changed and put back
pub gives-changed : (old mid new : List (Text × Held)) (name : Text) (was now : Held) (r : Option Held) (change : List Definition → List Definition) → value_at old (folded name) ≡ Some was → definitions_held now ≡ change (definitions_held was)
    → IsWith old name Nothing mid → r ≡ value_at mid (folded name) → IfSome r (λ o. IsWith mid name now new) → Gives (each_held old) name (change (definitions_of (each_held old) (folded name))) (each_held new)
gives-changed old mid new name was now r change there is first held last =
    subst (λ (ds : List Definition). Gives (each_held old) name ds (each_held new)) (is ∙ ap change (sym (of-each old (folded name) was there)))
    (gives-each old new name now (with-twice old mid new name Nothing now r first held last))
