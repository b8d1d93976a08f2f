-- What `get_one` reads of an option that is given or not.
use Rattle.std.proofs.Common.{◌≡◌, Bool, true, false, ℕ, List, Option, Some, None, Result, Ok, Err, unwrap_or, refl, ap, sym, codes}
use Rattle.std.specs.Option.{option_map_or}
use Rattle.std.specs.Str.{bytes_eq}
use Rattle.std.specs.Str.Parse.{ParsesBool}
use Rattle.clap.specs.Matches.{ReadsOne}
use Rattle.clap.specs.Words.{Text}
use Rattle.bib_spec.proofs.Names.{eq-true}

abbrev is_true : Text → Bool
is_true text = bytes_eq text (codes "true")

abbrev value_or_false : {E : Type 0} → Result Bool E → Bool
value_or_false (Ok b) = b
value_or_false (Err e) = false

switch_read : {E : Type 0} (text : Text) (r : Result Bool E) → ParsesBool text r → value_or_false r ≡ is_true text
switch_read text (Ok true) h = rw (h) refl
switch_read text (Ok false) h = rw (h) refl
switch_read text (Err e) h = go (is_true text) refl
  where
    go : (b : Bool) → is_true text ≡ b → false ≡ is_true text
    go false t = sym t
    go true t = absurd (h.0 (eq-true text (codes "true") t))

-- `get_one(id).unwrap_or(false)`
pub one_switch : {E : Type 0} (gives : List ℕ → Result Bool E → Type 0) (one : Option Text) (r : Option Bool) → ((t : Text) (x : Result Bool E) → gives t x → ParsesBool t x)
    → (one ≡ None → r ≡ None) → ((t : Text) → one ≡ Some t → ReadsOne gives t r) → unwrap_or r false ≡ option_map_or is_true one false
one_switch {E} gives None r parses none some = ap (λ o. unwrap_or o false) (none refl)
one_switch {E} gives (Some t) (Some v) parses none some = switch_read {E = E} t (Ok v) (parses t (Ok v) (some t refl))
one_switch {E} gives (Some t) None parses none some = let bad = some t refl in switch_read {E = E} t (Err bad.0) (parses t (Err bad.0) bad.1)
