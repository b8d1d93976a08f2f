-- How a text is taken apart into lines, one after another.
use Rattle.std.proofs.Common.{◌≡◌, ◌∙◌, ℕ, suc, ◌+◌, ◌<◌, ◌≤◌, Bool, true, false, ◌==◌, cond, List, [], ◌∷◌, ◌++◌, length, take, drop, min, Option, None, Some, refl, sym, ap, arith, not, ⊎_elim, append-nil}
use Rattle.std.specs.Option.{option_map_or}
use Rattle.std.proofs.lemmas.List.{drop_all, drop-drop, length-drop}
use Rattle.std.proofs.lemmas.List.Folds.{length-prefix_len}
use Rattle.std.proofs.Math.Nat.{min-eq_left, le-min}
use Rattle.std.proofs.lemmas.Bool.{cases_lt}
use Rattle.bib_spec.specs.Bytes.{line_feed}
use Rattle.bib_spec.specs.Text.{Text}
use Rattle.bib_spec.specs.Texts.{onto_first}
use Rattle.bib_strays.specs.declared.lines.StrayKind.{StrayKind}
use Rattle.bib_strays.specs.Strays.{lines_of, first_len, first_line, kind_of_line, shown, Stray, stray_at, strays_from, strays_left}

-- a line that a line feed ends
ended : (t : Text) → first_len t < length t → lines_of t ≡ first_line t ∷ lines_of (drop (first_len t + 1) t)
ended [] within = absurd (omega (arith, within))
ended (b ∷ t) within = go (b == line_feed) within (ended t)
  where
    go : (is : Bool) → cond (not is) (1 + first_len t) 0 < suc (length t) → (first_len t < length t → lines_of t ≡ first_line t ∷ lines_of (drop (first_len t + 1) t))
        → cond is ([] ∷ lines_of t) (onto_first b (lines_of t)) ≡ take (cond (not is) (1 + first_len t) 0) (b ∷ t) ∷ lines_of (drop (cond (not is) (1 + first_len t) 0 + 1) (b ∷ t))
    go true some later = refl
    go false some later =
        let n : 1 + first_len t ≡ suc (first_len t) = omega arith in
        let more : suc (first_len t) + 1 ≡ suc (first_len t + 1) = omega arith in
        ap (onto_first b) (later (omega (arith, some)))
        ∙ ap (λ (k : ℕ). (b ∷ first_line t) ∷ lines_of (drop k (b ∷ t))) (sym more)
        ∙ ap (λ (k : ℕ). take k (b ∷ t) ∷ lines_of (drop (k + 1) (b ∷ t))) (sym n)

-- the last line
last : (t : Text) → length t ≤ first_len t → lines_of t ≡ first_line t ∷ []
last [] all = refl
last (b ∷ t) all = go (b == line_feed) all (last t)
  where
    go : (is : Bool) → suc (length t) ≤ cond (not is) (1 + first_len t) 0 → (length t ≤ first_len t → lines_of t ≡ first_line t ∷ [])
        → cond is ([] ∷ lines_of t) (onto_first b (lines_of t)) ≡ take (cond (not is) (1 + first_len t) 0) (b ∷ t) ∷ []
    go true all later = absurd (omega (arith, all))
    go false all later =
        let n : 1 + first_len t ≡ suc (first_len t) = omega arith in
        ap (onto_first b) (later (omega (arith, all))) ∙ ap (λ (k : ℕ). take k (b ∷ t) ∷ []) (sym n)

-- an empty line looks like nothing
empty_at : (commented : Bool) (place : ℕ) → stray_at commented place [] ≡ []
empty_at true place = refl
empty_at false place = refl

none_after : (commented : Bool) (text : Text) (place : ℕ) → length text ≤ place → strays_left commented place text ≡ []
none_after commented text place all =
    ap (λ (t : Text). strays_from commented place (lines_of t)) (drop_all place text all)
    ∙ append-nil (stray_at commented place [])
    ∙ empty_at commented place

-- the place of the line after this one
abbrev pub after : Text → ℕ → ℕ
after text place = min (place + length (first_line (drop place text)) + 1) (length text)

pub strays_step : (commented : Bool) (text : Text) (place : ℕ) → place < length text
    → strays_left commented place text ≡ stray_at commented place (first_line (drop place text)) ++ strays_left commented (after text place) text
strays_step commented text place within = ⊎_elim
    (λ some.
    let end : after text place ≡ place + length line + 1 = min-eq_left (omega (arith, some, len, left)) in
    let next : drop (first_len rest + 1) rest ≡ drop (after text place) text =
    drop-drop (first_len rest + 1) place text ∙ ap (λ k. drop k text) (omega (arith, end, len)) in
    ap (strays_from commented place) (ended rest some)
    ∙ ap (λ (k : ℕ). found ++ strays_from commented k (lines_of (drop (first_len rest + 1) rest))) (sym end)
    ∙ ap (λ (t : Text). found ++ strays_from commented (after text place) (lines_of t)) next)
    (λ all.
    let end : length text ≤ after text place = le-min (omega (arith, all, len, left)) (omega arith) in
    ap (strays_from commented place) (last rest all)
    ∙ ap (λ (xs : List Stray). found ++ xs) (sym (none_after commented text (after text place) end)))
    (cases_lt (first_len rest) (length rest))
  where
    rest : Text
    rest = drop place text

    line : Text
    line = first_line rest

    found : List Stray
    found = stray_at commented place line

    len : length line ≡ first_len rest
    len = length-prefix_len (λ b. not (b == line_feed)) rest

    left : place + length rest ≡ length text
    left = let whole = length-drop place text in omega (arith, whole, within)

-- a line that looks like nothing is passed over
pub strays_passed : (commented : Bool) (text : Text) (from place next : ℕ) (line : Text) → place < length text → line ≡ first_line (drop place text) → kind_of_line commented line ≡ None
    → next ≡ min (place + length line + 1) (length text) → strays_left commented from text ≡ strays_left commented place text → strays_left commented from text ≡ strays_left commented next text
strays_passed commented text from place next line within is none at before =
    before ∙ strays_step commented text place within
    ∙ ap (λ (t : Text). stray_at commented place t ++ strays_left commented (after text place) text) (sym is)
    ∙ ap (λ (kind : Option StrayKind). option_map_or (λ k. record { kind = k; place = place; text = shown k line } ∷ []) kind [] ++ strays_left commented (after text place) text) none
    ∙ ap (λ (k : ℕ). strays_left commented k text) (sym (at ∙ ap (λ (t : Text). min (place + length t + 1) (length text)) is))

-- a line that looks like what went wrong is the first
pub strays_found : (commented : Bool) (text : Text) (from place next : ℕ) (line : Text) (kind : StrayKind) → place < length text → line ≡ first_line (drop place text) → kind_of_line commented line ≡ Some kind
    → next ≡ min (place + length line + 1) (length text) → strays_left commented from text ≡ strays_left commented place text
    → strays_left commented from text ≡ record { kind = kind; place = place; text = shown kind line } ∷ strays_left commented next text
strays_found commented text from place next line kind within is some at before =
    before ∙ strays_step commented text place within
    ∙ ap (λ (t : Text). stray_at commented place t ++ strays_left commented (after text place) text) (sym is)
    ∙ ap (λ (kind : Option StrayKind). option_map_or (λ k. record { kind = k; place = place; text = shown k line } ∷ []) kind [] ++ strays_left commented (after text place) text) some
    ∙ ap (λ (k : ℕ). record { kind = kind; place = place; text = shown kind line } ∷ strays_left commented k text) (sym (at ∙ ap (λ (t : Text). min (place + length t + 1) (length text)) is))
