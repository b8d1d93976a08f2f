-- What a terminal is shown. (dialect)
use Rattle.std.specs.Prelude.{◌≡◌, ℕ, ◌+◌, ◌-◌, ◌≤◌, ◌==◌, ◌||◌, ◌&&◌, not, nat_le, nat_lt, Bool, false, List, [], ◌∷◌, ◌++◌, length, take, drop, Option, IfOk, if◌then◌else◌}
use Rattle.std.specs.List.{count_by}
use Rattle.std.specs.declared.result.Result.{Result}
use Rattle.std.specs.Io.KnownBytes.{Appends}

-- the byte is a control byte other than tab and line feed: below 32, or 127
abbrev pub is_control : ℕ → Bool
is_control b = (nat_lt b 32 && not (b == 9 || b == 10)) || b == 127

-- the two bytes are a control character of U+0080 to U+009F in UTF-8
abbrev pub are_control : ℕ → ℕ → Bool
are_control b c = b == 194 && (nat_le 128 c && nat_lt c 160)

-- the letter of a control byte: `[` of 27, and `?` of 127
abbrev pub letter_of : ℕ → ℕ
letter_of b = if b == 127 then 63 else b + 64

-- a control byte as a caret and its letter, as `^[`; another byte as it is
abbrev pub byte_shown : ℕ → List ℕ
byte_shown b = if is_control b then 94 ∷ letter_of b ∷ [] else b ∷ []

-- The text with each control byte as a caret and a letter, and each control character of two bytes as `M-`, a caret and a
-- letter. All other bytes are as they are.
abbrev pub shown : List ℕ → List ℕ
shown [] = []
shown (b ∷ []) = byte_shown b
shown (b ∷ c ∷ rest) = if are_control b c then 77 ∷ 45 ∷ 94 ∷ (c - 64) ∷ shown rest else byte_shown b ++ shown (c ∷ rest)

-- the text begins with a control byte, or with a control character of two bytes
abbrev pub begins_with_control : List ℕ → Bool
begins_with_control [] = false
begins_with_control (b ∷ []) = is_control b
begins_with_control (b ∷ c ∷ rest) = are_control b c || is_control b

-- the byte is a control byte, or the first byte of a control character of two bytes
abbrev pub may_begin : ℕ → Bool
may_begin b = is_control b || b == 194

-- the text has at least as many bytes, and no control character begins with one of them
pub record IsPlainRun (text : List ℕ) (n : ℕ) : Type 0 where
  pub within : n ≤ length text
  pub none : count_by may_begin (take n text) ≡ 0

-- what was written shows the front of the text, and `rest` is what is still to be shown of it
pub record ShowsFront (old new : Option (List ℕ)) (text rest : List ℕ) : Type 0 where
  pub out : List ℕ
  pub given : Appends old new out
  pub is : shown text ≡ out ++ rest

-- a write of the text took n bytes of it: what was written shows these bytes, and the others are still to be shown
abbrev pub WritesShown : {E : Type 0} → Option (List ℕ) → Option (List ℕ) → List ℕ → Result ℕ E → Type 0
WritesShown old new text r = IfOk r (λ n. ShowsFront old new text (shown (drop n text)))

-- as many bytes at the front are none of a control character: each of them is shown as it is
pub record IsPlainFront (text : List ℕ) (n : ℕ) : Type 0 where
  pub within : n ≤ length text
  pub plain : (m : ℕ) → m ≤ n → shown text ≡ take m text ++ shown (drop m text)
