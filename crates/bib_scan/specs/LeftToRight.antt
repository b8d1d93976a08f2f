-- No promise rests on this page: it retraces how the private functions read, from left to right, so that lemmas can
-- lead from their code to `Reading`, which says what a text means. Each function here gives what it read and the text
-- after it, or stops at a fault.
use Rattle.std.specs.Prelude.{ℕ, zero, suc, ◌+◌, ◌-◌, Bool, false, ◌&&◌, not, ◌==◌, nat_lt, List, [], ◌∷◌, ◌++◌, length, take, drop, codes, Option, None, Some, Result, Ok, Err, if◌then◌else◌}
use Rattle.std.specs.List.{prefix_len, take_while}
use Rattle.std.specs.Char.{is_ascii_digit}
use Rattle.bib_spec.specs.Bytes.{quote, hash, comma, equals_sign, open_brace, close_brace}
use Rattle.bib_spec.specs.Text.{Text, is_space, is_name_byte, is_type_byte, same, after_run}
use Rattle.bib_spec.specs.Clean.{begins_command}
use Rattle.bib_spec.specs.Tree.{Part, Braced, Quoted, Digits, Macro, Delimiter, Brace, Paren, close_byte, goes_on_key}
use Rattle.bib_scan.specs.declared.layout.Span.{Span}
use Rattle.bib_spec.specs.Fault.{ReadingFault, Unended, ExpectedName, ExpectedEquals, ExpectedCommaOrClose, ExpectedValue, UnbalancedBrace, KeyTooLong}

-- a fault, and the text from its place on
pub record Halt : Type 0 where
  pub fault : ReadingFault
  pub rest : Text

-- reading stops at the front of this text, with this fault
abbrev pub stop : ReadingFault → Text → Halt
stop f t = record { fault = f; rest = t }

-- reading stops at the front of this text: the text ends, or `f` is what is wrong there
abbrev pub expected : ReadingFault → Text → Halt
expected f [] = stop Unended []
expected f (b ∷ t) = stop f (b ∷ t)

-- what was read and the text after it, or where reading stopped
abbrev pub Read : Type 0 → Type 0
Read A = Result (A × Text) Halt

infixl 10 ◌>>=◌
-- what reading first one thing and then the next gives; it stops where either stops
abbrev pub ◌>>=◌ : {A B : Type 0} → Result A Halt → (A → Result B Halt) → Result B Halt
(Ok x) >>= f = f x
(Err h) >>= f = Err h

-- what was read, with this text put in front of it
abbrev pub with_front : Text → Read Text → Read Text
with_front front read = read >>= λ x. Ok (front ++ x.0, x.1)

-- the text before the brace that closes depth + 1 braces, and the text after that brace
unfoldable pub read_braced : ℕ → Text → Read Text
read_braced depth [] = Err (stop Unended [])
read_braced depth (b ∷ t) =
    if b == open_brace then with_front (b ∷ []) (read_braced (suc depth) t)
    else if b == close_brace then closing depth (read_braced (depth - 1) t)
    else with_front (b ∷ []) (read_braced depth t)
  where
    closing : ℕ → Read Text → Read Text
    closing zero later = Ok ([], t)
    closing (suc d) later = with_front (b ∷ []) later

-- the text before the quotation mark that ends the part, and the text after that mark
unfoldable pub read_quoted : ℕ → Text → Read Text
read_quoted depth [] = Err (stop Unended [])
read_quoted depth (b ∷ t) =
    if b == open_brace then with_front (b ∷ []) (read_quoted (suc depth) t)
    else if b == close_brace then closing depth (read_quoted (depth - 1) t)
    else if b == quote && depth == 0 then Ok ([], t)
    else with_front (b ∷ []) (read_quoted depth t)
  where
    closing : ℕ → Read Text → Read Text
    closing zero later = Err (stop UnbalancedBrace (b ∷ t))
    closing (suc d) later = with_front (b ∷ []) later

-- a run of bytes of this class, at most `limit` of them
abbrev pub read_run : ℕ → (ℕ → Bool) → Text → Read Text
read_run limit test t =
    if nat_lt limit (prefix_len test t) then Err (stop KeyTooLong (drop limit t))
    else Ok (take_while test t, after_run test t)

-- the text begins with a name
abbrev pub begins_name : Text → Bool
begins_name [] = false
begins_name (b ∷ t) = is_name_byte b && not (is_ascii_digit b)

-- a field or macro name
abbrev pub read_name : ℕ → Text → Read Text
read_name limit t = if begins_name t then read_run limit is_name_byte t else Err (expected ExpectedName t)

-- the text after the equals sign
abbrev pub read_equals : Text → Result Text Halt
read_equals [] = Err (stop Unended [])
read_equals (b ∷ t) = if b == equals_sign then Ok t else Err (stop ExpectedEquals (b ∷ t))

-- a part of a value
unfoldable pub read_part : ℕ → Text → Read Part
read_part limit [] = Err (stop Unended [])
read_part limit (b ∷ t) =
    if b == open_brace then (read_braced 0 t >>= λ x. Ok (Braced x.0, x.1))
    else if b == quote then (read_quoted 0 t >>= λ x. Ok (Quoted x.0, x.1))
    else if is_ascii_digit b then Ok (Digits (take_while is_ascii_digit (b ∷ t)), after_run is_ascii_digit (b ∷ t))
    else if is_name_byte b then (read_run limit is_name_byte (b ∷ t) >>= λ x. Ok (Macro x.0, x.1))
    else Err (stop ExpectedValue (b ∷ t))

-- the text after a `#` and white space, if the text begins with a `#`
abbrev pub past_hash : Text → Option Text
past_hash [] = None
past_hash (b ∷ t) = if b == hash then Some (after_run is_space t) else None

-- what `more` gives for the text, if there is one, and else `end`
abbrev pub go_on : {B : Type 0} → B → (Text → B) → Option Text → B
go_on end more None = end
go_on end more (Some u) = more u

-- the text after the further parts of a value, at most `n` of them
unfoldable pub read_links : ℕ → ℕ → Text → Result Text Halt
read_links limit zero t = Ok t
read_links limit (suc n) t = go_on (Ok t) (λ u. read_part limit u >>= λ p. read_links limit n p.1) (past_hash (after_run is_space t))

-- the text after a value
abbrev pub read_value_rest : ℕ → Text → Result Text Halt
read_value_rest limit t = read_part limit t >>= λ first. read_links limit (length first.1) first.1

-- a value's bytes
abbrev pub read_value : ℕ → Text → Read Text
read_value limit t = read_value_rest limit t >>= λ rest. Ok (take (length t - length rest) t, rest)

-- what an assignment says: its name, its value's bytes, and how long the text is from the value on
pub record Assigned : Type 0 where
  pub name : Text
  pub value : Text
  pub value_left : ℕ

-- an assignment, and the text after it and its white space
unfoldable pub read_assignment : ℕ → Text → Read Assigned
read_assignment limit t = do
  named ← read_name limit t
  u ← read_equals (after_run is_space named.1)
  valued ← read_value limit (after_run is_space u)
  Ok (record { name = named.0; value = valued.0; value_left = length (after_run is_space u) }, after_run is_space valued.1)

-- the text after white space, an assignment and its white space
unfoldable pub read_row : ℕ → Text → Result Text Halt
read_row limit t = read_assignment limit (after_run is_space t) >>= λ x. Ok x.1

-- the text after this byte, if the text begins with it
abbrev pub past_byte : ℕ → Text → Option Text
past_byte c [] = None
past_byte c (b ∷ t) = if b == c then Some t else None

-- the text after a comma
abbrev pub read_comma : Text → Result Text Halt
read_comma [] = Err (stop Unended [])
read_comma (b ∷ t) = if b == comma then Ok t else Err (stop ExpectedCommaOrClose (b ∷ t))

-- the text after the closing delimiter c
abbrev pub read_close : ℕ → Text → Result Text Halt
read_close c t = go_on (Err (expected ExpectedCommaOrClose t)) Ok (past_byte c t)

-- The text after an entry's rows and its closing delimiter `c`; there are fewer than `n` rows.
unfoldable pub read_rows : ℕ → ℕ → ℕ → Text → Result Text Halt
read_rows limit zero c t = Err (expected ExpectedCommaOrClose t)
read_rows limit (suc n) c t =
    go_on (read_comma t >>= λ u. go_on (read_row limit u >>= λ rest. read_rows limit n c rest) Ok (past_byte c (after_run is_space u))) Ok (past_byte c t)

-- the text after an entry's rows and its closing delimiter `c`, however many rows there are
abbrev pub read_all_rows : ℕ → ℕ → Text → Result Text Halt
read_all_rows limit c t = read_rows limit (length t + 1) c t

-- the text after an entry, given the text after its opening delimiter
unfoldable pub read_entry : ℕ → Delimiter → Text → Result Text Halt
read_entry limit d t = do
  key ← read_run limit (goes_on_key d) (after_run is_space t)
  read_all_rows limit (close_byte d) (after_run is_space key.1)

-- the delimiter with this opening byte
abbrev pub delimiter_of : ℕ → Delimiter
delimiter_of b = if b == open_brace then Brace else Paren

-- the text after a definition, given the text after its opening delimiter
abbrev pub read_definition : ℕ → ℕ → Text → Result Text Halt
read_definition limit c t = read_row limit t >>= read_close c

-- the text after a preamble, given the text after its opening delimiter
abbrev pub read_preamble : ℕ → ℕ → Text → Result Text Halt
read_preamble limit c t = read_value limit (after_run is_space t) >>= λ v. read_close c (after_run is_space v.1)

-- the text after the command of this type, given the text after its type name and white space
unfoldable pub read_body : ℕ → Text → Text → Result Text Halt
read_body limit type_name [] = Err (stop Unended [])
read_body limit type_name (b ∷ t) =
    if same type_name (codes "string") then read_definition limit (close_byte (delimiter_of b)) t
    else if same type_name (codes "preamble") then read_preamble limit (close_byte (delimiter_of b)) t
    else read_entry limit (delimiter_of b) t

-- the text after the command that begins here
unfoldable pub read_command : ℕ → Text → Result Text Halt
read_command limit [] = Err (stop Unended [])
read_command limit (b ∷ t) =
    let named = after_run is_space t in
    let type_name = take_while is_type_byte named in
    let after = after_run is_type_byte named in
    if same type_name (codes "comment") then Ok after
    else read_body limit type_name (after_run is_space after)

-- the number of bytes before the next command
unfoldable pub next_command : Text → ℕ
next_command [] = 0
next_command (b ∷ t) = if begins_command (b ∷ t) then 0 else next_command t + 1

-- a body from its first byte to the first byte after it
abbrev pub span : ℕ → ℕ → Span
span start end = record { start = start; end = end }

-- Where each command of `t` begins and ends in a text of `total` bytes that ends with `t`. The text `t` is empty or begins
-- with a command, and has fewer than `n` commands.
unfoldable pub read_commands : ℕ → ℕ → ℕ → Text → Result (List Span) Halt
read_commands limit total zero t = Ok []
read_commands limit total (suc n) [] = Ok []
read_commands limit total (suc n) (b ∷ t) = do
  rest ← read_command limit (b ∷ t)
  later ← read_commands limit total n (drop (next_command rest) rest)
  Ok (span (total - length (b ∷ t)) (total - length rest) ∷ later)

-- where each command of a whole text begins and ends; the front comes before the first
abbrev pub read_all_commands : ℕ → Text → Result (List Span) Halt
read_all_commands limit t = read_commands limit (length t) (length t + 1) (drop (next_command t) t)

-- the end of a text that is one value; white space after the value is wrong at its end, since a `#` could still follow
abbrev pub nothing_after : Text → Result Text Halt
nothing_after [] = Ok []
nothing_after (b ∷ t) = Err (expected ExpectedCommaOrClose (after_run is_space (b ∷ t)))

-- a text that is one value
abbrev pub read_whole_value : ℕ → Text → Result Text Halt
read_whole_value limit t = read_value_rest limit t >>= nothing_after
