-- What the lines of a script say, line by line.
use Rattle.std.proofs.Common.{◌≡◌, ℕ, suc, ◌<◌, List, [], ◌∷◌, ◌++◌, length, Option, Some, None, refl, sym, ◌∙◌, ap, arith, append-nil}
use Rattle.std.proofs.lemmas.List.{append_assoc}
use Rattle.bib_spec.specs.Text.{Text}
use Rattle.bib_data.specs.declared.request.Request.{Request}
use Rattle.bib_script.specs.Parting.{words_of, lines_of}
use Rattle.bib_script.specs.Script.{Said, said, nothing_said, said_first, said_by, request_of}

-- what was said, before what the rest says
abbrev pub before : List Request → List ℕ → Said → Said
before requests lines rest = said (requests ++ rest.requests) (lines ++ rest.lines) rest.bad_line

-- the script says these requests on these lines, and then what the rest says, after its first `number` lines
abbrev pub SaysOn : Said → List Request → List ℕ → ℕ → Text → Type 0
SaysOn all requests lines number rest = before requests lines (said_by (suc number) (lines_of rest)) ≡ all

-- an empty line
pub says_nothing : (all : Said) (requests : List Request) (lines : List ℕ) (number : ℕ) (text line rest : Text) → SaysOn all requests lines number text
    → lines_of text ≡ line ∷ lines_of rest → length line ≡ 0 → SaysOn all requests lines (suc number) rest
says_nothing all requests lines number text [] rest so_far first none = ap (λ (ls : List Text). before requests lines (said_by (suc number) ls)) (sym first) ∙ so_far
says_nothing all requests lines number text (b ∷ line) rest so_far first none = absurd (omega (arith, none))

asked_says : (number : ℕ) (line : Text) (others : List Text) (asked : Request) → 0 < length line → request_of (words_of line) ≡ Some asked
    → said_by number (line ∷ others) ≡ said_first number asked (said_by (suc number) others)
asked_says number [] others asked some says = absurd (omega (arith, some))
asked_says number (b ∷ line) others asked some says = rw says refl

-- a line that is a request
pub says_asked : (all : Said) (requests requests' : List Request) (lines lines' : List ℕ) (number : ℕ) (text line rest : Text) (asked : Request) → SaysOn all requests lines number text
    → lines_of text ≡ line ∷ lines_of rest → 0 < length line → request_of (words_of line) ≡ Some asked → requests' ≡ requests ++ asked ∷ [] → lines' ≡ lines ++ suc number ∷ []
    → SaysOn all requests' lines' (suc number) rest
says_asked all requests requests' lines lines' number text line rest asked so_far first some says pushed counted =
    let later : Said = said_by (suc (suc number)) (lines_of rest) in
    ap (λ (es : List Request). before es lines' later) pushed ∙ ap (λ (ls : List ℕ). before (requests ++ asked ∷ []) ls later) counted
    ∙ ap (λ (es : List Request). said es ((lines ++ suc number ∷ []) ++ later.lines) later.bad_line) (append_assoc requests (asked ∷ []) later.requests)
    ∙ ap (λ (ls : List ℕ). said (requests ++ asked ∷ later.requests) ls later.bad_line) (append_assoc lines (suc number ∷ []) later.lines)
    ∙ ap (λ (s : Said). before requests lines s) (sym (asked_says (suc number) line (lines_of rest) asked some says))
    ∙ ap (λ (ls : List Text). before requests lines (said_by (suc number) ls)) (sym first) ∙ so_far

none_says : (number : ℕ) (line : Text) (others : List Text) → 0 < length line → request_of (words_of line) ≡ None → said_by number (line ∷ others) ≡ nothing_said (Some number)
none_says number [] others some says = absurd (omega (arith, some))
none_says number (b ∷ line) others some says = rw says refl

before_nothing : (requests : List Request) (lines : List ℕ) (bad_line : Option ℕ) → said requests lines bad_line ≡ before requests lines (nothing_said bad_line)
before_nothing requests lines bad_line =
    ap (λ (es : List Request). said es lines bad_line) (sym (append-nil requests)) ∙ ap (λ (ls : List ℕ). said (requests ++ []) ls bad_line) (sym (append-nil lines))

-- a line that is no request
pub says_none : (all : Said) (requests : List Request) (lines : List ℕ) (number : ℕ) (text line rest : Text) → SaysOn all requests lines number text
    → lines_of text ≡ line ∷ lines_of rest → 0 < length line → request_of (words_of line) ≡ None → said requests lines (Some (suc number)) ≡ all
says_none all requests lines number text line rest so_far first some says =
    before_nothing requests lines (Some (suc number))
    ∙ ap (λ (s : Said). before requests lines s) (sym (none_says (suc number) line (lines_of rest) some says))
    ∙ ap (λ (ls : List Text). before requests lines (said_by (suc number) ls)) (sym first) ∙ so_far

-- the end
pub says_all : (all : Said) (requests : List Request) (lines : List ℕ) (number : ℕ) (text : Text) → SaysOn all requests lines number text → length text ≡ 0 → said requests lines None ≡ all
says_all all requests lines number [] so_far none = before_nothing requests lines None ∙ so_far
says_all all requests lines number (b ∷ text) so_far none = absurd (omega (arith, none))
