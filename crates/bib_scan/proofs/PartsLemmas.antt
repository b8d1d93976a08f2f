-- Steps of taking a value apart.
use Rattle.bib_scan.proofs.Words.{◌≡◌, ℕ, zero, suc, ◌+◌, ◌-◌, ◌<◌, ◌≤◌, List, [], ◌∷◌, ◌++◌, length, refl, sym, ap, ◌∙◌, arith, append_assoc, append-nil, Result, Ok, Err, Text, Part, Halt, read_part, ◌>>=◌, read_link, unless_end, part_span, read_parts, read_all_parts, PartSpan}

abbrev pub with_spans : List PartSpan → Result (List PartSpan) Halt → Result (List PartSpan) Halt
with_spans spans read = read >>= λ later. Ok (spans ++ later)

-- The parts of `t` are these, and then the parts of `next`.
pub record PartsOn (limit : ℕ) (t next : Text) (spans : List PartSpan) : Type 0 where
  pub shorter : length next ≤ length t
  pub read : (n : ℕ) × (length next < n) × (read_all_parts limit t ≡ with_spans spans (read_parts limit (length t) n next))

with_spans-nil : (r : Result (List PartSpan) Halt) → with_spans [] r ≡ r
with_spans-nil (Ok x) = refl
with_spans-nil (Err h) = refl

with_spans-append : (u v : List PartSpan) (r : Result (List PartSpan) Halt) → with_spans u (with_spans v r) ≡ with_spans (u ++ v) r
with_spans-append u v (Ok x) = ap Ok (sym (append_assoc u v x))
with_spans-append u v (Err h) = refl

pub parts_start : (limit : ℕ) (t : Text) → PartsOn limit t t []
parts_start limit t = record { shorter = omega arith; read = (length t + 1, omega arith, sym (with_spans-nil _)) }

-- the span of the part at the front of `next`
abbrev pub span_here : Text → Text → Text → Part → PartSpan
span_here t next rest p = part_span p (length t - length next) (length t - length rest)

turn : (limit total n : ℕ) (t rest : Text) (p : Part) → 0 < n → read_part limit t ≡ Ok (p, rest) → read_parts limit total n t ≡ with_spans (part_span p (total - length t) (total - length rest) ∷ []) (unless_end (read_link rest >>= read_parts limit total (n - 1)) rest)
unfolding read_parts
turn limit total zero t rest p some is = absurd (omega arith)
turn limit total (suc n) t rest p some is = let less : suc n - 1 ≡ n = omega arith in rw (is, less) refl

stop_here : (limit total n : ℕ) (t : Text) (h : Halt) → 0 < n → read_part limit t ≡ Err h → read_parts limit total n t ≡ Err h
unfolding read_parts
stop_here limit total zero t h some is = absurd (omega arith)
stop_here limit total (suc n) t h some is = rw is refl

more_there : (more : Result (List PartSpan) Halt) (t : Text) → 0 < length t → unless_end more t ≡ more
more_there more [] some = absurd (omega arith)
more_there more (b ∷ t) some = refl

nothing_there : (more : Result (List PartSpan) Halt) (t : Text) → length t ≡ 0 → unless_end more t ≡ Ok []
nothing_there more [] none = refl
nothing_there more (b ∷ t) none = absurd (omega arith)

-- the parts of `t` are these, and then, if the text does not end, the parts of `rest`
after_part : (limit : ℕ) (t next rest : Text) (spans : List PartSpan) (p : Part) → PartsOn limit t next spans → read_part limit next ≡ Ok (p, rest) → (n : ℕ) × (length next ≤ n) × (read_all_parts limit t ≡ with_spans (spans ++ span_here t next rest p ∷ []) (unless_end (read_link rest >>= read_parts limit (length t) n) rest))
after_part limit t next rest spans p on is =
    let room : length next < on.read.0 = on.read.1 in
    (on.read.0 - 1, omega arith, on.read.2 ∙ ap (with_spans spans) (turn limit (length t) on.read.0 next rest p (omega arith) is) ∙ with_spans-append spans (span_here t next rest p ∷ []) _)

pub parts_more : (limit : ℕ) (t next rest after : Text) (spans : List PartSpan) (p : Part) → PartsOn limit t next spans → read_part limit next ≡ Ok (p, rest) → length rest < length next → 0 < length rest → read_link rest ≡ Ok after → length after < length rest → PartsOn limit t after (spans ++ span_here t next rest p ∷ [])
parts_more limit t next rest after spans p on is shorter some linked less =
    let b = after_part limit t next rest spans p on is in
    let room : length next ≤ b.0 = b.1 in
    let kept = spans ++ span_here t next rest p ∷ [] in
    record {
      shorter = omega (arith, on.shorter);
      read = (b.0, omega arith, b.2 ∙ ap (with_spans kept) (more_there _ rest some ∙ ap (λ (m : Result Text Halt). m >>= read_parts limit (length t) b.0) linked));
    }

pub parts_end : (limit : ℕ) (t next rest : Text) (spans : List PartSpan) (p : Part) → PartsOn limit t next spans → read_part limit next ≡ Ok (p, rest) → length rest ≡ 0 → read_all_parts limit t ≡ Ok (spans ++ span_here t next rest p ∷ [])
parts_end limit t next rest spans p on is none =
    let b = after_part limit t next rest spans p on is in
    let kept = spans ++ span_here t next rest p ∷ [] in
    b.2 ∙ ap (with_spans kept) (nothing_there _ rest none) ∙ ap Ok (append-nil kept)

pub part_fault : (limit : ℕ) (t next : Text) (spans : List PartSpan) (h : Halt) → PartsOn limit t next spans → read_part limit next ≡ Err h → read_all_parts limit t ≡ Err h
part_fault limit t next spans h on is =
    let room : length next < on.read.0 = on.read.1 in
    on.read.2 ∙ ap (with_spans spans) (stop_here limit (length t) on.read.0 next h (omega arith) is)

pub link_fault : (limit : ℕ) (t next rest : Text) (spans : List PartSpan) (p : Part) (h : Halt) → PartsOn limit t next spans → read_part limit next ≡ Ok (p, rest) → 0 < length rest → read_link rest ≡ Err h → read_all_parts limit t ≡ Err h
link_fault limit t next rest spans p h on is some linked =
    let b = after_part limit t next rest spans p on is in
    let kept = spans ++ span_here t next rest p ∷ [] in
    b.2 ∙ ap (with_spans kept) (more_there _ rest some ∙ ap (λ (m : Result Text Halt). m >>= read_parts limit (length t) b.0) linked)
