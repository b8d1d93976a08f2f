-- Steps of the reader of a whole text.
use Rattle.bib_scan.proofs.Words.{◌≡◌, ℕ, zero, suc, ◌+◌, ◌-◌, ◌<◌, List, [], ◌∷◌, ◌++◌, length, drop, refl, sym, ap, ◌∙◌, arith, append_assoc, append-nil, Result, Ok, Err, length-drop, Text, Span, Halt, span, read_command, next_command, read_commands, read_all_commands, CommandsOn}
use Rattle.bib_scan.specs.ReadSoFar.{with_spans}

with_spans-nil : (r : Result (List Span) Halt) → with_spans [] r ≡ r
with_spans-nil (Ok x) = refl
with_spans-nil (Err h) = refl

with_spans-append : (u v : List Span) (r : Result (List Span) Halt) → with_spans u (with_spans v r) ≡ with_spans (u ++ v) r
with_spans-append u v (Ok x) = ap Ok (sym (append_assoc u v x))
with_spans-append u v (Err h) = refl

pub commands_start : (limit : ℕ) (t rest : Text) → rest ≡ drop (next_command t) t → CommandsOn limit t rest []
commands_start limit t rest is = record {
  shorter = omega (arith, ap (length {A = ℕ}) is, length-drop (next_command t) t);
  read = (length t + 1, omega (arith, ap (length {A = ℕ}) is, length-drop (next_command t) t), rw is (sym (with_spans-nil _)));
}

commands_turn : (limit total n : ℕ) (t after : Text) → 0 < n → read_command limit t ≡ Ok after → read_commands limit total n t ≡ with_spans (span (total - length t) (total - length after) ∷ []) (read_commands limit total (n - 1) (drop (next_command after) after))
unfolding read_commands read_command
commands_turn limit total zero t after some is = absurd (omega arith)
commands_turn limit total (suc n) [] after some is = cc
commands_turn limit total (suc n) (b ∷ t) after some is =
    let less : suc n - 1 ≡ n = omega arith in
    rw (is, less) refl

pub commands_more : (limit : ℕ) (t rest after next : Text) (spans : List Span) → CommandsOn limit t rest spans → read_command limit rest ≡ Ok after → length after < length rest → next ≡ drop (next_command after) after → CommandsOn limit t next (spans ++ span (length t - length rest) (length t - length after) ∷ [])
commands_more limit t rest after next spans on is shorter next_is =
    let room : length rest < on.read.0 = on.read.1 in
    let len : length next ≡ length after - next_command after = ap (length {A = ℕ}) next_is ∙ length-drop (next_command after) after in
    record {
      shorter = omega (arith, on.shorter);
      read = (
        on.read.0 - 1,
        omega arith,
        on.read.2 ∙ ap (with_spans spans) (commands_turn limit (length t) on.read.0 rest after (omega arith) is)
            ∙ rw next_is (with_spans-append spans (span (length t - length rest) (length t - length after) ∷ []) _),
      );
    }

commands_stop : (limit total n : ℕ) (t : Text) (h : Halt) → 0 < n → 0 < length t → read_command limit t ≡ Err h → read_commands limit total n t ≡ Err h
unfolding read_commands
commands_stop limit total zero t h some long is = absurd (omega arith)
commands_stop limit total (suc n) [] h some long is = absurd (omega arith)
commands_stop limit total (suc n) (b ∷ t) h some long is = rw is refl

pub commands_fault : (limit : ℕ) (t rest : Text) (h : Halt) (spans : List Span) → CommandsOn limit t rest spans → 0 < length rest → read_command limit rest ≡ Err h → read_all_commands limit t ≡ Err h
commands_fault limit t rest h spans on long is =
    let room : length rest < on.read.0 = on.read.1 in
    on.read.2 ∙ ap (with_spans spans) (commands_stop limit (length t) on.read.0 rest h (omega arith) long is)

commands_none : (limit total n : ℕ) (t : Text) → length t ≡ 0 → read_commands limit total n t ≡ Ok []
unfolding read_commands
commands_none limit total zero t none = refl
commands_none limit total (suc n) [] none = refl
commands_none limit total (suc n) (b ∷ t) none = absurd (omega arith)

pub commands_end : (limit : ℕ) (t rest : Text) (spans : List Span) → CommandsOn limit t rest spans → length rest ≡ 0 → read_all_commands limit t ≡ Ok spans
commands_end limit t rest spans on none =
    on.read.2 ∙ ap (with_spans spans) (commands_none limit (length t) on.read.0 rest none) ∙ ap Ok (append-nil spans)
