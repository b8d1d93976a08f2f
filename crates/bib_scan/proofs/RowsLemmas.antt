-- Steps of the reader of an entry's rows.
use Rattle.bib_scan.proofs.Words.{◌≡◌, ℕ, zero, suc, ◌+◌, ◌-◌, ◌<◌, ◌≤◌, length, refl, ap, ◌∙◌, arith, Result, Ok, Err, None, Some, Text, after_run, is_space, Halt, Assigned, read_comma, past_byte, go_on, read_assignment, read_row, read_rows, ◌>>=◌}

-- The text after the rows of `t` is the text after the rows of `rest`.
pub record RowsOn (limit : ℕ) (c : ℕ) (t rest : Text) : Type 0 where
  pub shorter : length rest ≤ length t
  pub read : (n : ℕ) × (length rest < n) × (read_rows limit (length t + 1) c t ≡ read_rows limit n c rest)

-- one turn
abbrev turn : ℕ → ℕ → ℕ → Text → Result Text Halt
turn limit n c t = go_on (read_comma t >>= λ u. go_on (read_row limit u >>= λ rest. read_rows limit (n - 1) c rest) Ok (past_byte c (after_run is_space u))) Ok (past_byte c t)

rows_turn : (limit n c : ℕ) (t : Text) → 0 < n → read_rows limit n c t ≡ turn limit n c t
unfolding read_rows
rows_turn limit zero c t some = absurd (omega arith)
rows_turn limit (suc n) c t some =
    let less : n ≡ suc n - 1 = omega arith in
    ap (λ (m : ℕ). go_on (read_comma t >>= λ u. go_on (read_row limit u >>= λ rest. read_rows limit m c rest) Ok (past_byte c (after_run is_space u))) Ok (past_byte c t)) less

by_turn : (limit c : ℕ) (t rest : Text) (on : RowsOn limit c t rest) → read_rows limit (length t + 1) c t ≡ turn limit on.read.0 c rest
by_turn limit c t rest on = on.read.2 ∙ rows_turn limit on.read.0 c rest (let room : length rest < on.read.0 = on.read.1 in omega arith)

pub rows_end : (limit c : ℕ) (t rest end : Text) → RowsOn limit c t rest → Some end ≡ past_byte c rest → read_rows limit (length t + 1) c t ≡ Ok end
rows_end limit c t rest end on is = by_turn limit c t rest on ∙ rw (← is) refl

pub rows_comma_fault : (limit c : ℕ) (t rest : Text) (h : Halt) → RowsOn limit c t rest → None ≡ past_byte c rest → read_comma rest ≡ Err h → read_rows limit (length t + 1) c t ≡ Err h
rows_comma_fault limit c t rest h on open_still is = by_turn limit c t rest on ∙ rw (← open_still, is) refl

pub rows_tail : (limit c : ℕ) (t rest u end : Text) → RowsOn limit c t rest → None ≡ past_byte c rest → read_comma rest ≡ Ok u → Some end ≡ past_byte c (after_run is_space u) → read_rows limit (length t + 1) c t ≡ Ok end
rows_tail limit c t rest u end on open_still is then_close = by_turn limit c t rest on ∙ rw (← open_still, is, ← then_close) refl

row_stops : (limit : ℕ) (u : Text) (h : Halt) → read_assignment limit (after_run is_space u) ≡ Err h → read_row limit u ≡ Err h
unfolding read_row
row_stops limit u h is = rw is refl

row_after : (limit : ℕ) (u : Text) (x : Assigned × Text) → read_assignment limit (after_run is_space u) ≡ Ok x → read_row limit u ≡ Ok x.1
unfolding read_row
row_after limit u x is = rw is refl

pub rows_row_fault : (limit c : ℕ) (t rest u : Text) (h : Halt) → RowsOn limit c t rest → None ≡ past_byte c rest → read_comma rest ≡ Ok u → None ≡ past_byte c (after_run is_space u) → read_assignment limit (after_run is_space u) ≡ Err h → read_rows limit (length t + 1) c t ≡ Err h
rows_row_fault limit c t rest u h on open_still is still fault = by_turn limit c t rest on ∙ rw (← open_still, is, ← still, row_stops limit u h fault) refl

pub rows_more : (limit c : ℕ) (t rest u : Text) (x : Assigned × Text) → RowsOn limit c t rest → None ≡ past_byte c rest → read_comma rest ≡ Ok u → None ≡ past_byte c (after_run is_space u) → read_assignment limit (after_run is_space u) ≡ Ok x → length x.1 < length rest → RowsOn limit c t x.1
rows_more limit c t rest u x on open_still is still read shorter =
    let room : length rest < on.read.0 = on.read.1 in
    record {
      shorter = omega (arith, on.shorter);
      read = (on.read.0 - 1, omega arith, by_turn limit c t rest on ∙ rw (← open_still, is, ← still, row_after limit u x read) refl);
    }
