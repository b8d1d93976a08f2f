-- Bytes that can follow where the reading of a command, or of a whole text, stops.
use Rattle.bib_scan.proofs.Words.{◌≡◌, ℕ, zero, suc, ◌+◌, ◌<◌, Bool, true, false, cond, eqb, List, [], ◌∷◌, ◌++◌, length, refl, sym, ap, subst, ◌∙◌, arith, append_assoc, append-nil, inl, inr, ◌⊎◌, Option, None, Some, Result, Ok, Err, append_cancel_right, length-append, All-nil, All-cons, All-push}
use Rattle.bib_scan.proofs.Words.{not_from_false, take_while, flat_map, All, Unended, ExpectedCommaOrClose, Text, is_space, does_not_begin_with, after_run, Row, IsRow, IsSpace, IsLastComma, value_bytes, last_comma_bytes, Delimiter, Brace, Paren, close_byte, goes_on_key, row_bytes, Read, Halt, stop}
use Rattle.bib_scan.proofs.Words.{read_run, past_byte, read_comma, read_close, go_on, read_row, read_rows, read_all_rows, read_entry, read_definition, read_preamble, read_value, ◌>>=◌}
use Rattle.std.proofs.lemmas.List.Concat.{flat_map-append}
use Rattle.bib_scan.proofs.RunLaws.{bind_ok, ok_same, not_ok, run_passes, limited_again}
use Rattle.bib_scan.proofs.ValueLaws.{Stands, skip_space, space_split, value_ok}
use Rattle.bib_scan.proofs.RowLaws.{row_shorter, comma_ok, row_ok, row_inside, row_shape}
use Rattle.bib_scan.proofs.AgainLaws.{Close, row_again, rows_inside, rows_again, value_again}
use Rattle.bib_scan.proofs.TreeAgainLaws.{closes, closing_again, rows_len}
use Rattle.bib_scan.proofs.UniqueLaws.{tail_same, AfterRow, after_value, after_row_stands}
use Rattle.bib_scan.proofs.LocalLaws.{run, local_run, local_limited}
use Rattle.bib_scan.proofs.LocalRows.{plain, ready, fault_of, skip, local_row, value_gap, local_value, definition_is, value_close, preamble_is}
use Rattle.bib_scan.proofs.MendLaws.{MendAt, Mends, Resumes, Default, mend_bind, mend_same, err_is, Always}
use Rattle.bib_scan.proofs.MendRows.{mend_run, resumes_run, mend_limited, resumes_limited, mend_value, default_value, mend_row, one_stands}

-- ---- closing delimiters

close_err : (c : ℕ) (t : Text) (h : Halt) → plain (read_close c) t ≡ Err h → t ≡ h.rest
close_err c [] h is = ap (λ (k : Halt). k.rest) (err_is {A = Unit {0} × Text} (stop Unended []) h _ refl is)
close_err c (b ∷ t) h is = go (eqb b c) is
  where
    go : (x : Bool) → (go_on (Err (stop ExpectedCommaOrClose (b ∷ t))) Ok (cond x (Some t) None) >>= ready) ≡ Err h → b ∷ t ≡ h.rest
    go true e = absurd (not_ok (tt, t) h _ e refl)
    go false e = ap (λ (k : Halt). k.rest) (err_is {A = Unit {0} × Text} (stop ExpectedCommaOrClose (b ∷ t)) h _ refl e)

default_close : (c : ℕ) → Default (plain (read_close c)) (c ∷ []) Always
default_close c r ok = (tt, ap (λ (m : Result Text Halt). m >>= ready) (closing_again c r))

mend_close : (c : ℕ) (G : Text → Type 0) → ((s : Text) → G (c ∷ s)) → Mends (plain (read_close c)) Always G
mend_close c G start t h is = record { front = []; split = close_err c t h is; end = c ∷ []; works = default_close c; starts = λ none r ok. start r }

-- ---- the commands without rows of their own

close_after : (c : ℕ) (r : Text) → Close c → AfterRow (c ∷ r)
close_after c r close = record { first = c; others = r; ends = close.ends; is = refl }

pub resumes_row : (limit : ℕ) → Resumes (plain (read_row limit)) AfterRow
resumes_row limit t a r is u s split after =
    let one = bind_ok (read_row limit t) ready (a, r) is in
    let same = ok_same {A = Unit {0} × Text} (tt, one.0) (a, r) _ refl one.2 in
    let rest : one.0 ≡ r = ap (λ (y : Unit {0} × Text). y.1) same in
    let w = row_ok limit t one.0 one.1 in
    let bytes : (44 ∷ u) ++ r ≡ row_bytes w.0 ++ r = ap (λ (x : Text). 44 ∷ x) (sym split ∙ w.3) ∙ sym (row_shape w.0 one.0) ∙ ap (λ (x : Text). row_bytes w.0 ++ x) rest in
    let u_is : 44 ∷ u ≡ row_bytes w.0 = append_cancel_right (44 ∷ u) (row_bytes w.0) r bytes in
    let inside : u ++ s ≡ row_inside w.0 s = tail_same 44 44 (u ++ s) (row_inside w.0 s) (ap (λ (x : Text). x ++ s) u_is ∙ row_shape w.0 s) in
    let read : read_row limit (row_inside w.0 s) ≡ Ok s = subst (λ (x : Text). read_row limit (row_inside w.0 x) ≡ Ok x) (sym after.is) (row_again limit w.0 after.first after.others w.1 after.ends) in
    ap (plain (read_row limit)) inside ∙ ap (λ (m : Result Text Halt). m >>= ready) read

pub resumes_value : (limit : ℕ) → Resumes (value_gap limit) AfterRow
resumes_value limit t a r is u s split after =
    let one = bind_ok (read_value limit t) (λ v. skip v.1) (a, r) is in
    let rest : after_run is_space one.0.1 ≡ r = ap (λ (y : Unit {0} × Text). y.1) (ok_same {A = Unit {0} × Text} (tt, after_run is_space one.0.1) (a, r) _ refl one.2) in
    let v = value_ok limit t one.0 one.1 in
    let space = take_while is_space one.0.1 in
    let ok : IsSpace space = run_passes is_space one.0.1 in
    let whole : t ≡ (value_bytes v.0 ++ space) ++ r = v.3 ∙ ap (λ (x : Text). x ++ one.0.1) v.2 ∙ ap (λ (x : Text). value_bytes v.0 ++ x) (space_split one.0.1 ∙ ap (λ (x : Text). space ++ x) rest) ∙ sym (append_assoc (value_bytes v.0) space r) in
    let u_is : u ≡ value_bytes v.0 ++ space = append_cancel_right u (value_bytes v.0 ++ space) r (sym split ∙ whole) in
    let stands = after_value space s ok after in
    ap (value_gap limit) (ap (λ (x : Text). x ++ s) u_is ∙ append_assoc (value_bytes v.0) space s)
    ∙ ap (λ (m : Read Text). m >>= λ y. skip y.1) (value_again limit v.0 (space ++ s) v.1 stands.part stands.no_hash)
    ∙ ap (λ (x : Text). Ok (tt, x)) (skip_space space s ok (after_row_stands s after))

pub mend_definition : (limit : ℕ) (some : 0 < limit) (c : ℕ) → Close c → Mends (plain (read_definition limit c)) Always Always
mend_definition limit some c close = mend_same (plain (read_definition limit c)) (λ t. plain (read_row limit) t >>= λ r. plain (read_close c) r.1) Always Always (definition_is limit c)
    (mend_bind (plain (read_row limit)) (λ r u. plain (read_close c) u) AfterRow Always AfterRow Always (c ∷ []) (local_row limit) (resumes_row limit) (mend_row limit some Always (λ s. tt)) (λ r. mend_close c (λ s. AfterRow s × Always s) (λ s. (close_after c s close, tt))) (λ r. default_close c) (λ r ok. close_after c r close))

close_stands : (c : ℕ) (s : Text) → Close c → Stands (c ∷ s)
close_stands c s close = not_from_false _ close.ends.no_space

default_value_close : (limit : ℕ) (c : ℕ) → Close c → Default (value_close limit c) (49 ∷ c ∷ []) Always
default_value_close limit c close r ok =
    let v = default_value limit (c ∷ r) (close_after c r close) in
    let d = default_close c r tt in
    (d.0, ap (λ (m : Read (Unit {0})). m >>= λ v. plain (read_close c) v.1) v.1 ∙ d.1)

pub mend_preamble : (limit : ℕ) (some : 0 < limit) (c : ℕ) → Close c → Mends (plain (read_preamble limit c)) Always Always
mend_preamble limit some c close = mend_same (plain (read_preamble limit c)) (λ t. run is_space t >>= λ a. value_close limit c a.1) Always Always (preamble_is limit c)
    (mend_bind (run is_space) (λ a u. value_close limit c u) Always Always Stands Always (49 ∷ c ∷ []) (local_run is_space) (resumes_run is_space) (mend_run is_space Always Always)
    (λ a. mend_bind (value_gap limit) (λ v u. plain (read_close c) u) AfterRow Always AfterRow (λ s. Stands s × Always s) (c ∷ []) (local_value limit) (resumes_value limit) (mend_value limit some (λ s. Stands s × Always s) (λ s. (one_stands s, tt))) (λ v. mend_close c (λ s. AfterRow s × (Stands s × Always s)) (λ s. (close_after c s close, (close_stands c s close, tt)))) (λ v. default_close c) (λ r ok. close_after c r close))
    (λ a. default_value_close limit c close) (λ r ok. tt))

-- ---- rows

-- the rows that were read, and the turn that stopped
pub record Turn (limit : ℕ) (c : ℕ) (t : Text) (h : Halt) : Type 0 where
  pub rows : List Row
  pub are_rows : All (IsRow limit) rows
  pub left : Text
  pub split : t ≡ flat_map row_bytes rows ++ left
  pub stopped : (read_comma left ≡ Err h) ⊎ ((u : Text) × (left ≡ 44 ∷ u) × (plain (read_row limit) u ≡ Err h))

turn_cons : (limit : ℕ) (c : ℕ) (t u next : Text) (h : Halt) → read_comma t ≡ Ok u → read_row limit u ≡ Ok next → Turn limit c next h → Turn limit c t h
turn_cons limit c t u next h read is later =
    let r = row_ok limit u next is in
    record {
      rows = r.0 ∷ later.rows;
      are_rows = All-cons (IsRow limit) r.0 later.rows r.1 later.are_rows;
      left = later.left;
      split = comma_ok t u read ∙ ap (λ (x : Text). 44 ∷ x) r.3 ∙ sym (row_shape r.0 next) ∙ ap (λ (x : Text). row_bytes r.0 ++ x) later.split ∙ sym (append_assoc (row_bytes r.0) (flat_map row_bytes later.rows) later.left);
      stopped = later.stopped;
    }

turn_here : (limit : ℕ) (c : ℕ) (t : Text) (h : Halt) → ((read_comma t ≡ Err h) ⊎ ((u : Text) × (t ≡ 44 ∷ u) × (plain (read_row limit) u ≡ Err h))) → Turn limit c t h
turn_here limit c t h stopped = record { rows = []; are_rows = All-nil (IsRow limit); left = t; split = refl; stopped = stopped }

turn_of : (limit : ℕ) (n c : ℕ) (t : Text) (h : Halt) (o : Option Text) → ((u : Text) → length u < length t → read_rows limit n c u ≡ Err h → Turn limit c u h) → go_on (read_comma t >>= λ u. go_on (read_row limit u >>= λ v. read_rows limit n c v) Ok (past_byte c (after_run is_space u))) Ok o ≡ Err h → Turn limit c t h
turn_of limit n c t h (Some u) later is = absurd (not_ok u h _ is refl)
turn_of limit n c t h None later is = at_comma (read_comma t) refl is
  where
    at_row : (u : Text) (m : Result Text Halt) → read_comma t ≡ Ok u → read_row limit u ≡ m → (m >>= λ v. read_rows limit n c v) ≡ Err h → Turn limit c t h
    at_row u (Ok v) read is e = (let l1 = row_shorter limit u v is in let l2 = ap (length {A = ℕ}) (comma_ok t u read) in turn_cons limit c t u v h read is (later v (omega arith) e))
    at_row u (Err k) read is e =
        let same : k ≡ h = err_is {A = Text} k h _ refl e in
        turn_here limit c t h (inr (u, comma_ok t u read, ap (λ (m : Result Text Halt). m >>= ready) (is ∙ ap (λ (j : Halt). Err j) same)))

    at_close : (u : Text) (o : Option Text) → read_comma t ≡ Ok u → go_on (read_row limit u >>= λ v. read_rows limit n c v) Ok o ≡ Err h → Turn limit c t h
    at_close u (Some w) read e = absurd (not_ok w h _ e refl)
    at_close u None read e = at_row u (read_row limit u) read refl e

    at_comma : (m : Result Text Halt) → read_comma t ≡ m → (m >>= λ u. go_on (read_row limit u >>= λ v. read_rows limit n c v) Ok (past_byte c (after_run is_space u))) ≡ Err h → Turn limit c t h
    at_comma (Ok u) read e = at_close u (past_byte c (after_run is_space u)) read e
    at_comma (Err k) read e = turn_here limit c t h (inl (read ∙ ap (λ (j : Halt). Err j) (err_is {A = Text} k h _ refl e)))

rows_turn_err : (limit : ℕ) (n c : ℕ) (t : Text) (h : Halt) → length t < n → read_rows limit n c t ≡ Err h → Turn limit c t h
unfolding read_rows
rows_turn_err limit zero c t h room is = absurd (omega arith)
rows_turn_err limit (suc n) c t h room is = turn_of limit n c t h (past_byte c t) (λ u less e. rows_turn_err limit n c u h (omega arith) e) is

comma_err : (t : Text) (h : Halt) → read_comma t ≡ Err h → t ≡ h.rest
comma_err [] h is = ap (λ (k : Halt). k.rest) (err_is {A = Text} (stop Unended []) h _ refl is)
comma_err (b ∷ t) h is = go (eqb b 44) is
  where
    go : (x : Bool) → cond x (Ok t) (Err (stop ExpectedCommaOrClose (b ∷ t))) ≡ Err h → b ∷ t ≡ h.rest
    go true e = absurd (not_ok t h _ e refl)
    go false e = ap (λ (k : Halt). k.rest) (err_is {A = Text} (stop ExpectedCommaOrClose (b ∷ t)) h _ refl e)

pub all_again : (limit : ℕ) (c : ℕ) (rs : List Row) (tail : Option Text) (x u : Text) → Close c → All (IsRow limit) rs → IsLastComma tail → u ≡ rows_inside c rs tail x → plain (read_all_rows limit c) u ≡ Ok (tt, x)
all_again limit c rs tail x u close all space is =
    let room : length rs < length (rows_inside c rs tail x) + 1 = omega (arith, rows_len rs, length-append (flat_map row_bytes rs) (last_comma_bytes tail ++ c ∷ x)) in
    ap (plain (read_all_rows limit c)) is ∙ ap (λ (m : Result Text Halt). m >>= ready) (rows_again limit rs (length (rows_inside c rs tail x) + 1) c tail x all space close room)

-- how a turn can end without a fault: with a comma and the close, or with the mended row and the close
mend_turn : (limit : ℕ) (some : 0 < limit) (c : ℕ) (t : Text) (h : Halt) (G : Text → Type 0) → Close c → ((s : Text) → G (44 ∷ s)) → Turn limit c t h → MendAt (plain (read_all_rows limit c)) Always G t h
mend_turn limit some c t h G close start turn =
    elim turn.stopped [
      | inl at_comma ↦ record {
        front = flat_map row_bytes turn.rows;
        split = turn.split ∙ ap (λ (x : Text). flat_map row_bytes turn.rows ++ x) (comma_err turn.left h at_comma);
        end = 44 ∷ c ∷ [];
        works = λ r ok. (tt, all_again limit c turn.rows (Some []) r _ close turn.are_rows (All-nil (λ (x : ℕ). is_space x ≡ true)) refl);
        starts = λ none r ok. start (c ∷ r);
      }
      | inr at_row ↦
          let m = mend_row limit some Always (λ s. tt) at_row.0 h at_row.2 in
          let front : Text = flat_map row_bytes turn.rows ++ (44 ∷ m.front) in
          record {
            front = front;
            split = turn.split ∙ ap (λ (x : Text). flat_map row_bytes turn.rows ++ x) (at_row.1 ∙ ap (λ (x : Text). 44 ∷ x) m.split) ∙ sym (append_assoc (flat_map row_bytes turn.rows) (44 ∷ m.front) h.rest);
            end = m.end ++ c ∷ [];
            works = λ r ok. (tt, row_mended turn.rows turn.are_rows m.front m.end r (m.works (c ∷ r) (close_after c r close)));
            starts = λ none. absurd (long turn.rows m.front none);
          }
    ]
  where
    long : (rs : List Row) (u : Text) → flat_map row_bytes rs ++ (44 ∷ u) ≡ [] → ⊥
    long rs u none = omega (arith, ap (length {A = ℕ}) none, length-append (flat_map row_bytes rs) (44 ∷ u))

    row_mended : (rs : List Row) → All (IsRow limit) rs → (u e r : Text) → (a : Unit {0}) × (plain (read_row limit) (u ++ (e ++ c ∷ r)) ≡ Ok (a, c ∷ r)) → plain (read_all_rows limit c) ((flat_map row_bytes rs ++ (44 ∷ u)) ++ ((e ++ c ∷ []) ++ r)) ≡ Ok (tt, r)
    row_mended rs all u e r w =
        let one = bind_ok (read_row limit (u ++ (e ++ c ∷ r))) ready (w.0, c ∷ r) w.1 in
        let rest : one.0 ≡ c ∷ r = ap (λ (y : Unit {0} × Text). y.1) (ok_same {A = Unit {0} × Text} (tt, one.0) (w.0, c ∷ r) _ refl one.2) in
        let q = row_ok limit (u ++ (e ++ c ∷ r)) one.0 one.1 in
        let bytes : 44 ∷ (u ++ (e ++ c ∷ r)) ≡ row_bytes q.0 ++ (c ∷ r) = ap (λ (x : Text). 44 ∷ x) q.3 ∙ sym (row_shape q.0 one.0) ∙ ap (λ (x : Text). row_bytes q.0 ++ x) rest in
        let more = flat_map-append row_bytes rs (q.0 ∷ []) in
        let last : flat_map row_bytes (q.0 ∷ []) ≡ row_bytes q.0 = append-nil (row_bytes q.0) in
        let all_more : All (IsRow limit) (rs ++ q.0 ∷ []) = All-push (IsRow limit) rs q.0 all q.1 in
        let shape : (flat_map row_bytes rs ++ (44 ∷ u)) ++ ((e ++ c ∷ []) ++ r) ≡ rows_inside c (rs ++ q.0 ∷ []) None r =
        append_assoc (flat_map row_bytes rs) (44 ∷ u) ((e ++ c ∷ []) ++ r) ∙ ap (λ (x : Text). flat_map row_bytes rs ++ (44 ∷ (u ++ x))) (append_assoc e (c ∷ []) r)
        ∙ ap (λ (x : Text). flat_map row_bytes rs ++ x) bytes ∙ sym (append_assoc (flat_map row_bytes rs) (row_bytes q.0) (c ∷ r))
        ∙ ap (λ (x : Text). (flat_map row_bytes rs ++ x) ++ (c ∷ r)) (sym last) ∙ ap (λ (x : Text). x ++ (c ∷ r)) (sym more) in
        all_again limit c (rs ++ q.0 ∷ []) None r _ close all_more tt shape

mend_all_rows : (limit : ℕ) (some : 0 < limit) (c : ℕ) (G : Text → Type 0) → Close c → ((s : Text) → G (44 ∷ s)) → Mends (plain (read_all_rows limit c)) Always G
mend_all_rows limit some c G close start t h is = mend_turn limit some c t h G close start (rows_turn_err limit (length t + 1) c t h (omega arith) (fault_of (read_all_rows limit c t) h is))

-- ---- entries

comma_stands : (s : Text) → Stands (44 ∷ s)
unfolding is_space
comma_stands s = refl

comma_key : (d : Delimiter) (s : Text) → does_not_begin_with (goes_on_key d) (44 ∷ s) ≡ true
unfolding is_space
comma_key Brace s = refl
comma_key Paren s = refl

abbrev pub space_rows : ℕ → ℕ → Text → Read (Unit {0})
space_rows limit c t = run is_space t >>= λ b. plain (read_all_rows limit c) b.1

default_all_rows : (limit : ℕ) (c : ℕ) → Close c → Default (plain (read_all_rows limit c)) (44 ∷ c ∷ []) Always
default_all_rows limit c close r ok = (tt, all_again limit c [] (Some []) r _ close (All-nil (IsRow limit)) (All-nil (λ (x : ℕ). is_space x ≡ true)) refl)

default_space_rows : (limit : ℕ) (c : ℕ) → Close c → Default (space_rows limit c) (44 ∷ c ∷ []) Always
unfolding is_space
default_space_rows limit c close r ok = default_all_rows limit c close r ok

mend_space_rows : (limit : ℕ) (some : 0 < limit) (c : ℕ) (G : Text → Type 0) → Close c → ((s : Text) → G (44 ∷ s)) → Mends (space_rows limit c) Always G
mend_space_rows limit some c G close start = mend_bind (run is_space) (λ b u. plain (read_all_rows limit c) u) Always Always Stands G (44 ∷ c ∷ []) (local_run is_space) (resumes_run is_space) (mend_run is_space Always G) (λ b. mend_all_rows limit some c (λ s. Stands s × G s) close (λ s. (comma_stands s, start s))) (λ b. default_all_rows limit c close) (λ r ok. tt)

abbrev pub key_rows : ℕ → Delimiter → Text → Read (Unit {0})
key_rows limit d t = read_run limit (goes_on_key d) t >>= λ k. space_rows limit (close_byte d) k.1

default_key_rows : (limit : ℕ) (d : Delimiter) → Default (key_rows limit d) (44 ∷ close_byte d ∷ []) Always
default_key_rows limit d r ok =
    let w = default_space_rows limit (close_byte d) (closes d) r tt in
    (w.0, ap (λ (m : Read Text). m >>= λ k. space_rows limit (close_byte d) k.1) (limited_again limit (goes_on_key d) [] (44 ∷ close_byte d ∷ r) (All-nil (λ (x : ℕ). goes_on_key d x ≡ true)) (omega arith) (comma_key d (close_byte d ∷ r))) ∙ w.1)

mend_key_rows : (limit : ℕ) (some : 0 < limit) (d : Delimiter) (G : Text → Type 0) → ((s : Text) → G (44 ∷ s)) → Mends (key_rows limit d) Always G
mend_key_rows limit some d G start =
    let c = close_byte d in
    mend_bind (read_run limit (goes_on_key d)) (λ k u. space_rows limit c u) (λ s. does_not_begin_with (goes_on_key d) s ≡ true) Always (λ s. does_not_begin_with (goes_on_key d) s ≡ true) G (44 ∷ c ∷ []) (local_limited limit (goes_on_key d)) (resumes_limited limit (goes_on_key d)) (mend_limited limit some (goes_on_key d) G) (λ k. mend_space_rows limit some c (λ s. (does_not_begin_with (goes_on_key d) s ≡ true) × G s) (closes d) (λ s. (comma_key d s, start s))) (λ k. default_space_rows limit c (closes d)) (λ r ok. comma_key d (c ∷ r))

pub entry_bind : (limit : ℕ) (m : Read Text) (c : ℕ) → ((m >>= λ k. read_all_rows limit c (after_run is_space k.1)) >>= ready) ≡ (m >>= λ k. space_rows limit c k.1)
entry_bind limit (Ok x) c = refl
entry_bind limit (Err h) c = refl

pub mend_entry : (limit : ℕ) (some : 0 < limit) (d : Delimiter) → Mends (plain (read_entry limit d)) Always Always
unfolding read_entry
mend_entry limit some d = mend_same (plain (read_entry limit d)) (λ t. run is_space t >>= λ a. key_rows limit d a.1) Always Always (λ t. entry_bind limit (read_run limit (goes_on_key d) (after_run is_space t)) (close_byte d))
    (mend_bind (run is_space) (λ a u. key_rows limit d u) Always Always Stands Always (44 ∷ close_byte d ∷ []) (local_run is_space) (resumes_run is_space) (mend_run is_space Always Always) (λ a. mend_key_rows limit some d (λ s. Stands s × Always s) (λ s. (comma_stands s, tt))) (λ a. default_key_rows limit d) (λ r ok. tt))
