-- Texts that are one value: a text that is read is one value, a value that is written is read again, and a refused text
-- goes wrong where reading stops, with that fault.
use Rattle.bib_scan.proofs.Words.{◌≡◌, ℕ, ◌-◌, ◌<◌, true, [], ◌∷◌, ◌++◌, length, take, refl, sym, ap, subst, ◌∙◌, arith, append_assoc, append-nil, inl, inr, Result, Ok, Err, append_cancel_right, All-nil, All-push, take_while, flat_map, All, digit_one, letter_x, name_limit, Text, is_space, after_run}
use Rattle.bib_scan.proofs.Words.{Link, Value, part_bytes, link_bytes, value_bytes, IsSpace, IsLink, IsValue, IsValueWithin, IsViable, FailsAt, IsFaultAt, ReadingFault, Unended, ExpectedCommaOrClose, Read, Halt, stop, expected, read_value_rest, read_value, nothing_after, read_whole_value, ◌>>=◌}
use Rattle.std.proofs.lemmas.List.Concat.{flat_map-append}
use Rattle.bib_spec.specs.Tree.{Digits}
use Rattle.bib_scan.proofs.RunLaws.{bind_ok, ok_same, not_ok, run_passes}
use Rattle.bib_scan.proofs.ValueLaws.{space_split, value_ok}
use Rattle.bib_scan.proofs.AgainLaws.{EndsRow, comma_ends, value_again}
use Rattle.bib_scan.proofs.UniqueLaws.{AfterRow}
use Rattle.bib_scan.proofs.LocalLaws.{rest_of, LocalAt}
use Rattle.bib_scan.proofs.LocalRows.{skip, value_gap, local_value}
use Rattle.bib_scan.proofs.MendLaws.{err_is, Always}
use Rattle.bib_scan.proofs.MendRows.{mend_value, one_part}
use Rattle.bib_scan.proofs.FailsAtLaws.{StopsAt, stuck_by, viable_by, failing_by}
use Rattle.bib_scan.proofs.TellLaws.{DigitToo, Past, Stopped, TakesDigit, TellsAt}
use Rattle.bib_scan.proofs.TellRows.{tell_value, digits_value, keeps_value, close_ends}
use Rattle.bib_scan.proofs.WidenTrees.{widen_value}
use Rattle.bib_scan.proofs.KindLaws.{GoesWrong, fault_at}

-- ---- a whole value, and a value with the white space after it

abbrev valued : Text → Text → Read Text
valued t rest = Ok (take (length t - length rest) t, rest)

abbrev gap_of : Text → Result Text Halt → Read (Unit {0})
gap_of t m = m >>= valued t >>= λ v. skip v.1

gap_err : (limit : ℕ) (t : Text) (h : Halt) → value_gap limit t ≡ Err h → read_whole_value limit t ≡ Err h
gap_err limit t h is = go (read_value_rest limit t) is
  where
    go : (m : Result Text Halt) → gap_of t m ≡ Err h → (m >>= nothing_after) ≡ Err h
    go (Ok rest) e = absurd (not_ok (tt, after_run is_space rest) h _ e refl)
    go (Err k) e = ap (λ (j : Halt). Err j) (err_is {A = Unit {0} × Text} k h (Err k) refl e)

-- after one value and white space the text ends, or reading stops at `s`
pub data EndsBefore (s : Text) (m : Result Text Halt) : Type 0 where
  ended : s ≡ [] → m ≡ Ok [] → EndsBefore s m
  at_close : m ≡ Err (expected ExpectedCommaOrClose s) → EndsBefore s m

gap_ok : (limit : ℕ) (t s : Text) → value_gap limit t ≡ Ok (tt, s) → EndsBefore s (read_whole_value limit t)
gap_ok limit t s is = go (read_value_rest limit t) is
  where
    last : (rest : Text) → after_run is_space rest ≡ s → EndsBefore s (nothing_after rest)
    last [] e = ended (sym e) refl
    last (b ∷ rest) e = at_close (ap (λ (u : Text). Err (expected ExpectedCommaOrClose u)) e)

    go : (m : Result Text Halt) → gap_of t m ≡ Ok (tt, s) → EndsBefore s (m >>= nothing_after)
    go (Ok rest) e = last rest (ap (λ (y : Unit {0} × Text). y.1) (ok_same {A = Unit {0} × Text} (tt, after_run is_space rest) (tt, s) _ refl e))
    go (Err k) e = absurd (not_ok (tt, s) k _ refl e)

-- a text that is refused: its value stopped, or something follows it
pub data Refused (limit : ℕ) (t : Text) (h : Halt) : Type 0 where
  stopped : value_gap limit t ≡ Err h → Refused limit t h
  followed : (s : Text) → value_gap limit t ≡ Ok (tt, s) → expected ExpectedCommaOrClose s ≡ h → Refused limit t h

refused_by : (limit : ℕ) (t : Text) (h : Halt) → read_whole_value limit t ≡ Err h → Refused limit t h
refused_by limit t h is = go (read_value_rest limit t) refl is
  where
    gap : (m : Result Text Halt) → read_value_rest limit t ≡ m → value_gap limit t ≡ gap_of t m
    gap m e = ap (gap_of t) e

    last : (rest : Text) → read_value_rest limit t ≡ Ok rest → nothing_after rest ≡ Err h → Refused limit t h
    last [] e wrong = absurd (not_ok [] h _ wrong refl)
    last (b ∷ rest) e wrong = followed (after_run is_space (b ∷ rest)) (gap (Ok (b ∷ rest)) e) (err_is {A = Text} _ h _ refl wrong)

    go : (m : Result Text Halt) → read_value_rest limit t ≡ m → (m >>= nothing_after) ≡ Err h → Refused limit t h
    go (Ok rest) e wrong = last rest e wrong
    go (Err k) e wrong = stopped (gap (Err k) e ∙ ap (λ (j : Halt). Err j) (err_is {A = Text} k h (Err k) refl wrong))

-- ---- sound and complete

none_beyond : (rest x : Text) → nothing_after rest ≡ Ok x → rest ≡ []
none_beyond [] x is = refl
none_beyond (b ∷ rest) x is = absurd (not_ok x _ _ refl is)

-- a text that is read as one value is one value
pub whole_value : (limit : ℕ) (t x : Text) → read_whole_value limit t ≡ Ok x → IsValueWithin limit t
whole_value limit t x is =
    let one = bind_ok (read_value_rest limit t) nothing_after x is in
    let rest : one.0 ≡ [] = none_beyond one.0 x one.2 in
    let v = value_ok limit t (take (length t - length one.0) t, one.0) (ap (λ (m : Result Text Halt). m >>= valued t) one.1) in
    (v.0, v.1, sym (v.3 ∙ ap (λ (u : Text). u ++ one.0) v.2 ∙ ap (λ (u : Text). value_bytes v.0 ++ u) rest ∙ append-nil (value_bytes v.0)))

-- the bytes of a value are read as one value
pub whole_value_again : (limit : ℕ) (t : Text) → IsValueWithin limit t → read_whole_value limit t ≡ Ok []
whole_value_again limit t (v, is, bytes) =
    let read = value_again limit v [] is (record { name = refl; digit = refl }) refl in
    let one = bind_ok (read_value_rest limit (value_bytes v ++ [])) _ (value_bytes v, []) read in
    let rest : one.0 ≡ [] = ap (λ (y : Text × Text). y.1) (ok_same {A = Text × Text} (take (length (value_bytes v ++ []) - length one.0) (value_bytes v ++ []), one.0) (value_bytes v, []) _ refl one.2) in
    ap (read_whole_value limit) (sym bytes ∙ sym (append-nil (value_bytes v))) ∙ ap (λ (m : Result Text Halt). m >>= nothing_after) (one.1 ∙ ap (λ (u : Text). Ok u) rest)

no_value_fault : (limit : ℕ) (t : Text) (h : Halt) → IsValueWithin limit t → read_whole_value limit t ≡ Err h → ⊥
no_value_fault limit t h value is = not_ok [] h _ is (whole_value_again limit t value)

-- ---- what can follow

-- a value and white space continue with `#1`
linked : (limit : ℕ) (v : Value) (s : Text) → IsValue limit v → IsSpace s → IsValueWithin limit ((value_bytes v ++ s) ++ (35 ∷ 49 ∷ []))
linked limit v s is space =
    let l : Link = record { space_before_hash = s; space_after_hash = []; part = Digits (49 ∷ []) } in
    let good : IsLink limit l = record { space_before_hash = space; space_after_hash = All-nil (λ (x : ℕ). is_space x ≡ true); part = one_part limit } in
    let w : Value = record { first = v.first; links = v.links ++ l ∷ [] } in
    let links : All (IsLink limit) (v.links ++ l ∷ []) = All-push (IsLink limit) v.links l is.links good in
    let last : flat_map link_bytes (l ∷ []) ≡ s ++ (35 ∷ 49 ∷ []) = append-nil (link_bytes l) ∙ append_assoc s (35 ∷ []) (49 ∷ []) in
    let more : flat_map link_bytes (v.links ++ l ∷ []) ≡ flat_map link_bytes v.links ++ (s ++ (35 ∷ 49 ∷ [])) = flat_map-append link_bytes v.links (l ∷ []) ∙ ap (λ (u : Text). flat_map link_bytes v.links ++ u) last in
    let whole : value_bytes w ≡ (value_bytes v ++ s) ++ (35 ∷ 49 ∷ []) =
    ap (λ (u : Text). part_bytes v.first ++ u) more ∙ sym (append_assoc (part_bytes v.first) (flat_map link_bytes v.links) (s ++ (35 ∷ 49 ∷ []))) ∙ sym (append_assoc (value_bytes v) s (35 ∷ 49 ∷ [])) in
    (w, record { first = is.first; links = links }, whole)

-- the value and the white space before `r`
pub record ValueBefore (limit : ℕ) (t r : Text) : Type 0 where
  pub value : Value
  pub is_value : IsValue limit value
  pub space : Text
  pub is_space : IsSpace space
  pub split : t ≡ (value_bytes value ++ space) ++ r

value_before : (limit : ℕ) (t r : Text) (a : Unit {0}) → value_gap limit t ≡ Ok (a, r) → ValueBefore limit t r
value_before limit t r a is =
    let one = bind_ok (read_value limit t) (λ v. skip v.1) (a, r) is in
    let rest : after_run is_space one.0.1 ≡ r = ap (λ (y : Unit {0} × Text). y.1) (ok_same {A = Unit {0} × Text} (tt, after_run is_space one.0.1) (a, r) _ refl one.2) in
    let v = value_ok limit t one.0 one.1 in
    let space = take_while is_space one.0.1 in
    record {
      value = v.0;
      is_value = v.1;
      space = space;
      is_space = run_passes is_space one.0.1;
      split = v.3 ∙ ap (λ (x : Text). x ++ one.0.1) v.2 ∙ ap (λ (x : Text). value_bytes v.0 ++ x) (space_split one.0.1 ∙ ap (λ (x : Text). space ++ x) rest) ∙ sym (append_assoc (value_bytes v.0) space r);
    }

front_linked : (limit : ℕ) (u r t : Text) (a : Unit {0}) → t ≡ u ++ r → value_gap limit t ≡ Ok (a, r) → IsViable (IsValueWithin limit) u
front_linked limit u r t a split is =
    let b = value_before limit t r a is in
    let u_is : u ≡ value_bytes b.value ++ b.space = append_cancel_right u (value_bytes b.value ++ b.space) r (sym split ∙ b.split) in
    (35 ∷ 49 ∷ [], subst (λ (w : Text). IsValueWithin limit (w ++ (35 ∷ 49 ∷ []))) (sym u_is) (linked limit b.value b.space b.is_value b.is_space))

-- ---- where reading stops

expected_rest : (s : Text) → s ≡ (expected ExpectedCommaOrClose s).rest
expected_rest [] = refl
expected_rest (b ∷ s) = refl

value_stops : (limit : ℕ) (some : 0 < limit) (t : Text) (h : Halt) → Refused limit t h → StopsAt (IsValueWithin limit) (read_whole_value limit) t h
value_stops limit some t h (stopped is) =
    let at : LocalAt (value_gap limit) t (Err h) = subst (LocalAt (value_gap limit) t) is (local_value limit t) in
    let m = mend_value limit some Always (λ s. tt) t h is in
    let after : AfterRow (44 ∷ []) = record { first = 44; others = []; ends = comma_ends; is = refl } in
    let w = m.works (44 ∷ []) after in
    let fronts : m.front ≡ at.front = append_cancel_right m.front at.front h.rest (sym m.split ∙ at.split) in
    let viable = front_linked limit (m.front ++ m.end) (44 ∷ []) (m.front ++ (m.end ++ 44 ∷ [])) w.0 (sym (append_assoc m.front m.end (44 ∷ []))) w.1 in
    record {
      front = at.front;
      split = at.split;
      viable = (m.end ++ viable.0, subst (IsValueWithin limit) (append_assoc m.front m.end viable.0 ∙ ap (λ (u : Text). u ++ (m.end ++ viable.0)) fronts) viable.1);
      same = λ c v r e. gap_err limit (at.front ++ c ∷ r) (stop h.fault (c ∷ r)) (at.same c v r e);
    }
value_stops limit some t h (followed s is e) =
    let at : LocalAt (value_gap limit) t (Ok (tt, s)) = subst (LocalAt (value_gap limit) t) is (local_value limit t) in
    let rest : s ≡ h.rest = expected_rest s ∙ ap (λ (k : Halt). k.rest) e in
    record {
      front = at.front;
      split = at.split ∙ ap (λ (u : Text). at.front ++ u) rest;
      viable = front_linked limit at.front s t tt at.split is;
      same = λ c v r f. last (at.front ++ c ∷ r) c v r (rest ∙ f) (gap_ok limit (at.front ++ c ∷ r) (c ∷ r) (at.same c v r (rest ∙ f)));
    }
  where
    last : (u : Text) (c : ℕ) (v r : Text) → s ≡ c ∷ v → EndsBefore (c ∷ r) (read_whole_value limit u) → read_whole_value limit u ≡ Err (stop h.fault (c ∷ r))
    last u c v r shape (ended none done) = cc
    last u c v r shape (at_close read) = read ∙ ap (λ (f : ReadingFault). Err (stop f (c ∷ r))) (ap (λ (w : Text). (expected ExpectedCommaOrClose w).fault) (sym shape) ∙ ap (λ (k : Halt). k.fault) e)

module _ (limit : ℕ) (some : 0 < limit) where
  pub stops_by : (t : Text) (h : Halt) → read_whole_value limit t ≡ Err h → StopsAt (IsValueWithin limit) (read_whole_value limit) t h
  stops_by t h is = value_stops limit some t h (refused_by limit t h is)

  stuck_value : (t u : Text) (h : Halt) (c : ℕ) (v : Text) → read_whole_value limit t ≡ Err h → t ≡ u ++ h.rest → h.rest ≡ c ∷ v → IsViable (IsValueWithin limit) (u ++ c ∷ []) → ⊥
  stuck_value = stuck_by (IsValueWithin limit) (read_whole_value limit) (no_value_fault limit) stops_by

  viable_value : (t : Text) (h : Halt) → read_whole_value limit t ≡ Err h → h.rest ≡ [] → IsViable (IsValueWithin limit) t
  viable_value = viable_by (IsValueWithin limit) (read_whole_value limit) (no_value_fault limit) stops_by

  -- a text that is refused as a value goes wrong where reading stops
  pub failing_value : (t : Text) (h : Halt) → read_whole_value limit t ≡ Err h → FailsAt (IsValueWithin limit) t (length t - length h.rest)
  failing_value = failing_by (IsValueWithin limit) (read_whole_value limit) (no_value_fault limit) stops_by

  -- ---- what other bytes show

  past_value : (u : Text) (d : ℕ) → Past (value_gap limit) u d → IsViable (IsValueWithin limit) (u ++ d ∷ [])
  past_value u d past = go (value_gap limit t) refl past
    where
      t : Text
      t = u ++ d ∷ []

      whole : EndsBefore [] (read_whole_value limit t) → IsViable (IsValueWithin limit) t
      whole (ended none done) = ([], subst (IsValueWithin limit) (sym (append-nil t)) (whole_value limit t [] done))
      whole (at_close read) = viable_value t (stop Unended []) read refl

      go : (m : Read (Unit {0})) → value_gap limit t ≡ m → rest_of m ≡ [] → IsViable (IsValueWithin limit) t
      go (Ok x) is none = whole (gap_ok limit t [] (is ∙ ap (λ (r : Text). Ok (tt, r)) none))
      go (Err k) is none = viable_value t k (gap_err limit t k is) none

  stopped_value : (u : Text) (d : ℕ) → Stopped (value_gap limit) u d → IsViable (IsValueWithin limit) (u ++ d ∷ []) → ⊥
  stopped_value u d s viable = stuck_value (u ++ d ∷ []) u (stop s.0 (d ∷ [])) d [] (gap_err limit (u ++ d ∷ []) (stop s.0 (d ∷ [])) s.1) refl refl viable

  left_value : (t u : Text) (c : ℕ) (v : Text) → t ≡ u ++ c ∷ v → value_gap limit t ≡ Ok (tt, c ∷ v) → IsViable (IsValueWithin limit) (u ++ c ∷ []) → ⊥
  left_value t u c v split is viable = go (gap_ok limit t (c ∷ v) is)
    where
      go : EndsBefore (c ∷ v) (read_whole_value limit t) → ⊥
      go (ended none done) = cc
      go (at_close read) = stuck_value t u (stop ExpectedCommaOrClose (c ∷ v)) c v read split refl viable

-- ---- what is wrong

value_wrong : (t : Text) (h : Halt) → Refused name_limit t h → GoesWrong IsValueWithin t h.fault h.rest
value_wrong t h (stopped is) =
    let some : 0 < 255 = omega arith in
    let some_more : 0 < 256 = omega arith in
    let m : TellsAt (value_gap name_limit) (λ d. Unit {0}) t h = tell_value name_limit (λ d. Unit {0}) (λ d ok. tt) t h is in
    let w = widen_value name_limit in
    record {
      front = m.front;
      split = m.split;
      end = m.end;
      passed = λ d ok. past_value 255 some m.front d (m.passed d ok);
      blocked = λ d ok. stopped_value 255 some m.front d (m.blocked d ok);
      digit = λ asks. digit m.front (m.digit asks);
      long = λ c v rest is_long. past_value 256 some_more m.front c (w.long t m.front h c v is is_long m.split rest);
      short = λ c v rest is_short. stuck_value 256 some_more t m.front h c v (gap_err 256 t h (w.same t h is is_short)) m.split rest;
    }
  where
    digit : (u : Text) → DigitToo (value_gap name_limit) u → IsViable (IsValueWithin name_limit) (u ++ letter_x ∷ []) → IsViable (IsValueWithin name_limit) (u ++ digit_one ∷ [])
    digit u (inl s) viable = absurd (stopped_value 255 (omega arith) u 120 s viable)
    digit u (inr e) viable = past_value 255 (omega arith) u 49 e
value_wrong t h (followed [] is e) = subst (λ (k : Halt). GoesWrong IsValueWithin t k.fault k.rest) e (record {
  front = t;
  split = sym (append-nil t);
  end = refl;
  passed = λ d ok. absurd ok;
  blocked = λ d ok. absurd ok;
  digit = λ asks. absurd asks;
  long = λ c v rest is_long. absurd is_long;
  short = λ c v rest. cc;
})
value_wrong t h (followed (c ∷ v) is e) =
    let at : LocalAt (value_gap name_limit) t (Ok (tt, c ∷ v)) = subst (LocalAt (value_gap name_limit) t) is (local_value name_limit t) in
    let some : 0 < 255 = omega arith in
    let keeps : (d : ℕ) → EndsRow d → IsViable (IsValueWithin name_limit) (at.front ++ d ∷ []) → ⊥ = λ d ends. left_value 255 some (at.front ++ d ∷ []) at.front d [] refl (keeps_value name_limit t tt (c ∷ v) at.front is at.split d ends) in
    subst (λ (k : Halt). GoesWrong IsValueWithin t k.fault k.rest) e (record {
      front = at.front;
      split = at.split;
      end = λ none. cc;
      passed = λ d ok. absurd ok;
      blocked = λ d ok. keeps d (close_ends d (inr ok));
      digit = λ asks. digit at.front (digits_value name_limit t tt (c ∷ v) at.front is at.split);
      long = λ b w rest is_long. absurd is_long;
      short = λ b w rest is_short.
          let first : c ≡ b = cc in
          subst (λ (n : ℕ). IsViable (IsValueWithin 256) (at.front ++ n ∷ []) → ⊥) first (left_value 256 (omega arith) t at.front c v at.split ((widen_value name_limit).ok t (tt, c ∷ v) is));
    })
  where
    digit : (u : Text) → TakesDigit (value_gap name_limit) tt u → IsViable (IsValueWithin name_limit) (u ++ letter_x ∷ []) → IsViable (IsValueWithin name_limit) (u ++ digit_one ∷ [])
    digit u (inl l) viable = absurd (left_value 255 (omega arith) (u ++ letter_x ∷ []) u letter_x [] refl l.0 viable)
    digit u (inr (inl s)) viable = absurd (stopped_value 255 (omega arith) u 120 s viable)
    digit u (inr (inr e)) viable = past_value 255 (omega arith) u 49 e

-- The fault at which the reading of one value stops is what is wrong at its place.
pub value_fault : (t : Text) (h : Halt) → read_whole_value name_limit t ≡ Err h → IsFaultAt IsValueWithin t (length t - length h.rest) h.fault
value_fault t h is = fault_at IsValueWithin t h.fault h.rest (value_wrong t h (refused_by name_limit t h is))
