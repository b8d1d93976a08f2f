-- The fault at which reading stops is what is wrong there.
use Rattle.bib_scan.proofs.Words.{◌≡◌, ℕ, suc, ◌+◌, ◌-◌, ◌<◌, ◌≤◌, false, [], ◌∷◌, ◌++◌, length, refl, sym, ap, subst, ◌∙◌, arith, append_assoc, append-nil, inl, inr, Result, Ok, Err, length-append, codes, digit_one, letter_x, name_limit, Text, same, Delimiter, close_byte, HasReadingWithin}
use Rattle.bib_scan.proofs.Words.{IsViable, TextKind, MayStand, IsOneTooLong, IsFaultAt, IsReadFault, ReadingFault, Unended, ExpectedName, ExpectedEquals, ExpectedCommaOrClose, ExpectedValue, UnbalancedBrace, KeyTooLong, Halt, stop, read_all_commands, ◌>>=◌}
use Rattle.bib_spec.specs.Bytes.{file_limit}
use Rattle.bib_spec.specs.Fault.{fault_number}
use Rattle.bib_spec.specs.Fault as fault
use Rattle.bib_scan.proofs.LocalLaws.{rest_of}
use Rattle.bib_scan.proofs.LocalRows.{plain, ready, fault_of}
use Rattle.bib_scan.proofs.PlaceLaws.{front_cut, front_more}
use Rattle.bib_scan.proofs.StopLaws.{inside, FileStop, file_stop}
use Rattle.bib_scan.proofs.FailsAtLaws.{of_inside, stuck_at, viable_at, failing}
use Rattle.bib_scan.proofs.TellLaws.{Passes, Blocks, AsksDigit, IsEnd, DigitToo, Past, Stopped, TellsAt, Tells}
use Rattle.bib_scan.proofs.TellTrees.{close_untried, tell_definition, tell_preamble, tell_entry}
use Rattle.bib_scan.proofs.WidenLaws.{IsLong, IsShort, Widens}
use Rattle.bib_scan.proofs.WidenTrees.{widen_definition, widen_preamble, widen_entry}

-- Texts of this kind go wrong after `front` with this fault, if `r` follows.
pub record GoesWrong (IsSuch : TextKind) (t : Text) (f : ReadingFault) (r : Text) : Type 0 where
  pub front : Text
  pub split : t ≡ front ++ r
  pub end : IsEnd f r
  pub passed : (d : ℕ) → Passes f d → IsViable (IsSuch name_limit) (front ++ d ∷ [])
  pub blocked : (d : ℕ) → Blocks f d → IsViable (IsSuch name_limit) (front ++ d ∷ []) → ⊥
  pub digit : AsksDigit f → IsViable (IsSuch name_limit) (front ++ letter_x ∷ []) → IsViable (IsSuch name_limit) (front ++ digit_one ∷ [])
  pub long : (c : ℕ) (v : Text) → r ≡ c ∷ v → IsLong f → IsViable (IsSuch (name_limit + 1)) (front ++ c ∷ [])
  pub short : (c : ℕ) (v : Text) → r ≡ c ∷ v → IsShort f → IsViable (IsSuch (name_limit + 1)) (front ++ c ∷ []) → ⊥

module _ (IsSuch : TextKind) (t : Text) where
  abbrev at : Text → ℕ
  at r = length t - length r

  module _ (f : ReadingFault) (c : ℕ) (v : Text) (s : GoesWrong IsSuch t f (c ∷ v)) where
    low : at (c ∷ v) < length t
    low = omega (arith, ap (length {A = ℕ}) s.split, length-append s.front (c ∷ v))

    may : (d : ℕ) → IsViable (IsSuch name_limit) (s.front ++ d ∷ []) → MayStand IsSuch t (at (c ∷ v)) d
    may d viable = subst (λ (u : Text). IsViable (IsSuch name_limit) (u ++ d ∷ [])) (sym (front_cut t s.front (c ∷ v) s.split)) viable

    stands : (d : ℕ) → MayStand IsSuch t (at (c ∷ v)) d → IsViable (IsSuch name_limit) (s.front ++ d ∷ [])
    stands d viable = subst (λ (u : Text). IsViable (IsSuch name_limit) (u ++ d ∷ [])) (front_cut t s.front (c ∷ v) s.split) viable

    passes : (d : ℕ) → Passes f d → MayStand IsSuch t (at (c ∷ v)) d
    passes d ok = may d (s.passed d ok)

    blocks : (d : ℕ) → Blocks f d → MayStand IsSuch t (at (c ∷ v)) d → ⊥
    blocks d ok viable = s.blocked d ok (stands d viable)

    one_too_long : IsLong f → IsOneTooLong IsSuch t (at (c ∷ v))
    one_too_long is = subst (IsViable (IsSuch (name_limit + 1))) (sym (front_more t s.front c v s.split)) (s.long c v refl is)

    not_too_long : IsShort f → IsOneTooLong IsSuch t (at (c ∷ v)) → ⊥
    not_too_long is viable = s.short c v refl is (subst (IsViable (IsSuch (name_limit + 1))) (front_more t s.front c v s.split) viable)

  short : ⊥ → ⊥
  short x = x

  pub fault_at : (f : ReadingFault) (r : Text) → GoesWrong IsSuch t f r → IsFaultAt IsSuch t (at r) f
  fault_at Unended r s = fault.unended (omega (arith, ap (length {A = ℕ}) s.end))
  fault_at ExpectedName [] s = absurd (s.end refl)
  fault_at ExpectedName (c ∷ v) s = fault.name (low ExpectedName c v s) (not_too_long ExpectedName c v s short) (blocks ExpectedName c v s 34 (inr (inr refl))) (blocks ExpectedName c v s 61 (inr (inl refl))) (passes ExpectedName c v s 120 refl) (blocks ExpectedName c v s 49 (inl refl))
  fault_at ExpectedEquals [] s = absurd (s.end refl)
  fault_at ExpectedEquals (c ∷ v) s = fault.equals (low ExpectedEquals c v s) (not_too_long ExpectedEquals c v s short) (blocks ExpectedEquals c v s 34 refl) (passes ExpectedEquals c v s 61 refl)
  fault_at ExpectedCommaOrClose [] s = absurd (s.end refl)
  fault_at ExpectedCommaOrClose (c ∷ v) s = fault.comma_or_close (low ExpectedCommaOrClose c v s) (not_too_long ExpectedCommaOrClose c v s short) (blocks ExpectedCommaOrClose c v s 34 (inr refl)) (blocks ExpectedCommaOrClose c v s 61 (inl refl)) (λ viable. may ExpectedCommaOrClose c v s 49 (s.digit tt (stands ExpectedCommaOrClose c v s 120 viable)))
  fault_at ExpectedValue [] s = absurd (s.end refl)
  fault_at ExpectedValue (c ∷ v) s = fault.value (low ExpectedValue c v s) (not_too_long ExpectedValue c v s short) (passes ExpectedValue c v s 34 refl) (blocks ExpectedValue c v s 44 refl)
  fault_at UnbalancedBrace [] s = absurd (s.end refl)
  fault_at UnbalancedBrace (c ∷ v) s = fault.brace (low UnbalancedBrace c v s) (not_too_long UnbalancedBrace c v s short) (passes UnbalancedBrace c v s 34 (inl refl)) (passes UnbalancedBrace c v s 44 (inr refl))
  fault_at KeyTooLong [] s = absurd (s.end refl)
  fault_at KeyTooLong (c ∷ v) s = fault.too_long (low KeyTooLong c v s) (one_too_long KeyTooLong c v s tt)

-- ---- files

tell_inside : (limit : ℕ) (some : 0 < limit) (type_name : Text) (d : Delimiter) → same type_name (codes "comment") ≡ false → Tells (plain (inside limit type_name d)) (λ d. Unit {0})
tell_inside limit some type_name d no_comment = of_inside (λ p. Tells (plain (p limit)) (λ d. Unit {0})) type_name d no_comment (tell_definition limit some (close_byte d) (close_untried d)) (tell_preamble limit (close_byte d) (close_untried d)) (tell_entry limit some d)

widen_inside : (limit : ℕ) (type_name : Text) (d : Delimiter) → same type_name (codes "comment") ≡ false → Widens (plain (inside limit type_name d)) (plain (inside (suc limit) type_name d))
widen_inside limit type_name d no_comment = of_inside (λ p. Widens (plain (p limit)) (plain (p (suc limit)))) type_name d no_comment (widen_definition limit (close_byte d)) (widen_preamble limit (close_byte d)) (widen_entry limit d)

module _ (limit : ℕ) (t : Text) (h : Halt) (file : FileStop limit t h) where
  abbrev reader : ℕ → Text → Result Text Halt
  reader m = inside m file.type_name file.delimiter

  -- if the reader leaves nothing of the next text, the whole is a front of a file
  past_viable : (m : ℕ) → limit ≤ m → 0 < m → (s : Text) → rest_of (plain (reader m) s) ≡ [] → IsViable (HasReadingWithin m) (file.before ++ s)
  past_viable m longer some s past = go (reader m s) refl past
    where
      go : (x : Result Text Halt) → reader m s ≡ x → rest_of (x >>= ready) ≡ [] → IsViable (HasReadingWithin m) (file.before ++ s)
      go (Ok r) is none = ([], subst (HasReadingWithin m) (sym (append-nil (file.before ++ s))) (file.reads m longer s (is ∙ ap (λ (u : Text). Ok u) none)))
      go (Err k) is none = viable_at m some (file.before ++ s) k (file.stops m longer s k is) none

  -- if the reader stops at `d`, the whole with `d` is no front of a file
  stopped_stuck : (m : ℕ) → limit ≤ m → 0 < m → (u : Text) (d : ℕ) → Stopped (plain (reader m)) u d → IsViable (HasReadingWithin m) ((file.before ++ u) ++ d ∷ []) → ⊥
  stopped_stuck m longer some u d s viable =
      let whole : (file.before ++ u) ++ d ∷ [] ≡ file.before ++ (u ++ d ∷ []) = append_assoc file.before u (d ∷ []) in
      let is : read_all_commands m (file.before ++ (u ++ d ∷ [])) ≡ Err (stop s.0 (d ∷ [])) = file.stops m longer (u ++ d ∷ []) (stop s.0 (d ∷ [])) (fault_of _ _ s.1) in
      stuck_at m some (file.before ++ (u ++ d ∷ [])) (file.before ++ u) (stop s.0 (d ∷ [])) d [] is (sym whole) refl viable

  past_at : (m : ℕ) → limit ≤ m → 0 < m → (u : Text) (d : ℕ) → Past (plain (reader m)) u d → IsViable (HasReadingWithin m) ((file.before ++ u) ++ d ∷ [])
  past_at m longer some u d past = subst (IsViable (HasReadingWithin m)) (sym (append_assoc file.before u (d ∷ []))) (past_viable m longer some (u ++ d ∷ []) past)

pub file_wrong : (t : Text) (h : Halt) → read_all_commands name_limit t ≡ Err h → GoesWrong HasReadingWithin t h.fault h.rest
file_wrong t h is =
    let file = file_stop name_limit t h is in
    let p = inside name_limit file.type_name file.delimiter in
    let some : 0 < 255 = omega arith in
    let same_limit : 255 ≤ 255 = omega arith in
    let longer : 255 ≤ 256 = omega arith in
    let some_more : 0 < 256 = omega arith in
    let stopped : plain p file.after ≡ Err h = ap (λ (m : Result Text Halt). m >>= ready) file.stopped in
    let m : TellsAt (plain p) (λ d. Unit {0}) file.after h = tell_inside name_limit some file.type_name file.delimiter file.no_comment file.after h stopped in
    let w = widen_inside name_limit file.type_name file.delimiter file.no_comment in
    let split : t ≡ (file.before ++ m.front) ++ h.rest = file.split ∙ ap (λ (u : Text). file.before ++ u) m.split ∙ sym (append_assoc file.before m.front h.rest) in
    record {
      front = file.before ++ m.front;
      split = split;
      end = m.end;
      passed = λ d ok. past_at name_limit t h file 255 same_limit some m.front d (m.passed d ok);
      blocked = λ d ok. stopped_stuck name_limit t h file 255 same_limit some m.front d (m.blocked d ok);
      digit = λ asks. digit file m.front (m.digit asks);
      long = λ c v rest is_long. past_at name_limit t h file 256 longer some_more m.front c (w.long file.after m.front h c v stopped is_long m.split rest);
      short = λ c v rest is_short.
          let read : read_all_commands 256 t ≡ Err h = ap (read_all_commands 256) file.split ∙ file.stops 256 longer file.after h (fault_of _ _ (w.same file.after h stopped is_short)) in
          stuck_at 256 some_more t (file.before ++ m.front) h c v read split rest;
    }
  where
    digit : (file : FileStop name_limit t h) (u : Text) → DigitToo (plain (inside name_limit file.type_name file.delimiter)) u → IsViable (HasReadingWithin name_limit) ((file.before ++ u) ++ letter_x ∷ []) → IsViable (HasReadingWithin name_limit) ((file.before ++ u) ++ digit_one ∷ [])
    digit file u (inl s) viable = absurd (stopped_stuck name_limit t h file 255 (omega arith) (omega arith) u 120 s viable)
    digit file u (inr e) viable = past_at name_limit t h file 255 (omega arith) (omega arith) u 49 e

-- The fault at which the reading of a file stops is what is wrong at its place.
pub file_fault : (t : Text) (h : Halt) → read_all_commands name_limit t ≡ Err h → IsFaultAt HasReadingWithin t (length t - length h.rest) h.fault
file_fault t h is = fault_at HasReadingWithin t h.fault h.rest (file_wrong t h is)

-- why a file is not read
pub read_fault : (t : Text) (h : Halt) → length t ≤ file_limit → read_all_commands name_limit t ≡ Err h → IsReadFault t (fault_number h.fault) (length t - length h.rest)
read_fault t h fits is = fault.no_reading h.fault (length t - length h.rest) fits (failing name_limit (omega arith) t h is) (file_fault t h is)
