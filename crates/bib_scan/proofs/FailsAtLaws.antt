-- A refused file goes wrong where reading stops, and nowhere else.
use Rattle.bib_scan.proofs.Words.{◌≡◌, ℕ, ◌+◌, ◌-◌, ◌<◌, false, [], ◌∷◌, ◌++◌, length, take, refl, sym, ap, subst, ◌∙◌, arith, append_assoc, append-nil, inl, inr, Result, Ok, Err, cases_Bool, or_from, not_from_false, append_cancel_right, codes, Text, same, Delimiter, close_byte, HasReadingWithin}
use Rattle.bib_scan.proofs.Words.{IsViable, FailsAt, places_of, Halt, stop, read_definition, read_preamble, read_entry, read_all_commands, ◌>>=◌}
use Rattle.bib_scan.proofs.RunLaws.{bind_ok, ok_same, not_ok}
use Rattle.bib_scan.proofs.TreeAgainLaws.{closes, string_body, preamble_body, entry_body}
use Rattle.bib_scan.proofs.ReadingLaws.{reading_again}
use Rattle.bib_scan.proofs.LocalLaws.{LocalAt, Local}
use Rattle.bib_scan.proofs.LocalRows.{plain, ready, fault_of, local_entry, local_definition, local_preamble}
use Rattle.bib_scan.proofs.MendLaws.{Mends, Always}
use Rattle.bib_scan.proofs.MendTrees.{mend_definition, mend_preamble, mend_entry}
use Rattle.bib_scan.proofs.StopLaws.{inside, file_stop}
use Rattle.bib_scan.proofs.PlaceLaws.{front_cut, front_more}

-- what is true of the three readers after an opening delimiter is true of the reader of each command
pub of_inside : (P : (ℕ → Text → Result Text Halt) → Type 0) (type_name : Text) (d : Delimiter) → same type_name (codes "comment") ≡ false
    → P (λ m. read_definition m (close_byte d)) → P (λ m. read_preamble m (close_byte d)) → P (λ m. read_entry m d) → P (λ m. inside m type_name d)
of_inside P type_name d no_comment definition preamble entry =
    elim (cases_Bool (same type_name (codes "string"))) [
      | inl string ↦ by (λ m. read_definition m (close_byte d)) (λ m s. string_body m type_name s _ d string refl) definition
      | inr no_string ↦ elim (cases_Bool (same type_name (codes "preamble"))) [
        | inl preface ↦ by (λ m. read_preamble m (close_byte d)) (λ m s. preamble_body m type_name s _ d preface refl) preamble
        | inr plain_type ↦ by (λ m. read_entry m d) (λ m s. entry_body m type_name s _ d (not_from_false _ (or_from _ _ (or_from _ _ no_comment no_string) plain_type)) refl) entry
      ]
    ]
  where
    by : (p : ℕ → Text → Result Text Halt) → ((m : ℕ) (s : Text) → inside m type_name d s ≡ p m s) → P p → P (λ m. inside m type_name d)
    by p e it = subst P (λ i m s. sym (e m s) i) it

pub local_inside : (limit : ℕ) (type_name : Text) (d : Delimiter) → same type_name (codes "comment") ≡ false → Local (plain (inside limit type_name d))
local_inside limit type_name d no_comment = of_inside (λ p. Local (plain (p limit))) type_name d no_comment (local_definition limit (close_byte d)) (local_preamble limit (close_byte d)) (local_entry limit d)

mend_inside : (limit : ℕ) (some : 0 < limit) (type_name : Text) (d : Delimiter) → same type_name (codes "comment") ≡ false → Mends (plain (inside limit type_name d)) Always Always
mend_inside limit some type_name d no_comment = of_inside (λ p. Mends (plain (p limit)) Always Always) type_name d no_comment (mend_definition limit some (close_byte d) (closes d)) (mend_preamble limit some (close_byte d) (closes d)) (mend_entry limit some d)

-- ---- where reading stops

-- reading stops after `front`, whatever follows the next byte, and `front` can become such a text
pub record StopsAt {A : Type 0} (IsSuch : Text → Type 0) (read : Text → Result A Halt) (t : Text) (h : Halt) : Type 0 where
  pub front : Text
  pub split : t ≡ front ++ h.rest
  pub viable : IsViable IsSuch front
  pub same : (c : ℕ) (v w : Text) → h.rest ≡ c ∷ v → read (front ++ c ∷ w) ≡ Err (stop h.fault (c ∷ w))

module _ {A : Type 0} (IsSuch : Text → Type 0) (read : Text → Result A Halt) (no_fault : (t : Text) (h : Halt) → IsSuch t → read t ≡ Err h → ⊥) (stops : (t : Text) (h : Halt) → read t ≡ Err h → StopsAt IsSuch read t h) where
  -- the text up to and with the byte at the fault is not the front of such a text
  pub stuck_by : (t u : Text) (h : Halt) (c : ℕ) (v : Text) → read t ≡ Err h → t ≡ u ++ h.rest → h.rest ≡ c ∷ v → IsViable IsSuch (u ++ c ∷ []) → ⊥
  stuck_by t u h c v is split rest (more, such) =
      let at = stops t h is in
      let u_is : u ≡ at.front = append_cancel_right u at.front h.rest (sym split ∙ at.split) in
      let shape : (u ++ c ∷ []) ++ more ≡ at.front ++ c ∷ more = append_assoc u (c ∷ []) more ∙ ap (λ (w : Text). w ++ c ∷ more) u_is in
      no_fault (at.front ++ c ∷ more) (stop h.fault (c ∷ more)) (subst IsSuch shape such) (at.same c v more rest)

  -- a text is a front of such a text if its reader stops at its end
  pub viable_by : (t : Text) (h : Halt) → read t ≡ Err h → h.rest ≡ [] → IsViable IsSuch t
  viable_by t h is none =
      let at = stops t h is in
      subst (IsViable IsSuch) (sym (at.split ∙ ap (λ (u : Text). at.front ++ u) none ∙ append-nil at.front)) at.viable

  -- a text fails where its reader stopped
  pub failing_by : (t : Text) (h : Halt) → read t ≡ Err h → FailsAt IsSuch t (length t - length h.rest)
  failing_by t h is =
      let at = stops t h is in
      record {
        fails = λ such. no_fault t h such is;
        within = omega arith;
        viable = subst (IsViable IsSuch) (sym (front_cut t at.front h.rest at.split)) at.viable;
        stuck = λ low. stuck at low h.rest refl;
      }
    where
      stuck : StopsAt IsSuch read t h → length t - length h.rest < length t → (r : Text) → h.rest ≡ r → IsViable IsSuch (take (length t - length r + 1) t) → ⊥
      stuck at low [] e viable = absurd (omega (arith, ap (length {A = ℕ}) e))
      stuck at low (c ∷ v) e viable =
          let split : t ≡ at.front ++ c ∷ v = at.split ∙ ap (λ (u : Text). at.front ++ u) e in
          stuck_by t at.front h c v is at.split e (subst (IsViable IsSuch) (front_more t at.front c v split) viable)

-- ---- files

pub stops_at : (limit : ℕ) (some : 0 < limit) (t : Text) (h : Halt) → read_all_commands limit t ≡ Err h → StopsAt (HasReadingWithin limit) (read_all_commands limit) t h
stops_at limit some t h is =
    let file = file_stop limit t h is in
    let p = inside limit file.type_name file.delimiter in
    let stopped : plain p file.after ≡ Err h = ap (λ (m : Result Text Halt). m >>= ready) file.stopped in
    let at : LocalAt (plain p) file.after (Err h) = subst (LocalAt (plain p) file.after) stopped (local_inside limit file.type_name file.delimiter file.no_comment file.after) in
    let m = mend_inside limit some file.type_name file.delimiter file.no_comment file.after h stopped in
    let w = m.works [] tt in
    let one = bind_ok (p (m.front ++ (m.end ++ []))) ready (w.0, []) w.1 in
    let rest : one.0 ≡ [] = ap (λ (y : Unit {0} × Text). y.1) (ok_same {A = Unit {0} × Text} (tt, one.0) (w.0, []) _ refl one.2) in
    let fronts : m.front ≡ at.front = append_cancel_right m.front at.front h.rest (sym m.split ∙ at.split) in
    let read : p (at.front ++ m.end) ≡ Ok [] = ap (λ (u : Text). p (u ++ m.end)) (sym fronts) ∙ ap (λ (u : Text). p (m.front ++ u)) (sym (append-nil m.end)) ∙ one.1 ∙ ap (λ (u : Text). Ok u) rest in
    let regroup : (r : Text) → (file.before ++ at.front) ++ r ≡ file.before ++ (at.front ++ r) = λ r. append_assoc file.before at.front r in
    record {
      front = file.before ++ at.front;
      split = file.split ∙ ap (λ (u : Text). file.before ++ u) at.split ∙ sym (regroup h.rest);
      viable = (m.end, subst (HasReadingWithin limit) (sym (regroup m.end)) (file.reads limit (omega arith) (at.front ++ m.end) read));
      same = λ c v s e. ap (read_all_commands limit) (regroup (c ∷ s)) ∙ file.stops limit (omega arith) (at.front ++ c ∷ s) (stop h.fault (c ∷ s)) (fault_of _ _ (at.same c v s e));
    }

-- a file is read
pub no_fault : (limit : ℕ) (t : Text) (h : Halt) → HasReadingWithin limit t → read_all_commands limit t ≡ Err h → ⊥
no_fault limit t h (db, reads) is = not_ok (places_of db).items h (read_all_commands limit t) is (reading_again limit t db reads).0

pub stuck_at : (limit : ℕ) (some : 0 < limit) (t u : Text) (h : Halt) (c : ℕ) (v : Text) → read_all_commands limit t ≡ Err h → t ≡ u ++ h.rest → h.rest ≡ c ∷ v → IsViable (HasReadingWithin limit) (u ++ c ∷ []) → ⊥
stuck_at limit some = stuck_by (HasReadingWithin limit) (read_all_commands limit) (no_fault limit) (stops_at limit some)

pub viable_at : (limit : ℕ) (some : 0 < limit) (t : Text) (h : Halt) → read_all_commands limit t ≡ Err h → h.rest ≡ [] → IsViable (HasReadingWithin limit) t
viable_at limit some = viable_by (HasReadingWithin limit) (read_all_commands limit) (no_fault limit) (stops_at limit some)

-- a refused file goes wrong where reading stops
pub failing : (limit : ℕ) (some : 0 < limit) (t : Text) (h : Halt) → read_all_commands limit t ≡ Err h → FailsAt (HasReadingWithin limit) t (length t - length h.rest)
failing limit some = failing_by (HasReadingWithin limit) (read_all_commands limit) (no_fault limit) (stops_at limit some)
