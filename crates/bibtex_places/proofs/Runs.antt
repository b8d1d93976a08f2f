-- The places from which a place inherits, walked one by one.
use Rattle.std.proofs.Common.{◌≡◌, ◌∙◌, ℕ, zero, suc, ◌+◌, ◌<◌, ◌≤◌, nat_lt, Bool, true, false, cond, List, [], ◌∷◌, ◌++◌, Option, Some, None, is_some, length, refl, sym, ap, arith, append_assoc, length-append}
use Rattle.std.specs.Option.{option_map_or}
use Rattle.std.proofs.lemmas.Bool.{both_ways, ltb-true, lt-ltb, le-ltb}
use Rattle.std.proofs.lemmas.List.{append-nil}
use Rattle.bibtex_spec.specs.Listed.{up_from, up}
use Rattle.bibtex_places.specs.Lists.{is_deep}

module _ (parents : ℕ → Option ℕ) where
  -- more steps than places before make no difference
  enough : (m n i : ℕ) → i < m → i < n → up_from parents m i ≡ up_from parents n i
  enough zero n i lt more = absurd (omega (arith, lt))
  enough (suc m) zero i lt more = absurd (omega (arith, more))
  enough (suc m) (suc n) i lt more = at (λ j below above. enough m n j below above) (parents i)
    where
      at : ((j : ℕ) → j < m → j < n → up_from parents m j ≡ up_from parents n j) → (o : Option ℕ) → option_map_or (λ j. j ∷ cond (nat_lt j i) (up_from parents m j) []) o [] ≡ option_map_or (λ j. j ∷ cond (nat_lt j i) (up_from parents n j) []) o []
      at enough_later None = refl
      at enough_later (Some j) = ap (λ l. j ∷ l) (later (nat_lt j i) refl)
        where
          later : (b : Bool) → nat_lt j i ≡ b → cond b (up_from parents m j) [] ≡ cond b (up_from parents n j) []
          later false e = refl
          later true e = let below = ltb-true j i e in enough_later j (omega (arith, below, lt)) (omega (arith, below, more))

  pub up_none : (i : ℕ) → parents i ≡ None → up parents i ≡ []
  up_none i e = ap (λ o. option_map_or (λ j. j ∷ cond (nat_lt j i) (up_from parents i j) []) o []) e

  -- a parent that is not before the place ends the run
  pub up_last : (i j : ℕ) → parents i ≡ Some j → i ≤ j → up parents i ≡ j ∷ []
  up_last i j e le =
      ap (λ o. option_map_or (λ j. j ∷ cond (nat_lt j i) (up_from parents i j) []) o []) e
      ∙ ap (λ (b : Bool). j ∷ cond b (up_from parents i j) []) (le-ltb j i le)

  pub up_more : (i j : ℕ) → parents i ≡ Some j → j < i → up parents i ≡ j ∷ up parents j
  up_more i j e lt =
      ap (λ o. option_map_or (λ j. j ∷ cond (nat_lt j i) (up_from parents i j) []) o []) e
      ∙ ap (λ (b : Bool). j ∷ cond b (up_from parents i j) []) (lt-ltb j i lt)
      ∙ ap (λ l. j ∷ l) (enough i (suc j) j lt (omega arith))

  -- the run so far, and the place from which it goes on
  pub record IsWalk (i : ℕ) (run : List ℕ) (heir k : ℕ) : Type 0 where
    pub whole : run ++ up parents heir ≡ up parents i
    pub count : length run ≡ k
    pub few : k ≤ 64

  pub walk_start : (i : ℕ) (run : List ℕ) → run ≡ [] → IsWalk i run i 0
  walk_start i run e = record { whole = ap (λ l. l ++ up parents i) e; count = ap (length {A = ℕ}) e; few = omega arith }

  pub walk_more : (i : ℕ) (run : List ℕ) (heir k j : ℕ) → IsWalk i run heir k → parents heir ≡ Some j → j < heir → k < 64 → IsWalk i (run ++ j ∷ []) j (k + 1)
  walk_more i run heir k j h e lt more = record {
    whole = append_assoc run (j ∷ []) (up parents j) ∙ ap (λ l. run ++ l) (sym (up_more heir j e lt)) ∙ h.whole;
    count = let long = length-append run (j ∷ []) in let count = h.count in omega (arith, long, count);
    few = omega (arith, more);
  }

  pub walk_last : (i : ℕ) (run : List ℕ) (heir k j : ℕ) → IsWalk i run heir k → parents heir ≡ Some j → heir ≤ j → run ++ j ∷ [] ≡ up parents i
  walk_last i run heir k j h e le = ap (λ l. run ++ l) (sym (up_last heir j e le)) ∙ h.whole

  pub walk_none : (i : ℕ) (run : List ℕ) (heir k : ℕ) → IsWalk i run heir k → parents heir ≡ None → run ≡ up parents i
  walk_none i run heir k h e = sym (append-nil run) ∙ ap (λ l. run ++ l) (sym (up_none heir e)) ∙ h.whole

  -- a run of at most 64 places is none of those that are too long
  pub not_deep : (i : ℕ) (run : List ℕ) → run ≡ up parents i → length run ≤ 64 → is_deep parents i ≡ false
  not_deep i run is le = let same = ap (length {A = ℕ}) is in le-ltb 64 (length (up parents i)) (omega (arith, same, le))

  pub deep : (i : ℕ) (run : List ℕ) (heir k : ℕ) → IsWalk i run heir k → 64 ≤ k → is_some (parents heir) ≡ true → is_deep parents i ≡ true
  deep i run heir k h le e =
      let count = h.count in
      let whole = ap (length {A = ℕ}) h.whole in
      let long = length-append run (up parents heir) in
      let one : 1 ≤ length (up parents heir) = first (parents heir) e in
      lt-ltb 64 (length (up parents i)) (omega (arith, count, whole, long, one, le))
    where
      first : (o : Option ℕ) → is_some o ≡ true → 1 ≤ length (option_map_or (λ j. j ∷ cond (nat_lt j heir) (up_from parents heir j) []) o [])
      first None s = absurd (both_ways false refl s)
      first (Some j) s = omega arith

  pub no_parent : (i : ℕ) → is_some (parents i) ≡ false → parents i ≡ None
  no_parent i e = at (parents i) e
    where
      at : (o : Option ℕ) → is_some o ≡ false → o ≡ None
      at None s = refl
      at (Some j) s = absurd (both_ways true s refl)
