-- Keys that are taken, one after another.
use Rattle.bib_keys.proofs.Words.{◌≡◌, ℕ, suc, ◌+◌, ◌≤◌, ◌<◌, true, false, List, [], ◌∷◌, ◌++◌, Option, Some, None, is_some, length, drop, reverse, map, ⊎_elim, refl, sym, ◌∙◌, ap, ap₂, subst, arith, length-append, add-zero, cons_option, Bor, option_copied, drop_of_length-le, cases_Bool, cond-true}
use Rattle.bib_keys.proofs.Words.{cond-false, same_Some, length-map, name_limit, Text, folded, letters, candidate, is_taken, value_at, IsWith, AreTaken, AreTried, TakenKeys}
use Rattle.std.proofs.Common.{Bool, ◌||◌}
use Rattle.std.specs.Char.{to_ascii_lowercase}
use Rattle.std.proofs.Math.Bool.{or_comm, or-false, or-true}
use Rattle.std.proofs.lemmas.List.{map-append}
use Rattle.std.proofs.lemmas.List.Folds.{list_any-append}
use Rattle.bib_spec.specs.Text.{same}
use Rattle.bib_spec.proofs.Names.{same-true, true-same, same_of}
use Rattle.bib_keys.proofs.LookUps.{copied-some}
use Rattle.bib_keys.proofs.FirstFree.{tried-more}

-- ---- case

-- whether a text is taken depends on its folded text alone
taken_of : (keys : List Text) (a b : Text) → folded a ≡ folded b → is_taken keys a ≡ is_taken keys b
taken_of [] a b e = refl
taken_of (key ∷ keys) a b e = ap₂ ◌||◌ (same_of a key b key e refl) (taken_of keys a b e)

folded-candidate : (a b : Text) (n : ℕ) → folded a ≡ folded b → folded (candidate a n) ≡ folded (candidate b n)
folded-candidate a b n e =
    map-append to_ascii_lowercase a (reverse (letters n)) ∙ ap (λ (t : Text). t ++ map to_ascii_lowercase (reverse (letters n))) e ∙ sym (map-append to_ascii_lowercase b (reverse (letters n)))

tried_of : (keys : List Text) (a b : Text) (n : ℕ) → folded a ≡ folded b → AreTried keys a n → AreTried keys b n
tried_of keys a b n e tried k lt = sym (taken_of keys (candidate a k) (candidate b k) (folded-candidate a b k e)) ∙ tried k lt

-- ---- one key more

tried_more : (keys : List Text) (key base : Text) (n : ℕ) → AreTried keys base n → AreTried (key ∷ keys) base n
tried_more keys key base n tried k lt = ap (λ b. same (candidate base k) key || b) (tried k lt) ∙ or-true (same (candidate base k) key)

module _ (keys : List Text) (key : Text) (t s : TakenKeys) (are : AreTaken keys t) (tried : s.tried ≡ t.tried) (count : s.count ≡ t.count) where
  abbrev counted : TakenKeys
  counted = record s { count = s.count + 1 }

  tried_still : (base : Text) (n : ℕ) → value_at s.tried (folded base) ≡ Some n → AreTried (key ∷ keys) base n
  tried_still base n e = tried_more keys key base n (are.tried base n (sym (ap (λ (l : List (Text × ℕ)). value_at l (folded base)) tried) ∙ e))

  long : s.count + 1 ≡ suc (length keys)
  long = let c = are.count in omega (arith, c, count)

  pub added-short : IsWith t.taken key true s.taken → AreTaken (key ∷ keys) counted
  added-short with = record { taken = taken; tried = tried_still; count = long }
    where
      taken : (name : Text) → length name ≤ name_limit → is_some (value_at s.taken (folded name)) ≡ (same name key || is_taken keys name)
      taken name short = ap is_some (with (folded name)) ∙ ⊎_elim
          (λ e. ap is_some (cond-true (same name key) (Some true) (value_at t.taken (folded name)) e) ∙ sym (ap (λ b. b || is_taken keys name) e))
          (λ e. ap is_some (cond-false (same name key) (Some true) (value_at t.taken (folded name)) e) ∙ are.taken name short ∙ sym (ap (λ b. b || is_taken keys name) e))
          (cases_Bool (same name key))

  pub added-long : s.taken ≡ t.taken → name_limit < length key → AreTaken (key ∷ keys) counted
  added-long kept over = record { taken = taken; tried = tried_still; count = long }
    where
      other : (name : Text) → length name ≤ name_limit → same name key ≡ true → ⊥
      other name short e =
          let lengths : length name ≡ length key = sym (length-map name to_ascii_lowercase) ∙ ap length (same-true name key e) ∙ length-map key to_ascii_lowercase in
          omega (arith, lengths, short, over)

      taken : (name : Text) → length name ≤ name_limit → is_some (value_at s.taken (folded name)) ≡ (same name key || is_taken keys name)
      taken name short = ap (λ (l : List (Text × Bool)). is_some (value_at l (folded name))) kept ∙ are.taken name short ∙ ⊎_elim
          (λ e. absurd (other name short e))
          (λ e. sym (ap (λ b. b || is_taken keys name) e))
          (cases_Bool (same name key))

-- ---- a base that was tried

pub with-tried : (keys : List Text) (base : Text) (n : ℕ) (t s : TakenKeys) → AreTaken keys t → AreTried keys base n → s.taken ≡ t.taken → IsWith t.tried base n s.tried → s.count ≡ t.count → AreTaken keys s
with-tried keys base n t s are tried kept with count = record {
  taken = λ name short. ap (λ (l : List (Text × Bool)). is_some (value_at l (folded name))) kept ∙ are.taken name short;
  tried = λ other m e. ⊎_elim
      (λ same_base.
      let it : n ≡ m = same_Some n m (sym (cond-true (same other base) (Some n) (value_at t.tried (folded other)) same_base) ∙ sym (with (folded other)) ∙ e) in
      subst (AreTried keys other) it (tried_of keys base other n (sym (same-true other base same_base)) tried))
      (λ another. are.tried other m (sym (cond-false (same other base) (Some n) (value_at t.tried (folded other)) another) ∙ sym (with (folded other)) ∙ e))
      (cases_Bool (same other base));
  count = count ∙ are.count;
}

-- with the candidate that comes after those that are tried, one more is
pub tried-free : (keys : List Text) (key base : Text) (n : ℕ) → AreTried keys base n → key ≡ candidate base n → AreTried (key ∷ keys) base (n + 1)
tried-free keys key base n tried is =
    tried-more (key ∷ keys) base n (tried_more keys key base n tried)
    (ap (λ b. b || is_taken keys (candidate base n)) (true-same (candidate base n) key (ap folded (sym is))))

-- ---- many keys

-- another list of keys, of the same length, in which the same texts are taken
same-taken : (keys others : List Text) (t : TakenKeys) → AreTaken keys t → ((name : Text) → is_taken keys name ≡ is_taken others name) → length keys ≡ length others → AreTaken others t
same-taken keys others t are among long = record {
  taken = λ name short. are.taken name short ∙ among name;
  tried = λ base n e k lt. sym (among (candidate base k)) ∙ are.tried base n e k lt;
  count = are.count ∙ long;
}

-- all of these keys are taken, except those in `rest`
pub record AreTakenBut (rest keys : List Text) (t : TakenKeys) : Type 0 where
  pub done : List Text
  pub are : AreTaken done t
  pub among : (name : Text) → (is_taken done name || is_taken rest name) ≡ is_taken keys name
  pub long : length done + length rest ≡ length keys

pub but-all : (keys more : List Text) (t : TakenKeys) → AreTaken keys t → AreTakenBut more (more ++ keys) t
but-all keys more t are = record {
  done = keys;
  are = are;
  among = λ name. or_comm (is_taken keys name) (is_taken more name) ∙ sym (list_any-append (same name) more keys);
  long = let l = length-append more keys in omega (arith, l);
}

pub but-one_less : (key : Text) (rest keys : List Text) (t s : TakenKeys) → AreTakenBut (key ∷ rest) keys t → ((others : List Text) → AreTaken others t → AreTaken (key ∷ others) s) → AreTakenBut rest keys s
but-one_less key rest keys t s but add = record {
  done = key ∷ but.done;
  are = add but.done but.are;
  among = λ name. regroup (same name key) (is_taken but.done name) (is_taken rest name) ∙ but.among name;
  long = let l = but.long in omega (arith, l);
}
  where
    regroup : (a b c : Bool) → ((a || b) || c) ≡ (b || (a || c))
    regroup true true c = refl
    regroup true false c = refl
    regroup false b c = refl

pub but-option_less : (o : Option Text) (rest keys : List Text) (t s : TakenKeys) → AreTakenBut (cons_option o rest) keys t → ((others : List Text) → AreTaken others t → AreTaken (cons_option o others) s) → AreTakenBut rest keys s
but-option_less None rest keys t s but add = record { done = but.done; are = add but.done but.are; among = but.among; long = but.long }
but-option_less (Some key) rest keys t s but add = but-one_less key rest keys t s but add

pub but-none : (keys : List Text) (t : TakenKeys) → AreTakenBut [] keys t → AreTaken keys t
but-none keys t but = same-taken but.done keys t but.are
    (λ name. sym (or-false (is_taken but.done name)) ∙ but.among name)
    (sym (add-zero (length but.done)) ∙ but.long)

pub but-past : (keys all : List Text) (i : ℕ) (t : TakenKeys) → length keys ≤ i → AreTakenBut (drop i keys) all t → AreTaken all t
but-past keys all i t le but = but-none all t (subst (λ (rest : List Text). AreTakenBut rest all t) (drop_of_length-le keys le) but)

-- ---- what a look-up tells

module _ (keys : List Text) (t : TakenKeys) (are : AreTaken keys t) (name : Text) (short : length name ≤ name_limit) (found : Option (Bor Bool)) (is : option_copied found ≡ value_at t.taken (folded name)) where
  pub told-free : is_some found ≡ false → is_taken keys name ≡ false
  told-free none = sym (are.taken name short) ∙ ap is_some (sym is) ∙ copied-some found ∙ none

  pub told-taken : is_some found ≡ true → is_taken keys name ≡ true
  told-taken some = sym (are.taken name short) ∙ ap is_some (sym is) ∙ copied-some found ∙ some
