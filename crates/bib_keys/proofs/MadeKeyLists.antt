-- Keys that are made, one after another.
use Rattle.bib_keys.proofs.Words.{◌≡◌, ℕ, zero, suc, ◌+◌, ◌≤◌, List, [], ◌∷◌, ◌++◌, Some, option_map, slice_get, drop, map, length, refl, sym, ◌∙◌, ap, subst, arith, append_assoc, append-nil, zero-add, add-zero, AllByRecursion, drop_of_length-le, same_Some, length-map, name_limit, Text, EntryTexts}
use Rattle.bib_keys.proofs.Words.{record_of, free_key, made_base, AreTaken, TakenKeys}
use Rattle.std.proofs.Common.{Result, Ok, Err, IfOk, OnOk, IsOkAnd}
use Rattle.std.specs.List.{enumerate_from}
use Rattle.std.proofs.lemmas.Option.{slice_get_within}
use Rattle.std.proofs.lemmas.List.FromFn.{length-enumerate_from}
use Rattle.bib_spec.specs.MadeKeys.{made_keys, bases}
use Rattle.bib_keys.proofs.Walks.{next-of}

-- ---- bases

numbered : {X Y : Type 0} (f : ℕ × X → Y) (m : ℕ) (xs : List X) (n : ℕ) → slice_get (map f (enumerate_from m xs)) n ≡ option_map (λ x. f (m + n, x)) (slice_get xs n)
numbered f m [] n = refl
numbered f m (x ∷ xs) zero = ap (λ (k : ℕ). Some (f (k, x))) (sym (add-zero m))
numbered f m (x ∷ xs) (suc n) = numbered f (m + 1) xs n ∙ ap (λ (k : ℕ). option_map (λ x. f (k, x)) (slice_get xs n)) (further m n)
  where
    further : (m n : ℕ) → m + 1 + n ≡ m + suc n
    further m n = omega arith

abbrev pub bases_of : ℕ → List EntryTexts → List Text
bases_of depth entries = bases made_base depth entries

pub length-bases : (depth : ℕ) (entries : List EntryTexts) → length (bases_of depth entries) ≡ length entries
length-bases depth entries = length-map (enumerate_from 0 entries) (λ p. made_base (record_of depth entries p.0 p.1)) ∙ length-enumerate_from 0 entries

-- the base of entry n is that of its record
pub base-at : (depth : ℕ) (entries : List EntryTexts) (n : ℕ) (entry : EntryTexts) → slice_get entries n ≡ Some entry → slice_get (bases_of depth entries) n ≡ Some (made_base (record_of depth entries n entry))
base-at depth entries n entry at =
    numbered (λ p. made_base (record_of depth entries p.0 p.1)) 0 entries n
    ∙ ap (λ o. option_map (λ e. made_base (record_of depth entries (0 + n) e)) o) at
    ∙ ap (λ (k : ℕ). Some (made_base (record_of depth entries k entry))) (zero-add n)

-- ---- the walk over the bases

-- These keys are made. The keys for the bases from number n on are made with what is taken now; before the first key was made,
-- these first keys were taken.
pub record AreMadeTo (first bases : List Text) (n : ℕ) (t : TakenKeys) (keys : List Text) : Type 0 where
  pub taken : List Text
  pub are : AreTaken taken t
  pub made : keys ++ made_keys taken (drop n bases) ≡ made_keys first bases

pub made-none : (first bases : List Text) (t : TakenKeys) (keys : List Text) → AreTaken first t → keys ≡ [] → AreMadeTo first bases 0 t keys
made-none first bases t keys are none = record {
  taken = first;
  are = are;
  made = ap (λ (l : List Text). l ++ made_keys first bases) none;
}

pub made-more : (first bases : List Text) (n : ℕ) (t s : TakenKeys) (keys more : List Text) (base key : Text) → AreMadeTo first bases n t keys → slice_get bases n ≡ Some base →
    ((taken : List Text) → AreTaken taken t → key ≡ free_key taken base) →
    ((taken : List Text) → AreTaken taken t → AreTaken (key ∷ taken) s) →
    more ≡ keys ++ key ∷ [] → AreMadeTo first bases (n + 1) s more
made-more first bases n t s keys more base key to at is_key adds is =
    let next = next-of bases n (slice_get_within bases n base at) in
    let base_is : next.0 ≡ base = same_Some next.0 base (sym next.1 ∙ at) in
    let key_is : free_key to.taken base ≡ key = sym (is_key to.taken to.are) in
    let rest : List Text = drop (n + 1) bases in
    record {
      taken = key ∷ to.taken;
      are = adds to.taken to.are;
      made =
          ap (λ (l : List Text). l ++ made_keys (key ∷ to.taken) rest) is
          ∙ append_assoc keys (key ∷ []) (made_keys (key ∷ to.taken) rest)
          ∙ ap (λ (k : Text). keys ++ k ∷ made_keys (k ∷ to.taken) rest) (sym key_is)
          ∙ sym (ap (λ (b : Text). keys ++ made_keys to.taken (b ∷ rest)) base_is)
          ∙ sym (ap (λ (l : List Text). keys ++ made_keys to.taken l) next.2)
          ∙ to.made;
    }

pub made-all : (first bases : List Text) (n : ℕ) (t : TakenKeys) (keys : List Text) → AreMadeTo first bases n t keys → length bases ≤ n → keys ≡ made_keys first bases
made-all first bases n t keys to le =
    sym (append-nil keys)
    ∙ sym (ap (λ (l : List Text). keys ++ made_keys to.taken l) (drop_of_length-le bases le))
    ∙ to.made

-- one key more, if it was made
pub pushed-more : {E : Type 0} (first bases : List Text) (n : ℕ) (t s : TakenKeys) (keys more : List Text) (base : Text) (made : Result Text E) → AreMadeTo first bases n t keys → slice_get bases n ≡ Some base →
    IfOk made (λ key. (taken : List Text) → AreTaken taken t → key ≡ free_key taken base) →
    IfOk made (λ key. (taken : List Text) → AreTaken taken t → AreTaken (key ∷ taken) s) →
    IsOkAnd made (λ key. more ≡ keys ++ key ∷ []) → AreMadeTo first bases (n + 1) s more
pushed-more first bases n t s keys more base (Ok key) to at is_key adds pushed = made-more first bases n t s keys more base key to at is_key adds pushed
pushed-more first bases n t s keys more base (Err want) to at is_key adds pushed = absurd pushed

-- what holds where a key was made
pub was-made : {E Q : Type 0} (made : Result Text E) (P : Text → Type 0) → IsOkAnd made P → OnOk made Q → Q
was-made (Ok key) P is q = q
was-made (Err want) P is q = absurd is

-- ---- short keys

pub short-more : (keys : List Text) (key : Text) → AllByRecursion (λ k. length k ≤ name_limit) keys → length key ≤ name_limit → AllByRecursion (λ k. length k ≤ name_limit) (keys ++ key ∷ [])
short-more [] key all short = (short, tt)
short-more (k ∷ keys) key all short = (all.0, short-more keys key all.1 short)

pub pushed-short : {E : Type 0} (keys more : List Text) (made : Result Text E) → AllByRecursion (λ k. length k ≤ name_limit) keys → IfOk made (λ key. length key ≤ name_limit) →
    IsOkAnd made (λ key. more ≡ keys ++ key ∷ []) → AllByRecursion (λ k. length k ≤ name_limit) more
pushed-short keys more (Ok key) all short pushed = subst (AllByRecursion (λ k. length k ≤ name_limit)) (sym pushed) (short-more keys key all short)
pushed-short keys more (Err want) all short pushed = absurd pushed
