-- Where the last line begins.
use Rattle.std.proofs.Common.{◌≡◌, ◌∙◌, ℕ, zero, suc, ◌+◌, ◌-◌, ◌<◌, ◌≤◌, Bool, true, false, not, ◌&&◌, [], ◌∷◌, ◌++◌, drop, length, Option, Some, None, ⊎_elim, refl, sym, ap, ap₂, subst, arith, append_assoc, length-append}
use Rattle.std.proofs.lemmas.Bool.{cases_Bool, cases_lt, and_parts, both_ways, le-leb, lt-leb}
use Rattle.std.proofs.lemmas.List.{drop-drop, drop_all}
use Rattle.bib_spec.specs.Text.{Text}
use Rattle.bib_spec.specs.Texts.{is_empty}
use Rattle.bib_spec.specs.Tree.{tree_bytes}
use Rattle.bib_spec.specs.Reading.{Item, item_bytes}
use Rattle.bibtex_spec.specs.Plain.{is_in_last_line}
use Rattle.bibtex_plain.specs.Walking.{IsLastFrom, BeginsAt, IsLineOf}
use Rattle.bibtex_plain.proofs.SignSteps.{drop_front, drop_past}

in_last-drop : (k : ℕ) (t : Text) → is_in_last_line t ≡ true → is_in_last_line (drop k t) ≡ true
in_last-drop zero t is = is
in_last-drop (suc k) [] is = refl
in_last-drop (suc k) (b ∷ t) is = in_last-drop k t (and_parts _ _ is).1

-- all of the text
pub last_all : (t : Text) → is_in_last_line t ≡ true → IsLastFrom 0 0 t
last_all t is k within = in_last-drop k t is ∙ sym (le-leb 0 (0 + k) (omega arith))

-- from a line end on
pub last_begins : (t : Text) (place : ℕ) → BeginsAt t place → IsLastFrom place 0 t
last_begins t place begins k within = ⊎_elim
    (λ (early : k < place).
    ⊎_elim
    (λ yes. absurd (both_ways (is_in_last_line (drop begins.before t)) begins.no_earlier
    (ap is_in_last_line (sym (drop-drop (begins.before - k) k t ∙ ap (λ (n : ℕ). drop n t) (let next = begins.next in let it : k + (begins.before - k) ≡ begins.before = omega (arith, early, next) in it))) ∙ in_last-drop (begins.before - k) (drop k t) yes)))
    (λ no. no ∙ sym (lt-leb place (0 + k) (omega (arith, early))))
    (cases_Bool (is_in_last_line (drop k t))))
    (λ (late : place ≤ k).
    ap is_in_last_line (sym (drop-drop (k - place) place t ∙ ap (λ (n : ℕ). drop n t) (let it : place + (k - place) ≡ k = omega (arith, late) in it)))
    ∙ in_last-drop (k - place) (drop place t) begins.here
    ∙ sym (le-leb place (0 + k) (omega (arith, late))))
    (cases_lt k place)

-- the same in a longer text
pub begins_later : (front t : Text) (k : ℕ) → BeginsAt t k → BeginsAt (front ++ t) (length front + k)
begins_later front t k begins = record {
  before = length front + begins.before;
  next = let next = begins.next in omega (arith, next);
  within = let both = length-append front t in let within = begins.within in omega (arith, both, within);
  here = ap is_in_last_line (drop_past front t k) ∙ begins.here;
  no_earlier = ap is_in_last_line (drop_past front t begins.before) ∙ begins.no_earlier;
}

-- ---- one chunk

-- no line ends from byte k of the chunk on, except with the last byte of the file
pub record ChunkWalk (chunk : Text) (is_end : Bool) (k : ℕ) : Type 0 where
  pub within : k ≤ length chunk
  pub line : (more : Text) → is_end ≡ is_empty more → is_in_last_line more ≡ true → is_in_last_line (drop k chunk ++ more) ≡ true

pub chunk_begun : (chunk : Text) (is_end : Bool) → ChunkWalk chunk is_end (length chunk)
chunk_begun chunk is_end = record {
  within = omega arith;
  line = λ more ends is. ap (λ (t : Text). is_in_last_line (t ++ more)) (drop_all (length chunk) chunk (omega arith)) ∙ is;
}

-- what is known of byte k - 1
abbrev pub EndsLine : Text → Bool → ℕ → Bool → Type 0
EndsLine chunk is_end k ends = (more : Text) → is_end ≡ is_empty more → is_in_last_line (drop ((k - 1) + 1) chunk ++ more) ≡ true → not ends ≡ is_in_last_line (drop (k - 1) chunk ++ more)

same_byte : (chunk more : Text) (k : ℕ) → 0 < k → is_in_last_line (drop k chunk ++ more) ≡ true → is_in_last_line (drop ((k - 1) + 1) chunk ++ more) ≡ true
same_byte chunk more k some is = ap (λ (n : ℕ). is_in_last_line (drop n chunk ++ more)) (let it : (k - 1) + 1 ≡ k = omega (arith, some) in it) ∙ is

pub chunk_more : (chunk : Text) (is_end : Bool) (k : ℕ) (ends : Bool) → ChunkWalk chunk is_end k → 0 < k → EndsLine chunk is_end k ends → ends ≡ false → ChunkWalk chunk is_end (k - 1)
chunk_more chunk is_end k ends walk some known none = record {
  within = let within = walk.within in omega (arith, within);
  line = λ more over is. sym (known more over (same_byte chunk more k some (walk.line more over is))) ∙ ap not none;
}

pub chunk_stop : (chunk : Text) (is_end : Bool) (k : ℕ) (ends : Bool) → ChunkWalk chunk is_end k → 0 < k → EndsLine chunk is_end k ends → ends ≡ true
    → (more : Text) → is_end ≡ is_empty more → is_in_last_line more ≡ true → IsLineOf (chunk ++ more) (Some k)
chunk_stop chunk is_end k ends walk some known one more over is =
    let within = walk.within in
    let both = length-append chunk more in
    record {
      before = k - 1;
      next = omega (arith, some);
      within = omega (arith, within, both);
      here = ap is_in_last_line (drop_front k chunk more within) ∙ walk.line more over is;
      no_earlier = ap is_in_last_line (drop_front (k - 1) chunk more (omega (arith, within))) ∙ sym (known more over (same_byte chunk more k some (walk.line more over is))) ∙ ap not one;
    }

-- ---- an item

-- a chunk that the last line does not begin in
pub in_both : (body trail more : Text) → is_in_last_line (body ++ (trail ++ more)) ≡ true → IsLineOf ((body ++ trail) ++ more) None
in_both body trail more is = ap is_in_last_line (append_assoc body trail more) ∙ is

pub in_body : (body trail more : Text) (k : ℕ) → BeginsAt (body ++ (trail ++ more)) k → BeginsAt ((body ++ trail) ++ more) k
in_body body trail more k is = subst (λ (t : Text). BeginsAt t k) (sym (append_assoc body trail more)) is

pub in_trail : (body trail more : Text) (k : ℕ) → BeginsAt (trail ++ more) k → BeginsAt ((body ++ trail) ++ more) (length body + k)
in_trail body trail more k is = in_body body trail more (length body + k) (begins_later body (trail ++ more) k is)

pub empty_both : (trail more : Text) (is_end : Bool) → is_end ≡ is_empty more → (is_end && is_empty trail) ≡ is_empty (trail ++ more)
empty_both [] more is_end is = and-true is_end ∙ is
  where
    and-true : (b : Bool) → (b && true) ≡ b
    and-true true = refl
    and-true false = refl
empty_both (b ∷ trail) more is_end is = and-false is_end
  where
    and-false : (b : Bool) → (b && false) ≡ false
    and-false true = refl
    and-false false = refl

-- the last line begins in the trail of an item
pub item_in_trail : (i : Item) (body trail more : Text) (k : ℕ) → body ≡ tree_bytes i.tree → trail ≡ i.trail → BeginsAt (trail ++ more) k → BeginsAt (item_bytes i ++ more) (length body + k)
item_in_trail i body trail more k is_body is_trail begins =
    subst (λ (b : Text). BeginsAt ((b ++ i.trail) ++ more) (length body + k)) is_body
    (subst (λ (t : Text). BeginsAt ((body ++ t) ++ more) (length body + k)) is_trail (in_trail body trail more k begins))

-- where it begins in the body and after it
pub item_in_body : (i : Item) (body trail more : Text) (line : Option ℕ) → body ≡ tree_bytes i.tree → trail ≡ i.trail → IsLineOf (body ++ (trail ++ more)) line → IsLineOf (item_bytes i ++ more) line
item_in_body i body trail more line is_body is_trail is =
    subst (λ (t : Text). IsLineOf t line) (sym (append_assoc body trail more) ∙ ap₂ (λ (b t : Text). (b ++ t) ++ more) is_body is_trail) is
