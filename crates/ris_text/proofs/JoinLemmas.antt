-- Values that continue over several lines.
use Rattle.ris_text.proofs.Words.{◌≡◌, ◌<◌, true, false, [], ◌∷◌, ◌++◌, length, refl, sym, ap, ◌∙◌, arith, append-nil, append_assoc, inl, inr, ◌⊎◌, Ok, Err, if◌then◌else◌, space, Text, is_empty, Line, is_untagged, joined, continues, continuation, after_continuation}
use Rattle.std.proofs.Common.{List}
use Rattle.std.specs.Prelude.{not, filter, Result, is_ok, IfOk}
use Rattle.std.specs.List.{join_with_byte}

-- what a call gives that succeeds
pub if_ok : {U F : Type 0} (r : Result U F) (new ok err given : Text) → new ≡ (if is_ok r then ok else err) → ok ≡ given → IfOk r (λ u. new ≡ given)
if_ok (Ok u) new ok err given is same = is ∙ same
if_ok (Err f) new ok err given is same = tt

-- nothing continues the value
pub joined-none : (value : Text) → joined value [] ≡ value
unfolding joined
joined-none [] = refl
joined-none (b ∷ value) = refl

-- the value or the text is empty
pub joined_beside : (value text : Text) → (length value ≡ 0) ⊎ (length text ≡ 0) → value ++ text ≡ joined value (text ∷ [])
unfolding joined
joined_beside [] [] none = refl
joined_beside [] (c ∷ text) none = refl
joined_beside (b ∷ value) [] none = append-nil (b ∷ value)
joined_beside (b ∷ value) (c ∷ text) (inl none) = absurd (omega (arith, none))
joined_beside (b ∷ value) (c ∷ text) (inr none) = absurd (omega (arith, none))

-- neither is
pub joined_apart : (value text : Text) → 0 < length value → 0 < length text → (value ++ space ∷ []) ++ text ≡ joined value (text ∷ [])
unfolding joined
joined_apart [] text some more = absurd (omega (arith, some))
joined_apart (b ∷ value) [] some more = absurd (omega (arith, more))
joined_apart (b ∷ value) (c ∷ text) some more = append_assoc (b ∷ value) (space ∷ []) (c ∷ text)

joined_first : (a b : Text) (texts : List Text) → a ++ (space ∷ join_with_byte space (b ∷ texts)) ≡ join_with_byte space ((a ++ (space ∷ b)) ∷ texts)
joined_first a b [] = refl
joined_first a b (t ∷ texts) = sym (append_assoc a (space ∷ b) (space ∷ join_with_byte space (t ∷ texts)))

-- one text, and then the others
pub joined-more : (value text : Text) (texts : List Text) → joined value (text ∷ texts) ≡ joined (joined value (text ∷ [])) texts
unfolding joined
joined-more [] [] texts = refl
joined-more [] (c ∷ text) texts = refl
joined-more (b ∷ value) [] texts = refl
joined-more (b ∷ value) (c ∷ text) texts = joined_first (b ∷ value) (c ∷ text) (filter (λ t. not (is_empty t)) texts)

-- ---- lines that continue a value

-- the value so far with what continues it, and the lines after, are those of all the lines
pub record IsJoined (value whole : Text) (all rest : List Line) : Type 0 where
  pub joined : joined whole (continuation rest) ≡ joined value (continuation all)
  pub after : after_continuation rest ≡ after_continuation all

-- one line more
pub IsJoined-more : (value whole whole' : Text) (all rest after : List Line) (line : Line) → IsJoined value whole all rest → rest ≡ line ∷ after
    → is_untagged line.class ≡ true → whole' ≡ joined whole (line.text ∷ []) → IsJoined value whole' all after
IsJoined-more value whole whole' all rest after line so_far first untagged longer =
    let texts : continuation rest ≡ line.text ∷ continuation after = ap continuation first ∙ rw untagged refl in
    let lines : after_continuation rest ≡ after_continuation after = ap after_continuation first ∙ rw untagged refl in
    record {
      joined =
          ap (λ (v : Text). joined v (continuation after)) longer ∙ sym (joined-more whole line.text (continuation after))
          ∙ ap (joined whole) (sym texts) ∙ so_far.joined;
      after = sym lines ∙ so_far.after;
    }

-- no line more, since none is left
IsJoined-none : (value whole : Text) (all rest : List Line) → IsJoined value whole all rest → rest ≡ []
    → (whole ≡ joined value (continuation all)) × (rest ≡ after_continuation all)
IsJoined-none value whole all rest so_far none =
    (sym (joined-none whole) ∙ ap (λ (ls : List Line). joined whole (continuation ls)) (sym none) ∙ so_far.joined, none ∙ ap after_continuation (sym none) ∙ so_far.after)

-- no line more, since the next has a tag
IsJoined-all : (value whole : Text) (all rest after : List Line) (line : Line) → IsJoined value whole all rest → rest ≡ line ∷ after
    → is_untagged line.class ≡ false → (whole ≡ joined value (continuation all)) × (rest ≡ after_continuation all)
IsJoined-all value whole all rest after line so_far first tagged =
    let texts : continuation rest ≡ [] = ap continuation first ∙ rw tagged refl in
    let lines : after_continuation rest ≡ rest = ap after_continuation first ∙ rw tagged (sym first) in
    (sym (joined-none whole) ∙ ap (joined whole) (sym texts) ∙ so_far.joined, sym lines ∙ so_far.after)

-- no line more, since none is left or the next has a tag
pub IsJoined-stops : (value whole : Text) (all rest : List Line) → IsJoined value whole all rest → continues rest ≡ false
    → (whole ≡ joined value (continuation all)) × (rest ≡ after_continuation all)
IsJoined-stops value whole all [] so_far stops = IsJoined-none value whole all [] so_far refl
IsJoined-stops value whole all (line ∷ after) so_far stops = IsJoined-all value whole all (line ∷ after) after line so_far refl stops
