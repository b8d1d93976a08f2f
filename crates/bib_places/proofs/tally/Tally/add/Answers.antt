use Rattle.std.proofs.Common.{◌≡◌, ℕ, ◌+◌, Bool, true, false, cond, refl, sym, ap, ◌∙◌, arith, Option, Some, unwrap_or}
use Rattle.std.specs.Str.{bytes_eq}
use Rattle.std.proofs.lemmas.Slice.Eq.{bytes_eq-Decides}
use Rattle.bib_spec.specs.Text.{Text}
use Rattle.std.proofs.lemmas.Map.Text.{hash_map_updates_str}
use Rattle.std.specs.HashMap.{get_by}
use Rattle.bib_places.proofs.tally.Tally.add.Goals as goal

bytes_eq-sym : (a b : Text) → bytes_eq a b ≡ bytes_eq b a
bytes_eq-sym a b = go (bytes_eq a b) (bytes_eq b a) refl refl
  where
    go : (x y : Bool) → bytes_eq a b ≡ x → bytes_eq b a ≡ y → x ≡ y
    go true true e f = refl
    go false false e f = refl
    go true false e f = let h = (bytes_eq-Decides b a).1 (sym ((bytes_eq-Decides a b).0 e)) in absurd (cc)
    go false true e f = let h = (bytes_eq-Decides a b).1 (sym ((bytes_eq-Decides b a).0 f)) in absurd (cc)

-- one more at the text, and the same elsewhere
one_more : (found : Text → Option ℕ) (text other : Text) → unwrap_or (cond (bytes_eq text other) (Some (unwrap_or (found text) 0 + 1)) (found other)) 0 ≡ unwrap_or (found other) 0 + cond (bytes_eq other text) 1 0
one_more found text other = go (bytes_eq text other) refl ∙ ap (λ b. unwrap_or (found other) 0 + cond b 1 0) (bytes_eq-sym text other)
  where
    go : (b : Bool) → bytes_eq text other ≡ b → unwrap_or (cond b (Some (unwrap_or (found text) 0 + 1)) (found other)) 0 ≡ unwrap_or (found other) 0 + cond b 1 0
    go true e = ap (λ t. unwrap_or (found t) 0 + 1) ((bytes_eq-Decides text other).0 e)
    go false e = omega arith

pub returns : goal.returns
returns c = λ other.
    let counts = c.args.self.now.counts in
    let text = c.args.text.now in
    let found = λ (t : Text). get_by (λ k. bytes_eq t k.now) counts in
    ap (λ o. unwrap_or o 0) (hash_map_updates_str text counts c.insert.new.self _ c.in_ok-insert.ensures.updates other)
    ∙ ap (λ n. unwrap_or (cond (bytes_eq text other) (Some (n + 1)) (found other)) 0) c.count-before.ensures
    ∙ one_more found text other
