-- A list whose items are replaced by turning it.
use Rattle.bib_steps.proofs.Words.{◌≡◌, ℕ, ◌+◌, ◌-◌, ◌≤◌, List, ◌++◌, length, take, drop, refl, sym, ◌∙◌, ap, ap₂, arith, append_assoc, length-append, length-drop, take-append-drop, take_at, drop_at, drop-drop, length-take-le}

-- the list with its items from one position on turned, so that the first of them come last
abbrev pub turned : {X : Type 0} → ℕ → ℕ → List X → List X
turned from count xs = take from xs ++ (drop count (drop from xs) ++ take count (drop from xs))

turned_at : {X : Type 0} (front first rest : List X) (from count : ℕ) → length front ≡ from → length first ≡ count → turned from count (front ++ (first ++ rest)) ≡ front ++ (rest ++ first)
turned_at front first rest from count h k =
    ap₂ (λ xs ys. xs ++ (drop count ys ++ take count ys)) (take_at front (first ++ rest) from h) (drop_at front (first ++ rest) from h)
    ∙ ap₂ (λ xs ys. front ++ (xs ++ ys)) (drop_at first rest count k) (take_at first rest count k)

in_parts : {X : Type 0} (front middle back new : List X) (len : ℕ) → len ≡ length front + length back + length new
    → turned (length front) (len - length front - length new) (take len (turned (length front) (length middle) ((front ++ (middle ++ back)) ++ new))) ≡ front ++ (new ++ back)
in_parts front middle back new len h =
    let cut : take len (turned (length front) (length middle) ((front ++ (middle ++ back)) ++ new)) ≡ front ++ (back ++ new)
    = ap (λ xs. take len (turned (length front) (length middle) xs)) (append_assoc front (middle ++ back) new ∙ ap (λ xs. front ++ xs) (append_assoc middle back new))
    ∙ ap (take len) (turned_at front middle (back ++ new) (length front) (length middle) refl refl)
    ∙ ap (take len) (sym (append_assoc front (back ++ new) middle))
    ∙ take_at (front ++ (back ++ new)) middle len (omega (arith, h, length-append front (back ++ new), length-append back new)) in
    ap (λ xs. turned (length front) (len - length front - length new) xs) cut
    ∙ turned_at front back new (length front) (len - length front - length new) refl (omega (arith, h))

-- the new items are added, the old ones are turned to the end and cut off, and the new ones are turned to their place
pub replaced_by_turning : {X : Type 0} (old new a b c : List X) (from to len : ℕ) → from ≤ to → to ≤ length old
    → a ≡ turned from (to - from) (old ++ new) → len ≡ length old + length new - (to - from) → b ≡ take len a → c ≡ turned from (len - from - length new) b
    → c ≡ take from old ++ (new ++ drop to old)
replaced_by_turning {X = X} old new a b c from to len h k a_is len_is b_is c_is =
    let front : List X = take from old in
    let middle : List X = take (to - from) (drop from old) in
    let back : List X = drop to old in
    let whole : from + (to - from) ≡ to = omega arith in
    let three : front ++ (middle ++ back) ≡ old
    = ap (λ rest. front ++ (middle ++ rest)) (ap (λ n. drop n old) (sym whole) ∙ sym (drop-drop (to - from) from old))
    ∙ ap (λ rest. front ++ rest) (take-append-drop (to - from) (drop from old))
    ∙ take-append-drop from old in
    let long : length front ≡ from = length-take-le from old (omega arith) in
    let between : length middle ≡ to - from = length-take-le (to - from) (drop from old) (omega (arith, length-drop from old)) in
    c_is
    ∙ ap (λ xs. turned from (len - from - length new) xs) (b_is ∙ ap (take len) (a_is ∙ ap (λ xs. turned from (to - from) (xs ++ new)) (sym three)))
    ∙ ap₂ (λ (n m : ℕ). turned n (len - n - length new) (take len (turned n m ((front ++ (middle ++ back)) ++ new)))) (sym long) (sym between)
    ∙ in_parts front middle back new len (omega (arith, h, k, long, len_is, length-drop to old))
