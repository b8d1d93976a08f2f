-- No text of items of which firm tables tell is too long.
use Rattle.bib_store.proofs.Words.{◌≡◌, ℕ, ◌*◌, ◌<◌, ◌≤◌, List, [], ◌∷◌, length, max, None, subst, arith, AllByRecursion, mul-le-mul_right, name_limit, tree_bytes, IsItem, months, macros_at, raw_texts_from, raw_limit, AreAtMost, Bounds, Tables, AreTablesOf, AreBounded, IsFirm, first_too_long}
use Rattle.std.proofs.Common.{All}
use Rattle.bib_spec.specs.Reading.{Item}
use Rattle.bib_definitions.proofs.LongestTexts.{texts_within}
use Rattle.bib_store.proofs.KeptItems.{trees_good}
use Rattle.bib_store.proofs.ShortEntries.{all_short}

short_bodies : (b : Bounds) (k : ℕ) (items : List Item) → b.longest_body * k ≤ raw_limit → AreBounded b items → AllByRecursion (λ i. length (tree_bytes i.tree) * k ≤ raw_limit) items
short_bodies b k [] few are = tt
short_bodies b k (i ∷ items) few are =
    let body = are.0.body in
    let most = mul-le-mul_right k body in
    (omega (arith, most, few), short_bodies b k items few are.1)

-- items of which firm tables tell say no text that is too long
pub firm_short : (t : Tables) → IsFirm t → (items : List Item) → All (IsItem name_limit) items → AreTablesOf items t → first_too_long (raw_texts_from 0 months items) ≡ None
firm_short t firm items good are =
    let k : ℕ = max t.definitions.longest 1 in
    let some : 0 < k = omega arith in
    let within : (j : ℕ) → AreAtMost k (macros_at months items j)
    = λ j. subst (AreAtMost k) (are.definitions.texts j) (λ name s is. let low = texts_within items t.definitions are.definitions j name s is in omega (arith, low)) in
    all_short k some 0 months items within (trees_good items good) (short_bodies t.bounds k items firm.short are.bounds)
