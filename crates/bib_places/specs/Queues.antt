-- The numbers of units in queues, by the codes of their labels.
use Rattle.std.specs.Prelude.{ℕ, ◌≡◌, ◌+◌, ◌&&◌, Bool, true, false, List, [], ◌∷◌, Option, None, Some, option_and_then, slice_get, bytes_eq, map, count_by}
use Rattle.std.specs.HashMap.{HashMap, get_by}
use Rattle.std.specs.Option.{option_map_or}
use Rattle.bib_spec.specs.Text.{Text}
use denote.Ref.{Bor}
use Rattle.merge_spec.specs.Units.{Unit, label_of}
use Rattle.bib_places.specs.declared.queues.Link.{Link}
use Rattle.bib_places.specs.declared.queues.Queues.{Queues}
use Rattle.bib_places.specs.LabelCodes.{code_of}
use Rattle.bib_places.specs.NumbersLeft.{Goes}

-- the code with this number is this one
abbrev pub has_code : List Text → Text → ℕ → Bool
has_code codes code n = option_map_or (bytes_eq code) (slice_get codes n) false

-- the number has this code; or there is none, and none of the numbers has it
abbrev pub IsCoded : List Text → Text → Option ℕ → List ℕ → Type 0
IsCoded codes code None numbers = count_by (has_code codes code) numbers ≡ 0
IsCoded codes code (Some n) numbers = has_code codes code n ≡ true

-- a number with this code was taken away; or there is none, and none of the numbers has the code
pub record IsTakenBy (codes : List Text) (code : Text) (taken : Option ℕ) (old new : List ℕ) : Type 0 where
  pub goes : Goes taken old new
  pub coded : IsCoded codes code taken old

-- where the first number of a code is
abbrev pub first_of : {S : Type 0} → HashMap (Bor Text) (Option ℕ) S → Text → Option ℕ
first_of firsts code = option_and_then (λ first. first) (get_by (λ k. bytes_eq code k.now) firsts)

-- the links from here on have these numbers, and no more
abbrev pub AreLinked : List Link → Option ℕ → List ℕ → Type 0
AreLinked links start [] = start ≡ None
AreLinked links start (n ∷ numbers) = (at : ℕ) × (link : Link) × (start ≡ Some at) × (slice_get links at ≡ Some link) × (link.number ≡ n) × AreLinked links link.next numbers

-- the numbers that are marked, if this is the number of the first mark
abbrev pub marked_from : ℕ → List Bool → List ℕ
marked_from n [] = []
marked_from n (true ∷ marks) = n ∷ marked_from (n + 1) marks
marked_from n (false ∷ marks) = marked_from (n + 1) marks

-- each code has a queue of those of the numbers that have the code
pub record AreQueued {S : Type 0} (codes : List Text) (firsts : HashMap (Bor Text) (Option ℕ) S) (links : List Link) (numbers : List ℕ) : Type 0 where
  pub queue : (code : Text) → (queue : List ℕ) × AreLinked links (first_of firsts code) queue × ((test : ℕ → Bool) → count_by test queue ≡ count_by (λ n. has_code codes code n && test n) numbers)

-- the numbers that are left in queues
abbrev pub left_of : Queues → List ℕ
left_of queues = marked_from 0 queues.left.items

-- the queues are those of units with these numbers left
abbrev pub AreOfUnits : List Unit → Queues → Type 0
AreOfUnits units queues = AreQueued (map code_of (map label_of units)) queues.firsts queues.links.items (left_of queues)
