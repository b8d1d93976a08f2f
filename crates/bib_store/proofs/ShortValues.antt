-- What a value of one part says is what that part says.
use Rattle.bib_store.proofs.Words.{◌≡◌, List, [], ◌∷◌, ◌∙◌, ap, flat_map, Part, Value, Macros, part_text, raw_text}
use Rattle.std.proofs.Common.{append-nil}
use Rattle.bib_scan.specs.ValueParts.{parts_of}

pub alone_says : (m : Macros) (v : Value) (p : Part) → parts_of v ≡ p ∷ [] → raw_text m v ≡ part_text m p
alone_says m v p one = ap (λ (ps : List Part). flat_map (part_text m) ps) one ∙ append-nil (part_text m p)
