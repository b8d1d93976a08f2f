-- What the labels' tally keeps.
use Rattle.std.specs.Prelude.{ℕ, unwrap_or, bytes_eq}
use Rattle.std.specs.HashMap.{HashMap, get_by}
use Rattle.bib_spec.specs.Text.{Text}
use denote.Ref.{Bor}

-- how often a text was counted, by a map of texts to counts
abbrev pub times : {S : Type 0} → HashMap (Bor Text) ℕ S → Text → ℕ
times counts text = unwrap_or (get_by (λ k. bytes_eq text k.now) counts) 0
