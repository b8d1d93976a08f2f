-- What a clause reads of a reader or a writer that remembers why a call failed, and of one that keeps what was read.
use Rattle.std.specs.Prelude.{◌≡◌, ℕ, List, ◌++◌, take, Option, Some, IfSome, MatchResult}
use Rattle.std.specs.Option.{option_map}
use Rattle.std.specs.declared.result.Result.{Result}
use Rattle.std.specs.declared.io.Error.{Error}
use Rattle.bib_streams.specs.declared.heard.Heard.{Heard}
use Rattle.bib_streams.specs.declared.kept.Kept.{Kept}

-- the reader or writer below
abbrev pub heard_inner : {T : Type 0} → Heard T → T
heard_inner h = h.inner

-- why the last call that failed did
abbrev pub last_error : {T : Type 0} → Heard T → Option Error
last_error h = h.error

-- a call that failed is remembered, and another is not
abbrev pub Hears : {T X : Type 0} → Heard T → Heard T → Result X Error → Type 0
Hears old new r = MatchResult r (λ _. last_error new ≡ last_error old) (λ e. last_error new ≡ Some e)

-- the reader below
abbrev pub kept_inner : {R : Type 0} → Kept R → R
kept_inner k = k.inner

-- the bytes that are kept, if any are
abbrev pub kept_bytes : {R : Type 0} → Kept R → Option (List ℕ)
kept_bytes k = option_map (λ bytes. bytes.items) k.bytes

-- the bytes that a read gave are kept with those before them, unless none are kept from now on
abbrev pub Keeps : {R E : Type 0} → Kept R → Kept R → List ℕ → Result ℕ E → Type 0
Keeps old new buf r = MatchResult r
    (λ n. IfSome (kept_bytes new) (λ bytes. (before : List ℕ) × (kept_bytes old ≡ Some before) × (bytes ≡ before ++ take n buf)))
    (λ _. kept_bytes new ≡ kept_bytes old)
