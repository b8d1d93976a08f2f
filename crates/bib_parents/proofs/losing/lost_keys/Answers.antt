use Rattle.std.proofs.Common.{◌≡◌, ℕ, rules, List, [], ◌∷◌, ◌++◌, arith, sym, ◌∙◌, ap, ap₂, append-nil}
use Rattle.std.specs.List.{flat_map, range_with_len}
use Rattle.std.proofs.lemmas.Grind.{flat_map-append}
use Rattle.bib_spec.specs.Text.{Text}
use Rattle.bib_spec.specs.Records.{entries_of}
use Rattle.bib_store.proofs.Citations.{range_more}
use Rattle.merge_spec.specs.Parents.{lost_key}
use Rattle.bib_parents.proofs.losing.lost_keys.Goals as goal

pub lost_key-requires : goal.lost_key-requires
lost_key-requires g c r reads = omega (arith, c.entries-test.true, c.entry_count-n-end.ensures r reads)

pub entries-preserved : goal.entries-preserved
entries-preserved g c ro reads_o rt reads_t rm reads_m =
    let lost = lost_key (entries_of ro) (entries_of rt) (entries_of rm) in
    c.in_ok-add.ensures
    ∙ ap₂ (λ (a b : List Text). a ++ b) (c.entries.invariant ro reads_o rt reads_t rm reads_m)
    (c.lost_key.ensures ro reads_o rt reads_t rm reads_m ∙ sym (append-nil (lost c.entries.n)))
    ∙ sym (flat_map-append lost (range_with_len 0 c.entries.n) (c.entries.n ∷ []))
    ∙ ap (flat_map lost) (sym (range_more c.entries.n))

pub returns : goal.returns
returns g c ro reads_o rt reads_t rm reads_m =
    let ended : c.entries.n ≡ c.entry_count-n-end.result = search rules in
    c.entries.invariant ro reads_o rt reads_t rm reads_m
    ∙ ap (λ (k : ℕ). flat_map (lost_key (entries_of ro) (entries_of rt) (entries_of rm)) (range_with_len 0 k)) (ended ∙ c.entry_count-n-end.ensures rm reads_m)
