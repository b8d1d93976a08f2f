use Rattle.std.proofs.Common.{ℕ, ◌<◌, Bool, List, length, All, ◌∙◌, sym, ap, subst, arith}
use Rattle.bib_spec.specs.Records.{entries_of, listed}
use Rattle.extract_spec.specs.Extract.{keeps_for, is_kept_entry}
use Rattle.extract_spec.proofs.ListedEntries.{kept_alike, listed_within}
use Rattle.bib_extract.specs.Marks.{is_marked}
use Rattle.bib_extract.proofs.WalkedItems.{kept-alike}
use Rattle.bib_extract.proofs.extracting.kept_marks.Goals as goal

pub kept_entries-requires : goal.kept_entries-requires
kept_entries-requires g c r reads =
    subst (λ (ns : List ℕ). All (λ n. n < length (entries_of r)) ns) (sym (c.as_slice-2.ensures ∙ c.in-Ok.ensures.listed r reads)) (listed_within (entries_of r) c.args.keys.now 1)

pub returns-clause-marks : goal.returns-clause-marks
returns-clause-marks g c r reads =
    c.in_ok-kept_items.ensures r reads
    ∙ kept-alike (is_marked c.as_slice-3.result.now) (keeps_for r c.args.keys.now)
    (λ n.
    ap (λ (ms : List Bool). is_marked ms n) c.as_slice-3.ensures.value
    ∙ c.in_ok-entries.ensures r reads n
    ∙ ap (λ (ns : List ℕ). is_kept_entry (entries_of r) ns n) (c.as_slice-2.ensures ∙ c.in-Ok.ensures.listed r reads)
    ∙ kept_alike (entries_of r) c.args.keys.now 1 n (omega arith)) 0 r.items
