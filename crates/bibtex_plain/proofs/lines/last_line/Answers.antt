use Rattle.std.proofs.Common.{◌≡◌, ◌∙◌, ◌+◌, ◌-◌, ℕ, drop, ap, arith, Some, None}
use Rattle.std.specs.List.{flat_map}
use Rattle.bib_spec.specs.Reading.{item_bytes, bytes_of}
use Rattle.bibtex_spec.specs.Plain.{is_in_last_line}
use Rattle.bibtex_plain.proofs.LastLines.{last_all, last_begins}
use Rattle.bibtex_plain.proofs.WalkSteps.{front_line}
use Rattle.bibtex_plain.proofs.lines.last_line.Goals as goal

pub returns-in-Some : goal.returns-in-Some
returns-in-Some c r reads =
    last_begins (bytes_of r) c.in-Some.place
    (c.in-Some.ensures r reads (ap (λ (n : ℕ). is_in_last_line (flat_map item_bytes (drop n r.items))) (let on = c.items-test.true in let it : (c.items.n - 1) + 1 ≡ c.items.n = omega (arith, on) in it) ∙ c.items.invariant.1 r reads))

pub returns-in-Some-chunk_line : goal.returns-in-Some-chunk_line
returns-in-Some-chunk_line c r reads =
    last_begins (bytes_of r) c.in-Some-chunk_line.place
    (front_line r c.front.result.now c.item_count-count.result c.items.n (Some c.in-Some-chunk_line.place) (c.front.ensures r reads) (c.item_count-count.ensures r reads) (let over = c.items-test.false in omega (arith, over)) (c.items.invariant.1 r reads) c.in-Some-chunk_line.ensures.line)

pub returns-in-None : goal.returns-in-None
returns-in-None c r reads =
    last_all (bytes_of r)
    (front_line r c.front.result.now c.item_count-count.result c.items.n None (c.front.ensures r reads) (c.item_count-count.ensures r reads) (let over = c.items-test.false in omega (arith, over)) (c.items.invariant.1 r reads) c.in-None.ensures.line)
