use Rattle.bib_answers.proofs.Words.{◌≡◌, ◌∙◌, ◌++◌, ◌∷◌, ◌<◌, [], List, length, rules, sym, ap, subst, Text, Position, entries_of, IsKnown}
use Rattle.std.proofs.Common.{arith}
use Rattle.bib_spec.specs.Reading.{bytes_of}
use Rattle.bib_store.proofs.EntryItems.{entry_within}
use Rattle.bib_answers.specs.Positions.{position_of}
use Rattle.bib_answers.specs.Entry.{place_of}
use Rattle.bib_answers.proofs.StandingEntries.{places_more, places_all}
use Rattle.bib_answers.proofs.entry.places_of.Goals as goal

pub item_place-place-requires : goal.item_place-place-requires
item_place-place-requires c r reads =
    let within : c.entries.n < length (entries_of r) = omega (arith, c.entries-test.true, c.entry_count-n-end.ensures r reads) in
    let number = entry_within r c.entries.n c.entry_item.result within (c.entry_item.ensures r reads) in
    omega (arith, number)

pub entries-preserved : goal.entries-preserved
entries-preserved c =
    let same : c.as_slice.result.now ≡ c.args.db.now = search rules in (
      subst (λ (t : Text). IsKnown t c.known_at-known.result) same c.known_at-known.ensures.known,
      λ r reads.
          let n = c.entries.n in
          let m = c.entry_item.result in
          let within : n < length (entries_of r) = omega (arith, c.entries-test.true, c.entry_count-n-end.ensures r reads) in
          let at : c.known_at-known.result.at ≡ place_of r m =
          c.known_at-known.ensures.at
          ∙ ap (λ (t : Text). position_of t c.item_place-place.result) (same ∙ sym reads.bytes)
          ∙ ap (position_of (bytes_of r)) (c.item_place-place.ensures r reads) in
          c.in_ok-push.ensures.items
          ∙ ap (λ (ps : List Position). ps ++ c.known_at-known.result.at ∷ []) (c.entries.invariant.1 r reads)
          ∙ places_more r n m c.known_at-known.result.at within (c.entry_item.ensures r reads) at,
    )

pub returns : goal.returns
returns c r reads = c.entries.invariant.1 r reads ∙ places_all r c.entries.n (omega (arith, c.entries-test.false, c.entry_count-n-end.ensures r reads))
