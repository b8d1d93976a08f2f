use Rattle.bib_answers.proofs.Words.{◌≡◌, ◌∙◌, ◌++◌, ◌∷◌, ◌<◌, [], List, None, length, rules, sym, ap, subst, Text, IsKnown}
use Rattle.std.proofs.Common.{arith}
use Rattle.bib_spec.specs.Reading.{bytes_of}
use Rattle.entry_json.specs.declared.raw.Standing.{Standing}
use Rattle.bib_answers.specs.Positions.{position_of}
use Rattle.bib_answers.specs.Entry.{place_of}
use Rattle.bib_answers.specs.Raw.{standing, standing_of}
use Rattle.bib_answers.proofs.StandingItems.{standings_more, standings_all}
use Rattle.bib_answers.proofs.standings.standings_alone.Goals as goal

pub item_place-place-requires : goal.item_place-place-requires
item_place-place-requires c r reads = omega (arith, c.items-test.true, c.item_count-m-end.ensures r reads)

pub items-preserved : goal.items-preserved
items-preserved c =
    let same : c.as_slice.result.now ≡ c.args.db.now = search rules in (
      subst (λ (t : Text). IsKnown t c.known_at-known.result) same c.known_at-known.ensures.known,
      λ r reads.
          let m = c.items.m in
          let within : m < length r.items = omega (arith, c.items-test.true, c.item_count-m-end.ensures r reads) in
          let at : c.known_at-known.result.at ≡ place_of r m =
          c.known_at-known.ensures.at
          ∙ ap (λ (t : Text). position_of t c.item_place-place.result) (same ∙ sym reads.bytes)
          ∙ ap (position_of (bytes_of r)) (c.item_place-place.ensures r reads) in
          let stands : standing m c.known_at-known.result.at ≡ standing_of None r m = ap (standing m) at in
          c.in_ok-push.ensures.items
          ∙ ap (λ (all : List Standing). all ++ standing m c.known_at-known.result.at ∷ []) (c.items.invariant.1 r reads)
          ∙ standings_more (standing_of None r) (length r.items) m (standing m c.known_at-known.result.at) within stands,
    )

pub returns : goal.returns
returns c r reads = c.items.invariant.1 r reads ∙ standings_all (standing_of None r) (length r.items) c.items.m (omega (arith, c.items-test.false, c.item_count-m-end.ensures r reads))
