use Rattle.std.proofs.Common.{get_or, map}
use Rattle.std.proofs.lemmas.Option.{slice_get-get_or}
use Rattle.bibtex_spec.specs.Listed.{holder}
use Rattle.bibtex_places.specs.Seen.{seen}
use Rattle.bibtex_places.proofs.ListedEntries.{filter_map_next}
use Rattle.bibtex_places.proofs.parents.holders.Goals as goal

pub holders-preserved : goal.holders-preserved
holders-preserved c =
    filter_map_next (holder (map seen c.args.places.now)) c.args.run.now c.holders.i-index (get_or c.args.run.now c.holders.i-index 0) c.holders.held.items c.push_some.new.list.items c.holder.result
    (slice_get-get_or c.args.run.now c.holders.i-index 0 c.holders-test.true)
    c.holders.invariant c.holder.ensures c.in_ok-push_some.ensures
