use Rattle.std.proofs.Common.{◌∙◌, sym, subst, map, List}
use Rattle.bib_spec.specs.Text.{Text}
use Rattle.bib_spec.specs.Records.{EntryTexts, keys_of}
use Rattle.bibtex_spec.specs.Places.{Place}
use Rattle.bibtex_places.specs.Seen.{seen}
use Rattle.bibtex_places.specs.KeyTables.{FindsKeys}
use Rattle.bibtex_places.specs.Lists.{AreKeysOf}
use Rattle.bibtex_places.specs.Parents.{AreParents}
use Rattle.bibtex_places.proofs.listing.list_of.Goals as goal

pub returns-in-Ok : goal.returns-in-Ok
returns-in-Ok c =
    let keys : List Text = c.args.keys.now in
    let parents : (texts : List EntryTexts) → AreKeysOf c.args.entries.now texts → FindsKeys c.args.table.now (keys_of texts) → AreParents texts keys (map seen c.as_slice.result.now) c.as_slice-2.result.now =
    λ texts are finds. subst (AreParents texts keys (map seen c.as_slice.result.now)) (sym c.as_slice-2.ensures.value)
    (subst (λ (all : List Place). AreParents texts keys all c.in_ok-parents.parents.items) (sym c.as_slice.ensures)
    (c.in_ok-parents.ensures texts keys are finds c.are_all_cited-all.ensures c.requires)) in
    record {
      listed = λ texts are finds placed.
          c.from_vec.ensures
          ∙ c.in-Ok.ensures.listed texts keys
          (record { entries = are; cited = c.requires; parents = parents texts are finds; all = c.are_all_cited-all.ensures })
          (c.as_slice.ensures ∙ placed);
      unknown = λ texts are finds. c.from_vec-in-Ok.ensures ∙ c.in_ok-unknown.ensures texts finds;
      short = λ texts are finds placed.
          c.in-Ok.ensures.short texts keys
          (record { entries = are; cited = c.requires; parents = parents texts are finds; all = c.are_all_cited-all.ensures })
          (c.as_slice.ensures ∙ placed);
      deep = record {};
    }

pub returns : goal.returns
returns c =
    let keys : List Text = c.args.keys.now in
    record {
      listed = record {};
      unknown = record {};
      short = record {};
      deep = λ is texts are finds placed.
          c.in-Err.ensures.deep is texts keys
          (record {
            entries = are;
            cited = c.requires;
            parents = subst (AreParents texts keys (map seen c.as_slice.result.now)) (sym c.as_slice-2.ensures.value)
                (subst (λ (all : List Place). AreParents texts keys all c.in_ok-parents.parents.items) (sym c.as_slice.ensures)
                (c.in_ok-parents.ensures texts keys are finds c.are_all_cited-all.ensures c.requires));
            all = c.are_all_cited-all.ensures;
          })
          (c.as_slice.ensures ∙ placed);
    }
