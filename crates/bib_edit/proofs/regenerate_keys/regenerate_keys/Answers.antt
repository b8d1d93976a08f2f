use Rattle.bib_edit.proofs.Words.{refl, ◌∙◌, NewKeys, RegenerateKeys}
use Rattle.bib_edit.proofs.AskedEdits.{of-regenerate_keys}
use Rattle.bib_edit.proofs.LimitTests.{not_over}
use Rattle.bib_edit.proofs.PieceLengths.{asked-short}
use Rattle.bib_edit.proofs.OpenFiles.{opens-as}
use Rattle.bib_edit.proofs.Regenerated.{pieces-are, refused-file, accepted}
use Rattle.bib_edit.proofs.regenerate_keys.regenerate_keys.Goals as goal

pub are_too_long-requires : goal.are_too_long-requires
are_too_long-requires g c =
    let new : NewKeys = record { first = 0; keys = c.in_ok-keys.keys } in
    asked-short c.args.db.now (RegenerateKeys c.args.depth) _ (λ db reads. of-regenerate_keys c.args.depth _
    (c.as_slice.ensures ∙ c.in_ok-pieces.ensures.pieces db reads ∙ pieces-are c.args.depth c.args.db.now db reads new refl (c.in_ok-keys.ensures.keys db reads))) c.opens.ensures

pub returns-then-are_too_long-clause-refused : goal.returns-then-are_too_long-clause-refused
returns-then-are_too_long-clause-refused g c db reads =
    let new : NewKeys = record { first = 0; keys = c.in_ok-keys.keys } in
    of-regenerate_keys c.args.depth _
    (refused-file c.args.depth c.args.db.now db reads new refl (c.in_ok-keys.ensures.keys db reads) _ (c.as_slice.ensures ∙ c.in_ok-pieces.ensures.pieces db reads) (c.are_too_long.ensures.0 c.if-are_too_long.true))

pub returns-clause-pieces : goal.returns-clause-pieces
returns-clause-pieces g c db reads =
    let new : NewKeys = record { first = 0; keys = c.in_ok-keys.keys } in
    of-regenerate_keys c.args.depth _ (c.in_ok-pieces.ensures.pieces db reads ∙ pieces-are c.args.depth c.args.db.now db reads new refl (c.in_ok-keys.ensures.keys db reads))

pub returns-clause-allowed : goal.returns-clause-allowed
returns-clause-allowed g c db reads =
    let new : NewKeys = record { first = 0; keys = c.in_ok-keys.keys } in
    of-regenerate_keys c.args.depth _
    (accepted c.args.depth c.args.db.now db reads new refl (c.in_ok-keys.ensures.keys db reads) _ (c.as_slice.ensures ∙ c.in_ok-pieces.ensures.pieces db reads)
    (opens-as c.args.db.now db c.one_reading.ensures c.opens.ensures reads) c.in_ok-keys.ensures.short (not_over c.are_too_long.result _ _ c.are_too_long.ensures.1 c.if-are_too_long.false))
