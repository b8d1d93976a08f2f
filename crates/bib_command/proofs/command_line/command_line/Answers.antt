use Rattle.bib_command.proofs.command_line.command_line.Goals as goal

pub returns : goal.returns
returns c =
    let shared = c.adds-shared.ensures _ _ (c.adds-2.ensures _ _ (c.adds.ensures _ _ c.edits.ensures c.ris.ensures) c.extract.ensures) c.import.ensures in
    let between = c.adds-between.ensures _ _ (c.adds-3.ensures _ _ shared c.merge.ensures) c.diff.ensures in
    c.adds-4.ensures _ _ between c.explain.ensures
