use Rattle.bib_command.proofs.command_line.edits.Goals as goal

pub returns : goal.returns
returns c =
    let changes = c.adds-changes.ensures _ _ (c.adds.ensures _ _ c.makes.ensures c.edit.ensures) c.insert.ensures in
    let turns = c.adds-turns.ensures _ _ (c.adds-2.ensures _ _ changes c.undo.ensures) c.redo.ensures in
    c.adds-4.ensures _ _ (c.adds-3.ensures _ _ turns c.log.ensures) c.forget.ensures
