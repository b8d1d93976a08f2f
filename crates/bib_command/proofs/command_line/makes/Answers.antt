use Rattle.bib_command.proofs.command_line.makes.Goals as goal

pub returns : goal.returns
returns c =
    let records = c.adds-records.ensures _ _ (c.adds.ensures _ _ c.shows.ensures c.labels.ensures) c.json.ensures in
    c.adds-3.ensures _ _ (c.adds-2.ensures _ _ records c.names.ensures) c.newkeys.ensures
