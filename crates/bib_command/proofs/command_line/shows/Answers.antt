use Rattle.bib_command.proofs.command_line.shows.Goals as goal

pub returns : goal.returns
returns c =
    let checks = c.adds-checks.ensures _ _ (c.adds-2.ensures _ _ (c.adds.ensures _ _ c.top.ensures c.cat.ensures) c.check.ensures) c.lint.ensures in
    let entries = c.adds-entries.ensures _ _ (c.adds-3.ensures _ _ checks c.show.ensures) c.entry.ensures in
    c.adds-4.ensures _ _ entries c.cite.ensures
