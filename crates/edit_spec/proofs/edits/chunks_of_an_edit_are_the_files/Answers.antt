use Rattle.edit_spec.proofs.EditFiles.{chunks-are-files, pieces-lead}
use Rattle.edit_spec.proofs.edits.chunks_of_an_edit_are_the_files.Goals as goal

pub returns-clause-chunks : goal.returns-clause-chunks
returns-clause-chunks c = chunks-are-files

pub returns-clause-pieces : goal.returns-clause-pieces
returns-clause-pieces c = pieces-lead
