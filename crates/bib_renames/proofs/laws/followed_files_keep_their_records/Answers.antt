use Rattle.bib_renames.proofs.Renamings.{renamed-files-keep}
use Rattle.bib_renames.proofs.laws.followed_files_keep_their_records.Goals as goal

pub returns : goal.returns
returns c = renamed-files-keep
