use Rattle.bib_answers.proofs.Words.{List, ap, Text}
use Rattle.bib_shelf.proofs.Files.{files_are_in}
use Rattle.bib_answers.specs.NamedFiles.{NamedFiles}
use Rattle.bib_answers.proofs.named_files.NamedFiles.new.Goals as goal

pub returns : goal.returns
returns c = λ files are. ap (λ (fs : List Text). let named : NamedFiles = record { names = c.args.names.now; files = fs } in named) (files_are_in files _ are)
