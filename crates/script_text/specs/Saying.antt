-- What a script says.
use Rattle.std.specs.Prelude.{◌≡◌, List, None}
use Rattle.bib_spec.specs.Text.{Text}
use Rattle.bib_data.specs.declared.request.Request.{Request}
use Rattle.bib_script.specs.Script.{said_of}

-- the script says these requests and nothing else: each line is one, or is empty
pub record Says (requests : List Request) (script : Text) : Type 0 where
  pub all : (said_of script).requests ≡ requests
  pub whole : (said_of script).bad_line ≡ None
