-- The depth of the records from which an edit makes keys.
use Rattle.bib_spec.specs.Records.{IsDepth}
use Rattle.bib_data.specs.declared.edit.Edit.{Edit}
use Rattle.bib_data.specs.declared.edit.Edit.TheVariants.{RegenerateKeys}
use Rattle.bib_data.specs.declared.request.Request.{Request}
use Rattle.bib_data.specs.declared.request.Request.TheVariants as request

-- if the edit makes keys, its depth is 1 to 8
abbrev pub HasDepth : Edit → Type 0
HasDepth (RegenerateKeys depth) = IsDepth depth
HasDepth other = Unit {0}

-- if the request is an edit that makes keys, its depth is 1 to 8
abbrev pub AsksWithDepth : Request → Type 0
AsksWithDepth (request.Edit edit) = HasDepth edit
AsksWithDepth (request.Place position edit) = HasDepth edit
AsksWithDepth other = Unit {0}
