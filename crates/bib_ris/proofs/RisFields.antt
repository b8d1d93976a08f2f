-- RIS records are made of some fields alone.
use Rattle.bib_ris.proofs.Words.{◌≡◌, ◌∙◌, Option, None, Some, option_map, refl, sym, ap, Record, with_chosen, ris}
use Rattle.std.proofs.lemmas.Option.{same_Some, none-some}
use Rattle.ris_format.specs.Mapping.{ris_names}
use Rattle.ris_format.proofs.RisFields.{ris_sought}

-- the record of the chosen fields alone has the same RIS record as the whole record
pub ris_gathered : (o : Option Record) (gathered : Record) → option_map (with_chosen ris_names) o ≡ Some gathered → (entry : Record) × ((o ≡ Some entry) × (ris gathered ≡ ris entry))
ris_gathered None gathered is = absurd (none-some gathered is)
ris_gathered (Some entry) gathered is = (entry, (refl, ap ris (sym (same_Some (with_chosen ris_names entry) gathered is)) ∙ ris_sought entry))
