-- Places as the code keeps them.
use Rattle.bibtex_spec.specs.Places as spec
use Rattle.bibtex_places.specs.declared.place.Place.{Place}

-- the place that the code keeps
abbrev pub seen : Place → spec.Place
seen place = record { spelled = place.spelled; entry = place.entry; count = place.count; is_cited = place.is_cited }
