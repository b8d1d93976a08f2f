use Rattle.bibtex_places.proofs.listing.list_of_any.Goals as goal

pub list_of-requires : goal.list_of-requires
list_of-requires c = c.requires

pub returns-in-Ok : goal.returns-in-Ok
returns-in-Ok c =
    record {
      listed = λ texts are. c.in-Ok.ensures.listed texts are (c.in_ok-table.ensures texts are) (c.in_ok-places.ensures texts are);
      unknown = λ texts are. c.in-Ok.ensures.unknown texts are (c.in_ok-table.ensures texts are);
      short = λ texts are. c.in-Ok.ensures.short texts are (c.in_ok-table.ensures texts are) (c.in_ok-places.ensures texts are);
      deep = record {};
    }

pub returns : goal.returns
returns c = record {
  listed = record {};
  unknown = record {};
  short = record {};
  deep = λ is texts are. c.in-Err.ensures.deep is texts are (c.in_ok-table.ensures texts are) (c.in_ok-places.ensures texts are);
}
