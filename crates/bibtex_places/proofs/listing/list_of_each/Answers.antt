use Rattle.bibtex_places.proofs.EachPlace.{each_finds}
use Rattle.bibtex_places.proofs.listing.list_of_each.Goals as goal

pub list_of-requires : goal.list_of-requires
list_of-requires c = c.requires.cited

pub returns-in-Ok : goal.returns-in-Ok
returns-in-Ok c =
    let keys = c.args.keys.now in
    let places = c.args.places.now in
    record {
      listed = λ texts are.
          c.in-Ok.ensures.listed texts are (each_finds texts keys places c.table.result.now (c.requires.each texts are) c.table.ensures) (c.requires.each texts are).are;
      unknown = λ texts are. c.in-Ok.ensures.unknown texts are (each_finds texts keys places c.table.result.now (c.requires.each texts are) c.table.ensures);
      short = λ texts are.
          c.in-Ok.ensures.short texts are (each_finds texts keys places c.table.result.now (c.requires.each texts are) c.table.ensures) (c.requires.each texts are).are;
      deep = record {};
    }

pub returns-in-Err : goal.returns-in-Err
returns-in-Err c =
    let keys = c.args.keys.now in
    let places = c.args.places.now in
    record {
      listed = record {};
      unknown = record {};
      short = record {};
      deep = λ is texts are.
          c.in-Err.ensures.deep is texts are (each_finds texts keys places c.table.result.now (c.requires.each texts are) c.table.ensures) (c.requires.each texts are).are;
    }
