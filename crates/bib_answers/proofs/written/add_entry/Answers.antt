use Rattle.bib_answers.proofs.Words.{◌++◌, List, subst, option_copied, on_ok_weaker}
use Rattle.entry_json.specs.RawJson.{Written}
use Rattle.bib_answers.specs.Raw.{AreGathered}
use Rattle.bib_answers.proofs.WrittenFields.{entry_sound, entry_fields}
use Rattle.bib_answers.proofs.written.add_entry.Goals as goal

pub add_all-requires : goal.add_all-requires
add_all-requires c =
    let opened = c.opens.ensures in
    let r = opened.0 in
    let reads = opened.1.reads in
    entry_sound c.args.db.now r c.args.n c.entry.result reads (c.requires r reads) (c.entry.ensures r reads)

pub returns : goal.returns
returns c = on_ok_weaker c.add_all.result
    (λ added r reads seen before.
    let from = option_copied c.args.from in
    subst (λ (fields : List Written). AreGathered (seen ++ fields) c.add_all.new.self.names c.add_all.new.self.fields.items)
    (entry_fields from r c.args.n c.entry.result (c.requires r reads) (c.entry.ensures r reads))
    (added seen before))
    c.add_all.ensures
