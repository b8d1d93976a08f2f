use Rattle.bib_store.proofs.Words.{◌∙◌}
use Rattle.bib_store.proofs.Exchanges.{put_of, without-old}
use Rattle.bib_store.proofs.exchanging.exchange_items.Goals as goal

pub returns-clause-items : goal.returns-clause-items
returns-clause-items g c = λ inner reads.
    let put = put_of _ _ c.args.change.text _ c.args.change.window _ _ c.requires.window c.into_vec.ensures c.in_ok-take_in.ensures.ok c.count-old_count.ensures c.count.ensures inner reads in
    c.remove_range.ensures ∙ without-old _ _ _ _ _ _ put
