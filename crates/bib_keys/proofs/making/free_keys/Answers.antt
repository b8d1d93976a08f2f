use Rattle.bib_keys.proofs.Words.{length, refl, ◌∙◌, ap, arith, free_key, taken_in}
use Rattle.std.proofs.lemmas.Option.{slice_get_read}
use Rattle.bib_keys.proofs.MadeKeyLists.{made-more, made-all}
use Rattle.bib_keys.proofs.making.free_keys.Goals as goal

pub bases-preserved : goal.bases-preserved
bases-preserved g c = record {
  made = λ db reads.
      made-more (taken_in db c.args.taken.now) c.args.bases.now c.bases.base-index c.bases.known c.take_free.new.self c.bases.keys.items c.push.new.self.items c.base-item.result c.in_ok-take_free.field-0
      (c.bases.invariant.made db reads)
      (slice_get_read c.args.bases.now (length c.args.bases.now) c.bases.base-index c.base-item.result refl c.bases-test.true c.base-item.is)
      (λ taken are. c.in_ok-take_free.ensures.key taken are ∙ ap (free_key taken) c.as_slice.ensures)
      c.in_ok-take_free.ensures.taken
      c.in_ok-push.ensures.items;
  count =
      let so_far = c.bases.invariant.count in
      let more = c.in_ok-take_free.ensures.count in
      omega (arith, so_far, more);
}

pub returns : goal.returns
returns g c db reads =
    c.from_vec.ensures ∙ made-all (taken_in db c.args.taken.now) c.args.bases.now c.bases.base-index c.bases.known c.bases.keys.items (c.bases.invariant.made db reads) c.bases-test.false
