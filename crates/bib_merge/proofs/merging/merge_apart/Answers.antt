use Rattle.std.proofs.lemmas.Result.{err_from_is_err_and}
use Rattle.bib_merge.proofs.RefusedTexts.{weaker}
use Rattle.bib_merge.proofs.merging.merge_apart.Goals as goal

pub returns-clause-told : goal.returns-clause-told
returns-clause-told c =
    let b = c.opens.ensures in
    let o = c.opens-2.ensures in
    let t = c.opens-3.ensures in
    let m = c.in_ok-found.ensures.opens in
    record {
      rb = b.0;
      ro = o.0;
      rt = t.0;
      rm = m.0;
      base_opens = b.1;
      ours_opens = o.1;
      theirs_opens = t.1;
      text_opens = m.1;
      merge = c.in_ok-found.ensures.merged m.0 m.1.reads b.0 b.1.reads o.0 t.0
          (record { reads = o.1.reads; are = c.requires.ours o.0 o.1.reads })
          (record { reads = t.1.reads; are = c.requires.theirs t.0 t.1.reads });
      lose = c.in_ok-found.ensures.lost o.0 o.1.reads t.0 t.1.reads m.0 m.1.reads;
      change = c.in_ok-found.ensures.uses o.0 o.1.reads t.0 t.1.reads m.0 m.1.reads;
    }

pub returns-in_err-found-clause-fault : goal.returns-in_err-found-clause-fault
returns-in_err-found-clause-fault c =
    let p = err_from_is_err_and c.from_residual.result c.from_residual.ensures.1 in
    let b = c.opens.ensures in
    let o = c.opens-2.ensures in
    let t = c.opens-3.ensures in
    let refused = weaker _ _
    (λ fault refuses. record {
      rb = b.0;
      ro = o.0;
      rt = t.0;
      base_opens = b.1;
      ours_opens = o.1;
      theirs_opens = t.1;
      refused = refuses b.0 b.1.reads o.0 t.0
          (record { reads = o.1.reads; are = c.requires.ours o.0 o.1.reads })
          (record { reads = t.1.reads; are = c.requires.theirs t.0 t.1.reads });
    })
    _ c.in_err-found.ensures.fault in
    rw (p.1, p.2) refused
