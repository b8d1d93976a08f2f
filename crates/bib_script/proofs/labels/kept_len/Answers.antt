use Rattle.std.proofs.Common.{rules, ◌≡◌, ◌∙◌, ◌<◌, ◌-◌, true, false, arith}
use Rattle.std.specs.List.{slice_index_or}
use Rattle.bib_script.specs.Words.{continues}
use Rattle.bib_script.proofs.LabelLemmas.{kept_len-back, kept_len-stay, kept_len-none}
use Rattle.bib_script.proofs.labels.kept_len.Goals as goal

pub back-preserved : goal.back-preserved
back-preserved c =
    let some : 0 < c.back.len = search rules in
    let within = c.back.invariant.within in
    let byte : c.unwrap_or.result ≡ slice_index_or c.args.text.now c.back.len 0 = search rules in
    let cut : continues c.unwrap_or.result ≡ true = search rules in
    record {
      rest = kept_len-back c.back.len (c.back.len - 1) c.args.text.now (omega (arith, some)) (rw (← byte) cut) ∙ c.back.invariant.rest;
      within = omega (arith, within);
    }

pub returns-else-continues : goal.returns-else-continues
returns-else-continues c =
    let byte : c.unwrap_or.result ≡ slice_index_or c.args.text.now c.back.len 0 = search rules in
    let whole : continues c.unwrap_or.result ≡ false = search rules in
    kept_len-stay c.back.len c.args.text.now (rw (← byte) whole) ∙ c.back.invariant.rest

pub returns-after-back : goal.returns-after-back
returns-after-back c =
    let none : c.back.len ≡ 0 = search rules in
    kept_len-none c.back.len c.args.text.now none ∙ c.back.invariant.rest
