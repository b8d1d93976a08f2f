use Rattle.std.proofs.Common.{◌∙◌, ◌++◌, ap}
use Rattle.bib_places.proofs.Lists.{gathered-more, gathered-all}
use Rattle.bib_renames.specs.declared.conflict.KeyConflict.{KeyConflict}
use Rattle.merge_run.specs.Lines.{key_line}
use Rattle.merge_run.proofs.lines.add_keys.Goals as goal

pub keys-preserved : goal.keys-preserved
keys-preserved c =
    gathered-more key_line c.args.out.now.items c.args.keys.now c.keys.k c.index-keys-k.result c.keys.out.items c.add_key.new.out.items c.keys-test.true
    (c.in_ok-add_key.ensures ∙ ap (λ (k : KeyConflict). c.keys.out.items ++ key_line k) c.index-keys-k.is)
    c.keys.invariant

pub returns : goal.returns
returns c = gathered-all key_line c.args.out.now.items c.args.keys.now c.keys.k c.keys.out.items c.keys-test.false c.keys.invariant
