use Rattle.std.proofs.Common.{◌∙◌, take, sym, ap}
use Rattle.bib_spec.specs.Texts.{is_empty}
use Rattle.bib_scan.specs.View.{View}
use Rattle.bibtex_plain.specs.Walking.{keys_in}
use Rattle.bibtex_plain.proofs.EarlierKeys.{no_entry, empty_repeats, key_numbered, key_repeats}
use Rattle.bibtex_plain.proofs.ItemPlaces.{item_within}
use Rattle.bibtex_plain.proofs.plain.is_repeated.Goals as goal

pub returns-then-not-is_entry : goal.returns-then-not-is_entry
returns-then-not-is_entry c r reads i at =
    no_entry i.tree (keys_in (take c.args.n r.items)) (c.if-not-is_entry.ensures i.tree (sym (c.kind.ensures ∙ ap (λ (v : View). v.kind) (c.requires.item r reads i at))))

pub returns-then-is_empty_key : goal.returns-then-is_empty_key
returns-then-is_empty_key c r reads i at =
    let seen = c.requires.item r reads i at in
    empty_repeats i.tree (keys_in (take c.args.n r.items)) c.key.result.now c.args.count.has_empty
    (c.if-not-is_entry.ensures i.tree (sym (c.kind.ensures ∙ ap (λ (v : View). v.kind) seen)))
    (c.key.ensures ∙ ap (λ (v : View). v.key) seen) c.if-is_empty_key.ensures (c.requires.count r reads).empty

pub is_key_repeated-requires : goal.is_key_repeated-requires
is_key_repeated-requires c r reads =
    let one = item_within r.items c.args.n (c.requires.number r reads) in
    let seen = c.requires.item r reads one.0 one.1 in
    key_numbered r c.args.n c.args.count.entries one.0 c.key-2.result.now one.1
    (c.if-not-is_entry.ensures (one.0).tree (sym (c.kind.ensures ∙ ap (λ (v : View). v.kind) seen)))
    (c.key-2.ensures ∙ ap (λ (v : View). v.key) seen) (c.requires.count r reads).entries

pub returns : goal.returns
returns c r reads i at =
    let seen = c.requires.item r reads i at in
    key_repeats r c.args.n c.args.count.entries i c.key-2.result.now c.is_key_repeated.result at
    (c.if-not-is_entry.ensures i.tree (sym (c.kind.ensures ∙ ap (λ (v : View). v.kind) seen)))
    (c.key-2.ensures ∙ ap (λ (v : View). v.key) seen) (c.requires.count r reads).entries
    (c.if-is_empty_key.ensures ∙ ap is_empty (c.key.ensures ∙ sym c.key-2.ensures)) (c.is_key_repeated.ensures r reads)
