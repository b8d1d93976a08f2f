use Rattle.bib_items.proofs.Glances.{lacks_short, lacks_start, lacks_found, lacks_past, lacks_end}
use Rattle.bib_items.proofs.glancing.lacks_word.Goals as goal

pub returns-then-text-rare : goal.returns-then-text-rare
returns-then-text-rare c _ = lacks_short c.args.text.now c.args.word.now c.args.rare c.requires c.if-text-rare.true

pub search-init : goal.search-init
search-init c = lacks_start c.args.text.now c.args.word.now c.args.rare c.if-text-rare.false

pub search-preserved : goal.search-preserved
search-preserved c =
    let here = lacks_found c.args.text.now c.args.word.now c.args.rare _ _ c.requires c.to_ascii_lowercase-low.ensures.value c.to_ascii_uppercase-high.ensures.value _ _ _ c.search.invariant c.split_at.ensures.back c.in-Some.ensures in
    lacks_past c.args.text.now c.args.word.now c.args.rare _ _ c.requires c.to_ascii_lowercase-low.ensures.value c.to_ascii_uppercase-high.ensures.value _ _ _ here.1 here.0 c.split_at-in-Some.ensures.back c.begins_with.ensures c.if-begins_with.false

pub returns : goal.returns
returns c _ =
    lacks_end c.args.text.now c.args.word.now c.args.rare _ _ c.requires c.to_ascii_lowercase-low.ensures.value c.to_ascii_uppercase-high.ensures.value _ _ c.search.invariant c.split_at.ensures.back c.in_default.ensures
