use Rattle.std.proofs.Common.{◌≡◌, ◌∙◌, ◌||◌, Bool, true, false, is_some, sym, ap}
use Rattle.std.specs.List.{list_any}
use Rattle.bib_spec.specs.Text.{same}
use Rattle.bib_spec.specs.Records.{entries_of, dangling_texts}
use Rattle.bib_edit.proofs.Referrers.{awaited-free}
use Rattle.bib_ris.proofs.LookedUp.{taken-unheld}
use Rattle.bib_ris.proofs.free_key.is_awaited.Goals as goal

pub returns-then-is_among : goal.returns-then-is_among
returns-then-is_among g c db reads =
    let key = c.args.key.now in
    let ids = c.args.ids.now in
    let among : list_any (same key) ids ≡ true = sym c.is_among.ensures ∙ c.if-is_among.true in
    c.if-is_among.true
    ∙ sym (ap (λ (b : Bool). b || list_any (same key) (dangling_texts (entries_of db))) among)
    ∙ taken-unheld key c.requires.filled db ids (c.requires.free db reads)

pub returns-else-is_among : goal.returns-else-is_among
returns-else-is_among g c db reads =
    let key = c.args.key.now in
    let ids = c.args.ids.now in
    let among : list_any (same key) ids ≡ false = sym c.is_among.ensures ∙ c.if-is_among.false in
    c.is_some.ensures ∙ ap is_some (c.referrer.ensures db reads)
    ∙ awaited-free (entries_of db) key (c.requires.free db reads) c.requires.filled
    ∙ sym (ap (λ (b : Bool). b || list_any (same key) (dangling_texts (entries_of db))) among)
    ∙ taken-unheld key c.requires.filled db ids (c.requires.free db reads)
