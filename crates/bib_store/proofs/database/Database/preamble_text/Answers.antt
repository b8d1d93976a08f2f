use Rattle.bib_store.proofs.Words.{◌<◌, ℕ, List, length, ◌∙◌, sym, ap, subst, arith, IfOk-weaker, macros_seen, file_of}
use Rattle.std.proofs.Common.{slice_get}
use Rattle.bib_store.proofs.KeptItems.{kept_as, kept_reading}
use Rattle.bib_store.proofs.EntryItems.{number_of_preamble, preamble_within}
use Rattle.bib_store.proofs.PreambleTexts.{preamble_read, preamble_short, preamble_says}
use Rattle.bib_store.proofs.database.Database.preamble_text.Goals as goal

pub get-m-requires : goal.get-m-requires
get-m-requires g c =
    let k = kept_reading c.self.inside.front (g.L.ItemList.items c.self.inside.items) c.self.inside.tables c.args.self.now c.self.invariant.0 c.self.view_is in
    subst (λ (ns : List ℕ). c.args.n < length ns) (sym k.2.tables.preambles) (number_of_preamble k.0 c.args.n (c.requires k.0 k.1))

pub item-requires : goal.item-requires
item-requires g c = λ db r.
    let k = kept_as c.self.inside.front (g.L.ItemList.items c.self.inside.items) c.self.inside.tables c.args.self.now c.self.invariant.0 c.self.view_is db r in
    preamble_within db c.args.n c.get-m.result (c.requires db r)
    (ap (λ (ns : List ℕ). slice_get ns c.args.n) (sym k.tables.preambles) ∙ c.get-m.ensures)

pub macros_at-requires : goal.macros_at-requires
macros_at-requires g c = λ db r.
    let k = kept_as c.self.inside.front (g.L.ItemList.items c.self.inside.items) c.self.inside.tables c.args.self.now c.self.invariant.0 c.self.view_is db r in
    let h : c.get-m.result < length db.items =
    preamble_within db c.args.n c.get-m.result (c.requires db r)
    (ap (λ (ns : List ℕ). slice_get ns c.args.n) (sym k.tables.preambles) ∙ c.get-m.ensures) in
    omega (arith, h)

pub short_text-requires : goal.short_text-requires
short_text-requires g c =
    let k = kept_reading c.self.inside.front (g.L.ItemList.items c.self.inside.items) c.self.inside.tables c.args.self.now c.self.invariant.0 c.self.view_is in
    let numbered = ap (λ (ns : List ℕ). slice_get ns c.args.n) (sym k.2.tables.preambles) ∙ c.get-m.ensures in
    let p = preamble_read (file_of c.self.inside.front (g.L.ItemList.items c.self.inside.items)) k.0 c.args.n c.get-m.result c.preamble_value-value.result.now c.item.result k.2.opens (c.requires k.0 k.1) numbered (c.item.ensures k.0 k.1) c.preamble_value-value.ensures in
    record { is = (p.value, p.ok, p.same); short = preamble_short k.0 c.args.n c.get-m.result c.preamble_value-value.result.now p (macros_seen c.macros_at.result) (c.macros_at.ensures k.0 k.1) }

pub returns-clause-text : goal.returns-clause-text
returns-clause-text g c = IfOk-weaker c.short_text.result _ _ (λ text said. λ db r.
    let k = kept_as c.self.inside.front (g.L.ItemList.items c.self.inside.items) c.self.inside.tables c.args.self.now c.self.invariant.0 c.self.view_is db r in
    let numbered = ap (λ (ns : List ℕ). slice_get ns c.args.n) (sym k.tables.preambles) ∙ c.get-m.ensures in
    let p = preamble_read (file_of c.self.inside.front (g.L.ItemList.items c.self.inside.items)) db c.args.n c.get-m.result c.preamble_value-value.result.now c.item.result k.opens (c.requires db r) numbered (c.item.ensures db r) c.preamble_value-value.ensures in
    preamble_says db c.args.n c.get-m.result c.preamble_value-value.result.now p (macros_seen c.macros_at.result) (c.macros_at.ensures db r) text said) c.short_text.ensures.text
