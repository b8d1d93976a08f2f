use Rattle.bib_store.proofs.Words.{◌≡◌, Some, sym, ap, subst, ◌∙◌, folded, Macros, months, macros_at}
use Rattle.std.specs.Option.{option_copied}
use Rattle.bib_store.proofs.KeptItems.{kept_reading}
use Rattle.bib_store.proofs.ShortTexts.{IsShort, seen_short}
use Rattle.bib_store.proofs.database.Database.macro_text.Goals as goal

pub returns-in_ok-text-in-Some-clause-short : goal.returns-in_ok-text-in-Some-clause-short
returns-in_ok-text-in-Some-clause-short g c =
    let k = kept_reading c.self.inside.front (g.L.ItemList.items c.self.inside.items) c.self.inside.tables c.args.self.now c.self.invariant.0 c.self.view_is in
    let seen : macros_at months k.0.items c.args.n (folded c.args.name.now) ≡ option_copied c.text_of.result =
    sym (ap (λ (m : Macros). m (folded c.args.name.now)) (c.macros_at.ensures k.0 k.1)) ∙ sym c.text_of.ensures in
    let found : option_copied c.text_of.result ≡ Some c.in-Some.text.now = cc (c.in-Some.is) in
    let copied : c.in-Some.text.now ≡ c.from_vec.result = cc (c.from_vec.ensures, c.in_ok-text-in-Some.ensures.items) in
    subst IsShort copied (seen_short k.0 k.2.opens.texts c.args.n (folded c.args.name.now) c.in-Some.text.now (seen ∙ found))
