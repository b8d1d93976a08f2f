use Rattle.bib_definitions.proofs.Words.{◌≡◌, ◌∙◌, ℕ, List, Option, Some, insert, length, sym, ap, ap₂, subst, arith, Definition, Defined, Known, AreDefinitionsOf}
use Rattle.std.proofs.Common.{IfSome}
use Rattle.bib_definitions.proofs.DefinitionTables.{label_back, definition_comes}
use Rattle.bib_definitions.proofs.LongestTexts.{long_with}
use Rattle.bib_definitions.proofs.definitions.Definitions.insert.Goals as goal

-- the label that was made
made : (o : Option ℕ) (l k : ℕ) (old new : List ℕ) → o ≡ Some l → IfSome o (λ label. new ≡ insert old k label) → new ≡ insert old k l
made o l k old new is told = subst (λ (o : Option ℕ). IfSome o (λ label. new ≡ insert old k label)) is told

pub returns-in-Err-clause-err : goal.returns-in-Err-clause-err
returns-in-Err-clause-err c =
    let back = label_back c.self.inside.labels c.make.new.self c.remove.new.self c.min-k.result c.in-Some.label (omega (arith, c.min-k.ensures, c.count.ensures))
    (made c.in_ok-label.field-0 c.in-Some.label c.min-k.result c.self.inside.labels c.make.new.self c.in-Some.is c.in_ok-label.ensures.made) c.remove.ensures.gone in
    let was : (numbers labels : List ℕ) (defined : Defined) → Known = λ numbers labels defined. record { numbers = numbers; labels = labels; defined = defined; longest = c.self.inside.longest } in
    ap (λ (labels : List ℕ). was c.put.new.numbers labels c.put.new.by_name) back
    ∙ ap₂ (λ (numbers : List ℕ) (defined : Defined). was numbers c.self.inside.labels defined) c.in-Err.ensures.err.0 c.in-Err.ensures.err.1
    ∙ c.self.view_is

pub invariant_of-self-2 : goal.invariant_of-self-2
invariant_of-self-2 c =
    let it : Definition = record { label = c.in-Some.label; text = c.args.text } in
    let most = c.max-self-inside.ensures in
    let len = ap (length {A = ℕ}) c.as_slice-len.ensures in
    long_with c.self.inside.longest c.max-self-inside.result c.self.inside.by_name c.put.new.by_name c.args.name.now it c.in-Ok.ensures.names (omega (arith, most)) (omega (arith, most, len)) c.self.invariant

pub returns-clause-come : goal.returns-clause-come
returns-clause-come c done before after item count fits is says settled are =
    let old : Known = record { numbers = c.self.inside.numbers; labels = c.self.inside.labels; defined = c.self.inside.by_name; longest = c.self.inside.longest } in
    let new : Known = record { numbers = c.put.new.numbers; labels = c.make.new.self; defined = c.put.new.by_name; longest = c.max-self-inside.result } in
    let it : Definition = record { label = c.in-Some.label; text = c.args.text } in
    let most = c.max-self-inside.ensures in
    let len = ap (length {A = ℕ}) c.as_slice-len.ensures in
    definition_comes before after item c.args.n count fits settled old new c.min-k.result c.in-Some.label c.args.name.now c.args.text is says
    (λ least. omega (arith, least, c.min-k.ensures, c.rank.ensures.counted, c.count.ensures)) c.in-Ok.ensures.numbers c.in_ok-label.ensures.labels
    (made c.in_ok-label.field-0 c.in-Some.label c.min-k.result c.self.inside.labels c.make.new.self c.in-Some.is c.in_ok-label.ensures.made) c.in-Ok.ensures.names
    (long_with c.self.inside.longest c.max-self-inside.result c.self.inside.by_name c.put.new.by_name c.args.name.now it c.in-Ok.ensures.names (omega (arith, most)) (omega (arith, most, len)) c.self.invariant)
    (subst (AreDefinitionsOf _) (sym c.self.view_is) are)
