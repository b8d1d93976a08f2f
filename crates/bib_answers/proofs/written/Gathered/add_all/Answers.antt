use Rattle.bib_answers.proofs.Words.{List, subst, sym, option_copied, Field, field_seen}
use Rattle.bib_answers.proofs.WrittenFields.{IsGathering, gathering_start, gathering_more, gathering_all}
use Rattle.bib_answers.proofs.written.Gathered.add_all.Goals as goal

pub fields-init : goal.fields-init
fields-init c =
    let names = c.args.self.now.names in
    let old = c.args.self.now.fields.items in
    subst (λ (rest : List Field). IsGathering (option_copied c.args.from) names old c.args.item.now.fields rest names old) (sym c.fields-fields.ensures.fields)
    (gathering_start (option_copied c.args.from) names old c.args.item.now.fields c.requires)

pub add-requires : goal.add-requires
add-requires c =
    let now = subst (λ (rest : List Field). IsGathering (option_copied c.args.from) c.args.self.now.names c.args.self.now.fields.items c.args.item.now.fields rest c.fields.self.names c.fields.self.fields.items) c.in-Some.ensures.steps c.fields.invariant in
    now.sound.0.short

pub fields-preserved : goal.fields-preserved
fields-preserved c =
    gathering_more (option_copied c.args.from) c.args.self.now.names c.args.self.now.fields.items c.args.item.now.fields (field_seen c.in-Some.field) c.next.new.self c.fields.self.names c.add.new.self.names c.fields.self.fields.items c.add.new.self.fields.items
    c.in_ok-add.ensures
    (subst (λ (rest : List Field). IsGathering (option_copied c.args.from) c.args.self.now.names c.args.self.now.fields.items c.args.item.now.fields rest c.fields.self.names c.fields.self.fields.items) c.in-Some.ensures.steps c.fields.invariant)

pub returns : goal.returns
returns c seen before =
    gathering_all (option_copied c.args.from) c.args.self.now.names c.args.self.now.fields.items c.args.item.now.fields c.fields.self.names c.fields.self.fields.items seen before
    (subst (λ (rest : List Field). IsGathering (option_copied c.args.from) c.args.self.now.names c.args.self.now.fields.items c.args.item.now.fields rest c.fields.self.names c.fields.self.fields.items) c.in_default.ensures.steps.0 c.fields.invariant)
