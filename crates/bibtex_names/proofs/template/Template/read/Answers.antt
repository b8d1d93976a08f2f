use Rattle.bib_names.proofs.Words.{◌≡◌, ◌∙◌, sym, refl, arith, rules, drop, balances}
use Rattle.std.specs.Prelude.{Some, Option}
use Rattle.bib_names.proofs.BalanceLaws.{balances-is}
use Rattle.bib_names.proofs.BraceLemmas.{more_braces}
use Rattle.bibtex_names.specs.Template.{front_group}
use Rattle.bibtex_names.specs.declared.template.Group.{Group}
use Rattle.bibtex_names.proofs.TemplateLemmas.{groups_on, groups_more, groups_last, template_read, template_unbalanced}
use Rattle.bibtex_names.proofs.template.Template.read.Goals as goal
use Rattle.bibtex_names.proofs.template.Template.read.Goals.{then-begins_group_at+in_ok-group+in-Some+in_ok-push, else-begins_group_at}

pub returns-then-not-is_balanced-clause-fault : goal.returns-then-not-is_balanced-clause-fault
returns-then-not-is_balanced-clause-fault c =
    let bytes = c.args.bytes.now in
    let is : c.is_balanced.result ≡ balances bytes = balances-is bytes c.is_balanced.result c.is_balanced.ensures.0 c.is_balanced.ensures.1 in
    λ _. template_unbalanced bytes (sym c.if-not-is_balanced.true ∙ is)

pub loop-place-preserved : goal.loop-place-preserved
loop-place-preserved c =
    let bytes = c.args.bytes.now in
    let place = c.loop-place.place in
    let far = c.loop-place.invariant.groups in
    record {
      braces = more_braces bytes place _ _ _ _ _ (omega arith) c.loop-place.invariant.braces refl c.and-braces.ensures.opened c.and-braces.ensures.closed;
      groups = elim c.if-begins_group_at.branch [
        | then-begins_group_at+in_ok-group+in-Some+in_ok-push w ↦
            let told : ◌≡◌ {A = Option Group} (Some w.in-Some.group) (front_group (drop place bytes)) = search rules in
            rw (w.groups-is, w.in_ok-push.ensures.items)
            (groups_more bytes c.loop-place.groups.items w.in-Some.group place (omega arith) far (sym c.begins_group_at.ensures ∙ w.if-begins_group_at.true) told)
        | else-begins_group_at w ↦
            rw w.groups-is (groups_on bytes c.loop-place.groups.items place (omega arith) far (sym c.begins_group_at.ensures ∙ w.if-begins_group_at.false))
      ];
    }

pub returns-clause-found : goal.returns-clause-found
returns-clause-found c =
    let bytes = c.args.bytes.now in
    let is : c.is_balanced.result ≡ balances bytes = balances-is bytes c.is_balanced.result c.is_balanced.ensures.0 c.is_balanced.ensures.1 in
    rw (c.in_ok-copied.ensures, c.plain_front.ensures, c.from_vec.ensures)
    (template_read bytes c.loop-place.groups.items (sym c.if-not-is_balanced.false ∙ is) (groups_last bytes c.loop-place.groups.items c.loop-place.place (omega arith) c.loop-place.invariant.groups))
