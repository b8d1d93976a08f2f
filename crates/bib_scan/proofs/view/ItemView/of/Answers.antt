use Rattle.bib_scan.proofs.Words.{◌≡◌, ℕ, ◌-◌, length, take, drop, refl, sym, ap, ◌∙◌, take_while, Text, is_space, after_run, goes_on_key, delimiter_view, all_fields_left, kind_named, read_head, read_opening}
use Rattle.bib_scan.specs.declared.view.Kind.TheVariants as kind
use Rattle.bib_scan.proofs.HeadLaws.{view_found, plain_view}
use Rattle.bib_scan.proofs.view.ItemView.of.Goals as goal

pub returns-in-Entry-clause-item : goal.returns-in-Entry-clause-item
returns-in-Entry-clause-item c tree is whole =
    let body : Text = c.args.body.now in
    let trail : Text = c.args.trail.now in
    let inside : Text = c.split_opening-delimiter.result.1.now in
    let d = delimiter_view c.split_opening-delimiter.result.0 in
    let key : c.split_at.result.0.now ≡ take_while (goes_on_key d) inside = c.split_at.ensures.front ∙ ap (λ (n : ℕ). take n inside) c.key_len.ensures.len in
    let after : c.split_at.result.1.now ≡ after_run (goes_on_key d) inside = c.split_at.ensures.back ∙ ap (λ (n : ℕ). drop n inside) c.key_len.ensures.len in
    let opened = c.split_opening-delimiter.ensures.parts ∙ ap read_opening c.past_space.ensures.rest in
    (λ i. record {
      kind = kind.Entry;
      body = body;
      trail = trail;
      type_name = (read_head body).0;
      key = key i;
      key_at = length body - length inside;
      fields = all_fields_left kind.Entry (length body) (after_run is_space (after i));
    })
    ∙ view_found body trail _ kind.Entry _ tree refl (sym c.in-Entry.is ∙ c.named.ensures ∙ ap (λ (h : Text × Text). kind_named h.0) c.split_head.ensures.parts) (opened ∙ ap (λ (h : Text × Text). read_opening (after_run is_space h.1)) c.split_head.ensures.parts) is whole

pub returns-in_default-clause-item : goal.returns-in_default-clause-item
returns-in_default-clause-item c tree is whole =
    let body : Text = c.args.body.now in
    let trail : Text = c.args.trail.now in
    let opened = c.split_opening-delimiter.ensures.parts ∙ ap read_opening c.past_space.ensures.rest in
    sym (plain_view body trail (read_head body).0 c.named.result (delimiter_view c.split_opening-delimiter.result.0, c.split_opening-delimiter.result.1.now) c.in_default.not-Entry)
    ∙ view_found body trail _ c.named.result _ tree refl (c.named.ensures ∙ ap (λ (h : Text × Text). kind_named h.0) c.split_head.ensures.parts) (opened ∙ ap (λ (h : Text × Text). read_opening (after_run is_space h.1)) c.split_head.ensures.parts) is whole
