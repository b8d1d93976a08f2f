use Rattle.bib_names.proofs.Words.{refl, sym, ◌∙◌, arith, map-append}
use Rattle.bib_names.proofs.BraceLemmas.{more_braces}
use Rattle.bib_names.proofs.NameListLemmas.{names_cut, names_on, names_end, names_of-words}
use Rattle.bib_names.proofs.name_list.names_of.Goals as goal
use Rattle.bib_names.proofs.name_list.names_of.Goals.{then-is_cut+in_ok-push, else-is_cut}

pub name_between-requires-clause-ordered : goal.name_between-requires-clause-ordered
name_between-requires-clause-ordered c =
    (names_cut c.args.text.now _ c.loop-place.start c.loop-place.place (omega arith) c.loop-place.invariant.names (sym c.is_cut.ensures ∙ c.if-is_cut.true)).0

pub loop-place-preserved : goal.loop-place-preserved
loop-place-preserved c =
    let text = c.args.text.now in
    let place = c.loop-place.place in
    let far = c.loop-place.invariant.names in
    record {
      braces = more_braces text place _ _ _ _ _ (omega arith) c.loop-place.invariant.braces refl c.and-braces.ensures.opened c.and-braces.ensures.closed;
      names = elim c.if-is_cut.branch [
        | then-is_cut+in_ok-push w ↦
            rw (w.names-is, w.start-is, w.in_ok-push.ensures.items, map-append, w.name_between.ensures)
            (names_cut text _ _ place (omega arith) far (sym c.is_cut.ensures ∙ w.if-is_cut.true)).1
        | else-is_cut w ↦ rw (w.names-is, w.start-is) (names_on text _ _ place (omega arith) far (sym c.is_cut.ensures ∙ w.if-is_cut.false))
      ];
    }

pub returns : goal.returns
returns c =
    let text = c.args.text.now in
    rw (c.from_vec.ensures, c.in_ok-push-2.ensures.items, map-append, c.name_between-2.ensures)
    (names_end text _ _ c.loop-place.place (omega arith) c.loop-place.invariant.names ∙ names_of-words text (sym c.is_blank.ensures ∙ c.if-is_blank.false))
