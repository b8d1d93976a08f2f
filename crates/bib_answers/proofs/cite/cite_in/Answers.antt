use Rattle.bib_answers.proofs.Words.{◌<◌, All, length, sym, subst, ◌∙◌, entries_of}
use Rattle.bib_answers.proofs.CitedNumbers.{listed_within, unknown_within}
use Rattle.bib_answers.proofs.cite.cite_in.Goals as goal

pub listed_text-requires : goal.listed_text-requires
listed_text-requires c r reads =
    subst (All (λ n. n < length (entries_of r))) (sym (c.as_slice.ensures ∙ c.in-Ok.ensures.listed r reads)) (listed_within (entries_of r) c.args.keys.now c.args.min)

pub add_unknown-requires : goal.add_unknown-requires
add_unknown-requires c =
    let opened = c.opens.ensures in
    subst (All (λ place. place < length c.args.keys.now)) (sym (c.as_slice-2.ensures ∙ c.in-Ok.ensures.unknown opened.0 opened.1.reads)) (unknown_within (entries_of opened.0) c.args.keys.now)
