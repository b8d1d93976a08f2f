use Rattle.std.proofs.Common.{◌+◌, ◌<◌, ◌∙◌, List, length, take, sym, ap, subst, arith, option_and_then}
use Rattle.std.proofs.lemmas.List.{take_all}
use Rattle.bib_spec.specs.Texts.{months, macros_at}
use Rattle.bib_spec.specs.Records.{EntryTexts, entries_of, crossref_text, texts_of}
use Rattle.bib_store.proofs.EntryItems.{IsEntryAt, entry_at, key_seen}
use Rattle.bibtex_places.specs.declared.lists.EntryKey.{EntryKey}
use Rattle.bibtex_places.specs.Lists.{AreKeysOf}
use Rattle.bibtex_lists.proofs.EntryKeys.{keys_push}
use Rattle.bibtex_lists.proofs.entry_keys.entry_keys.Goals as goal

pub entries-init : goal.entries-init
entries-init g c r reads = subst (λ (l : List EntryKey). AreKeysOf l (take 0 (entries_of r))) (sym c.new-given.ensures.items) tt

pub entries-preserved : goal.entries-preserved
entries-preserved g c r reads =
    let count = c.entry_count-n-end.ensures r reads in
    let test = c.entries-test.true in
    let lt : c.entries.n < length (entries_of r) = omega (arith, count, test) in
    let at = entry_at r c.entries.n lt in
    let it : IsEntryAt r c.entries.n at.0 = at.1 in
    let given : EntryKey = record { key = c.key.result; crossref = c.crossref_text.result } in
    subst (λ (l : List EntryKey). AreKeysOf l (take (c.entries.n + 1) (entries_of r))) (sym c.in_ok-push.ensures.items)
    (keys_push c.entries.given.items (entries_of r) c.entries.n given (texts_of (macros_at months r.items it.number) it.entry) it.texts (c.entries.invariant r reads) (record {
      key = sym (key_seen r c.entries.n at.0 it c.key.result.now c.entry.result c.key.ensures (c.entry.ensures r reads at.0 it.listed));
      crossref = sym (c.crossref_text.ensures r reads ∙ ap (option_and_then crossref_text) it.texts);
    }))

pub returns : goal.returns
returns g c r reads =
    let count = c.entry_count-n-end.ensures r reads in
    let test = c.entries-test.false in
    subst (λ (texts : List EntryTexts). AreKeysOf c.entries.given.items texts) (take_all c.entries.n (entries_of r) (omega (arith, count, test))) (c.entries.invariant r reads)
