use Rattle.bib_ris.proofs.Words.{◌≡◌, ◌∙◌, ◌+◌, ◌++◌, ◌∷◌, [], false, true, List, length, take, drop, reverse, refl, rules, sym, ap, Text, is_new_key, NewEntry, with_keys}
use Rattle.std.proofs.lemmas.List.{reverse-append, length-set}
use Rattle.std.proofs.lemmas.Option.{slice_get_read}
use Rattle.bib_ris.proofs.GivenKeys.{key_kept, key_given}
use Rattle.bib_ris.proofs.drafts.give_key.Goals as goal

pub returns-then-not-needs_key-clause-given : goal.returns-then-not-needs_key-clause-given
returns-then-not-needs_key-clause-given c =
    let has : is_new_key c.index.result.now.key ≡ true = search rules in
    key_kept c.args.entries.now.items c.args.n c.index.result.now c.requires c.index.ensures (reverse c.args.left.now.items) has

pub returns-in-Some-clause-given : goal.returns-in-Some-clause-given
returns-in-Some-clause-given c =
    let entries = c.args.entries.now.items in
    let entry = c.index.result.now in
    let needs : is_new_key entry.key ≡ false = search rules in
    let given = c.set_key.ensures entry (slice_get_read entries (length entries) c.args.n entry refl c.requires c.index.ensures) in
    let left : reverse c.args.left.now.items ≡ c.in-Some.key ∷ reverse c.pop.new.self.items =
    ap (reverse {A = Text}) c.in-Some.ensures.items ∙ reverse-append c.pop.new.self.items (c.in-Some.key ∷ []) in
    ap (λ (es : List NewEntry). take (c.args.n + 1) es ++ with_keys (reverse c.pop.new.self.items) (drop (c.args.n + 1) es)) given
    ∙ key_given entries c.args.n entry c.requires c.index.ensures c.in-Some.key (reverse c.pop.new.self.items) needs
    ∙ ap (λ (keys : List Text). take c.args.n entries ++ with_keys keys (drop c.args.n entries)) (sym left)

pub returns-in-Some-clause-all : goal.returns-in-Some-clause-all
returns-in-Some-clause-all c =
    let entries = c.args.entries.now.items in
    let entry = c.index.result.now in
    ap (length {A = NewEntry}) (c.set_key.ensures entry (slice_get_read entries (length entries) c.args.n entry refl c.requires c.index.ensures))
    ∙ length-set entries c.args.n (record entry { key = c.in-Some.key })
