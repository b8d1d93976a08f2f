-- What `lint` warns of: the code of each kind of finding, and the words of its line. (dialect)
use Rattle.std.specs.Prelude.{codes}
use Rattle.bib_spec.specs.Text.{Text}
use Rattle.bib_answers.specs.declared.warnings.Warning.{Warning}
use Rattle.bib_answers.specs.declared.warnings.Warning.TheVariants.{UndefinedMacro, OwnMacro, RepeatedField, RepeatedKey, NoKey, OddKey, MissingParent, OwnParent, EarlyParent, NestedParent, ConflictMarker, LostEntry, LoneBrace, RepeatedMacro, ManyCommas, EmptyCrossref, FieldNotUtf8, KeyNotUtf8, TypeNotUtf8, MissingKey}

-- the code of a kind of finding
abbrev pub code_of : Warning → Text
code_of UndefinedMacro = codes "undefined-macro"
code_of OwnMacro = codes "own-macro"
code_of RepeatedField = codes "repeated-field"
code_of RepeatedKey = codes "repeated-key"
code_of NoKey = codes "no-key"
code_of OddKey = codes "odd-key"
code_of MissingParent = codes "missing-parent"
code_of OwnParent = codes "own-parent"
code_of EarlyParent = codes "early-parent"
code_of NestedParent = codes "nested-parent"
code_of ConflictMarker = codes "conflict-marker"
code_of LostEntry = codes "lost-entry"
code_of LoneBrace = codes "lone-brace"
code_of RepeatedMacro = codes "repeated-macro"
code_of ManyCommas = codes "refused-name"
code_of EmptyCrossref = codes "empty-crossref"
code_of FieldNotUtf8 = codes "not-utf8"
code_of KeyNotUtf8 = codes "not-utf8"
code_of TypeNotUtf8 = codes "not-utf8"
code_of MissingKey = codes "missing-key"

-- what a line says before the name, key or text that is found
abbrev pub words_before : Warning → Text
words_before UndefinedMacro = codes "macro "
words_before OwnMacro = codes "macro "
words_before RepeatedField = codes "field "
words_before RepeatedKey = codes "key "
words_before NoKey = codes "the entry"
words_before OddKey = codes "key "
words_before MissingParent = codes "crossref "
words_before OwnParent = codes "crossref "
words_before EarlyParent = codes "parent "
words_before NestedParent = codes "parent "
words_before ConflictMarker = codes "conflict marker "
words_before LostEntry = codes "text "
words_before LoneBrace = codes "brace "
words_before RepeatedMacro = codes "macro "
words_before ManyCommas = codes "name "
words_before EmptyCrossref = codes "the crossref of "
words_before FieldNotUtf8 = codes "field "
words_before KeyNotUtf8 = codes "key "
words_before TypeNotUtf8 = codes "type "
words_before MissingKey = codes "key "

-- what a line says after the name, key or text that is found
abbrev pub words_after : Warning → Text
words_after UndefinedMacro = codes " is not defined"
words_after OwnMacro = codes " is used in its own definition"
words_after RepeatedField = codes " is there already"
words_after RepeatedKey = codes " is that of an earlier entry"
words_after NoKey = codes " has no key"
words_after OddKey = codes " is none that an edit could write"
words_after MissingParent = codes " names no entry"
words_after OwnParent = codes " names its own entry"
words_after EarlyParent = codes " stands before its child: BibTeX finds this parent only if it is cited itself or named by an earlier child"
words_after NestedParent = codes " has a parent itself, whose fields are not inherited"
words_after ConflictMarker = codes " was left by a merge"
words_after LostEntry = codes "{ has no at-sign before it and begins no entry"
words_after LoneBrace = codes " closes no item"
words_after RepeatedMacro = codes " is defined already: the uses after this have the new text"
words_after ManyCommas = codes " has too many commas: 21 TooManyCommas"
words_after EmptyCrossref = codes " is empty and an entry has no key"
words_after FieldNotUtf8 = codes " is not UTF-8: 24 NotUtf8"
words_after KeyNotUtf8 = codes " is not UTF-8: 24 NotUtf8"
words_after TypeNotUtf8 = codes " is not UTF-8: 24 NotUtf8"
words_after MissingKey = codes " is cited and no entry has it"
