-- The faults that can be explained.
use Rattle.std.specs.Prelude.{Bool, ◌||◌, List, [], ◌∷◌, ◌++◌, bytes_eq, Option, find, codes}
use Rattle.bib_spec.specs.Text.{Text, same}
use Rattle.fault_pages.specs.declared.asking.Page.{Page}

-- a fault's number, in digits, and its name
abbrev pub Head : Type 0
Head = Text × Text

-- the number and the name of a page
abbrev pub head_of : Page → Head
head_of page = (page.number.now, page.name.now)

-- the word is the fault's number, or its name in upper or lower case
abbrev pub is_asked : Text → Head → Bool
is_asked word head = bytes_eq word head.0 || same word head.1

-- ---- all faults, by their numbers

-- the bytes of a file are not valid
abbrev pub faults_of_bytes : List Head
faults_of_bytes =
    (codes "1", codes "Unended")
    ∷ (codes "2", codes "ExpectedName")
    ∷ (codes "3", codes "ExpectedEquals")
    ∷ (codes "4", codes "ExpectedCommaOrClose")
    ∷ (codes "5", codes "ExpectedValue")
    ∷ (codes "6", codes "UnbalancedBrace")
    ∷ (codes "7", codes "KeyTooLong")
    ∷ []

-- something is too long, or too much
abbrev pub faults_of_limits : List Head
faults_of_limits =
    (codes "8", codes "TextTooLong")
    ∷ (codes "9", codes "FileTooLong")
    ∷ (codes "10", codes "Memory")
    ∷ []

-- what you ask for is not there, or BibTeX may say something else
abbrev pub faults_of_requests : List Head
faults_of_requests =
    (codes "11", codes "NoSuchEntry")
    ∷ (codes "12", codes "BadSplice")
    ∷ (codes "13", codes "NoSuchFault")
    ∷ (codes "14", codes "NotPlain")
    ∷ (codes "15", codes "TooDeep")
    ∷ []

-- names or texts cannot be written
abbrev pub faults_of_texts : List Head
faults_of_texts =
    (codes "21", codes "TooManyCommas")
    ∷ (codes "22", codes "UnbalancedName")
    ∷ (codes "23", codes "BadTemplate")
    ∷ (codes "24", codes "NotUtf8")
    ∷ []

-- a question is not answered
abbrev pub faults_of_questions : List Head
faults_of_questions = faults_of_requests ++ faults_of_texts

-- an edit is refused, or no edits are found
abbrev pub faults_of_edits : List Head
faults_of_edits =
    (codes "31", codes "BadKey")
    ∷ (codes "32", codes "BadName")
    ∷ (codes "33", codes "BadValue")
    ∷ (codes "34", codes "BadPosition")
    ∷ (codes "35", codes "NotFound")
    ∷ (codes "36", codes "Ambiguous")
    ∷ (codes "37", codes "KeyInUse")
    ∷ (codes "38", codes "NameInUse")
    ∷ (codes "39", codes "Referred")
    ∷ (codes "40", codes "WouldMerge")
    ∷ (codes "41", codes "JournalFull")
    ∷ (codes "46", codes "NoScript")
    ∷ []

-- nothing can be undone or redone, a journal does not fit, or steps do not
abbrev pub faults_of_journals : List Head
faults_of_journals =
    (codes "51", codes "NothingToUndo")
    ∷ (codes "52", codes "NothingToRedo")
    ∷ (codes "53", codes "BadJournal")
    ∷ (codes "54", codes "JournalMismatch")
    ∷ (codes "55", codes "StepOpen")
    ∷ (codes "56", codes "NoOpenStep")
    ∷ []

-- a RIS text or a script is not read
abbrev pub faults_of_inputs : List Head
faults_of_inputs =
    (codes "61", codes "NoStart")
    ∷ (codes "62", codes "NoEnd")
    ∷ (codes "63", codes "EmptyType")
    ∷ (codes "64", codes "UnbalancedText")
    ∷ (codes "65", codes "SkippedLine")
    ∷ (codes "71", codes "BadScript")
    ∷ []

-- all of them
abbrev pub faults : List Head
faults = faults_of_bytes ++ (faults_of_limits ++ (faults_of_questions ++ (faults_of_edits ++ (faults_of_journals ++ faults_of_inputs))))

-- the fault that the word names, by number or name, if there is one
abbrev pub asked : Text → Option Head
asked word = find (is_asked word) faults
