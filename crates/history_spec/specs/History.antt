-- What a session stands for: the files before its present file, the present file, and the files after it. (dialect)
use Rattle.std.specs.Prelude.{ℕ, ◌≡◌, ◌≢◌, zero, suc, List, [], ◌∷◌, ◌++◌, length}
use Rattle.bib_spec.specs.Text.{Text}

-- whole files: the past ones, from the oldest; the present one; the future ones, from the next to be redone
pub record History : Type 0 where
  pub past : List Text
  pub present : Text
  pub future : List Text

-- the present file moves to the end of the past, this file takes its place, and the future is emptied
pub record Edits (file : Text) (old new : History) : Type 0 where
  pub past : new.past ≡ old.past ++ old.present ∷ []
  pub present : new.present ≡ file
  pub future : new.future ≡ []

-- This file replaces the present one, and past and future are unchanged: a further edit of the last step.
pub record Amends (file : Text) (old new : History) : Type 0 where
  pub past : new.past ≡ old.past
  pub present : new.present ≡ file
  pub future : new.future ≡ old.future

-- the present file moves to the front of the future, and the last of the past takes its place
pub record Undoes (old new : History) : Type 0 where
  pub past : old.past ≡ new.past ++ new.present ∷ []
  pub future : new.future ≡ old.present ∷ old.future

-- the present file moves to the end of the past, and the first of the future takes its place
pub record Redoes (old new : History) : Type 0 where
  pub past : new.past ≡ old.past ++ old.present ∷ []
  pub future : old.future ≡ new.present ∷ new.future

-- a move from one history to another
abbrev pub Move : Type 1
Move = History → History → Type 0

-- `n` moves of one kind, one after another
abbrev pub Times : ℕ → Move → Move
Times zero Moves old new = new ≡ old
Times (suc n) Moves old new = (mid : History) × Moves old mid × Times n Moves mid new

-- all the files, from the oldest
abbrev pub files_of : History → List Text
files_of h = h.past ++ h.present ∷ h.future

-- ---- laws

-- the move can be made, and leads to this history alone
pub record LeadsAlone (Moves : Move) (old new : History) : Type 0 where
  pub made : Moves old new
  pub alone : (other : History) → Moves old other → other ≡ new

-- an edit leads to one history
abbrev pub one_edit : Type 0
one_edit = (file : Text) (old : History) → (new : History) × LeadsAlone (Edits file) old new

-- a further edit of a step leads to one history
abbrev pub one_amendment : Type 0
one_amendment = (file : Text) (old : History) → (new : History) × LeadsAlone (Amends file) old new

-- if there is a past, an undo leads to one history
abbrev pub one_undo : Type 0
one_undo = (old : History) → old.past ≢ [] → (new : History) × LeadsAlone Undoes old new

-- if there is a future, a redo leads to one history
abbrev pub one_redo : Type 0
one_redo = (old : History) → old.future ≢ [] → (new : History) × LeadsAlone Redoes old new

-- if there is no past, there is no undo
abbrev pub no_undo : Type 0
no_undo = (old new : History) → old.past ≡ [] → Undoes old new → ⊥

-- if there is no future, there is no redo
abbrev pub no_redo : Type 0
no_redo = (old new : History) → old.future ≡ [] → Redoes old new → ⊥

-- an undo takes an edit back, which can then be redone
abbrev pub undo_after_edit : Type 0
undo_after_edit = (file : Text) (a b c : History) → Edits file a b → Undoes b c → c ≡ record a { future = file ∷ [] }

-- an edit and a further edit of the same step are one edit, which leads to the file of the second
abbrev pub amended_edit : Type 0
amended_edit = (first second : Text) (a b c : History) → Edits first a b → Amends second b c → Edits second a c

-- a redo takes an undo back
abbrev pub redo_after_undo : Type 0
redo_after_undo = (a b c : History) → Undoes a b → Redoes b c → c ≡ a

-- an undo takes a redo back
abbrev pub undo_after_redo : Type 0
undo_after_redo = (a b c : History) → Redoes a b → Undoes b c → c ≡ a

-- the present is the first of all these files
pub record IsAtFirst (files : List Text) (h : History) : Type 0 where
  pub past : h.past ≡ []
  pub all : h.present ∷ h.future ≡ files

-- the present is the last of all these files
pub record IsAtLast (files : List Text) (h : History) : Type 0 where
  pub future : h.future ≡ []
  pub all : h.past ++ h.present ∷ [] ≡ files

-- As many undos as there are past files can be made, and lead to one history: its present is the first file, and no file is
-- lost.
abbrev pub undoing_all : Type 0
undoing_all = (old : History) → (new : History) × LeadsAlone (Times (length old.past) Undoes) old new × IsAtFirst (files_of old) new

-- As many redos as there are future files can be made, and lead to one history: its present is the last file, and no file
-- is lost.
abbrev pub redoing_all : Type 0
redoing_all = (old : History) → (new : History) × LeadsAlone (Times (length old.future) Redoes) old new × IsAtLast (files_of old) new
