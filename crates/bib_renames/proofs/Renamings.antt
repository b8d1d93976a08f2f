-- Renamings that a session accepted, one after another.
use Rattle.std.proofs.Common.{◌≡◌, ℕ, ◌+◌, ◌<◌, ◌≤◌, Bool, true, ◌&&◌, List, [], ◌∷◌, ◌++◌, length, take, get_or, refl, sym, ◌∙◌, ap, ap₂, subst}
use Rattle.std.specs.List.{list_all, AllByRecursion}
use Rattle.std.proofs.lemmas.Bool.{and_parts, false≢true}
use Rattle.std.proofs.lemmas.List.{take_more, take_all}
use Rattle.std.proofs.lemmas.List.Folds.{list_all-append}
use Rattle.bib_spec.specs.Text.{Text}
use Rattle.bib_spec.specs.Reading.{Reading, Reads}
use Rattle.bib_store.specs.Readings.{OfReading}
use Rattle.bib_data.specs.declared.edit.Edit.{Edit}
use Rattle.bib_data.specs.declared.edit.Edit.TheVariants.{AddEntry, AddMany, DropField, InlineMacro, IntroduceMacro, MoveEntry, RegenerateKeys, RemoveEntry, RenameField, RenameKey, RenameMacro, SetField, SetType, UndefineMacro, DefineMacro, SetMacro}
use Rattle.bib_data.specs.declared.request.Request.{Request}
use Rattle.bib_data.specs.declared.request.Request.TheVariants as request
use Rattle.bib_journal.specs.OpenSteps.{SessionState, idle}
use Rattle.bib_journal.specs.Session.{started, MakesEdit}
use Rattle.bib_journal.specs.Renaming.{is_renaming}
use Rattle.bib_journal.proofs.OneMoreRequest.{does_last}
use Rattle.bib_journal.proofs.KeptRecords.{all-keep}
use Rattle.bib_renames.specs.declared.rename.Named.{Named}
use Rattle.bib_renames.specs.declared.rename.Named.TheVariants as named
use Rattle.bib_renames.specs.declared.rename.Change.{Change}
use Rattle.bib_renames.specs.Changes.{edit_named, edit_seen, count_named}
use Rattle.bib_renames.specs.Renamed.{is_rename, IsNameOf, HasRenamed, IsRenamed, renamed_files_keep}

-- ---- lists

-- one more at the end
pub all_last : {X : Type 0} (P : X → Type 0) (xs : List X) (x : X) → AllByRecursion P xs → P x → AllByRecursion P (xs ++ x ∷ [])
all_last P [] x all p = (p, tt)
all_last P (y ∷ xs) x all p = (all.0, all_last P xs x all.1 p)

-- one more of those that were seen
pub all_more : {X : Type 0} (P : X → Type 0) (xs : List X) (n : ℕ) (x : X) → n < length xs → x ≡ get_or xs n x → P x → AllByRecursion P (take n xs) → AllByRecursion P (take (n + 1) xs)
all_more {X} P xs n x lt is p all =
    subst (AllByRecursion P) (sym (take_more xs n x lt ∙ ap (λ (y : X). take n xs ++ y ∷ []) (sym is))) (all_last P (take n xs) x all p)

-- those that were seen are all
pub all_taken : {X : Type 0} (P : X → Type 0) (xs : List X) (n : ℕ) → length xs ≤ n → AllByRecursion P (take n xs) → AllByRecursion P xs
all_taken P xs n past all = subst (AllByRecursion P) (take_all n xs past) all

-- ---- renamings

named_rename : (what : Named) (old new : Text) → is_rename (request.Edit (edit_named what old new)) ≡ true
named_rename named.Entry old new = refl
named_rename named.Macro old new = refl

-- a name that was counted in both files
pub counted : (what : Named) (old new : Text) (side base : Reading) (n m : ℕ) → n ≡ 1 → m ≡ 0 → n ≡ count_named what new side → m ≡ count_named what new base
    → IsNameOf side base (request.Edit (edit_named what old new))
counted named.Entry old new side base n m one none in_side in_base = (sym in_side ∙ one, sym in_base ∙ none)
counted named.Macro old new side base n m one none in_side in_base = (sym in_side ∙ one, sym in_base ∙ none)

-- one more renaming
pub one_more : (side base file : Text) (change : Change) (edit : Edit) (old new : SessionState) → edit ≡ edit_seen change
    → OfReading side (λ rs. OfReading base (λ rb. IsNameOf rs rb (request.Edit (edit_seen change)))) → MakesEdit edit old new
    → HasRenamed side base file old → HasRenamed side base file new
one_more side base file change edit old new is given made has =
    let last : Request = request.Edit (edit_seen change) in
    record {
      renames = has.renames ++ last ∷ [];
      are = list_all-append is_rename has.renames (last ∷ []) ∙ ap₂ (λ (a b : Bool). a && (b && true)) has.are (named_rename change.what change.old change.new);
      given = λ rs reads_s rb reads_b. all_last (IsNameOf rs rb) has.renames last (has.given rs reads_s rb reads_b) (given rs reads_s rb reads_b);
      did = does_last has.renames last (idle (started file)) old new has.did (subst (λ (e : Edit). MakesEdit e old new) is made);
    }

-- a session that was just begun
pub none_yet : (side base file : Text) → HasRenamed side base file (idle (started file))
none_yet side base file = record { renames = []; are = refl; given = λ rs reads_s rb reads_b. tt; did = refl }

-- a file that stays as it is
pub stays : (side base file text : Text) → text ≡ file → IsRenamed side base file text
stays side base file text is = record { state = idle (started file); renamed = none_yet side base file; text = sym is }

-- ---- what they keep

renaming : (r : Request) → is_rename r ≡ true → is_renaming r ≡ true
renaming (request.Edit (RenameKey from to)) is = refl
renaming (request.Edit (RenameMacro from to)) is = refl
renaming (request.Edit (RegenerateKeys depth)) is = absurd (false≢true is)
renaming (request.Edit (InlineMacro name)) is = absurd (false≢true is)
renaming (request.Edit (IntroduceMacro name text)) is = absurd (false≢true is)
renaming (request.Edit (SetField key field value)) is = absurd (false≢true is)
renaming (request.Edit (DropField key field)) is = absurd (false≢true is)
renaming (request.Edit (AddEntry position entry)) is = absurd (false≢true is)
renaming (request.Edit (AddMany entries)) is = absurd (false≢true is)
renaming (request.Edit (RemoveEntry key)) is = absurd (false≢true is)
renaming (request.Edit (MoveEntry key position)) is = absurd (false≢true is)
renaming (request.Edit (SetType key kind_name)) is = absurd (false≢true is)
renaming (request.Edit (UndefineMacro name)) is = absurd (false≢true is)
renaming (request.Edit (RenameField from to key)) is = absurd (false≢true is)
renaming (request.Edit (DefineMacro name value)) is = absurd (false≢true is)
renaming (request.Edit (SetMacro name value)) is = absurd (false≢true is)
renaming (request.Place position edit) is = absurd (false≢true is)
renaming (request.Insert position text) is = absurd (false≢true is)
renaming (request.Begin label) is = absurd (false≢true is)
renaming request.End is = absurd (false≢true is)
renaming request.Undo is = absurd (false≢true is)
renaming request.Redo is = absurd (false≢true is)

all_renaming : (rs : List Request) → list_all is_rename rs ≡ true → list_all is_renaming rs ≡ true
all_renaming [] are = refl
all_renaming (r ∷ rs) are =
    let both = and_parts (is_rename r) (list_all is_rename rs) are in
    ap₂ (λ (a b : Bool). a && b) (renaming r both.0) (all_renaming rs both.1)

pub renamed-files-keep : renamed_files_keep
renamed-files-keep side base old new is db reads db' reads' =
    all-keep is.renamed.renames (idle (started old)) is.state (all_renaming is.renamed.renames is.renamed.are) is.renamed.did db reads db' (subst (λ (t : Text). Reads t db') (sym is.text) reads')
