-- What calls in turn leave at each path.
use Rattle.std.specs.Prelude.{◌≡◌, ◌≢◌, Option, Some, None, IfSome}
use Rattle.std.proofs.Common.{inl, inr, sym, ◌∙◌, ap, subst}
use Rattle.bib_spec.specs.Text.{Text}
use Rattle.bib_files.specs.Folders.{Held, Files, Told, Keeps}
use Rattle.bib_files.specs.Storing.{Paths, AreApart, PutsIf, MovesIf, CanStore, HasNew, AreStored, AreUnstored}

-- one call after another
pub then : {P Q R : Files → Files → Type 0} (a b c : Option Files) → ((x y z : Files) → P x y → Q y z → R x z) → Told P a b → Told Q b c → Told R a c
then None b c join p q = tt
then (Some x) None c join p q = absurd p
then (Some x) (Some y) None join p q = absurd q
then (Some x) (Some y) (Some z) join p q = join x y z p q

pub weaker : {P R : Files → Files → Type 0} (a b : Option Files) → ((x y : Files) → P x y → R x y) → Told P a b → Told R a b
weaker None b so p = tt
weaker (Some x) None so p = absurd p
weaker (Some x) (Some y) so p = so x y p

-- a call whose path is another's
pub at_path : (P : Text → Files → Files → Type 0) (a b : Option Files) (p q : Text) → p ≡ q → Told (P p) a b → Told (P q) a b
at_path P a b p q is = subst (λ (t : Text). Told (P t) a b) is

-- what was so of the folder before
pub with_old : {P R : Files → Files → Type 0} {C : Files → Type 0} (a b : Option Files) → IfSome a C → ((x y : Files) → C x → P x y → R x y) → Told P a b → Told R a b
with_old None b c so p = tt
with_old (Some x) None c so p = absurd p
with_old (Some x) (Some y) c so p = so x y c p

-- ---- what is kept

-- at each path but those where new bytes are written first is what was there
abbrev pub KeepsAll : Paths → Files → Files → Type 0
KeepsAll paths x y = (p : Text) → p ≢ paths.new_file → p ≢ paths.new_journal → y p ≡ x p

pub kept_file : (paths : Paths) (x y : Files) → Keeps paths.new_file x y → KeepsAll paths x y
kept_file paths x y keeps p n m = keeps p n

pub kept_journal : (paths : Paths) (x y : Files) → Keeps paths.new_journal x y → KeepsAll paths x y
kept_journal paths x y keeps p n m = keeps p m

pub kept_both : (paths : Paths) (x y z : Files) → KeepsAll paths x y → KeepsAll paths y z → KeepsAll paths x z
kept_both paths x y z one two p n m = two p n m ∙ one p n m

pub puts_keeps : (path : Text) (bytes : Option Text) (x y : Files) → PutsIf path bytes x y → Keeps path x y
puts_keeps path None x y is p n = ap (λ (f : Files). f p) is
puts_keeps path (Some bytes) x y puts p n = puts.others p n

pub unstored : (paths : Paths) (file : Option Text) → AreApart paths → (x y : Files) → KeepsAll paths x y → AreUnstored paths file x y
unstored paths file apart x y keeps = record {
  file_there = inl (keeps paths.file apart.file_new_file apart.file_new_journal);
  others = λ p k n m. keeps p n m;
}

-- ---- what is written

-- at the path is a file with these bytes, if there are any
abbrev pub Waits : Text → Option Text → Files → Type 0
Waits path (Some bytes) y = y path ≡ Held.file bytes
Waits path None y = Unit {0}

pub puts_waits : (path : Text) (bytes : Option Text) (x y : Files) → PutsIf path bytes x y → Waits path bytes y
puts_waits path None x y is = tt
puts_waits path (Some bytes) x y puts = puts.there

pub waits_still : (path : Text) (bytes : Option Text) (x y : Files) → y path ≡ x path → Waits path bytes x → Waits path bytes y
waits_still path None x y is waits = tt
waits_still path (Some bytes) x y is waits = is ∙ waits

pub record AreWritten (paths : Paths) (file journal : Option Text) (x y : Files) : Type 0 where
  pub new_file : Waits paths.new_file file y
  pub new_journal : Waits paths.new_journal journal y
  pub keeps : KeepsAll paths x y

pub written : (paths : Paths) (file journal : Option Text) → AreApart paths → (x y z : Files) → PutsIf paths.new_file file x y → PutsIf paths.new_journal journal y z → AreWritten paths file journal x z
written paths file journal apart x y z one two = record {
  new_file = waits_still paths.new_file file y z (puts_keeps paths.new_journal journal y z two paths.new_file apart.new_file_new_journal) (puts_waits paths.new_file file x y one);
  new_journal = puts_waits paths.new_journal journal y z two;
  keeps = kept_both paths x y z (kept_file paths x y (puts_keeps paths.new_file file x y one)) (kept_journal paths y z (puts_keeps paths.new_journal journal y z two));
}

pub written_keeps : (paths : Paths) (file journal : Option Text) (x y : Files) → AreWritten paths file journal x y → KeepsAll paths x y
written_keeps paths file journal x y w = w.keeps

-- ---- what is put in place

pub record IsPlaced (paths : Paths) (file journal : Option Text) (x y : Files) : Type 0 where
  pub file_there : HasNew paths.file file x y
  pub new_journal : Waits paths.new_journal journal y
  pub others : (p : Text) → p ≢ paths.file → p ≢ paths.new_file → p ≢ paths.new_journal → y p ≡ x p

pub placed : (paths : Paths) (file journal : Option Text) → AreApart paths → (x y z : Files) → AreWritten paths file journal x y → MovesIf file paths.new_file paths.file y z → IsPlaced paths file journal x z
placed paths None journal apart x y z w is = record {
  file_there = ap (λ (f : Files). f paths.file) is ∙ w.keeps paths.file apart.file_new_file apart.file_new_journal;
  new_journal = waits_still paths.new_journal journal y z (ap (λ (f : Files). f paths.new_journal) is) w.new_journal;
  others = λ p k n m. ap (λ (f : Files). f p) is ∙ w.keeps p n m;
}
placed paths (Some bytes) journal apart x y z w moves = record {
  file_there = moves.there ∙ w.new_file;
  new_journal = waits_still paths.new_journal journal y z (moves.others paths.new_journal (λ e. apart.new_file_new_journal (sym e)) (λ e. apart.file_new_journal (sym e))) w.new_journal;
  others = λ p k n m. moves.others p n k ∙ w.keeps p n m;
}

-- the new file stays where other paths change
has_still : (path : Text) (bytes : Option Text) (x y z : Files) → z path ≡ y path → HasNew path bytes x y → HasNew path bytes x z
has_still path None x y z is has = is ∙ has
has_still path (Some bytes) x y z is has = is ∙ has

pub file_alone : (paths : Paths) (file journal : Option Text) → AreApart paths → (x y z : Files) → IsPlaced paths file journal x y → Keeps paths.new_journal y z → AreUnstored paths file x z
file_alone paths file journal apart x y z at keeps = record {
  file_there = inr (has_still paths.file file x y z (keeps paths.file apart.file_new_journal) at.file_there);
  others = λ p k n m. keeps p m ∙ at.others p k n m;
}

-- all but what was so before
pub record IsDone (paths : Paths) (file journal : Option Text) (x y : Files) : Type 0 where
  pub file_there : HasNew paths.file file x y
  pub journal_there : HasNew paths.journal journal x y
  pub others : (p : Text) → p ≢ paths.file → p ≢ paths.journal → p ≢ paths.new_file → p ≢ paths.new_journal → y p ≡ x p

pub done : (paths : Paths) (file journal : Option Text) → AreApart paths → (x y z : Files) → IsPlaced paths file journal x y → MovesIf journal paths.new_journal paths.journal y z → IsDone paths file journal x z
done paths file None apart x y z at is = record {
  file_there = has_still paths.file file x y z (ap (λ (f : Files). f paths.file) is) at.file_there;
  journal_there = ap (λ (f : Files). f paths.journal) is ∙ at.others paths.journal (λ e. apart.file_journal (sym e)) apart.journal_new_file apart.journal_new_journal;
  others = λ p k l n m. ap (λ (f : Files). f p) is ∙ at.others p k n m;
}
done paths file (Some bytes) apart x y z at moves = record {
  file_there = has_still paths.file file x y z (moves.others paths.file apart.file_new_journal apart.file_journal) at.file_there;
  journal_there = moves.there ∙ at.new_journal;
  others = λ p k l n m. moves.others p m l ∙ at.others p k n m;
}

pub stored : (paths : Paths) (file journal : Option Text) (x y : Files) → CanStore paths file journal x → IsDone paths file journal x y → AreStored paths file journal x y
stored paths file journal x y could is = record {
  could = could;
  file_there = is.file_there;
  journal_there = is.journal_there;
  others = is.others;
}
