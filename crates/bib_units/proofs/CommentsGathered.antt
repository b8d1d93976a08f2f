-- The comments of a file, one after another.
use Rattle.std.proofs.Common.{◌≡◌, ◌≢◌, ℕ, ◌+◌, ◌≤◌, List, [], ◌∷◌, ◌++◌, Some, slice_get, length, take, drop, refl, sym, ◌∙◌, ap, ap₂, arith, append_assoc, append-nil, length-append}
use Rattle.std.specs.List.{flat_map}
use Rattle.std.proofs.lemmas.List.{drop_all, drop_more}
use Rattle.std.proofs.lemmas.Option.{slice_get_within, get_or_from_slice_get}
use Rattle.std.proofs.Math.Seq.{take-append_seam, drop-append_seam}
use Rattle.bib_spec.specs.Text.{Text}
use Rattle.bib_spec.specs.Tree.{Tree, CommentTree, DefinitionTree, PreambleTree, EntryTree, tree_bytes}
use Rattle.bib_spec.specs.Reading.{Item, Reading, item_bytes}
use Rattle.bib_scan.specs.View.{View, view_of, kind_of}
use Rattle.bib_scan.specs.declared.view.Kind.TheVariants as kind
use Rattle.bib_units.specs.Comments.{if_comment, comment_bytes, comments_of}

pub drop-next : {X : Type 0} (xs : List X) (n : ℕ) (x : X) → slice_get xs n ≡ Some x → drop n xs ≡ x ∷ drop (n + 1) xs
drop-next xs n x at = drop_more xs n x (slice_get_within xs n x at) ∙ ap (λ y. y ∷ drop (n + 1) xs) (get_or_from_slice_get xs n x x at)

-- the comments from item n on begin with it, if it is one
pub comments-next : (items : List Item) (n : ℕ) (i : Item) → slice_get items n ≡ Some i → flat_map comment_bytes (drop n items) ≡ comment_bytes i ++ flat_map comment_bytes (drop (n + 1) items)
comments-next items n i at = ap (flat_map comment_bytes) (drop-next items n i at)

-- ---- the bytes of a comment

tree-comment : (tree : Tree) (text : Text) → kind_of tree ≡ kind.Comment → if_comment tree text ≡ text
tree-comment (CommentTree h) text is = refl
tree-comment (DefinitionTree d) text is = cc
tree-comment (PreambleTree p) text is = cc
tree-comment (EntryTree e) text is = cc

tree-other : (tree : Tree) (text : Text) → kind_of tree ≢ kind.Comment → if_comment tree text ≡ []
tree-other (CommentTree h) text other = absurd (other refl)
tree-other (DefinitionTree d) text other = refl
tree-other (PreambleTree p) text other = refl
tree-other (EntryTree e) text other = refl

pub of-comment : (i : Item) → kind_of i.tree ≡ kind.Comment → comment_bytes i ≡ item_bytes i
of-comment i is = tree-comment i.tree (item_bytes i) is

pub of-other : (i : Item) → kind_of i.tree ≢ kind.Comment → comment_bytes i ≡ []
of-other i other = tree-other i.tree (item_bytes i) other

-- how long an item is
pub item-len : (view : View) (i : Item) (body trail : Text) → view ≡ view_of i → body ≡ view.body → trail ≡ view.trail → length body + length trail ≡ length (item_bytes i)
item-len view i body trail seen body_is trail_is =
    ap₂ (λ (a b : Text). length a + length b) (body_is ∙ ap (λ (v : View). v.body) seen) (trail_is ∙ ap (λ (v : View). v.trail) seen)
    ∙ sym (length-append (tree_bytes i.tree) i.trail)

-- ---- a text that begins with another

pub begins-within : (a more text : Text) (len : ℕ) → len ≡ length a → text ≡ a ++ more → len ≤ length text
begins-within a more text len is begins = from (length more) is (ap length begins ∙ length-append a more)
  where
    from : {x y z : ℕ} (d : ℕ) → x ≡ y → z ≡ y + d → x ≤ z
    from d e f = omega (arith, e, f)

pub begins-first : (a more text : Text) (len : ℕ) → len ≡ length a → text ≡ a ++ more → take len text ≡ a
begins-first a more text len is begins = ap₂ take is begins ∙ take-append_seam a more

pub begins-rest : (a more text : Text) (len : ℕ) → len ≡ length a → text ≡ a ++ more → drop len text ≡ more
begins-rest a more text len is begins = ap₂ drop is begins ∙ drop-append_seam a more

-- ---- the comments so far

-- with those of the items from number n on, the bytes are those of all comments
abbrev pub AreCommentsTo : Reading → ℕ → Text → Type 0
AreCommentsTo r n out = out ++ flat_map comment_bytes (drop n r.items) ≡ comments_of r

pub comments-more : (r : Reading) (n : ℕ) (old new : Text) (i : Item) → slice_get r.items n ≡ Some i → new ≡ old ++ comment_bytes i → AreCommentsTo r n old → AreCommentsTo r (n + 1) new
comments-more r n old new i at added are =
    ap (λ t. t ++ flat_map comment_bytes (drop (n + 1) r.items)) added
    ∙ append_assoc old (comment_bytes i) (flat_map comment_bytes (drop (n + 1) r.items))
    ∙ ap (λ t. old ++ t) (sym (comments-next r.items n i at))
    ∙ are

pub comments-all : (r : Reading) (n : ℕ) (out : Text) → length r.items ≤ n → AreCommentsTo r n out → out ≡ comments_of r
comments-all r n out past are = sym (append-nil out) ∙ ap (λ l. out ++ flat_map comment_bytes l) (sym (drop_all n r.items past)) ∙ are

-- one comment more
pub comment-added : (i : Item) (old mid new body trail : Text) → kind_of i.tree ≡ kind.Comment → body ≡ tree_bytes i.tree → trail ≡ i.trail → mid ≡ old ++ body → new ≡ mid ++ trail → new ≡ old ++ comment_bytes i
comment-added i old mid new body trail is body_is trail_is to_mid to_new =
    to_new ∙ ap₂ (λ (a b : Text). a ++ b) (to_mid ∙ ap (λ (b : Text). old ++ b) body_is) trail_is ∙ append_assoc old (tree_bytes i.tree) i.trail ∙ ap (λ (b : Text). old ++ b) (sym (of-comment i is))
