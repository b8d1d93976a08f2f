use Rattle.bib_keys.proofs.Words.{◌≡◌, ◌∙◌, ℕ, List, [], ◌∷◌, ◌++◌, ◌+◌, ◌-◌, Option, sym, ap, arith, append_assoc, append-nil, entries_of, parent, lineage, AreKnown, kept_of}
use Rattle.std.proofs.Common.{IsSome}
use Rattle.std.proofs.lemmas.List.Elements.{All-nil, All-push, All-same, All-weaker}
use Rattle.bib_spec.proofs.Lineages.{lineage_more, lineage_none, lineage_done}
use Rattle.bib_keys.proofs.label_bases.Parents.find_line.Goals as goal

-- with one more that is known, all of the line are
known-more : {X : Type 0} (old new : List (Option X)) (line same more : List ℕ) (n : ℕ) → AreKnown old line → ((m : ℕ) → IsSome (kept_of old m) → IsSome (kept_of new m)) → IsSome (kept_of new n)
    → same ≡ line → more ≡ same ++ n ∷ [] → AreKnown new more
known-more old new line same more n known kept its is pushed =
    All-same (λ m. IsSome (kept_of new m)) more (line ++ n ∷ []) (pushed ∙ ap (λ (l : List ℕ). l ++ n ∷ []) is)
    (All-push (λ m. IsSome (kept_of new m)) line n (All-weaker (λ m. IsSome (kept_of old m)) (λ m. IsSome (kept_of new m)) kept line known) its)

line-more : (parents : ℕ → Option ℕ) (depth k n m : ℕ) (line same more whole : List ℕ) → lineage parents (depth - k) n ≡ m ∷ lineage parents (depth - (k + 1)) m
    → same ≡ line → more ≡ same ++ m ∷ [] → line ++ lineage parents (depth - k) n ≡ whole → more ++ lineage parents (depth - (k + 1)) m ≡ whole
line-more parents depth k n m line same more whole next is pushed so_far =
    ap (λ (l : List ℕ). l ++ lineage parents (depth - (k + 1)) m) (pushed ∙ ap (λ (l : List ℕ). l ++ m ∷ []) is)
    ∙ append_assoc line (m ∷ []) (lineage parents (depth - (k + 1)) m)
    ∙ sym (ap (λ (l : List ℕ). line ++ l) next)
    ∙ so_far

pub find-init : goal.find-init
find-init g c = (
  c.requires.number,
  c.requires.parents,
  All-same (λ (n : ℕ). IsSome (kept_of c.args.self.now.known.items n)) _ [] c.clear.ensures.items (All-nil (λ (n : ℕ). IsSome (kept_of c.args.self.now.known.items n))),
  λ r reads.
      let all : c.args.records.now.depth - 0 ≡ c.args.records.now.depth = omega arith in
      ap (λ (l : List ℕ). l ++ lineage (parent (entries_of r)) (c.args.records.now.depth - 0) c.args.n) c.clear.ensures.items ∙ ap (λ (d : ℕ). lineage (parent (entries_of r)) d c.args.n) all,
)

pub find-preserved : goal.find-preserved
find-preserved g c = (
  c.in-Some.ensures.number,
  c.in_ok-learn.ensures.parents,
  known-more c.find.self.known.items c.learn.new.self.known.items c.find.self.line.items c.learn.new.self.line.items c.push.new.self.items c.in-Some.parent
      c.find.invariant.2 c.in_ok-learn.ensures.kept c.in_ok-learn.ensures.known (ap (λ v. v.items) c.in_ok-learn.ensures.line) c.in_ok-push.ensures.items,
  λ r reads.
      line-more (parent (entries_of r)) c.args.records.now.depth c.find.counter c.find.heir c.in-Some.parent c.find.self.line.items c.learn.new.self.line.items c.push.new.self.items
      (lineage (parent (entries_of r)) c.args.records.now.depth c.args.n)
      (lineage_more (parent (entries_of r)) c.args.records.now.depth c.find.counter c.find.heir c.in-Some.parent c.find-test.true (sym (c.parent.ensures.parent r reads) ∙ c.in-Some.is))
      (ap (λ v. v.items) c.in_ok-learn.ensures.line) c.in_ok-push.ensures.items (c.find.invariant.3 r reads),
)

pub returns-in_default-clause-line : goal.returns-in_default-clause-line
returns-in_default-clause-line g c = λ r reads.
    sym (append-nil c.find.self.line.items)
    ∙ ap (λ (l : List ℕ). c.find.self.line.items ++ l) (sym (lineage_none (parent (entries_of r)) (c.args.records.now.depth - c.find.counter) c.find.heir (sym (c.parent.ensures.parent r reads) ∙ c.in_default.is)))
    ∙ c.find.invariant.3 r reads

pub returns-clause-line : goal.returns-clause-line
returns-clause-line g c = λ r reads.
    sym (append-nil c.find.self.line.items)
    ∙ ap (λ (l : List ℕ). c.find.self.line.items ++ l) (sym (lineage_done (parent (entries_of r)) c.args.records.now.depth c.find.counter c.find.heir c.find-test.false))
    ∙ c.find.invariant.3 r reads
