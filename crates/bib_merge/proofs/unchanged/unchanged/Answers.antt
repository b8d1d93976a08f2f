use Rattle.std.proofs.Common.{◌≡◌, sym, subst}
use Rattle.bib_spec.specs.Text.{Text}
use Rattle.bib_spec.specs.Reading.{Reads}
use Rattle.bib_merge.specs.declared.unchanged.Alike.{Alike}
use Rattle.bib_merge.specs.Merges.{IsAlike}
use Rattle.bib_merge.proofs.TakenFiles.{ours_taken, theirs_taken, same_taken, leaves_theirs, leaves_ours, leaves_same}
use Rattle.bib_merge.proofs.unchanged.unchanged.Goals as goal

pub returns-in_ok-told-in-OursLeft-clause-told : goal.returns-in_ok-told-in-OursLeft-clause-told
returns-in_ok-told-in-OursLeft-clause-told g c =
    let same : c.args.o.now ≡ c.args.b.now = subst (λ (a : Alike). IsAlike a c.args.b.now c.args.o.now c.args.t.now) c.in-OursLeft.is c.requires in
    let told = c.in_ok-told-in-OursLeft.ensures in
    let b = c.opens.ensures in
    let t = c.opens-3.ensures in
    let reads_o = subst (λ (f : Text). Reads f b.0) (sym same) b.1.reads in
    ours_taken _ _ _ _ _ _ _ b.0 t.0 same told.text told.conflicts b.1 t.1 (told.lost b.0 reads_o t.0 t.1.reads t.0 t.1.reads) (told.uses b.0 reads_o t.0 t.1.reads t.0 t.1.reads)

pub returns-in_ok-told-in-OursLeft-clause-left : goal.returns-in_ok-told-in-OursLeft-clause-left
returns-in_ok-told-in-OursLeft-clause-left g c =
    let same : c.args.o.now ≡ c.args.b.now = subst (λ (a : Alike). IsAlike a c.args.b.now c.args.o.now c.args.t.now) c.in-OursLeft.is c.requires in
    leaves_theirs _ _ _ _ _ same c.in_ok-told-in-OursLeft.ensures.text c.in_ok-told-in-OursLeft.ensures.conflicts

pub returns-in_ok-told-in-TheirsLeft-clause-told : goal.returns-in_ok-told-in-TheirsLeft-clause-told
returns-in_ok-told-in-TheirsLeft-clause-told g c =
    let same : c.args.t.now ≡ c.args.b.now = subst (λ (a : Alike). IsAlike a c.args.b.now c.args.o.now c.args.t.now) c.in-TheirsLeft.is c.requires in
    let told = c.in_ok-told-in-TheirsLeft.ensures in
    let b = c.opens.ensures in
    let o = c.opens-2.ensures in
    let reads_t = subst (λ (f : Text). Reads f b.0) (sym same) b.1.reads in
    theirs_taken _ _ _ _ _ _ _ b.0 o.0 same told.text told.conflicts b.1 o.1 (told.lost o.0 o.1.reads b.0 reads_t o.0 o.1.reads) (told.uses o.0 o.1.reads b.0 reads_t o.0 o.1.reads)

pub returns-in_ok-told-in-TheirsLeft-clause-left : goal.returns-in_ok-told-in-TheirsLeft-clause-left
returns-in_ok-told-in-TheirsLeft-clause-left g c =
    let same : c.args.t.now ≡ c.args.b.now = subst (λ (a : Alike). IsAlike a c.args.b.now c.args.o.now c.args.t.now) c.in-TheirsLeft.is c.requires in
    leaves_ours _ _ _ _ _ same c.in_ok-told-in-TheirsLeft.ensures.text c.in_ok-told-in-TheirsLeft.ensures.conflicts

pub returns-in_ok-told-in-SidesSame-clause-told : goal.returns-in_ok-told-in-SidesSame-clause-told
returns-in_ok-told-in-SidesSame-clause-told g c =
    let same : c.args.o.now ≡ c.args.t.now = subst (λ (a : Alike). IsAlike a c.args.b.now c.args.o.now c.args.t.now) c.in-SidesSame.is c.requires in
    let told = c.in_ok-told-in-SidesSame.ensures in
    let b = c.opens.ensures in
    let t = c.opens-3.ensures in
    let reads_o = subst (λ (f : Text). Reads f t.0) (sym same) t.1.reads in
    same_taken _ _ _ _ _ _ _ b.0 t.0 same told.text told.conflicts b.1 t.1 (told.lost t.0 reads_o t.0 t.1.reads t.0 t.1.reads) (told.uses t.0 reads_o t.0 t.1.reads t.0 t.1.reads)

pub returns-in_ok-told-in-SidesSame-clause-left : goal.returns-in_ok-told-in-SidesSame-clause-left
returns-in_ok-told-in-SidesSame-clause-left g c =
    let same : c.args.o.now ≡ c.args.t.now = subst (λ (a : Alike). IsAlike a c.args.b.now c.args.o.now c.args.t.now) c.in-SidesSame.is c.requires in
    leaves_same _ _ _ _ _ same c.in_ok-told-in-SidesSame.ensures.text c.in_ok-told-in-SidesSame.ensures.conflicts

pub returns-in-NoneSame-clause-differ : goal.returns-in-NoneSame-clause-differ
returns-in-NoneSame-clause-differ g c = subst (λ (a : Alike). IsAlike a c.args.b.now c.args.o.now c.args.t.now) c.in-NoneSame.is c.requires
