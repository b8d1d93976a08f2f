-- The machine values of a `Handle`. Assumes `Logic`.
use Rattle.std.proofs.Common.{◌≡◌, ℕ, List, [], ◌∷◌, ◌++◌, refl, subst}
use seplogic.Ra.Ura.{Ura}
use mir.Raw.{raw as bare}
use mir.Val.{Val, vptr, vstruct, vcons, vnil, of_list}
use base.Fml.{Fml}
use base.Logic.{never, fst∗}
use types.Logic.{Logic, sem}
use types.Kit.{Item, Goal, Seq, Step, step, ‵, ◌$◌, drop, fsplit, fjoin, fpick, fpack, rewrite, feq_i, feq_l}
use denote.RattleType.{RattleType, Valss}
use denote.Builtin.{RawPtr}
use denote.Memory.{lone}
use denote.RawPtr.{Ptr, block_ptr, null_ptr, ptr_val, in_a_block}
use denote.Steps.{nothing}
use denote.Struct.Struct.{within}
use denote.Struct.Owning.{shape}
use Rattle.std.specs.Prelude.{◌≢◌, Option, Some, None}
use Rattle.std.specs.declared.alloc.Global.{Global}
use Rattle.std.specs.contracts.impls.GlobalAllocator.TheImpl.{ghosts}
use Rattle.std.specs.Box.Ownership.{box_owns}
use Rattle.bib_c.specs.Held.{held}
use Rattle.bib_state.specs.contracts.state.State as state
use Rattle.bib_c.specs.contracts.handle.Handle as handle

abbrev pub alone : Val → Val
alone v = vstruct (vcons v vnil)

abbrev pub R : RattleType
R = state.the_row

abbrev pub Handle : RattleType
Handle = handle.the_row

abbrev pub owned : Global → Ptr → R.Denot → Fml
owned a p x = box_owns (ghosts.dealloc_token a) R p x

-- the value of a handle that has one
pub some_of : {X : Type 0} (o : Option X) → o ≢ None → (x : X) × (o ≡ Some x)
some_of None not = absurd (not refl)
some_of (Some x) not = (x, refl)

module _ {M : Type 1} {𝓤 : Ura M} {𝓛 : Logic 𝓤} {K : Type 0} {Γ : List (Item 𝓤)} {G : Goal 𝓤 𝓛.H} where
  -- what a handle of this value owns, with its pointer
  pub handle_out : K → (d : Handle.Denot) (x : R.Denot) (vs : List Val) → d.state ≡ Some x
      → ((b o : ℕ) → d.at ≡ block_ptr b o → vs ≡ alone (vptr b o) ∷ [] → Seq K 𝓛 (‵ (owned d.by (block_ptr b o) x) ∷ Γ) G)
      → Seq K 𝓛 (‵ (Handle.own_val d vs) ∷ Γ) G
  handle_out t d x vs is k =
      fsplit t $ fpick t (λ vss. fsplit t $ feq_l t (λ ev. fsplit t $ feq_l t (λ ep. drop t $
      rewrite t 0 (λ (s : Option R.Denot). ‵ (held d.by R d.at s)) is refl $
      in_a_block t d.at (λ p. owned d.by p x) (fst∗ 𝓤 (never 𝓤) (sem 𝓛 (ghosts.dealloc_token d.by (bare (lone R.mir)) null_ptr))) (λ b o e. k b o e
      (subst (λ (p : Ptr). vs ≡ vstruct (of_list (ptr_val p ∷ [])) ∷ []) e
      (subst (λ (ps : List Val). vs ≡ vstruct (of_list (ps ++ [])) ∷ []) ep ev))))))

  -- a handle of this value
  pub handle_in : K → (b o : ℕ) (a : Global) (x : R.Denot)
      → Step K 𝓛 (‵ (Handle.own_val (record { at = block_ptr b o; by = a; state = Some x }) (alone (vptr b o) ∷ [])) ∷ Γ) G (‵ (owned a (block_ptr b o) x) ∷ Γ) G
  handle_in t b o a x = step (λ s. let v : Val = alone (vptr b o) in
      nothing t $ feq_i t (List Val) (vptr b o ∷ []) (vptr b o ∷ []) refl $ fjoin t $ feq_i t (List Val) (v ∷ []) (v ∷ []) refl $ fjoin t $
      fpack t (Valss (RawPtr ∷ [])) (within (shape handle.the_type) (block_ptr b o, tt) (v ∷ [])) (vptr b o ∷ [], tt) $ fjoin t $ s)

  -- a handle of nothing
  pub handle_none : K → (a : Global)
      → Step K 𝓛 (‵ (Handle.own_val (record { at = null_ptr; by = a; state = None }) (alone (ptr_val null_ptr) ∷ [])) ∷ Γ) G Γ G
  handle_none t a = step (λ s. let v : Val = alone (ptr_val null_ptr) in
      nothing t $ nothing t $ feq_i t (List Val) (ptr_val null_ptr ∷ []) (ptr_val null_ptr ∷ []) refl $ fjoin t $ feq_i t (List Val) (v ∷ []) (v ∷ []) refl $ fjoin t $
      fpack t (Valss (RawPtr ∷ [])) (within (shape handle.the_type) (null_ptr, tt) (v ∷ [])) (ptr_val null_ptr ∷ [], tt) $ fjoin t $ s)
