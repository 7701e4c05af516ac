-- `get` lends the controller, and the handle follows it.
use Rattle.std.proofs.Common.{◌≡◌, ℕ, List, [], ◌∷◌, refl, sym, lit<, MutBor}
use Rattle.std.proofs.raw_atomic.Walks.{proved}
use seplogic.Ra.Ura.{Ura}
use base.Fraction.{full_share}
use base.Logic.{SProp, ent, sep}
use base.Fml.{Lft, GName, Share, Fml, ftrue, fsep, flft, fobs, fbor, fres}
use mir.Syntax.{named}
use mir.Val.{Val, vptr, vcons, vnil}
use prog.Wp.{Calls, Loops, WpFn}
use prog.Memory.{Memory}
use prog.Routine.{Routine}
use contract.Monad.{Fun}
use contract.Running.{tables}
use types.Logic.{Logic, sem}
use types.Kit.{Item, ⋆, ‵, ◌⊛◌, some, later, at_ret, ◌$◌, ◌∵◌, !, qed, by, move, keep, drop, use0, use1, split, split3, join, group, pick, await, rewrite, fsplit, fsplit3, fjoin, fpack, feq_i, suffices, frame, done}
use types.Run.{stop, fld, load, addr, lit, of_opd, bin, no_more, and_then, first, blocks, branches, skips, exec, returns, returns_within, enter}
use types.ByLocal.{alloc_all, pass_all, free_all, look_at, get, through, sets, sets_last, env}
use types.Part.{agg, whole, sub, look_in}
use types.Match.{live}
use types.SemTy.{Body as Borrowed}
use denote.Exit.{no}
use denote.Memory.{mem, cell_at, part_at, part_of}
use denote.RawPtr.{Ptr, block_ptr, null_ptr, tests_null}
use denote.Ref.{MutRef, mut_vals, mut_Tells}
use denote.Signature.{plain, mut_ref_to}
use denote.Steps.{nothing}
use denote.Follow.{follows, follows_by, lends_Part}
use denote.RattleType.{RattleType}
use denote.Triple.Walked.{says, Stays, stay_dropped, walk_of, ends_at, Goes-spent_ref}
use Rattle.core.proofs.alloc.Shapes.{after}
use Rattle.core.proofs.option.Made.{Some-of, none_of}
use Rattle.core.specs.contracts.option.Option as Opt
use Rattle.core.specs.declared.option.Option.{Option}
use Rattle.core.specs.declared.option.Option.TheVariants.{None, Some}
use Rattle.std.specs.Option.{option_copied_mut}
use Rattle.uda_c.specs.Held.{held}
use Rattle.uda_c.specs.LendsController.{with_value, handle_follows}
use Rattle.uda_c.proofs.HandleSteps.{handle, word, cell, right, handle_opens, handle_closes, handle_made, holds}
use Rattle.uda_c.specs.ControllerState.{ControllerState}
use Rattle.uda_c.specs.declared.handle.Handle.{Handle}
use Rattle.uda_c.specs.contracts.controller.Controller.{the_row as X}
use Rattle.uda_c.specs.contracts.handle.Handle.{the_row as R}
use Rattle.uda_c.specs.contracts.handle.Handle.get as f
use Rattle.uda_c.proofs.handle.Handle.get.Statement.{statement}
use Rattle.uda_c.proofs.handle.Handle.get.Code as code

abbrev stayed : Stays f.ended.signature.params f.ended.kept
stayed = (stay_dropped (mut_ref_to (0 ∷ []) tt (plain (λ _. R))) no, tt)

module _ {M : Type 1} {𝓤 : Ura M} (𝓛 : Logic 𝓤) (at_mem : Memory → SProp 𝓤) (run : Routine → Fun 𝓤)
    (C : Calls 𝓤 𝓛.H) (Λ : Loops 𝓤 𝓛.H) (κ : Lft) (q : Share) (b o : ℕ) (γ : GName) where
  open 𝓛 use {H, A}

  abbrev self : Ptr → Option ControllerState → MutBor Handle
  self p m = record { ref_ptr = (b, o); ghost_name = γ; now = record { at = p; value = m } }

  abbrev bound : Ptr → Option ControllerState → (walk_of 𝓛 f.ended stayed (f.clauses 𝓛 at_mem run)).Ghost
  bound p m = (((κ, tt), (q, tt), tt, (self p m, tt), (vptr b o ∷ [], tt)), tt)

  abbrev Post : Ptr → Option ControllerState → Val → SProp 𝓤
  Post p m = (walk_of 𝓛 f.ended stayed (f.clauses 𝓛 at_mem run)).post (bound p m)

  abbrev Lent : RattleType
  Lent = MutRef (named 0) κ X

  abbrev Had : Ptr → Option ControllerState → List (Item 𝓤)
  Had p m = ‵ (fobs γ (R.coded.code (self p m).now)) ∷ ‵ (fbor κ (Borrowed (mem R) b o γ)) ∷ ‵ (flft κ q) ∷ []

  module _ (p : Ptr) (pb po : ℕ) (e : p ≡ block_ptr pb po) where
    -- all except the controller
    abbrev Rest : Fml
    Rest = fsep (right pb po) (cell b o p)

    back : (w : ControllerState) → ent 𝓤 (sep 𝓤 (sem 𝓛 ((mem X).own_at w pb po)) (sem 𝓛 Rest))
        (sem 𝓛 ((mem R).own_at (handle p (Some w)) b o))
    unfolding part_of
    back w =
        qed 𝓛 (‵ (part_at X full_share w pb po) ∷ ‵ Rest ∷ []) ∵ move ! (1 ∷ []) $ fsplit ! $
        move ! (2 ∷ 0 ∷ []) $ fjoin ! $
        rewrite ! 0 (λ (s : Ptr). ‵ (held s (Some w))) (sym e) refl $ handle_made ! p (Some w) $
        move ! (1 ∷ 0 ∷ []) $ fjoin ! $
        fpack ! (List Val) (λ vs. fsep (cell_at full_share R.mir vs b o) (R.own_val (handle p (Some w)) vs))
        (word p ∷ []) $ done !

  -- the lent controller or none, and the final value of the handle
  exits : (p : Ptr) (m : Option ControllerState) (v : Val) (r : Option (MutBor ControllerState))
      → option_copied_mut r ≡ m
      → ent 𝓤 (sep 𝓤 (sem 𝓛 ((Opt.the_row Lent).own_val r (v ∷ [])))
      (sep 𝓤 (A.lft κ q) (sem 𝓛 (handle_follows (self p m) r)))) (Post p m v)
  exits p m v r is =
      qed 𝓛 (‵ ((Opt.the_row Lent).own_val r (v ∷ [])) ∷ ‵ (flft κ q) ∷ ‵ (handle_follows (self p m) r)
      ∷ []) ∵
      suffices ! _ (ends_at 𝓛 f.ended stayed (f.clauses 𝓛 at_mem run) (bound p m) v r (tt, tt) (tt, tt)) $
      nothing ! $ nothing ! $ fjoin ! $ join ! $ nothing ! $ move ! (2 ∷ 0 ∷ []) $ join ! $ join ! $ frame ! $
      says ! is $ done !

  walk : (p : Ptr) (m : Option ControllerState)
      → ent 𝓤 (⋆ 𝓛 (Had p m)) (WpFn 𝓤 H C Λ code.function (vptr b o ∷ []) (Post p m))
  unfolding follows_by
  walk p m =
      let h = (self p m).now in
      qed 𝓛 (Had p m) ∵ enter ! C Λ code.function (vptr b o ∷ []) _ $
      alloc_all ! (λ l. pass_all ! refl ((tt, tt), tt) $ let Ev = env code.Mir.locals l in
      handle_opens ! tt p m b o $ holds ! p m
      (λ is_none e.
      -- [the cell; the open borrow, in three entries]
      rewrite ! 0 (λ (s : Ptr). ‵ (cell b o s)) e refl $
      sets ! (of_opd ! (load ! (through ! refl (fld ! refl (stop !))) (look_in ! 0 (sub ! 0 refl (whole !)))))
      refl (tt, record { fits = lit< tt }) $
      sets ! (of_opd ! (get ! refl)) refl (tt, record { fits = lit< tt }) $
      sets ! (of_opd ! (get ! refl)) refl (tt, record { fits = lit< tt }) $
      sets ! (bin ! (get ! refl) (lit ! tt) tt) refl (tt, tt) $ first ! $ branches ! (get ! refl)
      (λ _. sets ! (agg ! (and_then ! (lit ! tt) (no_more !))) refl (tt, (record { fits = lit< tt }, tt)) $
      rewrite ! 0 (λ (s : Ptr). ‵ (cell b o s)) (sym e) refl $ feq_i ! Ptr p null_ptr e $
      rewrite ! 0 (λ (k : Option ControllerState). ‵ (held p k)) (sym is_none) refl $
      handle_closes ! tt p m b o $
      use1 𝓛 (‵ (fres γ (R.coded.code h))) (𝓛.names.obs-res γ (R.coded.code h)) $ move ! (1 ∷ []) $ drop ! $
      move ! (1 ∷ 0 ∷ []) $
      use0 𝓛 (‵ ((Opt.the_row Lent).own_val None (live 0 vnil ∷ []))) (none_of 𝓛 Lent) $
      returns_within ! (Post p m) refl (look_at ! 0 refl) $ free_all ! refl $ keep ! (0 ∷ 1 ∷ 2 ∷ []) $
      by ! (exits p m (live 0 vnil) None (sym is_none)))
      (λ wrong. absurd wrong))
      (λ x pb po is_some e t.
      -- [the right to free the block; the controller; the cell; the open borrow, in three entries]
      rewrite ! 2 (λ (s : Ptr). ‵ (cell b o s)) e refl $
      sets ! (of_opd ! (load ! (through ! refl (fld ! refl (stop !))) (look_in ! 2 (sub ! 0 refl (whole !)))))
      refl (tt, tt) $
      sets ! (of_opd ! (get ! refl)) refl (tt, tt) $ sets ! (of_opd ! (get ! refl)) refl (tt, tt) $
      sets ! (bin ! (get ! refl) (lit ! tt) (tests_null (block_ptr pb po) t)) refl (tt, tt) $ first ! $
      branches ! (get ! refl) (λ wrong. absurd wrong)
      (λ _. skips ! $ exec ! C Λ Ev (after 5 (code.function).body) (at_ret Ev (Post p m)) $
      first ! $ blocks ! $ sets_last ! (addr ! (through ! refl (stop !))) refl (tt, tt) $
      exec ! C Λ Ev (after 6 (code.function).body) (at_ret Ev (Post p m)) $
      sets ! (of_opd ! (get ! refl)) refl (tt, tt) $
      sets ! (agg ! (and_then ! (lit ! tt) (and_then ! (get ! refl) (no_more !)))) refl
      (tt, (record { fits = lit< tt }, (tt, tt))) $
      rewrite ! 2 (λ (s : Ptr). ‵ (cell b o s)) (sym e) refl $ move ! (0 ∷ 2 ∷ []) $ fjoin ! $
      move ! (2 ∷ 3 ∷ 4 ∷ 1 ∷ 0 ∷ []) $ group ! 5 $
      use1 𝓛 (later
      (some (λ (δ : GName). ‵ (Lent.own_val (record { ref_ptr = (pb, po); ghost_name = δ; now = x })
      (vptr pb po ∷ [])) ⊛ ‵ (flft κ q) ⊛ ‵ (follows R X γ δ (with_value h)))))
      (lends_Part 𝓛 R X (with_value h) (named 0) κ q b o pb po γ (sem 𝓛 (Rest p pb po e)) (back p pb po e)
      (R.coded.code h) (R.coded.code h) x) $ await ! tt $ pick ! (λ δ. split3 ! $
      let r : MutBor ControllerState = record { ref_ptr = (pb, po); ghost_name = δ; now = x } in
      use1 𝓛 (‵ ((Opt.the_row Lent).own_val (Some r) (live 1 (vcons (vptr pb po) vnil) ∷ [])))
      (Some-of 𝓛 Lent r (vptr pb po)) $
      returns ! (look_at ! 0 refl) $ free_all ! refl $ keep ! (0 ∷ 1 ∷ 2 ∷ []) $
      by ! (exits p m (live 1 (vcons (vptr pb po) vnil)) (Some r) (sym is_some))))))

pub get_spec : {M : Type 1} → statement M
get_spec 𝓤 𝓛 𝓜 𝓡 wired =
    let c = f.clauses 𝓛 𝓜.mem 𝓡.returns in let 𝓣 = tables 𝓤 𝓛.H 𝓜 𝓡 𝓡.env in
    proved 𝓛 f.ended stayed c 𝓜 𝓡 (Goes-spent_ref 𝓛 1 (0 ∷ []) tt (plain (λ _. R)), tt)
    f.Key.name code.function (code.unfolded 𝓤 𝓛.H 𝓜 𝓡 wired)
    (λ κs. (mut_vals, tt)) (λ κs. (mut_Tells (named 0) κs.0 R, tt)) (λ κs qs bounds a _ are.
    let r = a.0 in
    qed 𝓛 (((‵ (flft κs.0 qs.0) ⊛ ‵ ftrue) ⊛ ‵ ((MutRef (named 0) κs.0 R).own_val r (mut_vals r)) ⊛ ‵ ftrue)
    ∷ ‵ ftrue ∷ []) ∵
    split ! $ split ! $ move ! (2 ∷ []) $ split ! $ fsplit3 ! $ keep ! (1 ∷ 2 ∷ 4 ∷ []) $
    by ! (walk 𝓛 𝓜.mem 𝓡.returns 𝓣.C 𝓣.Λ κs.0 qs.0 r.ref_ptr.0 r.ref_ptr.1 r.ghost_name r.now.at r.now.value))
