-- `take` returns the bytes of a slot, and leaves none.
use Rattle.std.proofs.Common.{◌≡◌, ℕ, suc, ◌<◌, ◌^◌, List, [], ◌∷◌, ◌++◌, refl, sym, ap, ◌∙◌, subst, lit<, arith}
use Rattle.std.proofs.raw_atomic.Walks.{proved_at, leaves}
use lib.Dec.{eqb→eq}
use base.Logic.{SProp, ent, emp, id⊢}
use base.Fml.{ftrue, flft}
use mir.Val.{Val, vptr, vcons, vnil}
use prog.Wp.{WpFn}
use contract.Monad.{fact, fact_i}
use contract.Running.{tables}
use types.Kit.{‵, raw, ◌⊛◌, at_ret, ◌$◌, ◌∵◌, !, qed, by, move, keep, drop, use0, use1, split, join, fsplit, fsplit3, fjoin, fjoin3, feq_i, rewrite, suffices}
use types.Run.{stop, fld, load, lit, of_opd, bin, no_more, and_then, first, branches, skips, exec, assigns, returns, returns_within, enter}
use types.ByLocal.{alloc_all, pass_all, free_all, look_at, get, through, sets, env}
use types.Part.{agg, sub, whole, look_in, store_in}
use types.Match.{live}
use denote.RattleType.{owns}
use denote.RawPtr.{Ptr, block_ptr, null_ptr}
use denote.Signature.{plain, types_at}
use denote.Steps.{nothing}
use denote.Triple.Walked.{Stays, stay_ref, walk_of, Goes-ref}
use Rattle.core.proofs.alloc.Shapes.{after}
use Rattle.core.proofs.option.Made.{Some-of, none_of}
use Rattle.core.specs.contracts.option.Option as Opt
use Rattle.core.specs.declared.option.Option.{Option}
use Rattle.core.specs.declared.option.Option.TheVariants.{None, Some}
use Rattle.uda_c.specs.SlotOwns.{slot_owns}
use Rattle.uda_c.specs.Slots.{TakesSlot, lent_in}
use Rattle.uda_called.specs.declared.lent.BorrowedBytes.{BorrowedBytes}
use Rattle.uda_c.specs.declared.slot.Slot.{Slot}
use Rattle.uda_called.specs.contracts.lent.BorrowedBytes.{the_row as L}
use Rattle.uda_c.specs.contracts.slot.Slot.{the_row as R}
use Rattle.uda_c.proofs.SlotSteps.{slot, word, cell, slot_opens, slot_closes, lent_made, holds}
use Rattle.uda_c.specs.contracts.slot.Slot.take as f
use Rattle.uda_c.proofs.slot.Slot.take.Statement.{statement}
use Rattle.uda_c.proofs.slot.Slot.take.Code as code

abbrev stayed : Stays f.ended.signature.params f.ended.kept
stayed = (stay_ref (0 ∷ []) tt (plain (λ _. R)), tt)

abbrev none : Option BorrowedBytes
none = None

pub take_spec : {M : Type 1} → statement M
take_spec 𝓤 𝓛 𝓜 𝓡 wired =
    let c = f.clauses 𝓛 𝓜.mem 𝓡.returns in let 𝓣 = tables 𝓤 𝓛.H 𝓜 𝓡 𝓡.env in
    proved_at 𝓛 f.ended stayed c 𝓜 𝓡 (Goes-ref 𝓛 1 0 tt (plain (λ _. R)), tt)
    f.Key.name code.function (code.unfolded 𝓤 𝓛.H 𝓜 𝓡 wired) (λ z are.
    let κ = z.0.0.0 in let q = z.0.1.0 in let r = z.0.3.0 in let b = r.ref_ptr.0 in let o = r.ref_ptr.1 in
    let s = r.now in let p = s.at in let n = s.len in let xs = s.held in
    let Run : List Val → SProp 𝓤 = λ ws. WpFn 𝓤 𝓛.H 𝓣.C 𝓣.Λ code.function ws ((walk_of 𝓛 f.ended stayed
    c).post z) in
    qed 𝓛 (((‵ (flft κ q) ⊛ ‵ ftrue) ⊛ ‵ (owns (types_at f.ended.signature.params z.0.0) z.0.3 z.0.4)) ∷ ‵
    ftrue ∷ []) ∵
    split ! $ split ! $ move ! (2 ∷ []) $ fsplit ! $
    suffices ! (Run (vptr b o ∷ [])) (subst (λ (us : List Val). ent 𝓤 (Run (vptr b o ∷ [])) (Run us)) (sym
    (λ i. are.0.0 i ++ [])) (id⊢ 𝓤 _)) $
    enter ! 𝓣.C 𝓣.Λ code.function _ _ $ alloc_all ! (λ l. pass_all ! refl ((tt, tt), tt) $
    -- [self; nothing; the token]
    fsplit3 ! $ drop ! $ move ! (0 ∷ 1 ∷ 3 ∷ []) $ slot_opens ! tt p n xs b o (λ fn.
    let Ev = env code.Mir.locals l in let Post = (walk_of 𝓛 f.ended stayed c).post z in
    holds ! p n xs
    (λ e ex.
    -- [the cell; the open borrow, in three entries]
    rewrite ! 0 (λ (m : ℕ). ‵ (cell b o p m)) e refl $
    sets ! (of_opd ! (load ! (through ! refl (fld ! refl (stop !))) (look_in ! 0 (sub ! 1 refl (whole !)))))
    refl (tt, record { fits = lit< tt }) $
    sets ! (bin ! (get ! refl) (lit ! tt) tt) refl (tt, tt) $ first ! $ branches ! (get ! refl)
    (λ _. sets ! (agg ! (and_then ! (lit ! tt) (no_more !))) refl (tt, (record { fits = lit< tt }, tt)) $
    rewrite ! 0 (λ (m : ℕ). ‵ (cell b o p m)) (sym e) refl $ feq_i ! (List ℕ) xs [] ex $
    rewrite ! 0 (λ (m : ℕ). ‵ (slot_owns p m xs)) (sym e) refl $ slot_closes ! tt p n xs b o fn $
    use0 𝓛 (‵ ((Opt.the_row L).own_val None (live 0 vnil ∷ []))) (none_of 𝓛 L) $
    returns_within ! Post refl (look_at ! 0 refl) $ free_all ! refl $ keep ! (1 ∷ 2 ∷ 0 ∷ 3 ∷ []) $
    feq_i ! (List Val) z.0.4.0 (vptr b o ∷ []) are.0.0 $ fjoin3 ! $ nothing ! $ move ! (1 ∷ 0 ∷ []) $
    fjoin ! $ nothing ! $ move ! (3 ∷ 0 ∷ []) $ join ! $
    use0 𝓛 (raw (fact 𝓤 (TakesSlot none s s))) (fact_i 𝓤 (TakesSlot none s s) (emp 𝓤) (ex, refl)) $
    keep ! (1 ∷ 2 ∷ 3 ∷ 0 ∷ []) $
    by ! (leaves 𝓛 f.ended stayed c z (live 0 vnil) None (s, tt) (tt, tt)))
    (λ wrong. absurd wrong))
    (λ m pb po e long ep.
    let fm : suc m < 2 ^ 64 = subst (λ (k : ℕ). k < 2 ^ 64) e fn in
    let d : BorrowedBytes = record { at = block_ptr pb po; len = suc m; held = xs } in
    let v = word (block_ptr pb po) (suc m) in let w : Val = live 1 (vcons v vnil) in
    let Empty : Slot = slot null_ptr 0 [] in let same : slot (block_ptr pb po) (suc m) xs ≡ s = ap (λ (a :
    Ptr). slot a (suc m) xs) (sym ep) ∙ ap (λ (k : ℕ). slot p k xs) (sym e) in
    -- [the bytes; the cell; the open borrow, in three entries]
    rewrite ! 1 (λ (a : Ptr). ‵ (cell b o a n)) ep refl $
    rewrite ! 1 (λ (k : ℕ). ‵ (cell b o (block_ptr pb po) k)) e refl $
    sets ! (of_opd ! (load ! (through ! refl (fld ! refl (stop !))) (look_in ! 1 (sub ! 1 refl (whole !)))))
    refl (tt, record { fits = fm }) $
    sets ! (bin ! (get ! refl) (lit ! tt) tt) refl (tt, tt) $ first ! $
    branches ! (get ! refl) (λ wrong. let never : suc m ≡ 0 = eqb→eq (suc m) 0 wrong in
    absurd (omega (arith, never)))
    (λ _. skips ! $ exec ! 𝓣.C 𝓣.Λ Ev (after 3 (code.function).body) (at_ret Ev Post) $
    sets ! (of_opd ! (load ! (through ! refl (fld ! refl (stop !))) (look_in ! 1 (sub ! 0 refl (whole !)))))
    refl (tt, tt) $
    assigns ! (of_opd ! (lit ! tt)) (through ! refl (fld ! refl (stop !))) (store_in ! 1 (sub ! 0 refl
    (whole !)) (tt, record { fits = lit< tt })) $
    assigns ! (of_opd ! (lit ! tt)) (through ! refl (fld ! refl (stop !))) (store_in ! 1 (sub ! 1 refl
    (whole !)) (tt, record { fits = lit< tt })) $
    sets ! (agg ! (and_then ! (get ! refl) (and_then ! (get ! refl) (no_more !)))) refl (
      tt,
      (
        tt,
        (
          record {
            fits = fm;
          },
          tt,
        ),
      ),
    ) $
    sets ! (agg ! (and_then ! (lit ! tt) (and_then ! (get ! refl) (no_more !)))) refl (
      tt,
      (
        record {
          fits =
              lit< tt;
        },
        ((tt, (record { fits = fm }, tt)), tt),
      ),
    ) $
    move ! (1 ∷ 2 ∷ 3 ∷ 4 ∷ []) $ feq_i ! (List ℕ) [] [] refl $ slot_closes ! tt null_ptr 0 [] b o (lit< tt) $
    move ! (3 ∷ []) $ lent_made ! (block_ptr pb po) (suc m) xs fm $
    use1 𝓛 (‵ ((Opt.the_row L).own_val (Some d) (w ∷ []))) (Some-of 𝓛 L d v) $
    returns ! (look_at ! 0 refl) $ free_all ! refl $ keep ! (1 ∷ 2 ∷ 0 ∷ 3 ∷ []) $
    feq_i ! (List Val) z.0.4.0 (vptr b o ∷ []) are.0.0 $ fjoin3 ! $ nothing ! $ move ! (1 ∷ 0 ∷ []) $
    fjoin ! $ nothing ! $ move ! (3 ∷ 0 ∷ []) $ join ! $
    use0 𝓛 (raw (fact 𝓤 (TakesSlot (Some d) s Empty))) (fact_i 𝓤 (TakesSlot (Some d) s Empty) (emp 𝓤) (
      ap lent_in
          same,
      (λ no. absurd (omega (arith, long, no))),
      refl,
    )) $ keep ! (1 ∷ 2 ∷ 3 ∷ 0 ∷ []) $
    by ! (leaves 𝓛 f.ended stayed c z w (Some d) (Empty, tt) (tt, tt)))))))
