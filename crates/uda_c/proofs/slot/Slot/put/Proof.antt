-- `put` moves the address of bytes into a slot, with the bytes.
use Rattle.std.proofs.Common.{◌≡◌, List, [], ◌∷◌, ◌++◌, refl, sym, ap, subst}
use Rattle.std.proofs.raw_atomic.Walks.{proved_at, leaves}
use base.Logic.{SProp, ent, emp, id⊢}
use base.Fml.{ftrue, flft}
use mir.Val.{Val, vunit, vptr}
use prog.Wp.{WpFn}
use contract.Monad.{fact, fact_i}
use contract.Running.{tables}
use types.Kit.{‵, raw, ◌⊛◌, ◌$◌, ◌∵◌, !, qed, by, move, keep, drop, use0, split, join, fsplit, fsplit3, fjoin, fjoin3, feq_i, suffices}
use types.Run.{stop, fld, of_opd, unit_lit, assigns, returns, enter}
use types.ByLocal.{alloc_all, pass_all, free_all, look_at, get, get_in, through, sets}
use types.Part.{sub, whole, store_in}
use denote.Exit.{yes}
use denote.RattleType.{owns}
use denote.RawPtr.{Ptr, block_ptr}
use denote.Signature.{plain, types_at}
use denote.Steps.{nothing}
use denote.Triple.Walked.{Stays, stay_dropped, stay_ref, walk_of, Goes-dropped, Goes-ref}
use Rattle.uda_c.specs.Slots.{slot_of}
use Rattle.uda_called.specs.contracts.lent.BorrowedBytes.{the_row as L}
use Rattle.uda_c.specs.contracts.slot.Slot.{the_row as R}
use Rattle.uda_c.proofs.SlotSteps.{slot, word, lent_out, slot_in, slot_opens, slot_closes}
use Rattle.uda_c.specs.contracts.slot.Slot.put as f
use Rattle.uda_c.proofs.slot.Slot.put.Statement.{statement}
use Rattle.uda_c.proofs.slot.Slot.put.Code as code

abbrev stayed : Stays f.ended.signature.params f.ended.kept
stayed = (stay_ref (0 ∷ []) tt (plain (λ _. R)), (stay_dropped (plain (λ _. L)) yes, tt))

pub put_spec : {M : Type 1} → statement M
put_spec 𝓤 𝓛 𝓜 𝓡 wired =
    let c = f.clauses 𝓛 𝓜.mem 𝓡.returns in let 𝓣 = tables 𝓤 𝓛.H 𝓜 𝓡 𝓡.env in
    proved_at 𝓛 f.ended stayed c 𝓜 𝓡 (
      Goes-ref 𝓛 1 0 tt (plain (λ _. R)),
      (
        Goes-dropped 𝓛 1 (plain (λ _. L))
            yes (λ κs x w. refl),
        tt,
      ),
    )
    f.Key.name code.function (code.unfolded 𝓤 𝓛.H 𝓜 𝓡 wired) (λ z are.
    let κ = z.0.0.0 in let q = z.0.1.0 in let r = z.0.3.0 in let d = z.0.3.1.0 in let b = r.ref_ptr.0 in
    let o = r.ref_ptr.1 in let n = d.len in let xs = d.held in
    let Run : List Val → SProp 𝓤 = λ ws. WpFn 𝓤 𝓛.H 𝓣.C 𝓣.Λ code.function ws ((walk_of 𝓛 f.ended stayed
    c).post z) in
    qed 𝓛 (((‵ (flft κ q) ⊛ ‵ ftrue) ⊛ ‵ (owns (types_at f.ended.signature.params z.0.0) z.0.3 z.0.4)) ∷ ‵
    ftrue ∷ []) ∵
    move ! (1 ∷ []) $ drop ! $ split ! $ split ! $ move ! (2 ∷ []) $ fsplit ! $ move ! (1 ∷ []) $ fsplit ! $
    lent_out ! d z.0.4.1.0 (λ pb po e ws fn.
    let p : Ptr = block_ptr pb po in
    suffices ! (Run (vptr b o ∷ word p n ∷ [])) (subst (λ (us : List Val). ent 𝓤 (Run (vptr b o ∷ word p n ∷
    [])) (Run us)) (sym (λ i. are.0.0 i ++ (ws i ++ []))) (id⊢ 𝓤 _)) $
    enter ! 𝓣.C 𝓣.Λ code.function _ _ $ alloc_all ! (λ l. pass_all ! refl (
      (tt, tt),
      (
        (
          tt,
          (
            tt,
            (
              record {
                fits = fn;
              },
              tt,
            ),
          ),
        ),
        tt,
      ),
    ) $
    sets ! (of_opd ! (get_in ! (fld ! refl (stop !)) (sub ! 0 refl (whole !)))) refl (tt, tt) $
    sets ! (of_opd ! (get_in ! (fld ! refl (stop !)) (sub ! 1 refl (whole !)))) refl (
      tt,
      record {
        fits = fn;
      },
    ) $
    -- [the bytes; nothing; self; the token]
    move ! (2 ∷ []) $ fsplit3 ! $ drop ! $ move ! (0 ∷ 1 ∷ 4 ∷ []) $
    slot_opens ! tt r.now.at r.now.len r.now.held b o (λ _. drop ! $
    assigns ! (of_opd ! (get ! refl)) (through ! refl (fld ! refl (stop !))) (store_in ! 0 (sub ! 0 refl
    (whole !)) (tt, tt)) $
    assigns ! (of_opd ! (get ! refl)) (through ! refl (fld ! refl (stop !))) (store_in ! 0 (sub ! 1 refl
    (whole !)) (tt, record { fits = fn })) $
    move ! (4 ∷ []) $ slot_in ! pb po n xs $ slot_closes ! tt p n xs b o fn $
    sets ! (of_opd ! (unit_lit !)) refl (tt, tt) $ returns ! (look_at ! 0 refl) $ free_all ! refl $
    keep ! (0 ∷ 1 ∷ 2 ∷ []) $
    feq_i ! (List Val) z.0.4.0 (vptr b o ∷ []) are.0.0 $ fjoin3 ! $ nothing ! $ nothing ! $ fjoin ! $
    move ! (1 ∷ 0 ∷ []) $ fjoin ! $
    nothing ! $ move ! (2 ∷ 0 ∷ []) $ join ! $ feq_i ! (List Val) (vunit ∷ []) (vunit ∷ []) refl $
    use0 𝓛 (raw (fact 𝓤 (slot p n xs ≡ slot_of d))) (fact_i 𝓤 (slot p n xs ≡ slot_of d) (emp 𝓤) (ap (λ (s :
    Ptr). slot s n xs) (sym e))) $ keep ! (2 ∷ 3 ∷ 1 ∷ 0 ∷ []) $
    by ! (leaves 𝓛 f.ended stayed c z vunit tt (slot p n xs, (tt, tt)) (tt, (tt, tt)))))))
