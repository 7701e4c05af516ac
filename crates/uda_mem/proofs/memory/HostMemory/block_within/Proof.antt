-- `block_within` lends the window of a block as an array, and the memory follows it. It is a walk by hand,
-- since one of the two loans is in the other: `as_block`'s is on what `within` lent.
-- `self` is moved into `within` and its window into `as_block`; `follows_then` joins the facts of both loans.
-- Assumes `Logic`.
use mathlib.Core.Path.{◌≡◌, refl, ap, ◌∙◌}
use mathlib.Core.List.{List, [], ◌∷◌}
use Prim.Native.Nat.{ℕ, ◌+◌, ◌≤◌}
use lib.ListN.{length}
use lib.Dec.{lit<}
use base.Logic.{emp, id⊢}
use base.Fml.{ftrue, flft}
use contract.Monad.{fact, fact_i}
use contract.Running.{tables}
use denote.Array.{Array}
use denote.Builtin.{u8, u32}
use denote.Exit.{no, yes}
use denote.Follow.{follows_then}
use denote.Laws.{shows}
use denote.Plain.{uint_Makes, uint_Tells, uint_vals}
use denote.RattleType.{RattleType}
use denote.Ref.{MutBor, MutRef, mut_Tells, mut_vals}
use denote.Signature.{mut_ref_to, plain}
use denote.Slice.{MutSlice, slice_val}
use denote.Steps.{heard, nothing, only, owned, peeks}
use denote.Triple.Call.{calls_at}
use denote.Triple.Clauses.{lasts}
use denote.Triple.Spec.{triple_of}
use denote.Triple.Table.{framed}
use denote.Triple.Walked.{Goes-dropped, Goes-spent_ref, Stays, ends_at, says, stay_dropped, walk_of}
use mir.Syntax.{named, w32}
use mir.Val.{Val}
use types.ByLocal.{alloc_all, free_all, get, lands_as, look_at, pass_all, sets, through}
use types.Kit.{ !, await, done, drop, fjoin, frame, join, keep, later, move, pick, qed, raw, rewrite, some, split, suffices, use0, use1, use2, ‵, ◌$◌, ◌∵◌, ◌⊛◌}
use types.Run.{addr as address, and_then, enter, lit, no_more, returns, stop}
use Rattle.std.proofs.raw_atomic.Walks.{proved}
use Rattle.std.specs.Borrow.{Array as Items}
use Rattle.uda_mem.specs.Put.{part, put}
use Rattle.uda_mem.specs.Windows.{LendsWindow, LendsWhole}
use Rattle.uda_mem.specs.contracts.memory.HostMemory.{the_row as R}
use Rattle.uda_mem.specs.contracts.memory.HostMemory.block_within as block_within
use Rattle.uda_mem.specs.contracts.memory.HostMemory.within as within
use Rattle.uda_mem.specs.contracts.block.as_block as as_block
use Rattle.uda_mem.proofs.memory.HostMemory.within.Met as within_thm
use Rattle.uda_mem.proofs.block.as_block.Met as as_block_thm
use Rattle.uda_mem.proofs.memory.HostMemory.block_within.Code as code
use Rattle.uda_mem.proofs.memory.HostMemory.block_within.Statement.{statement}

abbrev stayed : Stays block_within.ended.signature.params block_within.ended.kept
stayed = (stay_dropped (mut_ref_to (0 ∷ []) tt (plain (λ _. R))) no, (stay_dropped _ yes, tt))

pub block_within_spec : {M : Type 1} → statement M
block_within_spec 𝓤 𝓛 𝓜 𝓡 wired =
    let c = block_within.clauses 𝓛 𝓜.mem 𝓡.returns in
    let W = walk_of 𝓛 block_within.ended stayed c in let 𝓣 = tables 𝓤 𝓛.H 𝓜 𝓡 𝓡.env in
    proved 𝓛 block_within.ended stayed c 𝓜 𝓡 (
      Goes-spent_ref 𝓛 1 (0 ∷ []) tt (plain (λ _. R)),
      (Goes-dropped 𝓛 1 (plain (λ _. u32)) yes (λ κs x w. refl), tt),
    )
    block_within.Key.name code.function (code.unfolded 𝓤 𝓛.H 𝓜 𝓡 wired)
    (λ κs. (mut_vals, (uint_vals w32, tt))) (λ κs. (mut_Tells (named 0) κs.0 R, (uint_Tells w32, tt)))
    (λ κs qs bounds a _ are.
    let κ = κs.0 in let q = qs.0 in let r = a.0 in let addr = a.1.0 in let vs = mut_vals r in
    let Slice : RattleType = MutSlice (named 0) κ u8 in
    let Block : RattleType = MutRef (named 0) κ (Array u8 512) in
    let y : W.Ghost = ((κs, qs, bounds, a, (vs, (uint_vals w32 addr, tt))), tt) in
    qed 𝓛 (((‵ (flft κ q) ⊛ ‵ ftrue) ⊛ ‵ ((MutRef (named 0) κ R).own_val r vs) ⊛ ‵
    (u32.own_val addr (uint_vals w32 addr)) ⊛ ‵ ftrue) ∷ raw (fact 𝓤 (addr + 512 ≤ length r.now)) ∷ []) ∵
    move ! (1 ∷ []) $ heard ! _ (λ inside.
    split ! $ split ! $ move ! (2 ∷ []) $ split ! $ keep ! (0 ∷ 2 ∷ []) $
    enter ! _ _ _ _ _ $
    alloc_all ! (λ l. pass_all ! refl ((tt, tt), ((tt, record { fits = are.1.0.1 }), tt)) $
    -- [self; the token of κ]
    sets ! (address ! (through ! refl (stop !))) refl (tt, tt) $
    let Within = triple_of 𝓛 within.signature (within.spec 𝓛 𝓜.mem 𝓡.returns) in
    let z : Within.Ghost =
    ((κs, qs, bounds, (r, (addr, (512, tt))), (vs, (uint_vals w32 addr, (uint_vals w32 512, tt)))), tt) in
    -- what `within` is given: the token of κ, self, the two numbers, and that the bytes are there
    nothing ! $ owned ! u32 _ (uint_Makes 𝓛 w32) 512 _ (refl, lit< tt) $ join ! $
    owned ! u32 _ (uint_Makes 𝓛 w32) addr _ (refl, are.1.0.1) $ join ! $
    move ! (1 ∷ 0 ∷ []) $ join ! $ nothing ! $ move ! (2 ∷ 0 ∷ []) $ join ! $ join ! $
    use0 𝓛 (raw (fact 𝓤 (addr + 512 ≤ length r.now))) (fact_i 𝓤 _ (emp 𝓤) inside) $ move ! (1 ∷ 0 ∷ []) $
    use2 𝓛 (raw (Within.pre z)) (id⊢ 𝓤 _) $
    calls_at ! (framed 𝓤 𝓛.H 𝓜 𝓣) Within
    (within_thm.met 𝓤 𝓛 𝓜 𝓡 (code.calls-uda_mem::memory::HostMemory::within 𝓡.env wired)) z
    (and_then ! (get ! refl) (and_then ! (get ! refl) (and_then ! (lit ! tt) (no_more !)))) (λ v.
    use1 𝓛 (later (some (λ (w : MutBor (List ℕ)). ((‵ (flft κ q) ⊛ ‵ ftrue) ⊛ ‵ (Slice.own_val w (v ∷ []))) ⊛
    some (λ (ends : Unit {0} × (Unit {0} × (Unit {0} × Unit {0}))). ‵ (lasts within.ended κs z.0.3 ends) ⊛ ‵
    (LendsWindow r addr w) ⊛ raw (fact 𝓤 (w.now ≡ part r.now addr 512)) ⊛ raw
    (fact 𝓤 (length w.now ≡ 512)))))) (id⊢ 𝓤 _) $
    await ! tt $ pick ! (λ w. split ! $ split ! $ split ! $ move ! (2 ∷ []) $
    peeks ! Slice _ (shows 𝓛 Slice) w (v ∷ []) (λ known.
    rewrite ! 0 (λ (us : List Val). ‵ (Slice.own_val w us)) known.0.0 refl $
    lands_as ! (ap only known.0.0) refl (tt, (tt, (record { fits = known.0.1.0 }, tt))) $
    move ! (3 ∷ []) $ pick ! (λ ends. split ! $ drop ! $ split ! $ move ! (1 ∷ []) $ split ! $
    heard ! _ (λ bytes. heard ! _ (λ as_long.
    -- [what the memory follows; the window; the token of κ]
    let As = triple_of 𝓛 as_block.signature (as_block.spec 𝓛 𝓜.mem 𝓡.returns) in
    let x : As.Ghost = ((κs, qs, bounds, (w, tt), (slice_val w.ref_ptr (length w.now) ∷ [], tt)), tt) in
    nothing ! $ move ! (2 ∷ 0 ∷ []) $ join ! $ move ! (2 ∷ 3 ∷ []) $ join ! $ join ! $
    use0 𝓛 (raw (fact 𝓤 (length w.now ≡ 512))) (fact_i 𝓤 _ (emp 𝓤) as_long) $ move ! (1 ∷ 0 ∷ []) $
    use2 𝓛 (raw (As.pre x)) (id⊢ 𝓤 _) $
    calls_at ! (framed 𝓤 𝓛.H 𝓜 𝓣) As
    (as_block_thm.met 𝓤 𝓛 𝓜 𝓡 (code.calls-uda_mem::block::as_block 𝓡.env wired)) x
    (and_then ! (get ! refl) (no_more !)) (λ v'.
    use1 𝓛 (later (some (λ (u : MutBor (List ℕ)). ((‵ (flft κ q) ⊛ ‵ ftrue) ⊛ ‵ (Block.own_val u (v' ∷ []))) ⊛
    some (λ (ends' : Unit {0} × Unit {0}). ‵ (lasts as_block.ended κs x.0.3 ends') ⊛ ‵ (LendsWhole w u) ⊛ raw
    (fact 𝓤 (u.now ≡ w.now)))))) (id⊢ 𝓤 _) $
    await ! tt $ pick ! (λ u. split ! $ split ! $ split ! $ move ! (2 ∷ []) $
    peeks ! Block _ (shows 𝓛 Block) u (v' ∷ []) (λ is.
    rewrite ! 0 (λ (us : List Val). ‵ (Block.own_val u us)) is.0 refl $
    lands_as ! (ap only is.0) refl (tt, tt) $
    move ! (3 ∷ []) $ pick ! (λ ends'. split ! $ drop ! $ split ! $ move ! (1 ∷ []) $ heard ! _ (λ same.
    -- [what the window follows; the block; the token of κ; nothing; what the memory follows]
    move ! (4 ∷ 0 ∷ []) $ use2 𝓛 (‵ (LendsWindow r addr u))
    (follows_then 𝓛 R (Items u8 0) (Items u8 0) (put r.now addr)
    (λ written. written) r.ghost_name w.ghost_name u.ghost_name) $
    returns ! (look_at ! 0 refl) $ free_all ! refl $ keep ! (1 ∷ 2 ∷ 0 ∷ []) $
    suffices ! _ (ends_at 𝓛 block_within.ended stayed c y (only (mut_vals u)) u (tt, (tt, tt))
    (tt, (tt, tt))) $
    nothing ! $ nothing ! $ fjoin ! $ nothing ! $ fjoin ! $ join ! $ nothing ! $ move ! (2 ∷ 0 ∷ []) $
    join ! $ join ! $ frame ! $ says ! (same ∙ bytes) $ done !))))))))))))))
