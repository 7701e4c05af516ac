-- `window_mut` lends the window if there is one, and the memory follows it. It is a walk by hand, since the
-- borrow checker follows no loan inside an `Option`.
-- `self` is lent to `has_mut` for a lifetime of its own and comes back unchanged. If there is a window,
-- `self` is moved into `within`, and its facts of the loan are passed on. Otherwise the last value of `self`
-- is its first.
-- Assumes `Logic`.
use mathlib.Core.Path.{◌≡◌, refl, ap}
use mathlib.Core.Logic.{◌↔◌}
use mathlib.Core.Bool.{Bool, false, not, true}
use mathlib.Core.List.{List, [], ◌∷◌}
use Prim.Native.Nat.{ℕ, ◌+◌, ◌≤◌}
use lib.ListN.{length}
use lib.Dec.{T, lit<}
use base.Fraction.{full_share}
use base.Logic.{emp, id⊢}
use base.Fml.{ftrue, flft, fres}
use contract.Monad.{fact, fact_i}
use contract.Running.{tables}
use denote.Builtin.{bool, u8, u32}
use denote.Exit.{no, yes}
use denote.Follow.{follows_by}
use denote.Laws.{shows}
use denote.Lend.{LentAgain, lends_again, comes_back}
use denote.Plain.{uint_Makes, uint_Tells, uint_vals}
use denote.RattleType.{RattleType}
use denote.Ref.{MutBor, MutRef, mut_Tells, mut_vals}
use denote.Signature.{mut_ref_to, plain}
use denote.Slice.{MutSlice, slice_val}
use denote.Steps.{facts, heard, nothing, only, owned, peeks}
use denote.Triple.Call.{calls_at}
use denote.Triple.Clauses.{lasts}
use denote.Triple.Spec.{triple_of}
use denote.Triple.Table.{framed}
use denote.Triple.Walked.{Goes-dropped, Goes-spent_ref, Stays, ends_at, stay_dropped, walk_of}
use mir.Syntax.{named, w32}
use mir.Val.{Val, of_list}
use types.ByLocal.{alloc_all, env, free_all, get, lands_as, look_at, pass_all, sets, sets_last, through}
use types.Kit.{ !, at_ret, await, done, drop, fjoin, frame, fsplit, fsplit3, join, keep, later, move, pick, qed, raw, rewrite, some, split, suffices, use0, use1, use2, use3, ‵, ◌$◌, ◌∵◌, ◌⊛◌}
use types.Match.{live}
use types.Part.{agg}
use types.Run.{addr as address, and_then, branches, enter, exec, first, lit, no_more, of_opd, returns, stop}
use types.Tokens.{lft_end, lft_new}
use Rattle.std.proofs.mem.Facts.{says_three}
use Rattle.std.proofs.raw_atomic.Walks.{proved}
use Rattle.std.proofs.Flags.{T_true, never_true}
use Rattle.std.proofs.VecSteps.Element.{Some-of, none_of}
use Rattle.std.specs.contracts.option.Option as OP
use Rattle.std.specs.Prelude.{None, Some, IsTrue}
use Rattle.uda_mem.specs.Put.{part}
use Rattle.uda_mem.specs.Windows.{LendsWindow}
use Rattle.uda_mem.specs.contracts.memory.HostMemory.{the_row as R}
use Rattle.uda_mem.specs.contracts.memory.HostMemory.has_mut as has_mut
use Rattle.uda_mem.specs.contracts.memory.HostMemory.window_mut as window_mut
use Rattle.uda_mem.specs.contracts.memory.HostMemory.within as within
use Rattle.uda_mem.proofs.memory.HostMemory.has_mut.Met as has_mut_thm
use Rattle.uda_mem.proofs.memory.HostMemory.within.Met as within_thm
use Rattle.uda_mem.proofs.memory.HostMemory.window_mut.Code as code
use Rattle.uda_mem.proofs.memory.HostMemory.window_mut.Statement.{statement}

abbrev stayed : Stays window_mut.ended.signature.params window_mut.ended.kept
stayed = (
  stay_dropped (mut_ref_to (0 ∷ []) tt (plain (λ _. R))) no,
  (stay_dropped _ yes, (stay_dropped _ yes, tt)),
)

-- a test that failed isn't true
not_held : (u : Bool) → T (not u) → u ≡ true → ⊥
not_held true failed is = failed
not_held false failed is = never_true is

pub window_mut_spec : {M : Type 1} → statement M
unfolding follows_by
window_mut_spec 𝓤 𝓛 𝓜 𝓡 wired =
    let c = window_mut.clauses 𝓛 𝓜.mem 𝓡.returns in
    let W = walk_of 𝓛 window_mut.ended stayed c in let 𝓣 = tables 𝓤 𝓛.H 𝓜 𝓡 𝓡.env in
    let number = Goes-dropped 𝓛 1 (plain (λ _. u32)) yes (λ κs x w. refl) in
    proved 𝓛 window_mut.ended stayed c 𝓜 𝓡 (
      Goes-spent_ref 𝓛 1 (0 ∷ []) tt (plain (λ _. R)),
      (number, (number, tt)),
    )
    window_mut.Key.name code.function (code.unfolded 𝓤 𝓛.H 𝓜 𝓡 wired)
    (λ κs. (mut_vals, (uint_vals w32, (uint_vals w32, tt))))
    (λ κs. (mut_Tells (named 0) κs.0 R, (uint_Tells w32, (uint_Tells w32, tt))))
    (λ κs qs bounds a _ are.
    let κ = κs.0 in let q = qs.0 in let r = a.0 in let addr = a.1.0 in let len = a.1.1.0 in
    let b = r.ref_ptr.0 in let o = r.ref_ptr.1 in let vs = mut_vals r in
    let Lent : RattleType = MutSlice (named 0) κ u8 in
    let y : W.Ghost = ((κs, qs, bounds, a, (vs, (uint_vals w32 addr, (uint_vals w32 len, tt)))), tt) in
    qed 𝓛 (((‵ (flft κ q) ⊛ ‵ ftrue) ⊛ ‵ ((MutRef (named 0) κ R).own_val r vs) ⊛ ‵
    (u32.own_val addr (uint_vals w32 addr)) ⊛ ‵ (u32.own_val len (uint_vals w32 len)) ⊛ ‵ ftrue) ∷ ‵ ftrue
    ∷ []) ∵
    split ! $ split ! $ move ! (2 ∷ []) $ split ! $ keep ! (0 ∷ 2 ∷ []) $
    enter ! _ _ _ _ _ $
    alloc_all ! (λ l. pass_all ! refl
    ((tt, tt), ((tt, record { fits = are.1.0.1 }), ((tt, record { fits = are.1.1.0.1 }), tt))) $
    -- [self; the token of κ]
    sets ! (address ! (through ! refl (stop !))) refl (tt, tt) $
    lft_new ! tt (λ α. move ! (1 ∷ 2 ∷ []) $
    use2 𝓛 (later (some (λ (δ : ℕ). ‵ ((MutRef (named 0) (α ∷ []) R).own_val (record r { ghost_name = δ }) vs)
    ⊛ ‵ (LentAgain R κ (α ∷ []) q r.ghost_name b o δ r.now))))
    (lends_again 𝓛 R (named 0) κ (α ∷ []) q r.ghost_name b o (named 0) r.now) $ await ! tt $
    pick ! (λ δ. split ! $
    -- [the loan; what the lender keeps; the token of α]
    let Test = triple_of 𝓛 has_mut.signature (has_mut.spec 𝓛 𝓜.mem 𝓡.returns) in
    let z : Test.Ghost = (
      (
        (α ∷ [], tt),
        (full_share, tt),
        tt,
        (record r { ghost_name = δ }, a.1),
        (vs, (uint_vals w32 addr, (uint_vals w32 len, tt))),
      ),
      tt,
    ) in
    -- what `has_mut` is given: its token, the loan and the two numbers
    nothing ! $ owned ! u32 _ (uint_Makes 𝓛 w32) len _ (refl, are.1.1.0.1) $ join ! $
    owned ! u32 _ (uint_Makes 𝓛 w32) addr _ (refl, are.1.0.1) $ join ! $
    move ! (1 ∷ 0 ∷ []) $ join ! $ nothing ! $ move ! (3 ∷ 0 ∷ []) $ join ! $ join ! $
    nothing ! $ move ! (1 ∷ 0 ∷ []) $ use2 𝓛 (raw (Test.pre z)) (id⊢ 𝓤 _) $
    calls_at ! (framed 𝓤 𝓛.H 𝓜 𝓣) Test
    (has_mut_thm.met 𝓤 𝓛 𝓜 𝓡 (code.calls-uda_mem::memory::HostMemory::has_mut 𝓡.env wired)) z
    (and_then ! (get ! refl) (and_then ! (get ! refl) (and_then ! (get ! refl) (no_more !)))) (λ v.
    use1 𝓛 (later
    (some (λ (u : Bool). ((‵ (flft (α ∷ []) full_share) ⊛ ‵ ftrue) ⊛ ‵ (bool.own_val u (v ∷ []))) ⊛
    some (λ (ws : List ℕ × (Unit {0} × (Unit {0} × Unit {0}))). ‵ (lasts has_mut.ended z.0.0 z.0.3 ws) ⊛ raw
    (fact 𝓤 (IsTrue u ↔ (addr + len ≤ length r.now))) ⊛ raw (fact 𝓤 (ws.0 ≡ r.now)))))) (id⊢ 𝓤 _) $
    await ! tt $ pick ! (λ u. split ! $ split ! $ split ! $ lft_end ! tt $ move ! (2 ∷ []) $
    facts ! bool _ (shows 𝓛 bool) u (v ∷ []) (λ is.
    lands_as ! (ap only is) refl (tt, tt) $
    move ! (2 ∷ []) $ pick ! (λ ws. split ! $ move ! (1 ∷ []) $ split ! $
    heard ! _ (λ answer. heard ! _ (λ unchanged. fsplit ! $ fsplit ! $
    rewrite ! 0 (λ (m : List ℕ). ‵ (fres δ (R.coded.code m))) unchanged refl $
    -- [the loan's last value; its borrow; nothing; α is over; nothing; what the lender keeps]
    move ! (3 ∷ 5 ∷ 0 ∷ []) $ use3 𝓛 (later (‵ ((MutRef (named 0) κ R).own_val r vs) ⊛ ‵ (flft κ q)))
    (comes_back 𝓛 R (named 0) κ (α ∷ []) q r.ghost_name b o δ r.now r.now) $ await ! tt $ split ! $
    -- [self, as it was; the token of κ]
    first ! $ branches ! (get ! refl)
    (λ held. let fits : addr + len ≤ length r.now = answer.0 (T_true u held) in
    sets ! (address ! (through ! refl (stop !))) refl (tt, tt) $
    let Loan = triple_of 𝓛 within.signature (within.spec 𝓛 𝓜.mem 𝓡.returns) in
    -- what `within` is given: the token of κ, self, the two numbers, and that the bytes are there
    nothing ! $ owned ! u32 _ (uint_Makes 𝓛 w32) len _ (refl, are.1.1.0.1) $ join ! $
    owned ! u32 _ (uint_Makes 𝓛 w32) addr _ (refl, are.1.0.1) $ join ! $
    move ! (1 ∷ 0 ∷ []) $ join ! $ nothing ! $ move ! (2 ∷ 0 ∷ []) $ join ! $ join ! $
    use0 𝓛 (raw (fact 𝓤 (addr + len ≤ length r.now))) (fact_i 𝓤 _ (emp 𝓤) fits) $ move ! (1 ∷ 0 ∷ []) $
    use2 𝓛 (raw (Loan.pre y)) (id⊢ 𝓤 _) $
    calls_at ! (framed 𝓤 𝓛.H 𝓜 𝓣) Loan
    (within_thm.met 𝓤 𝓛 𝓜 𝓡 (code.calls-uda_mem::memory::HostMemory::within 𝓡.env wired)) y
    (and_then ! (get ! refl) (and_then ! (get ! refl) (and_then ! (get ! refl) (no_more !)))) (λ v'.
    use1 𝓛 (later (some (λ (w : MutBor (List ℕ)). ((‵ (flft κ q) ⊛ ‵ ftrue) ⊛ ‵ (Lent.own_val w (v' ∷ []))) ⊛
    some (λ (ends : Unit {0} × (Unit {0} × (Unit {0} × Unit {0}))). ‵ (lasts within.ended κs a ends) ⊛ ‵
    (LendsWindow r addr w) ⊛ raw (fact 𝓤 (w.now ≡ part r.now addr len)) ⊛ raw
    (fact 𝓤 (length w.now ≡ len)))))) (id⊢ 𝓤 _) $
    await ! tt $ pick ! (λ w. split ! $ split ! $ split ! $ move ! (2 ∷ []) $ peeks ! Lent _ (shows 𝓛 Lent) w
    (v' ∷ []) (λ known.
    let sv = slice_val w.ref_ptr (length w.now) in
    rewrite ! 0 (λ (us : List Val). ‵ (Lent.own_val w us)) known.0.0 refl $
    lands_as ! (ap only known.0.0) refl (tt, (tt, (record { fits = known.0.1.0 }, tt))) $
    move ! (3 ∷ []) $ pick ! (λ ends. split ! $ drop ! $ split ! $ move ! (1 ∷ []) $ split ! $
    heard ! _ (λ bytes. heard ! _ (λ as_long.
    sets_last ! (agg ! (and_then ! (lit ! tt) (and_then ! (get ! refl) (no_more !)))) refl
    (tt, (record { fits = lit< tt }, ((tt, (record { fits = known.0.1.0 }, tt)), tt))) $
    exec ! 𝓣.C 𝓣.Λ (env code.Mir.locals l) code.Mir.t-4 (at_ret _ (W.post y)) $
    sets ! (of_opd ! (get ! refl)) refl
    (tt, (record { fits = lit< tt }, ((tt, (record { fits = known.0.1.0 }, tt)), tt))) $
    returns ! (look_at ! 0 refl) $ free_all ! refl $ keep ! (1 ∷ 2 ∷ 0 ∷ []) $
    -- [the window; the token of κ; what the memory follows]
    use1 𝓛 (‵ ((OP.the_row Lent).own_val (Some w) (live 1 (of_list (sv ∷ [])) ∷ []))) (Some-of 𝓛 Lent w sv) $
    suffices ! _ (ends_at 𝓛 window_mut.ended stayed c y (live 1 (of_list (sv ∷ []))) (Some w)
    (tt, (tt, (tt, tt))) (tt, (tt, (tt, tt)))) $
    nothing ! $ nothing ! $ fjoin ! $ nothing ! $ fjoin ! $ nothing ! $ fjoin ! $ join ! $ nothing ! $
    move ! (2 ∷ 0 ∷ []) $ join ! $ join ! $ frame !
    $ says_three ! ((λ _. fits, λ _. refl), bytes, as_long) $ done !)))))))
    (λ failed.
    sets_last ! (agg ! (and_then ! (lit ! tt) (no_more !))) refl (tt, (record { fits = lit< tt }, tt)) $
    exec ! 𝓣.C 𝓣.Λ (env code.Mir.locals l) code.Mir.t-4 (at_ret _ (W.post y)) $
    sets ! (of_opd ! (get ! refl)) refl (tt, (record { fits = lit< tt }, tt)) $
    returns ! (look_at ! 0 refl) $ free_all ! refl $ keep ! (0 ∷ 1 ∷ []) $ fsplit3 ! $ keep ! (1 ∷ 3 ∷ []) $
    -- [the name of self; the token of κ]
    use1 𝓛 (‵ (fres r.ghost_name (R.coded.code r.now))) (𝓛.names.obs-res r.ghost_name (R.coded.code r.now)) $
    move ! (1 ∷ []) $
    use0 𝓛 (‵ ((OP.the_row Lent).own_val None (live 0 (of_list []) ∷ []))) (none_of 𝓛 Lent) $
    suffices ! _ (ends_at 𝓛 window_mut.ended stayed c y (live 0 (of_list [])) None (tt, (tt, (tt, tt)))
    (tt, (tt, (tt, tt)))) $
    nothing ! $ nothing ! $ fjoin ! $ nothing ! $ fjoin ! $ nothing ! $ fjoin ! $ join ! $ nothing ! $
    move ! (2 ∷ 0 ∷ []) $ join ! $ join ! $ frame !
    $ says_three ! ((λ t. never_true t, λ some. absurd (not_held u failed (answer.1 some))), tt, tt) $
    done !)))))))))))
