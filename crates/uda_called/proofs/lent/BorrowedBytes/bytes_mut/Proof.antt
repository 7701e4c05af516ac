-- `bytes_mut` lends the bytes, and the struct follows them.
use Rattle.std.proofs.Common.{◌≡◌, ℕ, ◌*◌, ◌<◌, ◌^◌, List, [], ◌∷◌, length, refl, sym, ap, ◌∙◌, arith}
use Rattle.std.proofs.raw_atomic.Walks.{proved}
use seplogic.Ra.Ura.{Ura}
use base.Fraction.{full_share}
use base.Logic.{SProp, ent, sep, id⊢}
use base.Fml.{Lft, GName, Share, Fml, ftrue, fsep, feq, flft, fobs, fbor}
use mir.Syntax.{named}
use mir.Val.{Val, vptr}
use prog.Memory.{Memory}
use prog.Routine.{Routine}
use prog.Wp.{Calls, Loops, WpFn}
use contract.Monad.{Fun}
use contract.Running.{tables}
use types.Logic.{Logic, sem}
use types.Kit.{Item, ⋆, ‵, raw, ◌⊛◌, some, later, at_ret, ◌$◌, ◌∵◌, !, qed, by, move, keep, use1, split, join, group, pick, await, rewrite, fsplit, fsplit3, fjoin, fpack, feq_l, feq_i, flt_l, flt_i, suffices, frame, done}
use types.Run.{stop, fld, load, of_opd, no_more, and_then, first, blocks, exec, returns, enter}
use types.ByLocal.{alloc_all, pass_all, free_all, look_at, get, through, sets, sets_last, env}
use types.Part.{agg, whole, sub, look_in}
use types.SemTy.{cells, Body as Borrowed}
use denote.Array.{Array}
use denote.Builtin.{u8}
use denote.Exit.{no}
use denote.Follow.{follows}
use denote.FollowSlice.{Elements, lends_Elements}
use denote.Index.{whole_in, whole_out}
use denote.Laws.{shows}
use denote.Memory.{mem, cell_at, part_at, part_of}
use denote.RawPtr.{Ptr, block_ptr, in_a_block, lies_at}
use denote.RawPtr.Bytes.{bytes, bytes_apart, bytes_whole}
use denote.Ref.{MutRef, mut_vals, mut_Tells}
use denote.Signature.{plain, mut_ref_to}
use denote.Slice.{MutSlice, slice_val}
use denote.Steps.{nothing, opens, peeks}
use denote.Struct.Struct.{Struct}
use denote.Struct.Owning.{shape}
use denote.Triple.Walked.{says, Stays, stay_dropped, walk_of, ends_at, Goes-spent_ref}
use Rattle.core.proofs.alloc.Shapes.{after}
use Rattle.uda_called.specs.LendsBytes.{with_held}
use Rattle.uda_called.specs.declared.lent.BorrowedBytes.{BorrowedBytes}
use Rattle.uda_called.specs.contracts.lent.BorrowedBytes.{the_row as R, the_type}
use Rattle.uda_called.proofs.lent.BorrowedBytes.TheLaws.{lowers}
use Rattle.uda_called.specs.contracts.lent.BorrowedBytes.bytes_mut as f
use Rattle.uda_called.proofs.lent.BorrowedBytes.bytes_mut.Statement.{statement}
use Rattle.uda_called.proofs.lent.BorrowedBytes.bytes_mut.Code as code

abbrev stayed : Stays f.ended.signature.params f.ended.kept
stayed = (stay_dropped (mut_ref_to (0 ∷ []) tt (plain (λ _. R))) no, tt)

module _ {M : Type 1} {𝓤 : Ura M} (𝓛 : Logic 𝓤) (at_mem : Memory → SProp 𝓤) (run : Routine → Fun 𝓤)
    (C : Calls 𝓤 𝓛.H) (Λ : Loops 𝓤 𝓛.H) (κ : Lft) (q : Share) (b o : ℕ) (γ : GName) (h : BorrowedBytes) where
  open 𝓛 use {H, A}

  abbrev bound : (walk_of 𝓛 f.ended stayed (f.clauses 𝓛 at_mem run)).Ghost
  bound = (
    (
      (κ, tt),
      (q, tt),
      tt,
      (record { ref_ptr = (b, o); ghost_name = γ; now = h }, tt),
      (vptr b o ∷ [], tt),
    ),
    tt,
  )

  abbrev Post : Val → SProp 𝓤
  Post = (walk_of 𝓛 f.ended stayed (f.clauses 𝓛 at_mem run)).post bound

  abbrev n : ℕ
  n = h.len

  abbrev xs : List ℕ
  xs = h.held

  abbrev Had : List (Item 𝓤)
  Had = ‵ (fobs γ (R.coded.code h)) ∷ ‵ (fbor κ (Borrowed (mem R) b o γ)) ∷ ‵ (flft κ q) ∷ []

  module _ (us : List Val) (pb po : ℕ) where
    -- all except the bytes
    abbrev Rest : Fml
    Rest = fsep ((Struct (shape the_type)).own_val (h.at, (n, tt)) us) (cell_at full_share R.mir us b o)

    back : h.at ≡ block_ptr pb po → length xs ≡ n → n < 2 ^ 63 → (ws : List ℕ) → length ws ≡ length xs
        → ent 𝓤 (sep 𝓤 (sem 𝓛 (cells (mem u8) ws pb po)) (sem 𝓛 Rest))
        (sem 𝓛 ((mem R).own_at (with_held h ws) b o))
    unfolding part_of
    back e long small ws same =
        qed 𝓛 (‵ (cells (mem u8) ws pb po) ∷ ‵ Rest ∷ []) ∵ use1 𝓛 (‵ (bytes full_share ws pb po))
        (whole_out 𝓛 u8 ws pb po) $ feq_i ! ℕ (length ws) n (same ∙ long) $ fjoin ! $
        use1 𝓛 (‵ (part_at (Array u8 n) full_share ws pb po)) (bytes_whole 𝓛 full_share n ws pb po) $
        rewrite ! 0 (λ (r : Ptr). ‵ (lies_at (Array u8 n) full_share r ws)) (sym e) refl $
        flt_i ! n (2 ^ 63) small $ fjoin ! $ move ! (1 ∷ []) $ fsplit ! $ move ! (0 ∷ 2 ∷ []) $ fjoin ! $
        move ! (1 ∷ 0 ∷ []) $ fjoin ! $
        fpack ! (List Val) (λ vs. fsep (cell_at full_share R.mir vs b o) (R.own_val (with_held h ws) vs)) us $
        done !

    exits : length xs ≡ n → (δ : GName)
        → ent 𝓤 (sep 𝓤
        (sem 𝓛 ((MutSlice (named 0) κ u8).own_val (record { ref_ptr = (pb, po); ghost_name = δ; now = xs })
        (slice_val (pb, po) (length xs) ∷ [])))
        (sep 𝓤 (A.lft κ q) (sem 𝓛 (follows R (Array u8 0) γ δ (with_held h))))) (Post (slice_val (pb, po) n))
    exits long δ =
        qed 𝓛 (‵ ((MutSlice (named 0) κ u8).own_val (record { ref_ptr = (pb, po); ghost_name = δ; now = xs })
        (slice_val (pb, po) (length xs) ∷ [])) ∷ ‵ (flft κ q) ∷ ‵ (follows R (Array u8 0) γ δ (with_held h))
        ∷ []) ∵
        rewrite ! 0 (λ (j : ℕ). ‵ ((MutSlice (named 0) κ u8).own_val
        (record { ref_ptr = (pb, po); ghost_name = δ; now = xs }) (slice_val (pb, po) j ∷ []))) long refl $
        suffices ! _ (ends_at 𝓛 f.ended stayed (f.clauses 𝓛 at_mem run) bound (slice_val (pb, po) n)
        (record { ref_ptr = (pb, po); ghost_name = δ; now = xs }) (tt, tt) (tt, tt)) $
        nothing ! $ nothing ! $ fjoin ! $ join ! $ nothing ! $ move ! (2 ∷ 0 ∷ []) $ join ! $ join ! $
        frame ! $ says ! refl $ done !

  walk : ent 𝓤 (⋆ 𝓛 Had) (WpFn 𝓤 H C Λ code.function (vptr b o ∷ []) Post)
  walk =
      let Cell : List Val → Item 𝓤 = λ vs. ‵ (cell_at full_share R.mir vs b o) in
      qed 𝓛 Had ∵ enter ! C Λ code.function (vptr b o ∷ []) _ $
      alloc_all ! (λ l. pass_all ! refl ((tt, tt), tt) $ let Ev = env code.Mir.locals l in
      opens ! tt R b o (λ us. move ! (1 ∷ []) $ peeks ! R _ (shows 𝓛 R) h us
      (λ is. fsplit ! $ move ! (1 ∷ []) $ fsplit ! $ flt_l ! (λ small.
      in_a_block ! h.at (λ r. lies_at (Array u8 n) full_share r xs) (id⊢ 𝓤 _) (λ pb po e.
      use1 𝓛 (‵ (fsep (feq ℕ (length xs) n) (bytes full_share xs pb po)))
      (bytes_apart 𝓛 full_share n xs pb po) $ fsplit ! $ feq_l ! (λ long.
      use1 𝓛 (‵ (cells (mem u8) xs pb po)) (whole_in 𝓛 u8 xs pb po) $
      let fits : n < 2 ^ 64 = omega arith in
      let roomy : length xs < 2 ^ 64 = omega arith in let fitting : length xs * 1 < 2 ^ 63 = omega arith in
      let word = lowers.val_is h us is ∙ ap (λ (r : Ptr). lowers.lowered (record h { at = r }) ∷ []) e in
      -- [the bytes; the fields; the cell; the open borrow, in three entries]
      rewrite ! 2 Cell word refl $ first ! $ blocks ! $
      sets ! (of_opd ! (load ! (through ! refl (fld ! refl (stop !))) (look_in ! 2 (sub ! 0 refl (whole !)))))
      refl (tt, tt) $
      sets ! (of_opd ! (load ! (through ! refl (fld ! refl (stop !))) (look_in ! 2 (sub ! 1 refl (whole !)))))
      refl (tt, record { fits = fits }) $
      sets_last ! (agg ! (and_then ! (get ! refl) (and_then ! (get ! refl) (no_more !)))) refl
      (tt, (tt, (record { fits = fits }, tt))) $
      exec ! C Λ Ev (after 1 (code.function).body) (at_ret Ev Post) $ sets ! (of_opd ! (get ! refl)) refl
      (tt, (tt, (record { fits = fits }, tt))) $
      rewrite ! 2 Cell (sym word) refl $ move ! (1 ∷ 2 ∷ []) $ fjoin ! $ move ! (2 ∷ 3 ∷ 4 ∷ 1 ∷ 0 ∷ []) $
      group ! 5 $
      use1 𝓛 (later
      (some (λ (δ : GName). raw (Elements 𝓛 R u8 (with_held h) (named 0) κ q b o pb po γ xs (roomy, fitting)
      (sem 𝓛 (Rest us pb po)) (back us pb po e long small) δ))))
      (lends_Elements 𝓛 R u8 (with_held h) (named 0) κ q b o pb po γ xs (roomy, fitting)
      (sem 𝓛 (Rest us pb po)) (back us pb po e long small) (R.coded.code h) (R.coded.code h)) $ await ! tt $
      pick ! (λ δ.
      returns ! (look_at ! 0 refl) $ free_all ! refl $ keep ! (0 ∷ []) $ by ! (exits us pb po long δ))))))))

pub bytes_mut_spec : {M : Type 1} → statement M
bytes_mut_spec 𝓤 𝓛 𝓜 𝓡 wired =
    let c = f.clauses 𝓛 𝓜.mem 𝓡.returns in let 𝓣 = tables 𝓤 𝓛.H 𝓜 𝓡 𝓡.env in
    proved 𝓛 f.ended stayed c 𝓜 𝓡 (Goes-spent_ref 𝓛 1 (0 ∷ []) tt (plain (λ _. R)), tt)
    f.Key.name code.function (code.unfolded 𝓤 𝓛.H 𝓜 𝓡 wired)
    (λ κs. (mut_vals, tt)) (λ κs. (mut_Tells (named 0) κs.0 R, tt)) (λ κs qs bounds a _ are.
    let r = a.0 in
    qed 𝓛 (((‵ (flft κs.0 qs.0) ⊛ ‵ ftrue) ⊛ ‵ ((MutRef (named 0) κs.0 R).own_val r (mut_vals r)) ⊛ ‵ ftrue)
    ∷ ‵ ftrue ∷ []) ∵
    split ! $ split ! $ move ! (2 ∷ []) $ split ! $ fsplit3 ! $ keep ! (1 ∷ 2 ∷ 4 ∷ []) $
    by ! (walk 𝓛 𝓜.mem 𝓡.returns 𝓣.C 𝓣.Λ κs.0 qs.0 r.ref_ptr.0 r.ref_ptr.1 r.ghost_name r.now))
