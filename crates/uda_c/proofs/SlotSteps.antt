-- Steps for the walks of a slot's methods. Assumes `Logic`.
-- lent_out: what lent bytes own is taken apart into their address and the words of the struct
-- slot_in: bytes are what a slot of that length owns
-- slot_opens, slot_closes: a `&mut` to a slot is opened, which gives its content and its one cell, and is
-- closed at another value
use Rattle.std.proofs.Common.{◌≡◌, ℕ, zero, suc, ◌<◌, ◌^◌, List, [], ◌∷◌, ◌++◌, length, refl, ap, ◌∙◌, arith}
use seplogic.Ra.Ura.{Ura}
use base.Fraction.{full_share}
use base.Logic.{id⊢}
use base.Fml.{Lft, GName, Share, Fml, fsep, feq, flft, fobs, fauth, fbor, fobor}
use base.Stored.{Gv}
use mir.Syntax.{w64}
use mir.Val.{Val, vint, vstruct, vcons, vnil, of_list}
use types.Logic.{Logic}
use types.Kit.{Item, Goal, Soaks, Seq, Step, step, ‵, ◌$◌, move, drop, use1, rewrite, fsplit, fjoin, fpick, fpack, feq_i, feq_l, flt_i, flt_l}
use types.SemTy.{Body as Borrowed}
use denote.RattleType.{Valss}
use denote.Array.{Array}
use denote.Builtin.{u8, usize}
use denote.Memory.{mem, cell_at, part_at}
use denote.RawPtr.{Ptr, RawPtr, block_ptr, ptr_val, in_a_block, lies_at}
use denote.RawPtr.Bytes.{bytes, bytes_apart, bytes_whole}
use denote.Steps.{nothing, opens, closes}
use denote.Struct.Struct.{within}
use denote.Struct.Owning.{shape}
use Rattle.uda_called.specs.Lies.{lies}
use Rattle.uda_c.specs.SlotOwns.{slot_owns}
use Rattle.uda_called.specs.declared.lent.BorrowedBytes.{BorrowedBytes}
use Rattle.uda_c.specs.declared.slot.Slot.{Slot}
use Rattle.uda_called.specs.contracts.lent.BorrowedBytes.{the_row as L, the_type as lent_type}
use Rattle.uda_c.specs.contracts.slot.Slot.{the_row as R, the_type}

abbrev pub slot : Ptr → ℕ → List ℕ → Slot
slot p n xs = record { at = p; len = n; held = xs }

-- the machine value of either struct
abbrev pub word : Ptr → ℕ → Val
word p n = vstruct (vcons (ptr_val p) (vcons (vint w64 n) vnil))

abbrev pub cell : ℕ → ℕ → Ptr → ℕ → Fml
cell b o p n = cell_at full_share R.mir (word p n ∷ []) b o

nil_of : (xs : List ℕ) → length xs ≡ 0 → xs ≡ []
nil_of [] e = refl
nil_of (x ∷ xs) e = absurd (omega (arith, e))

module _ {M : Type 1} {𝓤 : Ura M} {𝓛 : Logic 𝓤} {K : Type 0} {Γ : List (Item 𝓤)} {G : Goal 𝓤 𝓛.H} where
  -- [what the slot owns]
  pub slot_had : K → (p : Ptr) (n : ℕ) (xs : List ℕ) (vs : List Val)
      → (vs ≡ word p n ∷ [] → n < 2 ^ 64 → Seq K 𝓛 (‵ (slot_owns p n xs) ∷ Γ) G)
      → Seq K 𝓛 (‵ (R.own_val (slot p n xs) vs) ∷ Γ) G
  slot_had t p n xs vs k =
      fsplit t $ fpick t (λ vss. fsplit t $ feq_l t (λ all. fsplit t $ feq_l t (λ e₀. fsplit t $ fsplit t $
      feq_l t (λ e₁. flt_l t (λ fn. drop t $
      k (all ∙ (λ i. vstruct (of_list (e₀ i ++ (e₁ i ++ []))) ∷ [])) fn)))))

  pub lent_out : K → (d : BorrowedBytes) (vs : List Val)
      → ((pb po : ℕ) → d.at ≡ block_ptr pb po → vs ≡ word (block_ptr pb po) d.len ∷ [] → d.len < 2 ^ 64
      → Seq K 𝓛 (‵ (lies (block_ptr pb po) d.len d.held) ∷ Γ) G)
      → Seq K 𝓛 (‵ (L.own_val d vs) ∷ Γ) G
  lent_out t d vs k =
      fsplit t $ fpick t (λ vss. fsplit t $ feq_l t (λ all. fsplit t $ feq_l t (λ e₀. fsplit t $ fsplit t $
      feq_l t (λ e₁. flt_l t (λ fn. drop t $
      fsplit t $ flt_l t (λ small. in_a_block t d.at (λ r. lies_at (Array u8 d.len) full_share r d.held)
      (id⊢ 𝓤 _) (λ pb po e.
      flt_i t d.len (2 ^ 63) small $ fjoin t $
      k pb po e (all ∙ ((λ i. vstruct (of_list (e₀ i ++ (e₁ i ++ []))) ∷ [])
      ∙ ap (λ (p : Ptr). word p d.len ∷ []) e)) fn)))))))

module _ {M : Type 1} {𝓤 : Ura M} {𝓛 : Logic 𝓤} {K : Type 0} {Γ : List (Item 𝓤)} {G : Goal 𝓤 𝓛.H} where
  pub slot_in : K → (pb po n : ℕ) (xs : List ℕ)
      → Step K 𝓛 (‵ (slot_owns (block_ptr pb po) n xs) ∷ Γ) G (‵ (lies (block_ptr pb po) n xs) ∷ Γ) G
  slot_in t pb po zero xs = step (λ s.
      fsplit t $ drop t $ use1 𝓛 (‵ (fsep (feq ℕ (length xs) 0) (bytes full_share xs pb po))) (bytes_apart 𝓛
      full_share 0 xs pb po) $
      fsplit t $ feq_l t (λ none. drop t $ feq_i t (List ℕ) xs [] (nil_of xs none) $ s))
  slot_in t pb po (suc n) xs = step (λ s. s)

  -- the two cases of a slot: without and with bytes
  pub holds : K → (p : Ptr) (n : ℕ) (xs : List ℕ) → (n ≡ 0 → xs ≡ [] → Seq K 𝓛 Γ G)
      → ((m pb po : ℕ) → n ≡ suc m → length xs ≡ suc m → p ≡ block_ptr pb po
      → Seq K 𝓛 (‵ (lies (block_ptr pb po) (suc m) xs) ∷ Γ) G)
      → Seq K 𝓛 (‵ (slot_owns p n xs) ∷ Γ) G
  holds t p zero xs empty full = feq_l t (λ e. empty refl e)
  holds t p (suc m) xs empty full =
      fsplit t $ flt_l t (λ small. in_a_block t p (λ r. lies_at (Array u8 (suc m)) full_share r xs) (id⊢ 𝓤
      _) (λ pb po e.
      use1 𝓛 (‵ (fsep (feq ℕ (length xs) (suc m)) (bytes full_share xs pb po))) (bytes_apart 𝓛 full_share
      (suc m) xs pb po) $ fsplit t $ feq_l t (λ long.
      feq_i t ℕ (length xs) (suc m) long $ fjoin t $
      use1 𝓛 (‵ (part_at (Array u8 (suc m)) full_share xs pb po)) (bytes_whole 𝓛 full_share (suc m) xs pb
      po) $
      flt_i t (suc m) (2 ^ 63) small $ fjoin t $ full m pb po refl long e)))

  slot_made : K → (p : Ptr) (n : ℕ) (xs : List ℕ) → n < 2 ^ 64
      → Step K 𝓛 (‵ (R.own_val (slot p n xs) (word p n ∷ [])) ∷ Γ) G (‵ (slot_owns p n xs) ∷ Γ) G
  slot_made t p n xs fn = step (λ s.
      nothing t $ flt_i t n (2 ^ 64) fn $ feq_i t (List Val) (vint w64 n ∷ []) (vint w64 n ∷ []) refl $
      fjoin t $ fjoin t $
      feq_i t (List Val) (ptr_val p ∷ []) (ptr_val p ∷ []) refl $ fjoin t $
      feq_i t (List Val) (word p n ∷ []) (word p n ∷ []) refl $ fjoin t $
      fpack t (Valss (RawPtr ∷ usize ∷ [])) (within (shape the_type) (p, (n, tt)) (word p n ∷ [])) (
        ptr_val
            p ∷ [],
        (vint w64 n ∷ [], tt),
      ) $ fjoin t $ s)

  pub lent_made : K → (p : Ptr) (n : ℕ) (xs : List ℕ) → n < 2 ^ 64
      → Step K 𝓛 (‵ (L.own_val (record { at = p; len = n; held = xs }) (word p n ∷ [])) ∷ Γ) G (‵ (lies p n
      xs)
      ∷ Γ) G
  lent_made t p n xs fn = step (λ s.
      nothing t $ flt_i t n (2 ^ 64) fn $ feq_i t (List Val) (vint w64 n ∷ []) (vint w64 n ∷ []) refl $
      fjoin t $ fjoin t $
      feq_i t (List Val) (ptr_val p ∷ []) (ptr_val p ∷ []) refl $ fjoin t $
      feq_i t (List Val) (word p n ∷ []) (word p n ∷ []) refl $ fjoin t $
      fpack t (Valss (RawPtr ∷ usize ∷ [])) (within (shape lent_type) (p, (n, tt)) (word p n ∷ [])) (
        ptr_val
            p ∷ [],
        (vint w64 n ∷ [], tt),
      ) $ fjoin t $ s)

module _ {M : Type 1} {𝓤 : Ura M} {𝓛 : Logic 𝓤} {K : Type 0} {Γ : List (Item 𝓤)} {G : Goal 𝓤 𝓛.H} where
  pub slot_opens : K → Soaks G → {κ : Lft} {q : Share} {γ : GName} (p : Ptr) (n : ℕ) (xs : List ℕ) (b o : ℕ)
      → (n < 2 ^ 64 → Seq K 𝓛 (‵ (slot_owns p n xs) ∷ ‵ (cell b o p n) ∷ ‵ (fobor κ q (Borrowed (mem R) b o
      γ)) ∷ ‵ (fobs γ (R.coded.code (slot p n xs))) ∷ ‵ (fauth γ (R.coded.code (slot p n xs))) ∷ Γ) G)
      → Seq K 𝓛 (‵ (fobs γ (R.coded.code (slot p n xs))) ∷ ‵ (fbor κ (Borrowed (mem R) b o γ)) ∷ ‵ (flft κ
      q) ∷ Γ) G
  slot_opens t z p n xs b o k =
      opens t z R {h = slot p n xs} b o (λ us. move t (1 ∷ []) $ slot_had t p n xs us (λ is fn.
      rewrite t 1 (λ (vs : List Val). ‵ (cell_at full_share R.mir vs b o)) is refl $ k fn))

  pub slot_closes : K → Soaks G → {κ : Lft} {q : Share} {u v : Gv} {γ : GName} (p : Ptr) (n : ℕ) (xs : List
      ℕ) (b o : ℕ) → n < 2 ^ 64
      → Step K 𝓛 (‵ (fobs γ (R.coded.code (slot p n xs))) ∷ ‵ (fbor κ (Borrowed (mem R) b o γ)) ∷ ‵ (flft κ
      q) ∷ Γ) G
      (‵ (slot_owns p n xs) ∷ ‵ (cell b o p n) ∷ ‵ (fobor κ q (Borrowed (mem R) b o γ)) ∷ ‵ (fobs γ u) ∷ ‵
      (fauth γ v) ∷ Γ) G
  slot_closes t z p n xs b o fn = step (λ s.
      slot_made t p n xs fn $ move t (1 ∷ []) $ closes t z R (slot p n xs) (word p n ∷ []) b o $ s)
