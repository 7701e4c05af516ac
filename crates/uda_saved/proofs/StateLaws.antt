-- A state is read from its bytes: each row at its place, and each list from its offset on.
use Rattle.std.proofs.Common.{◌≡◌, ℕ, zero, suc, ◌+◌, ◌*◌, ◌-◌, ◌<◌, ◌≤◌, List, [], ◌∷◌, ◌++◌, length, take, map}
use Rattle.std.proofs.Common.{replicate, All, get_or, Option, None, refl, sym, ap, ap₂, ◌∙◌, arith}
use Rattle.std.proofs.Common.{append_assoc, append-nil, length-append}
use Rattle.std.specs.List.{concat}
use Rattle.std.proofs.Math.Seq.{drop-append-add, take-suc}
use Rattle.std.proofs.lemmas.Bool.{le-ltb}
use Rattle.std.proofs.lemmas.List.{take-append-le, take_all, length-replicate, take-replicate}
use Rattle.std.proofs.lemmas.List.Elements.{All-nil, All-cons, All-head, All-tail, All-append}
use Rattle.uda_mem.specs.Put.{part}
use Rattle.uda_packet.specs.Written.{written_command}
use Rattle.uda_packet.specs.Reply.{written_reply}
use Rattle.uda_exec.specs.declared.drive_unit.UnitInfo.{UnitInfo}
use Rattle.uda_port.specs.declared.saved.Saved.{Saved}
use Rattle.uda_saved.specs.declared.state.SavedState.{SavedState}
use Rattle.uda_saved.specs.declared.rows.ControllerRow.{ControllerRow}
use Rattle.uda_saved.specs.declared.rows.CountsRow.{CountsRow}
use Rattle.uda_saved.specs.declared.rows.DrivesRow.{DrivesRow}
use Rattle.uda_saved.specs.Rows.{phase_row, phase_in, controller_row, controller_in, counts_row, counts_in}
use Rattle.uda_saved.specs.Rows.{drives_row, drives_row_in, position_row, position_in, ring_row, ring_in}
use Rattle.uda_saved.specs.Rows.{unit_row, unit_in, call_row, call_in}
use Rattle.uda_saved.specs.State.{controller_of, counts_of, drives_row_of, port_rows, unit_rows, call_rows, rows}
use Rattle.uda_saved.specs.State.{op_bytes, op_of_byte, command_in, reply_in, filled, limited, items_in, state_bytes}
use Rattle.uda_saved.specs.State.{row_in, exec_in, port_from, port_in, state_in, IsReadBack, IsRead, IsEachBack}
use Rattle.uda_saved.specs.State.{ArePortRows, AreUnitRows, AreCallRows}

-- ---- parts of joined lists

part_front : (xs rest : List ℕ) (n : ℕ) → length xs ≡ n → part (xs ++ rest) 0 n ≡ xs
unfolding part
part_front xs rest n long = take-append-le n xs rest (omega (arith, long))
    ∙ take_all n xs (omega (arith, long))

part_behind : (xs rest : List ℕ) (at n : ℕ) → part (xs ++ rest) (length xs + at) n ≡ part rest at n
unfolding part
part_behind xs rest at n = ap (take n) (drop-append-add xs rest at)

abbrev HasEight : List ℕ → Type 0
HasEight bytes = length bytes ≡ 8

-- each of joined rows is found at its place
row_found : (rs : List (List ℕ)) (rest : List ℕ) (k : ℕ) → All HasEight rs → k < length rs
    → part (concat rs ++ rest) (8 * k) 8 ≡ get_or rs k []
row_found [] rest k are within = absurd (omega (arith, within))
row_found (r ∷ rs) rest zero are within =
    ap (λ (b : List ℕ). part b 0 8) (append_assoc r (concat rs) rest)
    ∙ part_front r (concat rs ++ rest) 8 (All-head HasEight r rs are)
row_found (r ∷ rs) rest (suc k) are within =
    let long : length r ≡ 8 = All-head HasEight r rs are in
    let at : 8 * suc k ≡ length r + 8 * k = omega (arith, long) in
    ap₂ (λ (b : List ℕ) (i : ℕ). part b i 8) (append_assoc r (concat rs) rest) at
    ∙ part_behind r (concat rs ++ rest) (8 * k) 8
    ∙ row_found rs rest k (All-tail HasEight r rs are) (omega (arith, within))

rows_long : (rs : List (List ℕ)) → All HasEight rs → length (concat rs) ≡ 8 * length rs
rows_long [] are = refl
rows_long (r ∷ rs) are =
    omega (
      arith,
      length-append r (concat rs),
      All-head HasEight r rs are,
      rows_long rs
          (All-tail HasEight r rs are),
    )

-- ---- lists

-- one item more
pub texts_more : {A : Type 0} (write : A → List ℕ) (xs : List A) (i : ℕ) (d : A) → i < length xs
    → concat (map write (take (suc i) xs)) ≡ concat (map write (take i xs)) ++ write (get_or xs i d)
texts_more write [] i d within = absurd (omega (arith, within))
texts_more write (x ∷ xs) zero d within = append-nil (write x)
texts_more write (x ∷ xs) (suc i) d within =
    ap (λ (t : List ℕ). write x ++ t) (texts_more write xs i d (omega (arith, within)))
    ∙ sym (append_assoc (write x) (concat (map write (take i xs))) (write (get_or xs i d)))

pub all_more : {A : Type 0} (P : A → Type 0) (xs : List A) (i : ℕ) (d : A) → i < length xs → All P (take i xs)
    → P (get_or xs i d) → All P (take (suc i) xs)
all_more P xs i d within all one =
    rw (take-suc xs i d within)
    (All-append P (take i xs) (get_or xs i d ∷ []) all (All-cons P (get_or xs i d) [] one (All-nil P)))

module _ {A : Type 0} (width : ℕ) (read : List ℕ → A) where
  -- the first item, and then the others
  items_first : (n at : ℕ) (bytes : List ℕ)
      → items_in width read (suc n) at bytes ≡ read (part bytes at width)
      ∷ items_in width read n (at + width) bytes
  items_first zero at bytes =
      let none : at + width * 0 ≡ at = omega arith in
      ap (λ (i : ℕ). read (part bytes i width) ∷ []) none
  items_first (suc n) at bytes =
      let same : at + width * suc n ≡ at + width + width * n = omega arith in
      ap (λ (items : List A). items ++ read (part bytes (at + width * suc n) width) ∷ [])
      (items_first n at bytes)
      ∙ ap (λ (i : ℕ). read (part bytes at width)
      ∷ (items_in width read n (at + width) bytes ++ read (part bytes i width) ∷ [])) same

  -- what was written after a front is read there
  items_back : (write : A → List ℕ) (xs : List A) (front rest : List ℕ) → All (IsReadBack width read write) xs
      → items_in width read (length xs) (length front) (front ++ (concat (map write xs) ++ rest)) ≡ xs
  items_back write [] front rest back = refl
  items_back write (x ∷ xs) front rest back =
      let it : IsReadBack width read write x = All-head (IsReadBack width read write) x xs back in
      let others = concat (map write xs) ++ rest in
      let joined : front ++ ((write x ++ concat (map write xs)) ++ rest) ≡ front ++ (write x ++ others)
      = ap (λ (b : List ℕ). front ++ b) (append_assoc (write x) (concat (map write xs)) rest) in
      let moved : front ++ (write x ++ others) ≡ (front ++ write x) ++ others
      = sym (append_assoc front (write x) others) in
      let at : length front ≡ length front + 0 = omega arith in
      let behind : length front + width ≡ length (front ++ write x)
      = omega (arith, length-append front (write x), it.long) in
      let here : part (front ++ (write x ++ others)) (length front) width ≡ write x
      = ap (λ (i : ℕ). part (front ++ (write x ++ others)) i width) at
      ∙ part_behind front (write x ++ others) 0 width ∙ part_front (write x) others width it.long in
      let there : items_in width read (length xs) (length front + width) (front ++ (write x ++ others)) ≡ xs
      = ap₂ (λ (i : ℕ) (b : List ℕ). items_in width read (length xs) i b) behind moved
      ∙ items_back write xs (front ++ write x) rest (All-tail (IsReadBack width read write) x xs back) in
      ap (λ (b : List ℕ). items_in width read (suc (length xs)) (length front) b) joined
      ∙ items_first (length xs) (length front) (front ++ (write x ++ others))
      ∙ ap₂ (λ (y : A) (ys : List A). y ∷ ys) (ap read here ∙ it.back) there

  texts_long : (write : A → List ℕ) (xs : List A) → All (IsReadBack width read write) xs
      → length (concat (map write xs)) ≡ width * length xs
  texts_long write [] back = omega arith
  texts_long write (x ∷ xs) back =
      let it : IsReadBack width read write x = All-head (IsReadBack width read write) x xs back in
      let rest : length (concat (map write xs)) ≡ width * length xs
      = texts_long write xs (All-tail (IsReadBack width read write) x xs back) in
      length-append (write x) (concat (map write xs)) ∙ ap₂ (λ (a b : ℕ). a + b) it.long rest ∙ omega arith

filled_long : (n : ℕ) (bytes : List ℕ) → length bytes ≤ n → length (filled n bytes) ≡ n
filled_long n bytes few =
    omega (
      arith,
      length-append bytes (replicate (n - length bytes) 0),
      length-replicate {A = ℕ}
          (n - length bytes) 0,
      few,
    )

pub zeros_taken : (n : ℕ) → n ≤ 720 → take n (replicate {A = ℕ} 720 0) ≡ replicate n 0
zeros_taken n few = take-replicate {X = ℕ} n 720 0 few

limited_few : (n : ℕ) → n ≤ 15 → limited n ≡ n
limited_few n few = rw (le-ltb 15 n few) refl

-- a list that has a section of its own, between a front and a rest
section_back : {A : Type 0} (width : ℕ) (read : List ℕ → A) (write : A → List ℕ) (xs : List A)
    → All (IsReadBack width read write) xs → length xs ≤ 15 → (n : ℕ) (front rest : List ℕ)
    → items_in width read (limited (length xs)) (length front)
    (front ++ (filled n (concat (map write xs)) ++ rest)) ≡ xs
section_back width read write xs back few n front rest =
    let bytes = concat (map write xs) in
    let zeros : List ℕ = replicate (n - length (concat (map write xs))) 0 in
    ap₂ (λ (k : ℕ) (b : List ℕ). items_in width read k (length front) (front ++ b))
    (limited_few (length xs) few)
    (append_assoc (concat (map write xs)) (replicate (n - length (concat (map write xs))) 0) rest)
    ∙ items_back width read write xs front (replicate (n - length (concat (map write xs))) 0 ++ rest) back

four_items : {A : Type 0} (xs : List A) (d : A) → length xs ≡ 4
    → get_or xs 0 d ∷ get_or xs 1 d ∷ get_or xs 2 d ∷ get_or xs 3 d ∷ [] ≡ xs
four_items (x ∷ y ∷ z ∷ w ∷ []) d four = refl
four_items [] d four = absurd (cc)
four_items (x ∷ []) d four = absurd (cc)
four_items (x ∷ y ∷ []) d four = absurd (cc)
four_items (x ∷ y ∷ z ∷ []) d four = absurd (cc)
four_items (x ∷ y ∷ z ∷ w ∷ v ∷ rest) d four = absurd (omega (arith, four))

-- ---- the whole

four_eights : (a b c d : List ℕ) → length a ≡ 8 → length b ≡ 8 → length c ≡ 8 → length d ≡ 8
    → All HasEight (a ∷ b ∷ c ∷ d ∷ [])
four_eights a b c d la lb lc ld =
    All-cons HasEight a (b ∷ c ∷ d ∷ []) la (All-cons HasEight b (c ∷ d ∷ []) lb
    (All-cons HasEight c (d ∷ []) lc (All-cons HasEight d [] ld (All-nil HasEight))))

port_eights : (port : Saved) → ArePortRows port → All HasEight (port_rows port)
port_eights port are =
    let last = drives_row (drives_row_of port) ∷ position_row port.exec.position ∷ ring_row port.responses
    ∷ ring_row port.commands ∷ [] in
    All-cons HasEight (phase_row port.phase)
    (controller_row (controller_of port) ∷ counts_row (counts_of port) ∷ last)
    are.phase.long
    (All-cons HasEight (controller_row (controller_of port))
    (counts_row (counts_of port) ∷ last) are.controller.long
    (All-cons HasEight (counts_row (counts_of port)) last are.counts.long
    (four_eights (drives_row (drives_row_of port)) (position_row port.exec.position) (ring_row port.responses)
    (ring_row port.commands) are.drives.long are.position.long are.responses.long are.commands.long)))

unit_eights : (units : List (Option UnitInfo)) → AreUnitRows units → All HasEight (unit_rows units)
unit_eights units are =
    four_eights (unit_row (get_or units 0 None)) (unit_row (get_or units 1 None))
    (unit_row (get_or units 2 None))
    (unit_row (get_or units 3 None)) are.unit_0.long are.unit_1.long are.unit_2.long are.unit_3.long

call_eights : (calls : List (Option ℕ)) → AreCallRows calls → All HasEight (call_rows calls)
call_eights calls are =
    four_eights (call_row (get_or calls 0 None)) (call_row (get_or calls 1 None))
    (call_row (get_or calls 2 None))
    (call_row (get_or calls 3 None)) are.call_0.long are.call_1.long are.call_2.long are.call_3.long

module _ (s : SavedState) (e : IsEachBack s) where
  abbrev rs : List (List ℕ)
  rs = rows s

  abbrev ops : List ℕ
  ops = filled 16 (concat (map op_bytes s.port.exec.guest_ops.items))

  abbrev commands : List ℕ
  commands = filled 720 (concat (map written_command s.port.exec.pending.items))

  abbrev replies : List ℕ
  replies = filled 720 (concat (map written_reply s.port.waiting.items))

  abbrev whole : List ℕ
  whole = state_bytes s

  are_eight : All HasEight (rows s)
  are_eight =
      All-append HasEight (port_rows s.port) (unit_rows s.port.exec.units ++ call_rows s.failing_calls)
      (port_eights s.port e.rows.port)
      (All-append HasEight (unit_rows s.port.exec.units) (call_rows s.failing_calls)
      (unit_eights s.port.exec.units e.rows.units) (call_eights s.failing_calls e.rows.calls))

  found : (k : ℕ) → k < 15 → row_in whole k ≡ get_or rs k []
  found k within = row_found rs (ops ++ (commands ++ replies)) k are_eight within

  rows_end : length (concat rs) ≡ 120
  rows_end = rows_long rs are_eight

  ops_long : length ops ≡ 16
  ops_long =
      filled_long 16 (concat (map op_bytes s.port.exec.guest_ops.items))
      (omega (arith, texts_long 1 op_of_byte op_bytes s.port.exec.guest_ops.items e.ops, e.ops_few))

  commands_long : length commands ≡ 720
  commands_long =
      filled_long 720 (concat (map written_command s.port.exec.pending.items))
      (omega (arith, texts_long 48 command_in written_command s.port.exec.pending.items e.pending, e.pending_few))

  ops_end : 136 ≡ length (concat rs ++ ops)
  ops_end = omega (arith, length-append (concat rs) ops, rows_end, ops_long)

  commands_end : 856 ≡ length ((concat rs ++ ops) ++ commands)
  commands_end = omega (arith, length-append (concat rs ++ ops) commands, ops_end, commands_long)

  ops_back : items_in 1 op_of_byte (limited (length s.port.exec.guest_ops.items)) 120 whole
      ≡ s.port.exec.guest_ops.items
  ops_back =
      ap (λ (i : ℕ). items_in 1 op_of_byte (limited (length s.port.exec.guest_ops.items)) i whole) (sym rows_end)
      ∙ section_back 1 op_of_byte op_bytes s.port.exec.guest_ops.items e.ops e.ops_few 16 (concat rs)
      (commands ++ replies)

  pending_back : items_in 48 command_in (limited (length s.port.exec.pending.items)) 136 whole
      ≡ s.port.exec.pending.items
  pending_back =
      ap₂ (λ (i : ℕ) (b : List ℕ). items_in 48 command_in
      (limited (length s.port.exec.pending.items)) i b) ops_end
      (sym (append_assoc (concat rs) ops (commands ++ replies)))
      ∙ section_back 48 command_in written_command s.port.exec.pending.items e.pending e.pending_few 720
      (concat rs ++ ops) replies

  waiting_back : items_in 48 reply_in (limited (length s.port.waiting.items)) 856 whole ≡ s.port.waiting.items
  waiting_back =
      ap₂ (λ (i : ℕ) (b : List ℕ). items_in 48 reply_in
      (limited (length s.port.waiting.items)) i b) commands_end
      (sym (append_assoc (concat rs) ops (commands ++ replies))
      ∙ sym (append_assoc (concat rs ++ ops) commands replies)
      ∙ ap (λ (t : List ℕ). ((concat rs ++ ops) ++ commands) ++ t) (sym (append-nil replies)))
      ∙ section_back 48 reply_in written_reply s.port.waiting.items e.waiting e.waiting_few 720
      ((concat rs ++ ops) ++ commands) []

  phase_back : phase_in (row_in whole 0) ≡ s.port.phase
  phase_back = ap phase_in (found 0 (omega arith)) ∙ e.rows.port.phase.back

  controller_back : controller_in (row_in whole 1) ≡ controller_of s.port
  controller_back = ap controller_in (found 1 (omega arith)) ∙ e.rows.port.controller.back

  counts_back : counts_in (row_in whole 2) ≡ counts_of s.port
  counts_back = ap counts_in (found 2 (omega arith)) ∙ e.rows.port.counts.back

  drives_back : drives_row_in (row_in whole 3) ≡ drives_row_of s.port
  drives_back = ap drives_row_in (found 3 (omega arith)) ∙ e.rows.port.drives.back

  position_back : position_in (row_in whole 4) ≡ s.port.exec.position
  position_back = ap position_in (found 4 (omega arith)) ∙ e.rows.port.position.back

  responses_back : ring_in (row_in whole 5) ≡ s.port.responses
  responses_back = ap ring_in (found 5 (omega arith)) ∙ e.rows.port.responses.back

  ring_back : ring_in (row_in whole 6) ≡ s.port.commands
  ring_back = ap ring_in (found 6 (omega arith)) ∙ e.rows.port.commands.back

  units_back : unit_in (row_in whole 7) ∷ unit_in (row_in whole 8) ∷ unit_in (row_in whole 9)
      ∷ unit_in (row_in whole 10) ∷ []
      ≡ s.port.exec.units
  units_back =
      rw (
        ap unit_in (found 7 (omega arith)) ∙ e.rows.units.unit_0.back,
        ap unit_in (found 8 (omega arith)) ∙ e.rows.units.unit_1.back,
        ap unit_in (found 9 (omega arith)) ∙ e.rows.units.unit_2.back,
        ap unit_in (found 10 (omega arith)) ∙ e.rows.units.unit_3.back,
      )
      (four_items s.port.exec.units None e.rows.units.four)

  calls_back : call_in (row_in whole 11) ∷ call_in (row_in whole 12) ∷ call_in (row_in whole 13)
      ∷ call_in (row_in whole 14) ∷ []
      ≡ s.failing_calls
  calls_back =
      rw (
        ap call_in (found 11 (omega arith)) ∙ e.rows.calls.call_0.back,
        ap call_in (found 12 (omega arith)) ∙ e.rows.calls.call_1.back,
        ap call_in (found 13 (omega arith)) ∙ e.rows.calls.call_2.back,
        ap call_in (found 14 (omega arith)) ∙ e.rows.calls.call_3.back,
      )
      (four_items s.failing_calls None e.rows.calls.four)

  exec_back : exec_in whole (counts_of s.port) ≡ s.port.exec
  exec_back = rw (units_back, pending_back, ops_back, position_back) refl

  from_back : port_from whole (controller_of s.port) (counts_of s.port) (drives_row_of s.port) ≡ s.port
  from_back = rw (phase_back, responses_back, ring_back, waiting_back, exec_back) refl

  port_back : port_in whole ≡ s.port
  port_back =
      ap (λ (c : ControllerRow). port_from whole c (counts_in (row_in whole 2))
      (drives_row_in (row_in whole 3))) controller_back
      ∙ ap (λ (k : CountsRow). port_from whole (controller_of s.port) k (drives_row_in (row_in whole 3))) counts_back
      ∙ ap (λ (d : DrivesRow). port_from whole (controller_of s.port) (counts_of s.port) d) drives_back
      ∙ from_back

  pub state_back : state_in (state_bytes s) ≡ s
  state_back = rw (port_back, calls_back) refl

-- the bytes of a state are read as the state
pub is_read : (s : SavedState) (bytes : List ℕ) → IsEachBack s → bytes ≡ state_bytes s → IsRead bytes s
is_read s bytes e are = record { written = sym are; back = ap state_in are ∙ state_back s e }
