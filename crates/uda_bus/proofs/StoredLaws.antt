-- The laws of what is stored through a map. A write changes no register unless it meets one.
use Rattle.std.proofs.Common.{◌≡◌, set, ℕ, ◌+◌, ◌*◌, ◌/◌, ◌^◌, ◌-◌, ◌<◌, ◌≤◌, suc, if◌then◌else◌, nat_lt, inl, inr, List, [], ◌∷◌, ◌++◌, length, get_or, take, drop, Option, Some, None, refl, sym, ap, ◌∙◌, subst, arith, length-drop, length-take}
use Rattle.std.specs.Option.{option_map, option_and_then}
use Rattle.std.proofs.Math.ListN.{length-set}
use Rattle.std.proofs.lemmas.List.{same_lists, drop-drop, take-append-drop, get_or-set_other}
use Rattle.std.proofs.lemmas.Bool.{cases_lt}
use Rattle.std.proofs.lemmas.Bool.Decides.{nat_tests}
use Rattle.std.proofs.lemmas.Grind.{get_or-set_at}
use Rattle.uda_mem.specs.Put.{put, Overlap}
use Rattle.uda_mem.proofs.PutLaws.{length-put, part-put_apart, put-put_next, put-nil, get_or-put_before, get_or-put_at, get_or-put_behind}
use Rattle.uda_bus.specs.declared.map.BusMap.{BusMap}
use Rattle.uda_bus.specs.declared.map.Registers.{Registers}
use Rattle.uda_bus.specs.declared.map.Registers.TheVariants.{Apart, InMemory}
use Rattle.uda_bus.specs.Longs.{long_in}
use Rattle.uda_bus.specs.Lookup.{register_of, place_at, index_in, byte_at}
use Rattle.uda_bus.specs.Bytes.{byte_stored, stored}
use Rattle.uda_bus.specs.Copy.{put_from}
use Rattle.uda_bus.specs.Pieces.{HasRegister}
use Rattle.uda_bus.proofs.CopyLaws.{put_past}
use Rattle.uda_bus.proofs.PageLaws.{Leads, place_at-within, index_in-there, index_in-past}

-- ---- one byte

set-put : (memory : List ℕ) (i byte : ℕ) → i < length memory
    → set memory i byte ≡ put memory i (byte ∷ [])
set-put memory i byte low =
    same_lists _ _ (length-set memory i byte ∙ sym (length-put memory i (byte ∷ []))) (λ k d below.
    let within : k < length memory = omega (arith, length-set memory i byte) in
    elim (cases_lt k i) [
      | inl less ↦ get_or-set_other memory i k byte d (λ same. omega arith)
          ∙ sym (get_or-put_before memory i (byte ∷ []) k d within less)
      | inr from ↦ elim (cases_lt k (i + 1)) [
        | inl to ↦ get_or-set_at memory i k byte d (omega arith) low
            ∙ sym (get_or-put_at memory i (byte ∷ []) k d within from to
            ∙ ap (λ j. get_or (byte ∷ []) j d) (let first : k - i ≡ 0 = omega arith in first))
        | inr past ↦ get_or-set_other memory i k byte d (λ same. omega arith)
            ∙ sym (get_or-put_behind memory i (byte ∷ []) k d within past)
      ]
    ])

-- a byte that is stored is put at its index
put_byte : (memory : List ℕ) (byte : ℕ) (start : Option ℕ)
    → byte_stored memory byte (option_and_then (index_in memory) start) ≡ put_from memory start (byte ∷ [])
put_byte memory byte None = refl
put_byte memory byte (Some i) = elim (cases_lt i (length memory)) [
  | inl low ↦ rw (index_in-there memory i low) (set-put memory i byte low)
  | inr high ↦ rw (index_in-past memory i high) (sym (put_past memory i (byte ∷ []) high))
]

-- the rest of the bytes follow
put_rest : (memory : List ℕ) (start : Option ℕ) (byte : ℕ) (bytes : List ℕ)
    → put_from (put_from memory start (byte ∷ [])) (option_map (λ i. i + 1) start) bytes
    ≡ put_from memory start (byte ∷ bytes)
put_rest memory None byte bytes = refl
put_rest memory (Some i) byte bytes = put-put_next memory i (byte ∷ []) bytes (i + 1) refl

-- ---- registers that stay

-- a longword that a byte doesn't meet
long_kept : (memory : List ℕ) (i byte at : ℕ) → (Overlap i 1 at 4 → ⊥)
    → long_in (put memory i (byte ∷ [])) at ≡ long_in memory at
unfolding long_in
long_kept memory i byte at apart =
    rw (length-put memory i (byte ∷ []), part-put_apart memory i (byte ∷ []) at 4 apart) refl

-- the registers are those from before where none of them is written over
register_kept : (registers : Registers) (memory : List ℕ) (start : Option ℕ) (byte n number : ℕ)
    → (HasRegister registers start (suc n) → ⊥)
    → register_of registers (put_from memory start (byte ∷ [])) number ≡ register_of registers memory number
register_kept (Apart registers) memory start byte n number none = refl
register_kept (InMemory at count) memory None byte n number none = refl
register_kept (InMemory at count) memory (Some i) byte n number none = elim (cases_lt number count) [
  | inl low ↦ ap (λ long. if nat_lt number count then long else None)
      (long_kept memory i byte (at + 4 * number) (λ meet. none (omega arith)))
  | inr high ↦ grind (arith, nat_tests)
]

none_later : (registers : Registers) (start : Option ℕ) (n : ℕ)
    → HasRegister registers (option_map (λ i. i + 1) start) n → HasRegister registers start (suc n)
none_later (Apart registers) start n some = some
none_later (InMemory at count) None n some = some
none_later (InMemory at count) (Some i) n some = omega arith

place_at-kept : (map : BusMap) (memory new : List ℕ) (address : ℕ)
    → ((number : ℕ) → register_of map.registers new number ≡ register_of map.registers memory number)
    → place_at map new address ≡ place_at map memory address
unfolding place_at
place_at-kept map memory new address kept = rw (kept (address / 2 ^ map.form.page)) refl

-- ---- bytes in a row

option_map-later : (start : Option ℕ) (k : ℕ)
    → option_map (λ i. i + k) (option_map (λ i. i + 1) start) ≡ option_map (λ i. i + suc k) start
option_map-later None k = refl
option_map-later (Some i) k = ap (λ j. Some j) (omega arith)

start_here : (start : Option ℕ) → option_map (λ i. i + 0) start ≡ start
start_here None = refl
start_here (Some i) = ap (λ j. Some j) (omega arith)

-- bytes for addresses that lead to indexes in a row, none of which is one of a register
stored_row : (map : BusMap) (memory : List ℕ) (at : ℕ) (start : Option ℕ) (bytes : List ℕ)
    → ((k : ℕ) → k < length bytes → place_at map memory (at + k) ≡ option_map (λ i. i + k) start)
    → (1 < length bytes → HasRegister map.registers start (length bytes) → ⊥)
    → stored map memory at bytes ≡ put_from memory start bytes
stored_row map memory at None [] row none = refl
stored_row map memory at (Some i) [] row none = sym (put-nil memory i)
stored_row map memory at start (byte ∷ bytes) row none =
    let next = put_from memory start (byte ∷ []) in
    let later = option_map (λ i. i + 1) start in
    let here : place_at map memory at ≡ start =
    ap (place_at map memory) (omega arith) ∙ row 0 (omega arith) ∙ start_here start in
    let first : byte_stored memory byte (byte_at map memory at) ≡ next =
    ap (λ place. byte_stored memory byte (option_and_then (index_in memory) place)) here
    ∙ put_byte memory byte start in
    ap (λ m. stored map m (at + 1) bytes) first
    ∙ stored_row map next (at + 1) later bytes
    (λ k below.
    let kept = λ (number : ℕ). register_kept map.registers memory start byte (length bytes) number
    (none (omega (arith, below))) in
    place_at-kept map memory next (at + 1 + k) kept
    ∙ ap (place_at map memory) (omega arith) ∙ row (suc k) (omega (arith, below))
    ∙ sym (option_map-later start k))
    (λ more some. none (omega (arith, more)) (none_later map.registers start (length bytes) some))
    ∙ put_rest memory start byte bytes

pub stored-append : (map : BusMap) (xs ys memory : List ℕ) (at : ℕ)
    → stored map memory at (xs ++ ys) ≡ stored map (stored map memory at xs) (at + length xs) ys
stored-append map [] ys memory at = ap (λ a. stored map memory a ys) (omega arith)
stored-append map (x ∷ xs) ys memory at =
    stored-append map xs ys (byte_stored memory x (byte_at map memory at)) (at + 1)
    ∙ ap (λ a. stored map (stored map memory at (x ∷ xs)) a ys) (omega arith)

-- what is left to be stored after a piece
pub stored_more : (map : BusMap) (memory new from : List ℕ) (at done n : ℕ) (start : Option ℕ)
    → done + n ≤ length from → Leads map memory (at + done) n start
    → (1 < n → HasRegister map.registers start n → ⊥)
    → new ≡ put_from memory start (take (done + n - done) (drop done from))
    → stored map new (at + (done + n)) (drop (done + n) from)
    ≡ stored map memory (at + done) (drop done from)
stored_more map memory new from at done n start room leads none copied =
    let count : done + n - done ≡ n = omega arith in
    let bytes = take n (drop done from) in
    let rest = drop (done + n) from in
    let size : length bytes ≡ n = length-take n (drop done from) ∙ omega (arith, length-drop done from) in
    let row : stored map memory (at + done) bytes ≡ put_from memory start bytes =
    stored_row map memory (at + done) start bytes
    (λ k below. place_at-within map memory (at + done) n k start leads (omega arith))
    (λ more some. none (omega arith) (subst (λ m. HasRegister map.registers start m) size some)) in
    let here : new ≡ stored map memory (at + done) bytes =
    copied ∙ ap (λ m. put_from memory start (take m (drop done from))) count ∙ sym row in
    ap (λ m. stored map m (at + (done + n)) rest) here
    ∙ ap (λ a. stored map (stored map memory (at + done) bytes) a rest) (omega (arith, size))
    ∙ ap (stored map (stored map memory (at + done) bytes) (at + done + length bytes))
    (sym (drop-drop n done from))
    ∙ sym (stored-append map bytes (drop n (drop done from)) memory (at + done))
    ∙ ap (stored map memory (at + done)) (take-append-drop n (drop done from))
