-- The laws of pages: their addresses lead to indexes in a row.
use Rattle.std.proofs.Common.{◌≡◌, ◌↔◌, ℕ, ◌+◌, ◌*◌, ◌/◌, ◌%◌, ◌^◌, ◌<◌, ◌≤◌, Bool, true, false, if◌then◌else◌, inl, inr, List, length, Option, Some, None, IsSome, refl, sym, ap, subst, arith, length-drop}
use Rattle.std.specs.Option.{option_map, option_and_then}
use Rattle.std.proofs.lemmas.Bool.{cases_lt}
use Rattle.std.proofs.lemmas.Bool.Decides.{nat_tests}
use Rattle.std.proofs.lemmas.Nat.{div-mul-add, mod-mul-add, shr_split}
use Rattle.uda_bus.specs.declared.map.BusMap.{BusMap}
use Rattle.uda_bus.specs.declared.map.MapForm.{MapForm}
use Rattle.uda_bus.specs.Lookup.{place_of, place_at, index_in, byte_at}
use Rattle.uda_bus.specs.Copy.{bytes_from}

-- n addresses from this one on are in one page, and the first leads to this index
abbrev pub Leads : BusMap → List ℕ → ℕ → ℕ → Option ℕ → Type 0
Leads map memory address n start =
    (address % 2 ^ map.form.page + n ≤ 2 ^ map.form.page) × (start ≡ place_at map memory address)

-- ---- an address that comes later in a page

split_again : (address size k : ℕ) → address / size * size + address % size ≡ address
    → address + k ≡ address / size * size + (address % size + k)
split_again address size k split = omega arith

same_page : (address page k : ℕ) → address % 2 ^ page + k < 2 ^ page
    → (address + k) / 2 ^ page ≡ address / 2 ^ page
same_page address page k within =
    rw (split_again address (2 ^ page) k (shr_split address page))
    (div-mul-add (address / 2 ^ page) (2 ^ page) (address % 2 ^ page + k) within)

later_offset : (address page k : ℕ) → address % 2 ^ page + k < 2 ^ page
    → (address + k) % 2 ^ page ≡ address % 2 ^ page + k
later_offset address page k within =
    rw (split_again address (2 ^ page) k (shr_split address page))
    (mod-mul-add (address / 2 ^ page) (2 ^ page) (address % 2 ^ page + k) within)

moved : (valid : Bool) (base offset k : ℕ)
    → (if valid then Some (base + (offset + k)) else None)
    ≡ option_map (λ i. i + k) (if valid then Some (base + offset) else None)
moved true base offset k = ap (λ i. Some i) (omega arith)
moved false base offset k = refl

moved_register : (register : Option ℕ) (form : MapForm) (offset k : ℕ)
    → option_and_then (λ r. place_of form r (offset + k)) register
    ≡ option_map (λ i. i + k) (option_and_then (λ r. place_of form r offset) register)
moved_register None form offset k = refl
moved_register (Some r) form offset k = moved _ _ offset k

pub place_at-later : (map : BusMap) (memory : List ℕ) (address k : ℕ)
    → address % 2 ^ map.form.page + k < 2 ^ map.form.page
    → place_at map memory (address + k) ≡ option_map (λ i. i + k) (place_at map memory address)
unfolding place_at
place_at-later map memory address k within =
    rw (same_page address map.form.page k within, later_offset address map.form.page k within)
    (moved_register _ map.form (address % 2 ^ map.form.page) k)

-- the index to which one of the addresses leads
pub place_at-within : (map : BusMap) (memory : List ℕ) (address n k : ℕ) (start : Option ℕ)
    → Leads map memory address n start → k < n
    → place_at map memory (address + k) ≡ option_map (λ i. i + k) start
place_at-within map memory address n k start leads below =
    rw leads.1 (place_at-later map memory address k (omega arith))

-- ---- indexes of memory

-- an index that memory has, and one that it doesn't have
pub index_in-there : (memory : List ℕ) (i : ℕ) → i < length memory → index_in memory i ≡ Some i
index_in-there memory i low = grind (arith, nat_tests)

pub index_in-past : (memory : List ℕ) (i : ℕ) → length memory ≤ i → index_in memory i ≡ None
index_in-past memory i high = grind (arith, nat_tests)

-- an index after the start of some bytes is one of memory if there are that many bytes
leads_from : (memory : List ℕ) (start : Option ℕ) (k : ℕ) → k < length (bytes_from memory start)
    → IsSome (option_and_then (index_in memory) (option_map (λ i. i + k) start))
leads_from memory None k below = absurd (omega (arith, below))
leads_from memory (Some i) k below =
    rw (index_in-there memory (i + k) (omega (arith, below, length-drop i memory))) refl

none_leads : (place : Option ℕ) → place ≡ None → IsSome place → ⊥
none_leads place is leads = let h = rw is at leads in cc

below_from : (memory : List ℕ) (start : Option ℕ) (k : ℕ)
    → IsSome (option_and_then (index_in memory) (option_map (λ i. i + k) start))
    → k < length (bytes_from memory start)
below_from memory None k leads = absurd (none_leads None refl leads)
below_from memory (Some i) k leads = elim (cases_lt (i + k) (length memory)) [
  | inl low ↦ omega (arith, length-drop i memory)
  | inr high ↦ absurd (none_leads _ (index_in-past memory (i + k) high) leads)
]

-- one of the addresses leads to a byte of memory if there are that many bytes
pub byte_at-within : (map : BusMap) (memory : List ℕ) (address n k : ℕ) (start : Option ℕ)
    → Leads map memory address n start → k < n
    → IsSome (byte_at map memory (address + k)) ↔ (k < length (bytes_from memory start))
byte_at-within map memory address n k start leads below =
    let place = place_at-within map memory address n k start leads below in (
      (λ found. below_from memory start k
          (subst (λ p. IsSome (option_and_then (index_in memory) p)) place found)),
      (λ there. subst (λ p. IsSome (option_and_then (index_in memory) p)) (sym place)
          (leads_from memory start k there)),
    )
