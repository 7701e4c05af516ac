-- What a word of initialization does, it does in every memory of the same length.
use Rattle.std.proofs.lemmas.Bool.Decides.{nat_tests}
use Rattle.std.proofs.Common.{◌≡◌, ℕ, Bool, true, false, List, [], ◌∷◌, length, replicate, refl, sym, ◌∙◌, arith}
use Rattle.std.specs.Prelude.{◌+◌, ◌-◌, if◌then◌else◌}
use Rattle.std.proofs.lemmas.List.{length-replicate}
use Rattle.uda_mem.specs.declared.range.ByteRange.{ByteRange}
use Rattle.uda_mem.specs.Put.{part}
use Rattle.uda_mem.specs.Ranges.{EMPTY_RANGE, carried}
use Rattle.uda_mem.proofs.PutLaws.{put-nil}
use Rattle.uda_mem.proofs.RangeLaws.{Write, carried_puts}
use Rattle.uda_port.specs.declared.area.Area.{Area}
use Rattle.uda_port.specs.declared.phase.Fatal.TheVariants.{InitializationError, RingWrite}
use Rattle.uda_port.specs.declared.phase.Phase.{Phase}
use Rattle.uda_port.specs.declared.phase.Phase.TheVariants.{Step3}
use Rattle.uda_port.specs.Port.{PortState}
use Rattle.uda_port.specs.Startup.{area_of, has_area, rings_size, refuses_third, after_third, after_sa_write, failed_port, port_with_rings, memory_with_area}
use Rattle.uda_port.specs.StartupUse.{area_range, range_zeroed, WordEffect, WordIsLocal}

carried_empty : (memory other : List ℕ) → carried (EMPTY_RANGE ∷ []) memory other ≡ other
unfolding part
carried_empty memory other = put-nil other 0

-- what is left in memory, if this range is written and this is the effect in each memory
record Left (range : ByteRange) (memory : List ℕ) (after : PortState × List ℕ)
    (effect : List ℕ → PortState × List ℕ) : Type 0 where
  only : after.1 ≡ carried (range ∷ []) after.1 memory
  elsewhere : (other : List ℕ) → length other ≡ length memory
      → (after.0, carried (range ∷ []) after.1 other) ≡ effect other

-- a word that leaves memory unchanged
leaves : (port : PortState) (memory : List ℕ) (after : PortState × List ℕ) → after ≡ (port, memory)
    → Left EMPTY_RANGE memory after (λ other. (port, other))
leaves port memory after is = record {
  only = rw (is, carried_empty);
  elsewhere = λ other same. rw (is, carried_empty);
}

-- the third word, if it zeroes the area
zeroes : (port : PortState) (area : Area) (memory : List ℕ) (after : PortState × List ℕ)
    → after ≡ (port, memory_with_area area memory)
    → Left (area_range area) memory after (λ other. (port, memory_with_area area other))
zeroes port area memory after is =
    let at = area.base - area.below in
    let n = area.below + rings_size area in
    let ws : List Write = record { at = at; bytes = replicate n 0 } ∷ [] in
    let carry : (other : List ℕ) → length other ≡ length memory
    → carried (area_range area ∷ []) (memory_with_area area memory) other ≡ memory_with_area area other =
    λ other same. simp length-replicate at (carried_puts ws memory other same) in
    record { only = rw (is, carry memory refl); elsewhere = λ other same. rw (is, carry other same) }

module _ (old : PortState) (memory : List ℕ) (first second word : ℕ) (after : PortState × List ℕ) where
  abbrev area : Area
  area = area_of old.profile first second word

  abbrev third_by : Bool → Bool → List ℕ → PortState × List ℕ
  third_by refused has other =
      if refused then (failed_port old InitializationError, other)
      else if has then (after_third (port_with_rings old area) word, memory_with_area area other)
      else (failed_port old RingWrite, other)

  abbrev third_range : Bool → Bool → ByteRange
  third_range refused has = if refused then EMPTY_RANGE else if has then area_range area else EMPTY_RANGE

  third : (refused has : Bool) → after ≡ third_by refused has memory
      → Left (third_range refused has) memory after (third_by refused has)
  third true has is = leaves (failed_port old InitializationError) memory after is
  third false true is = zeroes (after_third (port_with_rings old area) word) area memory after is
  third false false is = leaves (failed_port old RingWrite) memory after is

  third_word : after ≡ after_sa_write (Step3 first second) old memory word
      → Left (range_zeroed (Step3 first second) old memory word) memory after
      (λ other. after_sa_write (Step3 first second) old other word)
  third_word is =
      let refused = refuses_third old.profile word in
      let left = third refused (has_area area (length memory)) is in
      record { only = left.only; elsewhere = λ other same. rw same (left.elsewhere other same) }

word_left : (p : Phase) (old : PortState) (memory : List ℕ) (word : ℕ) (after : PortState × List ℕ)
    → after ≡ after_sa_write p old memory word
    → Left (range_zeroed p old memory word) memory after (λ other. after_sa_write p old other word)
word_left (Step3 first second) old memory word after is = third_word old memory first second word after is
word_left _ old memory word after is = leaves _ memory after is

pub left_empty : (old : PortState) (word : ℕ) (after : PortState × List ℕ)
    → after ≡ after_sa_write old.phase old [] word → (after.0, []) ≡ after_sa_write old.phase old [] word
left_empty old word after is = grind (arith, nat_tests)

pub word_is_local : (old : PortState) (memory : List ℕ) (word : ℕ) (after : PortState × List ℕ)
    → WordEffect false (old, memory) word after
    → WordIsLocal false (old, memory) word (range_zeroed old.phase old memory word) after
word_is_local old memory word after is =
    let left = word_left old.phase old memory word after is in
    search left

pub missing_is_local : (old : PortState) (memory : List ℕ) (word : ℕ) (after : PortState × List ℕ)
    → WordEffect true (old, memory) word after → WordIsLocal true (old, memory) word EMPTY_RANGE after
missing_is_local old memory word after is = record {
  only = is.1 ∙ sym (carried_empty after.1 memory);
  elsewhere = λ other same. (is.0, carried_empty after.1 other);
}
