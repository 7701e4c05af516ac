-- Memory that changed at most in one range.
use Rattle.std.proofs.Common.{◌≡◌, ℕ, ◌+◌, ◌-◌, ◌<◌, ◌≤◌, inl, inr, List, length, get_or, sym, ap, ◌∙◌, arith}
use Rattle.std.proofs.lemmas.List.{same_lists}
use Rattle.std.proofs.lemmas.Bool.{cases_lt}
use Rattle.uda_mem.proofs.PutLaws.{length-put, length-part, get_or-part, get_or-put_before, get_or-put_at, get_or-put_behind, put-part, put-part_none, put-put_same, put-whole}
use Rattle.uda_packet.specs.declared.command.Op.TheVariants.{Read}
use Rattle.uda_exec.proofs.Words.{put, part, Op, memory_write_length, buffer_length, ChangesAt}

-- a write inside the range
pub changes_by_put : (old : List ℕ) (at n place : ℕ) (bytes : List ℕ) → at ≤ place
    → place + length bytes ≤ at + n → ChangesAt old at n (put old place bytes)
changes_by_put old at n place bytes from to =
    let new = put old place bytes in
    let size = length-part new at n in let stays = length-put old place bytes in
    same_lists _ _ (stays ∙ sym (length-put old at (part new at n))) (λ k d below.
    let within : k < length old = omega arith in
    elim (cases_lt k at) [
      | inl low ↦ get_or-put_before old place bytes k d within (omega arith)
          ∙ sym (get_or-put_before old at (part new at n) k d within low)
      | inr from ↦ elim (cases_lt k (at + n)) [
        | inl to ↦ sym (get_or-put_at old at (part new at n) k d within from (omega arith)
            ∙ get_or-part new at n (k - at) d (omega arith) ∙ ap (λ i. get_or new i d) (omega arith))
        | inr high ↦ get_or-put_behind old place bytes k d within (omega arith)
            ∙ sym (get_or-put_behind old at (part new at n) k d within (omega arith))
      ]
    ])

-- in an empty range nothing changed
pub ChangesAt-none : (old new : List ℕ) (at : ℕ) → ChangesAt old at 0 new → new ≡ old
ChangesAt-none old new at h = put-part_none old new at h

pub changes_nothing : (old : List ℕ) (at n : ℕ) → ChangesAt old at n old
changes_nothing old at n = sym (put-part old at n)

pub length-changes : (old new : List ℕ) (at n : ℕ) → ChangesAt old at n new → length new ≡ length old
length-changes old new at n h = ap length h ∙ length-put old at (part new at n)

pub changes_again : (a b c : List ℕ) (at n : ℕ) → ChangesAt a at n b → ChangesAt b at n c → ChangesAt a at n c
changes_again a b c at n h g =
    let size_b = length-part b at n in
    let size_c = length-part c at n in let same = length-changes b c at n g in
    let over : put (put a at (part b at n)) at (part c at n) ≡ put a at (part c at n) =
    put-put_same a at (part b at n) (part c at n) (omega arith) in
    g ∙ ap (λ (m : List ℕ). put m at (part c at n)) h ∙ over

-- a command changes no more of its buffer than there is
pub landing-le : (op : Op) → memory_write_length op ≤ buffer_length op
landing-le (Read bytes address lbn) = omega arith
landing-le _ = omega arith

-- what a search needs of a memory that was passed on as a slice
pub ruleset wholes = put-whole
