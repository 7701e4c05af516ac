-- Whichever eligible command is executed first, the result is the same; and what else a driver needs of a
-- list of commands.
use Rattle.std.proofs.Common.{◌≡◌, ℕ, ◌+◌, ◌-◌, min, ◌<◌, List, [], ◌∷◌, length, get_or, take, replicate, Option, Some, None, refl, sym, ap, ap₂, ◌∙◌, arith}
use Rattle.std.specs.Prelude.{slice_get, option_map}
use Rattle.std.proofs.lemmas.List.{same_lists, take_at}
use Rattle.std.proofs.lemmas.List.Elements.{All-head, All-tail}
use Rattle.std.proofs.lemmas.Option.{slice_get-map, slice_get_within, get_or_from_slice_get}
use Rattle.uda_mem.proofs.PutLaws.{length-put, length-part, get_or-part, get_or-put_before, get_or-put_at, get_or-put_behind, put-put_comm}
use Rattle.uda_packet.specs.declared.command.Op.TheVariants as op
use Rattle.uda_disk.proofs.Runs.{first_is_free, runs-push}
use Rattle.uda_disk.proofs.Swap as item
use Rattle.uda_disk.proofs.Swap.{Told, judge}
use Rattle.uda_exec.proofs.Words.{end_for, put, part, Overlap, Command, Op, End, Disks, Act, buffer_start, buffer_length, bytes_at, act_of, World, FixedCommand, commands_of, effect_of, effects, OrderIsIrrelevant, OneMore, with_bytes, PassesThrough, SameData, DependsOnDataAlone}
use Rattle.uda_exec.proofs.Requests.{asks, act_of-put, act_shared}
use Rattle.uda_exec.proofs.Swap.{swaps, item_of, effect-lands, effect-none, behind, length-told}

pub order_is_irrelevant : OrderIsIrrelevant
order_is_irrelevant xs j x w apart goes at =
    let command : FixedCommand → Command = λ y. y.command in
    let at_command : slice_get (commands_of xs) j ≡ Some x.command = slice_get-map command xs j
    ∙ ap (option_map command) at in
    let place = slice_get_within (commands_of xs) j x.command at_command in
    first_is_free effect_of xs j x w at (λ i y v below there.
    let there_command : slice_get (commands_of xs) i ≡ Some y.command = slice_get-map command xs i
    ∙ ap (option_map command) there in
    let is_y = get_or_from_slice_get (commands_of xs) i y.command x.command there_command in
    let is_x = get_or_from_slice_get (commands_of xs) j x.command x.command at_command in
    swaps x y v (goes.may_overtake i y.command x.command below there_command at_command)
    (rw (is_y, is_x) at (apart i j x.command below place)))

pub one_more : OneMore
one_more xs x w = runs-push effect_of xs x w

-- bytes outside a command's buffer don't affect it
passes_one : (x : FixedCommand) (w : World) (at : ℕ) (bytes : List ℕ)
    → (Overlap at (length bytes) (buffer_start x.command.op) (buffer_length x.command.op) → ⊥)
    → (asked : Option Act) → act_of x.command.op w.memory ≡ asked → effect_of x (with_bytes w at bytes)
    ≡ ((effect_of x w).0, with_bytes (effect_of x w).1 at bytes)
passes_one x w at bytes beside None is =
    rw (
      effect-none x (with_bytes w at bytes) (act_of-put x.command.op w.memory at bytes beside ∙ is),
      effect-none x w is,
    ) refl
passes_one x w at bytes beside (Some act) is =
    let c = x.command in
    let it = item_of x act (length w.memory) in
    let r = item.does it w.disks in
    let little = length-told x act (length w.memory) (judge it (slice_get w.disks c.unit))
    (asks c.op w.memory act is) in
    rw (behind x act w at bytes w.disks is beside, effect-lands x act w is)
    (ap (λ (m : List ℕ). (end_for c r.0.0, record { memory = m; disks = r.1 }))
    (put-put_comm w.memory at bytes (buffer_start c.op) r.0.1 (λ meet. beside (omega arith))))

pub passes_through : PassesThrough
passes_through [] at bytes w beside = refl
passes_through (x ∷ rest) at bytes w beside =
    let P : FixedCommand → Type 0 = λ a. Overlap at (length bytes) (buffer_start a.command.op)
    (buffer_length a.command.op) → ⊥ in
    let now = passes_one x w at bytes (All-head P x rest beside) _ refl in
    let later = passes_through rest at bytes (effect_of x w).1 (All-tail P x rest beside) in
    rw (now, later) refl

-- an item that two lists share is still shared when the same is put into both
put_both : (xs ys : List ℕ) (at : ℕ) (new : List ℕ) (i d : ℕ) → i < length xs → i < length ys
    → get_or xs i d ≡ get_or ys i d → get_or (put xs at new) i d ≡ get_or (put ys at new) i d
put_both xs ys at new i d within within' shared = grind (arith, get_or-put_before, get_or-put_at, get_or-put_behind)

-- a part that two lists share is still shared when the same is put into both
part-put_both : (xs ys : List ℕ) (at : ℕ) (new : List ℕ) (a n : ℕ) → length xs ≡ length ys
    → part xs a n ≡ part ys a n → part (put xs at new) a n ≡ part (put ys at new) a n
part-put_both xs ys at new a n same h =
    let short = length-part (put xs at new) a n in let other = length-part (put ys at new) a n in
    let long = length-put xs at new in let long' = length-put ys at new in
    same_lists _ _ (short ∙ ap (λ l. min n (l - a)) (long ∙ same ∙ sym long') ∙ sym other) (λ k d below.
    let inside : k < n = omega arith in
    let within : a + k < length xs = omega arith in let within' : a + k < length ys = omega arith in
    let shared : get_or xs (a + k) d ≡ get_or ys (a + k) d = sym (get_or-part xs a n k d inside)
    ∙ ap (λ (p : List ℕ). get_or p k d) h ∙ get_or-part ys a n k d inside in
    get_or-part (put xs at new) a n k d inside ∙ put_both xs ys at new (a + k) d within within' shared
    ∙ sym (get_or-part (put ys at new) a n k d inside))

-- equal bytes of a Write in two memories of one length mean that they share its buffer
part-shared : (memory other : List ℕ) (at n : ℕ) → length memory ≡ length other → bytes_at memory at n
    ≡ bytes_at other at n → part memory at n ≡ part other at n
part-shared memory other at n same h =
    let size = length-part memory at n in let size' = length-part other at n in
    let rest : List ℕ → List ℕ = λ m. replicate (n - length (part m at n)) 0 in
    sym (take_at (part memory at n) (rest memory) (length (part memory at n)) refl)
    ∙ ap (take (length (part memory at n))) h
    ∙ take_at (part other at n) (rest other) (length (part memory at n)) (omega (arith, same))

act_of-put_both : (o : Op) (memory other : List ℕ) (at : ℕ) (bytes : List ℕ) → length memory ≡ length other
    → act_of o memory ≡ act_of o other → act_of o (put memory at bytes) ≡ act_of o (put other at bytes)
act_of-put_both (op.Write n address lbn) memory other at bytes same h =
    let asked : bytes_at memory address n ≡ bytes_at other address n = cc in
    act_shared (op.Write n address lbn) (put other at bytes) (put memory at bytes)
    (part-put_both memory other at bytes address n same (part-shared memory other address n same asked))
act_of-put_both _ memory other at bytes same h = refl

-- one command with the same action in two memories: one end message, the same units, and memories that agree
-- as before
record Agrees (memory other : List ℕ) (now then : End × World) : Type 0 where
  ends : now.0 ≡ then.0
  units : now.1.disks ≡ then.1.disks
  same_length : length now.1.memory ≡ length then.1.memory
  same_acts : (o : Op) → act_of o memory ≡ act_of o other → act_of o now.1.memory ≡ act_of o then.1.memory

agrees_one : (x : FixedCommand) (memory other : List ℕ) (disks : Disks) → length memory ≡ length other
    → (asked : Option Act) → act_of x.command.op memory ≡ asked → act_of x.command.op other ≡ asked
    → Agrees memory other (effect_of x (record { memory = memory; disks = disks }))
    (effect_of x (record { memory = other; disks = disks }))
agrees_one x memory other disks same None is is' =
    rw (
      effect-none x (record { memory = memory; disks = disks }) is,
      effect-none x (record { memory = other; disks = disks }) is',
    )
    (record { ends = refl; units = refl; same_length = same; same_acts = λ o g. g })
agrees_one x memory other disks same (Some act) is is' =
    let start = buffer_start x.command.op in
    let bytes = (item.does (item_of x act (length memory)) disks).0.1 in
    rw (
      effect-lands x act (record { memory = memory; disks = disks }) is,
      effect-lands x act (record { memory = other; disks = disks }) is',
      ← same,
    ) (record {
      ends = refl;
      units = refl;
      same_length = length-put memory start bytes ∙ same ∙ sym (length-put other start bytes);
      same_acts = λ o g. act_of-put_both o memory other start bytes same g;
    })

pub depends_on_data_alone : DependsOnDataAlone
depends_on_data_alone [] memory other disks same = (refl, refl)
depends_on_data_alone (x ∷ rest) memory other disks same =
    let P : FixedCommand → Type 0 = λ a. act_of a.command.op memory ≡ act_of a.command.op other in
    let w : World = record { memory = memory; disks = disks } in
    let v : World = record { memory = other; disks = disks } in
    let now = agrees_one x memory other disks same.same_length _ refl
    (sym (All-head P x rest same.same_acts)) in
    let rest_same : SameData rest (effect_of x w).1.memory (effect_of x v).1.memory = record {
      same_length = now.same_length;
      same_acts = λ k d below. now.same_acts (get_or rest k d).command.op
          (All-tail P x rest same.same_acts k d below);
    } in
    let later = depends_on_data_alone rest (effect_of x w).1.memory (effect_of x v).1.memory
    (effect_of x w).1.disks rest_same in
    let there : Disks → List End × World = λ d. effects rest
    (record { memory = (effect_of x v).1.memory; disks = d }) in
    let cons : End → List End → List End = λ e es. e ∷ es in (
      ap₂ cons now.ends (later.0 ∙ ap (λ (d : Disks). (there d).0) now.units),
      later.1
          ∙ ap (λ (d : Disks). (there d).1.disks) now.units,
    )
