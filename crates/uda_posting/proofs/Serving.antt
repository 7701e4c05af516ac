-- The command of a request, ready for it, has the effect of the request on the disks. Its end message and
-- its buffer contain the answer.
use Rattle.std.proofs.Common.{◌≡◌, ℕ, zero, suc, ◌+◌, ◌-◌, ◌%◌, ◌≤◌, true, false, List, [], ◌∷◌, length, take, drop, Option, refl, sym, ap, ap₂, ◌∙◌, arith, length-take}
use Rattle.std.specs.Prelude.{not, if◌then◌else◌}
use Rattle.std.specs.List.{concat}
use Rattle.std.proofs.lemmas.Bool.{eq-eqb, le-ltb}
use Rattle.std.proofs.lemmas.List.{take-take}
use Rattle.uda_mem.specs.Put.{part, put}
use Rattle.uda_mem.proofs.PutLaws.{part-put_inside}
use Rattle.uda_disk.specs.Disk.{Disks}
use Rattle.uda_disk.specs.Request.{Act, Online, Read}
use Rattle.uda_disk.specs.Answer.{Answer, Data}
use Rattle.uda_disk.specs.RequestEffect.{CheckResult, Rejected, Accepted, check_result, TransferOutcome, blocks_moved, due, bytes_on, transfer_bytes, transfer_status, answer_by, serve_as, disks_by, is_accepted}
use Rattle.uda_disk.specs.InOrderRun.{step_as}
use Rattle.uda_packet.specs.declared.end.End.{End}
use Rattle.uda_exec.specs.Commands.{buffer_start, buffer_length}
use Rattle.uda_exec.specs.BufferChecks.{precedes_address, check_with, is_odd, is_missing}
use Rattle.uda_exec.specs.Effect.{World, end_for, check_of, memory_by, does, effect_by, effect, passes_checks_by, passes_checks}
use Rattle.uda_posting.specs.Posting.{op_of, command_of, answer_of, Posted, posted_command, buffer_of, Ready}

-- nothing is wrong with its buffer
clean : (b : CheckResult) → check_with false false b ≡ b
clean (Accepted disk) = refl
clean (Rejected refusal) = elim (precedes_address refusal) as
    (λ first. Rejected (if first then refusal else refusal) ≡ Rejected refusal) [ true ↦ refl | _ ↦ refl ]

pub barred-own : (p : Posted) (w : World) → Ready p w.memory
    → check_of (posted_command p) p.request.act w ≡ check_result w.disks p.request
barred-own p w ready =
    let o = (posted_command p).op in
    let even : is_odd (buffer_start o) ≡ false = ap not (eq-eqb (buffer_start o % 2) 0 ready.even) in
    let present : is_missing (buffer_start o) (buffer_length o) (length w.memory) ≡ false =
    le-ltb (length w.memory) (buffer_start o + buffer_length o) ready.within in
    ap₂ (λ odd missing. check_with odd missing (check_result w.disks p.request)) even present
    ∙ clean (check_result w.disks p.request)

pub passes_checks-own : (p : Posted) (w : World) → Ready p w.memory
    → passes_checks (posted_command p) w ≡ is_accepted (check_result w.disks p.request)
passes_checks-own p w ready = ap (λ (a : Option Act). passes_checks_by (posted_command p) a w) ready.asks
    ∙ ap is_accepted (barred-own p w ready)

-- ---- the bytes of a Read's answer are those in its buffer

take_told : (k : ℕ) (ys : List ℕ) → take (length (take k ys)) ys ≡ take k ys
take_told zero ys = refl
take_told (suc k) [] = refl
take_told (suc k) (y ∷ ys) = ap (λ (zs : List ℕ). y ∷ zs) (take_told k ys)

read_back : (ys memory : List ℕ) (a n k : ℕ) → a + n ≤ length memory → length ys ≤ n
    → take (length (take k ys)) (part (put memory a ys) a n) ≡ take k ys
unfolding part
read_back ys memory a n k room fits =
    let t = length (take k ys) in
    let small : t ≤ length ys = omega (arith, length-take k ys) in
    let none : a - a ≡ 0 = omega arith in
    take-take t n (drop a (put memory a ys)) (omega arith)
    ∙ part-put_inside memory a ys a t (omega arith) (omega arith) (omega arith)
    ∙ ap (λ (i : ℕ). take t (drop i ys)) none ∙ take_told k ys

answers : (o : TransferOutcome) (act : Act) (unit k a : ℕ) (b : CheckResult) (memory : List ℕ)
    → buffer_start (op_of act a) + buffer_length (op_of act a) ≤ length memory
    → answer_of act (end_for (command_of (record { unit = unit; act = act }) k a) (answer_by o act b))
    (part (memory_by o (op_of act a) act b memory) (buffer_start (op_of act a)) (buffer_length (op_of act a)))
    ≡ answer_by o act b
answers o (Read first n) unit k a (Accepted disk) memory room =
    let ys = bytes_on o (Read first n) disk in
    ap (λ (bytes : List ℕ). Data (transfer_status o) bytes)
    (read_back ys memory a n (transfer_bytes o n) room
    (omega (arith, length-take n (concat (blocks_moved o (due (Read first n) disk.blocks))))))
answers o (Online protect) unit k a (Rejected refusal) memory room = refl
answers o _ unit k a (Rejected refusal) memory room = refl
answers o (Online protect) unit k a (Accepted disk) memory room = refl
answers o _ unit k a (Accepted disk) memory room = refl

-- ---- one request

-- the answer for this effect of a command, and the disks
abbrev pub shown_by : Posted → End × World → Answer × Disks
shown_by p x = (answer_of p.request.act x.0 (buffer_of p x.1.memory), x.1.disks)

-- the command of a request with a given outcome has the answer of the in-order step and leaves its disks
pub serves : (o : TransferOutcome) (p : Posted) (w : World) → Ready p w.memory
    → shown_by p (effect o (posted_command p) w) ≡ step_as o p.request w.disks
serves o p w ready =
    let c = posted_command p in let r = p.request in let b = check_result w.disks r in
    let now : step_as o r w.disks ≡ serve_as o r w.disks = rw ready.short refl in
    let is : effect o c w ≡ does o c r.act b w = ap (λ a. effect_by o c a w) ready.asks
    ∙ ap (λ x. does o c r.act x w) (barred-own p w ready) in
    ap (shown_by p) is ∙ ap (λ a. (a, disks_by o r b w.disks))
    (answers o r.act r.unit (p.place + 1) p.address b w.memory ready.within) ∙ sym now
