-- What a request leaves of a disk.
use Rattle.std.proofs.Common.{◌≡◌, ℕ, ◌+◌, ◌<◌, suc, false, List, [], ◌∷◌, ◌++◌, Option, Some, None, length, map, set, get_or, drop, refl, sym, ap, ap₂, ◌∙◌, arith, append_assoc}
use Rattle.std.specs.Prelude.{slice_get, option_map}
use Rattle.std.proofs.lemmas.List.{map-append, drop-map}
use Rattle.std.proofs.Math.Seq.{drop-cons}
use Rattle.uda_mem.specs.Put.{put}
use Rattle.uda_mem.proofs.PutLaws.{put-nil}
use Rattle.uda_disk.specs.declared.mode.Mode.{Mode}
use Rattle.uda_disk.specs.Disk.{Disk, Disks}
use Rattle.uda_disk.specs.Request.{Act, Request, lbn_of}
use Rattle.uda_disk.specs.Answer.{Answer}
use Rattle.uda_disk.specs.RequestEffect.{Done, CheckResult, Rejected, Accepted, check_result, check_at, due, blocks_written, mode_after, disk_after, answer_by, disk_by, serve_by}
use Rattle.uda_disk.specs.InOrderRun.{too_long, step, run_in_order}
use Rattle.uda_disk.specs.declared.request.Request as declared
use Rattle.uda_disk.specs.declared.answer.Answer as declared_answer
use Rattle.uda_disk.specs.Values.{request_value, request_values, answer_value, answer_values}
use Rattle.uda_disk.proofs.Slots.{set-itself}

-- one that stores no blocks leaves them as they are
pub disk_after-mode : (act : Act) (disk : Disk) (mode : Mode) → blocks_written act (due act disk.blocks) ≡ []
    → mode ≡ mode_after act disk.mode → record disk { mode = mode } ≡ disk_after Done act disk
disk_after-mode act disk mode none is =
    ap (λ m. record disk { mode = m }) is
    ∙ ap (λ blocks. record { blocks = blocks; size = disk.size; mode = mode_after act disk.mode })
    (sym (put-nil disk.blocks (lbn_of act)) ∙ ap (put disk.blocks (lbn_of act)) (sym none))

-- the slot after a request, at its index among the units
slot_left-disk : (disks : Disks) (r : Request) (disk : Disk) (b : CheckResult) → slice_get disks r.unit
    ≡ Some (Some disk)
    → ◌≡◌ {A = Answer × Disks} (answer_by Done r.act b, set disks r.unit (Some (disk_by Done r.act b disk)))
    (serve_by Done r b disks)
slot_left-disk disks r disk (Rejected refusal) here = ap (λ ds. (answer_by Done r.act (Rejected refusal), ds))
    (set-itself disks r.unit (Some disk) here)
slot_left-disk disks r disk (Accepted free) here = refl

slot_left : (disks : Disks) (r : Request) (slot : Option Disk) → slice_get disks r.unit ≡ Some slot
    → ◌≡◌ {A = Answer × Disks} (
      answer_by Done r.act (check_at r.act (Some slot)),
      set disks r.unit
          (option_map (disk_by Done r.act (check_at r.act (Some slot))) slot),
    )
    (serve_by Done r (check_at r.act (Some slot)) disks)
slot_left disks r None here = ap (λ ds. (answer_by Done r.act (check_at r.act (Some None)), ds))
    (set-itself disks r.unit None here)
slot_left disks r (Some disk) here = slot_left-disk disks r disk (check_at r.act (Some (Some disk))) here

step_short : (disks : Disks) (r : Request) → too_long r ≡ false
    → step r disks ≡ serve_by Done r (check_result disks r) disks
step_short disks r short = rw short refl

-- a request that isn't too long, executed on the slot of its unit, is a step
pub step-slot : (disks : Disks) (r : Request) (slot slot_after : Option Disk) (answer : Answer)
    → too_long r ≡ false → slice_get disks r.unit ≡ Some slot
    → answer ≡ answer_by Done r.act (check_at r.act (Some slot))
    → slot_after ≡ option_map (disk_by Done r.act (check_at r.act (Some slot))) slot
    → ◌≡◌ {A = Answer × Disks} (answer, set disks r.unit slot_after) (step r disks)
step-slot disks r slot slot_after answer short here told left =
    ap₂ (λ a s. (a, set disks r.unit s)) told left
    ∙ slot_left disks r slot here
    ∙ ap (λ s. serve_by Done r (check_at r.act s) disks) (sym here)
    ∙ sym (step_short disks r short)

-- requests executed already, with those that are left
abbrev pub SoFar : Disks → List Request → List Answer → Disks → List Request → Type 0
SoFar disks requests told now rest = run_in_order disks requests ≡ (told ++ (run_in_order now rest).0, (run_in_order now rest).1)

pub SoFar-next : (disks : Disks) (requests : List Request) (told : List Answer) (now : Disks) (r : Request)
    (rest : List Request) (answer : Answer) (after : Disks)
    → ◌≡◌ {A = Answer × Disks} (answer, after) (step r now) → SoFar disks requests told now (r ∷ rest)
    → SoFar disks requests (told ++ answer ∷ []) after rest
SoFar-next disks requests told now r rest answer after is so_far =
    so_far
    ∙ ap (λ (s : Answer × Disks). (told ++ (s.0 ∷ (run_in_order s.1 rest).0), (run_in_order s.1 rest).1)) (sym is)
    ∙ ap (λ answers. (answers, (run_in_order after rest).1))
    (sym (append_assoc told (answer ∷ []) (run_in_order after rest).0))

-- the requests from one: that one, and those after it
pub drop-values : (xs : List declared.Request) (i : ℕ) (d : declared.Request) → i < length xs
    → drop i (request_values xs) ≡ request_value (get_or xs i d) ∷ drop (i + 1) (request_values xs)
drop-values xs i d h =
    let next : suc i ≡ i + 1 = omega arith in
    drop-map request_value i xs ∙ ap (map request_value) (drop-cons xs i d h)
    ∙ ap (λ rest. request_value (get_or xs i d) ∷ rest)
    (sym (drop-map request_value (suc i) xs) ∙ ap (λ n. drop n (request_values xs)) next)

pub answer_values-next : (xs : List declared_answer.Answer) (x : declared_answer.Answer)
    → answer_values (xs ++ x ∷ []) ≡ answer_values xs ++ answer_value x ∷ []
answer_values-next xs x = map-append answer_value xs (x ∷ [])
