-- A drive error is reported exactly if a transfer fails.
use Rattle.std.proofs.Common.{◌≡◌, ℕ, ◌<◌, Bool, true, false, List, refl, ap, ◌∙◌, arith}
use Rattle.std.specs.Prelude.{nat_eq, if◌then◌else◌}
use Rattle.uda_disk.specs.declared.refusal.Refusal.{Refusal}
use Rattle.uda_disk.specs.declared.refusal.Refusal.TheVariants.{UnitUnknown}
use Rattle.uda_disk.specs.Status.{SUCCESS, ALREADY_ONLINE, AVAILABLE, DRIVE_ERROR}
use Rattle.uda_disk.specs.Disk.{Disks}
use Rattle.uda_disk.specs.Request.{Act, Online, Status, Read, Access, Write, Erase, Request, blocks_named}
use Rattle.uda_disk.specs.Answer.{Answer}
use Rattle.uda_disk.specs.RequestEffect.{CheckResult, Rejected, Accepted, check_result, TransferOutcome, Done, Lost, is_lost, IsWithinRange, refusal_status, answer_by, serve_as, is_accepted}
use Rattle.uda_disk.specs.InOrderRun.{too_long, step_as}
use Rattle.uda_disk.proofs.Errors.{is_error}

-- a refusal is no drive error
refusal-clean : (refusal : Refusal) → nat_eq (refusal_status refusal) DRIVE_ERROR ≡ false
refusal-clean UnitUnknown = refl
refusal-clean _ = refl

barred-clean : (o : TransferOutcome) (act : Act) (refusal : Refusal) → is_error (answer_by o act (Rejected refusal))
    ≡ false
barred-clean o (Online protect) refusal = refusal-clean refusal
barred-clean o _ refusal = refusal-clean refusal

-- nor is the answer of a request that does not fail
status-clean : (online : Bool) → (let n : ℕ = if online then SUCCESS else AVAILABLE in nat_eq n DRIVE_ERROR)
    ≡ false
status-clean true = refl
status-clean false = refl

online-clean : (online : Bool) → (let n : ℕ = if online then ALREADY_ONLINE else SUCCESS in
    nat_eq n DRIVE_ERROR) ≡ false
online-clean true = refl
online-clean false = refl

done-clean : (act : Act) (b : CheckResult) → is_error (answer_by Done act b) ≡ false
done-clean act (Rejected refusal) = barred-clean Done act refusal
done-clean (Online protect) (Accepted d) = online-clean d.mode.online
done-clean Status (Accepted d) = status-clean d.mode.online
done-clean _ (Accepted d) = refl

-- and the answer of one that fails is one
lost-told : (k : ℕ) (left : List ℕ) (act : Act) (b : CheckResult) → is_accepted b ≡ true → k < blocks_named act
    → is_error (answer_by (Lost k left) act b) ≡ true
lost-told k left act (Rejected refusal) h l = absurd (cc)
lost-told k left (Read lbn bytes) (Accepted d) h l = refl
lost-told k left (Access lbn bytes) (Accepted d) h l = refl
lost-told k left (Write lbn payload) (Accepted d) h l = refl
lost-told k left (Erase lbn bytes) (Accepted d) h l = refl
lost-told k left _ (Accepted d) h l = absurd (omega arith)

by_outcome : (o : TransferOutcome) (act : Act) (b : CheckResult) → IsWithinRange (blocks_named act) o
    → (is_lost o ≡ true → is_accepted b ≡ true) → is_error (answer_by o act b) ≡ is_lost o
by_outcome Done act b f acts = done-clean act b
by_outcome (Lost k left) act b f acts = lost-told k left act b (acts refl) f.0

pub error-lost : (o : TransferOutcome) (r : Request) (disks : Disks) → too_long r ≡ false
    → IsWithinRange (blocks_named r.act) o → (is_lost o ≡ true → is_accepted (check_result disks r) ≡ true)
    → is_error (step_as o r disks).0 ≡ is_lost o
error-lost o r disks short f acts =
    let is : step_as o r disks ≡ serve_as o r disks = rw short refl in
    ap (λ (x : Answer × Disks). is_error x.0) is ∙ by_outcome o r.act (check_result disks r) f acts
