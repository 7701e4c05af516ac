-- Blocks that are reported lost, and calls on the source that failed.
use Rattle.std.proofs.Common.{◌≡◌, ◌⊎◌, inl, inr, ℕ, suc, ◌+◌, ◌<◌, ◌≤◌, List, [], ◌∷◌, ◌++◌, length, Option, Some, Global, refl, sym, ap, ap₂, ◌∙◌, arith}
use Rattle.std.specs.Prelude.{slice_get, unwrap_or, nat_eq, ◌&&◌, if◌then◌else◌}
use Rattle.std.specs.Iterator.{Yields}
use Rattle.std.specs.Vec.Iter.{into_iter_items, into_iter_steps}
use Rattle.std.specs.declared.vec.IntoIter.{IntoIter}
use Rattle.uda_disk.specs.Status.{DRIVE_ERROR}
use Rattle.uda_disk.specs.Request.{Request}
use Rattle.uda_disk.specs.Answer.{Answer, status_of}
use Rattle.uda_disk.specs.InOrderRun.{drive_errors, tells_error}
use Rattle.uda_disk.specs.Values.{answer_value, answer_values}
use Rattle.uda_disk.specs.declared.answer.Answer.{Answer as Told}
use Rattle.uda_disk.specs.Units.{Units, AllSound, failures_at}
use Rattle.uda50_copy.specs.Copy.{read_of, AreReads}
use Rattle.uda50_copy.specs.Report.{CopyReport, lost, skipped}
use Rattle.uda50_copy.specs.Reports.{lost_count, LosesFailed, KeepsFailures}
use Rattle.uda50_copy.specs.Record.{RecordState}
use Rattle.uda50_copy.proofs.Pieces.{taken_front}

-- ---- calls that failed

pub keeps_none : (units : Units) → KeepsFailures units units
keeps_none units = λ sound. omega arith

pub keeps_by : (units after : Units) (requests : List Request) (answers : List Answer)
    → (AllSound after → (u : ℕ) → failures_at (slice_get after u)
    ≡ failures_at (slice_get units u) + drive_errors u requests answers)
    → KeepsFailures units after
keeps_by units after requests answers told = λ sound. omega (arith, told sound 0)

-- ---- the answers of Reads of the source

abbrev pub error_of : Answer → ℕ
error_of answer = if nat_eq (status_of answer) DRIVE_ERROR then 1 else 0

-- how many of these answers tell that the drive failed
abbrev pub error_count : List Answer → ℕ
error_count [] = 0
error_count (answer ∷ rest) = error_of answer + error_count rest

abbrev pub AreOfSource : List Request → Type 0
AreOfSource requests =
    (k : ℕ) → k < length requests → (r : Request) × ((slice_get requests k ≡ Some r) × (r.unit ≡ 0))

pub errors_told : (requests : List Request) (answers : List Answer) → length answers ≡ length requests
    → AreOfSource requests → error_count answers ≡ drive_errors 0 requests answers
errors_told [] [] same are = refl
errors_told [] (answer ∷ later) same are = absurd (omega (arith, same))
errors_told (r ∷ rest) [] same are = refl
errors_told (r ∷ rest) (answer ∷ later) same are =
    let first = are 0 (omega arith) in
    let unit : r.unit ≡ 0 = ap (λ (o : Option Request). (unwrap_or o r).unit) first.1.0 ∙ first.1.1 in
    ap₂ (λ (one more : ℕ). one + more)
    (ap (λ (u : ℕ). if nat_eq u 0 && nat_eq (status_of answer) DRIVE_ERROR then 1 else 0) (sym unit))
    (errors_told rest later (omega (arith, same)) (λ k less. are (suc k) (omega (arith, less))))

pub reads_of_source : (from to piece : ℕ) (requests : List Request) → AreReads from to piece requests
    → AreOfSource requests
reads_of_source from to piece requests reads = λ k less. (read_of _ _, (reads.each k less, refl))

errors_append : (a b : List Told)
    → error_count (answer_values (a ++ b)) ≡ error_count (answer_values a) + error_count (answer_values b)
errors_append [] b = omega arith
errors_append (x ∷ a) b = let more = errors_append a b in omega (arith, more)

pub errors_push : (yielded : List Told) (x : Told) → error_count (answer_values (yielded ++ x ∷ []))
    ≡ error_count (answer_values yielded) + error_of (answer_value x)
errors_push yielded x =
    let one : error_count (answer_values (x ∷ [])) ≡ error_of (answer_value x) + 0 = refl in
    omega (arith, errors_append yielded (x ∷ []), one)

pub errors_front : (s t : IntoIter Told Global) (items yielded : List Told) → into_iter_items s ≡ items
    → Yields into_iter_steps s yielded t → error_count (answer_values yielded) ≤ error_count (answer_values items)
errors_front s t items yielded are came =
    let all : items ≡ yielded ++ into_iter_items t = sym are ∙ taken_front s yielded t came in
    omega (
      arith,
      ap (λ (l : List Told). error_count (answer_values l)) all,
      errors_append yielded (into_iter_items t),
    )

pub errors_next : (s t u : IntoIter Told Global) (items yielded : List Told) (x : Told) → into_iter_items s ≡ items
    → Yields into_iter_steps s yielded t → into_iter_items t ≡ x ∷ into_iter_items u
    → error_count (answer_values yielded) + error_of (answer_value x) ≤ error_count (answer_values items)
errors_next s t u items yielded x are came next =
    let all : items ≡ yielded ++ x ∷ into_iter_items u =
    sym are ∙ taken_front s yielded t came ∙ ap (λ (l : List Told). yielded ++ l) next in
    let last : error_count (answer_values (x ∷ into_iter_items u))
    ≡ error_of (answer_value x) + error_count (answer_values (into_iter_items u)) = refl in
    omega (
      arith,
      ap (λ (l : List Told). error_count (answer_values l)) all,
      errors_append yielded (x ∷ into_iter_items u),
      last,
    )

-- a block that is reported lost by the answer of its Read
pub one_lost : (old new : List CopyReport) (lbn : ℕ) (answer : Answer) → status_of answer ≡ DRIVE_ERROR
    → new ≡ lost lbn ∷ old → lost_count new ≤ lost_count old + tells_error 0 (read_of lbn 1) answer
one_lost old new lbn answer failed told =
    let one : tells_error 0 (read_of lbn 1) answer ≡ 1 =
    ap (λ (s : ℕ). if nat_eq s DRIVE_ERROR then 1 else 0) failed in
    let count : lost_count new ≡ lost_count old + 1 = ap lost_count told in
    omega (arith, one, count)

-- ---- the record of a copy

-- a range that is skipped, or not noted
pub skip_loses : {Set : Type 0} (units : Units) (old new : RecordState) (start end : ℕ)
    → (new ≡ old) ⊎ (Set × (new.reports ≡ skipped start end ∷ old.reports))
    → LosesFailed (record { units = units; reports = old.reports }) (record { units = units; reports = new.reports })
skip_loses units old new start end (inl same) = λ sound.
    let count : lost_count new.reports ≡ lost_count old.reports = ap (λ (r : RecordState). lost_count r.reports) same in
    omega (arith, count)
skip_loses units old new start end (inr set) = λ sound.
    let count : lost_count new.reports ≡ lost_count old.reports = ap lost_count set.1 in
    omega (arith, count)
