-- The calls of a store whose failing call is known.
use Rattle.std.proofs.Common.{ℕ, suc, ◌+◌, Option, Some, None, refl, ap, ◌∙◌, arith, add-one}
use Rattle.uda_image.specs.Store.{CallsSucceed, FailsAtCall}

pub go_none : (left : Option ℕ) → CallsSucceed 0 left left
go_none None = record { before = tt; sooner = refl }
go_none (Some left) = record { before = λ some. some; sooner = ap Some (omega arith) }

pub go_more : (n m : ℕ) (old now new : Option ℕ) → CallsSucceed n old now → CallsSucceed m now new
    → CallsSucceed (n + m) old new
go_more n m None now new before more = let last = rw before.sooner at more
    in record { before = tt; sooner = last.sooner }
go_more n m (Some left) now new before more =
    let last = rw before.sooner at more in
    record {
      before = λ some. let behind = before.before some in let further = last.before (omega arith) in omega arith;
      sooner = last.sooner ∙ ap Some (omega arith);
    }

pub go_next : (n : ℕ) (old now new : Option ℕ) → CallsSucceed n old now → CallsSucceed 1 now new → CallsSucceed
    (suc n) old new
go_next n old now new before next = rw (← add-one) (go_more n 1 old now new before next)

pub fails_then : (n : ℕ) (old now new : Option ℕ) → CallsSucceed n old now → FailsAtCall 0 now new
    → FailsAtCall n old new
fails_then n None now new before fails = let last = rw before.sooner at fails in record { now = tt; over = last.over }
fails_then n (Some left) now new before fails =
    let last = rw before.sooner at fails in let here = last.now in record { now = omega arith; over = last.over }
