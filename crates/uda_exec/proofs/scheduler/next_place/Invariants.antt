use Rattle.std.proofs.Common.{◌≡◌, ◌<◌, true}
use Rattle.std.specs.Prelude.{IsSome, IfSome}
use Rattle.uda_exec.specs.Order.{IsEligible}
use Rattle.uda_exec.proofs.Choices.{TransfersFirst}
use Rattle.uda_exec.proofs.scheduler.next_place.Given as goal

-- the least so far is eligible, and after the first index there is one, since the oldest is always eligible
abbrev pub invariant-loop-place : goal.invariant-loop-place
invariant-loop-place l = record {
  may : IfSome l.least (λ candidate. IsEligible l.pending candidate.place);
  some : 0 < l.place → IsSome l.least;
  first : l.only_transfers ≡ true → TransfersFirst l.pending l.place;
}
