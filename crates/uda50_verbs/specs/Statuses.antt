-- The exit statuses of the program.
use Rattle.std.specs.Prelude.{ℕ}
use Rattle.uda50_verbs.specs.declared.outcome.Outcome.{Outcome}
use Rattle.uda50_verbs.specs.declared.outcome.Outcome.TheVariants.{Done, Failed, FaultReported}

-- 0 if all succeeded; 1 if a fault was reported; 3 if a request failed, blocks were lost, or a packet was
-- invalid
abbrev pub exit_status : Outcome → ℕ
exit_status Done = 0
exit_status FaultReported = 1
exit_status Failed = 3
