-- The status numbers that C gets.
use Rattle.std.specs.Prelude.{ℕ}
use Rattle.uda_port.specs.declared.turn.Turn.{Turn}
use Rattle.uda_port.specs.declared.turn.Turn.TheVariants as turn
use Rattle.uda_c.specs.declared.call_status.CallStatus.{CallStatus}
use Rattle.uda_c.specs.declared.call_status.CallStatus.TheVariants.{Done, RanTurn, NoController, NoMemory, NoSuchUnit}
use Rattle.uda_c.specs.declared.call_status.CallStatus.TheVariants.{AlreadyAttached, NotAttached, BadLength, TooLarge}
use Rattle.uda_c.specs.declared.call_status.CallStatus.TheVariants.{NotEmpty, HasController, NoSuchBus, NoSuchType}
use Rattle.uda_c.specs.declared.call_status.CallStatus.TheVariants.{OtherVersion, BadState, OtherImages, BadFirstUnit, BadMap, OtherKind, Nowhere, Stale}
use Rattle.uda_c.specs.declared.call_status.CallStatus.TheVariants.{NeedsBlocks}

abbrev pub turn_code : Turn → ℕ
turn_code turn.Idle = 0
turn_code turn.Fetched = 1
turn_code turn.Executed = 2
turn_code turn.Delivered = 3
turn_code turn.Notified = 4
turn_code turn.Dead = 5

abbrev pub status_code : CallStatus → ℕ
status_code Done = 0
status_code (RanTurn turn) = turn_code turn
status_code NoController = 64
status_code NoMemory = 65
status_code NoSuchUnit = 66
status_code AlreadyAttached = 67
status_code NotAttached = 68
status_code BadLength = 69
status_code TooLarge = 70
status_code NotEmpty = 71
status_code HasController = 72
status_code NoSuchBus = 73
status_code NoSuchType = 74
status_code OtherVersion = 75
status_code BadState = 76
status_code OtherImages = 77
status_code BadFirstUnit = 78
status_code BadMap = 79
status_code OtherKind = 80
status_code Nowhere = 81
status_code Stale = 82
status_code NeedsBlocks = 83
