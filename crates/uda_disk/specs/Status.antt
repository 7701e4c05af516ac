-- The status words of end messages: the major status in bits 4-0, the subcode above.
-- MSCP Basic Disk Functions Manual: status and event codes.
use Rattle.std.specs.Prelude.{ℕ, ◌==◌, List, codes, if◌then◌else◌}

-- the command succeeded
abbrev pub SUCCESS : ℕ
SUCCESS = 0x0000

-- the unit of an Online was already online
abbrev pub ALREADY_ONLINE : ℕ
ALREADY_ONLINE = 0x0100

-- MSCP: Abort
abbrev pub ABORTED : ℕ
ABORTED = 0x0002

-- invalid command: its length, its opcode, its modifiers, its version
abbrev pub INVALID_LENGTH : ℕ
INVALID_LENGTH = 0x0001

abbrev pub INVALID_OPCODE : ℕ
INVALID_OPCODE = 0x0801

abbrev pub INVALID_MODIFIERS : ℕ
INVALID_MODIFIERS = 0x0A01

abbrev pub INVALID_VERSION : ℕ
INVALID_VERSION = 0x0C01

-- invalid command: its byte count, its first block
abbrev pub INVALID_COUNT : ℕ
INVALID_COUNT = 0x0C01

abbrev pub INVALID_BLOCK : ℕ
INVALID_BLOCK = 0x1C01

-- unit offline: there is no unit of this number, or it has no volume
abbrev pub UNIT_UNKNOWN : ℕ
UNIT_UNKNOWN = 0x0003

abbrev pub NO_VOLUME : ℕ
NO_VOLUME = 0x0023

-- unit available
abbrev pub AVAILABLE : ℕ
AVAILABLE = 0x0004

-- write protected: by hardware, by software
abbrev pub HARDWARE_PROTECTED : ℕ
HARDWARE_PROTECTED = 0x2006

abbrev pub SOFTWARE_PROTECTED : ℕ
SOFTWARE_PROTECTED = 0x1006

-- compare error: the host's buffer differs from the unit's blocks
abbrev pub COMPARE_ERROR : ℕ
COMPARE_ERROR = 0x0007

-- host buffer access: an odd address, an odd byte count, nonexistent memory
abbrev pub ODD_ADDRESS : ℕ
ODD_ADDRESS = 0x0029

abbrev pub ODD_COUNT : ℕ
ODD_COUNT = 0x0049

abbrev pub NO_SUCH_MEMORY : ℕ
NO_SUCH_MEMORY = 0x0069

-- drive error
abbrev pub DRIVE_ERROR : ℕ
DRIVE_ERROR = 0x000B

-- the name of a status word
unfoldable pub status_name : ℕ → List ℕ
status_name word =
    if word == SUCCESS then codes "success"
    else if word == ALREADY_ONLINE then codes "already online"
    else if word == ABORTED then codes "aborted"
    else if word == INVALID_LENGTH then codes "invalid length"
    else if word == INVALID_OPCODE then codes "invalid opcode"
    else if word == INVALID_MODIFIERS then codes "invalid modifiers"
    else if word == INVALID_COUNT then codes "invalid byte count or version"
    else if word == INVALID_BLOCK then codes "invalid block number"
    else if word == UNIT_UNKNOWN then codes "unit unknown"
    else if word == NO_VOLUME then codes "no volume"
    else if word == AVAILABLE then codes "available"
    else if word == HARDWARE_PROTECTED then codes "hardware write protected"
    else if word == SOFTWARE_PROTECTED then codes "software write protected"
    else if word == COMPARE_ERROR then codes "compare error"
    else if word == ODD_ADDRESS then codes "odd buffer address"
    else if word == ODD_COUNT then codes "odd byte count"
    else if word == NO_SUCH_MEMORY then codes "no such memory"
    else if word == DRIVE_ERROR then codes "drive error"
    else codes "unknown status"
